use Rattle.std.proofs.Common.{◌≡◌, ◌≢◌, ◌+◌, ◌<◌, ◌≤◌, ℕ, true, inl, inr, sym, subst, ◌∙◌, arith}
use Rattle.residue_theory.proofs.SumLaws.{nat_cases}
use Rattle.residue_theory.proofs.SetLaws.{differ}
use Rattle.exchange_graph.proofs.ItemLaws.{mark_read}
use Rattle.bit_table.specs.Bits.{bit_in}
use Rattle.minimiser_lattice.specs.Components.{component_number, component_places}
use Rattle.minimiser_lattice.specs.Standings.{standing_in}
use Rattle.minimiser_lattice.specs.Ready.{AreApartIn, held_of}
use Rattle.minimiser_lattice.specs.declared.ready.Ready.{Ready}
use Rattle.minimiser_lattice.proofs.ReadyLaws.{apart-excuse, apart-settled, order_cases, settled-row}
use Rattle.minimiser_lattice.proofs.ready.Ready.release.Goals as goal
use Rattle.minimiser_lattice.proofs.ready.Ready.release.Goals.{then-index, else-index}

pub loop-k-preserved : goal.loop-k-preserved
loop-k-preserved c =
    let cs = c.args.components.now in
    let standing = standing_in c.args.standing.now in
    let I = c.loop-k.invariant in
    let L = c.in-Some.ensures.least in
    let k = c.in-Some.k in
    let s = c.loop-k.self in
    let from = c.loop-k.from in
    let n = component_places cs in
    let l = c.args.l in
    let old = bit_in c.args.self.now.waits in
    let kl : k < cs.count = L.before_end in
    let held = mark_read s.held.items k c.index.result.now
    (omega (arith, I.apart.room.held, kl, c.requires.numbering.fits)) c.index.ensures in
    let next : (j : ℕ) → j ≢ k → (from ≤ j) × (old l j ≡ true) → (k + 1 ≤ j) × (old l j ≡ true) =
    λ j ne e. elim (order_cases j k ne) [
      | inl before ↦ absurd (differ (L.none_before j e.0 before)
          (I.row j (omega (arith, before, kl, c.requires.numbering.fits)) ∙ e.1))
      | inr after ↦ (omega (arith, after), e.1)
    ] in
    let P : Ready → Type 0 = λ v. record {
      apart : AreApartIn cs standing (λ j. (k + 1 ≤ j) × (old l j ≡ true)) v;
      row : (j : ℕ) → j < n → bit_in v.waits l j ≡ old l j;
    } in
    elim c.if-index.branch [
      | then-index w ↦ subst P (sym w.self-is) (record {
        apart = apart-settled (component_number cs) (bit_in cs.strict) standing n cs.count
            (λ j. (from ≤ j) × (old l j ≡ true)) (λ j. (k + 1 ≤ j) × (old l j ≡ true)) s w.settle.new.self I.apart k (l + 1)
            kl c.requires.numbering.fits (held ∙ w.if-index.true)
            w.settle.ensures.room w.settle.ensures.least next w.settle.ensures.settled;
        row = λ j jl. settled-row (bit_in cs.strict) standing n k (l + 1) s w.settle.new.self w.settle.ensures.settled l j
            (omega arith) jl ∙ I.row j jl;
      })
      | else-index w ↦ subst P (sym w.self-is) (record {
        apart = apart-excuse (component_number cs) (bit_in cs.strict) standing n cs.count
            (λ j. (from ≤ j) × (old l j ≡ true)) (λ j. (k + 1 ≤ j) × (old l j ≡ true)) s I.apart
            (λ j jl v h e. elim (nat_cases j k) [
              | inl q ↦ absurd (differ (held ∙ w.if-index.false) (subst (λ i. held_of s i ≡ true) q h))
              | inr ne ↦ next j ne e
            ]);
        row = I.row;
      })
    ]
