use Rattle.std.proofs.Common.{◌≡◌, ◌+◌, ◌<◌, ◌≤◌, ℕ, true, inl, inr, sym, subst, ◌∙◌, arith}
use Rattle.residue_theory.proofs.SumLaws.{nat_cases}
use Rattle.residue_theory.proofs.SetLaws.{differ}
use Rattle.bit_table.specs.Bits.{bit_in}
use Rattle.minimiser_lattice.specs.Components.{component_number, component_places}
use Rattle.minimiser_lattice.specs.Standings.{IsWaiting, standing_in}
use Rattle.minimiser_lattice.specs.Ready.{AreApartIn, held_of}
use Rattle.minimiser_lattice.specs.declared.ready.Ready.{Ready}
use Rattle.minimiser_lattice.proofs.ReadyLaws.{apart-excuse, apart-settled, settled-others}
use Rattle.minimiser_lattice.proofs.ready.Ready.begin.Goals as goal
use Rattle.minimiser_lattice.proofs.ready.Ready.begin.Goals.{then-is_waiting, else-is_waiting}

pub loop-k-init : goal.loop-k-init
loop-k-init c = record {
  apart = c.clear.ensures.apart (standing_in c.args.standing.now);
  held = λ k _ l. c.clear.ensures.held k l;
}

pub loop-k-preserved : goal.loop-k-preserved
loop-k-preserved c =
    let cs = c.args.components.now in
    let standing = standing_in c.args.standing.now in
    let I = c.loop-k.invariant in
    let k = c.loop-k.k in
    let s = c.loop-k.self in
    let P : Ready → Type 0 = λ v. record {
      apart : AreApartIn cs standing (λ j. k + 1 ≤ j) v;
      held : (j : ℕ) → k + 1 ≤ j → j < component_places cs → held_of v j ≡ true;
    } in
    elim c.if-is_waiting.branch [
      | then-is_waiting w ↦ subst P (sym w.self-is) (record {
        apart = apart-settled (component_number cs) (bit_in cs.strict) standing (component_places cs) cs.count (λ j. k ≤ j)
            (λ j. k + 1 ≤ j) s w.settle.new.self I.apart k 0 c.loop-k-test.true c.requires.numbering.fits
            (I.held k (omega arith) (omega (arith, c.loop-k-test.true, c.requires.numbering.fits)))
            w.settle.ensures.room w.settle.ensures.least (λ j ne le. omega (arith, le, ne)) w.settle.ensures.settled;
        held = λ j le l.
            settled-others (bit_in cs.strict) standing (component_places cs) k 0 s w.settle.new.self w.settle.ensures.settled j
            (λ q. omega arith) ∙ I.held j (omega arith) l;
      })
      | else-is_waiting w ↦ subst P (sym w.self-is) (record {
        apart = apart-excuse (component_number cs) (bit_in cs.strict) standing (component_places cs) cs.count (λ j. k ≤ j)
            (λ j. k + 1 ≤ j) s I.apart (λ j l v h le. elim (nat_cases j k) [
              | inl q ↦ absurd (differ w.if-is_waiting.false (c.is_waiting.ensures.1 (subst (λ i. IsWaiting standing i) q v)))
              | inr ne ↦ omega (arith, le, ne)
            ]);
        held = λ j le l. I.held j (omega arith) l;
      })
    ]
