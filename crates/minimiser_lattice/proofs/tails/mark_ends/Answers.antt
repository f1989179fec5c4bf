use Rattle.std.proofs.Common.{◌≡◌, inl, inr, true, false, ◌∙◌, sym, subst, arith}
use Rattle.residue_theory.proofs.SumLaws.{nat_cases}
use Rattle.closed_sets.proofs.SetLaws.{test_cases}
use Rattle.exchange_graph.specs.Marks.{members_of}
use Rattle.bit_table.specs.Bits.{bit_in}
use Rattle.minimiser_lattice.specs.Components.{component_number, component_places}
use Rattle.minimiser_lattice.proofs.TailLaws.{end-none, end-through}
use Rattle.minimiser_lattice.proofs.tails.mark_ends.Goals as goal

pub loop-k-preserved : goal.loop-k-preserved
loop-k-preserved c =
    let cs = c.args.components.now in
    let N = c.requires.numbering in
    let I = c.loop-k.invariant in
    let E = c.mark_above.ensures in
    let ends = members_of c.args.ends.now in
    let before = members_of c.loop-k.marks in
    let now = members_of c.mark_above.new.marks in
    record {
      count = E.length ∙ I.count;
      some = λ k l h. elim (nat_cases k c.loop-k.k) [
        | inl q ↦ elim (E.some (subst (λ v. now v ≡ true) q h)) [
          | inl old ↦ I.some k l (subst (λ v. before v ≡ true) (sym q) old)
          | inr m ↦ end-through (component_places cs) (component_number cs) cs.count (bit_in cs.strict) N ends k m.0 l
              (omega (arith, m.1)) (subst (λ v. bit_in cs.strict v m.0 ≡ true) (sym q) m.2)
              (I.some m.0 (omega (arith, m.1, l)) m.3)
        ]
        | inr ne ↦ I.some k l (sym (E.others k ne) ∙ h)
      ];
      own = λ x xl e. E.kept (component_number cs x) (I.own x xl e);
      made = λ k x less xl e h. elim (nat_cases k c.loop-k.k) [
        | inl q ↦ elim (test_cases (now k)) [
          | inl m ↦ m
          | inr f ↦ E.kept k (end-none (component_places cs) (component_number cs) cs.count (bit_in cs.strict) N ends before k x
              (omega (arith, c.loop-k-test.true)) xl e I.own
              (λ l ll s. E.none (subst (λ v. now v ≡ false) q f) l (omega (arith, ll))
              (subst (λ v. bit_in cs.strict v l ≡ true) q s)) h)
        ]
        | inr ne ↦ E.kept k (I.made k x (omega arith) xl e h)
      ];
    }
