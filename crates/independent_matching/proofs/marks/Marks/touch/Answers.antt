use Rattle.std.proofs.Common.{◌≡◌, ◌+◌, ◌%◌, ◌∙◌, ℕ, inl, inr, eqb, not, false, sym, subst, ap, arith}
use Rattle.std.proofs.Math.Nat.{zero-mod}
use Rattle.std.proofs.lemmas.Bool.Decides.{nat_tests}
use Rattle.residue_theory.proofs.SumLaws.{nat_cases}
use Rattle.residue_theory.proofs.SetLaws.{lt_cases}
use Rattle.independent_matching.specs.Marks.{AreNoted, touched_at}
use Rattle.independent_matching.specs.declared.marks.Marks.{Marks}
use Rattle.independent_matching.proofs.marks.Marks.touch.Goals as goal

-- where no entry is told there is none
no_entry : (a p : ℕ) → not (eqb a 0) ≡ false → a % p ≡ 0
no_entry a p h = ap (λ v. v % p) zero ∙ zero-mod p
  where
    zero : a ≡ 0
    zero = grind (arith, nat_tests)

pub loop-entry-preserved : goal.loop-entry-preserved
loop-entry-preserved g c =
    let S = g.T.Tableau.state c.args.pair.now.tableau in
    let I = c.loop-entry.invariant in
    let s = c.loop-entry.self in
    let t = c.note.new.self in
    let E = c.note.ensures in
    let L = c.in-Some.ensures.least in
    let col = c.in-Some.entry.0 in
    record {
      noted = subst (AreNoted S.columns) (sym E.rest) (record {
        count = E.length ∙ I.noted.count;
        below = λ i l. elim (nat_cases i s.count) [
          | inl q ↦ omega (arith, ap (touched_at t) q, E.here, L.before_end)
          | inr ne ↦ omega (arith, E.others i ne, I.noted.below i (omega arith))
        ];
        few = omega (arith, I.few, L.from_on, L.before_end);
      });
      rest = E.rest ∙ ap (λ (m : Marks). record m { touched = t.touched; count = s.count + 1 }) I.rest
          ∙ ap (λ n. record c.args.self.now { touched = t.touched; count = n }) (sym (ap (λ (m : Marks). m.count) E.rest));
      within = omega (arith, L.before_end);
      few = omega (arith, I.few, L.from_on, ap (λ (m : Marks). m.count) E.rest);
      touched = λ y l some. elim (nat_cases y col) [
        | inl q ↦ (s.count, omega (arith, ap (λ (m : Marks). m.count) E.rest), E.here ∙ sym q)
        | inr ne ↦ elim (lt_cases y c.loop-entry.from) [
          | inl before ↦
              let i = I.touched y before some in
              (i.0, omega (arith, i.1, ap (λ (m : Marks). m.count) E.rest), E.others i.0 (λ e. omega (arith, i.1)) ∙ i.2)
          | inr after ↦ absurd (some (no_entry (S.p c.args.row y) g.F.Field.modulus (L.none_before y after (omega (arith, l, ne)))))
        ]
      ];
    }
