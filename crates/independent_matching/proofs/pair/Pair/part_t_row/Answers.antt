use Rattle.std.proofs.Common.{◌≡◌, ◌-◌, ℕ, Option, Some, None, IfSome, is_some, true, refl, sym, subst, ◌∙◌}
use Rattle.residue_theory.proofs.SetLaws.{differ}
use Rattle.bipartite_matching.specs.Matchings.{HasPair}
use Rattle.independent_matching.specs.Edits.{IsEdited}
use Rattle.independent_matching.proofs.EditLaws.{t-parted}
use Rattle.independent_matching.proofs.pair.Pair.part_t_row.Goals as goal

told : (o : Option ℕ) (P : ℕ → Type 0) → IfSome o P → is_some o ≡ true → (x : ℕ) × P x
told None P h e = absurd (differ refl e)
told (Some x) P h e = (x, h)

pub returns-then-is_some-clause-edited : goal.returns-then-is_some-clause-edited
returns-then-is_some-clause-edited g c L least E =
    let p = g.F.Field.modulus in
    let S = g.T.Tableau.state c.args.self.now.tableau in
    let M = c.args.self.now.mates in
    let matching = c.mate_of_row.ensures.matching in
    let mate = told c.mate_of_row.result (HasPair M c.args.row) c.mate_of_row.ensures.some (sym c.is_some.ensures ∙ c.if-is_some.true) in
    subst (λ m. IsEdited p L (least - 1) S m) (sym (c.unlink.ensures.pair mate.0 mate.1))
    (t-parted p L least S M matching mate.0 (matching.column c.args.row mate.0 mate.1) E)
