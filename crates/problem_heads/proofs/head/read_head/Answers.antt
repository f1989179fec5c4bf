use Rattle.std.proofs.Common.{◌≡◌, Bool, true, false, not, refl, sym, subst, inr, ◌∙◌}
use Rattle.line_reader.specs.LineRules.{KeepsAll}
use Rattle.problem_heads.specs.HeadRules.{head_rules}
use Rattle.problem_heads.proofs.HeadSteps.{head-taken}
use Rattle.problem_heads.proofs.head.read_head.Goals as goal

not_true : (b : Bool) → not b ≡ true → b ≡ false
not_true true e = absurd cc
not_true false e = refl

pub returns-then-not-cut-clause-refused : goal.returns-then-not-cut-clause-refused
returns-then-not-cut-clause-refused g c =
    inr (
      refl,
      subst (λ head. KeepsAll (head_rules g.F.Field.modulus c.args.form) head)
          (head-taken c.args.text.now c.cut_head-cut.result.start c.cut_head-cut.ensures.start) c.in_ok-given.ensures.kept,
      sym c.cut_head-cut.ensures.model ∙ not_true c.cut_head-cut.result.has_model c.if-not-cut.true,
    )
