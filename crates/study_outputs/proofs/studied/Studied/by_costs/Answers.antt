use Rattle.std.proofs.Common.{List, ℕ, refl, subst, sym}
use Rattle.problem_heads.specs.HeadNumbers.{numbers_of_head}
use Rattle.problem_heads.specs.Problems.{IsRepairProblem}
use Rattle.problem_heads.specs.declared.form.Form.TheVariants as forms
use Rattle.cheapest_repairs.specs.ShownRepairs.{IsShownRepair}
use Rattle.study_outputs.proofs.studied.Studied.by_costs.Goals as goal

pub returns : goal.returns
returns g c = λ kind text gives.
    let p = g.F.Field.modulus in (
      refl,
      record {
        head = gives.head;
        gives = gives.model_is;
        problem = subst (λ (list : List ℕ). IsRepairProblem (numbers_of_head p forms.Repair text) c.args.model list) (sym c.from_vec.ensures)
            gives.problem_is.1;
        shown = subst (λ (list : List ℕ). IsShownRepair p c.args.model list c.in_ok-repair.repair) (sym c.from_vec.ensures)
            (subst (λ (list : List ℕ). IsShownRepair p c.args.model list c.in_ok-repair.repair) c.deref.ensures.value c.in_ok-repair.ensures);
      },
    )
