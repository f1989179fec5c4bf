use Rattle.std.proofs.Common.{List, ℕ, get_or, length, subst, sym}
use Rattle.std.specs.List.{All}
use Rattle.residue_theory.specs.Sets.{everything, has}
use Rattle.mixed_model.specs.Models.{mixed_matrix_of}
use Rattle.cert_text.specs.Ranges.{AreRising, IsCcf}
use Rattle.equation_matroid_laws.specs.GreedyChoices.{IsCheapestRepair, IsGreedyChoice, by_cost, outside}
use Rattle.repair_checker.specs.declared.repair.Level.{Level}
use Rattle.cheapest_repairs.proofs.repairing.cheapest_repair.Goals as goal

pub returns : goal.returns
returns g c =
    let p = g.F.Field.modulus in
    let M = mixed_matrix_of c.args.model.now in
    let cost : ℕ → ℕ = λ e. get_or c.args.costs.now e 0 in
    let same = sym c.in_ok-repair.ensures.kept in
    record {
      kept = record {
        choice = subst (λ (list : List ℕ). IsGreedyChoice p M (by_cost cost) everything (has list)) same c.in_ok-kept.ensures.kept;
        rising = subst (AreRising (length c.args.model.now.equations)) same
            (record { rising = c.in_ok-kept.ensures.rising; below = c.in_ok-kept.ensures.below });
      };
      cheapest = subst (λ (list : List ℕ). IsCheapestRepair p M cost (outside (has list))) same c.in_ok-kept.ensures.repair;
      rules = c.in_ok-repair.ensures.rules;
      forms = (
        c.is_in_form.ensures,
        subst (All (λ (level : Level g.row.F.Denot). IsCcf p level.ccf)) c.as_slice.ensures c.are_in_form.ensures,
      );
    }
