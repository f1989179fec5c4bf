use Rattle.row_choice_laws.proofs.ReachedRows.{reached-surplus, surplus-reached, surplus-used, used-surplus}
use Rattle.row_choice_laws.proofs.row_laws.reached_rows_tell_surplus_equations.Goals as goal

pub returns : goal.returns
returns c p prime big M A D L O lay S U F tab K W on reach = record {
  by_t = λ d dl k. (
    surplus-reached p prime M A D L O lay S U F tab K W on reach big d dl k,
    reached-surplus p prime M A D L O lay S U F tab K W on reach big d dl k,
  );
  by_q = λ e el k no_t. (
    surplus-used p prime M A D L O lay S U F tab K W on reach big e el k no_t,
    used-surplus p prime M A D L O lay S U F tab K W on reach big e el k no_t,
  );
}
