use Rattle.std.proofs.Common.{ℕ, ◌∙◌, ap, sym, arith}
use Rattle.residue_theory.specs.Sets.{has}
use Rattle.sparse_t.proofs.ListLaws.{has-searched, has-none}
use Rattle.sparse_t.proofs.lists.holds.Goals as goal

pub returns-in-Ok : goal.returns-in-Ok
returns-in-Ok c = c.is_ok.ensures.value
    ∙ (has-searched c.args.list.now c.in-Ok.number c.binary_search.result c.requires c.binary_search.ensures.position
    ∙ ap (λ (n : ℕ). has c.args.list.now n) c.in-Ok.ensures.1)

pub returns-in-Err : goal.returns-in-Err
returns-in-Err c = sym (has-none c.args.list.now c.args.number (λ k l q. c.in-Err.ensures (omega (arith, c.type_inv.list k))))
