use Rattle.std.proofs.Common.{◌≡◌, ℕ, map}
use Rattle.mixed_model.specs.Models.{mixed_matrix_of}
use Rattle.value_list_laws.specs.ValueLists.{IsFirstList}
use Rattle.value_lists.specs.Listing.{IsListedAndFixed}
use Rattle.value_lists.proofs.values.list_rows.Given as goal

abbrev pub invariant-loop-i : goal.invariant-loop-i
invariant-loop-i g l = (l.held.model.equations ≡ l.model.equations) × (l.held.model.unknowns ≡ l.model.unknowns)
    × ((v : ℕ → ℕ → ℕ) → IsFirstList g.F.Field.modulus (mixed_matrix_of l.model) v →
    IsListedAndFixed g.F.Field.modulus (mixed_matrix_of l.model) v l.i 0 l.held.model (map g.F.Field.number l.values.items))
