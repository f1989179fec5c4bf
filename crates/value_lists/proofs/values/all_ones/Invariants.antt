use Rattle.std.proofs.Common.{◌≡◌, ℕ, map}
use Rattle.mixed_model.specs.Models.{mixed_matrix_of}
use Rattle.value_list_laws.specs.FixedSymbols.{IsSymbolPlace}
use Rattle.value_lists.specs.Listing.{IsListedTo}
use Rattle.value_lists.proofs.values.all_ones.Given as goal

abbrev pub invariant-loop-i : goal.invariant-loop-i
invariant-loop-i g l = (v : ℕ → ℕ → ℕ) → ((a b : ℕ) → IsSymbolPlace (mixed_matrix_of l.model) a b → v a b ≡ 1) →
    IsListedTo (mixed_matrix_of l.model) v l.i 0 (map g.F.Field.number l.values.items)
