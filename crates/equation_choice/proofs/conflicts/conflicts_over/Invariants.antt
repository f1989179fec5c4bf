use Rattle.std.proofs.Common.{◌≡◌, ◌<◌, ℕ, length, map}
use Rattle.mixed_layering.specs.Layers.{AreLayersOf}
use Rattle.mixed_matrices.specs.Layerings.{has_symbol}
use Rattle.mixed_model.specs.Models.{MixedModel, mixed_matrix_of}
use Rattle.exchange_graph.specs.Marks.{members_of}
use Rattle.equation_choice.specs.Choosers.{IsReadyChooser}
use Rattle.equation_choice.proofs.Refused.{HasGoneOver}
use Rattle.equation_choice.proofs.conflicts.conflicts_over.Given as goal

abbrev pub invariant-loop-equation : goal.invariant-loop-equation
invariant-loop-equation g l =
    let S = g.T.Tableau.state l.chooser.pair.tableau in
    record {
      ready : IsReadyChooser g.F.Field.modulus l.layered S l.chooser.pair.mates l.chooser.search l.chooser.starts.items l.chooser.free.items;
      count : length l.told.items ≡ l.n;
      gone : (model : MixedModel) (of : AreLayersOf model l.layered) → length model.equations ≡ l.n →
          ((x : ℕ) → x < l.n → members_of l.symbols x ≡ has_symbol (mixed_matrix_of model) x) →
          HasGoneOver g.F.Field.modulus model l.layered of.split S l.chooser.pair.mates l.equation (map (λ set. set.items) l.sets.items);
    }
