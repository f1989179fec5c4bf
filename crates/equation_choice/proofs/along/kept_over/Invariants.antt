use Rattle.std.proofs.Common.{◌≡◌, ℕ, Bool, length}
use Rattle.mixed_layering.specs.Layers.{AreLayersOf}
use Rattle.mixed_model.specs.Models.{MixedModel}
use Rattle.equation_choice.specs.Choices.{IsAlong}
use Rattle.equation_choice.specs.Choosers.{IsReadyChooser}
use Rattle.equation_choice.proofs.Choosing.{HasChosen}
use Rattle.equation_choice.proofs.along.kept_over.Given as goal

abbrev pub invariant-loop-equation : goal.invariant-loop-equation
invariant-loop-equation g l =
    let S = g.T.Tableau.state l.chooser.pair.tableau in
    record {
      ready : IsReadyChooser g.F.Field.modulus l.layered S l.chooser.pair.mates l.chooser.search l.chooser.starts.items l.chooser.free.items;
      count : length l.kept.items ≡ l.n;
      chosen : (model : MixedModel) (of : AreLayersOf model l.layered) (before : ℕ → ℕ → Bool) → length model.equations ≡ l.n →
          IsAlong l.n before l.order →
          HasChosen g.F.Field.modulus model l.layered of.split S l.chooser.pair.mates before l.order l.equation-index l.kept.items;
    }
