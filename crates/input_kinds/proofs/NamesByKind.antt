-- How many names a model has, by the kind of its text.
use Rattle.std.proofs.Common.{ℕ, ◌≤◌, List, [], length, ap, arith}
use Rattle.mixed_model.specs.Models.{MixedModel, IsModel}
use Rattle.matrix_reader.proofs.NameCounts.{list-names-few}
use Rattle.netlist_reader.proofs.DeviceCounts.{netlist-names-few}
use Rattle.flowsheet_reader.proofs.ModelLaws.{nothing-given}
use Rattle.cert_text.specs.declared.kind.Kind.{Kind}
use Rattle.cert_text.specs.declared.kind.Kind.TheVariants.{Flowsheet, Matrix, Netlist}
use Rattle.input_kinds.specs.Kinds.{GivesModel}
use Rattle.input_kinds.specs.NameCounts.{names_within}

-- a model has no more names than its kind and its input's bytes allow
pub few-names : (p : ℕ) (kind : Kind) (input : List ℕ) (model : MixedModel) → GivesModel p kind input model →
    (length model.equations ≤ names_within kind (length input)) × (length model.unknowns ≤ names_within kind (length input))
few-names p Matrix input model gives = list-names-few p input model gives
few-names p Netlist input model gives = netlist-names-few p input model gives
few-names p Flowsheet input model gives = let is : IsModel p model = (gives.given).is_model in ((is.equations).few, (is.unknowns).few)

-- an empty input names nothing
pub no-names : (p : ℕ) (kind : Kind) (model : MixedModel) → GivesModel p kind [] model → (length model.equations ≤ 0) × (length model.unknowns ≤ 0)
no-names p Matrix model gives = few-names p Matrix [] model gives
no-names p Netlist model gives = few-names p Netlist [] model gives
no-names p Flowsheet model gives = let none = nothing-given p model gives in (omega (arith, ap length none.0), omega (arith, ap length none.1))
