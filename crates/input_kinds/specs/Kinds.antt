-- What a text of a kind gives, over the field of p elements.
use Rattle.std.specs.Prelude.{ℕ, List}
use Rattle.refusals.specs.declared.ReadModel.{ReadModel}
use Rattle.refusals.specs.declared.ReadModel.TheVariants.{Refused as Refusal, NoMemory}
use Rattle.refusals.specs.declared.Refused.{Refused}
use Rattle.mixed_model.specs.Models.{MixedModel}
use Rattle.matrix_reader.specs.Models.{GivesModel as ListGives, IsRefusal as IsListRefusal}
use Rattle.netlist_reader.specs.Models.{GivesModel as NetlistGives, IsRefusal as IsNetlistRefusal}
use Rattle.flowsheet_reader.specs.Models.{GivesModel as FlowsheetGives, IsRefusal as IsFlowsheetRefusal}
use Rattle.cert_text.specs.declared.kind.Kind.{Kind}
use Rattle.cert_text.specs.declared.kind.Kind.TheVariants.{Flowsheet, Matrix, Netlist}

-- a text of this kind keeps each rule and gives a model
abbrev pub GivesModel : ℕ → Kind → List ℕ → MixedModel → Type 0
GivesModel p Matrix text model = ListGives p text model
GivesModel p Netlist text model = NetlistGives p text model
GivesModel p Flowsheet text model = FlowsheetGives p text model

-- the refusal holds the first rule that a text of this kind breaks, and its place
abbrev pub IsRefused : ℕ → Kind → List ℕ → Refused → Type 0
IsRefused p Matrix text refused = IsListRefusal p text (Refusal refused)
IsRefused p Netlist text refused = IsNetlistRefusal p text (Refusal refused)
IsRefused p Flowsheet text refused = IsFlowsheetRefusal p text (Refusal refused)

-- why a text of this kind gives no model: its refusal, or memory ran out
abbrev pub IsWhyUnread : ℕ → Kind → List ℕ → ReadModel → Type 0
IsWhyUnread p kind text (Refusal refused) = IsRefused p kind text refused
IsWhyUnread p kind text NoMemory = Unit {0}
