-- What several models on one desk have to do with one another.
use Rattle.std.specs.Prelude.{ℕ, ◌≡◌, ◌<◌, List, map}
use Rattle.std.specs.List.{AllZip}
use Rattle.residue_theory.specs.Residues.{IsPrime}
use Rattle.mixed_model.specs.Models.{MixedModel}
use Rattle.ccf_builder.specs.declared.canonical.Parts.{Parts}
use Rattle.edit_desk.specs.Desks.{IsToldOfModel, empty_models, model_at}
use Rattle.edit_desk.specs.Dialogues.{IsDialogue, IsSameReply, Turn, turns_of}

-- the lines that name model k, without all others, lead that model to where it is, with the same replies
abbrev pub OwnCommandsAreADialogue : Type 0
OwnCommandsAreADialogue =
    (p count k : ℕ) (turns : List Turn) (models : List MixedModel) → k < count →
    IsDialogue p (empty_models count) turns models →
    (own : List MixedModel) × IsDialogue p (empty_models count) (turns_of count k turns) own
    × (model_at own k ≡ model_at models k)

-- the same lines have the same replies, and lead to the same models
abbrev pub LinesHaveOneDialogue : Type 0
LinesHaveOneDialogue =
    (p count : ℕ) (turns others : List Turn) (models other_models : List MixedModel) → IsPrime p →
    map (λ turn. turn.line) others ≡ map (λ turn. turn.line) turns →
    IsDialogue p (empty_models count) turns models → IsDialogue p (empty_models count) others other_models →
    AllZip (λ turn other. IsSameReply turn.reply other.reply) turns others × (other_models ≡ models)

-- So the replies to the commands of one model are those that the same commands have on a desk where no other model is
-- named, whatever commands of others come between.
abbrev pub OtherModelsDoNotMatter : Type 0
OtherModelsDoNotMatter =
    (p count k : ℕ) (turns alone : List Turn) (models own : List MixedModel) → IsPrime p → k < count →
    IsDialogue p (empty_models count) turns models → IsDialogue p (empty_models count) alone own →
    map (λ turn. turn.line) alone ≡ map (λ turn. turn.line) (turns_of count k turns) →
    AllZip (λ turn other. IsSameReply turn.reply other.reply) (turns_of count k turns) alone
    × (model_at own k ≡ model_at models k)

-- a model has one rank and one list of canonical parts: whoever tells of it so tells the same
abbrev pub OneThingIsTold : Type 0
OneThingIsTold =
    (p : ℕ) (model : MixedModel) (rank other : ℕ) (parts others : Parts) → IsPrime p →
    IsToldOfModel p model rank parts → IsToldOfModel p model other others →
    (other ≡ rank) × (others.first ≡ parts.first) × (others.blocks.items ≡ parts.blocks.items)
    × (others.last ≡ parts.last)
