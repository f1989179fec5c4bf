-- Canonical parts list columns and blocks that are there, and an order is about the model that its line names.
use Rattle.std.proofs.Common.{◌≡◌, ℕ, ◌<◌, ◌≤◌, List, [], ◌∷◌, ◌++◌, length, map, Some, codes, refl, sym, ap, subst, ◌∙◌, arith}
use Rattle.std.specs.List.{All}
use Rattle.std.proofs.lemmas.List.{length-map}
use Rattle.std.proofs.lemmas.List.Elements.{All-cons, All-from_get_or, All-head, All-nil, All-tail, All-weaker}
use Rattle.limits.specs.Limits.{column_limit}
use Rattle.ccf_builder.specs.Canonical.{AreCanonicalLists, listed_columns, listed_parts, lower_list}
use Rattle.ccf_builder.specs.declared.canonical.Block.{Block}
use Rattle.ccf_builder.specs.declared.canonical.Parts.{Parts}
use Rattle.edit_desk.specs.Desks.{IsAsked, NamesModel, desk_limit, model_at}
use Rattle.edit_desk.proofs.DeskLaws.{one-width}
use Rattle.mixed_layering.specs.Layers.{AreLayersOf}
use Rattle.mixed_matrices.specs.LayeredMatrices.{LayeredMatrix}
use Rattle.mixed_model.specs.Layers.{Layers, layered_matrix_of}
use Rattle.mixed_model.specs.Models.{MixedModel}
use Rattle.model_edits.specs.Commands.{model_named}
use Rattle.model_edits.specs.Orders.{IsSaidOrder, task_words}
use Rattle.model_edits.specs.declared.order.Order.{Order}
use Rattle.model_edits.specs.declared.order.Task.{Task}
use Rattle.model_edits.specs.declared.order.Task.TheVariants.{Ask, Change}
use Rattle.text_lengths.proofs.TextLengths.{blocks-few}
use Rattle.desk_texts.specs.Ranges.{ArePartsIn}

unmapped : {X Y : Type 0} (P : Y → Type 0) (f : X → Y) (xs : List X) → All P (map f xs) → All (λ x. P (f x)) xs
unmapped P f [] all = All-nil (λ x. P (f x))
unmapped P f (x ∷ xs) all =
    All-cons (λ y. P (f y)) x xs (All-head P (f x) (map f xs) all) (unmapped P f xs (All-tail P (f x) (map f xs) all))

all-left : {X : Type 0} (P : X → Type 0) (xs ys : List X) → All P (xs ++ ys) → All P xs
all-left P [] ys all = All-nil P
all-left P (x ∷ xs) ys all = All-cons P x xs (All-head P x (xs ++ ys) all) (all-left P xs ys (All-tail P x (xs ++ ys) all))

all-right : {X : Type 0} (P : X → Type 0) (xs ys : List X) → All P (xs ++ ys) → All P ys
all-right P [] ys all = all
all-right P (x ∷ xs) ys all = all-right P xs ys (All-tail P x (xs ++ ys) all)

module _ (p : ℕ) (L : LayeredMatrix) (v : Parts) (are : AreCanonicalLists p L v) (few : L.columns ≤ column_limit) where
  abbrev Below : List ℕ → Type 0
  Below list = All (λ x. x < L.columns) list

  abbrev Small : List ℕ → Type 0
  Small list = All (λ k. k < column_limit) list

  lists : All Below (listed_columns v)
  lists = All-from_get_or Below (listed_columns v) [] (λ k kl. (are.rising k).below)

  behind : All Below (map (λ (block : Block). block.columns) v.blocks.items ++ v.last ∷ [])
  behind = All-tail Below v.first (map (λ (block : Block). block.columns) v.blocks.items ++ v.last ∷ []) lists

  columns-in : All (λ (block : Block). Below block.columns) v.blocks.items
  columns-in = unmapped Below (λ (block : Block). block.columns) v.blocks.items
      (all-left Below (map (λ (block : Block). block.columns) v.blocks.items) (v.last ∷ []) behind)

  lower-in : All (λ (block : Block). Small block.lower) v.blocks.items
  lower-in = unmapped Small (λ (block : Block). block.lower) v.blocks.items
      (All-from_get_or Small (map (λ (block : Block). block.lower) v.blocks.items) [] (λ k kl.
      let here : k < length v.blocks.items = omega (arith, length-map v.blocks.items (λ (block : Block). block.lower)) in
      let blocks : length v.blocks.items ≤ L.columns = blocks-few p L (listed_parts v) are.canonical in
      All-weaker (λ l. l < k) (λ l. l < column_limit) (λ l low. omega arith) (lower_list v k) (are.lower_rising k).below))

  -- their columns and blocks are there
  pub parts-in : ArePartsIn L.columns v
  parts-in = record {
    first = All-head Below v.first (map (λ (block : Block). block.columns) v.blocks.items ++ v.last ∷ []) lists;
    blocks = λ k d kl. record { columns = columns-in k d kl; lower = lower-in k d kl };
    last = All-head Below v.last [] (all-right Below (map (λ (block : Block). block.columns) v.blocks.items) (v.last ∷ []) behind);
  }

abbrev second : List (List ℕ) → List ℕ
second [] = []
second (word ∷ []) = []
second (word ∷ number ∷ words) = number

task-second : (task : Task) (number : List ℕ) → second (task_words task number) ≡ number
task-second Ask number = refl
task-second (Change edit) number = refl

-- an order is about the model that its line names
pub order-names : (count : ℕ) (line : List ℕ) (k : ℕ) (word : List ℕ) (words : List (List ℕ)) (order : Order) →
    NamesModel count line k word words → IsSaidOrder count line order → order.model ≡ k
order-names count line k word words order names is =
    let says = is.says in
    let same : names.number ≡ says.number = ap second (sym names.words_are ∙ says.words_are) ∙ task-second order.task says.number in
    let both : Some k ≡ Some order.model = sym names.named ∙ ap (model_named count) same ∙ says.named in
    cc

-- what is told of a model lies in any layered matrix of it
pub told-in : (p : ℕ) (models : List MixedModel) (line : List ℕ) (rank : ℕ) (parts : Parts) (order : Order) (layers : Layers) →
    length models ≡ desk_limit → IsAsked p models line rank parts → IsSaidOrder desk_limit line order →
    AreLayersOf (model_at models order.model) layers → layers.q.width ≤ column_limit → ArePartsIn layers.q.width parts
told-in p models line rank parts order layers count asked is are narrow =
    let told = asked.told in
    let names : NamesModel desk_limit line asked.model (codes "ask") [] =
    subst (λ n. NamesModel n line asked.model (codes "ask") []) count asked.names in
    let same : order.model ≡ asked.model = order-names desk_limit line asked.model (codes "ask") [] order names is in
    let width : told.layers.q.width ≡ layers.q.width = one-width (model_at models asked.model) told.layers layers told.layered
    (subst (λ k. AreLayersOf (model_at models k) layers) same are) in
    subst (λ n. ArePartsIn n parts) width
    (parts-in p (layered_matrix_of told.layers) parts told.parts_are (omega (arith, width, narrow)))
