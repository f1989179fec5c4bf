-- In all layered matrices of a model its columns have the same names, and its parts the same text.
use Rattle.std.proofs.Common.{◌≡◌, ◌∙◌, ◌+◌, ◌-◌, ◌<◌, ℕ, List, [], ◌∷◌, ◌++◌, length, get_or, slice_index, codes, inl, inr, ap, sym, subst, refl, arith}
use Rattle.std.proofs.lemmas.List.{ext_get_or}
use Rattle.std.proofs.lemmas.List.Elements.{All-head, All-tail}
use Rattle.residue_theory.proofs.SetLaws.{lt_cases}
use Rattle.mixed_matrices.specs.Layerings.{gives_q, has_symbol}
use Rattle.mixed_model.specs.Models.{MixedModel, mixed_matrix_of}
use Rattle.mixed_model.specs.Layers.{Layers, layered_matrix_of}
use Rattle.mixed_model.specs.declared.origin.Origin.TheVariants.{Unknown, Split}
use Rattle.mixed_layering.specs.Layers.{AreLayersOf, origins_of}
use Rattle.certificate_laws.proofs.OneMatrix.{AreOneMatrix, are-one}
use Rattle.ccf_builder.specs.declared.canonical.Block.{Block}
use Rattle.ccf_builder.specs.declared.canonical.Parts.{Parts}
use Rattle.answer_texts.specs.LayerTexts.{column_name}
use Rattle.answer_texts.proofs.LayerPieces.{got_or}
use Rattle.text_writer.specs.Numbers.{spaced}
use Rattle.desk_texts.specs.Texts.{lower_blocks_text, name_text, names_text, number_line, reply_block_line, reply_block_lines}
use Rattle.desk_texts.specs.Texts.{reply_parts_text, reply_tail_line}
use Rattle.desk_text_laws.proofs.ListedColumns.{AreBelow, AreBlocksBelow, HasColumnsBelow}

-- what is told of a model, by its lists
abbrev pub told_text : MixedModel → Layers → ℕ → List ℕ → List Block → List ℕ → List ℕ
told_text model layers rank first blocks last =
    number_line (codes "rank") rank ++ reply_tail_line (codes "first") model layers first
    ++ reply_block_lines model layers 1 blocks ++ reply_tail_line (codes "last") model layers last ++ codes "end\n"

module _ (model : MixedModel) (layers others : Layers) (are : AreLayersOf model layers) (them : AreLayersOf model others) where
  same : AreOneMatrix (layered_matrix_of layers) (layered_matrix_of others) (origins_of layers are.split) (origins_of others them.split)
  same = are-one (mixed_matrix_of model) (gives_q (mixed_matrix_of model)) (has_symbol (mixed_matrix_of model))
      (layered_matrix_of layers) (layered_matrix_of others)
      (origins_of layers are.split) (origins_of others them.split) are.layered them.layered

  splits : are.split ≡ them.split
  splits = ext_get_or 0 are.split them.split same.split same.of_z

  -- a column comes from its unknown or its split equation
  column-one : (j : ℕ) → j < layers.q.width → get_or others.column_origins j (Unknown 0) ≡ get_or layers.column_origins j (Unknown 0)
  column-one j jl = elim (lt_cases j (length model.unknowns)) [
    | inl unknown ↦ got_or others.column_origins j (Unknown 0) (Unknown j) (them.unknowns j unknown)
        ∙ sym (got_or layers.column_origins j (Unknown 0) (Unknown j) (are.unknowns j unknown))
    | inr auxiliary ↦
        let k : ℕ = j - length model.unknowns in
        let low : k < length are.split = omega (arith, (are.layered).columns, auxiliary, jl) in
        let lower : k < length them.split = omega (arith, low, ap length splits) in
        let place : length model.unknowns + k ≡ j = omega (arith, auxiliary) in
        subst (λ c. get_or others.column_origins c (Unknown 0) ≡ get_or layers.column_origins c (Unknown 0)) place
        (got_or others.column_origins (length model.unknowns + k) (Unknown 0) (Split (slice_index them.split k)) (them.auxiliary k lower)
        ∙ ap (λ split. Split (slice_index split k)) (sym splits)
        ∙ sym (got_or layers.column_origins (length model.unknowns + k) (Unknown 0) (Split (slice_index are.split k)) (are.auxiliary k low)))
  ]

  names-one : (columns : List ℕ) → AreBelow layers.q.width columns → names_text model others columns ≡ names_text model layers columns
  names-one [] below = refl
  names-one (x ∷ xs) below =
      ap (λ origin. (codes " " ++ column_name model origin) ++ names_text model others xs)
      (column-one x (All-head (λ x. x < layers.q.width) x xs below))
      ∙ ap (λ names. name_text model layers x ++ names) (names-one xs (All-tail (λ x. x < layers.q.width) x xs below))

  tail-one : (word columns : List ℕ) → AreBelow layers.q.width columns →
      reply_tail_line word model others columns ≡ reply_tail_line word model layers columns
  tail-one word columns below = ap (λ names. word ++ names ++ codes "\n") (names-one columns below)

  block-one : (number : ℕ) (block : Block) → AreBelow layers.q.width block.columns →
      reply_block_line model others number block ≡ reply_block_line model layers number block
  block-one number block below =
      ap (λ names. codes "block" ++ spaced number ++ codes ":" ++ names ++ codes " |" ++ lower_blocks_text block.lower ++ codes "\n")
      (names-one block.columns below)

  blocks-one : (number : ℕ) (blocks : List Block) → AreBlocksBelow layers.q.width blocks →
      reply_block_lines model others number blocks ≡ reply_block_lines model layers number blocks
  blocks-one number [] below = refl
  blocks-one number (block ∷ blocks) below =
      ap (λ line. line ++ reply_block_lines model others (number + 1) blocks)
      (block-one number block (All-head (λ (block : Block). AreBelow layers.q.width block.columns) block blocks below))
      ∙ ap (λ lines. reply_block_line model layers number block ++ lines)
      (blocks-one (number + 1) blocks (All-tail (λ (block : Block). AreBelow layers.q.width block.columns) block blocks below))

  pub parts-one : (rank : ℕ) (parts : Parts) → HasColumnsBelow layers.q.width parts →
      reply_parts_text model others rank parts ≡ reply_parts_text model layers rank parts
  parts-one rank parts below =
      ap (λ line. number_line (codes "rank") rank ++ line ++ reply_block_lines model others 1 parts.blocks.items
      ++ reply_tail_line (codes "last") model others parts.last ++ codes "end\n") (tail-one (codes "first") parts.first below.first)
      ∙ ap (λ lines. number_line (codes "rank") rank ++ reply_tail_line (codes "first") model layers parts.first ++ lines
      ++ reply_tail_line (codes "last") model others parts.last ++ codes "end\n") (blocks-one 1 parts.blocks.items below.blocks)
      ∙ ap (λ line. number_line (codes "rank") rank ++ reply_tail_line (codes "first") model layers parts.first
      ++ reply_block_lines model layers 1 parts.blocks.items ++ line ++ codes "end\n") (tail-one (codes "last") parts.last below.last)
