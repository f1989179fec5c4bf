-- What the replies of a desk print.
use Rattle.std.specs.Prelude.{ℕ, ◌+◌, ◌∷◌, ◌++◌, List, [], codes, slice_index_or}
use Rattle.std.specs.List.{flat_map}
use Rattle.answer_texts.specs.LayerTexts.{column_name}
use Rattle.ccf_builder.specs.declared.canonical.Block.{Block}
use Rattle.ccf_builder.specs.declared.canonical.Parts.{Parts}
use Rattle.mixed_model.specs.Layers.{Layers}
use Rattle.mixed_model.specs.Models.{MixedModel}
use Rattle.mixed_model.specs.declared.origin.Origin.TheVariants.{Unknown}
use Rattle.refusals.specs.Texts.{why_text}
use Rattle.refusals.specs.declared.Why.{Why}
use Rattle.text_writer.specs.Numbers.{spaced}

-- the name of a column behind a space
abbrev pub name_text : MixedModel → Layers → ℕ → List ℕ
name_text model layers column =
    codes " " ++ column_name model (slice_index_or layers.column_origins column (Unknown 0))

-- the names of some columns
abbrev pub names_text : MixedModel → Layers → List ℕ → List ℕ
names_text model layers columns = flat_map (name_text model layers) columns

-- the numbers of some blocks, which are counted from 1 here, each behind a space
abbrev pub lower_blocks_text : List ℕ → List ℕ
lower_blocks_text blocks = flat_map (λ k. spaced (k + 1)) blocks

-- the line of a tail
abbrev pub reply_tail_line : List ℕ → MixedModel → Layers → List ℕ → List ℕ
reply_tail_line word model layers columns = word ++ names_text model layers columns ++ codes "\n"

-- the line of a block of this number
abbrev pub reply_block_line : MixedModel → Layers → ℕ → Block → List ℕ
reply_block_line model layers number block =
    codes "block" ++ spaced number ++ codes ":" ++ names_text model layers block.columns
    ++ codes " |" ++ lower_blocks_text block.lower ++ codes "\n"

-- the lines of blocks, the first of which has this number
abbrev pub reply_block_lines : MixedModel → Layers → ℕ → List Block → List ℕ
reply_block_lines model layers number [] = []
reply_block_lines model layers number (block ∷ blocks) =
    reply_block_line model layers number block ++ reply_block_lines model layers (number + 1) blocks

-- a word and a number
abbrev pub number_line : List ℕ → ℕ → List ℕ
number_line word number = word ++ spaced number ++ codes "\n"

-- what is told of a model
abbrev pub reply_parts_text : MixedModel → Layers → ℕ → Parts → List ℕ
reply_parts_text model layers rank parts =
    number_line (codes "rank") rank ++ reply_tail_line (codes "first") model layers parts.first
    ++ reply_block_lines model layers 1 parts.blocks.items ++ reply_tail_line (codes "last") model layers parts.last
    ++ codes "end\n"

-- the line of a refusal
abbrev pub refused_line : Why → List ℕ
refused_line why = codes "refused " ++ why_text why ++ codes "\n"
