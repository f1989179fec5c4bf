-- The length of what is told of a model, by the columns of its layered matrix.
use Rattle.std.proofs.Common.{◌≡◌, ℕ, suc, ◌+◌, ◌*◌, ◌<◌, ◌≤◌, List, [], ◌∷◌, ◌++◌, length, map, get_or, codes, slice_index_or, ap, subst, arith}
use Rattle.std.proofs.Common.{add-zero}
use Rattle.std.specs.List.{All}
use Rattle.std.proofs.lemmas.List.{length-append}
use Rattle.std.proofs.lemmas.List.Elements.{All-from_get_or, All-head, All-tail}
use Rattle.std.proofs.lemmas.Nat.{mul-le}
use Rattle.refusals.specs.Texts.{why_text}
use Rattle.refusals.specs.declared.Why.{Why}
use Rattle.refusals.specs.declared.Why.TheVariants.{
  BadByte,
  BadWord,
  BadShape,
  BadName,
  BadNumber,
  Vanish,
  Twice,
  TooMany,
  Unsupported,
  NoGround,
  NoSuchSource,
  NotToml,
  BadVersion,
  UnknownKey,
  Missing,
  BadValue,
  BadKind,
  Undeclared,
}
use Rattle.mixed_matrices.specs.LayeredMatrices.{LayeredMatrix}
use Rattle.mixed_model.specs.Models.{MixedModel, IsModel}
use Rattle.mixed_model.specs.Layers.{Layers}
use Rattle.mixed_model.specs.declared.origin.Origin.{Origin}
use Rattle.mixed_model.specs.declared.origin.Origin.TheVariants.{Unknown}
use Rattle.cert_text.specs.Ranges.{AreRising}
use Rattle.text_writer.specs.Numbers.{spaced}
use Rattle.text_lengths.proofs.Lengths.{marked-short, rising-few, total, totals-few}
use Rattle.text_lengths.proofs.LineLengths.{sum_to, sum_to-square}
use Rattle.text_lengths.proofs.TextLengths.{blocks-few, total-append}
use Rattle.answer_texts.specs.LayerTexts.{column_name}
use Rattle.answer_texts.proofs.LayerLengths.{column-name-short}
use Rattle.ccf_builder.specs.Canonical.{AreCanonicalLists, listed_columns, listed_parts}
use Rattle.ccf_builder.specs.declared.canonical.Block.{Block}
use Rattle.ccf_builder.specs.declared.canonical.Parts.{Parts}
use Rattle.desk_texts.specs.Rooms.{parts_room}
use Rattle.desk_texts.specs.Texts.{lower_blocks_text, name_text, names_text, number_line, refused_line, reply_block_line, reply_block_lines}
use Rattle.desk_texts.specs.Texts.{reply_parts_text, reply_tail_line}

-- the reply to a line that is refused
why-short : (why : Why) → length (why_text why) ≤ 21
why-short BadByte = omega arith
why-short BadWord = omega arith
why-short BadShape = omega arith
why-short BadName = omega arith
why-short BadNumber = omega arith
why-short Vanish = omega arith
why-short Twice = omega arith
why-short TooMany = omega arith
why-short Unsupported = omega arith
why-short NoGround = omega arith
why-short NoSuchSource = omega arith
why-short NotToml = omega arith
why-short BadVersion = omega arith
why-short UnknownKey = omega arith
why-short Missing = omega arith
why-short BadValue = omega arith
why-short BadKind = omega arith
why-short Undeclared = omega arith

pub refused-short : (why : Why) → length (refused_line why) ≤ 30
refused-short why = omega (
  arith,
  why-short why,
  length-append (codes "refused ") (why_text why),
  length-append (codes "refused " ++ why_text why) (codes "\n"),
)

-- a word and a number
pub number-line-short : (word : List ℕ) (number : ℕ) → length word ≤ 7 → number ≤ 8192 → length (number_line word number) ≤ 6 + length word
number-line-short word number short few = omega (
  arith,
  marked-short 32 number (omega (arith, few)),
  length-append word (spaced number),
  length-append (word ++ spaced number) (codes "\n"),
)

-- the numbers of lower blocks
numbers-short : (lower : List ℕ) → All (λ number. number < 8192) lower → length (lower_blocks_text lower) ≤ 5 * length lower
numbers-short [] within = omega arith
numbers-short (number ∷ lower) within =
    let here : number < 8192 = All-head (λ number. number < 8192) number lower within in
    let rest = numbers-short lower (All-tail (λ number. number < 8192) number lower within) in
    omega (arith, rest, length-append (spaced (number + 1)) (lower_blocks_text lower), marked-short 32 (number + 1) (omega (arith, here)))

lower-short : (place : ℕ) (lower : List ℕ) → place ≤ 8192 → AreRising place lower → length (lower_blocks_text lower) ≤ 5 * place
lower-short place lower few are = omega (
  arith,
  numbers-short lower (λ i d il. let b : get_or lower i d < place = are.below i d il in omega (arith, b, few)),
  rising-few place lower are.rising are.below,
)

-- the columns of some blocks, and their lower blocks
abbrev columns_in : List Block → List (List ℕ)
columns_in blocks = map (λ (block : Block). block.columns) blocks

abbrev lower_in : List Block → List (List ℕ)
lower_in blocks = map (λ (block : Block). block.lower) blocks

module _ (p : ℕ) (model : MixedModel) (is : IsModel p model) (layers : Layers) where
  names-short : (columns : List ℕ) → length (names_text model layers columns) ≤ 98 * length columns
  names-short [] = omega arith
  names-short (x ∷ xs) =
      let origin : Origin = slice_index_or layers.column_origins x (Unknown 0) in
      omega (
        arith,
        column-name-short p model is origin,
        names-short xs,
        length-append (codes " ") (column_name model origin),
        length-append (name_text model layers x) (names_text model layers xs),
      )

  tail-short : (word columns : List ℕ) → length (reply_tail_line word model layers columns) ≤ 1 + length word + 98 * length columns
  tail-short word columns =
      let names : List ℕ = names_text model layers columns in
      omega (arith, names-short columns, length-append word names, length-append (word ++ names) (codes "\n"))

  block-short : (number place : ℕ) (block : Block) → number ≤ 8192 → place ≤ 8192 → AreRising place block.lower →
      length (reply_block_line model layers number block) ≤ 14 + 98 * length block.columns + 5 * place
  block-short number place block small less lower =
      let head : List ℕ = codes "block" ++ spaced number ++ codes ":" in
      let names : List ℕ = names_text model layers block.columns in
      let lowers : List ℕ = lower_blocks_text block.lower in
      omega (
        arith,
        marked-short 32 number (omega (arith, small)),
        names-short block.columns,
        lower-short place block.lower less lower,
        length-append (codes "block") (spaced number),
        length-append (codes "block" ++ spaced number) (codes ":"),
        length-append head names,
        length-append (head ++ names) (codes " |"),
        length-append (head ++ names ++ codes " |") lowers,
        length-append (head ++ names ++ codes " |" ++ lowers) (codes "\n"),
      )

  -- the block at a place has at most so many lower blocks
  blocks-short : (place : ℕ) (blocks : List Block) → place + length blocks ≤ 8192 → ((i : ℕ) → AreRising (place + i) (get_or (lower_in blocks) i [])) →
      length (reply_block_lines model layers (place + 1) blocks) + 5 * sum_to place
      ≤ 98 * total (columns_in blocks) + 14 * length blocks + 5 * sum_to (place + length blocks)
  blocks-short place [] small are = rw (add-zero place) (omega arith)
  blocks-short place (block ∷ blocks) small are =
      let rest = blocks-short (suc place) blocks (omega (arith, small))
      (λ i. subst (λ n. AreRising n (get_or (lower_in blocks) i [])) (let e : place + suc i ≡ suc place + i = omega arith in e) (are (suc i))) in
      let line = block-short (place + 1) place block (omega (arith, small)) (omega (arith, small))
      (subst (λ n. AreRising n block.lower) (let e : place + 0 ≡ place = omega arith in e) (are 0)) in
      let number : suc place + 1 ≡ place + 1 + 1 = omega arith in
      let last : suc place + length blocks ≡ place + suc (length blocks) = omega arith in
      subst (λ n. length (reply_block_line model layers (place + 1) block ++ reply_block_lines model layers n blocks) + 5 * sum_to place
      ≤ 98 * total (columns_in (block ∷ blocks)) + 14 * suc (length blocks) + 5 * sum_to (place + suc (length blocks))) number
      (subst (λ n. length (reply_block_line model layers (place + 1) block ++ reply_block_lines model layers (suc place + 1) blocks) + 5 * sum_to place
      ≤ 98 * total (columns_in (block ∷ blocks)) + 14 * suc (length blocks) + 5 * sum_to n) last
      (omega (arith, line, rest, length-append (reply_block_line model layers (place + 1) block) (reply_block_lines model layers (suc place + 1) blocks))))

  module _ (L : LayeredMatrix) (v : Parts) (are : AreCanonicalLists p L v) (k : ℕ) (low : L.columns ≤ k) (few : k ≤ 8192) where
    blocks-many : length v.blocks.items ≤ k
    blocks-many = omega (arith, blocks-few p L (listed_parts v) are.canonical, low)

    -- each column stands in one list
    columns-many : length v.first + total (columns_in v.blocks.items) + length v.last ≤ k
    columns-many = omega (
      arith,
      low,
      totals-few L.columns (listed_columns v) (All-from_get_or (AreRising L.columns) (listed_columns v) [] (λ i il. are.rising i)) are.once.one,
      total-append (columns_in v.blocks.items) (v.last ∷ []),
    )

    lower-many : 5 * sum_to (length v.blocks.items) ≤ 3 * (k * k)
    lower-many = omega (
      arith,
      sum_to-square (length v.blocks.items),
      mul-le (length v.blocks.items) (length v.blocks.items) k k blocks-many blocks-many,
    )

    block-lines-short : length (reply_block_lines model layers 1 v.blocks.items)
        ≤ 98 * total (columns_in v.blocks.items) + 14 * k + 3 * (k * k)
    block-lines-short =
        let all = blocks-short 0 v.blocks.items (omega (arith, blocks-many, few))
        (λ i. subst (λ n. AreRising n (get_or (lower_in v.blocks.items) i [])) (let e : i ≡ 0 + i = omega arith in e) (are.lower_rising i)) in
        let from : 0 + length v.blocks.items ≡ length v.blocks.items = omega arith in
        let sums : 5 * sum_to (0 + length v.blocks.items) ≡ 5 * sum_to (length v.blocks.items) = ap (λ n. 5 * sum_to n) from in
        omega (arith, all, sums, lower-many, blocks-many)

    pub parts-short : (rank : ℕ) → rank ≤ 8192 → length (reply_parts_text model layers rank v) ≤ parts_room k
    parts-short rank small =
        let one : List ℕ = number_line (codes "rank") rank in
        let two : List ℕ = reply_tail_line (codes "first") model layers v.first in
        let three : List ℕ = reply_block_lines model layers 1 v.blocks.items in
        let four : List ℕ = reply_tail_line (codes "last") model layers v.last in
        omega (
          arith,
          number-line-short (codes "rank") rank (omega arith) small,
          tail-short (codes "first") v.first,
          block-lines-short,
          tail-short (codes "last") v.last,
          columns-many,
          length-append one two,
          length-append (one ++ two) three,
          length-append (one ++ two ++ three) four,
          length-append (one ++ two ++ three ++ four) (codes "end\n"),
        )
