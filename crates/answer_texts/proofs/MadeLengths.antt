-- The length of the text about a made model.
use Rattle.std.proofs.Common.{ℕ, ◌+◌, ◌<◌, ◌≤◌, List, ◌++◌, length, codes, arith}
use Rattle.std.proofs.lemmas.List.{length-append}
use Rattle.limits.specs.Limits.{column_limit}
use Rattle.text_writer.specs.Numbers.{spaced}
use Rattle.text_lengths.proofs.Lengths.{marked-short, rising-few}
use Rattle.text_lengths.proofs.TextLengths.{blocks-few}
use Rattle.mixed_matrices.specs.LayeredMatrices.{LayeredMatrix}
use Rattle.mixed_matrices.specs.Layerings.{Origins}
use Rattle.mixed_matrices.specs.Models.{MixedMatrix}
use Rattle.cert_text.specs.Contents.{Contents}
use Rattle.cert_text.specs.Ranges.{IsCcf, IsPart, IsShape}
use Rattle.cert_text.specs.Readings.{parts_of}
use Rattle.cert_text.specs.Right.{IsRightCcf}
use Rattle.cert_text.specs.declared.part.CcfPart.{CcfPart}
use Rattle.cert_text.specs.declared.shape.Shape.{Shape}
use Rattle.answer_texts.specs.MadeTexts.{made_text, system_line, tail_sizes}
use Rattle.answer_texts.specs.ReportTexts.{count_line}
use Rattle.answer_texts.specs.Rooms.{made_room}

line-short : (word : List ℕ) (number k : ℕ) → length word ≤ k → number < 10000 → length (count_line word number) ≤ k + 7
line-short word number k short few =
    omega (arith, short, marked-short 32 number few, length-append word (spaced number), length-append (word ++ spaced number) (codes "\n"))

system-short : (n split : ℕ) → n < 10000 → split < 10000 → length (system_line n split) ≤ 43
system-short n split few less =
    let one : List ℕ = codes "equations" ++ spaced n in
    let two : List ℕ = one ++ codes " unknowns" in
    let three : List ℕ = two ++ spaced n in
    let four : List ℕ = three ++ codes " split" in
    let five : List ℕ = four ++ spaced split in
    omega (
      arith,
      marked-short 32 n few,
      marked-short 32 split less,
      length-append (codes "equations") (spaced n),
      length-append one (codes " unknowns"),
      length-append two (spaced n),
      length-append three (codes " split"),
      length-append four (spaced split),
      length-append five (codes "\n"),
    )

-- the lists of a part rise within the shape
tail-short : (word : List ℕ) (k : ℕ) (shape : Shape) (part : CcfPart) → length word ≤ k → IsShape shape → IsPart shape part →
    length (tail_sizes word part) ≤ k + 13
tail-short word k shape part short low is =
    let q : length part.q_rows ≤ 4096 = omega (arith, rising-few shape.q_rows part.q_rows (is.q_rows).rising (is.q_rows).below, low.q_rows) in
    let t : length part.t_rows ≤ 4096 = omega (arith, rising-few shape.t_rows part.t_rows (is.t_rows).rising (is.t_rows).below, low.t_rows) in
    let n : length part.columns ≤ 8192 = omega (arith, rising-few shape.columns part.columns (is.columns).rising (is.columns).below, low.columns) in
    let rows : List ℕ = spaced (length part.q_rows + length part.t_rows) in
    let columns : List ℕ = spaced (length part.columns) in
    omega (
      arith,
      short,
      marked-short 32 (length part.q_rows + length part.t_rows) (omega (arith, q, t)),
      marked-short 32 (length part.columns) (omega (arith, n)),
      length-append word rows,
      length-append (word ++ rows) columns,
      length-append (word ++ rows ++ columns) (codes "\n"),
    )

-- the ranges of a form tell no number of blocks, since they let blocks share columns
pub made-text-short : (p n split : ℕ) (c : Contents) → IsCcf p c → length c.blocks ≤ column_limit → n ≤ 400 → split ≤ 8192 →
    length (made_text n split c) ≤ made_room
made-text-short p n split c is blocks few less =
    let make : List ℕ = count_line (codes "make") n in
    let system : List ℕ = system_line n split in
    let rank : List ℕ = count_line (codes "rank") c.rank in
    let first : List ℕ = tail_sizes (codes "first") c.first in
    let count : List ℕ = count_line (codes "blocks") (length c.blocks) in
    let last : List ℕ = tail_sizes (codes "last") c.last in
    omega (
      arith,
      line-short (codes "make") n 4 (omega arith) (omega (arith, few)),
      system-short n split (omega (arith, few)) (omega (arith, less)),
      line-short (codes "rank") c.rank 4 (omega arith) (omega (arith, is.rank)),
      tail-short (codes "first") 5 c.shape c.first (omega arith) is.shape is.first,
      line-short (codes "blocks") (length c.blocks) 6 (omega arith) (omega (arith, blocks)),
      tail-short (codes "last") 4 c.shape c.last (omega arith) is.shape is.last,
      length-append make system,
      length-append (make ++ system) rank,
      length-append (make ++ system ++ rank) first,
      length-append (make ++ system ++ rank ++ first) count,
      length-append (make ++ system ++ rank ++ first ++ count) last,
    )

-- a right form has no more blocks than columns
pub right-made-text-short : (p n split : ℕ) (M : MixedMatrix) (L : LayeredMatrix) (O : Origins) (c : Contents) → IsCcf p c →
    IsRightCcf p M L O c → n ≤ 400 → split ≤ 8192 → length (made_text n split c) ≤ made_room
right-made-text-short p n split M L O c is right few less =
    let blocks : length c.blocks ≤ L.columns = blocks-few p L (parts_of c) (right.canonical_listing).parts in
    made-text-short p n split c is (omega (arith, blocks, (right.shape).columns, (is.shape).columns)) few less
