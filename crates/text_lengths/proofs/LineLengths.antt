-- The lengths of a certificate's lines, by how many items stand in their lists.
use Rattle.std.proofs.Common.{◌≡◌, ℕ, zero, suc, ◌+◌, ◌*◌, ◌^◌, ◌<◌, ◌≤◌, List, [], ◌∷◌, ◌++◌, length, map, get_or, codes, sym, subst, arith}
use Rattle.std.proofs.Common.{add-zero, mul_comm, mul-le-mul_right, suc-mul}
use Rattle.std.specs.List.{All}
use Rattle.std.proofs.lemmas.List.{length-append, length-map, get_or-map}
use Rattle.std.proofs.lemmas.List.Elements.{All-head, All-tail}
use Rattle.cert_text.specs.Ranges.{AreRising, ArePairs, AreEntries, IsPart, IsShape}
use Rattle.cert_text.specs.Texts.{spaced, pairs_text, entries_text, numbers_text, letters_text, head_text}
use Rattle.cert_text.specs.Texts.{entries_line, columns_line, matrix_text, pattern_text, part_text, tail_line}
use Rattle.cert_text.specs.Texts.{block_line, blocks_text}
use Rattle.cert_text.specs.declared.shape.Shape.{Shape}
use Rattle.cert_text.specs.declared.part.CcfPart.{CcfPart}
use Rattle.cert_text.specs.declared.part.CcfBlock.{CcfBlock}
use Rattle.text_lengths.proofs.Lengths.{marked-short, rising-few, pairs-short, entries-short, numbers-short, letters-short}

keys-below : (n : ℕ) (items : List (ℕ × ℕ)) → All (λ item. item.0 < n) items → All (λ key. key < n) (map (λ (item : ℕ × ℕ). item.0) items)
keys-below n items below i d il =
    let long : length (map (λ (item : ℕ × ℕ). item.0) items) ≡ length items = length-map items (λ (item : ℕ × ℕ). item.0) in
    let low : i < length items = omega (arith, il, long) in
    subst (λ key. key < n) (sym (get_or-map (λ (item : ℕ × ℕ). item.0) items i (0, 0) d low)) (below i (0, 0) low)

low-numbers : (n : ℕ) (numbers : List ℕ) → n ≤ 8192 → All (λ number. number < n) numbers → All (λ number. number < 8192) numbers
low-numbers n numbers few below i d il = let b : get_or numbers i d < n = below i d il in omega (arith, b, few)

-- lists of a line
numbers-listed : (n : ℕ) (numbers : List ℕ) → n ≤ 8192 → AreRising n numbers → length (numbers_text numbers) ≤ 5 * length numbers
numbers-listed n numbers few are = numbers-short numbers (low-numbers n numbers few are.below)

numbers-within : (n : ℕ) (numbers : List ℕ) → n ≤ 8192 → AreRising n numbers → length (numbers_text numbers) ≤ 5 * n
numbers-within n numbers few are = omega (arith, numbers-listed n numbers few are, rising-few n numbers are.rising are.below)

letters-listed : (letter n : ℕ) (rows : List ℕ) → n ≤ 8192 → AreRising n rows → length (letters_text letter rows) ≤ 6 * length rows
letters-listed letter n rows few are = letters-short letter rows (low-numbers n rows few are.below)

pub pairs-within : (m n : ℕ) (pairs : List (ℕ × ℕ)) → m ≤ 8192 → n ≤ 8192 → ArePairs m n pairs → length (pairs_text pairs) ≤ 10 * m
pairs-within m n pairs few narrow are =
    let keys : List ℕ = map (λ (pair : ℕ × ℕ). pair.0) pairs in
    let long : length keys ≡ length pairs = length-map pairs (λ (pair : ℕ × ℕ). pair.0) in
    let count : length keys ≤ m = rising-few m keys are.rising (keys-below m pairs (λ i d il. (are.within i d il).0)) in
    omega (arith, long, count, pairs-short pairs (λ i d il. let b = are.within i d il in (omega (arith, b.0, few), omega (arith, b.1, narrow))))

-- the lines of a matrix, with a word of one letter
module _ (p digits : ℕ) (short : p ≤ 10 ^ digits) (n : ℕ) (few : n ≤ 8192) where
  entries-within : (entries : List (ℕ × ℕ)) → AreEntries p n entries → length (entries_text entries) ≤ (6 + digits) * n
  entries-within entries are =
      let keys : List ℕ = map (λ (entry : ℕ × ℕ). entry.0) entries in
      let long : length keys ≡ length entries = length-map entries (λ (entry : ℕ × ℕ). entry.0) in
      let count : length keys ≤ n = rising-few n keys are.rising (keys-below n entries (λ i d il. (are.within i d il).0)) in
      let text = entries-short p digits short entries (λ i d il. let b = are.within i d il in (omega (arith, b.0, few), b.1, b.2)) in
      omega (arith, text, mul-le-mul_right (6 + digits) (let at : length entries ≤ n = omega (arith, long, count) in at), mul_comm n (6 + digits))

  pub matrix-short : (letter number : ℕ) (rows : List (List (ℕ × ℕ))) → number + length rows ≤ 8193 → All (AreEntries p n) rows →
      length (matrix_text (letter ∷ []) number rows) ≤ length rows * (8 + (6 + digits) * n)
  matrix-short letter number [] small are = omega arith
  matrix-short letter number (row ∷ rows) small are =
      let here : AreEntries p n row = All-head (AreEntries p n) row rows are in
      let rest = matrix-short letter (number + 1) rows (omega (arith, small)) (All-tail (AreEntries p n) row rows are) in
      let head = marked-short 32 number (omega (arith, small)) in
      let line : length (entries_line (letter ∷ []) number row) ≤ 8 + (6 + digits) * n = omega (
        arith,
        head,
        entries-within row here,
        length-append (head_text (letter ∷ []) number) (entries_text row),
        length-append (head_text (letter ∷ []) number ++ entries_text row) (codes "\n"),
        length-append (spaced number) (codes ":"),
      ) in
      rw (suc-mul (length rows) (8 + (6 + digits) * n)) (omega (
        arith,
        line,
        rest,
        length-append (entries_line (letter ∷ []) number row)
            (matrix_text (letter ∷ []) (number + 1) rows),
      ))

pub pattern-short : (n : ℕ) → n ≤ 8192 → (letter number : ℕ) (rows : List (List ℕ)) → number + length rows ≤ 8193 → All (AreRising n) rows →
    length (pattern_text (letter ∷ []) number rows) ≤ length rows * (8 + 5 * n)
pattern-short n few letter number [] small are = omega arith
pattern-short n few letter number (row ∷ rows) small are =
    let here : AreRising n row = All-head (AreRising n) row rows are in
    let rest = pattern-short n few letter (number + 1) rows (omega (arith, small)) (All-tail (AreRising n) row rows are) in
    let head = marked-short 32 number (omega (arith, small)) in
    let line : length (columns_line (letter ∷ []) number row) ≤ 8 + 5 * n = omega (
      arith,
      head,
      numbers-within n row few here,
      length-append (head_text (letter ∷ []) number) (numbers_text row),
      length-append (head_text (letter ∷ []) number ++ numbers_text row) (codes "\n"),
      length-append (spaced number) (codes ":"),
    ) in
    rw (suc-mul (length rows) (8 + 5 * n)) (omega (
      arith,
      line,
      rest,
      length-append (columns_line (letter ∷ []) number row)
          (pattern_text (letter ∷ []) (number + 1) rows),
    ))

-- room for the items of a part, by its columns and its rows
abbrev pub part_items : CcfPart → ℕ
part_items part = 5 * length part.columns + 6 * length part.q_rows + 6 * length part.t_rows

-- a part, a tail and a block
module _ (shape : Shape) (within : IsShape shape) where
  part-short : (part : CcfPart) → IsPart shape part → length (part_text part) ≤ part_items part + 2
  part-short part is =
      let columns = numbers-listed shape.columns part.columns (omega (arith, within.columns)) is.columns in
      let q_rows = letters-listed 113 shape.q_rows part.q_rows (omega (arith, within.q_rows)) is.q_rows in
      let t_rows = letters-listed 116 shape.t_rows part.t_rows (omega (arith, within.t_rows)) is.t_rows in
      omega (
        arith,
        columns,
        q_rows,
        t_rows,
        length-append (numbers_text part.columns) (codes " |"),
        length-append (numbers_text part.columns ++ codes " |") (letters_text 113 part.q_rows),
        length-append (numbers_text part.columns ++ codes " |" ++ letters_text 113 part.q_rows) (letters_text 116 part.t_rows),
      )

  pub tail-short : (word : List ℕ) (part : CcfPart) → length word ≤ 5 → IsPart shape part → length (tail_line word part) ≤ part_items part + 8
  tail-short word part small is =
      omega (arith, part-short part is, length-append word (part_text part), length-append (word ++ part_text part) (codes "\n"))

  block-short : (number place : ℕ) (block : CcfBlock) → number ≤ 8192 → place ≤ 8192 → IsPart shape block.part → AreRising place block.lower →
      length (block_line number block) ≤ part_items block.part + 16 + 5 * place
  block-short number place block small less is lower =
      let head : List ℕ = head_text (codes "block") number in
      let part : List ℕ = part_text block.part in
      let lowers : List ℕ = numbers_text block.lower in
      omega (
        arith,
        part-short block.part is,
        numbers-within place block.lower less lower,
        marked-short 32 number (omega (arith, small)),
        length-append (spaced number) (codes ":"),
        length-append head part,
        length-append (head ++ part) (codes " |"),
        length-append (head ++ part ++ codes " |") lowers,
        length-append (head ++ part ++ codes " |" ++ lowers) (codes "\n"),
      )

-- room for the items of the parts of blocks
abbrev pub block_items : List CcfBlock → ℕ
block_items [] = 0
block_items (block ∷ blocks) = part_items block.part + block_items blocks

-- the sum of the numbers below n
abbrev pub sum_to : ℕ → ℕ
sum_to zero = 0
sum_to (suc n) = sum_to n + n

-- twice the sum is at most the square
pub sum_to-square : (n : ℕ) → 2 * sum_to n ≤ n * n
sum_to-square zero = omega arith
sum_to-square (suc n) = omega (arith, sum_to-square n, suc-mul n (suc n), mul_comm n (suc n), suc-mul n n)

-- the block at a place has at most so many lower blocks
pub blocks-short : (shape : Shape) → IsShape shape → (place : ℕ) (blocks : List CcfBlock) → place + length blocks ≤ 8192 →
    ((i : ℕ) (d : CcfBlock) → i < length blocks → IsPart shape (get_or blocks i d).part × AreRising (place + i) (get_or blocks i d).lower) →
    length (blocks_text (place + 1) blocks) + 5 * sum_to place ≤ block_items blocks + 16 * length blocks + 5 * sum_to (place + length blocks)
blocks-short shape within place [] small are = rw (add-zero place) (omega arith)
blocks-short shape within place (block ∷ blocks) small are =
    let here = are 0 block (omega arith) in
    let rest = blocks-short shape within (suc place) blocks (omega (arith, small)) (λ i d il.
    let at = are (suc i) d (omega (arith, il)) in
    (at.0, subst (λ n. AreRising n (get_or blocks i d).lower) (let e : place + suc i ≡ suc place + i = omega arith in e) at.1)) in
    let line = block-short shape within (place + 1) place block (omega (arith, small)) (omega (arith, small)) here.0
    (subst (λ n. AreRising n block.lower) (let e : place + 0 ≡ place = omega arith in e) here.1) in
    let number : suc place + 1 ≡ place + 1 + 1 = omega arith in
    let last : suc place + length blocks ≡ place + suc (length blocks) = omega arith in
    subst (λ n. length (block_line (place + 1) block ++ blocks_text n blocks) + 5 * sum_to place
    ≤ part_items block.part + block_items blocks + 16 * suc (length blocks) + 5 * sum_to (place + suc (length blocks))) number
    (subst (λ n. length (block_line (place + 1) block ++ blocks_text (suc place + 1) blocks) + 5 * sum_to place
    ≤ part_items block.part + block_items blocks + 16 * suc (length blocks) + 5 * sum_to n) last
    (omega (arith, line, rest, length-append (block_line (place + 1) block) (blocks_text (suc place + 1) blocks))))
