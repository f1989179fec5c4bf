-- What is left of a text once a piece of it is put.
use Rattle.std.proofs.Common.{◌≡◌, ℕ, ◌+◌, ◌<◌, List, ◌++◌, length, get_or, drop, ap}
use Rattle.text_writer.proofs.Putting.{drop_next}
use Rattle.cert_text.specs.Contents.{numbered, numbered_rows}
use Rattle.cert_text.specs.Texts.{item, lettered, spaced, pairs_text, entries_text, numbers_text, letters_text}
use Rattle.cert_text.specs.Texts.{entries_line, columns_line, block_line, matrix_text, pattern_text, blocks_text}
use Rattle.cert_text.specs.declared.part.CcfBlock.{CcfBlock}

pub pairs_left : (pairs : List (ℕ × ℕ)) (i : ℕ) (d : ℕ × ℕ) → i < length pairs →
    pairs_text (drop i pairs) ≡ item ((get_or pairs i d).0 + 1) ((get_or pairs i d).1 + 1) ++ pairs_text (drop (i + 1) pairs)
pairs_left pairs i d within = ap pairs_text (drop_next pairs i d within)

pub entries_left : {T : Type 0} (number : T → ℕ) (entries : List (ℕ × T)) (i : ℕ) (d : ℕ × T) → i < length entries →
    entries_text (numbered number (drop i entries))
    ≡ item ((get_or entries i d).0 + 1) (number (get_or entries i d).1) ++ entries_text (numbered number (drop (i + 1) entries))
entries_left {T} number entries i d within = ap (λ (xs : List (ℕ × T)). entries_text (numbered number xs)) (drop_next entries i d within)

pub numbers_left : (numbers : List ℕ) (i d : ℕ) → i < length numbers →
    numbers_text (drop i numbers) ≡ spaced (get_or numbers i d + 1) ++ numbers_text (drop (i + 1) numbers)
numbers_left numbers i d within = ap numbers_text (drop_next numbers i d within)

pub letters_left : (letter : ℕ) (rows : List ℕ) (i d : ℕ) → i < length rows →
    letters_text letter (drop i rows) ≡ lettered letter (get_or rows i d + 1) ++ letters_text letter (drop (i + 1) rows)
letters_left letter rows i d within = ap (letters_text letter) (drop_next rows i d within)

pub matrix_left : {T : Type 0} (number : T → ℕ) (word : List ℕ) (rows : List (List (ℕ × T))) (i : ℕ) (d : List (ℕ × T)) → i < length rows →
    matrix_text word (i + 1) (numbered_rows number (drop i rows))
    ≡ entries_line word (i + 1) (numbered number (get_or rows i d)) ++ matrix_text word (i + 1 + 1) (numbered_rows number (drop (i + 1) rows))
matrix_left {T} number word rows i d within =
    ap (λ (xs : List (List (ℕ × T))). matrix_text word (i + 1) (numbered_rows number xs)) (drop_next rows i d within)

pub pattern_left : (word : List ℕ) (rows : List (List ℕ)) (i : ℕ) (d : List ℕ) → i < length rows →
    pattern_text word (i + 1) (drop i rows) ≡ columns_line word (i + 1) (get_or rows i d) ++ pattern_text word (i + 1 + 1) (drop (i + 1) rows)
pattern_left word rows i d within = ap (pattern_text word (i + 1)) (drop_next rows i d within)

pub blocks_left : (blocks : List CcfBlock) (i : ℕ) (d : CcfBlock) → i < length blocks →
    blocks_text (i + 1) (drop i blocks) ≡ block_line (i + 1) (get_or blocks i d) ++ blocks_text (i + 1 + 1) (drop (i + 1) blocks)
blocks_left blocks i d within = ap (blocks_text (i + 1)) (drop_next blocks i d within)
