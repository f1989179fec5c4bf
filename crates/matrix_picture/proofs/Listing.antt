-- Lists that are put item by item, and entries that are looked up.
use Rattle.std.proofs.Common.{◌≡◌, ◌==◌, ◌||◌, ℕ, zero, suc, ◌+◌, ◌<◌, List, [], ◌∷◌, ◌++◌, length, get_or, drop, map, ap, refl, sym, ◌∙◌}
use Rattle.std.proofs.Common.{◌≤◌, ◌^◌, append_assoc, arith, slice_index_or, take}
use Rattle.std.proofs.lemmas.List.{length-map, take_all}
use Rattle.std.proofs.lemmas.List.Sums.{sum_by-cons, sum_by_push}
use Rattle.std.proofs.Math.Seq.{take-suc}
use Rattle.std.specs.List.{list_any, sum_by}
use Rattle.text_writer.proofs.Putting.{drop_next}
use Rattle.port_io.specs.Causes.{shown}
use Rattle.cert_text.specs.Contents.{numbered, numbered_rows}
use Rattle.cert_text.specs.declared.part.CcfBlock.{CcfBlock}
use Rattle.matrix_picture.specs.Orders.{Order, with_blocks, with_part}

-- one item more of a list is put last
pub mapped_left : {A B : Type 0} (f : A → B) (list : List A) (i : ℕ) (d : A) → i < length list → (done : List B) →
    (done ++ f (get_or list i d) ∷ []) ++ map f (drop (i + 1) list) ≡ done ++ map f (drop i list)
mapped_left {A} {B} f list i d within done =
    append_assoc done (f (get_or list i d) ∷ []) (map f (drop (i + 1) list))
    ∙ ap (λ (xs : List A). done ++ map f xs) (sym (drop_next list i d within))

pub blocks_left : (order : Order) (blocks : List CcfBlock) (i : ℕ) (d : CcfBlock) → i < length blocks →
    with_blocks order (drop i blocks) ≡ with_blocks (with_part order (get_or blocks i d).part) (drop (i + 1) blocks)
blocks_left order blocks i d within = ap (with_blocks order) (drop_next blocks i d within)

-- the columns of entries are those of their numbers
pub same_keys : {T : Type 0} (number : T → ℕ) (entries : List (ℕ × T)) (column : ℕ) →
    list_any (λ entry. entry.0 == column) entries ≡ list_any (λ entry. entry.0 == column) (numbered number entries)
same_keys {T} number [] column = refl
same_keys {T} number (entry ∷ entries) column = ap (λ b. (entry.0 == column) || b) (same_keys number entries column)

pub same_row : {T : Type 0} (number : T → ℕ) (rows : List (List (ℕ × T))) (row : ℕ) →
    slice_index_or (numbered_rows number rows) row [] ≡ numbered number (slice_index_or rows row [])
same_row {T} number [] row = refl
same_row {T} number (entries ∷ rows) zero = refl
same_row {T} number (entries ∷ rows) (suc row) = same_row number rows row

-- a row of entries that stands there is looked at
pub constant-at : {T : Type 0} (number : T → ℕ) (rows : List (List (ℕ × T))) (row column : ℕ) (entries : List (ℕ × T)) →
    entries ≡ get_or rows row [] →
    list_any (λ entry. entry.0 == column) entries ≡ list_any (λ entry. entry.0 == column) (slice_index_or (numbered_rows number rows) row [])
constant-at {T} number rows row column entries got =
    same_keys number entries column
    ∙ ap (λ (xs : List (ℕ × T)). list_any (λ entry. entry.0 == column) (numbered number xs)) got
    ∙ ap (list_any (λ entry. entry.0 == column)) (sym (same_row number rows row))

-- rows have as many entries as their numbers
pub same_count : {T : Type 0} (number : T → ℕ) (rows : List (List (ℕ × T))) → sum_by length rows ≡ sum_by length (numbered_rows number rows)
same_count {T} number [] = refl
same_count {T} number (row ∷ rows) =
    sum_by-cons length row rows
    ∙ ap (λ n. n + sum_by length rows) (sym (length-map row (λ entry. (entry.0, number entry.1))))
    ∙ ap (λ n. length (numbered number row) + n) (same_count number rows)
    ∙ sym (sum_by-cons length (numbered number row) (numbered_rows number rows))

-- a count may be cut before more is counted
pub shown_more : (a b : ℕ) → shown (shown a + b) ≡ shown (a + b)
shown_more a b = grind arith

-- the entries of one row more are counted
pub counted_next : {A : Type 0} (before count : ℕ) (rows : List (List A)) (i : ℕ) (row : List A) → i < length rows → row ≡ get_or rows i row →
    count ≡ shown (before + sum_by length (take i rows)) → shown (count + length row) ≡ shown (before + sum_by length (take (i + 1) rows))
counted_next {A} before count rows i row within at is =
    let so_far : ℕ = sum_by length (take i rows) in
    let step : suc i ≡ i + 1 = omega arith in
    let next : sum_by length (take (i + 1) rows) ≡ so_far + length row = ap (λ n. sum_by length (take n rows)) (sym step)
    ∙ ap (sum_by length) (take-suc rows i row within) ∙ sum_by_push length (take i rows) (get_or rows i row)
    ∙ ap (λ (xs : List A). so_far + length xs) (sym at) in
    ap (λ n. shown (n + length row)) is ∙ shown_more (before + so_far) (length row)
    ∙ ap shown (let q : before + so_far + length row ≡ before + sum_by length (take (i + 1) rows) = omega (arith, next) in q)

pub counted_all : {A : Type 0} (before count : ℕ) (rows : List (List A)) (i : ℕ) → length rows ≤ i →
    count ≡ shown (before + sum_by length (take i rows)) → count ≡ shown (before + sum_by length rows)
counted_all {A} before count rows i end is = is ∙ ap (λ (xs : List (List A)). shown (before + sum_by length xs)) (take_all i rows end)

pub counted_none : {A : Type 0} (before : ℕ) (rows : List (List A)) → before < 2 ^ 64 → before ≡ shown (before + sum_by length (take 0 rows))
counted_none before rows small = grind (arith, small)
