-- Items read one after the other, as a loop does.
use Rattle.std.proofs.Common.{◌≡◌, ℕ, zero, suc, ◌+◌, ◌-◌, ◌<◌, ◌≤◌, Bool, true, false, cond, List, [], ◌∷◌, ◌++◌}
use Rattle.std.proofs.Common.{length, Result, Ok, Err, refl, sym, ap, ◌∙◌, append_assoc, length-append, arith}
use Rattle.std.proofs.lemmas.List.{append-nil, map-append}
use Rattle.std.specs.Prelude.{codes, decimal, nat_lt}
use Rattle.cert_text.specs.Contents.{numbered, numbered_rows}
use Rattle.cert_reader.specs.declared.fault.ReadCert.{ReadCert}
use Rattle.cert_reader.specs.declared.fault.ReadCert.TheVariants as errors
use Rattle.cert_reader.specs.Fronts.{◌>>=◌, Fails, text_at, number_at, begins_with}
use Rattle.cert_reader.specs.Items.{index_at, positive_at, marked_at, pair_at, entry_at, items_at, goes_on}
use Rattle.cert_reader.specs.CertReading.{rows_at}
use Rattle.cert_reader.proofs.Spells.{bind_ok, guard_ok}
use Rattle.cert_reader.proofs.Texts.{text_takes}
use Rattle.cert_reader.proofs.Numbers.{number_takes}

-- what was read before, and what is still read
abbrev pub with_front : {A : Type 0} → List A → Result (List A × List ℕ) ℕ → Result (List A × List ℕ) ℕ
with_front front read = read >>= λ x. Ok (front ++ x.0, x.1)

-- the items so far, with those that are still read, are those of all
abbrev pub SoFar : {A : Type 0} → (List ℕ → Bool) → (A → ℕ) → (ℕ → ℕ → List ℕ → Result (A × List ℕ) ℕ) → ℕ → List A →
    ℕ → List ℕ → Result (List A × List ℕ) ℕ → Type 0
SoFar goes after item line front low bytes total = (most : ℕ) × (length bytes ≤ most)
    × (with_front front (items_at goes after item most low line bytes) ≡ total)

regroup : {A : Type 0} (front : List A) (a : A) (read : Result (List A × List ℕ) ℕ) →
    with_front front (read >>= λ x. Ok (a ∷ x.0, x.1)) ≡ with_front (front ++ a ∷ []) read
regroup {A} front a (Ok x) = ap (λ (zs : List A). Ok (zs, x.1)) (sym (append_assoc front (a ∷ []) x.0))
regroup {A} front a (Err l) = refl

pub begins : {A : Type 0} (goes : List ℕ → Bool) (after : A → ℕ) (item : ℕ → ℕ → List ℕ → Result (A × List ℕ) ℕ)
    (line : ℕ) (bytes : List ℕ) → SoFar goes after item line [] 0 bytes
    (items_at goes after item (length bytes) 0 line bytes)
begins {A} goes after item line bytes = (length bytes, omega arith, same (items_at goes after item (length bytes) 0 line bytes))
  where
    same : (read : Result (List A × List ℕ) ℕ) → with_front [] read ≡ read
    same (Ok x) = refl
    same (Err l) = refl

pub goes_further : {A : Type 0} (goes : List ℕ → Bool) (after : A → ℕ) (item : ℕ → ℕ → List ℕ →
    Result (A × List ℕ) ℕ) (line low : ℕ) (front : List A) (bytes : List ℕ) (a : A) (left : List ℕ)
    (total : Result (List A × List ℕ) ℕ) →
    goes bytes ≡ true → item low line bytes ≡ Ok (a, left) → length left < length bytes →
    SoFar goes after item line front low bytes total → SoFar goes after item line (front ++ a ∷ [])
    (after a) left total
unfolding items_at
goes_further {A} goes after item line low front bytes a left total going read shorter so_far = by so_far.0 so_far.1 so_far.2
  where
    by : (most : ℕ) → length bytes ≤ most → with_front front (items_at goes after item most low line bytes) ≡ total →
        SoFar goes after item line (front ++ a ∷ []) (after a) left total
    by zero long e = absurd (omega (arith, long, shorter))
    by (suc most) long e =
        let one : with_front front (items_at goes after item (suc most) low line bytes) ≡ with_front
        (front ++ a ∷ []) (items_at goes after item most (after a) line left) =
        rw (going, read) (regroup front a (items_at goes after item most (after a) line left)) in
        (most, omega (arith, long, shorter), sym one ∙ e)

pub breaks : {A : Type 0} (goes : List ℕ → Bool) (after : A → ℕ) (item : ℕ → ℕ → List ℕ → Result (A × List ℕ) ℕ)
    (line low : ℕ) (front : List A) (bytes : List ℕ) (total : Result (List A × List ℕ) ℕ) (e : ReadCert) →
    0 < length bytes → goes bytes ≡ true → Fails e (item low line bytes) → SoFar goes after item line front low bytes total → Fails e total
unfolding items_at
breaks {A} goes after item line low front bytes total errors.NoMemory some going failed so_far = tt
breaks {A} goes after item line low front bytes total (errors.Refused l) some going failed so_far = by so_far.0 so_far.1 so_far.2
  where
    by : (most : ℕ) → length bytes ≤ most → with_front front (items_at goes after item most low line bytes) ≡ total → total ≡ Err l
    by zero long e = absurd (omega (arith, long, some))
    by (suc most) long e =
        let one : with_front front (items_at goes after item (suc most) low line bytes) ≡ Err l = rw (going, failed) refl in
        sym e ∙ one

pub is_done : {A : Type 0} (goes : List ℕ → Bool) (after : A → ℕ) (item : ℕ → ℕ → List ℕ → Result (A × List ℕ) ℕ)
    (line low : ℕ) (front : List A) (bytes : List ℕ) (total : Result (List A × List ℕ) ℕ) →
    goes bytes ≡ false → SoFar goes after item line front low bytes total → total ≡ Ok (front, bytes)
unfolding items_at
is_done {A} goes after item line low front bytes total ended so_far = by so_far.0 so_far.2
  where
    by : (most : ℕ) → with_front front (items_at goes after item most low line bytes) ≡ total → total ≡ Ok (front, bytes)
    by zero e = sym e ∙ ap (λ (zs : List A). Ok (zs, bytes)) (append-nil front)
    by (suc most) e =
        let one : with_front front (items_at goes after item (suc most) low line bytes) ≡ Ok (front, bytes) =
        rw ended (ap (λ (zs : List A). Ok (zs, bytes)) (append-nil front)) in
        sym e ∙ one

-- ---- each item takes bytes

index_short : (n low line : ℕ) (bytes : List ℕ) (x : ℕ × List ℕ) → index_at n low line bytes ≡ Ok x → length x.1 ≤ length bytes
unfolding index_at
index_short n low line bytes x e =
    let a = bind_ok (number_at n line bytes) (λ number. cond (nat_lt low number.0) (Ok (number.0 - 1, number.1)) (Err line)) x e in
    let t = number_takes n line bytes a.0 a.1 in
    let same : a.0.1 ≡ x.1 = ap (λ y. y.1) (guard_ok (nat_lt low a.0.0) line (a.0.0 - 1, a.0.1) x a.2).1 in
    omega (arith, ap length t.0, length-append (decimal a.0.0) a.0.1, ap length same)

positive_short : (limit line : ℕ) (bytes : List ℕ) (x : ℕ × List ℕ) → positive_at limit line bytes ≡ Ok x → length x.1 ≤ length bytes
unfolding positive_at
positive_short limit line bytes x e =
    let a = bind_ok (number_at limit line bytes) (λ number. cond (nat_lt 0 number.0) (Ok (number.0, number.1)) (Err line)) x e in
    let t = number_takes limit line bytes a.0 a.1 in
    let same : a.0.1 ≡ x.1 = ap (λ y. y.1) (guard_ok (nat_lt 0 a.0.0) line (a.0.0, a.0.1) x a.2).1 in
    omega (arith, ap length t.0, length-append (decimal a.0.0) a.0.1, ap length same)

text_short : (text : List ℕ) (line : ℕ) (bytes : List ℕ) (x : Unit {0} × List ℕ) → text_at text line bytes ≡ Ok x → length bytes ≡ length text + length x.1
text_short text line bytes x e = ap length (text_takes text line bytes x e) ∙ length-append text x.1

pub marked_short : (mark : List ℕ) (n low line : ℕ) (bytes : List ℕ) (x : ℕ × List ℕ) → 0 < length mark →
    marked_at mark n low line bytes ≡ Ok x → length x.1 < length bytes
unfolding marked_at
marked_short mark n low line bytes x some e =
    let a = bind_ok (text_at mark line bytes) (λ behind. index_at n low line behind.1) x e in
    omega (arith, some, text_short mark line bytes a.0 a.1, index_short n low line a.0.1 x a.2)

pub pair_short : (m n low line : ℕ) (bytes : List ℕ) (x : (ℕ × ℕ) × List ℕ) → pair_at m n low line bytes ≡ Ok x → length x.1 < length bytes
unfolding pair_at
pair_short m n low line bytes x e =
    let a = bind_ok (text_at (codes " ") line bytes) (λ space. index_at m low line space.1 >>= λ row. text_at
    (codes "=") line row.1 >>= λ equals. index_at n 0 line equals.1 >>= λ column. Ok
    ((row.0, column.0), column.1)) x e in
    let b = bind_ok (index_at m low line a.0.1) (λ row. text_at
    (codes "=") line row.1 >>= λ equals. index_at n 0 line equals.1 >>= λ column. Ok
    ((row.0, column.0), column.1)) x a.2 in
    let c = bind_ok (text_at (codes "=") line b.0.1) (λ equals. index_at n 0 line equals.1 >>= λ column. Ok ((b.0.0, column.0), column.1)) x b.2 in
    let d = bind_ok (index_at n 0 line c.0.1) (λ column. Ok ((b.0.0, column.0), column.1)) x c.2 in
    let same : d.0.1 ≡ x.1 = ap (λ y. y.1) (guard_ok true line ((b.0.0, d.0.0), d.0.1) x d.2).1 in
    omega (
      arith,
      text_short (codes " ") line bytes a.0 a.1,
      index_short m low line a.0.1 b.0 b.1,
      text_short
          (codes "=") line b.0.1 c.0 c.1,
      index_short n 0 line c.0.1 d.0 d.1,
      ap length same,
    )

pub entry_short : (modulus n low line : ℕ) (bytes : List ℕ) (x : (ℕ × ℕ) × List ℕ) → entry_at modulus n low line bytes ≡ Ok x → length x.1 < length bytes
unfolding entry_at
entry_short modulus n low line bytes x e =
    let a = bind_ok (text_at (codes " ") line bytes) (λ space. index_at n low line space.1 >>= λ column. text_at
    (codes "=") line column.1 >>= λ equals. positive_at (modulus - 1) line equals.1 >>= λ value. Ok
    ((column.0, value.0), value.1)) x e in
    let b = bind_ok (index_at n low line a.0.1) (λ column. text_at
    (codes "=") line column.1 >>= λ equals. positive_at (modulus - 1) line equals.1 >>= λ value. Ok
    ((column.0, value.0), value.1)) x a.2 in
    let c = bind_ok (text_at (codes "=") line b.0.1) (λ equals. positive_at (modulus - 1) line equals.1 >>= λ value. Ok ((b.0.0, value.0), value.1)) x b.2 in
    let d = bind_ok (positive_at (modulus - 1) line c.0.1) (λ value. Ok ((b.0.0, value.0), value.1)) x c.2 in
    let same : d.0.1 ≡ x.1 = ap (λ y. y.1) (guard_ok true line ((b.0.0, d.0.0), d.0.1) x d.2).1 in
    omega (
      arith,
      text_short (codes " ") line bytes a.0 a.1,
      index_short n low line a.0.1 b.0 b.1,
      text_short
          (codes "=") line b.0.1 c.0 c.1,
      positive_short (modulus - 1) line c.0.1 d.0 d.1,
      ap length same,
    )

-- where an item goes on there is a byte
pub going_some : (bytes : List ℕ) → goes_on bytes ≡ true → 0 < length bytes
going_some [] e = absurd cc
going_some (b ∷ bs) e = omega arith

pub beginning_some : (mark bytes : List ℕ) → 0 < length mark → begins_with mark bytes ≡ true → 0 < length bytes
beginning_some [] bytes some e = absurd (omega arith)
beginning_some (m ∷ ms) [] some e = absurd cc
beginning_some (m ∷ ms) (b ∷ bs) some e = omega arith

-- ---- values seen by their numbers

pub numbered-more : {T : Type 0} (number : T → ℕ) (entries : List (ℕ × T)) (entry : ℕ × T) →
    numbered number (entries ++ entry ∷ []) ≡ numbered number entries ++ (entry.0, number entry.1) ∷ []
numbered-more number entries entry = map-append (λ e. (e.0, number e.1)) entries (entry ∷ [])

pub rows_numbered-more : {T : Type 0} (number : T → ℕ) (rows : List (List (ℕ × T))) (row : List (ℕ × T)) →
    numbered_rows number (rows ++ row ∷ []) ≡ numbered_rows number rows ++ numbered number row ∷ []
rows_numbered-more number rows row = map-append (numbered number) rows (row ∷ [])

-- ---- rows

pub rows_begin : {A : Type 0} (row : ℕ → ℕ → List ℕ → Result (A × List ℕ) ℕ) (count line : ℕ) (bytes : List ℕ) →
    with_front [] (rows_at row (count - 0) (0 + 1) (line + 0) bytes) ≡ rows_at row count 1 line bytes
rows_begin {A} row count line bytes =
    same (rows_at row (count - 0) (0 + 1) (line + 0) bytes) ∙ ap (λ k. rows_at row k (0 + 1) (line + 0) bytes)
    (let e : count - 0 ≡ count = omega arith in e) ∙ ap (λ k. rows_at row count 1 k bytes)
    (let e : line + 0 ≡ line = omega arith in e)
  where
    same : (read : Result (List A × List ℕ) ℕ) → with_front [] read ≡ read
    same (Ok x) = refl
    same (Err l) = refl

pub rows_further : {A : Type 0} (row : ℕ → ℕ → List ℕ → Result (A × List ℕ) ℕ) (count i line : ℕ) (front : List A)
    (bytes : List ℕ) (a : A) (left : List ℕ) (total : Result (List A × List ℕ) ℕ) → i < count →
    row (i + 1) (line + i) bytes ≡ Ok (a, left) → with_front front
    (rows_at row (count - i) (i + 1) (line + i) bytes) ≡ total →
    with_front (front ++ a ∷ []) (rows_at row (count - (i + 1)) (i + 1 + 1) (line + (i + 1)) left) ≡ total
unfolding rows_at
rows_further {A} row count i line front bytes a left total less read so_far =
    let k : count - i ≡ suc (count - (i + 1)) = omega arith in
    let m : line + i + 1 ≡ line + (i + 1) = omega arith in
    let one : with_front front (rows_at row (count - i) (i + 1) (line + i) bytes) ≡ with_front (front ++ a ∷ [])
    (rows_at row (count - (i + 1)) (i + 1 + 1) (line + i + 1) left) =
    rw (k, read) (regroup front a (rows_at row (count - (i + 1)) (i + 1 + 1) (line + i + 1) left)) in
    ap (λ j. with_front (front ++ a ∷ []) (rows_at row (count - (i + 1)) (i + 1 + 1) j left)) (sym m) ∙ sym one ∙ so_far

pub rows_break : {A : Type 0} (row : ℕ → ℕ → List ℕ → Result (A × List ℕ) ℕ) (count i line : ℕ) (front : List A)
    (bytes : List ℕ) (total : Result (List A × List ℕ) ℕ) (e : ReadCert) → i < count →
    Fails e (row (i + 1) (line + i) bytes) → with_front front (rows_at row (count - i) (i + 1) (line + i) bytes) ≡ total → Fails e total
unfolding rows_at
rows_break {A} row count i line front bytes total errors.NoMemory less failed so_far = tt
rows_break {A} row count i line front bytes total (errors.Refused l) less failed so_far =
    let k : count - i ≡ suc (count - (i + 1)) = omega arith in
    let one : with_front front (rows_at row (count - i) (i + 1) (line + i) bytes) ≡ Err l = rw (k, failed) refl in
    sym so_far ∙ one

pub rows_done : {A : Type 0} (row : ℕ → ℕ → List ℕ → Result (A × List ℕ) ℕ) (count i line : ℕ) (front : List A)
    (bytes : List ℕ) (total : Result (List A × List ℕ) ℕ) → count ≤ i →
    with_front front (rows_at row (count - i) (i + 1) (line + i) bytes) ≡ total → total ≡ Ok (front, bytes)
unfolding rows_at
rows_done {A} row count i line front bytes total less so_far =
    let k : count - i ≡ 0 = omega arith in
    let one : with_front front (rows_at row (count - i) (i + 1) (line + i) bytes) ≡ Ok (front, bytes) =
    rw k (ap (λ (zs : List A). Ok (zs, bytes)) (append-nil front)) in
    sym so_far ∙ one
