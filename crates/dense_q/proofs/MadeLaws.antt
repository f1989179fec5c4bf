-- Matrices that are made row by row.
use Rattle.std.proofs.Common.{◌≡◌, ℕ, suc, zero, ◌+◌, ◌*◌, ◌%◌, ◌<◌, ◌≤◌, ◌≢◌, inl, inr, List, [], ◌∷◌, ◌++◌, map, take}
use Rattle.std.proofs.Common.{length, replicate, slice_index, slice_index_or, slice_set, refl, sym, subst, ap, ◌∙◌, Vec}
use Rattle.std.proofs.Common.{vec_len, arith, add-one, length-append}
use Rattle.std.specs.List.{All}
use Rattle.std.specs.Vec.{with_items}
use Rattle.std.proofs.Math.ListN.{get_or-append}
use Rattle.std.proofs.Math.Nat.{mod-add-mod}
use Rattle.std.proofs.Math.Seq.{get_or-append_seam, take-suc}
use Rattle.std.proofs.lemmas.Bool.Decides.{nat_tests}
use Rattle.std.proofs.lemmas.List.{map-append, get_or-map, get_or-set_same, get_or-set_other, get_or-replicate, length-map, length-replicate, with_items_is}
use Rattle.std.proofs.lemmas.List.Elements.{All-push}
use Rattle.residue_theory.specs.Sums.{sum_below}
use Rattle.residue_theory.proofs.SumLaws.{nat_cases}
use Rattle.linear_algebra.specs.Products.{identity, product}
use Rattle.residue_field.specs.Rows.{plus_multiple}
use Rattle.residue_field.proofs.RowLaws.{plus_multiple-at}
use Rattle.dense_q.specs.Rows.{IsRowSum}
use Rattle.dense_q.specs.Storage.{IsStored}
use Rattle.dense_q.specs.Tables.{Table, IsTableOf, IsProduct, height, entry}
use Rattle.dense_q.proofs.TableLaws.{numbers, numbers-row}

pub pushed-count : {X : Type 0} (all more : List X) (row : X) (i : ℕ) → more ≡ all ++ row ∷ [] → length all ≡ i → length more ≡ i + 1
pushed-count all more row i e count = ap length e ∙ length-append all (row ∷ []) ∙ ap (λ n. n + 1) count

pub pushed-widths : {A Z : Type 0} (w : ℕ) (all more : List (Vec A Z)) (row : Vec A Z) → more ≡ all ++ row ∷ [] →
    All (λ r. vec_len r ≡ w) all → vec_len row ≡ w → All (λ r. vec_len r ≡ w) more
pushed-widths w all more row e before now = subst (λ rs. All (λ r. vec_len r ≡ w) rs) (sym e) (All-push (λ r. vec_len r ≡ w) all row before now)

-- one more item, whose number is that of the next one of xs
pub taken_more : {W X Y : Type 0} (number : X → Y) (f : W → Y) (xs : List W) (items more : List X) (w : W) (x : X)
    (i : ℕ) → more ≡ items ++ x ∷ [] → map number items ≡ take i (map f xs) →
    i < length xs → w ≡ slice_index_or xs i w → number x ≡ f w → map number more ≡ take (i + 1) (map f xs)
taken_more number f xs items more w x i e so_far l is same =
    ap (λ ys. map number ys) e ∙ map-append number items (x ∷ []) ∙ ap (λ ys. ys ++ number x ∷ []) so_far
    ∙ ap (λ y. take i (map f xs) ++ y ∷ []) (same ∙ ap f is ∙ sym (get_or-map f xs i w (f w) l))
    ∙ sym (take-suc (map f xs) i (f w) (omega (arith, length-map xs f)))
    ∙ ap (λ j. take j (map f xs)) (sym (add-one i))

module _ {A Z : Type 0} (number : A → ℕ) where
  -- what holds of each row so far, and of the one that is put below them
  pub pushed : (P : ℕ → List ℕ → Type 0) (all more : List (Vec A Z)) (row : Vec A Z) (i : ℕ) → more ≡ all ++ row ∷ [] → length all ≡ i →
      ((k : ℕ) → k < i → P k (slice_index_or (numbers number all) k [])) → P i (map number row.items) → (k : ℕ) →
      k < i + 1 → P k (slice_index_or (numbers number more) k [])
  pushed P all more row i e count before now k l = elim (nat_cases k i) [
    | inl q ↦ subst (λ w. P w (slice_index_or (numbers number more) w [])) (sym q) (subst (λ r. P i r) (sym at_i) now)
    | inr ne ↦ subst (λ r. P k r) (sym (at_k (omega arith))) (before k (omega arith))
  ]
    where
      parts : numbers number more ≡ numbers number all ++ map number row.items ∷ []
      parts = ap (λ rs. numbers number rs) e ∙ map-append (λ (r : Vec A Z). map number r.items) all (row ∷ [])

      long : length (numbers number all) ≡ i
      long = length-map all (λ (r : Vec A Z). map number r.items) ∙ count

      at_i : slice_index_or (numbers number more) i [] ≡ map number row.items
      at_i = ap (λ rs. slice_index_or rs i []) parts
          ∙ subst (λ j. slice_index_or (numbers number all ++ map number row.items ∷ []) j [] ≡ map number row.items)
          long (get_or-append_seam (numbers number all) (map number row.items) [] [])

      at_k : k < i → slice_index_or (numbers number more) k [] ≡ slice_index_or (numbers number all) k []
      at_k less = ap (λ rs. slice_index_or rs k []) parts ∙ get_or-append (numbers number all) (map number row.items ∷ []) [] k (omega (arith, long))

  pub pushed-stored : (w i : ℕ) (all : List (Vec A Z)) → All (λ r. vec_len r ≡ w) all → length all ≡ i → i ≤ 8192 → w ≤ 8192 → IsStored w all
  pushed-stored w i all widths count few narrow = record { full = widths; few = omega arith; narrow = narrow }

  -- the rows of a, i of which were made
  pub made : (h w width i : ℕ) (a : ℕ → ℕ → ℕ) (all : List (Vec A Z)) → width ≡ w → length all ≡ i → h ≤ i → i ≤ h →
      ((k : ℕ) → k < i → (j : ℕ) → j < w → slice_index (slice_index_or (numbers number all) k []) j ≡ a k j) →
      IsTableOf h w a (record { width = width; rows = numbers number all })
  made h w width i a all wide count enough most done = record {
    height_is = omega (arith, length-map all (λ (r : Vec A Z). map number r.items));
    width_is = wide;
    entries = λ k j kl jl. done k (omega arith) j jl;
  }

  -- the values at column i are the entries of a row of the transposed matrix
  pub column-at : (rows : List (Vec A Z)) (i j : ℕ) →
      slice_index (map (λ (row : Vec A Z). slice_index (map number row.items) i) rows) j ≡ slice_index
      (slice_index_or (numbers number rows) j []) i
  column-at [] i j = refl
  column-at (row ∷ rows) i zero = refl
  column-at (row ∷ rows) i (suc j) = column-at rows i j

  -- one more row, times its coefficient
  module _ (p w k : ℕ) (coefficients : List A) (rows : List (Vec A Z)) (sum row : Vec A Z) (c : A) (old new others : List A)
      (cl : k < length coefficients) (rl : k < length rows) (c_is : c ≡ slice_index_or coefficients k c) (row_is : row ≡ slice_index_or rows k row)
      (same : old ≡ sum.items) (len : length new ≡ length old) (other_same : others ≡ row.items) (equal : length old ≡ length others)
      (added : map number new ≡ plus_multiple p (number c) (map number old) (map number others)) where
    items_new : (with_items sum new).items ≡ new
    items_new = with_items_is sum new (len ∙ ap length same ∙ sym sum.ok.0)

    pub combined-length : length sum.items ≡ w → length (with_items sum new).items ≡ w
    combined-length e = ap length items_new ∙ len ∙ ap length same ∙ e

    terms : ℕ → ℕ → ℕ
    terms j t = slice_index (map number coefficients) t * slice_index (slice_index_or (numbers number rows) t []) j

    pub combined-sums : (n : ℕ) → n ≡ k + 1 → length sum.items ≡ w →
        ((j : ℕ) → j < w → slice_index (map number sum.items) j ≡ sum_below k
        (λ t. slice_index (map number coefficients) t * slice_index (slice_index_or (numbers number rows) t [])
        j) % p) →
        (j : ℕ) → j < w → slice_index (map number (with_items sum new).items) j ≡ sum_below n
        (λ t. slice_index (map number coefficients) t * slice_index (slice_index_or (numbers number rows) t [])
        j) % p
    unfolding terms
    combined-sums n next e before j jl =
        ap (λ xs. slice_index (map number xs) j) items_new
        ∙ ap (λ xs. slice_index xs j) added
        ∙ plus_multiple-at p (number c) (map number old) (map number others) j
        (omega (arith, length-map old number, length-map others number))
        (omega (arith, length-map old number, ap length same))
        ∙ ap (λ xs. (slice_index (map number xs) j + number c * slice_index (map number others) j) % p) same
        ∙ ap (λ x. (x + number c * slice_index (map number others) j) % p) (before j jl)
        ∙ mod-add-mod (sum_below k (terms j)) p (number c * slice_index (map number others) j)
        ∙ ap (λ x. (sum_below k (terms j) + x * slice_index (map number others) j) % p) (ap number c_is ∙ sym (get_or-map number coefficients k c 0 cl))
        ∙ ap (λ xs. (sum_below k (terms j) + slice_index (map number coefficients) k * slice_index xs j) % p)
        (ap (λ xs. map number xs) other_same ∙ sym (numbers-row number rows k row rl row_is))
        ∙ ap (λ m. sum_below m (terms j) % p) (sym (add-one k) ∙ sym next)

pub identity-at : (n i j : ℕ) → i < n → j < n → slice_index (slice_set (replicate n 0) i 1) j ≡ identity i j
identity-at n i j il jl = elim (nat_cases i j) [
  | inl q ↦ subst (λ k. slice_index (slice_set (replicate n 0) i 1) k ≡ identity i k) q
      (get_or-set_same (replicate n 0) i 1 0 (omega (arith, length-replicate {A = ℕ} n 0)) ∙ same i)
  | inr ne ↦ get_or-set_other (replicate n 0) i j 1 0 (λ e. ne (sym e)) ∙ get_or-replicate n j 0 0 jl ∙ sym (other ne)
]
  where
    same : (k : ℕ) → 1 ≡ identity k k
    same k = grind (arith, nat_tests)

    other : i ≢ j → identity i j ≡ 0
    other ne = grind (arith, nat_tests)

-- the rows of a product, each a combination of the rows of b
pub made_product : {A Z : Type 0} (number : A → ℕ) (p : ℕ) (a b : Table) (i : ℕ) (first : List (List ℕ))
    (all : List (Vec A Z)) → first ≡ a.rows → a.width ≡ height b → length all ≡ i → height a ≡ i →
    ((k : ℕ) → k < i → IsRowSum p (slice_index_or first k []) b.rows b.width
    (slice_index_or (numbers number all) k [])) →
    IsProduct p a b (record { width = b.width; rows = numbers number all })
made_product number p a b i first all same match count last done =
    made number (height a) b.width b.width i (λ k j. product a.width (entry a) (entry b) k j % p) all refl count (omega arith) (omega arith)
    (λ k kl j jl. (done k kl).sums j jl
    ∙ ap (λ rs. sum_below (height b) (λ t. slice_index (slice_index_or rs k []) t * entry b t j) % p) same
    ∙ ap (λ n. sum_below n (λ t. entry a k t * entry b t j) % p) (sym match))
