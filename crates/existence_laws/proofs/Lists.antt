-- Lists that are made of functions: rising members, entries, rows, and pairs of rows and columns.
use Rattle.std.proofs.Common.{◌≡◌, ℕ, zero, suc, ◌+◌, ◌<◌, ◌≤◌, Bool, true, false, cond, eqb, inl, inr, List, [], ◌∷◌}
use Rattle.std.proofs.Common.{◌++◌, length, get_or, refl, ap, sym, subst, ◌∙◌, arith, add-one}
use Rattle.std.proofs.lemmas.List.{get_or_append_left, get_or_push, length_push}
use Rattle.std.proofs.lemmas.List.Elements.{All-nil}
use Rattle.residue_theory.specs.Sets.{has}
use Rattle.residue_theory.proofs.SumLaws.{nat_cases}
use Rattle.residue_theory.proofs.SetLaws.{differ, eqb_true, eqb_from}
use Rattle.cert_text.specs.Ranges.{AreEntries, AreRising}
use Rattle.ccf_builder.specs.Matrices.{PrintsPattern}
use Rattle.ccf_builder.specs.Pairs.{ListsPairs}
use Rattle.ccf_builder.specs.Placings.{ListsBelow}
use Rattle.ccf_builder.proofs.MemberLists as members
use Rattle.ccf_builder.proofs.PairLists as pairs
use Rattle.cert_checker.proofs.PrintedRows.{matrix-push, row-more, row-same}
use Rattle.ccf_builder.proofs.PrintedRows.{pattern-push}
use Rattle.cert_text.specs.Printing.{PrintsMatrix, PrintsRow}

next : (n : ℕ) → n + 1 ≡ suc n
next n = add-one n

-- ---- the members of a set below n, rising
pub members_of : (ℕ → Bool) → ℕ → List ℕ
members_of X zero = []
members_of X (suc n) = cond (X n) (members_of X n ++ n ∷ []) (members_of X n)

pub members-are : (X : ℕ → Bool) (n : ℕ) → ListsBelow (λ x. X x ≡ true) n (members_of X n)
unfolding members_of
members-are X zero = members.lists-none (λ x. X x ≡ true)
members-are X (suc n) = go (members-are X n) (X n) refl
  where
    go : ListsBelow (λ x. X x ≡ true) n (members_of X n) → (b : Bool) → X n ≡ b →
        ListsBelow (λ x. X x ≡ true) (suc n) (cond b (members_of X n ++ n ∷ []) (members_of X n))
    go before true is = subst (λ m. ListsBelow (λ x. X x ≡ true) m (members_of X n ++ n ∷ [])) (next n)
        (members.lists-more (λ x. X x ≡ true) n (members_of X n) before is)
    go before false is = subst (λ m. ListsBelow (λ x. X x ≡ true) m (members_of X n)) (next n)
        (members.lists-same (λ x. X x ≡ true) n (members_of X n) before (λ h. differ is h))

-- ---- the values of a function at 0 to n - 1
pub values_of : {A : Type 0} → (ℕ → A) → ℕ → List A
values_of f zero = []
values_of f (suc n) = values_of f n ++ f n ∷ []

pub values-none : {A : Type 0} (f : ℕ → A) → values_of f zero ≡ []
unfolding values_of
values-none f = refl

pub values-more : {A : Type 0} (f : ℕ → A) (n : ℕ) → values_of f (suc n) ≡ values_of f n ++ f n ∷ []
unfolding values_of
values-more f n = refl

pub values-long : {A : Type 0} (f : ℕ → A) (n : ℕ) → length (values_of f n) ≡ n
unfolding values_of
values-long f zero = refl
values-long f (suc n) = length_push (values_of f n) (f n) ∙ ap (λ m. m + 1) (values-long f n) ∙ next n

pub values-at : {A : Type 0} (f : ℕ → A) (n k : ℕ) (d : A) → k < n → get_or (values_of f n) k d ≡ f k
unfolding values_of
values-at f zero k d low = absurd (omega (arith, low))
values-at f (suc n) k d low = elim (nat_cases k n) [
  | inl last ↦ get_or_push (values_of f n) (f n) d k (values-long f n ∙ sym last) ∙ ap f (sym last)
  | inr other ↦
      let before : k < n = omega (arith, low, other) in
      get_or_append_left (values_of f n) (f n ∷ []) d k (omega (arith, before, values-long f n)) ∙ values-at f n k d before
]

-- ---- the entries of a row that are not 0
pub entries_of : (ℕ → ℕ) → ℕ → List (ℕ × ℕ)
entries_of a zero = []
entries_of a (suc n) = cond (eqb (a n) 0) (entries_of a n) (entries_of a n ++ (n, a n) ∷ [])

module _ (p : ℕ) (a : ℕ → ℕ) (small : (j : ℕ) → a j < p) where
  pub entries-print : (n : ℕ) → PrintsRow p n a (entries_of a n)
  unfolding entries_of
  entries-print zero = record {
    are = record { rising = λ k kl. absurd (omega (arith, kl)); within = All-nil (λ (entry : ℕ × ℕ). (entry.0 < 0) × (0 < entry.1) × (entry.1 < p)) };
    same = λ j low. absurd (omega (arith, low));
  }
  entries-print (suc n) = go (entries-print n) (eqb (a n) 0) refl
    where
      go : PrintsRow p n a (entries_of a n) → (b : Bool) → eqb (a n) 0 ≡ b →
          PrintsRow p (suc n) a (cond b (entries_of a n) (entries_of a n ++ (n, a n) ∷ []))
      go before true is = subst (λ m. PrintsRow p m a (entries_of a n)) (next n) (row-same p n a (entries_of a n) before (eqb_true (a n) 0 is))
      go before false is = subst (λ m. PrintsRow p m a (entries_of a n ++ (n, a n) ∷ [])) (next n)
          (row-more p n a (entries_of a n) before (a n) refl (λ e. differ is (eqb_from (a n) 0 e)) (small n))

-- ---- the rows of a matrix
pub rows_of : (ℕ → ℕ → ℕ) → ℕ → ℕ → List (List (ℕ × ℕ))
rows_of a zero n = []
rows_of a (suc m) n = rows_of a m n ++ entries_of (a m) n ∷ []

module _ (p n : ℕ) (a : ℕ → ℕ → ℕ) (small : (i j : ℕ) → a i j < p) where
  pub rows-print : (m : ℕ) → PrintsMatrix p m n a (rows_of a m n)
  unfolding rows_of
  rows-print zero = record {
    is = record { count = refl; entries = All-nil (AreEntries p n) };
    same = λ i j il jl. absurd (omega (arith, il));
  }
  rows-print (suc m) = subst (λ k. PrintsMatrix p k n a (rows_of a m n ++ entries_of (a m) n ∷ [])) (next m)
      (matrix-push p m n a (rows_of a m n) (entries_of (a m) n) (rows-print m) (entries-print p (a m) (small m) n))

-- ---- the rows of a pattern
pub pattern_rows : (ℕ → ℕ → Bool) → ℕ → ℕ → List (List ℕ)
pattern_rows t zero n = []
pattern_rows t (suc m) n = pattern_rows t m n ++ members_of (t m) n ∷ []

pub same_test : (a b : Bool) → (a ≡ true → b ≡ true) → (b ≡ true → a ≡ true) → a ≡ b
same_test true b f g = sym (f refl)
same_test false true f g = g refl
same_test false false f g = refl

pub members-has : (X : ℕ → Bool) (n x : ℕ) → x < n → has (members_of X n) x ≡ X x
members-has X n x low = let at = (members-are X n).exact x low in same_test (has (members_of X n) x) (X x) at.0 at.1

pub pattern-prints : (t : ℕ → ℕ → Bool) (n m : ℕ) → PrintsPattern m n t (pattern_rows t m n)
unfolding pattern_rows
pattern-prints t n zero = record {
  is = record { count = refl; columns = All-nil (AreRising n) };
  same = λ i j il jl. absurd (omega (arith, il));
}
pattern-prints t n (suc m) =
    let row = members-are (t m) n in
    subst (λ k. PrintsPattern k n t (pattern_rows t m n ++ members_of (t m) n ∷ [])) (next m)
    (pattern-push m n t (pattern_rows t m n) (members_of (t m) n) (pattern-prints t n m) row.rising.rising
    (λ k kl. row.rising.below k 0 kl) (λ j jl. members-has (t m) n j jl))

-- ---- rows with their columns, where row r has column (at r) if X holds of it
pub pairs_of : (ℕ → Bool) → (ℕ → ℕ) → ℕ → List (ℕ × ℕ)
pairs_of X at zero = []
pairs_of X at (suc m) = cond (X m) (pairs_of X at m ++ (m, at m) ∷ []) (pairs_of X at m)

module _ (Has : ℕ → ℕ → Type 0) (X : ℕ → Bool) (at : ℕ → ℕ) (one : (r y z : ℕ) → Has r y → Has r z → y ≡ z)
    (some : (r : ℕ) → X r ≡ true → Has r (at r)) (none : (r y : ℕ) → X r ≡ false → Has r y → ⊥) where
  pub pairs-are : (m : ℕ) → ListsPairs Has m (pairs_of X at m)
  unfolding pairs_of
  pairs-are zero = record {
    below = λ k kl. absurd (omega (arith, kl));
    member = λ k kl. absurd (omega (arith, kl));
    rising = λ k l less ll. absurd (omega (arith, ll));
    all = λ r y low has. absurd (omega (arith, low));
  }
  pairs-are (suc m) = go (pairs-are m) (X m) refl
    where
      go : ListsPairs Has m (pairs_of X at m) → (b : Bool) → X m ≡ b →
          ListsPairs Has (suc m) (cond b (pairs_of X at m ++ (m, at m) ∷ []) (pairs_of X at m))
      go before true is = subst (λ k. ListsPairs Has k (pairs_of X at m ++ (m, at m) ∷ [])) (next m)
          (pairs.lists-some Has m (at m) (pairs_of X at m) one (some m is) before)
      go before false is = subst (λ k. ListsPairs Has k (pairs_of X at m)) (next m)
          (pairs.lists-none Has m (pairs_of X at m) (λ y. none m y is) before)

-- no more of them than rows
pub pairs-few : (X : ℕ → Bool) (at : ℕ → ℕ) (m : ℕ) → length (pairs_of X at m) ≤ m
unfolding pairs_of
pairs-few X at zero = omega arith
pairs-few X at (suc m) = go (pairs-few X at m) (X m)
  where
    go : length (pairs_of X at m) ≤ m → (b : Bool) → length (cond b (pairs_of X at m ++ (m, at m) ∷ []) (pairs_of X at m)) ≤ suc m
    go few true = omega (arith, few, length_push (pairs_of X at m) (m, at m))
    go few false = omega (arith, few)
