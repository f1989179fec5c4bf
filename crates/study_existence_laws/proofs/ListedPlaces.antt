-- The places of the symbols of a model, as a list.
use Rattle.std.proofs.Common.{◌≡◌, ℕ, zero, suc, ◌+◌, ◌-◌, ◌<◌, ◌≤◌, ◌⊎◌, Bool, true, false, cond, List, [], ◌∷◌, ◌++◌, length}
use Rattle.std.proofs.Common.{slice_index_or, inl, inr, refl, ap, sym, subst, ◌∙◌, arith}
use Rattle.std.proofs.lemmas.List.{get_or_append_left, get_or_push, length_push}
use Rattle.residue_theory.specs.Sums.{size_on, sum_below}
use Rattle.residue_theory.proofs.SetLaws.{lt_cases}
use Rattle.residue_theory.proofs.SumLaws.{nat_cases}
use Rattle.mixed_matrices.specs.Models.{MixedMatrix}
use Rattle.value_list_laws.specs.ListedValues.{symbol_count}
use Rattle.symbol_places.specs.Places.{AreSymbolPlaces, IsSymbolAfter}
use Rattle.symbol_places.specs.declared.places.SymbolPlace.{SymbolPlace}

-- ---- a list of n items, item h of which stands to h as P says
pub record HasItems {A : Type 0} (P : ℕ → A → Type 0) (n : ℕ) : Type 0 where
  pub list : List A
  pub count : length list ≡ n
  pub each : (h : ℕ) (d : A) → h < n → P h (slice_index_or list h d)

pub items-listed : {A : Type 0} (P : ℕ → A → Type 0) (n : ℕ) → ((h : ℕ) → h < n → (x : A) × P h x) → HasItems P n
items-listed P zero some = record { list = []; count = refl; each = λ h d hl. absurd (omega (arith, hl)) }
items-listed {A} P (suc n) some = go (items-listed P n (λ h hl. some h (omega (arith, hl)))) (some n (omega arith))
  where
    go : HasItems P n → (x : A) × P n x → HasItems P (suc n)
    go before (x, is) = record {
      list = before.list ++ x ∷ [];
      count = length_push before.list x ∙ (let q : length before.list + 1 ≡ suc n = omega (arith, before.count) in q);
      each = λ h d hl. elim (nat_cases h n) [
        | inl last ↦ subst (λ k. P k (slice_index_or (before.list ++ x ∷ []) k d)) (sym last)
            (subst (P n) (sym (get_or_push before.list x d n before.count)) is)
        | inr other ↦
            let less : h < n = omega (arith, hl, other) in
            subst (P h) (sym (get_or_append_left before.list (x ∷ []) d h (omega (arith, less, before.count)))) (before.each h d less)
      ];
    }

-- ---- the member of a set with h members before it
member_with : (A : ℕ → Bool) (n h : ℕ) → h < size_on A n → (j : ℕ) × (j < n) × (A j ≡ true) × (size_on A j ≡ h)
member_with A zero h l = absurd (omega arith)
member_with A (suc n) h l = go (A n) refl (lt_cases h (size_on A n)) (λ less. member_with A n h less)
  where
    go : (b : Bool) → A n ≡ b → (h < size_on A n) ⊎ (size_on A n ≤ h) →
        (h < size_on A n → (j : ℕ) × (j < n) × (A j ≡ true) × (size_on A j ≡ h)) →
        (j : ℕ) × (j < suc n) × (A j ≡ true) × (size_on A j ≡ h)
    go b e (inl less) ih = wider (ih less)
      where
        wider : (j : ℕ) × (j < n) × (A j ≡ true) × (size_on A j ≡ h) → (j : ℕ) × (j < suc n) × (A j ≡ true) × (size_on A j ≡ h)
        wider (j, jl, jh, q) = (j, omega arith, jh, q)
    go true e (inr more) ih = (n, omega arith, e, last (cond (A n) 1 0) (ap (λ b. cond b 1 0) e) l more)
      where
        last : (c : ℕ) → c ≡ 1 → h < size_on A n + c → size_on A n ≤ h → size_on A n ≡ h
        last c q a b = omega arith
    go false e (inr more) ih = absurd (above (cond (A n) 1 0) (ap (λ b. cond b 1 0) e) l more)
      where
        above : (c : ℕ) → c ≡ 0 → h < size_on A n + c → size_on A n ≤ h → ⊥
        above c q a b = omega arith

-- ---- the symbols
module _ (M : MixedMatrix) where
  abbrev in_row : ℕ → ℕ
  in_row k = size_on (M.symbol k) M.columns

  -- the symbol with h symbols before it, among those of the first R equations
  place_below : (R : ℕ) → R ≤ M.rows → (h : ℕ) → h < sum_below R in_row → (place : SymbolPlace) × IsSymbolAfter M h place
  place_below zero le h l = absurd (omega arith)
  place_below (suc R) le h l = go (lt_cases h (sum_below R in_row)) (λ less. place_below R (omega arith) h less)
    where
      go : (h < sum_below R in_row) ⊎ (sum_below R in_row ≤ h) → (h < sum_below R in_row → (place : SymbolPlace) × IsSymbolAfter M h place) →
          (place : SymbolPlace) × IsSymbolAfter M h place
      go (inl less) before = before less
      go (inr more) before = here (member_with (M.symbol R) M.columns (h - sum_below R in_row) (omega arith))
        where
          here : (j : ℕ) × (j < M.columns) × (M.symbol R j ≡ true) × (size_on (M.symbol R) j ≡ h - sum_below R in_row) →
              (place : SymbolPlace) × IsSymbolAfter M h place
          here (j, jl, jh, q) = (record { equation = R; unknown = j }, ((omega arith, jl, jh), omega arith))

  pub places-listed : (places : List SymbolPlace) × AreSymbolPlaces M places
  places-listed = go (items-listed (IsSymbolAfter M) (symbol_count M) (place_below M.rows (omega arith)))
    where
      go : HasItems (IsSymbolAfter M) (symbol_count M) → (places : List SymbolPlace) × AreSymbolPlaces M places
      go listed = (
        listed.list,
        record { count = listed.count; each = λ h d hl. listed.each h d (subst (λ n. h < n) listed.count hl) },
      )
