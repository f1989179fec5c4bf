-- Tables of places, filled one place after another.
use Rattle.std.proofs.Common.{◌≡◌, ℕ, ◌+◌, ◌<◌, ◌≤◌, ◌∙◌, inl, inr, List, Option, Some, None, length, slice_get, ap, sym, subst, arith}
use Rattle.std.proofs.lemmas.Option.{get_or_from_slice_get, slice_get-get_or, slice_get_within}
use Rattle.residue_theory.proofs.SetLaws.{lt_cases}
use Rattle.residue_theory.proofs.SumLaws.{nat_cases}
use Rattle.mixed_model.specs.declared.origin.Origin.{Origin}
use Rattle.mixed_model.specs.declared.origin.Origin.TheVariants.{Split, Unknown}
use Rattle.equation_choice.specs.Places.{HasPutPlace, FindsPlaces, FindsSplits, place_at}

-- of the places below k those at which S tells a number are in the table
pub record TellsBelow (S : ℕ → ℕ → Type 0) (n k : ℕ) (table : List (Option ℕ)) : Type 0 where
  pub count : length table ≡ n
  pub some : (x i : ℕ) → place_at table x ≡ Some i → (i < k) × S x i
  pub none : (x : ℕ) → x < n → place_at table x ≡ None → (i : ℕ) → i < k → S x i → ⊥

pub no-place : (i : ℕ) (o : Option ℕ) → o ≡ None → o ≡ Some i → ⊥
no-place i o none some = let bad : None ≡ Some i = sym none ∙ some in cc

same-place : (o : Option ℕ) (i k : ℕ) → o ≡ Some i → o ≡ Some k → k ≡ i
same-place o i k a b = let e : Some i ≡ Some k = sym a ∙ b in cc

module _ (S : ℕ → ℕ → Type 0) (n : ℕ) where
  pub below-none : (table : List (Option ℕ)) → length table ≡ n → ((x : ℕ) → place_at table x ≡ None) → TellsBelow S n 0 table
  below-none table count empty = record {
    count = count;
    some = λ x i h. absurd (no-place i (place_at table x) (empty x) h);
    none = λ x xl h i il. absurd (omega (arith, il));
  }

  -- a place that tells a number
  pub below-put : (k x : ℕ) (old now : List (Option ℕ)) → ((y : ℕ) → S y k → y ≡ x) → S x k → HasPutPlace x k old now → TellsBelow S n k old →
      TellsBelow S n (k + 1) now
  below-put k x old now one is P T = record {
    count = P.count ∙ T.count;
    some = λ y i h. elim (nat_cases y x) [
      | inl q ↦ elim (lt_cases x (length old)) [
        | inl low ↦ let e : k ≡ i = sym (same-place (place_at now x) k i (P.put low) (subst (λ z. place_at now z ≡ Some i) q h)) in
            (omega (arith, e), subst (λ z. S z i) (sym q) (subst (λ m. S x m) e is))
        | inr high ↦ absurd (no-place i (place_at now x) (P.past high) (subst (λ z. place_at now z ≡ Some i) q h))
      ]
      | inr ne ↦ let (less, told) = T.some y i (sym (P.others y ne) ∙ h) in (omega (arith, less), told)
    ];
    none = λ y yl h i il told. elim (nat_cases y x) [
      | inl q ↦ no-place k (place_at now x) (subst (λ z. place_at now z ≡ None) q h) (P.put (omega (arith, yl, q, T.count)))
      | inr ne ↦ elim (nat_cases i k) [
        | inl same ↦ ne (one y (subst (λ m. S y m) same told))
        | inr other ↦ T.none y yl (sym (P.others y ne) ∙ h) i (omega (arith, il, other)) told
      ]
    ];
  }

  -- a place that tells none
  pub below-skip : (k : ℕ) (table : List (Option ℕ)) → ((y : ℕ) → S y k → ⊥) → TellsBelow S n k table → TellsBelow S n (k + 1) table
  below-skip k table untold T = record {
    count = T.count;
    some = λ y i h. let (less, told) = T.some y i h in (omega (arith, less), told);
    none = λ y yl h i il told. elim (nat_cases i k) [
      | inl same ↦ untold y (subst (λ m. S y m) same told)
      | inr other ↦ T.none y yl h i (omega (arith, il, other)) told
    ];
  }

-- the number stands at the place
abbrev pub Gives : List ℕ → ℕ → ℕ → Type 0
Gives list x i = slice_get list i ≡ Some x

-- the column is the auxiliary one of the equation
abbrev pub Splits : List Origin → ℕ → ℕ → Type 0
Splits origins e y = slice_get origins y ≡ Some (Split e)

pub gives-one : (list : List ℕ) (i x y : ℕ) → Gives list x i → Gives list y i → y ≡ x
gives-one list i x y a b = let e : Some x ≡ Some y = sym a ∙ b in cc

pub splits-one : (origins : List Origin) (i : ℕ) (o : Origin) (e f : ℕ) → slice_get origins i ≡ Some o → o ≡ Split e → Splits origins f i → f ≡ e
splits-one origins i o e f a is b = let q : Some (Split e) ≡ Some (Split f) = sym (a ∙ ap Some is) ∙ b in cc

pub splits-none : (origins : List Origin) (i : ℕ) (o : Origin) (x f : ℕ) → slice_get origins i ≡ Some o → o ≡ Unknown x → Splits origins f i → ⊥
splits-none origins i o x f a is b = let q : Some (Unknown x) ≡ Some (Split f) = sym (a ∙ ap Some is) ∙ b in cc

-- when all are told
pub places-told : (n : ℕ) (list : List ℕ) (k : ℕ) (table : List (Option ℕ)) → length list ≤ k → TellsBelow (Gives list) n k table → FindsPlaces n list table
places-told n list k table end T = record {
  count = T.count;
  some = λ x i h. let told = (T.some x i h).1 in record {
    within = slice_get_within list i x told;
    item = get_or_from_slice_get list i x 0 told;
  };
  none = λ x xl h i il is. T.none x xl h i (omega (arith, il, end)) (slice_get-get_or list i 0 il ∙ ap Some is);
}

pub splits-told : (n : ℕ) (origins : List Origin) (k : ℕ) (table : List (Option ℕ)) → length origins ≤ k → TellsBelow (Splits origins) n k table →
    FindsSplits n origins table
splits-told n origins k table end T = record {
  count = T.count;
  some = λ e y h. (T.some e y h).1;
  none = λ e el h y is. let low = slice_get_within origins y (Split e) is in T.none e el h y (omega (arith, low, end)) is;
}
