-- A model of which equations are taken out from the last to the first, but for those of a rising list.
use Rattle.std.proofs.Common.{◌≡◌, ◌≢◌, ℕ, suc, ◌+◌, ◌<◌, inl, inr, List, [], ◌∷◌, ◌++◌, length, map, take, drop, get_or}
use Rattle.std.proofs.Common.{refl, ap, ap₂, sym, subst, ◌∙◌, arith, append_assoc, append-nil, All, AllPairs, length-append, length-take, take-take}
use Rattle.std.proofs.Common.{take_all, drop_of_length-le}
use Rattle.std.proofs.lemmas.List.{get_or_append_left, get_or_at, get_or_default, take-append-le, drop-append-le, take_more}
use Rattle.std.proofs.lemmas.List.Kept.{AllPairs-from_increasing}
use Rattle.std.specs.List.{remove}
use Rattle.residue_theory.proofs.SumLaws.{nat_cases}
use Rattle.cert_text.specs.Ranges.{AreRising}
use Rattle.mixed_model.specs.Entries.{RowEntry}
use Rattle.mixed_model.specs.Models.{MixedModel, equation_removed, row_of}
use Rattle.mixed_model.specs.Names.{name_at}
use Rattle.restricted_models.specs.Restrictions.{restricted}

-- the first k equations, and behind them those of a list
abbrev pub partly : MixedModel → ℕ → List ℕ → MixedModel
partly model k rest = record {
  equations = take k model.equations ++ map (name_at model.equations) rest;
  unknowns = model.unknowns;
  rows = take k model.rows ++ map (row_of model) rest;
}

-- the equations from k on were looked at: of the list these are left
pub record IsRestricting (model : MixedModel) (list left : List ℕ) (k : ℕ) (part : MixedModel) : Type 0 where
  pub rest : List ℕ
  pub split : list ≡ left ++ rest
  pub rising : AllPairs (λ x y. x < y) left
  pub below : All (λ x. x < k) left
  pub part_is : part ≡ partly model k rest

module _ {X : Type 0} (xs ys : List X) (k : ℕ) (within : k < length xs) where
  longer : length (take (k + 1) xs) ≡ k + 1
  longer = let long = length-take (k + 1) xs in omega arith

  put_back : (d : X) → take (k + 1) xs ++ ys ≡ take k xs ++ (get_or xs k d ∷ ys)
  put_back d = ap (λ front. front ++ ys) (take_more xs k d within) ∙ append_assoc (take k xs) (get_or xs k d ∷ []) ys

  taken_out : remove (take (k + 1) xs ++ ys) k ≡ take k xs ++ ys
  taken_out = ap₂ (λ front back. front ++ back) front_is back_is
    where
      front_is : take k (take (k + 1) xs ++ ys) ≡ take k xs
      front_is = take-append-le k (take (k + 1) xs) ys (omega (arith, longer)) ∙ take-take k (k + 1) xs (omega arith)

      back_is : drop (suc k) (take (k + 1) xs ++ ys) ≡ ys
      back_is = drop-append-le (suc k) (take (k + 1) xs) ys (omega (arith, longer))
          ∙ ap (λ back. back ++ ys) (drop_of_length-le (take (k + 1) xs) {i = suc k} (omega (arith, longer)))

module _ (model : MixedModel) (same : length model.rows ≡ length model.equations) (list : List ℕ) where
  abbrev with_lists : List (List ℕ) → List (List RowEntry) → MixedModel
  with_lists equations rows = record { equations = equations; unknowns = model.unknowns; rows = rows }

  pub begun : AreRising (length model.equations) list → IsRestricting model list list (length model.equations) model
  begun rising = record {
    rest = [];
    split = sym (append-nil list);
    rising = AllPairs-from_increasing list rising.rising;
    below = rising.below;
    part_is = sym (ap₂ with_lists (whole model.equations refl) (whole model.rows same));
  }
    where
      whole : {X : Type 0} (xs : List X) → length xs ≡ length model.equations → take (length model.equations) xs ++ [] ≡ xs
      whole xs long = append-nil (take (length model.equations) xs) ∙ take_all (length model.equations) xs (omega (arith, long))

  pub ended : (left : List ℕ) (part : MixedModel) → IsRestricting model list left 0 part → part ≡ restricted model list
  ended left part R = R.part_is ∙ ap (λ items. partly model 0 items) (sym (R.split ∙ ap (λ front. front ++ R.rest) (none left R.below)))
    where
      none : (items : List ℕ) → All (λ x. x < 0) items → items ≡ []
      none [] small = refl
      none (x ∷ items) small = absurd (omega (arith, small 0 0 (omega arith)))

  module _ (k : ℕ) (below : k < length model.equations) (left : List ℕ) (part : MixedModel)
      (R : IsRestricting model list left (k + 1) part) where
    pub kept : (before : List ℕ) → left ≡ before ++ k ∷ [] → IsRestricting model list before k part
    kept before is = record {
      rest = k ∷ R.rest;
      split = R.split ∙ ap (λ front. front ++ R.rest) is ∙ append_assoc before (k ∷ []) R.rest;
      rising = λ i j d lt within. let long = length-append before (k ∷ []) in
          let whole = subst (AllPairs (λ x y. x < y)) is R.rising i j d lt (omega (arith, long, within)) in
          omega (
            arith,
            whole,
            get_or_append_left before (k ∷ []) d i (omega (arith, lt, within)),
            get_or_append_left before (k ∷ []) d j within,
          );
      below = λ i d within. let long = length-append before (k ∷ []) in
          let whole = subst (AllPairs (λ x y. x < y)) is R.rising i (length before) d within (omega (arith, long)) in
          omega (arith, whole, get_or_append_left before (k ∷ []) d i within, get_or_at before k [] d (length before) refl);
      part_is = R.part_is ∙ ap₂ with_lists (put_back model.equations (map (name_at model.equations) R.rest) k below [])
          (put_back model.rows (map (row_of model) R.rest) k (omega (arith, below, same)) []);
    }

    pub removed : ((place : ℕ) → place + 1 ≡ length left → get_or left place 0 ≢ k) →
        IsRestricting model list left k (equation_removed part k)
    removed other = record {
      rest = R.rest;
      split = R.split;
      rising = R.rising;
      below = λ i d within. elim (nat_cases (i + 1) (length left)) [
        | inl last ↦ smaller (get_or left i d) (R.below i d within) (λ q. other i last (sym (filled i d within) ∙ q))
        | inr ne ↦ before_last i d within ne
      ];
      part_is = ap (λ whole. equation_removed whole k) R.part_is
          ∙ ap₂ with_lists (taken_out model.equations (map (name_at model.equations) R.rest) k below)
          (taken_out model.rows (map (row_of model) R.rest) k (omega (arith, below, same)));
    }
      where
        smaller : (x : ℕ) → x < k + 1 → x ≢ k → x < k
        smaller x small ne = elim (nat_cases x k) [
          | inl q ↦ absurd (ne q)
          | inr apart ↦ omega (arith, small, apart)
        ]

        filled : (i d : ℕ) → i < length left → get_or left i d ≡ get_or left i 0
        filled i d within = get_or_default left i d 0 within

        before_last : (i d : ℕ) → i < length left → i + 1 ≢ length left → get_or left i d < k
        before_last i d within ne = omega (
          arith,
          R.below (i + 1) d (omega (arith, within, ne)),
          R.rising i (i + 1) d (omega arith) (omega (arith, within, ne)),
        )
