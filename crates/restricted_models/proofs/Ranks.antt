-- The rows of a model that has some equations alone are rows of the whole one: both have the same kernel at the same values.
use Rattle.std.proofs.Common.{◌≡◌, ℕ, zero, suc, ◌+◌, ◌*◌, ◌%◌, ◌<◌, Bool, true, false, cond, ◌&&◌, List, [], ◌∷◌, length, map, get_or, eqb}
use Rattle.std.proofs.Common.{refl, ap, ap₂, sym, ◌∙◌, arith, AllPairs, unwrap_or}
use Rattle.std.proofs.lemmas.Bool.Decides.{nat_tests}
use Rattle.std.proofs.lemmas.List.{get_or_default, length-map}
use Rattle.std.proofs.lemmas.List.Folds.{Any-from_list_any, list_any_at}
use Rattle.std.proofs.lemmas.List.Kept.{AllPairs-from_increasing}
use Rattle.std.proofs.Math.Nat.{zero-mod}
use Rattle.residue_theory.proofs.ResidueLaws.{vanishes-mul, vanishes-sum}
use Rattle.residue_theory.proofs.SumLaws.{sum_on-ext}
use Rattle.residue_theory.specs.Sets.{everything, has}
use Rattle.residue_theory.specs.Sums.{sum_on}
use Rattle.linear_algebra.specs.Columns.{CombinesToZero, IsRank}
use Rattle.mixed_matrices.specs.Models.{MixedMatrix, value}
use Rattle.mixed_matrices.specs.Removals.{mixed_part}
use Rattle.mixed_matrices.specs.StructuralRanks.{IsStructuralRank}
use Rattle.cert_text.specs.Ranges.{AreRising}
use Rattle.equation_matroid_laws.specs.EquationRanks.{IsRankOf}
use Rattle.mixed_model.specs.Models.{MixedModel, mixed_matrix_of, row_of}
use Rattle.mixed_model.specs.Names.{name_at}
use Rattle.mixed_model.specs.Rows.{constant_in, symbol_in}
use Rattle.restricted_models.specs.Restrictions.{restricted}

-- where a number first stands in a list
abbrev place : List ℕ → ℕ → ℕ
place [] x = 0
place (y ∷ ys) x = cond (eqb y x) 0 (suc (place ys x))

place-at : (list : List ℕ) → AllPairs (λ x y. x < y) list → (k : ℕ) → k < length list → place list (get_or list k 0) ≡ k
place-at [] rising k within = absurd (omega (arith, within))
place-at (y ∷ ys) rising zero within = ap (λ b. cond b 0 (suc (place ys y))) same
  where
    same : eqb y y ≡ true
    same = grind (arith, nat_tests)
place-at (y ∷ ys) rising (suc k) within = ap (λ b. cond b 0 (suc (place ys (get_or ys k 0)))) apart
    ∙ ap suc (place-at ys (λ i j d lt in_ys. rising (suc i) (suc j) d (omega (arith, lt)) (omega (arith, in_ys))) k (omega (arith, within)))
  where
    less : y < get_or ys k 0
    less = rising zero (suc k) 0 (omega arith) within

    apart : eqb y (get_or ys k 0) ≡ false
    apart = grind (arith, nat_tests, less)

mapped-at : {X : Type 0} (f : ℕ → X) (list : List ℕ) (d : X) (k : ℕ) → k < length list → get_or (map f list) k d ≡ f (get_or list k 0)
mapped-at f [] d k within = absurd (omega (arith, within))
mapped-at f (x ∷ xs) d zero within = refl
mapped-at f (x ∷ xs) d (suc k) within = mapped-at f xs d k (omega (arith, within))

module _ (p : ℕ) (model : MixedModel) (list : List ℕ) (rising : AreRising (length model.equations) list) where
  abbrev whole : MixedMatrix
  whole = mixed_matrix_of model

  abbrev part : MixedMatrix
  part = mixed_matrix_of (restricted model list)

  -- the whole model with the other equations emptied
  abbrev emptied : MixedMatrix
  emptied = mixed_part (has list) everything whole

  abbrev at : ℕ → ℕ
  at k = get_or list k 0

  rows-are : part.rows ≡ length list
  rows-are = length-map list (name_at model.equations)

  at-place : (k : ℕ) → k < length list → place list (at k) ≡ k
  at-place k within = place-at list (AllPairs-from_increasing list rising.rising) k within

  at-has : (k : ℕ) → k < length list → has list (at k) ≡ true
  at-has k within = list_any_at (λ item. eqb item (at k)) list k 0 within same
    where
      same : eqb (at k) (at k) ≡ true
      same = grind (arith, nat_tests)

  has-at : (i : ℕ) → has list i ≡ true → (k : ℕ) × (k < length list) × (at k ≡ i)
  has-at i h = let found = Any-from_list_any (λ item. eqb item i) list h in
      (found.0, found.2, get_or_default list found.0 0 found.1 found.2 ∙ found.3 ∙ equal found.1 i found.4)
    where
      equal : (x y : ℕ) → eqb x y ≡ true → x ≡ y
      equal x y t = grind (arith, nat_tests, t)

  -- ---- the same values, by the rows of the part and by those of the whole
  abbrev AreSameValues : (ℕ → ℕ → ℕ) → (ℕ → ℕ → ℕ) → Type 0
  AreSameValues w v = (k j : ℕ) → k < length list → w k j ≡ v (at k) j

  module _ (w v : ℕ → ℕ → ℕ) (same : AreSameValues w v) where
    value-is : (k j : ℕ) → k < length list → value part w k j ≡ value whole v (at k) j
    value-is k j within = ap₂ (λ row y. unwrap_or (constant_in row j) 0 + cond (symbol_in row j) y 0)
        (mapped-at (row_of model) list [] k within) (same k j within)

    shown : (i j : ℕ) → has list i ≡ true → value emptied v i j ≡ value whole v i j
    shown i j h = on (has list i) (whole.constant i j) (whole.symbol i j) (v i j) h
      where
        on : (b : Bool) (x : ℕ) (s : Bool) (y : ℕ) → b ≡ true → cond (b && true) x 0 + cond (b && true && s) y 0 ≡ x + cond s y 0
        on true x s y h = refl
        on false x s y h = absurd (grind (arith, h))

    hidden : (i j : ℕ) → has list i ≡ false → value emptied v i j ≡ 0
    hidden i j h = off (has list i) (whole.constant i j) (whole.symbol i j) (v i j) h
      where
        off : (b : Bool) (x : ℕ) (s : Bool) (y : ℕ) → b ≡ false → cond (b && true) x 0 + cond (b && true && s) y 0 ≡ 0
        off false x s y h = refl
        off true x s y h = absurd (grind (arith, h))

    combined-to : (Y : ℕ → Bool) (c : ℕ → ℕ) → CombinesToZero p (value part w) part.rows part.columns Y c →
        CombinesToZero p (value emptied v) whole.rows whole.columns Y c
    combined-to Y c zero_at i il = by (has list i) refl
      where
        by : (b : Bool) → has list i ≡ b → sum_on Y whole.columns (λ j. c j * value emptied v i j) % p ≡ 0
        by true h = let found = has-at i h in
            ap (λ x. x % p) (sum_on-ext Y whole.columns (λ j. c j * value emptied v i j) (λ j. c j * value part w found.0 j)
            (λ j _ _. ap (λ x. c j * x) (shown i j h ∙ ap (λ l. value whole v l j) (sym found.2) ∙ sym (value-is found.0 j found.1))))
            ∙ zero_at found.0 (omega (arith, found.1, rows-are))
        by false h = vanishes-sum p Y whole.columns (λ j. c j * value emptied v i j)
            (λ j _ _. vanishes-mul p (c j) (value emptied v i j) (ap (λ x. x % p) (hidden i j h) ∙ zero-mod p))

    combined-from : (Y : ℕ → Bool) (c : ℕ → ℕ) → CombinesToZero p (value emptied v) whole.rows whole.columns Y c →
        CombinesToZero p (value part w) part.rows part.columns Y c
    combined-from Y c zero_at k kl = let within : k < length list = omega (arith, kl, rows-are) in
        ap (λ x. x % p) (sum_on-ext Y whole.columns (λ j. c j * value part w k j) (λ j. c j * value emptied v (at k) j)
        (λ j _ _. ap (λ x. c j * x) (value-is k j within ∙ sym (shown (at k) j (at-has k within)))))
        ∙ zero_at (at k) (rising.below k 0 within)

    rank-to : (r : ℕ) → IsRank p (value part w) part.rows part.columns everything r →
        IsRank p (value emptied v) whole.rows whole.columns everything r
    rank-to r R = record {
      reached = (R.reached.0, R.reached.1, (λ c z. R.reached.2 c (combined-from R.reached.0 c z)), R.reached.3);
      greatest = λ Y within free. R.greatest Y within (λ c z. free c (combined-to Y c z));
    }

    rank-from : (r : ℕ) → IsRank p (value emptied v) whole.rows whole.columns everything r →
        IsRank p (value part w) part.rows part.columns everything r
    rank-from r R = record {
      reached = (R.reached.0, R.reached.1, (λ c z. R.reached.2 c (combined-to R.reached.0 c z)), R.reached.3);
      greatest = λ Y within free. R.greatest Y within (λ c z. free c (combined-from Y c z));
    }

  -- ---- so the greatest rank is the same
  -- the values of the part, by the rows of the whole
  abbrev spread : (ℕ → ℕ → ℕ) → ℕ → ℕ → ℕ
  spread w i j = w (place list i) j

  -- and those of the whole at the rows of the part
  abbrev taken : (ℕ → ℕ → ℕ) → ℕ → ℕ → ℕ
  taken v k j = v (at k) j

  spread-same : (w : ℕ → ℕ → ℕ) → AreSameValues w (spread w)
  spread-same w k j within = ap (λ l. w l j) (sym (at-place k within))

  taken-same : (v : ℕ → ℕ → ℕ) → AreSameValues (taken v) v
  taken-same v k j within = refl

  pub ranks-to : (r : ℕ) → IsStructuralRank p part r → IsRankOf p whole (has list) r
  ranks-to r R = record {
    reached = (spread R.reached.0, rank-to R.reached.0 (spread R.reached.0) (spread-same R.reached.0) r R.reached.1);
    greatest = λ v s S. R.greatest (taken v) s (rank-from (taken v) v (taken-same v) s S);
  }

  pub ranks-from : (r : ℕ) → IsRankOf p whole (has list) r → IsStructuralRank p part r
  ranks-from r R = record {
    reached = (taken R.reached.0, rank-from (taken R.reached.0) R.reached.0 (taken-same R.reached.0) r R.reached.1);
    greatest = λ w s S. R.greatest (spread w) s (rank-to w (spread w) (spread-same w) s S);
  }
