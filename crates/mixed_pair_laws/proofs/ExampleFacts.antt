-- Facts of the worked examples.
use Rattle.std.proofs.Common.{◌≡◌, ◌+◌, ◌-◌, ◌*◌, ◌%◌, ◌<◌, ◌∙◌, ℕ, zero, suc, Bool, true, false, refl, ap, sym, arith}
use Rattle.residue_theory.proofs.CountLaws.{size-everything}
use Rattle.residue_theory.proofs.Primes.{prime_65521}
use Rattle.residue_theory.proofs.SetLaws.{differ, eqb_from, eqb_true}
use Rattle.residue_theory.specs.Sets.{IsApart, both, everything, nothing, only}
use Rattle.residue_theory.specs.Sums.{size_on}
use Rattle.linear_algebra.specs.Bases.{IsBase}
use Rattle.linear_algebra.specs.Columns.{IsIndependent, IsRank}
use Rattle.linear_algebra.specs.Products.{identity, product}
use Rattle.linear_algebra_laws.proofs.ExampleFacts.{ones-rank}
use Rattle.linear_algebra_laws.proofs.Kernels.{kernel-refl}
use Rattle.linear_algebra_laws.proofs.RankLaws.{rank-size, rank_of-independent}
use Rattle.linear_algebra_laws.proofs.Ranks.{none_independent, rank-unique}
use Rattle.closed_sets.proofs.WalkLaws.{reaches-self}
use Rattle.mixed_matrices.specs.Arcs.{HasNoWalk, IsClosedIn, has_base, has_match, is_end, is_free, leads_to}
use Rattle.mixed_matrices.specs.Examples.{cancelling_model, empty_tableau, split_matrix, split_model, split_origins}
use Rattle.mixed_matrices.specs.Examples.{split_tableau, symbol_triangle, tall_model, triangle_tableau}
use Rattle.mixed_matrices.specs.Layerings.{AreMembers, IsLayeredMatrixOf, gives_q, has_symbol}
use Rattle.mixed_matrices.specs.Models.{value}
use Rattle.mixed_matrices.specs.Pairs.{IsBest, IsMatching, IsPair}
use Rattle.mixed_matrices.specs.Removals.{without_equation, without_unknown}
use Rattle.mixed_matrices.specs.SetFunctions.{IsMinimiser, IsRho}
use Rattle.mixed_matrices.specs.StructuralRanks.{IsGreatestRank, IsLayeredRank, IsStructuralRank}
use Rattle.mixed_matrices.specs.Tableaus.{HasTableau, IsTableau}
use Rattle.mixed_pair_laws.proofs.ClosedSets.{closed-fits, fits-rank}
use Rattle.mixed_pair_laws.proofs.Minimisers.{closed-best, closed-minimiser, minimiser-closed, tableau-pair}
use Rattle.mixed_pair_laws.proofs.PairRank.{closed-rank}

pub below_one : (P : ℕ → Type 0) → P 0 → (j : ℕ) → j < 1 → P j
below_one P h zero l = h
below_one P h (suc j) l = absurd (omega arith)

pub below_two : (P : ℕ → Type 0) → P 0 → P 1 → (j : ℕ) → j < 2 → P j
below_two P a b zero l = a
below_two P a b (suc zero) l = b
below_two P a b (suc (suc j)) l = absurd (omega arith)

-- ---- ranks of small matrices
-- one column with 1 at the top is independent
top_one-independent : (p m : ℕ) (a : ℕ → ℕ → ℕ) → 0 < m → a 0 0 ≡ 1 → IsIndependent p a m 1 everything
top_one-independent p m a pos one c z = below_one (λ j. everything j ≡ true → c j % p ≡ 0)
    (λ _. ap (λ s. s % p) (let e : c 0 ≡ 0 + c 0 * 1 = omega arith in e) ∙ ap (λ s. (0 + c 0 * s) % p) (sym one) ∙ z 0 pos)

column-rank : (p m : ℕ) (a : ℕ → ℕ → ℕ) → 0 < m → a 0 0 ≡ 1 → IsRank p a m 1 everything 1
column-rank p m a pos one = rank_of-independent p a m 1 everything (top_one-independent p m a pos one)

-- a family with one rank alone has it for its greatest
constant-greatest : (p m n : ℕ) (at : (ℕ → ℕ → ℕ) → ℕ → ℕ → ℕ) (r : ℕ) → ((w : ℕ → ℕ → ℕ) → IsRank p (at w) m n everything r) → IsGreatestRank p m n at r
constant-greatest p m n at r each = record {
  reached = ((λ _ _. 0), each (λ _ _. 0));
  greatest = λ w s S. omega (arith, rank-unique p (at w) m n everything s r S (each w));
}

pub tall-rank : IsStructuralRank 65521 tall_model 1
tall-rank = constant-greatest 65521 2 1 (value tall_model) 1 (λ w. column-rank 65521 2 (value tall_model w) (omega arith) refl)

pub tall_short-rank : IsStructuralRank 65521 (without_equation 0 tall_model) 1
tall_short-rank = constant-greatest 65521 1 1 (value (without_equation 0 tall_model)) 1
    (λ w. column-rank 65521 1 (value (without_equation 0 tall_model) w) (omega arith) refl)

pub cancelling-rank : IsStructuralRank 65521 cancelling_model 1
cancelling-rank = constant-greatest 65521 2 2 (value cancelling_model) 1 (λ w. ones-rank)

pub cancelling_narrow-rank : IsStructuralRank 65521 (without_unknown 0 cancelling_model) 1
cancelling_narrow-rank = constant-greatest 65521 2 1 (value (without_unknown 0 cancelling_model)) 1
    (λ w. column-rank 65521 2 (value (without_unknown 0 cancelling_model) w) (omega arith) refl)

pub split_model-rank : IsStructuralRank 65521 split_model 1
split_model-rank = record {
  reached = ((λ _ _. 0), column-rank 65521 1 (value split_model (λ _ _. 0)) (omega arith) refl);
  greatest = λ w s S. omega (arith, rank-size 65521 (value split_model w) 1 1 everything s S, size-everything 1);
}

-- ---- the split entry
split-base : IsBase 65521 (λ i j. 1) 1 2 (only 0) (λ b. 0)
split-base = record {
  row_below = λ b l h. omega arith;
  one = λ b l h. refl;
  zero = λ b i bl bh il ne. absurd (ne (omega arith));
  distinct = λ b c bl cl bh ch e. eqb_true b 0 bh ∙ sym (eqb_true c 0 ch);
}

split-matching : IsMatching split_matrix (only 1) (λ j. 0)
split-matching = record {
  below = λ j l h. omega arith;
  symbol = λ j l h. refl;
  distinct = λ j k jl kl jh kh e. eqb_true j 1 jh ∙ sym (eqb_true k 1 kh);
}

split-apart : IsApart 2 (only 0) (only 1)
split-apart = below_two (λ j. only 0 j ≡ true → only 1 j ≡ false) (λ _. refl) (λ h. absurd (differ refl h))

pub split-has_tableau : HasTableau 65521 split_matrix split_tableau
split-has_tableau = record { kernel = kernel-refl 65521 1 2 (λ i j. 1); base = split-base; matching = split-matching; apart = split-apart }

pub split-is_tableau : IsTableau 65521 split_matrix identity identity split_tableau
split-is_tableau = record {
  inverse = λ i j il jl. below_one (λ i. product 1 identity identity i j % 65521 ≡ identity i j % 65521)
      (below_one (λ j. product 1 identity identity 0 j % 65521 ≡ identity 0 j % 65521) refl j jl) i il;
  product = λ i j il jl. below_one (λ i. 1 % 65521 ≡ product 1 identity split_matrix.q i j % 65521) refl i il;
  base = split-base;
  matching = split-matching;
  apart = split-apart;
}

pub split-no_free : (x : ℕ) → x < 2 → is_free split_tableau x ≡ false
unfolding is_free
split-no_free = below_two (λ x. is_free split_tableau x ≡ false) refl refl

split-no_end : (x : ℕ) → x < 2 → is_end 65521 split_matrix split_tableau x ≡ false
unfolding is_end has_base has_match
split-no_end = below_two (λ x. is_end 65521 split_matrix split_tableau x ≡ false) refl refl

split-leads : leads_to 65521 split_matrix split_tableau 0 1 ≡ true
unfolding leads_to
split-leads = refl

pub split-clear : HasNoWalk 65521 split_matrix split_tableau
split-clear e el eh (s, sl, sh, r) = differ (split-no_free s sl) sh

split-whole : IsClosedIn 65521 split_matrix split_tableau everything
split-whole = record {
  holds_starts = λ x l h. refl;
  no_end = λ x l h e. differ (split-no_end x l) e;
  follows = λ x y xl yl h a. refl;
}

split-nothing : IsClosedIn 65521 split_matrix split_tableau nothing
split-nothing = record {
  holds_starts = λ x l h. absurd (differ (split-no_free x l) h);
  no_end = λ x l h e. differ refl h;
  follows = λ x y xl yl h a. absurd (differ refl h);
}

pub split-rank : IsLayeredRank 65521 split_matrix 2
split-rank = closed-rank 65521 prime_65521 split_matrix split_tableau split-has_tableau everything split-whole

pub split-pair : IsPair 65521 split_matrix (only 0) (only 1) (λ j. 0)
split-pair = tableau-pair 65521 prime_65521 split_matrix split_tableau split-has_tableau

pub split-best : IsBest 65521 split_matrix (only 0) (only 1)
split-best = closed-best 65521 prime_65521 split_matrix split_tableau split-has_tableau everything split-whole

pub split-minimiser : IsMinimiser 65521 split_matrix everything
split-minimiser = closed-minimiser 65521 prime_65521 split_matrix split_tableau split-has_tableau everything split-whole

pub split-least : IsMinimiser 65521 split_matrix nothing
split-least = closed-minimiser 65521 prime_65521 split_matrix split_tableau split-has_tableau nothing split-nothing

pub split-no_minimiser : IsMinimiser 65521 split_matrix (only 0) → ⊥
split-no_minimiser least = differ refl ((minimiser-closed 65521 prime_65521 split_matrix split_tableau split-has_tableau everything split-whole
    (only 0) least).follows 0 1 (omega arith) (omega arith) refl split-leads)

pub split-rho : IsRho 65521 split_matrix everything 1
split-rho = fits-rank 65521 prime_65521 split_matrix split_tableau split-has_tableau everything
    (closed-fits 65521 prime_65521 split_matrix split_tableau split-has_tableau everything split-whole)

pub split_column-rho : IsRho 65521 split_matrix (only 0) 1
split_column-rho = rank_of-independent 65521 (λ i j. 1) 1 2 (only 0) split-pair.independent

pub split_none-rho : IsRho 65521 split_matrix nothing 0
split_none-rho = rank_of-independent 65521 (λ i j. 1) 1 2 nothing (none_independent 65521 (λ i j. 1) 1 2)

split-members : (A : ℕ → Bool) → A 0 ≡ true → size_on A 1 ≡ 1 → AreMembers A 1 (λ k. 0) 1
split-members A here count = record {
  count = count;
  below = λ k l. omega arith;
  member = λ k l. here;
  place = below_one (λ k. size_on A 0 ≡ k) refl;
}

pub split-layered : IsLayeredMatrixOf split_model split_matrix split_origins
split-layered = record {
  constants = λ i j il jl. below_one (λ i. gives_q split_model i ≡ false → split_model.constant i j ≡ 0) (λ h. absurd (differ h refl)) i il;
  symbols = λ i j il jl. below_one (λ i. has_symbol split_model i ≡ false → split_model.symbol i j ≡ false) (λ h. absurd (differ h refl)) i il;
  q_rows = split-members (gives_q split_model) refl refl;
  t_rows = split-members (has_symbol split_model) refl refl;
  auxiliary = split-members (both (gives_q split_model) (has_symbol split_model)) refl refl;
  columns = refl;
  q = λ i j il jl. refl;
  q_auxiliary = λ i k il kl. refl;
  t = λ i j il jl. refl;
  t_auxiliary = λ i k il kl. refl;
}

-- ---- a tableau with nothing in it: column 0 is free and an end
empty-free : is_free empty_tableau 0 ≡ true
unfolding is_free
empty-free = refl

empty-end : is_end 65521 split_matrix empty_tableau 0 ≡ true
unfolding is_end has_base has_match
empty-end = refl

pub empty-walk : HasNoWalk 65521 split_matrix empty_tableau → ⊥
empty-walk clear = clear 0 (omega arith) empty-end (0, omega arith, empty-free, reaches-self (leads_to 65521 split_matrix empty_tableau) 2 0)

-- ---- the triangle
pub triangle-matching : IsMatching symbol_triangle everything (λ j. 1 - j)
triangle-matching = record {
  below = λ j l h. omega arith;
  symbol = λ j l h. below_two (λ j. symbol_triangle.t (1 - j) j ≡ true) refl refl j l;
  distinct = λ j k jl kl jh kh e. omega arith;
}

pub triangle-has_tableau : HasTableau 65521 symbol_triangle triangle_tableau
triangle-has_tableau = record {
  kernel = kernel-refl 65521 0 2 (λ i j. 0);
  base = triangle-base;
  matching = triangle-matching;
  apart = λ j l h. absurd (differ refl h);
}
  where
    triangle-base : IsBase 65521 (λ i j. 0) 0 2 nothing (λ b. 0)
    triangle-base = record {
      row_below = λ b l h. absurd (differ refl h);
      one = λ b l h. absurd (differ refl h);
      zero = λ b i bl bh il ne. absurd (differ refl bh);
      distinct = λ b c bl cl bh ch e. absurd (differ refl bh);
    }

pub triangle-no_free : (x : ℕ) → x < 2 → is_free triangle_tableau x ≡ false
unfolding is_free
triangle-no_free = below_two (λ x. is_free triangle_tableau x ≡ false) refl refl

pub triangle-no_end : (x : ℕ) → x < 2 → is_end 65521 symbol_triangle triangle_tableau x ≡ false
unfolding is_end has_base has_match
triangle-no_end = below_two (λ x. is_end 65521 symbol_triangle triangle_tableau x ≡ false) refl refl

-- column 0 leads to column 1, and nothing else to anything
pub triangle-leads : leads_to 65521 symbol_triangle triangle_tableau 0 1 ≡ true
unfolding leads_to
triangle-leads = refl

pub triangle-arcs : (x y : ℕ) → x < 2 → y < 2 → leads_to 65521 symbol_triangle triangle_tableau x y ≡ true → (x ≡ 0) × (y ≡ 1)
unfolding leads_to
triangle-arcs x y xl yl = below_two (λ x. leads_to 65521 symbol_triangle triangle_tableau x y ≡ true → (x ≡ 0) × (y ≡ 1))
    (below_two (λ y. leads_to 65521 symbol_triangle triangle_tableau 0 y ≡ true → (zero ≡ 0) × (y ≡ 1)) (λ h. absurd (differ refl h)) (λ h. (refl, refl)) y yl)
    (below_two (λ y. leads_to 65521 symbol_triangle triangle_tableau 1 y ≡ true → (suc zero ≡ 0) × (y ≡ 1))
    (λ h. absurd (differ refl h)) (λ h. absurd (differ refl h)) y yl) x xl

pub triangle-clear : HasNoWalk 65521 symbol_triangle triangle_tableau
triangle-clear e el eh (s, sl, sh, r) = differ (triangle-no_free s sl) sh

pub triangle-closed : IsClosedIn 65521 symbol_triangle triangle_tableau (only 1)
triangle-closed = record {
  holds_starts = λ x l h. absurd (differ (triangle-no_free x l) h);
  no_end = λ x l h e. differ (triangle-no_end x l) e;
  follows = λ x y xl yl h a. eqb_from y 1 (triangle-arcs x y xl yl a).1;
}

pub triangle-open : IsClosedIn 65521 symbol_triangle triangle_tableau (only 0) → ⊥
triangle-open C = differ refl (C.follows 0 1 (omega arith) (omega arith) refl triangle-leads)
