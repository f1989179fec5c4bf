-- A constant equation over a mixed one: a certificate whose S is no permutation.
use Rattle.std.proofs.Common.{◌≡◌, ◌+◌, ◌%◌, ◌<◌, ◌≤◌, ◌≢◌, ◌⊎◌, ◌∙◌, ℕ, zero, suc, true, false, cond, eqb, inl, inr, refl, ap, sym, subst, arith}
use Rattle.std.proofs.lemmas.Bool.Decides.{nat_tests}
use Rattle.residue_theory.proofs.Primes.{prime_65521}
use Rattle.residue_theory.proofs.SetLaws.{both-first, both-second, differ, eqb_true}
use Rattle.residue_theory.proofs.SumLaws.{nat_cases}
use Rattle.residue_theory.specs.Sets.{both, everything, only}
use Rattle.residue_theory.specs.Sums.{size_on}
use Rattle.linear_algebra.specs.Products.{identity, product}
use Rattle.closed_sets.proofs.WalkLaws.{follows-reaches, reaches-arc, reaches-self}
use Rattle.closed_sets.specs.Rules.{InBlock}
use Rattle.closed_sets.specs.Walks.{Mutual, ReachesOn}
use Rattle.mixed_matrices.specs.Arcs.{IsClosedIn, ReachesIn, has_base, has_match, is_end, is_free, leads_to}
use Rattle.mixed_matrices.specs.CanonicalParts.{AreCanonical}
use Rattle.mixed_matrices.specs.CheckerRules.{KeepsPartRules, block_of, in_first, in_last}
use Rattle.mixed_matrices.specs.Examples.{stacked_inverse, stacked_matrix, stacked_model, stacked_origins, stacked_parts}
use Rattle.mixed_matrices.specs.Examples.{stacked_tableau, stacked_transform, triangle_below, triangle_lower}
use Rattle.mixed_matrices.specs.Forms.{IsForm}
use Rattle.mixed_matrices.specs.Layerings.{IsLayeredMatrixOf, gives_q, has_symbol}
use Rattle.mixed_matrices.specs.SetFunctions.{IsMinimiser}
use Rattle.mixed_matrices.specs.StructuralRanks.{IsLayeredRank}
use Rattle.mixed_matrices.specs.Tableaus.{HasTableau, IsTableau}
use Rattle.mixed_pair_laws.proofs.ExampleFacts.{below_one, below_two}
use Rattle.mixed_pair_laws.proofs.Minimisers.{closed-minimiser, minimiser-closed}
use Rattle.mixed_pair_laws.proofs.PairRank.{closed-rank}
use Rattle.mixed_pair_laws.proofs.TableauParts.{tableau}
use Rattle.mixed_form_laws.proofs.Canonical.{checked-canonical}
use Rattle.mixed_form_laws.proofs.CheckedForms.{checked-form}

pub below_three : (P : ℕ → Type 0) → P 0 → P 1 → P 2 → (j : ℕ) → j < 3 → P j
below_three P a b c zero l = a
below_three P a b c (suc zero) l = b
below_three P a b c (suc (suc zero)) l = c
below_three P a b c (suc (suc (suc j))) l = absurd (omega arith)

-- ---- the layered matrix
pub stacked-layered : IsLayeredMatrixOf stacked_model stacked_matrix stacked_origins
stacked-layered = record {
  constants = λ i j il jl. below_two (λ i. gives_q stacked_model i ≡ false → stacked_model.constant i j ≡ 0)
      (λ h. absurd (differ h refl)) (λ h. absurd (differ h refl)) i il;
  symbols = λ i j il jl. below_two (λ i. has_symbol stacked_model i ≡ false → stacked_model.symbol i j ≡ false)
      (λ h. below_two (λ j. stacked_model.symbol 0 j ≡ false) refl refl j jl) (λ h. absurd (differ h refl)) i il;
  q_rows = record {
    count = refl;
    below = λ k l. l;
    member = below_two (λ k. gives_q stacked_model k ≡ true) refl refl;
    place = below_two (λ k. size_on (gives_q stacked_model) k ≡ k) refl refl;
  };
  t_rows = record { count = refl; below = λ k l. omega arith; member = λ k l. refl; place = below_one (λ k. size_on (has_symbol stacked_model) 1 ≡ k) refl };
  auxiliary = record {
    count = refl;
    below = λ k l. omega arith;
    member = λ k l. refl;
    place = below_one (λ k. size_on (both (gives_q stacked_model) (has_symbol stacked_model)) 1 ≡ k) refl;
  };
  columns = refl;
  q = λ i j il jl. below_two (λ i. stacked_matrix.q i j ≡ stacked_model.constant i j)
      (below_two (λ j. stacked_matrix.q 0 j ≡ stacked_model.constant 0 j) refl refl j jl)
      (below_two (λ j. stacked_matrix.q 1 j ≡ stacked_model.constant 1 j) refl refl j jl) i il;
  q_auxiliary = λ i k il kl. below_one (λ k. stacked_matrix.q i (2 + k) ≡ cond (eqb i 1) 1 0)
      (below_two (λ i. stacked_matrix.q i 2 ≡ cond (eqb i 1) 1 0) refl refl i il) k kl;
  t = λ i j il jl. below_two (λ j. stacked_matrix.t i j ≡ stacked_model.symbol 1 j) refl refl j jl;
  t_auxiliary = λ i k il kl. below_one (λ k. stacked_matrix.t i (2 + k) ≡ true) refl k kl;
}

-- ---- the tableau
unit_columns : (b i : ℕ) → b < 2 → i < 2 → i ≢ b → stacked_tableau.P i b % 65521 ≡ 0
unit_columns b i bl il = below_two (λ b. i ≢ b → stacked_tableau.P i b % 65521 ≡ 0)
    (below_two (λ i. i ≢ 0 → stacked_tableau.P i 0 % 65521 ≡ 0) (λ ne. absurd (ne refl)) (λ ne. refl) i il)
    (below_two (λ i. i ≢ 1 → stacked_tableau.P i 1 % 65521 ≡ 0) (λ ne. refl) (λ ne. absurd (ne refl)) i il) b bl

in_base : (b : ℕ) → stacked_tableau.base b ≡ true → b < 2
in_base b h = grind (arith, nat_tests)

pub stacked-is_tableau : IsTableau 65521 stacked_matrix stacked_transform stacked_inverse stacked_tableau
stacked-is_tableau = record {
  inverse = λ i j il jl. below_two (λ i. product 2 stacked_transform stacked_inverse i j % 65521 ≡ identity i j % 65521)
      (below_two (λ j. product 2 stacked_transform stacked_inverse 0 j % 65521 ≡ identity 0 j % 65521) refl refl j jl)
      (below_two (λ j. product 2 stacked_transform stacked_inverse 1 j % 65521 ≡ identity 1 j % 65521) refl refl j jl) i il;
  product = λ i j il jl. below_two (λ i. stacked_tableau.P i j % 65521 ≡ product 2 stacked_transform stacked_matrix.q i j % 65521)
      (below_three (λ j. stacked_tableau.P 0 j % 65521 ≡ product 2 stacked_transform stacked_matrix.q 0 j % 65521) refl refl refl j jl)
      (below_three (λ j. stacked_tableau.P 1 j % 65521 ≡ product 2 stacked_transform stacked_matrix.q 1 j % 65521) refl refl refl j jl) i il;
  base = record {
    row_below = λ b l h. in_base b h;
    one = λ b l h. below_two (λ b. stacked_tableau.P b b % 65521 ≡ 1) refl refl b (in_base b h);
    zero = λ b i bl bh il ne. unit_columns b i (in_base b bh) il ne;
    distinct = λ b c bl cl bh ch e. e;
  };
  matching = record {
    below = λ j l h. omega arith;
    symbol = λ j l h. subst (λ k. stacked_matrix.t 0 k ≡ true) (sym (eqb_true j 2 h)) refl;
    distinct = λ j k jl kl jh kh e. eqb_true j 2 jh ∙ sym (eqb_true k 2 kh);
  };
  apart = below_three (λ j. stacked_tableau.base j ≡ true → only 2 j ≡ false) (λ _. refl) (λ _. refl) (λ h. absurd (differ refl h));
}

pub stacked-has_tableau : HasTableau 65521 stacked_matrix stacked_tableau
stacked-has_tableau = tableau 65521 prime_65521 stacked_matrix stacked_transform stacked_inverse stacked_tableau stacked-is_tableau

-- ---- free columns, ends and arcs
no_free : (x : ℕ) → x < 3 → is_free stacked_tableau x ≡ false
unfolding is_free
no_free = below_three (λ x. is_free stacked_tableau x ≡ false) refl refl refl

no_end : (x : ℕ) → x < 3 → is_end 65521 stacked_matrix stacked_tableau x ≡ false
unfolding is_end has_base has_match
no_end = below_three (λ x. is_end 65521 stacked_matrix stacked_tableau x ≡ false) refl refl refl

two-zero : leads_to 65521 stacked_matrix stacked_tableau 2 0 ≡ true
unfolding leads_to
two-zero = refl

two-one : leads_to 65521 stacked_matrix stacked_tableau 2 1 ≡ true
unfolding leads_to
two-one = refl

one-two : leads_to 65521 stacked_matrix stacked_tableau 1 2 ≡ true
unfolding leads_to
one-two = refl

-- column 0 leads to nothing, and no arc leads to a later block
no_arc : (y : ℕ) → y < 3 → leads_to 65521 stacked_matrix stacked_tableau 0 y ≡ false
unfolding leads_to
no_arc = below_three (λ y. leads_to 65521 stacked_matrix stacked_tableau 0 y ≡ false) refl refl refl

first-closed : IsClosedIn 65521 stacked_matrix stacked_tableau (only 0)
first-closed = record {
  holds_starts = λ x l h. absurd (differ (no_free x l) h);
  no_end = λ x l h e. differ (no_end x l) e;
  follows = λ x y xl yl h a. absurd (differ (no_arc y yl) (subst (λ k. leads_to 65521 stacked_matrix stacked_tableau k y ≡ true) (eqb_true x 0 h) a));
}

pub whole-closed : IsClosedIn 65521 stacked_matrix stacked_tableau everything
whole-closed = record {
  holds_starts = λ x l h. refl;
  no_end = λ x l h e. differ (no_end x l) e;
  follows = λ x y xl yl h a. refl;
}

-- ---- what is reached
self : (x : ℕ) → ReachesIn 65521 stacked_matrix stacked_tableau x x
self x = reaches-self (leads_to 65521 stacked_matrix stacked_tableau) 3 x

step : (x y : ℕ) → x < 3 → leads_to 65521 stacked_matrix stacked_tableau x y ≡ true → ReachesIn 65521 stacked_matrix stacked_tableau x y
step x y xl a = reaches-arc (leads_to 65521 stacked_matrix stacked_tableau) 3 x x y (self x) xl a

from_one : (y : ℕ) → y < 3 → ReachesIn 65521 stacked_matrix stacked_tableau 1 y
from_one = below_three (λ y. ReachesIn 65521 stacked_matrix stacked_tableau 1 y)
    (reaches-arc (leads_to 65521 stacked_matrix stacked_tableau) 3 1 2 0 (step 1 2 (omega arith) one-two) (omega arith)
    two-zero) (self 1) (step 1 2 (omega arith) one-two)

from_two : (y : ℕ) → y < 3 → ReachesIn 65521 stacked_matrix stacked_tableau 2 y
from_two = below_three (λ y. ReachesIn 65521 stacked_matrix stacked_tableau 2 y) (step 2 0 (omega arith) two-zero) (step 2 1 (omega arith) two-one) (self 2)

-- a later block reaches each column
from_later : (x y : ℕ) → x < 3 → y < 3 → x ≢ 0 → ReachesIn 65521 stacked_matrix stacked_tableau x y
from_later x y xl yl = below_three (λ x. x ≢ 0 → ReachesIn 65521 stacked_matrix stacked_tableau x y)
    (λ ne. absurd (ne refl)) (λ _. from_one y yl) (λ _. from_two y yl) x xl

-- and column 0 reaches itself alone
from_first : (y : ℕ) → y < 3 → ReachesIn 65521 stacked_matrix stacked_tableau 0 y → y ≡ 0
from_first y yl r = eqb_true y 0 (follows-reaches (leads_to 65521 stacked_matrix stacked_tableau) 3 (only 0) first-closed.follows 0 y (omega arith) yl refl r)

-- ---- the blocks
first_block : (x : ℕ) → block_of stacked_parts x ≡ 0 → x ≡ 0
first_block x q = grind (arith, nat_tests)

later_block : (x : ℕ) → block_of stacked_parts x ≢ 0 → x ≢ 0
later_block x ne q = ne (ap (block_of stacked_parts) q)

block-below : (x : ℕ) → block_of stacked_parts x < 2
block-below x = grind (arith, nat_tests)

no_first : (x : ℕ) → in_first stacked_parts x ≡ false
no_first x = grind (arith, nat_tests)

no_last : (x : ℕ) → in_last stacked_parts x ≡ false
no_last x = grind (arith, nat_tests)

in_block : (x : ℕ) → x < 3 → InBlock 3 (in_first stacked_parts) (in_last stacked_parts) x
in_block x xl = record { below = xl; not_first = no_first x; not_last = no_last x }

below-is : (k l : ℕ) → triangle_below k l ≡ true → (k ≡ 0) × (l ≡ 1)
below-is k l h = (eqb_true k 0 (both-first (eqb k 0) (eqb l 1) h), eqb_true l 1 (both-second (eqb k 0) (eqb l 1) h))

-- along an arc the block is the same, or falls to block 0
falls : (x y : ℕ) → x < 3 → y < 3 → leads_to 65521 stacked_matrix stacked_tableau x y ≡ true →
    (block_of stacked_parts y ≡ block_of stacked_parts x) ⊎ ReachesOn triangle_lower 2 (block_of stacked_parts x) (block_of stacked_parts y)
falls x y xl yl a = below_three (λ x. leads_to 65521 stacked_matrix stacked_tableau x y ≡ true →
    (block_of stacked_parts y ≡ block_of stacked_parts x) ⊎ ReachesOn triangle_lower 2 (block_of stacked_parts x) (block_of stacked_parts y))
    (λ a. absurd (differ (no_arc y yl) a))
    (λ _. below_three (λ y. (block_of stacked_parts y ≡ 1) ⊎ ReachesOn triangle_lower 2 1 (block_of stacked_parts y))
    (inr (0, (1, omega arith, refl, refl))) (inl refl) (inl refl) y yl)
    (λ _. below_three (λ y. (block_of stacked_parts y ≡ 1) ⊎ ReachesOn triangle_lower 2 1 (block_of stacked_parts y))
    (inr (0, (1, omega arith, refl, refl))) (inl refl) (inl refl) y yl)
    x xl a

both_ways : (x y : ℕ) → x < 3 → y < 3 → block_of stacked_parts x ≡ block_of stacked_parts y → Mutual (leads_to 65521 stacked_matrix stacked_tableau) 3 x y
both_ways x y xl yl q = go (nat_cases x 0) (nat_cases y 0)
  where
    go : (x ≡ 0) ⊎ (x ≢ 0) → (y ≡ 0) ⊎ (y ≢ 0) → Mutual (leads_to 65521 stacked_matrix stacked_tableau) 3 x y
    go (inl a) (inl b) = subst (λ v. Mutual (leads_to 65521 stacked_matrix stacked_tableau) 3 x v) (a ∙ sym b) (self x, self x)
    go (inl a) (inr b) = absurd (b (first_block y (sym q ∙ ap (block_of stacked_parts) a)))
    go (inr a) (inl b) = absurd (a (first_block x (q ∙ ap (block_of stacked_parts) b)))
    go (inr a) (inr b) = (from_later x y xl yl a, from_later y x yl xl b)

least : (x k : ℕ) → InBlock 3 (in_first stacked_parts) (in_last stacked_parts) x → k < block_of stacked_parts x →
    ((y : ℕ) → InBlock 3 (in_first stacked_parts) (in_last stacked_parts) y →
    ReachesIn 65521 stacked_matrix stacked_tableau x y → (block_of stacked_parts y < k) ⊎
    (block_of stacked_parts y ≡ block_of stacked_parts x)) →
    (z : ℕ) × (z < x) × InBlock 3 (in_first stacked_parts) (in_last stacked_parts) z × (block_of stacked_parts z ≡ k)
least x k i kl lower = absurd (go (lower 0 (in_block 0 (omega arith)) (from_later x 0 i.below (omega arith) (later_block x (λ q. omega (arith, q))))))
  where
    go : (0 < k) ⊎ (0 ≡ block_of stacked_parts x) → ⊥
    go (inl less) = omega (arith, block-below x)
    go (inr q) = omega (arith, q)

order-made : (x y : ℕ) → x < 3 → y < 3 → ReachesIn 65521 stacked_matrix stacked_tableau x y →
    block_of stacked_parts y ≢ block_of stacked_parts x → triangle_below
    (block_of stacked_parts y) (block_of stacked_parts x) ≡ true
order-made x y xl yl r ne = go (nat_cases x 0)
  where
    other : (x y : ℕ) → x < 3 → y < 3 → x ≢ 0 → block_of stacked_parts y ≢ block_of stacked_parts x →
        triangle_below (block_of stacked_parts y) (block_of stacked_parts x) ≡ true
    other x y xl yl a ne = grind (arith, nat_tests)

    go : (x ≡ 0) ⊎ (x ≢ 0) → triangle_below (block_of stacked_parts y) (block_of stacked_parts x) ≡ true
    go (inl a) = absurd (ne (ap (block_of stacked_parts) (from_first y yl (subst (λ k. ReachesIn 65521 stacked_matrix stacked_tableau k y) a r) ∙ sym a)))
    go (inr a) = other x y xl yl a ne

all_base : (i : ℕ) → i < 2 → has_base stacked_matrix stacked_tableau i ≡ true
unfolding has_base
all_base = below_two (λ i. has_base stacked_matrix stacked_tableau i ≡ true) refl refl

all_match : (i : ℕ) → i < 1 → has_match stacked_matrix stacked_tableau i ≡ true
unfolding has_match
all_match = below_one (λ i. has_match stacked_matrix stacked_tableau i ≡ true) refl

pub stacked-rules_kept : KeepsPartRules 65521 stacked_matrix stacked_tableau stacked_parts triangle_below triangle_lower
stacked-rules_kept = record {
  rows = record {
    columns = below_three (λ x. stacked_parts.column x ≤ 3) (omega arith) (omega arith) (omega arith);
    base = λ b bl h. below_two (λ b. b + 1 ≡ stacked_parts.column b) refl refl b (in_base b h);
    matched = λ j jl h. subst (λ k. 2 ≡ stacked_parts.column k) (sym (eqb_true j 2 h)) refl;
    other_q = λ i il e. absurd (differ e (all_base i il));
    other_t = λ i il e. absurd (differ e (all_match i il));
  };
  rules = record {
    apart = λ x xl f l. differ (no_first x) f;
    down = record {
      starts_first = λ x xl h. absurd (differ (no_free x xl) h);
      ends_last = λ x xl h. absurd (differ (no_end x xl) h);
      first_leads = λ x y xl yl f a. absurd (differ (no_first x) f);
      block_leads = λ x y i yl a. inr (in_block y yl, falls x y i.below yl a);
    };
    reasons = record {
      first_from = λ x xl f. absurd (differ (no_first x) f);
      last_to = λ x xl l. absurd (differ (no_last x) l);
      block_mutual = λ x y i j q. both_ways x y i.below j.below q;
    };
    number = λ x i. block-below x;
    member = below_two (λ k. (x : ℕ) × InBlock 3 (in_first stacked_parts) (in_last stacked_parts) x
        × (block_of stacked_parts x ≡ k)) (0, in_block 0 (omega arith), refl)
        (1, in_block 1 (omega arith), refl);
    falling = λ k l h. let w : (k ≡ 0) × (l ≡ 1) = below-is k l h in omega arith;
    least = least;
  };
  order = record {
    apart = λ k l kl ll h q. let w : (k ≡ 0) × (l ≡ 1) = below-is k l h in omega arith;
    tells = λ x y mx my h. let w : (block_of stacked_parts y ≡ 0) × (block_of stacked_parts x ≡ 1) =
        below-is (block_of stacked_parts y) (block_of stacked_parts x) h in
        from_later x y mx.0 my.0 (later_block x (λ q. omega (arith, q)));
    made = λ x y mx my r ne. order-made x y mx.0 my.0 r ne;
  };
  lists = record {
    is_below = λ k l kl ll h. h;
    none_between = λ k m l kl ml ll h a b. let u : (k ≡ 0) × (m ≡ 1) = below-is k m a in let v : (m ≡ 0) × (l ≡ 1) = below-is m l b in omega arith;
    all = λ k l kl ll h none. h;
  };
}

pub stacked-form : IsForm 65521 stacked_matrix stacked_transform stacked_parts
stacked-form = checked-form 65521 prime_65521 stacked_matrix stacked_transform stacked_inverse stacked_tableau
    stacked-is_tableau stacked_parts triangle_below triangle_lower stacked-rules_kept

pub stacked-canonical : AreCanonical 65521 stacked_matrix stacked_parts
stacked-canonical = checked-canonical 65521 prime_65521 stacked_matrix stacked_tableau stacked-has_tableau stacked_parts
    triangle_below triangle_lower stacked-rules_kept

pub stacked-rank : IsLayeredRank 65521 stacked_matrix 3
stacked-rank = closed-rank 65521 prime_65521 stacked_matrix stacked_tableau stacked-has_tableau everything whole-closed

-- its minimisers: no column, column 0, and all three
pub first-minimiser : IsMinimiser 65521 stacked_matrix (only 0)
first-minimiser = closed-minimiser 65521 prime_65521 stacked_matrix stacked_tableau stacked-has_tableau (only 0) first-closed

pub second-no_minimiser : IsMinimiser 65521 stacked_matrix (only 1) → ⊥
second-no_minimiser least = differ refl ((minimiser-closed 65521 prime_65521 stacked_matrix stacked_tableau stacked-has_tableau everything whole-closed
    (only 1) least).follows 1 2 (omega arith) (omega arith) refl one-two)
