-- Facts of the worked examples: the triangle of symbols, and two symbols in one column.
use Rattle.std.proofs.Common.{◌≡◌, ◌-◌, ◌<◌, ◌≢◌, ◌⊎◌, ◌∙◌, ℕ, true, false, eqb, inl, inr, refl, ap, sym, subst, arith}
use Rattle.residue_theory.proofs.Primes.{prime_65521}
use Rattle.residue_theory.proofs.SetLaws.{both-first, both-second, differ, eqb_from, eqb_true}
use Rattle.residue_theory.proofs.SumLaws.{nat_cases}
use Rattle.residue_theory.specs.Sets.{only}
use Rattle.linear_algebra.specs.Products.{identity}
use Rattle.closed_sets.proofs.WalkLaws.{follows-reaches, reaches-arc, reaches-self}
use Rattle.closed_sets.specs.Rules.{InBlock, KeepsPlaceRules}
use Rattle.closed_sets.specs.Walks.{Mutual, ReachesOn}
use Rattle.mixed_matrices.specs.Arcs.{ReachesEnd, ReachesIn, has_base, has_match, is_end, is_free, leads_to}
use Rattle.mixed_matrices.specs.CanonicalParts.{AreCanonical, IsBlockBelow, IsHeldWith, IsLowerBlock, IsOfBlock}
use Rattle.mixed_matrices.specs.CheckerRules.{HasRows, KeepsPartRules, block_of, in_first, in_last}
use Rattle.mixed_matrices.specs.Examples.{symbol_triangle, tall_parts, tall_symbols, tall_tableau, triangle_below}
use Rattle.mixed_matrices.specs.Examples.{triangle_lower, triangle_parts, triangle_tableau, turned_parts, whole_parts}
use Rattle.mixed_matrices.specs.Forms.{IsForm, IsOrdered}
use Rattle.mixed_matrices.specs.SetFunctions.{IsMinimiser}
use Rattle.mixed_matrices.specs.Tableaus.{IsTableau}
use Rattle.mixed_pair_laws.proofs.ExampleFacts.{below_one, below_two, triangle-arcs, triangle-closed, triangle-has_tableau}
use Rattle.mixed_pair_laws.proofs.ExampleFacts.{triangle-leads, triangle-no_end, triangle-no_free}
use Rattle.mixed_pair_laws.proofs.Minimisers.{closed-minimiser, minimiser-closed}
use Rattle.mixed_form_laws.proofs.Canonical.{below-block, checked-canonical, lower-block}
use Rattle.mixed_form_laws.proofs.CheckedForms.{checked-form, checked-ordered}

-- ---- the triangle: column 0 leads to column 1
no_first : (x : ℕ) → x < 2 → in_first triangle_parts x ≡ false
no_first = below_two (λ x. in_first triangle_parts x ≡ false) refl refl

no_last : (x : ℕ) → x < 2 → in_last triangle_parts x ≡ false
no_last = below_two (λ x. in_last triangle_parts x ≡ false) refl refl

all_match : (i : ℕ) → i < 2 → has_match symbol_triangle triangle_tableau i ≡ true
unfolding has_match
all_match = below_two (λ i. has_match symbol_triangle triangle_tableau i ≡ true) refl refl

below-is : (k l : ℕ) → triangle_below k l ≡ true → (k ≡ 0) × (l ≡ 1)
below-is k l h = (eqb_true k 0 (both-first (eqb k 0) (eqb l 1) h), eqb_true l 1 (both-second (eqb k 0) (eqb l 1) h))

triangle-reaches : (x y : ℕ) → x ≡ 0 → y ≡ 1 → ReachesIn 65521 symbol_triangle triangle_tableau x y
triangle-reaches x y p q = reaches-arc (leads_to 65521 symbol_triangle triangle_tableau) 2 x x y
    (reaches-self (leads_to 65521 symbol_triangle triangle_tableau) 2 x) (omega arith)
    (subst (λ i. leads_to 65521 symbol_triangle triangle_tableau i y ≡ true) (sym p)
    (subst (λ j. leads_to 65521 symbol_triangle triangle_tableau 0 j ≡ true) (sym q) triangle-leads))

-- a walk from one column to another goes from column 0 to column 1
walk-is : (x y : ℕ) → x < 2 → y < 2 → ReachesIn 65521 symbol_triangle triangle_tableau x y → y ≢ x → (x ≡ 0) × (y ≡ 1)
walk-is x y xl yl r ne = go (nat_cases x 1)
  where
    go : (x ≡ 1) ⊎ (x ≢ 1) → (x ≡ 0) × (y ≡ 1)
    go (inr other) = (omega arith, omega arith)
    go (inl q) = absurd (ne (eqb_true y 1
        (follows-reaches (leads_to 65521 symbol_triangle triangle_tableau) 2 (only 1) triangle-closed.follows x y xl yl
        (eqb_from x 1 q) r) ∙ sym q))

pub triangle-rows : HasRows symbol_triangle triangle_tableau triangle_parts
triangle-rows = record {
  columns = λ x xl. omega arith;
  base = λ b bl h. absurd (differ refl h);
  matched = λ j jl h. omega arith;
  other_q = λ i il e. absurd (omega arith);
  other_t = λ i il e. absurd (differ e (all_match i il));
}

list-reaches : (x y : ℕ) → x ≡ 0 → y ≡ 1 → ReachesOn triangle_lower 2 (block_of triangle_parts x) (block_of triangle_parts y)
list-reaches x y p q = subst (λ i. ReachesOn triangle_lower 2 (block_of triangle_parts i) (block_of triangle_parts y)) (sym p)
    (subst (λ j. ReachesOn triangle_lower 2 1 (block_of triangle_parts j)) (sym q) (0, (1, omega arith, refl, refl)))

in_block : (x : ℕ) → x < 2 → InBlock 2 (in_first triangle_parts) (in_last triangle_parts) x
in_block x xl = record { below = xl; not_first = no_first x xl; not_last = no_last x xl }

triangle-rules : KeepsPlaceRules (leads_to 65521 symbol_triangle triangle_tableau) 2 (is_free triangle_tableau) (is_end 65521 symbol_triangle triangle_tableau)
    (in_first triangle_parts) (in_last triangle_parts) (block_of triangle_parts) 2 triangle_lower
triangle-rules = record {
  apart = λ x xl f l. differ (no_first x xl) f;
  down = record {
    starts_first = λ x xl h. absurd (differ (triangle-no_free x xl) h);
    ends_last = λ x xl h. absurd (differ (triangle-no_end x xl) h);
    first_leads = λ x y xl yl f a. absurd (differ (no_first x xl) f);
    block_leads = λ x y i yl a. let w : (x ≡ 0) × (y ≡ 1) = triangle-arcs x y i.below yl a in inr (in_block y yl, inr (list-reaches x y w.0 w.1));
  };
  reasons = record {
    first_from = λ x xl f. absurd (differ (no_first x xl) f);
    last_to = λ x xl l. absurd (differ (no_last x xl) l);
    block_mutual = λ x y i j q. both_ways x y i.below j.below q;
  };
  number = λ x i. omega (arith, i.below);
  member = λ k kl. (1 - k, in_block (1 - k) (omega arith), omega arith);
  falling = λ k l h. let w : (k ≡ 0) × (l ≡ 1) = below-is k l h in omega arith;
  least = least;
}
  where
    both_ways : (x y : ℕ) → x < 2 → y < 2 → block_of triangle_parts x ≡ block_of triangle_parts y →
        Mutual (leads_to 65521 symbol_triangle triangle_tableau) 2 x y
    both_ways x y xl yl q = subst (λ v. Mutual (leads_to 65521 symbol_triangle triangle_tableau) 2 x v) (let e : x ≡ y = omega arith in e)
        (reaches-self (leads_to 65521 symbol_triangle triangle_tableau) 2 x, reaches-self (leads_to 65521 symbol_triangle triangle_tableau) 2 x)

    least : (x k : ℕ) → InBlock 2 (in_first triangle_parts) (in_last triangle_parts) x → k < block_of triangle_parts x →
        ((y : ℕ) → InBlock 2 (in_first triangle_parts) (in_last triangle_parts) y → ReachesIn 65521 symbol_triangle triangle_tableau x y →
        (block_of triangle_parts y < k) ⊎ (block_of triangle_parts y ≡ block_of triangle_parts x)) →
        (z : ℕ) × (z < x) × InBlock 2 (in_first triangle_parts) (in_last triangle_parts) z × (block_of triangle_parts z ≡ k)
    least x k i kl lower = absurd
        (elim (lower 1 (in_block 1 (omega arith)) (triangle-reaches x 1 (omega arith) refl))
        [ inl less ↦ omega arith | inr q ↦ omega arith ])

pub triangle-rules_kept : KeepsPartRules 65521 symbol_triangle triangle_tableau triangle_parts triangle_below triangle_lower
triangle-rules_kept = record {
  rows = triangle-rows;
  rules = triangle-rules;
  order = record {
    apart = λ k l kl ll h q. let w : (k ≡ 0) × (l ≡ 1) = below-is k l h in omega arith;
    tells = λ x y mx my h. tells x y mx.0 my.0 (below-is (block_of triangle_parts y) (block_of triangle_parts x) h);
    made = λ x y mx my r ne. made x y (walk-is x y mx.0 my.0 r (λ q. ne (ap (block_of triangle_parts) q)));
  };
  lists = record {
    is_below = λ k l kl ll h. h;
    none_between = λ k m l kl ml ll h a b. let u : (k ≡ 0) × (m ≡ 1) = below-is k m a in let v : (m ≡ 0) × (l ≡ 1) = below-is m l b in omega arith;
    all = λ k l kl ll h none. h;
  };
}
  where
    tells : (x y : ℕ) → x < 2 → y < 2 → (block_of triangle_parts y ≡ 0) × (block_of triangle_parts x ≡ 1) → ReachesIn 65521 symbol_triangle triangle_tableau x y
    tells x y xl yl (q, r) = triangle-reaches x y (omega arith) (omega arith)

    made : (x y : ℕ) → (x ≡ 0) × (y ≡ 1) → triangle_below (block_of triangle_parts y) (block_of triangle_parts x) ≡ true
    made x y (p, q) = subst (λ i. triangle_below (block_of triangle_parts y) (block_of triangle_parts i) ≡ true) (sym p)
        (subst (λ j. triangle_below (block_of triangle_parts j) 1 ≡ true) (sym q) refl)

pub triangle-is_tableau : IsTableau 65521 symbol_triangle identity identity triangle_tableau
triangle-is_tableau = record {
  inverse = λ i j il jl. absurd (omega arith);
  product = λ i j il jl. absurd (omega arith);
  base = triangle-has_tableau.base;
  matching = triangle-has_tableau.matching;
  apart = triangle-has_tableau.apart;
}

pub triangle-form : IsForm 65521 symbol_triangle identity triangle_parts
triangle-form = checked-form 65521 prime_65521 symbol_triangle identity identity triangle_tableau triangle-is_tableau
    triangle_parts triangle_below triangle_lower triangle-rules_kept

pub triangle-ordered : IsOrdered 65521 symbol_triangle identity triangle_parts (λ k l. triangle_below k l ≡ true)
triangle-ordered = checked-ordered 65521 prime_65521 symbol_triangle identity identity triangle_tableau
    triangle-is_tableau triangle_parts triangle_below triangle_lower triangle-rules_kept

pub triangle-canonical : AreCanonical 65521 symbol_triangle triangle_parts
triangle-canonical = checked-canonical 65521 prime_65521 symbol_triangle triangle_tableau triangle-has_tableau
    triangle_parts triangle_below triangle_lower triangle-rules_kept

pub triangle-block_below : IsBlockBelow 65521 symbol_triangle triangle_parts 0 1
triangle-block_below = below-block 65521 prime_65521 symbol_triangle triangle_tableau triangle-has_tableau
    triangle_parts triangle_below triangle_lower triangle-rules_kept 0 1 (omega arith) (omega arith) refl

pub triangle-lower_block : IsLowerBlock 65521 symbol_triangle triangle_parts 0 1
triangle-lower_block = lower-block 65521 prime_65521 symbol_triangle triangle_tableau triangle-has_tableau
    triangle_parts triangle_below triangle_lower triangle-rules_kept 0 1 (omega arith) (omega arith) refl

-- column 1 alone is a minimiser, and each that holds column 0 holds column 1
pub triangle-minimiser : IsMinimiser 65521 symbol_triangle (only 1)
triangle-minimiser = closed-minimiser 65521 prime_65521 symbol_triangle triangle_tableau triangle-has_tableau (only 1) triangle-closed

pub triangle-held : IsHeldWith 65521 symbol_triangle 0 1
triangle-held X least h =
    (minimiser-closed 65521 prime_65521 symbol_triangle triangle_tableau triangle-has_tableau (only 1) triangle-closed X
    least).follows 0 1
    (omega arith) (omega arith) h triangle-leads

pub triangle-not_held : IsHeldWith 65521 symbol_triangle 1 0 → ⊥
triangle-not_held held = differ refl (held (only 1) triangle-minimiser refl)

pub triangle-not_below : IsBlockBelow 65521 symbol_triangle triangle_parts 1 0 → ⊥
triangle-not_below b = triangle-not_held (b.1 0 1 (omega arith, omega arith, refl) (omega arith, omega arith, refl))

-- the blocks the other way round: block 1 is below block 0
pub turned-not_canonical : AreCanonical 65521 symbol_triangle turned_parts → ⊥
turned-not_canonical C = omega (arith, C.ready 0 (omega arith) 1 (omega arith) ((λ q. absurd (omega arith)), λ x y ox oy. held x y ox oy))
  where
    held : (x y : ℕ) → IsOfBlock symbol_triangle turned_parts 1 x → IsOfBlock symbol_triangle turned_parts 0 y → IsHeldWith 65521 symbol_triangle y x
    held x y ox oy = subst (λ i. IsHeldWith 65521 symbol_triangle y i) (let e : 1 ≡ x = omega (arith, ox.2) in e)
        (subst (λ i. IsHeldWith 65521 symbol_triangle i 1) (let e : 0 ≡ y = omega (arith, oy.2) in e) triangle-held)

-- both columns in one block
pub whole-not_canonical : AreCanonical 65521 symbol_triangle whole_parts → ⊥
whole-not_canonical C = differ refl ((C.block 0 0 0 1 (omega arith, omega arith, refl) (omega arith, omega arith, refl)).0 refl (only 1) triangle-minimiser)

pub turned-no_form : IsForm 65521 symbol_triangle identity turned_parts → ⊥
turned-no_form form = differ ((form.1.empty 2 1 (omega arith)).t 0 0 (omega arith) (omega arith) refl refl) refl

-- ---- two symbols in one column: the column is matched with one row, and so an end
tall-end : is_end 65521 tall_symbols tall_tableau 0 ≡ true
unfolding is_end has_base has_match
tall-end = refl

tall-no_free : (x : ℕ) → x < 1 → is_free tall_tableau x ≡ false
unfolding is_free
tall-no_free = below_one (λ x. is_free tall_tableau x ≡ false) refl

tall-match : has_match tall_symbols tall_tableau 0 ≡ true
unfolding has_match
tall-match = refl

tall-reaches : (x : ℕ) → x < 1 → ReachesEnd 65521 tall_symbols tall_tableau x
tall-reaches = below_one (λ x. ReachesEnd 65521 tall_symbols tall_tableau x)
    (0, omega arith, tall-end, reaches-self (leads_to 65521 tall_symbols tall_tableau) 1 0)

pub tall-rules_kept : KeepsPartRules 65521 tall_symbols tall_tableau tall_parts (λ k l. false) (λ l k. false)
tall-rules_kept = record {
  rows = record {
    columns = λ x xl. omega arith;
    base = λ b bl h. absurd (differ refl h);
    matched = λ j jl h. refl;
    other_q = λ i il e. absurd (omega arith);
    other_t = λ i il e. refl;
  };
  rules = record {
    apart = λ x xl f l. differ refl f;
    down = record {
      starts_first = λ x xl h. absurd (differ (tall-no_free x xl) h);
      ends_last = λ x xl h. refl;
      first_leads = λ x y xl yl f a. absurd (differ refl f);
      block_leads = λ x y i yl a. absurd (differ i.not_last refl);
    };
    reasons = record {
      first_from = λ x xl f. absurd (differ refl f);
      last_to = λ x xl l. tall-reaches x xl;
      block_mutual = λ x y i j q. absurd (differ i.not_last refl);
    };
    number = λ x i. absurd (differ i.not_last refl);
    member = λ k kl. absurd (omega arith);
    falling = λ k l h. absurd (differ refl h);
    least = λ x k i kl lower. absurd (differ i.not_last refl);
  };
  order = record {
    apart = λ k l kl ll h q. differ refl h;
    tells = λ x y mx my h. absurd (differ refl h);
    made = λ x y mx my r ne. absurd (mx.2 (tall-reaches x mx.0));
  };
  lists = record {
    is_below = λ k l kl ll h. h;
    none_between = λ k m l kl ml ll h a b. differ refl h;
    all = λ k l kl ll h none. h;
  };
}

pub tall-form : IsForm 65521 tall_symbols identity tall_parts
tall-form = checked-form 65521 prime_65521 tall_symbols identity identity tall_tableau tall-is_tableau tall_parts (λ k l. false) (λ l k. false) tall-rules_kept
  where
    tall-is_tableau : IsTableau 65521 tall_symbols identity identity tall_tableau
    tall-is_tableau = record {
      inverse = λ i j il jl. absurd (omega arith);
      product = λ i j il jl. absurd (omega arith);
      base = record {
        row_below = λ b l h. absurd (differ refl h);
        one = λ b l h. absurd (differ refl h);
        zero = λ b i bl bh il ne. absurd (differ refl bh);
        distinct = λ b c bl cl bh ch e. absurd (differ refl bh);
      };
      matching = record { below = λ j l h. omega arith; symbol = λ j l h. refl; distinct = λ j k jl kl jh kh e. omega arith };
      apart = λ j l h. absurd (differ refl h);
    }
