-- Two loose symbols: nothing leads to anything, so every column set is a minimiser.
use Rattle.std.proofs.Common.{◌≡◌, ◌<◌, ℕ, Bool, true, false, refl, ap, subst, arith}
use Rattle.std.proofs.lemmas.Bool.Decides.{nat_tests}
use Rattle.residue_theory.proofs.Primes.{prime_65521}
use Rattle.residue_theory.proofs.SetLaws.{differ, eqb_from, eqb_true}
use Rattle.residue_theory.specs.Sets.{only}
use Rattle.linear_algebra_laws.proofs.Kernels.{kernel-refl}
use Rattle.closed_sets.proofs.WalkLaws.{follows-reaches, reaches-self}
use Rattle.closed_sets.specs.Rules.{InBlock}
use Rattle.closed_sets.specs.Walks.{Mutual}
use Rattle.mixed_matrices.specs.Arcs.{IsClosedIn, ReachesIn, has_base, has_match, is_end, is_free, leads_to}
use Rattle.mixed_matrices.specs.CanonicalParts.{AreCanonical}
use Rattle.mixed_matrices.specs.CheckerRules.{KeepsPartRules, block_of, in_first, in_last}
use Rattle.mixed_matrices.specs.Examples.{loose_parts, loose_symbols, loose_tableau, whole_parts}
use Rattle.mixed_matrices.specs.SetFunctions.{IsMinimiser}
use Rattle.mixed_matrices.specs.Tableaus.{HasTableau}
use Rattle.mixed_pair_laws.proofs.ExampleFacts.{below_two}
use Rattle.mixed_pair_laws.proofs.Minimisers.{closed-minimiser}
use Rattle.mixed_form_laws.proofs.Canonical.{checked-canonical}

loose-no_free : (x : ℕ) → x < 2 → is_free loose_tableau x ≡ false
unfolding is_free
loose-no_free = below_two (λ x. is_free loose_tableau x ≡ false) refl refl

loose-no_end : (x : ℕ) → x < 2 → is_end 65521 loose_symbols loose_tableau x ≡ false
unfolding is_end has_base has_match
loose-no_end = below_two (λ x. is_end 65521 loose_symbols loose_tableau x ≡ false) refl refl

loose-no_arc : (x y : ℕ) → x < 2 → y < 2 → leads_to 65521 loose_symbols loose_tableau x y ≡ false
unfolding leads_to
loose-no_arc x y xl yl = below_two (λ x. leads_to 65521 loose_symbols loose_tableau x y ≡ false)
    (below_two (λ y. leads_to 65521 loose_symbols loose_tableau 0 y ≡ false) refl refl y yl)
    (below_two (λ y. leads_to 65521 loose_symbols loose_tableau 1 y ≡ false) refl refl y yl) x xl

all_match : (i : ℕ) → i < 2 → has_match loose_symbols loose_tableau i ≡ true
unfolding has_match
all_match = below_two (λ i. has_match loose_symbols loose_tableau i ≡ true) refl refl

loose-closed : (X : ℕ → Bool) → IsClosedIn 65521 loose_symbols loose_tableau X
loose-closed X = record {
  holds_starts = λ x l h. absurd (differ (loose-no_free x l) h);
  no_end = λ x l h e. differ (loose-no_end x l) e;
  follows = λ x y xl yl h a. absurd (differ (loose-no_arc x y xl yl) a);
}

pub loose-has_tableau : HasTableau 65521 loose_symbols loose_tableau
loose-has_tableau = record {
  kernel = kernel-refl 65521 0 2 (λ i j. 0);
  base = record {
    row_below = λ b l h. absurd (differ refl h);
    one = λ b l h. absurd (differ refl h);
    zero = λ b i bl bh il ne. absurd (differ refl bh);
    distinct = λ b c bl cl bh ch e. absurd (differ refl bh);
  };
  matching = record { below = λ j l h. l; symbol = λ j l h. eqb_from j j refl; distinct = λ j k jl kl jh kh e. e };
  apart = λ j l h. absurd (differ refl h);
}

pub loose-minimiser : (X : ℕ → Bool) → IsMinimiser 65521 loose_symbols X
loose-minimiser X = closed-minimiser 65521 prime_65521 loose_symbols loose_tableau loose-has_tableau X (loose-closed X)

-- a walk stays where it is
walk-is : (x y : ℕ) → x < 2 → y < 2 → ReachesIn 65521 loose_symbols loose_tableau x y → y ≡ x
walk-is x y xl yl r = eqb_true y x
    (follows-reaches (leads_to 65521 loose_symbols loose_tableau) 2 (only x) (loose-closed (only x)).follows x y xl yl
    (eqb_from x x refl) r)

-- ---- the rules
no_first : (x : ℕ) → in_first loose_parts x ≡ false
no_first x = grind (arith, nat_tests)

no_last : (x : ℕ) → x < 2 → in_last loose_parts x ≡ false
no_last = below_two (λ x. in_last loose_parts x ≡ false) refl refl

in_block : (x : ℕ) → x < 2 → InBlock 2 (in_first loose_parts) (in_last loose_parts) x
in_block x xl = record { below = xl; not_first = no_first x; not_last = no_last x xl }

pub loose-rules_kept : KeepsPartRules 65521 loose_symbols loose_tableau loose_parts (λ k l. false) (λ l k. false)
loose-rules_kept = record {
  rows = record {
    columns = λ x xl. omega arith;
    base = λ b bl h. absurd (differ refl h);
    matched = λ j jl h. refl;
    other_q = λ i il e. absurd (omega arith);
    other_t = λ i il e. absurd (differ e (all_match i il));
  };
  rules = record {
    apart = λ x xl f l. differ (no_first x) f;
    down = record {
      starts_first = λ x xl h. absurd (differ (loose-no_free x xl) h);
      ends_last = λ x xl h. absurd (differ (loose-no_end x xl) h);
      first_leads = λ x y xl yl f a. absurd (differ (no_first x) f);
      block_leads = λ x y i yl a. absurd (differ (loose-no_arc x y i.below yl) a);
    };
    reasons = record {
      first_from = λ x xl f. absurd (differ (no_first x) f);
      last_to = λ x xl l. absurd (differ (no_last x xl) l);
      block_mutual = λ x y i j q. both_ways x y q;
    };
    number = λ x i. omega (arith, i.below);
    member = λ k kl. (k, in_block k kl, omega arith);
    falling = λ k l h. absurd (differ refl h);
    least = λ x k i kl lower. (k, omega arith, in_block k (omega (arith, i.below)), omega arith);
  };
  order = record {
    apart = λ k l kl ll h q. differ refl h;
    tells = λ x y mx my h. absurd (differ refl h);
    made = λ x y mx my r ne. absurd (ne (ap (block_of loose_parts) (walk-is x y mx.0 my.0 r)));
  };
  lists = record {
    is_below = λ k l kl ll h. h;
    none_between = λ k m l kl ml ll h a b. differ refl h;
    all = λ k l kl ll h none. h;
  };
}
  where
    both_ways : (x y : ℕ) → block_of loose_parts x ≡ block_of loose_parts y → Mutual (leads_to 65521 loose_symbols loose_tableau) 2 x y
    both_ways x y q = subst (λ v. Mutual (leads_to 65521 loose_symbols loose_tableau) 2 x v) (let e : x ≡ y = omega arith in e)
        (reaches-self (leads_to 65521 loose_symbols loose_tableau) 2 x, reaches-self (leads_to 65521 loose_symbols loose_tableau) 2 x)

pub loose-canonical : AreCanonical 65521 loose_symbols loose_parts
loose-canonical = checked-canonical 65521 prime_65521 loose_symbols loose_tableau loose-has_tableau loose_parts (λ k l. false) (λ l k. false) loose-rules_kept

-- both columns in one block
pub loose-not_whole : AreCanonical 65521 loose_symbols whole_parts → ⊥
loose-not_whole C = differ refl ((C.block 0 0 1 0 (omega arith, omega arith, refl) (omega arith, omega arith, refl)).0 refl (only 0) (loose-minimiser (only 0)))
