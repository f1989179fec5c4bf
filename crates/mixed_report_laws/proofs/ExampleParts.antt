-- Layered matrices, tableaus and parts of two equations of one unknown, and of one equation of two unknowns.
use Rattle.std.proofs.Common.{◌≡◌, ℕ, ◌+◌, ◌%◌, ◌<◌, ◌≢◌, true, false, cond, eqb, refl, sym, ◌∙◌, arith}
use Rattle.residue_theory.proofs.CountLaws.{size-everything}
use Rattle.residue_theory.proofs.Primes.{prime_65521}
use Rattle.residue_theory.proofs.SetLaws.{differ, eqb_true}
use Rattle.residue_theory.proofs.SumLaws.{size-none}
use Rattle.linear_algebra.specs.Products.{identity, product}
use Rattle.linear_algebra_laws.proofs.Kernels.{kernel-refl}
use Rattle.closed_sets.proofs.WalkLaws.{reaches-arc, reaches-self}
use Rattle.closed_sets.specs.Walks.{Mutual}
use Rattle.mixed_matrices.specs.Arcs.{IsFromFree, ReachesIn, has_base, has_match, is_end, is_free, leads_to}
use Rattle.mixed_matrices.specs.CanonicalParts.{AreCanonical}
use Rattle.mixed_matrices.specs.CheckerRules.{KeepsPartRules}
use Rattle.mixed_matrices.specs.Examples.{tall_model, tall_symbols, tall_tableau}
use Rattle.mixed_matrices.specs.Layerings.{AreMembers, IsLayeredMatrixOf}
use Rattle.mixed_matrices.specs.Tableaus.{HasTableau, IsTableau}
use Rattle.mixed_pair_laws.proofs.ExampleFacts.{below_one, below_two}
use Rattle.mixed_form_laws.proofs.Canonical.{checked-canonical}
use Rattle.mixed_report_laws.specs.Examples.{plain_origins, tall_constant_parts, tall_constant_tableau, tall_constants}
use Rattle.mixed_report_laws.specs.Examples.{tall_inverse, tall_symbol_model, tall_transform, wide_model, wide_parts}
use Rattle.mixed_report_laws.specs.Examples.{wide_symbols, wide_tableau}

-- no member, and all members
no_members : (n : ℕ) (at : ℕ → ℕ) → AreMembers (λ k. false) n at 0
no_members n at = record {
  count = size-none n;
  below = λ k l. absurd (omega arith);
  member = λ k l. absurd (omega arith);
  place = λ k l. absurd
      (omega arith);
}

all_members : (n : ℕ) → AreMembers (λ k. true) n (λ k. k) n
all_members n = record { count = size-everything n; below = λ k l. l; member = λ k l. refl; place = λ k l. size-everything k }

-- ---- two equations with a symbol each
pub tall_symbols-layered : IsLayeredMatrixOf tall_symbol_model tall_symbols plain_origins
tall_symbols-layered = record {
  constants = λ i j il jl h. refl;
  symbols = λ i j il jl h. absurd (differ h refl);
  q_rows = no_members 2 (λ k. k);
  t_rows = all_members 2;
  auxiliary = no_members 2 (λ k. 0);
  columns = refl;
  q = λ i j il jl. absurd (omega arith);
  q_auxiliary = λ i k il kl. absurd (omega arith);
  t = λ i j il jl. refl;
  t_auxiliary = λ i k il kl. absurd (omega arith);
}

pub tall_symbols-is_tableau : IsTableau 65521 tall_symbols identity identity tall_tableau
tall_symbols-is_tableau = record {
  inverse = λ i j il jl. absurd (omega arith);
  product = λ i j il jl. absurd (omega arith);
  base = record {
    row_below = λ b l h. absurd (differ refl h);
    one = λ b l h. absurd (differ refl h);
    zero = λ b i bl bh il ne. absurd (differ refl bh);
    distinct = λ b c bl cl bh ch e. absurd (differ refl bh);
  };
  matching = record { below = λ j l h. omega arith; symbol = λ j l h. refl; distinct = λ j k jl kl jh kh e. omega arith };
  apart = λ j l h. absurd (differ refl h);
}

-- ---- two equal equations of constants
pub tall_constants-layered : IsLayeredMatrixOf tall_model tall_constants plain_origins
tall_constants-layered = record {
  constants = λ i j il jl h. absurd (differ h refl);
  symbols = λ i j il jl h. refl;
  q_rows = all_members 2;
  t_rows = no_members 2 (λ k. k);
  auxiliary = no_members 2 (λ k. 0);
  columns = refl;
  q = λ i j il jl. refl;
  q_auxiliary = λ i k il kl. absurd (omega arith);
  t = λ i j il jl. refl;
  t_auxiliary = λ i k il kl. absurd (omega arith);
}

pub tall_constants-is_tableau : IsTableau 65521 tall_constants tall_transform tall_inverse tall_constant_tableau
tall_constants-is_tableau = record {
  inverse = λ i j il jl. below_two (λ i. product 2 tall_transform tall_inverse i j % 65521 ≡ identity i j % 65521)
      (below_two (λ j. product 2 tall_transform tall_inverse 0 j % 65521 ≡ identity 0 j % 65521) refl refl j jl)
      (below_two (λ j. product 2 tall_transform tall_inverse 1 j % 65521 ≡ identity 1 j % 65521) refl refl j jl) i il;
  product = λ i j il jl. below_two (λ i. tall_constant_tableau.P i j % 65521 ≡ product 2 tall_transform tall_constants.q i j % 65521) refl refl i il;
  base = record {
    row_below = λ b l h. omega arith;
    one = λ b l h. refl;
    zero = λ b i bl bh il ne. below_two (λ i. i ≢ 0 → cond (eqb i 0) 1 0 % 65521 ≡ 0) (λ no. absurd (no refl)) (λ _. refl) i il ne;
    distinct = λ b c bl cl bh ch e. omega arith;
  };
  matching = record {
    below = λ j l h. absurd (differ refl h);
    symbol = λ j l h. absurd (differ refl h);
    distinct = λ j k jl kl jh kh e. absurd
        (differ refl jh);
  };
  apart = λ j l h. refl;
}

tall_constants-no_free : (x : ℕ) → is_free tall_constant_tableau x ≡ false
unfolding is_free
tall_constants-no_free x = refl

tall_constants-no_end : (x : ℕ) → is_end 65521 tall_constants tall_constant_tableau x ≡ false
unfolding is_end has_base has_match
tall_constants-no_end x = refl

tall_constants-base : has_base tall_constants tall_constant_tableau 0 ≡ true
unfolding has_base
tall_constants-base = refl

tall_constants-no_arc : leads_to 65521 tall_constants tall_constant_tableau 0 0 ≡ false
unfolding leads_to
tall_constants-no_arc = refl

pub tall_constants-kept : KeepsPartRules 65521 tall_constants tall_constant_tableau tall_constant_parts (λ k l. false) (λ l k. false)
tall_constants-kept = record {
  rows = record {
    columns = λ x xl. omega arith;
    base = λ b bl h. refl;
    matched = λ j jl h. absurd (differ refl h);
    other_q = λ i il e. below_two (λ i. has_base tall_constants tall_constant_tableau i ≡ false → i + 1 ≡ 2)
        (λ no. absurd (differ no tall_constants-base)) (λ _. refl) i il e;
    other_t = λ i il e. absurd (omega arith);
  };
  rules = record {
    apart = λ x xl f l. differ refl f;
    down = record {
      starts_first = λ x xl h. absurd (differ (tall_constants-no_free x) h);
      ends_last = λ x xl h. absurd (differ (tall_constants-no_end x) h);
      first_leads = λ x y xl yl f a. absurd (differ refl f);
      block_leads = λ x y i yl a. absurd (differ (no_arc x y i.below yl) a);
    };
    reasons = record {
      first_from = λ x xl f. absurd (differ refl f);
      last_to = λ x xl l. absurd (differ refl l);
      block_mutual = λ x y i j q. each_other x y i.below j.below;
    };
    number = λ x i. omega arith;
    member = λ k kl. (0, record { below = omega arith; not_first = refl; not_last = refl }, (let q : 0 ≡ k = omega arith in q));
    falling = λ k l h. absurd (differ refl h);
    least = λ x k i kl lower. absurd (omega arith);
  };
  order = record {
    apart = λ k l kl ll h q. differ refl h;
    tells = λ x y mx my h. absurd (differ refl h);
    made = λ x y mx my r ne. absurd (ne refl);
  };
  lists = record {
    is_below = λ k l kl ll h. h;
    none_between = λ k m l kl ml ll h a b. differ refl h;
    all = λ k l kl ll h none. h;
  };
}
  where
    no_arc : (x y : ℕ) → x < 1 → y < 1 → leads_to 65521 tall_constants tall_constant_tableau x y ≡ false
    no_arc x y xl yl = below_one (λ x. leads_to 65521 tall_constants tall_constant_tableau x y ≡ false)
        (below_one (λ y. leads_to 65521 tall_constants tall_constant_tableau 0 y ≡ false) tall_constants-no_arc y yl) x xl

    each_other : (x y : ℕ) → x < 1 → y < 1 → Mutual (leads_to 65521 tall_constants tall_constant_tableau) 1 x y
    each_other x y xl yl = below_one (λ x. Mutual (leads_to 65521 tall_constants tall_constant_tableau) 1 x y)
        (below_one (λ y. Mutual (leads_to 65521 tall_constants tall_constant_tableau) 1 0 y) (self, self) y yl) x xl
      where
        self : ReachesIn 65521 tall_constants tall_constant_tableau 0 0
        self = reaches-self (leads_to 65521 tall_constants tall_constant_tableau) 1 0

-- ---- one equation of two unknowns
pub wide-layered : IsLayeredMatrixOf wide_model wide_symbols plain_origins
wide-layered = record {
  constants = λ i j il jl h. refl;
  symbols = λ i j il jl h. absurd (differ h refl);
  q_rows = no_members 1 (λ k. k);
  t_rows = all_members 1;
  auxiliary = no_members 1 (λ k. 0);
  columns = refl;
  q = λ i j il jl. absurd (omega arith);
  q_auxiliary = λ i k il kl. absurd (omega arith);
  t = λ i j il jl. refl;
  t_auxiliary = λ i k il kl. absurd (omega arith);
}

wide-has_tableau : HasTableau 65521 wide_symbols wide_tableau
wide-has_tableau = record {
  kernel = kernel-refl 65521 0 2 (λ i j. 0);
  base = record {
    row_below = λ b l h. absurd (differ refl h);
    one = λ b l h. absurd (differ refl h);
    zero = λ b i bl bh il ne. absurd (differ refl bh);
    distinct = λ b c bl cl bh ch e. absurd (differ refl bh);
  };
  matching = record { below = λ j l h. omega arith; symbol = λ j l h. refl; distinct = λ j k jl kl jh kh e. eqb_true j 0 jh ∙ sym (eqb_true k 0 kh) };
  apart = λ j l h. absurd (differ refl h);
}

wide-free : is_free wide_tableau 1 ≡ true
unfolding is_free
wide-free = refl

wide-match : has_match wide_symbols wide_tableau 0 ≡ true
unfolding has_match
wide-match = refl

wide-arc : leads_to 65521 wide_symbols wide_tableau 1 0 ≡ true
unfolding leads_to
wide-arc = refl

wide-no_end : (x : ℕ) → is_end 65521 wide_symbols wide_tableau x ≡ false
unfolding is_end has_base has_match
wide-no_end x = refl

-- column 1 is free and leads to column 0
wide-from : (x : ℕ) → x < 2 → IsFromFree 65521 wide_symbols wide_tableau x
wide-from = below_two (λ x. IsFromFree 65521 wide_symbols wide_tableau x) (
  1,
  omega arith,
  wide-free,
  reaches-arc (leads_to 65521 wide_symbols wide_tableau) 2 1 1 0
      (reaches-self (leads_to 65521 wide_symbols wide_tableau) 2 1) (omega arith) wide-arc,
)
    (1, omega arith, wide-free, reaches-self (leads_to 65521 wide_symbols wide_tableau) 2 1)

wide-kept : KeepsPartRules 65521 wide_symbols wide_tableau wide_parts (λ k l. false) (λ l k. false)
wide-kept = record {
  rows = record {
    columns = λ x xl. omega arith;
    base = λ b bl h. absurd (differ refl h);
    matched = λ j jl h. refl;
    other_q = λ i il e. absurd (omega arith);
    other_t = λ i il e. below_one (λ i. has_match wide_symbols wide_tableau i ≡ false → wide_parts.t_row i ≡ 1)
        (λ no. absurd (differ no wide-match)) i il e;
  };
  rules = record {
    apart = λ x xl f l. differ refl l;
    down = record {
      starts_first = λ x xl h. refl;
      ends_last = λ x xl h. absurd (differ (wide-no_end x) h);
      first_leads = λ x y xl yl f a. refl;
      block_leads = λ x y i yl a. absurd (differ i.not_first refl);
    };
    reasons = record {
      first_from = λ x xl f. wide-from x xl;
      last_to = λ x xl l. absurd (differ refl l);
      block_mutual = λ x y i j q. absurd (differ i.not_first refl);
    };
    number = λ x i. absurd (differ i.not_first refl);
    member = λ k kl. absurd (omega arith);
    falling = λ k l h. absurd (differ refl h);
    least = λ x k i kl lower. absurd (differ i.not_first refl);
  };
  order = record {
    apart = λ k l kl ll h q. differ refl h;
    tells = λ x y mx my h. absurd (differ refl h);
    made = λ x y mx my r ne. absurd (mx.1 (wide-from x mx.0));
  };
  lists = record {
    is_below = λ k l kl ll h. h;
    none_between = λ k m l kl ml ll h a b. differ refl h;
    all = λ k l kl ll h none. h;
  };
}

pub wide-canonical : AreCanonical 65521 wide_symbols wide_parts
wide-canonical = checked-canonical 65521 prime_65521 wide_symbols wide_tableau wide-has_tableau wide_parts (λ k l. false) (λ l k. false) wide-kept
