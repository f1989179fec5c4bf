-- Facts of two equations of one unknown, each with the constant 1, and of one entry with a constant and a symbol.
use Rattle.std.proofs.Common.{◌≡◌, ◌≢◌, ℕ, zero, suc, ◌+◌, ◌%◌, ◌<◌, true, false, cond, eqb, refl, arith, inl}
use Rattle.residue_theory.proofs.CountLaws.{size-everything}
use Rattle.residue_theory.proofs.SumLaws.{size-none}
use Rattle.residue_theory.proofs.Primes.{prime_65521}
use Rattle.residue_theory.proofs.SetLaws.{differ}
use Rattle.residue_theory.specs.Sets.{everything, nothing, only, with_one}
use Rattle.linear_algebra.specs.Products.{identity, product}
use Rattle.closed_sets.proofs.Hulls.{follows-from}
use Rattle.closed_sets.proofs.WalkLaws.{reaches-self}
use Rattle.closed_sets.specs.Closed.{Follows}
use Rattle.closed_sets.specs.Walks.{FromSome}
use Rattle.mixed_matrices.specs.Arcs.{is_free}
use Rattle.mixed_matrices.specs.Examples.{empty_tableau, split_matrix, split_model, split_origins, tall_model}
use Rattle.mixed_matrices.specs.Layerings.{AreMembers, IsLayeredMatrixOf, gives_q, has_symbol}
use Rattle.mixed_pair_laws.proofs.ExampleFacts.{below_one, below_two}
use Rattle.mixed_matrices.specs.Tableaus.{IsTableau}
use Rattle.mixed_report_laws.specs.Examples.{plain_origins, tall_constant_tableau, tall_constants, tall_inverse}
use Rattle.mixed_report_laws.specs.Examples.{tall_transform}
use Rattle.equation_matroid_laws.specs.Conflicts.{IsInCircuit}
use Rattle.row_choice_laws.proofs.Joining.{rows-independent}
use Rattle.row_choice_laws.proofs.Told.{circuit-told}
use Rattle.row_choice_laws.specs.Examples.{joining_tableau}
use Rattle.row_choice_laws.specs.RowSearches.{IsJoining, AreRowsReachedInVain, bare_of, is_bare_row, is_open, is_row_of}
use Rattle.row_choice_laws.specs.RowSearches.{places}
use Rattle.row_choice_laws.specs.RowSearches.{row_leads}
use Rattle.row_choice_laws.specs.States.{KeepsEquations}

-- no member, and all members
no_members : (n : ℕ) (at : ℕ → ℕ) → AreMembers (λ k. false) n at 0
no_members n at = record {
  count = size-none n;
  below = λ k l. absurd (omega arith);
  member = λ k l. absurd (omega arith);
  place = λ k l. absurd
      (omega arith);
}

all_members : (n : ℕ) → AreMembers (λ k. true) n (λ k. k) n
all_members n = record { count = size-everything n; below = λ k l. l; member = λ k l. refl; place = λ k l. size-everything k }

tall_constants-layered : IsLayeredMatrixOf tall_model tall_constants plain_origins
tall_constants-layered = record {
  constants = λ i j il jl h. absurd (differ h refl);
  symbols = λ i j il jl h. refl;
  q_rows = all_members 2;
  t_rows = no_members 2 (λ k. k);
  auxiliary = no_members 2 (λ k. 0);
  columns = refl;
  q = λ i j il jl. refl;
  q_auxiliary = λ i k il kl. absurd (omega arith);
  t = λ i j il jl. refl;
  t_auxiliary = λ i k il kl. absurd (omega arith);
}

tall_constants-is_tableau : IsTableau 65521 tall_constants tall_transform tall_inverse tall_constant_tableau
tall_constants-is_tableau = record {
  inverse = λ i j il jl. below_two (λ i. product 2 tall_transform tall_inverse i j % 65521 ≡ identity i j % 65521)
      (below_two (λ j. product 2 tall_transform tall_inverse 0 j % 65521 ≡ identity 0 j % 65521) refl refl j jl)
      (below_two (λ j. product 2 tall_transform tall_inverse 1 j % 65521 ≡ identity 1 j % 65521) refl refl j jl) i il;
  product = λ i j il jl. below_two (λ i. tall_constant_tableau.P i j % 65521 ≡ product 2 tall_transform tall_constants.q i j % 65521) refl refl i il;
  base = record {
    row_below = λ b l h. omega arith;
    one = λ b l h. refl;
    zero = λ b i bl bh il ne. below_two (λ i. i ≢ 0 → cond (eqb i 0) 1 0 % 65521 ≡ 0) (λ no. absurd (no refl)) (λ _. refl) i il ne;
    distinct = λ b c bl cl bh ch e. omega arith;
  };
  matching = record {
    below = λ j l h. absurd (differ refl h);
    symbol = λ j l h. absurd (differ refl h);
    distinct = λ j k jl kl jh kh e. absurd
        (differ refl jh);
  };
  apart = λ j l h. refl;
}

above_zero : (x : ℕ) → suc x ≡ zero → ⊥
above_zero x q = omega (arith, q)

zero_not_one : (x : ℕ) → x ≡ 0 → x ≡ 1 → ⊥
zero_not_one x a b = omega (arith, a, b)

pub bare-one : is_bare_row tall_constants tall_constant_tableau 1 ≡ true
unfolding is_bare_row
bare-one = refl

pub bare-zero : is_bare_row tall_constants tall_constant_tableau 0 ≡ false
unfolding is_bare_row
bare-zero = refl

pub open-split : is_open 65521 split_matrix empty_tableau 0 ≡ true
unfolding is_open is_free
open-split = refl

pub open-zero : is_open 65521 tall_constants tall_constant_tableau 0 ≡ false
unfolding is_open is_free
open-zero = refl

open-one : is_open 65521 tall_constants tall_constant_tableau 1 ≡ false
unfolding is_open is_free
open-one = refl

pub leads-zero : row_leads 65521 tall_constants tall_constant_tableau 0 0 ≡ true
unfolding row_leads
leads-zero = refl

pub leads-one_zero : row_leads 65521 tall_constants tall_constant_tableau 1 0 ≡ false
unfolding row_leads
leads-one_zero = refl

leads-one_one : row_leads 65521 tall_constants tall_constant_tableau 1 1 ≡ false
unfolding row_leads
leads-one_one = refl

bare-split : is_bare_row split_matrix joining_tableau 0 ≡ true
unfolding is_bare_row
bare-split = refl

pub tall-kept : KeepsEquations 65521 tall_constants plain_origins tall_transform tall_constant_tableau (only 0)
tall-kept = record {
  on = record {
    base = λ b bl h. refl;
    matched = λ j jl h. absurd (differ refl h);
    made = λ i k il kl h g. below_two (λ i. only 0 i ≡ true → tall_transform i k % 65521 ≡ 0)
        (λ _. below_two (λ k. only 0 k ≡ false → tall_transform 0 k % 65521 ≡ 0) (λ e. absurd (differ e refl)) (λ _. refl) k kl g)
        (λ e. absurd (differ refl e)) i il h;
  };
  used = below_two (λ r. is_row_of tall_constants plain_origins (only 0) r ≡ true → is_bare_row tall_constants tall_constant_tableau r ≡ false) (λ _. bare-zero)
      (λ e. absurd (differ refl e));
  alone = λ i k il kl g ne. below_two (λ k. only 0 k ≡ false → i ≢ k → tall_transform i k % 65521 ≡ 0) (λ e. absurd (differ e refl))
      (λ _ ne. below_two (λ i. i ≢ 1 → tall_transform i 1 % 65521 ≡ 0) (λ _. refl) (λ n. absurd (n refl)) i il ne) k kl g ne;
  own = λ k kl g. below_two (λ k. only 0 k ≡ false → tall_transform k k % 65521 ≢ 0) (λ e. absurd (differ e refl)) (λ _. above_zero 0) k kl g;
}

pub both-not_kept : KeepsEquations 65521 tall_constants plain_origins tall_transform tall_constant_tableau everything → ⊥
both-not_kept kept = differ (kept.used 1 (omega arith) refl) bare-one

pub tall-joining : IsJoining 65521 tall_model everything tall_constants plain_origins tall_transform tall_constant_tableau (only 0) 1
tall-joining = record {
  on = record {
    base = λ b bl h. refl;
    matched = λ j jl h. absurd (differ refl h);
    made = λ i k il kl h g. absurd (below_two (λ k. with_one (only 0) 1 k ≡ false → ⊥) (λ e. differ e refl) (λ e. differ e refl) k kl g);
  };
  used = tall-kept.used;
  own = λ i il q. (
    below_two (λ i. i ≡ 1 → is_bare_row tall_constants tall_constant_tableau i ≡ true) (λ e. absurd (zero_not_one 0 refl e)) (λ _. bare-one) i il q,
    below_two (λ i. i ≡ 1 → tall_transform i i % 65521 ≢ 0) (λ e. absurd (zero_not_one 0 refl e)) (λ _. above_zero 0) i il q,
  );
  single = λ t tl. absurd (omega (arith, tl));
  split = λ t k tl. absurd (omega (arith, tl));
}

pub first-not_joining : IsJoining 65521 tall_model everything tall_constants plain_origins tall_transform tall_constant_tableau nothing 0 → ⊥
first-not_joining join = differ bare-zero (join.own 0 (omega arith) refl).0

abbrev IsPaired : ℕ → ℕ → Type 0
IsPaired t k = (joining_tableau.matched (1 + k) ≡ true) × (joining_tableau.mate (1 + k) ≡ t)

pub split-joining : IsJoining 65521 split_model everything split_matrix split_origins identity joining_tableau nothing 0
split-joining = record {
  on = record {
    base = λ b bl h. absurd (differ refl h);
    matched = λ j jl h. refl;
    made = λ i k il kl h g. absurd (differ g refl);
  };
  used = λ r rl h. absurd (differ refl h);
  own = λ i il q. (
    below_one (λ i. is_bare_row split_matrix joining_tableau i ≡ true) bare-split i il,
    below_one (λ i. identity i i % 65521 ≢ 0)
        (above_zero 0) i il,
  );
  single = λ t tl q a. absurd (differ a refl);
  split = λ t k tl kl q g. below_one (λ t. IsPaired t k) (below_one (λ k. IsPaired 0 k) (refl, refl) k kl) t tl;
}

pub unmatched-not_joining : IsJoining 65521 split_model everything split_matrix split_origins identity empty_tableau nothing 0 → ⊥
unmatched-not_joining join = differ refl (join.split 0 0 (omega arith) (omega arith) refl refl).0

within-one : (r : ℕ) → r < places tall_constants → bare_of tall_constants plain_origins tall_constant_tableau (with_one (only 0) 1) r ≡ true → only 1 r ≡ true
within-one = below_two (λ r. bare_of tall_constants plain_origins tall_constant_tableau (with_one (only 0) 1) r ≡ true → only 1 r ≡ true)
    (λ h. absurd (differ bare-zero h)) (λ _. refl)

one-follows : Follows (row_leads 65521 tall_constants tall_constant_tableau) (places tall_constants) (only 1)
one-follows r s rl sl h a = below_two (λ r. only 1 r ≡ true → row_leads 65521 tall_constants tall_constant_tableau r s ≡ true → only 1 s ≡ true)
    (λ e. absurd (differ refl e))
    (λ _ b. below_two (λ s. row_leads 65521 tall_constants tall_constant_tableau 1 s ≡ true → only 1 s ≡ true) (λ e. absurd (differ leads-one_zero e))
    (λ _. refl) s sl b) r rl h a

pub one-in_vain : AreRowsReachedInVain 65521 tall_constants plain_origins tall_constant_tableau (with_one (only 0) 1) (only 1)
one-in_vain = record {
  reached = λ y yl. (
    below_two (λ y. only 1 y ≡ true → FromSome (row_leads 65521 tall_constants tall_constant_tableau) (places tall_constants)
        (bare_of tall_constants plain_origins tall_constant_tableau (with_one (only 0) 1)) y) (λ e. absurd (differ refl e))
        (λ _. (1, omega arith, bare-one, reaches-self (row_leads 65521 tall_constants tall_constant_tableau) (places tall_constants) 1)) y yl,
    follows-from (row_leads 65521 tall_constants tall_constant_tableau) (places tall_constants)
        (bare_of tall_constants plain_origins tall_constant_tableau (with_one (only 0) 1)) (only 1) within-one one-follows y yl,
  );
  vain = λ e el o _. below_two (λ e. is_open 65521 tall_constants tall_constant_tableau e ≡ true → ⊥) (differ open-zero) (differ open-one) e el o;
}

pub nothing-not_reached : AreRowsReachedInVain 65521 tall_constants plain_origins tall_constant_tableau (with_one (only 0) 1) nothing → ⊥
nothing-not_reached vain = differ refl ((vain.reached 1 (omega arith)).1
    (1, omega arith, bare-one, reaches-self (row_leads 65521 tall_constants tall_constant_tableau) (places tall_constants) 1))

pub in-circuit : IsInCircuit 65521 tall_model (only 0) 1 0
in-circuit = ((circuit-told 65521 prime_65521 (omega arith) tall_model (gives_q tall_model) (has_symbol tall_model) tall_constants plain_origins
    tall_constants-layered tall_transform tall_inverse tall_constant_tableau tall_constants-is_tableau (only 0) 1 (omega arith) (inl refl) refl joining
    (rows-independent 65521 prime_65521 (omega arith) tall_model (gives_q tall_model) (has_symbol tall_model) tall_constants plain_origins
    tall_constants-layered tall_transform tall_inverse tall_constant_tableau tall_constants-is_tableau (only 0) tall-kept.on
    (λ x xl _. inl (below_two (λ x. gives_q tall_model x ≡ true) refl refl x xl)) tall-kept.used) (only 1) one-in_vain).by_q 0 (omega arith) refl refl).1
    (1, omega arith, refl, above_zero 65519)
  where
    joining : IsJoining 65521 tall_model (gives_q tall_model) tall_constants plain_origins tall_transform tall_constant_tableau (only 0) 1
    joining = record {
      on = tall-joining.on;
      used = tall-joining.used;
      own = tall-joining.own;
      single = λ t tl. absurd (omega (arith, tl));
      split = tall-joining.split;
    }
