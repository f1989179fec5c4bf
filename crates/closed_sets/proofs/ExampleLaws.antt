-- The definitions at three places.
use Rattle.std.proofs.Common.{◌≡◌, ℕ, zero, suc, ◌-◌, ◌<◌, ◌≤◌, true, ◌⊎◌, inl, inr, refl, subst, arith}
use Rattle.std.proofs.lemmas.Bool.Decides.{nat_tests}
use Rattle.residue_theory.specs.Sets.{nothing, only}
use Rattle.closed_sets.specs.Walks.{Reaches, Mutual}
use Rattle.closed_sets.specs.Closed.{IsClosed, IsMiddle}
use Rattle.closed_sets.specs.Blocks.{IsListing}
use Rattle.closed_sets.specs.Examples.{example_arc, example_pair, example_block}
use Rattle.residue_theory.proofs.SetLaws.{lt_cases}
use Rattle.closed_sets.proofs.WalkLaws.{follows-reaches, reaches-self}

pair-follows : (x y : ℕ) → x < 3 → y < 3 → example_pair x ≡ true → example_arc x y ≡ true → example_pair y ≡ true
pair-follows x y xl yl h a = grind (arith, nat_tests)

pub pair-closed : IsClosed example_arc 3 nothing nothing example_pair
pair-closed = record {
  holds_starts = λ x l h. cc;
  no_end = λ x l h e. cc;
  follows = pair-follows;
}

pub two-open : IsClosed example_arc 3 nothing nothing (only 2) → ⊥
two-open c = let h = c.follows 2 1 (omega arith) (omega arith) refl refl in cc

pub two-reaches : Reaches example_arc 3 2 0
two-reaches = (2, (1, omega arith, (2, omega arith, refl, refl), refl))

pub never-two : Reaches example_arc 3 0 2 → ⊥
never-two r = let h = follows-reaches example_arc 3 example_pair pair-follows 0 2 (omega arith) (omega arith) refl r in cc

middle : (x : ℕ) → x < 3 → IsMiddle example_arc 3 nothing nothing x
middle x l = (l, (λ (s, sl, h, r). let no_start : ⊥ = cc in no_start), λ (e, el, h, r). let no_end : ⊥ = cc in no_end)

-- 0 and 1 reach each other
pair-reaches : (x y : ℕ) → x < 2 → y < 2 → Reaches example_arc 3 x y
pair-reaches zero zero xl yl = reaches-self example_arc 3 0
pair-reaches zero (suc zero) xl yl = (1, (0, omega arith, refl, refl))
pair-reaches (suc zero) zero xl yl = (1, (1, omega arith, refl, refl))
pair-reaches (suc zero) (suc zero) xl yl = reaches-self example_arc 3 1
pair-reaches (suc (suc x)) y xl yl = absurd (omega arith)
pair-reaches x (suc (suc y)) xl yl = absurd (omega arith)

-- a place of the pair reaches the pair alone
pair-keeps : (x y : ℕ) → x < 2 → y < 3 → Reaches example_arc 3 x y → y < 2
pair-keeps x y xl yl r =
    let inside : example_pair x ≡ true = grind (arith, nat_tests) in
    let h = follows-reaches example_arc 3 example_pair pair-follows x y (omega arith) yl inside r in
    grind (arith, nat_tests, h)

example-lower : (x y : ℕ) → x < 3 → y < 3 → Reaches example_arc 3 x y → example_block y ≤ example_block x
example-lower x y xl yl r = go (lt_cases x 2)
  where
    go : (x < 2) ⊎ (2 ≤ x) → example_block y ≤ example_block x
    go (inl less) = let h = pair-keeps x y less yl r in grind (arith, nat_tests, h)
    go (inr two) = grind (arith, nat_tests)

example-shared : (x y : ℕ) → x < 3 → y < 3 → example_block x ≡ example_block y → Mutual example_arc 3 x y
example-shared x y xl yl e = go (lt_cases x 2)
  where
    go : (x < 2) ⊎ (2 ≤ x) → Mutual example_arc 3 x y
    go (inl less) = let h : y < 2 = grind (arith, nat_tests, e) in (pair-reaches x y less h, pair-reaches y x h less)
    go (inr two) = let same : x ≡ y = grind (arith, nat_tests, e) in
        subst (λ v. Mutual example_arc 3 x v) same (reaches-self example_arc 3 x, reaches-self example_arc 3 x)

pub example-listing : IsListing example_arc 3 nothing nothing example_block 2
example-listing = record {
  below_b = λ x m. block-below x;
  each = each;
  shared = λ x y mx my e. example-shared x y mx.0 my.0 e;
  joined = λ x y mx my t. (let p = example-lower x y mx.0 my.0 t.0 in let q = example-lower y x my.0 mx.0 t.1 in omega (arith, p, q));
  lower_before = λ x y mx my r. example-lower x y mx.0 my.0 r;
  least = λ x k mx less lower. (0, first x mx.0 k less, middle 0 (omega arith), none x mx.0 k less);
}
  where
    block-below : (x : ℕ) → example_block x < 2
    block-below x = grind (arith, nat_tests)

    each : (k : ℕ) → k < 2 → (x : ℕ) × IsMiddle example_arc 3 nothing nothing x × (example_block x ≡ k)
    each zero l = (0, middle 0 (omega arith), refl)
    each (suc zero) l = (2, middle 2 (omega arith), refl)
    each (suc (suc k)) l = absurd (omega arith)

    first : (x : ℕ) → x < 3 → (k : ℕ) → k < example_block x → 0 < x
    first x l k less = grind (arith, nat_tests, less)

    none : (x : ℕ) → x < 3 → (k : ℕ) → k < example_block x → 0 ≡ k
    none x l k less = grind (arith, nat_tests, less)

pub turned-listing : IsListing example_arc 3 nothing nothing (λ x. 1 - example_block x) 2 → ⊥
turned-listing T = let h = T.lower_before 2 0 (middle 2 (omega arith)) (middle 0 (omega arith)) two-reaches in omega arith
