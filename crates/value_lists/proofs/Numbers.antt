-- What a place that is set makes of a model: a number in place of its symbol.
use Rattle.std.proofs.Common.{◌≡◌, ◌∙◌, ℕ, ◌+◌, ◌%◌, ◌<◌, ◌&&◌, ◌==◌, Bool, true, false, cond, nat_eq, List}
use Rattle.std.proofs.Common.{[], ◌∷◌, ◌++◌, map, length, Option, Some, None, unwrap_or, get_or, IsTrue, ap, subst, sym, arith}
use Rattle.std.proofs.lemmas.Bool.Decides.{nat_tests}
use Rattle.std.proofs.Math.Nat.{mod-eq_of_lt, mod-mod}
use Rattle.std.proofs.lemmas.List.{get_or_default, map-append}
use Rattle.mixed_layering.specs.Places.{AreTouched}
use Rattle.mixed_model.specs.Models.{MixedModel, SetsPlace, constant_of, symbol_of}
use Rattle.model_edit_laws.proofs.Edits.{set_place}
use Rattle.value_list_laws.specs.FixedSymbols.{place}
use Rattle.value_lists.specs.Fixing.{FixesAt, IsSumAt}

pub numbers-equal : (a b : ℕ) → IsTrue (nat_eq a b) → a ≡ b
numbers-equal a b h = grind (arith, nat_tests, h)

pub equal-numbers : (a b : ℕ) → a ≡ b → IsTrue (nat_eq a b)
equal-numbers a b h = grind (arith, nat_tests, h)

pub zero-from : (m : ℕ) → (m == 0) ≡ true → m ≡ 0
zero-from m h = grind (arith, nat_tests)

-- the numbers of a list, with one more
pub pushed : {A : Type 0} (number : A → ℕ) (old new : List A) (x : A) → new ≡ old ++ x ∷ [] → map number new ≡ map number old ++ number x ∷ []
pushed number old new x is = ap (map number) is ∙ map-append number old (x ∷ [])

-- the sum with a constant, and with none
pub sum-some : (p number sum there constant : ℕ) (c : Option ℕ) → Some constant ≡ c → there ≡ unwrap_or c 0 → sum ≡ (constant + number) % p →
    sum % p ≡ (there + number) % p
sum-some p number sum there constant c is at added = let same : there ≡ constant = at ∙ ap (λ x. unwrap_or x 0) (sym is) in
    ap (λ n. n % p) added ∙ mod-mod (constant + number) p ∙ ap (λ n. (n + number) % p) (sym same)

pub sum-none : (p number sum there : ℕ) (c : Option ℕ) → None ≡ c → there ≡ unwrap_or c 0 → sum ≡ number → sum % p ≡ (there + number) % p
sum-none p number sum there c is at added = let same : there ≡ 0 = at ∙ ap (λ x. unwrap_or x 0) (sym is) in
    ap (λ n. n % p) (omega (arith, same, added))

pub two-is : (p a b n : ℕ) → 2 < p → n ≡ (a + b) % p → a ≡ 1 → b ≡ 1 → n ≡ 2
two-is p a b n odd is one other = let two : a + b ≡ 2 = omega (arith, one, other) in is ∙ ap (λ x. x % p) two ∙ mod-eq_of_lt odd

-- the columns of symbols are columns
pub all-below : (n : ℕ) (A : ℕ → Bool) (list now : List ℕ) (m : ℕ) → AreTouched n A list → now ≡ list → m ≡ n →
    (k d : ℕ) → k < length now → get_or now k d < m
all-below n A list now m are same count k d kl = subst (λ xs. k < length xs → get_or xs k d < m) (sym same) at kl
  where
    at : k < length list → get_or list k d < m
    at within = omega (arith, get_or_default list k d 0 within, are.below k within, count)

-- at the place itself, and elsewhere
at_place : (i j : ℕ) → nat_eq i i && nat_eq j j ≡ true
at_place i j = grind (arith, nat_tests)

elsewhere : (i j k l : ℕ) → place i j k l ≡ false → nat_eq i k && nat_eq j l ≡ false
elsewhere i j k l h = grind (arith, nat_tests, h)

pub fixes-at : (p : ℕ) (old new : MixedModel) (i j c : ℕ) (sum : Option ℕ) → SetsPlace old new i j sum false → IsSumAt p old i j c sum →
    FixesAt p old new i j c
fixes-at p old new i j c sum set is = record {
  same = record { equations = set.equations; unknowns = set.unknowns; edited = set_place old new i j sum false set };
  puts = record {
    rows = ap (λ (names : List (List ℕ)). length names) set.equations;
    columns = ap (λ (names : List (List ℕ)). length names) set.unknowns;
    constant = ap (λ x. unwrap_or x 0 % p) (set.constants i j ∙ ap (λ here. cond here sum (constant_of old i j)) (at_place i j)) ∙ is;
    symbol = set.symbols i j ∙ ap (λ here. cond here false (symbol_of old i j)) (at_place i j);
    other_constants = λ k l other. ap (λ x. unwrap_or x 0 % p) (set.constants k l
        ∙ ap (λ here. cond here sum (constant_of old k l)) (elsewhere i j k l other));
    other_symbols = λ k l other. set.symbols k l ∙ ap (λ here. cond here false (symbol_of old k l)) (elsewhere i j k l other);
  };
}
