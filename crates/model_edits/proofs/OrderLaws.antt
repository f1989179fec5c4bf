-- Which model a word names.
use Rattle.std.proofs.Common.{◌≡◌, ℕ, ◌+◌, ◌<◌, Bool, true, false, cond, List, [], length, map, get_or, nat_lt, decimal, codes}
use Rattle.std.proofs.Common.{Some, None, refl, sym, ap, ◌∙◌, arith, lt-ltb, le-ltb, ltb-true}
use Rattle.std.specs.Fmt.{digits}
use Rattle.std.specs.List.{position_or_len, range_with_len}
use Rattle.std.specs.Str.{bytes_eq}
use Rattle.std.proofs.lemmas.List.FromFn.{get_or-map-range_with_len, length-map-range_with_len}
use Rattle.std.proofs.lemmas.List.Sums.{position_or_len_is}
use Rattle.model_edits.specs.Commands.{model_named}

-- the numbers of so many models in digits
abbrev numbers : ℕ → List (List ℕ)
numbers count = map decimal (range_with_len 1 count)

length-numbers : (count : ℕ) → length (numbers count) ≡ count
length-numbers count = length-map-range_with_len decimal 1 count

get_or-numbers : (count j : ℕ) → j < count → get_or (numbers count) j [] ≡ decimal (j + 1)
get_or-numbers count j jl = get_or-map-range_with_len decimal 1 count j (j + 1) [] jl (omega arith)

-- the word is none of the first k numbers
abbrev pub IsNoneBefore : ℕ → List ℕ → Type 0
IsNoneBefore k word = (j : ℕ) → j < k → bytes_eq word (decimal (j + 1)) ≡ false

-- the first number that is the word
pub named-first : (count k : ℕ) (word : List ℕ) → k < count → IsNoneBefore k word → bytes_eq word (decimal (k + 1)) ≡ true →
    model_named count word ≡ Some k
named-first count k word kl before here =
    let counted = length-numbers count in
    let place = position_or_len_is (bytes_eq word) (numbers count) k [] (omega (arith, counted))
    (λ j jl. ap (bytes_eq word) (get_or-numbers count j (omega arith)) ∙ before j jl)
    (λ _. ap (bytes_eq word) (get_or-numbers count k kl) ∙ here) in
    (λ i. cond (nat_lt (place i) (length (numbers count))) (Some (place i)) None)
    ∙ ap (λ b. cond b (Some k) None) (lt-ltb k (length (numbers count)) (omega (arith, counted)))

-- no number is the word
pub named-none : (count : ℕ) (word : List ℕ) → IsNoneBefore count word → model_named count word ≡ None
named-none count word before =
    let counted = length-numbers count in
    let place = position_or_len_is (bytes_eq word) (numbers count) (length (numbers count)) [] (omega arith)
    (λ j jl. ap (bytes_eq word) (get_or-numbers count j (omega (arith, counted))) ∙ before j (omega (arith, counted)))
    (λ within. absurd (omega arith)) in
    (λ i. cond (nat_lt (place i) (length (numbers count))) (Some (place i)) None)
    ∙ ap (λ b. cond b (Some (length (numbers count))) None) (le-ltb (length (numbers count)) (length (numbers count)) (omega arith))

-- there is a model of a number that is named
pub named-below : (count k : ℕ) (word : List ℕ) → model_named count word ≡ Some k → k < count
named-below count k word named = by (nat_lt (position_or_len (bytes_eq word) (numbers count)) (length (numbers count))) refl named
  where
    by : (b : Bool) → nat_lt (position_or_len (bytes_eq word) (numbers count)) (length (numbers count)) ≡ b →
        cond b (Some (position_or_len (bytes_eq word) (numbers count))) None ≡ Some k → k < count
    by true within e =
        let same : position_or_len (bytes_eq word) (numbers count) ≡ k = cc in
        let below = ltb-true (position_or_len (bytes_eq word) (numbers count)) (length (numbers count)) within in
        omega (arith, same, below, length-numbers count)
    by false within e = let f : ⊥ = cc in absurd f

-- the numbers in digits
pub record AreNumerals : Type 0 where
  pub one : codes "1" ≡ decimal 1
  pub two : codes "2" ≡ decimal 2
  pub three : codes "3" ≡ decimal 3
  pub four : codes "4" ≡ decimal 4
  pub five : codes "5" ≡ decimal 5
  pub six : codes "6" ≡ decimal 6
  pub seven : codes "7" ≡ decimal 7
  pub eight : codes "8" ≡ decimal 8
  pub nine : codes "9" ≡ decimal 9
  pub ten : codes "10" ≡ decimal 10
  pub eleven : codes "11" ≡ decimal 11
  pub twelve : codes "12" ≡ decimal 12
  pub thirteen : codes "13" ≡ decimal 13
  pub fourteen : codes "14" ≡ decimal 14
  pub fifteen : codes "15" ≡ decimal 15
  pub sixteen : codes "16" ≡ decimal 16

pub numerals : AreNumerals
unfolding digits
numerals = record {
  one = refl;
  two = refl;
  three = refl;
  four = refl;
  five = refl;
  six = refl;
  seven = refl;
  eight = refl;
  nine = refl;
  ten = refl;
  eleven = refl;
  twelve = refl;
  thirteen = refl;
  fourteen = refl;
  fifteen = refl;
  sixteen = refl;
}

-- the text of a number that is told otherwise
pub numeral-of : (k n : ℕ) (text : List ℕ) → k ≡ n → text ≡ decimal (n + 1) → text ≡ decimal (k + 1)
numeral-of k n text same is = is ∙ ap (λ m. decimal (m + 1)) (sym same)
