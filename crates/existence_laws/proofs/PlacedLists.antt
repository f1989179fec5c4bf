-- Lists of the numbers below n by a function that gives each its place.
use Rattle.std.proofs.Common.{◌≡◌, ℕ, zero, suc, ◌+◌, ◌<◌, ◌≤◌, true, eqb, List, [], ◌∷◌, ◌++◌, length, map, get_or}
use Rattle.std.proofs.Common.{inl, inr, refl, ap, sym, ◌∙◌, arith, add-one}
use Rattle.std.proofs.lemmas.List.{get_or-map, get_or_append_left, get_or_push, length-append, length-map}
use Rattle.residue_theory.specs.Sets.{has}
use Rattle.residue_theory.proofs.SumLaws.{nat_cases}
use Rattle.residue_theory.proofs.SetLaws.{eqb_from, eqb_true}
use Rattle.cert_text.specs.Readings.{place_of, StandsOnce}
use Rattle.cert_text.proofs.PrintedRules.{place-is}
use Rattle.existence_laws.proofs.Lists.{members-has, members_of, values-at, values-long, values_of}

-- the numbers below n whose place is k
abbrev pub placed : (ℕ → ℕ) → ℕ → ℕ → List ℕ
placed f n k = members_of (λ x. eqb (f x) k) n

module _ (n b : ℕ) (f : ℕ → ℕ) (within : (x : ℕ) → x < n → f x ≤ b + 1) (lists : List (List ℕ)) (long : length lists ≡ b + 2)
    (at : (k : ℕ) → k ≤ b + 1 → get_or lists k [] ≡ placed f n k) where
  holds : (x k : ℕ) → x < n → k ≤ b + 1 → f x ≡ k → has (get_or lists k []) x ≡ true
  holds x k xl kl is = ap (λ list. has list x) (at k kl) ∙ members-has (λ y. eqb (f y) k) n x xl ∙ eqb_from (f x) k is

  told : (x k : ℕ) → x < n → k ≤ b + 1 → has (get_or lists k []) x ≡ true → f x ≡ k
  told x k xl kl h = eqb_true (f x) k (sym (members-has (λ y. eqb (f y) k) n x xl) ∙ sym (ap (λ list. has list x) (at k kl)) ∙ h)

  pub once : StandsOnce n lists
  once = record {
    some = λ x xl. let low = within x xl in (f x, omega (arith, low, long), holds x (f x) xl low refl);
    one = λ x k l xl kl ll hk hl. sym (told x k xl (omega (arith, kl, long)) hk) ∙ told x l xl (omega (arith, ll, long)) hl;
  }

  pub place : (x : ℕ) → x < n → place_of lists x ≡ f x
  place x xl = let low = within x xl in place-is n lists once x (f x) xl (omega (arith, low, long)) (holds x (f x) xl low refl)

-- the first, the blocks and the last, of which each is made of its place
module _ {B : Type 0} (of : B → List ℕ) (block : ℕ → B) (b : ℕ) (part : ℕ → List ℕ) (blocks_are : (k : ℕ) → of (block k) ≡ part (k + 1)) where
  abbrev pub all_lists : List (List ℕ)
  all_lists = part 0 ∷ (map of (values_of block b) ++ part (b + 1) ∷ [])

  middle : length (map of (values_of block b)) ≡ b
  middle = length-map (values_of block b) of ∙ values-long block b

  pub all-long : length all_lists ≡ b + 2
  all-long = omega (arith, length-append (map of (values_of block b)) (part (b + 1) ∷ []), middle)

  pub all-at : (k : ℕ) → k ≤ b + 1 → get_or all_lists k [] ≡ part k
  all-at zero kl = refl
  all-at (suc k) kl = elim (nat_cases k b) [
    | inl last ↦ get_or_push (map of (values_of block b)) (part (b + 1)) [] k (middle ∙ sym last) ∙ ap (λ j. part (j + 1)) (sym last) ∙ ap part (add-one k)
    | inr other ↦
        let before : k < b = omega (arith, kl, other) in
        get_or_append_left (map of (values_of block b)) (part (b + 1) ∷ []) [] k (omega (arith, before, middle))
        ∙ get_or-map of (values_of block b) k (block 0) [] (omega (arith, before, values-long block b))
        ∙ ap of (values-at block b k (block 0) before) ∙ blocks_are k ∙ ap part (add-one k)
  ]
