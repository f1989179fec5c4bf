-- The lists of the printed parts: each number stands in the list of its part alone.
use Rattle.std.proofs.Common.{◌≡◌, ℕ, zero, suc, ◌+◌, ◌<◌, inl, inr, true, List, [], ◌∷◌, ◌++◌, length, get_or}
use Rattle.std.proofs.Common.{slice_get, Some, unwrap_or, ap, sym, ◌∙◌, subst, arith}
use Rattle.std.proofs.lemmas.List.{get_or_append_left, get_or_push, length-append}
use Rattle.residue_theory.proofs.SetLaws.{lt_cases}
use Rattle.residue_theory.specs.Sets.{has}
use Rattle.cert_text.specs.Readings.{place_of, StandsOnce}
use Rattle.cert_text.proofs.PrintedRules.{place-is}
use Rattle.minimiser_lattice.specs.declared.lattice.Part.{Part}
use Rattle.minimiser_lattice.specs.declared.lattice.Part.TheVariants.{First, Block, Last}
use Rattle.ccf_builder.specs.Placings.{ListsPart}

-- the place of a part's list among the lists of all parts, b being the number of blocks
abbrev pub place_of_part : ℕ → Part → ℕ
place_of_part b First = 0
place_of_part b (Block k) = k + 1
place_of_part b Last = b + 1

-- parts of the blocks that there are
abbrev pub IsOfBlocks : ℕ → Part → Type 0
IsOfBlocks b First = Unit {0}
IsOfBlocks b (Block k) = k < b
IsOfBlocks b Last = Unit {0}

module _ (b n : ℕ) (parts : List Part) (long : length parts ≡ n) (first last : List ℕ) (middle : List (List ℕ)) (few : length middle ≡ b)
    (in_first : ListsPart parts First first) (in_middle : (k : ℕ) → k < b →
    ListsPart parts (Block k) (get_or middle k [])) (in_last : ListsPart parts Last last)
    (at : ℕ → Part) (tells : (x : ℕ) → x < n → slice_get parts x ≡ Some (at x)) (bounded : (x : ℕ) → x < n → IsOfBlocks b (at x)) where
  abbrev pub lists : List (List ℕ)
  lists = first ∷ (middle ++ last ∷ [])

  many : length lists ≡ b + 2
  many = let long : length (middle ++ last ∷ []) ≡ length middle + 1 = length-append middle (last ∷ []) in omega (arith, long, few)

  middle-at : (k : ℕ) → k < b → get_or lists (suc k) [] ≡ get_or middle k []
  middle-at k kb = get_or_append_left middle (last ∷ []) [] k (omega (arith, few, kb))

  last-at : get_or lists (suc b) [] ≡ last
  last-at = get_or_push middle last [] b few

  inside : (x : ℕ) → x < n → x < length parts
  inside x xl = subst (λ m. x < m) (sym long) xl

  same : (x : ℕ) (part : Part) → x < n → slice_get parts x ≡ Some part → at x ≡ part
  same x part xl e = ap (λ o. unwrap_or o First) (sym (tells x xl) ∙ e)

  -- the list of its part holds it
  holds : (part : Part) (x : ℕ) → x < n → slice_get parts x ≡ Some part → IsOfBlocks b part → has (get_or lists (place_of_part b part) []) x ≡ true
  holds First x xl e in_one = (in_first.exact x (inside x xl)).1 e
  holds (Block k) x xl e in_one = let next : suc k ≡ k + 1 = omega arith in
      subst (λ i. has (get_or lists i []) x ≡ true) next
      (subst (λ list. has list x ≡ true) (sym (middle-at k in_one))
      (((in_middle k in_one).exact x (inside x xl)).1 e))
  holds Last x xl e in_one = let next : suc b ≡ b + 1 = omega arith in
      subst (λ i. has (get_or lists i []) x ≡ true) next (subst (λ list. has list x ≡ true) (sym last-at)
      ((in_last.exact x (inside x xl)).1 e))

  within : (part : Part) → IsOfBlocks b part → place_of_part b part < length lists
  within First in_one = omega (arith, many)
  within (Block k) in_one = omega (arith, many, in_one)
  within Last in_one = omega (arith, many)

  -- and no other
  only : (k x : ℕ) → x < n → k < length lists → has (get_or lists k []) x ≡ true → place_of_part b (at x) ≡ k
  only zero x xl kl h = ap (place_of_part b) (same x First xl ((in_first.exact x (inside x xl)).0 h))
  only (suc k) x xl kl h = elim (lt_cases k b) [
    | inl kb ↦ ap (place_of_part b) (same x (Block k) xl (((in_middle k kb).exact x (inside x xl)).0
        (subst (λ list. has list x ≡ true) (middle-at k kb) h))) ∙ omega arith
    | inr bk ↦
        let at_end : k ≡ b = omega (arith, many, kl, bk) in
        ap (place_of_part b) (same x Last xl ((in_last.exact x (inside x xl)).0
        (subst (λ list. has list x ≡ true) last-at
        (subst (λ i. has (get_or lists (suc i) []) x ≡ true) at_end h)))) ∙ omega (arith, at_end)
  ]

  pub once : StandsOnce n lists
  once = record {
    some = λ x xl. (place_of_part b (at x), within (at x) (bounded x xl), holds (at x) x xl (tells x xl) (bounded x xl));
    one = λ x k l xl kl ll h g. sym (only k x xl kl h) ∙ only l x xl ll g;
  }

  pub place : (x : ℕ) → x < n → place_of lists x ≡ place_of_part b (at x)
  place x xl = place-is n lists once x (place_of_part b (at x)) xl (within (at x) (bounded x xl)) (holds (at x) x xl (tells x xl) (bounded x xl))
