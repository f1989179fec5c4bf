-- The lists of the columns of each part keep the rules of the places of an engine's arcs.
use Rattle.std.proofs.Common.{◌≡◌, ℕ, ◌+◌, ◌-◌, ◌<◌, ◌≤◌, inl, inr, Bool, true, false, cond, eqb, List, [], ◌∷◌, ◌++◌}
use Rattle.std.proofs.Common.{length, get_or, slice_get, Some, refl, ap, sym, ◌∙◌, subst, arith}
use Rattle.std.proofs.lemmas.List.{get_or_past}
use Rattle.residue_theory.proofs.SetLaws.{differ, eqb_from, eqb_true, not_true, lt_cases}
use Rattle.residue_theory.specs.Sets.{has}
use Rattle.linear_algebra.specs.Parts.{in_part}
use Rattle.closed_sets.specs.Blocks.{IsBelow}
use Rattle.closed_sets.specs.Closed.{IsMiddle}
use Rattle.closed_sets.specs.Orders.{IsCover}
use Rattle.closed_sets.specs.Rules.{KeepsPlaceRules}
use Rattle.minimiser_lattice.specs.Parts.{IsLattice, PlaceParts, part_in}
use Rattle.minimiser_lattice.specs.declared.lattice.Part.{Part}
use Rattle.minimiser_lattice.specs.declared.lattice.Part.TheVariants.{First, Block, Last}
use Rattle.cert_text.specs.Readings.{place_of, StandsOnce}
use Rattle.cert_text.proofs.PrintedRules.{has-below}
use Rattle.ccf_builder.specs.Placings.{ListsBelow, ListsPart, PlacesColumns}
use Rattle.ccf_builder.proofs.PairLists.{same-tests}
use Rattle.ccf_builder.proofs.PartLists.{IsOfBlocks, once, place, place_of_part}
use Rattle.ccf_builder.proofs.SameRules.{same-below, same-rules}

pub place-few : (b : ℕ) (part : Part) → IsOfBlocks b part → place_of_part b part ≤ b + 1
place-few b First is = omega arith
place-few b (Block k) is = omega (arith, is)
place-few b Last is = omega arith

-- a column of the first part, of the last one, and of a block
first-code : (b : ℕ) (f l : Bool) (k : ℕ) → eqb (place_of_part b (cond f First (cond l Last (Block k)))) 0 ≡ f
first-code b true l k = refl
first-code b false true k = not_true (eqb (b + 1) 0) (λ h. absurd (let e : b + 1 ≡ 0 = eqb_true (b + 1) 0 h in omega (arith, e)))
first-code b false false k = not_true (eqb (k + 1) 0) (λ h. absurd (let e : k + 1 ≡ 0 = eqb_true (k + 1) 0 h in omega (arith, e)))

last-code : (b : ℕ) (f l : Bool) (k : ℕ) → (f ≡ true → l ≡ true → ⊥) → (f ≡ false → l ≡ false → k < b) →
    eqb (place_of_part b (cond f First (cond l Last (Block k)))) (b + 1) ≡ l
last-code b true true k apart low = absurd (apart refl refl)
last-code b true false k apart low = not_true (eqb 0 (b + 1)) (λ h. absurd (let e : 0 ≡ b + 1 = eqb_true 0 (b + 1) h in omega (arith, e)))
last-code b false true k apart low = eqb_from (b + 1) (b + 1) refl
last-code b false false k apart low = not_true (eqb (k + 1) (b + 1))
    (λ h. absurd (let e : k + 1 ≡ b + 1 = eqb_true (k + 1) (b + 1) h in omega (arith, e, low refl refl)))

block-code : (b : ℕ) (f l : Bool) (k : ℕ) → f ≡ false → l ≡ false → place_of_part b (cond f First (cond l Last (Block k))) - 1 ≡ k
block-code b true l k ef el = absurd (differ ef refl)
block-code b false true k ef el = absurd (differ el refl)
block-code b false false k ef el = let e : (k + 1) - 1 ≡ k = omega arith in e

-- the parts v of some arcs, and the lists of their columns; the lower lists are those of the blocks
module _ (arc : ℕ → ℕ → Bool) (n : ℕ) (starts ends : ℕ → Bool) (v : PlaceParts) (places : v.places ≡ n)
    (lattice : IsLattice arc n starts ends v)
    (rules : KeepsPlaceRules arc n starts ends v.first v.last v.block v.blocks v.covers)
    (columns : List Part) (of_columns : PlacesColumns v columns)
    (b : ℕ) (count : b ≡ v.blocks) (first last : List ℕ) (middle lowers : List (List ℕ)) (long : length middle ≡ b)
    (lowers_long : length lowers ≡ b) (of_first : ListsPart columns First first)
    (in_blocks : (k : ℕ) → k < b → ListsPart columns (Block k) (get_or middle k []))
    (of_last : ListsPart columns Last last)
    (lower_is : (k : ℕ) → k < b → ListsBelow (λ j. v.covers k j ≡ true) k (get_or lowers k [])) where
  abbrev pub lists : List (List ℕ)
  lists = first ∷ (middle ++ last ∷ [])

  -- the part of a column is one that there is
  pub bounded : (x : ℕ) → x < n → IsOfBlocks v.blocks (part_in v x)
  bounded x xl = by (v.first x) (v.last x) refl refl
    where
      by : (f l : Bool) → v.first x ≡ f → v.last x ≡ l → IsOfBlocks v.blocks (cond f First (cond l Last (Block (v.block x))))
      by true l ef el = tt
      by false true ef el = tt
      by false false ef el = rules.number x (record { below = xl; not_first = ef; not_last = el })

  pub bounded-here : (x : ℕ) → x < n → IsOfBlocks b (part_in v x)
  bounded-here x xl = subst (λ h. IsOfBlocks h (part_in v x)) (sym count) (bounded x xl)

  pub column-told : (x : ℕ) → x < n → slice_get columns x ≡ Some (part_in v x)
  column-told x xl = of_columns.at x (subst (λ m. x < m) (sym places) xl)

  pub columns-once : StandsOnce n lists
  columns-once = once b n columns (of_columns.count ∙ places) first last middle long of_first in_blocks of_last (part_in v) column-told bounded-here

  pub column-place : (x : ℕ) → x < n → place_of lists x ≡ place_of_part b (part_in v x)
  column-place = place b n columns (of_columns.count ∙ places) first last middle long of_first in_blocks of_last (part_in v) column-told bounded-here

  pub column-few : (x : ℕ) → x < n → place_of lists x ≤ b + 1
  column-few x xl = subst (λ m. m ≤ b + 1) (sym (column-place x xl)) (place-few b (part_in v x) (bounded-here x xl))

  abbrev pub lower : ℕ → ℕ → Bool
  lower l k = has (get_or lowers l []) k

  abbrev pub first_here : ℕ → Bool
  first_here = in_part (place_of lists) 0

  abbrev pub last_here : ℕ → Bool
  last_here = in_part (place_of lists) (b + 1)

  abbrev pub block_here : ℕ → ℕ
  block_here x = place_of lists x - 1

  first_same : (x : ℕ) → x < n → v.first x ≡ first_here x
  first_same x xl = sym (ap (λ k. eqb k 0) (column-place x xl) ∙ first-code b (v.first x) (v.last x) (v.block x))

  last_same : (x : ℕ) → x < n → v.last x ≡ last_here x
  last_same x xl = sym (ap (λ k. eqb k (b + 1)) (column-place x xl) ∙ last-code b (v.first x) (v.last x) (v.block x)
      (λ f l. rules.apart x xl f l) (λ f l. subst (λ h. v.block x < h) (sym count) (rules.number x (record { below = xl; not_first = f; not_last = l }))))

  block_same : (x : ℕ) → x < n → v.first x ≡ false → v.last x ≡ false → v.block x ≡ block_here x
  block_same x xl f l = sym (ap (λ k. k - 1) (column-place x xl) ∙ block-code b (v.first x) (v.last x) (v.block x) f l)

  pub lower-falls : (k l : ℕ) → lower l k ≡ true → k < l
  lower-falls k l h = elim (lt_cases l b) [
    | inl low ↦ has-below l (get_or lowers l []) k (lower_is l low).rising.below h
    | inr high ↦
        let past : get_or lowers l [] ≡ [] = get_or_past lowers l [] (subst (λ m. m ≤ l) (sym lowers_long) high) in
        absurd (differ refl (subst (λ list. has list k ≡ true) past h))
  ]

  lower_same : (l k : ℕ) → l < b → k < b → v.covers l k ≡ lower l k
  lower_same l k lb kb = elim (lt_cases k l) [
    | inl before ↦ same-tests (v.covers l k) (lower l k) ((lower_is l lb).exact k before).1 ((lower_is l lb).exact k before).0
    | inr after ↦ same-tests (v.covers l k) (lower l k)
        (λ h. absurd (omega (arith, rules.falling k l h, after)))
        (λ h. absurd (omega (arith, lower-falls k l h, after)))
  ]

  middle_block : (x : ℕ) → IsMiddle arc n starts ends x → v.block x ≡ block_here x
  middle_block x (xl, no_start, no_end) = block_same x xl
      (not_true (v.first x) (λ h. no_start ((lattice.parts.first x xl).0 h)))
      (not_true (v.last x) (λ h. no_end ((lattice.parts.last x xl).0 h)))

  covers : IsCover v.below b v.covers
  covers = subst (λ h. IsCover v.below h v.covers) (sym count) lattice.covers

  pub covers-listed : IsCover v.below b lower
  covers-listed = record {
    is_below = λ k l kb lb h. covers.is_below k l kb lb (lower_same l k lb kb ∙ h);
    none_between = λ k m l kb mb lb h. covers.none_between k m l kb mb lb (lower_same l k lb kb ∙ h);
    all = λ k l kb lb h none. sym (lower_same l k lb kb) ∙ covers.all k l kb lb h none;
  }

  -- by arcs, starts and ends that are the same
  module _ (brc : ℕ → ℕ → Bool) (T E : ℕ → Bool) (arcs : (x y : ℕ) → x < n → y < n → arc x y ≡ brc x y)
      (starts_same : (x : ℕ) → x < n → starts x ≡ T x) (ends_same : (x : ℕ) → x < n → ends x ≡ E x) where
    pub rules-listed : KeepsPlaceRules brc n T E first_here last_here block_here b lower
    rules-listed = same-rules arc brc n starts T ends E arcs starts_same ends_same v.first first_here v.last last_here v.block block_here b
        v.covers lower first_same last_same (λ x is. block_same x is.below is.not_first is.not_last) lower_same lower-falls
        (subst (λ h. KeepsPlaceRules arc n starts ends v.first v.last v.block h v.covers) (sym count) rules)

    pub order-listed : IsBelow brc n T E block_here b v.below
    order-listed = same-below arc brc n starts T ends E arcs starts_same ends_same v.block block_here b v.below middle_block
        (subst (λ h. IsBelow arc n starts ends v.block h v.below) (sym count) lattice.order)
