-- Lists of places, one for each place.
use Rattle.std.proofs.Common.{◌≡◌, ◌≢◌, ℕ, zero, suc, ◌<◌, Bool, true, false, ◌&&◌, ◌||◌, eqb, List, [], ◌∷◌, ◌++◌, length}
use Rattle.std.proofs.Common.{get_or, slice_set, Vec, map, refl, sym, ◌∙◌, ap, subst, inl, inr, arith}
use Rattle.std.proofs.lemmas.Bool.Decides.{nat_tests}
use Rattle.std.proofs.lemmas.List.{get_or-map, map-set, get_or-set_same, get_or-set_other, length-set, length-map}
use Rattle.std.proofs.lemmas.List.Folds.{list_any_at, list_any-append}
use Rattle.residue_theory.specs.Sets.{has}
use Rattle.residue_theory.proofs.SumLaws.{nat_cases}
use Rattle.residue_theory.proofs.SetLaws.{eqb_from}
use Rattle.part_search.specs.Neighbours.{list_at, listed, IsNeighbour}

or-false : (b : Bool) → b || false ≡ b
or-false true = refl
or-false false = refl

-- one item more
pub has-last : (list : List ℕ) (item y : ℕ) → has (list ++ item ∷ []) y ≡ has list y || eqb item y
has-last list item y = list_any-append (λ x. eqb x y) list (item ∷ []) ∙ ap (λ b. has list y || b) (or-false (eqb item y))

pub has-at : (list : List ℕ) (k : ℕ) → k < length list → has list (get_or list k 0) ≡ true
has-at list k l = list_any_at (λ item. eqb item (get_or list k 0)) list k 0 l (eqb_from (get_or list k 0) (get_or list k 0) refl)

module _ {Z : Type 0} where
  pub list-read : (lists : List (Vec ℕ Z)) (x : ℕ) (v : Vec ℕ Z) → x < length lists → v ≡ get_or lists x v → list_at lists x ≡ v.items
  list-read lists x v l e = get_or-map (λ (list : Vec ℕ Z). list.items) lists x v [] l ∙ ap (λ (list : Vec ℕ Z). list.items) (sym e)

  list-same : (lists : List (Vec ℕ Z)) (x : ℕ) (w : Vec ℕ Z) → x < length lists → list_at (slice_set lists x w) x ≡ w.items
  list-same lists x w l = ap (λ ys. get_or ys x []) (map-set (λ (list : Vec ℕ Z). list.items) lists x w)
      ∙ get_or-set_same (map (λ (list : Vec ℕ Z). list.items) lists) x w.items [] (omega (arith, length-map lists (λ (list : Vec ℕ Z). list.items)))

  list-other : (lists : List (Vec ℕ Z)) (x j : ℕ) (w : Vec ℕ Z) → j ≢ x → list_at (slice_set lists x w) j ≡ list_at lists j
  list-other lists x j w ne = ap (λ ys. get_or ys j []) (map-set (λ (list : Vec ℕ Z). list.items) lists x w)
      ∙ get_or-set_other (map (λ (list : Vec ℕ Z). list.items) lists) x j w.items [] ne

  -- one empty list more
  pub none-more : (lists : List (Vec ℕ Z)) (v : Vec ℕ Z) → v.items ≡ [] → ((x y : ℕ) → listed lists x y ≡ false) →
      (x y : ℕ) → listed (lists ++ v ∷ []) x y ≡ false
  none-more [] v e none zero y = subst (λ ys. has ys y ≡ false) (sym e) refl
  none-more [] v e none (suc x) y = refl
  none-more (w ∷ lists) v e none zero y = none zero y
  none-more (w ∷ lists) v e none (suc x) y = none-more lists v e (λ a b. none (suc a) b) x y

  -- one item more in the list at `from`
  pub entered : (lists : List (Vec ℕ Z)) (from to : ℕ) (v w : Vec ℕ Z) → from < length lists → v ≡ get_or lists from v →
      w.items ≡ v.items ++ to ∷ [] → IsNeighbour lists (slice_set lists from w) from to
  entered lists from to v w l e more = record {
    count = length-set lists from w;
    holds = λ x y. elim (nat_cases x from) [
      | inl q ↦ subst (λ z. listed (slice_set lists from w) z y ≡ listed lists z y || (eqb from z && eqb to y)) (sym q) (here y)
      | inr ne ↦ ap (λ ys. has ys y) (list-other lists from x w ne) ∙ other (listed lists x y) (eqb from x) (eqb to y) (apart from x (λ q. ne (sym q)))
    ];
  }
    where
      apart : (a b : ℕ) → a ≢ b → eqb a b ≡ false
      apart a b ne = grind (arith, nat_tests)

      other : (a b c : Bool) → b ≡ false → a ≡ a || (b && c)
      other a b c h = grind arith

      first : (a b c : Bool) → b ≡ true → a || c ≡ a || (b && c)
      first a b c h = grind arith

      here : (y : ℕ) → listed (slice_set lists from w) from y ≡ listed lists from y || (eqb from from && eqb to y)
      here y = ap (λ ys. has ys y) (list-same lists from w l ∙ more)
          ∙ (has-last v.items to y
          ∙ (ap (λ ys. has ys y || eqb to y) (sym (list-read lists from v l e))
          ∙ first (listed lists from y) (eqb from from) (eqb to y) (eqb_from from from refl)))
