-- What one number more and one less leave of lists that point back at each other.
use Rattle.std.proofs.Common.{◌≡◌, ℕ, ◌+◌, ◌^◌, ◌<◌, ◌≤◌, ◌≢◌, ◌⊎◌, inl, inr, ◌++◌, sym, subst, ◌∙◌, ap, refl, arith, List}
use Rattle.std.proofs.Common.{length, take, drop, Option, Some, None, slice_index_or}
use Rattle.std.proofs.lemmas.Bool.Decides.{nat_tests}
use Rattle.std.proofs.lemmas.List.{take-append-le, take_all, get_or-map, get_or_past, length-map}
use Rattle.std.proofs.lemmas.List.Edits.{length-insert, get_or-insert_below, get_or-insert_at, get_or-insert_above}
use Rattle.std.proofs.lemmas.List.Edits.{length-remove, get_or-remove_below, get_or-remove_above}
use Rattle.std.specs.List.{insert, remove}
use Rattle.std.specs.Option.{option_map}
use Rattle.linear_algebra.specs.Parts.{skip, unskip}
use Rattle.number_pairs.specs.Pairs.{PointsBack, PairLists, IsOneToOne, ArePairsStored, all_moved, left_at, right_at}
use Rattle.number_pairs.specs.Pairs.{left_inserted, left_removed, right_inserted, right_removed}

pub lt_cases : (i j : ℕ) → (i < j) ⊎ (j ≤ i)
lt_cases i j = grind arith

nat_cases : (i j : ℕ) → (i ≡ j) ⊎ (i ≢ j)
nat_cases i j = grind arith

-- numbers with one left out
pub skip_before : (v k : ℕ) → k < v → skip v k ≡ k
skip_before v k l = grind (arith, nat_tests)

pub skip_after : (v k : ℕ) → v ≤ k → skip v k ≡ k + 1
skip_after v k le = grind (arith, nat_tests)

pub skip_back : (v k : ℕ) → k ≢ v → skip v (unskip v k) ≡ k
skip_back v k ne = grind (arith, nat_tests)

pub unskipped_skip : (v k : ℕ) → unskip v (skip v k) ≡ k
unskipped_skip v k = grind (arith, nat_tests)

pub skip_within : (v k n : ℕ) → k < n → skip v k < n + 1
skip_within v k n l = grind (arith, nat_tests)

pub within_skip : (v k n : ℕ) → v ≤ n → skip v k < n + 1 → k < n
within_skip v k n le l = grind (arith, nat_tests)

-- a list with an item more, and with one less
module _ {X : Type 0} (none : X) where
  pub inserted_other : (xs : List X) (v k : ℕ) (x : X) → v ≤ length xs →
      slice_index_or (insert xs v x) (skip v k) none ≡ slice_index_or xs k none
  inserted_other xs v k x le = elim (lt_cases k v) [
    | inl less ↦ ap (λ i. slice_index_or (insert xs v x) i none) (skip_before v k less) ∙ get_or-insert_below xs v x none k less le
    | inr ge ↦ ap (λ i. slice_index_or (insert xs v x) i none) (skip_after v k ge) ∙ get_or-insert_above xs v x none k ge le
  ]

  pub removed_other : (xs : List X) (v k : ℕ) → v < length xs →
      slice_index_or (remove xs v) k none ≡ slice_index_or xs (skip v k) none
  removed_other xs v k l = elim (lt_cases k v) [
    | inl less ↦ get_or-remove_below xs v none k less l ∙ ap (λ i. slice_index_or xs i none) (sym (skip_before v k less))
    | inr ge ↦ get_or-remove_above xs v none k ge l ∙ ap (λ i. slice_index_or xs i none) (sym (skip_after v k ge))
  ]

-- a list with each number moved
pub moved_at : (f : ℕ → ℕ) (list : List (Option ℕ)) (k : ℕ) →
    slice_index_or (all_moved f list) k None ≡ option_map f (slice_index_or list k None)
moved_at f list k = elim (lt_cases k (length list)) [
  | inl less ↦ get_or-map (option_map f) list k None None less
  | inr ge ↦ get_or_past (all_moved f list) k None (omega (arith, length-map list (option_map f)))
      ∙ ap (option_map f) (sym (get_or_past list k None ge))
]

pub moved-some : (f : ℕ → ℕ) (o : Option ℕ) (j : ℕ) → option_map f o ≡ Some j → (i : ℕ) × (o ≡ Some i) × (f i ≡ j)
moved-some f None j e = absurd (none e)
  where
    none : None ≡ Some j → ⊥
    none h = cc
moved-some f (Some i) j e = (i, refl, same e)
  where
    same : Some (f i) ≡ Some j → f i ≡ j
    same h = cc

module _ (a b : List (Option ℕ)) (v : ℕ) where
  pub points-in : PointsBack a b → v ≤ length a → PointsBack (insert a v None) (all_moved (skip v) b)
  points-in back le k j e = elim (nat_cases k v) [
    | inl q ↦ absurd (none (sym (get_or-insert_at a v None None le) ∙ (ap (λ i. slice_index_or (insert a v None) i None) (sym q) ∙ e)))
    | inr ne ↦ let old = back (unskip v k) j (sym (inserted_other None a v (unskip v k) None le)
        ∙ (ap (λ i. slice_index_or (insert a v None) i None) (skip_back v k ne) ∙ e)) in (
          subst (λ n. j < n) (sym (length-map b (option_map (skip v)))) old.0,
          moved_at (skip v) b j ∙ (ap (option_map (skip v)) old.1 ∙ ap (λ i. Some i) (skip_back v k ne)),
        )
  ]
    where
      none : None ≡ Some j → ⊥
      none h = cc

  pub points_back-in : PointsBack b a → v ≤ length a → PointsBack (all_moved (skip v) b) (insert a v None)
  points_back-in back le k j e =
      let m = moved-some (skip v) (slice_index_or b k None) j (sym (moved_at (skip v) b k) ∙ e) in
      let old = back k m.0 m.1 in (
        subst (λ n. j < n) (sym (length-insert a v None le)) (subst (λ i. i < length a + 1) m.2 (skip_within v m.0 (length a) old.0)),
        ap (λ i. slice_index_or (insert a v None) i None) (sym m.2) ∙ (inserted_other None a v m.0 None le ∙ old.1),
      )

  pub points-out : PointsBack a b → v < length a → PointsBack (remove a v) (all_moved (unskip v) b)
  points-out back l k j e =
      let old = back (skip v k) j (sym (removed_other None a v k l) ∙ e) in (
        subst (λ n. j < n) (sym (length-map b (option_map (unskip v)))) old.0,
        moved_at (unskip v) b j ∙ (ap (option_map (unskip v)) old.1 ∙ ap (λ i. Some i) (unskipped_skip v k)),
      )

  pub points_back-out : PointsBack b a → v < length a → slice_index_or a v None ≡ None → PointsBack (all_moved (unskip v) b) (remove a v)
  points_back-out back l free k j e =
      let m = moved-some (unskip v) (slice_index_or b k None) j (sym (moved_at (unskip v) b k) ∙ e) in
      let old = back k m.0 m.1 in
      let apart : m.0 ≢ v = λ q. none k (sym free ∙ (ap (λ i. slice_index_or a i None) (sym q) ∙ old.1)) in
      let there : skip v j ≡ m.0 = ap (skip v) (sym m.2) ∙ skip_back v m.0 apart in (
        within_skip v j (length (remove a v)) (omega (arith, length-remove a v l)) (omega (arith, length-remove a v l, there, old.0)),
        removed_other None a v j l ∙ (ap (λ i. slice_index_or a i None) there ∙ old.1),
      )
    where
      none : (k : ℕ) → None ≡ Some k → ⊥
      none k h = cc

module _ (p : PairLists) (m n v : ℕ) (S : ArePairsStored p m n) where
  pub stored-left_inserted : (k : ℕ) → m ≤ k → v ≤ length p.rights → ArePairsStored (left_inserted p v) k n
  stored-left_inserted k more le = record {
    one_to_one = record {
      rights_point = points-in p.rights p.lefts v S.one_to_one.rights_point le;
      lefts_point = points_back-in p.rights p.lefts v S.one_to_one.lefts_point le;
    };
    left_room = omega (arith, S.left_room, more);
    right_room = S.right_room;
  }

  pub stored-left_removed : (k : ℕ) → m ≤ k → v < length p.rights → right_at p v ≡ None → ArePairsStored (left_removed p v) k n
  stored-left_removed k more l free = record {
    one_to_one = record {
      rights_point = points-out p.rights p.lefts v S.one_to_one.rights_point l;
      lefts_point = points_back-out p.rights p.lefts v S.one_to_one.lefts_point l free;
    };
    left_room = omega (arith, S.left_room, more);
    right_room = S.right_room;
  }

  pub stored-right_inserted : (k : ℕ) → n ≤ k → v ≤ length p.lefts → ArePairsStored (right_inserted p v) m k
  stored-right_inserted k more le = record {
    one_to_one = record {
      rights_point = points_back-in p.lefts p.rights v S.one_to_one.rights_point le;
      lefts_point = points-in p.lefts p.rights v S.one_to_one.lefts_point le;
    };
    left_room = S.left_room;
    right_room = omega (arith, S.right_room, more);
  }

  pub stored-right_removed : (k : ℕ) → n ≤ k → v < length p.lefts → left_at p v ≡ None → ArePairsStored (right_removed p v) m k
  stored-right_removed k more l free = record {
    one_to_one = record {
      rights_point = points_back-out p.lefts p.rights v S.one_to_one.rights_point l free;
      lefts_point = points-out p.lefts p.rights v S.one_to_one.lefts_point l;
    };
    left_room = S.left_room;
    right_room = omega (arith, S.right_room, more);
  }

-- a list in which each number is moved, written whole
pub moved_whole : (f : ℕ → ℕ) (n : ℕ) (xs now : List (Option ℕ)) → n ≡ length xs → now ≡ all_moved f xs →
    take n (now ++ drop (length now) xs) ≡ all_moved f xs
moved_whole f n xs now count e =
    let same : length now ≡ length xs = ap length e ∙ length-map xs (option_map f) in
    take-append-le n now (drop (length now) xs) (omega arith) ∙ (take_all n now (omega arith) ∙ e)

pub same_pairs : (p q : PairLists) → q.rights ≡ p.rights → q.lefts ≡ p.lefts → IsOneToOne p → IsOneToOne q
same_pairs p q e h S = record {
  rights_point = subst (λ a. PointsBack a q.lefts) (sym e) (subst (λ b. PointsBack p.rights b) (sym h) S.rights_point);
  lefts_point = subst (λ a. PointsBack a q.rights) (sym h) (subst (λ b. PointsBack p.lefts b) (sym e) S.lefts_point);
}

pub stored-retold : (p : PairLists) (m n : ℕ) (rights lefts : List (Option ℕ)) → rights ≡ p.rights → lefts ≡ p.lefts →
    ArePairsStored p m n → ArePairsStored (record p { rights = rights; lefts = lefts }) m n
stored-retold p m n rights lefts e h S = subst (λ (xs : List (Option ℕ)). ArePairsStored (record p { rights = rights; lefts = xs }) m n) (sym h)
    (subst (λ (xs : List (Option ℕ)). ArePairsStored (record p { rights = xs }) m n) (sym e) S)

-- numbers in pairs are small where there are few
pub moved-small : (p : PairLists) (list : List (Option ℕ)) → list ≡ p.lefts → IsOneToOne p → length p.rights < 2 ^ 63 →
    (k i : ℕ) → slice_index_or list k None ≡ Some i → i < 2 ^ 63
moved-small p list e S few k i h = omega (arith, few, (S.lefts_point k i (ap (λ (xs : List (Option ℕ)). slice_index_or xs k None) (sym e) ∙ h)).0)

pub moved-small_right : (p : PairLists) (list : List (Option ℕ)) → list ≡ p.rights → IsOneToOne p → length p.lefts < 2 ^ 63 →
    (k i : ℕ) → slice_index_or list k None ≡ Some i → i < 2 ^ 63
moved-small_right p list e S few k i h = omega (arith, few, (S.rights_point k i (ap (λ (xs : List (Option ℕ)). slice_index_or xs k None) (sym e) ∙ h)).0)
