-- How a base changes where rows and columns come and go.
use Rattle.std.proofs.Common.{◌≡◌, false, ℕ, ◌+◌, ◌<◌, ◌≤◌, ◌≢◌, true, cond, eqb, refl, sym, subst, ap, ◌∙◌, arith, length}
use Rattle.std.proofs.Common.{Option, Some, None, is_some, unwrap_or, slice_index_or, slice_set, inl, inr}
use Rattle.std.proofs.lemmas.Bool.Decides.{nat_tests}
use Rattle.std.proofs.lemmas.List.{get_or-set_same, get_or-set_other, length-map}
use Rattle.std.proofs.lemmas.List.Edits.{length-remove}
use Rattle.std.specs.Option.{option_map}
use Rattle.linear_algebra.specs.Parts.{unskip}
use Rattle.number_pairs.specs.Pairs.{PairLists, IsOneToOne, left_at, right_at, left_removed, right_removed}
use Rattle.number_pairs.proofs.MoveLaws.{moved_at, removed_other}
use Rattle.residue_theory.proofs.SetLaws.{differ}
use Rattle.residue_theory.proofs.SumLaws.{nat_cases}
use Rattle.row_transform.specs.Bases.{BaseLists, is_base, base_row, IsBaseDropped, IsBaseMoved, IsBaseRowOut, IsBaseColumnOut}

-- a base as pairs of rows and columns
abbrev pub base_of : PairLists → ℕ → BaseLists
base_of p takes = record {
  columns = p.rights;
  rows = p.lefts;
  takes = takes;
  row_room = p.left_room;
  column_room = p.right_room;
}

-- a row of no base column is in no pair
pub bare_left : (p : PairLists) (r : ℕ) → IsOneToOne p →
    ((y : ℕ) → y < length p.lefts → is_some (left_at p y) ≡ true → unwrap_or (left_at p y) 0 ≢ r) → right_at p r ≡ None
bare_left p r same bare = go (right_at p r) refl
  where
    go : (o : Option ℕ) → right_at p r ≡ o → o ≡ None
    go None e = refl
    go (Some y) e =
        let back = same.rights_point r y e in
        absurd (bare y back.0 (ap is_some back.1) (ap (λ w. unwrap_or w 0) back.1))

-- no two columns are in pairs with one row
pub one_column : (p : PairLists) (y z r : ℕ) → IsOneToOne p → is_some (left_at p y) ≡ true → unwrap_or (left_at p y) 0 ≡ r →
    is_some (left_at p z) ≡ true → unwrap_or (left_at p z) 0 ≡ r → y ≡ z
one_column p y z r same yh yr zh zr =
    inside (sym (back y (unpack (left_at p y) yh yr)) ∙ back z (unpack (left_at p z) zh zr))
  where
    unpack : (o : Option ℕ) → is_some o ≡ true → unwrap_or o 0 ≡ r → o ≡ Some r
    unpack None h e = absurd (none h)
      where
        none : false ≡ true → ⊥
        none q = cc
    unpack (Some x) h e = ap (λ k. Some k) e

    back : (k : ℕ) → left_at p k ≡ Some r → right_at p r ≡ Some k
    back k e = (same.lefts_point k r e).1

    inside : Some y ≡ Some z → y ≡ z
    inside e = cc

-- a row whose base column has left the base has none
pub row_freed : (p : PairLists) (takes : ℕ) (c : BaseLists) (r v : ℕ) → IsOneToOne p → is_base (base_of p takes) v ≡ true →
    base_row (base_of p takes) v ≡ r →
    IsBaseDropped (length p.lefts) (is_base (base_of p takes)) (base_row (base_of p takes)) (is_base c) (base_row c) v →
    (y : ℕ) → y < length p.lefts → is_base c y ≡ true → base_row c y ≢ r
row_freed p takes c r v same vh vr out y l h q = elim (nat_cases y v) [
  | inl e ↦ absurd (differ out.gone (subst (λ k. is_base c k ≡ true) e h))
  | inr ne ↦ absurd (ne (one_column p y v r same (sym (out.others y l ne) ∙ h) (sym (out.rows y l ne) ∙ q) vh vr))
]

-- and so it is once another row has left its pair
pub bare_still : (p : PairLists) (r t : ℕ) → r < length p.rights → right_at p t ≡ None →
    slice_index_or (slice_set p.rights r None) t None ≡ None
bare_still p r t l free = elim (nat_cases t r) [
  | inl q ↦ ap (λ k. slice_index_or (slice_set p.rights r None) k None) q ∙ get_or-set_same p.rights r None None l
  | inr ne ↦ get_or-set_other p.rights r t None None ne ∙ free
]

-- ---- a column goes
pub column_out : (p : PairLists) (takes v : ℕ) → v < length p.lefts →
    IsBaseColumnOut (base_of p takes) (base_of (right_removed p v) takes) v
column_out p takes v l = record {
  counts = record { takes = refl; row_room = refl; column_room = refl };
  rows_same = length-map p.rights (option_map (unskip v));
  columns_are = omega (arith, length-remove p.lefts v l);
  base_same = λ y. ap is_some (removed_other None p.lefts v y l);
  row_same = λ y. ap (λ o. unwrap_or o 0) (removed_other None p.lefts v y l);
}

-- ---- a row goes
some_moved : (f : ℕ → ℕ) (o : Option ℕ) → is_some (option_map f o) ≡ is_some o
some_moved f None = refl
some_moved f (Some x) = refl

-- a number up to the last one stays
stays : (last : ℕ) (o : Option ℕ) → ((r : ℕ) → o ≡ Some r → r ≤ last) → unwrap_or (option_map (unskip last) o) 0 ≡ unwrap_or o 0
stays last None below = refl
stays last (Some r) below = let le : r ≤ last = below r refl in same r le
  where
    same : (r : ℕ) → r ≤ last → unskip last r ≡ r
    same r le = grind (arith, nat_tests)

pub row_out : (b : BaseLists) (p : PairLists) (takes last at : ℕ) → IsBaseMoved b (base_of p takes) last at → IsOneToOne p →
    last + 1 ≡ length b.columns → IsBaseRowOut b (base_of (left_removed p last) takes) at
row_out b p takes last at moved same end = record {
  counts = record { takes = moved.counts.takes; row_room = moved.counts.row_room; column_room = moved.counts.column_room };
  rows_are = omega (arith, removed, moved.rows_same);
  columns_same = length-map p.lefts (option_map (unskip last)) ∙ moved.columns_same;
  base_same = λ y. ap is_some (moved_at (unskip last) p.lefts y) ∙ some_moved (unskip last) (left_at p y) ∙ moved.base_same y;
  row_is = λ y h.
      ap (λ o. unwrap_or o 0) (moved_at (unskip last) p.lefts y)
      ∙ stays last (left_at p y) (λ r e. let in_rows = (same.lefts_point y r e).0 in omega (arith, in_rows, end, moved.rows_same))
      ∙ moved.row_is y h
      ∙ ap (λ n. cond (eqb (base_row b y) n) at (base_row b y)) (omega (arith, removed, moved.rows_same, end));
}
  where
    last_below : last < length p.rights
    last_below = omega (arith, end, moved.rows_same)

    removed : length (left_removed p last).rights + 1 ≡ length p.rights
    removed = omega (arith, length-remove p.rights last last_below)
