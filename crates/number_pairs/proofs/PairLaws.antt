-- Lists that point back at each other.
use Rattle.std.proofs.Common.{◌≡◌, ℕ, ◌<◌, ◌≤◌, ◌≢◌, ◌⊎◌, inl, inr, sym, subst, ◌∙◌, ap, arith, List, length, replicate}
use Rattle.std.proofs.Common.{Option, Some, None, slice_index_or, slice_set, IfSome, IfNone}
use Rattle.std.proofs.Math.ListN.{get_or-eq_default}
use Rattle.std.proofs.lemmas.List.{get_or-set_same, get_or-set_other, get_or-replicate, length-replicate, length-set}
use Rattle.number_pairs.specs.Pairs.{PointsBack, PairLists, IsOneToOne, ArePairsStored, left_at, right_at, no_pairs, paired, parted}

nat_cases : (i j : ℕ) → (i ≡ j) ⊎ (i ≢ j)
nat_cases i j = grind arith

-- two items that name the same one are the same
same_item : (b : List (Option ℕ)) (j x i : ℕ) → slice_index_or b j None ≡ Some x → slice_index_or b j None ≡ Some i → x ≡ i
same_item b j x i e h = cc

unlink-points : (a b : List (Option ℕ)) (i j : ℕ) → PointsBack a b → i < length a →
    slice_index_or a i None ≡ Some j → slice_index_or b j None ≡ Some i →
    PointsBack (slice_set a i None) (slice_set b j None)
unlink-points a b i j back il at_i at_j x y e = elim (nat_cases x i) [
  | inl q ↦ absurd (none (sym (subst (λ k. slice_index_or (slice_set a i None) k None ≡ None) (sym q) (get_or-set_same a i None None il)) ∙ e))
  | inr ne ↦ other ne (back x y (sym (get_or-set_other a i x None None ne) ∙ e))
]
  where
    none : None ≡ Some y → ⊥
    none h = cc

    other : x ≢ i → (y < length b) × (slice_index_or b y None ≡ Some x) →
        (y < length (slice_set b j None)) × (slice_index_or (slice_set b j None) y None ≡ Some x)
    other ne (l, h) = (
      subst (λ n. y < n) (sym (length-set b j None)) l,
      get_or-set_other b j y None None (λ q. ne (same_item b y x i h (ap (λ k. slice_index_or b k None) q ∙ at_j)))
          ∙ h,
    )

link-points : (a b : List (Option ℕ)) (i j : ℕ) → PointsBack a b → i < length a → j < length b →
    slice_index_or b j None ≡ None → PointsBack (slice_set a i (Some j)) (slice_set b j (Some i))
link-points a b i j back il jl at_j x y e = elim (nat_cases x i) [
  | inl q ↦ here q (sym (get_or-set_same a i (Some j) None il) ∙ ap (λ k. slice_index_or (slice_set a i (Some j)) k None) (sym q) ∙ e)
  | inr ne ↦ other ne (back x y (sym (get_or-set_other a i x (Some j) None ne) ∙ e))
]
  where
    here : x ≡ i → Some j ≡ Some y → (y < length (slice_set b j (Some i))) × (slice_index_or (slice_set b j (Some i)) y None ≡ Some x)
    here q h =
        let s : j ≡ y = cc in (
          subst (λ n. y < n) (sym (length-set b j (Some i))) (subst (λ k. k < length b) s jl),
          subst (λ k. slice_index_or (slice_set b j (Some i)) k None ≡ Some x) s
              (get_or-set_same b j (Some i) None jl ∙ ap (λ k. Some k) (sym q)),
        )

    other : x ≢ i → (y < length b) × (slice_index_or b y None ≡ Some x) →
        (y < length (slice_set b j (Some i))) × (slice_index_or (slice_set b j (Some i)) y None ≡ Some x)
    other ne (l, h) = (
      subst (λ n. y < n) (sym (length-set b j (Some i))) l,
      get_or-set_other b j y (Some i) None (λ q. taken (ap (λ k. slice_index_or b k None) (sym q) ∙ h)) ∙ h,
    )
      where
        taken : slice_index_or b j None ≡ Some x → ⊥
        taken w = cc

pub parted-one_to_one : (p : PairLists) (x y : ℕ) → IsOneToOne p → right_at p x ≡ Some y → IsOneToOne (parted p x y)
parted-one_to_one p x y same e =
    let back = same.rights_point x y e in
    let forth = same.lefts_point y x back.1 in
    record {
      rights_point = unlink-points p.rights p.lefts x y same.rights_point forth.0 e back.1;
      lefts_point = unlink-points p.lefts p.rights y x same.lefts_point back.0 back.1 e;
    }

pub paired-one_to_one : (p : PairLists) (x y : ℕ) → IsOneToOne p → x < length p.rights → y < length p.lefts →
    right_at p x ≡ None → left_at p y ≡ None → IsOneToOne (paired p x y)
paired-one_to_one p x y same xl yl left_free right_free = record {
  rights_point = link-points p.rights p.lefts x y same.rights_point xl yl right_free;
  lefts_point = link-points p.lefts p.rights y x same.lefts_point yl xl left_free;
}

-- the same of what is stored
pub stored-parted : (p : PairLists) (m n x y : ℕ) → ArePairsStored p m n → right_at p x ≡ Some y → ArePairsStored (parted p x y) m n
stored-parted p m n x y S e = record {
  one_to_one = parted-one_to_one p x y S.one_to_one e;
  left_room = S.left_room;
  right_room = S.right_room;
}

pub stored-paired : (p : PairLists) (m n x y : ℕ) → ArePairsStored p m n → x < length p.rights → y < length p.lefts →
    right_at p x ≡ None → left_at p y ≡ None → ArePairsStored (paired p x y) m n
stored-paired p m n x y S xl yl left_free right_free = record {
  one_to_one = paired-one_to_one p x y S.one_to_one xl yl left_free right_free;
  left_room = S.left_room;
  right_room = S.right_room;
}

-- before any pair
none-points : (a b : List (Option ℕ)) (n : ℕ) → a ≡ replicate n None → PointsBack a b
none-points a b n e i j h = absurd (differ (sym (none (before_or_after i n)) ∙ h))
  where
    differ : None ≡ Some j → ⊥
    differ w = cc

    before_or_after : (k m : ℕ) → (k < m) ⊎ (m ≤ k)
    before_or_after k m = grind arith

    none : (i < n) ⊎ (n ≤ i) → slice_index_or a i None ≡ None
    none (inl l) = ap (λ (os : List (Option ℕ)). slice_index_or os i None) e ∙ get_or-replicate n i None None l
    none (inr le) = ap (λ (os : List (Option ℕ)). slice_index_or os i None) e
        ∙ get_or-eq_default (replicate n None) None (subst (λ k. k ≤ i) (sym (length-replicate n None)) le)

pub none-one_to_one : (p : PairLists) (m n : ℕ) → p ≡ no_pairs m n → IsOneToOne p
none-one_to_one p m n e = record {
  rights_point = none-points p.rights p.lefts m (ap (λ (q : PairLists). q.rights) e);
  lefts_point = none-points p.lefts p.rights n (ap (λ (q : PairLists). q.lefts) e);
}

pub stored-none : (p : PairLists) (m n j k : ℕ) → p ≡ no_pairs m n → ArePairsStored p j k
stored-none p m n j k e = record {
  one_to_one = none-one_to_one p m n e;
  left_room = omega (arith, ap (λ (q : PairLists). q.left_room) e);
  right_room = omega (arith, ap (λ (q : PairLists). q.right_room) e);
}

-- what is told of a number
pub some-below : (a b : List (Option ℕ)) (i : ℕ) (o : Option ℕ) → PointsBack a b → o ≡ slice_index_or a i None →
    IfSome o (λ j. j < length b)
some-below a b i None back e = tt
some-below a b i (Some j) back e = (back i j (sym e)).0

pub some-back : (a b : List (Option ℕ)) (i : ℕ) (o : Option ℕ) → PointsBack a b → o ≡ slice_index_or a i None →
    IfSome o (λ j. slice_index_or b j None ≡ Some i)
some-back a b i None back e = tt
some-back a b i (Some j) back e = (back i j (sym e)).1

pub none-back : (a b : List (Option ℕ)) (i : ℕ) (o : Option ℕ) → PointsBack b a → o ≡ slice_index_or a i None →
    IfNone o ((j : ℕ) → slice_index_or b j None ≢ Some i)
none-back a b i None back e = λ j h. differ j (e ∙ (back j i h).1)
  where
    differ : (j : ℕ) → None ≡ Some j → ⊥
    differ j w = cc
none-back a b i (Some j) back e = tt
