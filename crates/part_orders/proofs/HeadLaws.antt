-- First places, found from the last place back, and the numbers behind all blocks of a list.
use Rattle.std.proofs.Common.{◌≡◌, ℕ, ◌+◌, ◌<◌, ◌≤◌, ◌≢◌, true, ◌⊎◌, inl, inr, List, length, slice_index, set, refl, ap, sym, subst, ◌∙◌, arith}
use Rattle.std.proofs.lemmas.List.{get_or-set_same, get_or-set_other}
use Rattle.residue_theory.proofs.SumLaws.{nat_cases}
use Rattle.residue_theory.proofs.SetLaws.{le_cases}
use Rattle.part_rules.specs.Listed.{arc_in}
use Rattle.part_rules.specs.Tests.{AreFirstPlaces, IsLeastFirst}
use Rattle.part_orders.specs.Orders.{AreReadyFrom}
use Rattle.part_orders.proofs.ItemLaws.{left, right, arc_in-place, arc_in-is}

-- ---- first places
-- head k is the first place of block k from `place` on, where there is one
pub record AreFirstFrom (n : ℕ) (part : ℕ → ℕ) (b : ℕ) (head : ℕ → ℕ) (place : ℕ) : Type 0 where
  pub member : (k x : ℕ) → k < b → place ≤ x → x < n → part x ≡ k + 2 → (head k < n) × (part (head k) ≡ k + 2)
  pub least : (k x : ℕ) → k < b → place ≤ x → x < n → part x ≡ k + 2 → head k ≤ x

pub none_from : (n : ℕ) (part : ℕ → ℕ) (b : ℕ) (head : ℕ → ℕ) → AreFirstFrom n part b head n
none_from n part b head = record {
  member = λ k x kb from to e. absurd (omega arith);
  least = λ k x kb from to e. absurd (omega arith);
}

-- a place that is of no block
pub passed : (n : ℕ) (part : ℕ → ℕ) (b : ℕ) (head : ℕ → ℕ) (place : ℕ) → ((k : ℕ) → k < b → part place ≡ k + 2 → ⊥) →
    AreFirstFrom n part b head (place + 1) → AreFirstFrom n part b head place
passed n part b head place none F = record {
  member = λ k x kb from to e. F.member k x kb (later k x kb from e) to e;
  least = λ k x kb from to e. F.least k x kb (later k x kb from e) to e;
}
  where
    later : (k x : ℕ) → k < b → place ≤ x → part x ≡ k + 2 → place + 1 ≤ x
    later k x kb from e = elim (le_cases place x from) [
      | inl q ↦ absurd (none k kb (ap part q ∙ e))
      | inr l ↦ omega arith
    ]

-- a place of block p is the first one of it from there on
pub put_head : (n : ℕ) (part : ℕ → ℕ) (b : ℕ) (heads : List ℕ) (place p : ℕ) → length heads ≡ b → place < n → p < b →
    part place ≡ p + 2 → AreFirstFrom n part b (slice_index heads) (place + 1) →
    AreFirstFrom n part b (slice_index (set heads p place)) place
put_head n part b heads place p count pn pb pe F = record {
  member = λ k x kb from to e. member k x kb from to e (nat_cases k p);
  least = λ k x kb from to e. least k x kb from to e (nat_cases k p);
}
  where
    here : slice_index (set heads p place) p ≡ place
    here = get_or-set_same heads p place 0 (omega arith)

    there : (k : ℕ) → k ≢ p → slice_index (set heads p place) k ≡ slice_index heads k
    there k ne = get_or-set_other heads p k place 0 ne

    later : (k x : ℕ) → k ≢ p → place ≤ x → part x ≡ k + 2 → place + 1 ≤ x
    later k x ne from e = elim (le_cases place x from) [
      | inl q ↦ absurd (ne (let a : part place ≡ k + 2 = ap part q ∙ e in omega arith))
      | inr l ↦ omega arith
    ]

    member : (k x : ℕ) → k < b → place ≤ x → x < n → part x ≡ k + 2 → (k ≡ p) ⊎ (k ≢ p) →
        (slice_index (set heads p place) k < n) × (part (slice_index (set heads p place) k) ≡ k + 2)
    member k x kb from to e (inl q) = subst (λ w. (slice_index (set heads p place) w < n) × (part (slice_index (set heads p place) w) ≡ w + 2)) (sym q)
        (subst (λ w. (w < n) × (part w ≡ p + 2)) (sym here) (pn, pe))
    member k x kb from to e (inr ne) = subst (λ w. (w < n) × (part w ≡ k + 2)) (sym (there k ne)) (F.member k x kb (later k x ne from e) to e)

    least : (k x : ℕ) → k < b → place ≤ x → x < n → part x ≡ k + 2 → (k ≡ p) ⊎ (k ≢ p) → slice_index (set heads p place) k ≤ x
    least k x kb from to e (inl q) = subst (λ w. slice_index (set heads p place) w ≤ x) (sym q) (subst (λ w. w ≤ x) (sym here) from)
    least k x kb from to e (inr ne) = subst (λ w. w ≤ x) (sym (there k ne)) (F.least k x kb (later k x ne from e) to e)

pub first_places_are : (n : ℕ) (part : ℕ → ℕ) (b : ℕ) (head : ℕ → ℕ) (place : ℕ) → place ≡ 0 →
    ((k : ℕ) → k < b → (x : ℕ) × (x < n) × (part x ≡ k + 2)) → AreFirstFrom n part b head place →
    AreFirstPlaces n part b head
first_places_are n part b head place zero some F = record {
  heads = λ k kb. let s : (x : ℕ) × (x < n) × (part x ≡ k + 2) = some k kb in F.member k s.0 kb (omega arith) s.1 s.2;
  least = λ k x kb xl e. let le : head k ≤ x = F.least k x kb (omega arith) xl e in omega arith;
}

-- ---- what is ready
-- a number is behind all blocks that the first i items name of l
abbrev pub IsBehind : List (ℕ × ℕ) → ℕ → ℕ → ℕ → Type 0
IsBehind lower i l k = (j : ℕ) → j < i → left lower j ≡ l → right lower j < k

-- ready l is the least of these
pub record IsReadyBy (lower : List (ℕ × ℕ)) (b : ℕ) (ready : ℕ → ℕ) (i : ℕ) : Type 0 where
  pub behind : (l : ℕ) → l < b → IsBehind lower i l (ready l)
  pub least : (l k : ℕ) → l < b → IsBehind lower i l k → ready l ≤ k

fewer : (lower : List (ℕ × ℕ)) (i l k : ℕ) → IsBehind lower (i + 1) l k → IsBehind lower i l k
fewer lower i l k B j jl e = B j (omega arith) e

-- an item whose block is behind already
pub ready_kept : (lower : List (ℕ × ℕ)) (b : ℕ) (ready : ℕ → ℕ) (i r m : ℕ) → left lower i ≡ r → right lower i ≡ m →
    m < ready r → IsReadyBy lower b ready i → IsReadyBy lower b ready (i + 1)
ready_kept lower b ready i r m re me less R = record {
  behind = λ l lb j jl e. elim (nat_cases j i) [
    | inl q ↦ let same : r ≡ l = sym re ∙ subst (λ v. left lower v ≡ l) q e in
        subst (λ v. v < ready l) (sym (ap (right lower) q ∙ me)) (subst (λ v. m < ready v) same less)
    | inr ne ↦ R.behind l lb j (omega arith) e
  ];
  least = λ l k lb B. R.least l k lb (fewer lower i l k B);
}

-- an item whose block is not yet behind
pub ready_put : (lower : List (ℕ × ℕ)) (b : ℕ) (ready : List ℕ) (i r m : ℕ) → length ready ≡ b → r < b →
    left lower i ≡ r → right lower i ≡ m → slice_index ready r ≤ m → IsReadyBy lower b (slice_index ready) i →
    IsReadyBy lower b (slice_index (set ready r (m + 1))) (i + 1)
ready_put lower b ready i r m count rb re me le R = record {
  behind = λ l lb j jl e. behind l lb j jl e (nat_cases l r) (nat_cases j i);
  least = λ l k lb B. least l k lb B (nat_cases l r);
}
  where
    here : slice_index (set ready r (m + 1)) r ≡ m + 1
    here = get_or-set_same ready r (m + 1) 0 (omega arith)

    there : (l : ℕ) → l ≢ r → slice_index (set ready r (m + 1)) l ≡ slice_index ready l
    there l ne = get_or-set_other ready r l (m + 1) 0 ne

    at : (l : ℕ) → l ≡ r → slice_index (set ready r (m + 1)) l ≡ m + 1
    at l q = ap (slice_index (set ready r (m + 1))) q ∙ here

    behind : (l : ℕ) → l < b → (j : ℕ) → j < i + 1 → left lower j ≡ l → (l ≡ r) ⊎ (l ≢ r) → (j ≡ i) ⊎ (j ≢ i) →
        right lower j < slice_index (set ready r (m + 1)) l
    behind l lb j jl e (inl same) (inl q) = subst (λ v. right lower j < v) (sym (at l same))
        (let x : right lower j ≡ m = ap (right lower) q ∙ me in omega arith)
    behind l lb j jl e (inl same) (inr ne) = subst (λ v. right lower j < v) (sym (at l same))
        (let x : right lower j < slice_index ready l = R.behind l lb j (omega arith) e in
        let y : slice_index ready l ≡ slice_index ready r = ap (slice_index ready) same in omega arith)
    behind l lb j jl e (inr other) (inl q) = absurd (other (sym (subst (λ v. left lower v ≡ l) q e) ∙ re))
    behind l lb j jl e (inr other) (inr ne) = subst (λ v. right lower j < v) (sym (there l other)) (R.behind l lb j (omega arith) e)

    least : (l k : ℕ) → l < b → IsBehind lower (i + 1) l k → (l ≡ r) ⊎ (l ≢ r) → slice_index (set ready r (m + 1)) l ≤ k
    least l k lb B (inl same) = subst (λ v. v ≤ k) (sym (at l same)) (let x : right lower i < k = B i (omega arith) (re ∙ sym same) in omega arith)
    least l k lb B (inr other) = subst (λ v. v ≤ k) (sym (there l other)) (R.least l k lb (fewer lower i l k B))

pub all_ready : (lower : List (ℕ × ℕ)) (b : ℕ) (ready : ℕ → ℕ) (i : ℕ) → i ≡ length lower → IsReadyBy lower b ready i → AreReadyFrom b (arc_in lower) ready
all_ready lower b ready i e R l k lb = (there, back)
  where
    there : ready l ≤ k → (m : ℕ) → arc_in lower l m ≡ true → m < k
    there le m h =
        let p : (j : ℕ) × (j < length lower) × (left lower j ≡ l) × (right lower j ≡ m) = arc_in-place lower l m h in
        let x : right lower p.0 < ready l = R.behind l lb p.0 (let q : p.0 < length lower = p.1 in omega arith) p.2 in
        let y : right lower p.0 ≡ m = p.3 in
        omega arith

    back : ((m : ℕ) → arc_in lower l m ≡ true → m < k) → ready l ≤ k
    back all = R.least l k lb (λ j jl h. all (right lower j) (arc_in-is lower j l (right lower j) (omega arith) h refl))

-- ---- the listing
-- block l has a greater first place than each block that is ready before it
abbrev pub IsFirstFrom : (ℕ → ℕ) → (ℕ → ℕ) → ℕ → Type 0
IsFirstFrom ready head l = (k : ℕ) → ready l ≤ k → k < l → head k < head l

pub least_first : (lower : List (ℕ × ℕ)) (b : ℕ) (ready head : ℕ → ℕ) → AreReadyFrom b (arc_in lower) ready →
    ((l k : ℕ) → l < b → ready l ≤ k → k < l → head k < head l) → IsLeastFirst b (arc_in lower) head
least_first lower b ready head R all k l kl lb behind = all l k lb ((R l k lb).1 behind) kl

pub each_first : (lower : List (ℕ × ℕ)) (b : ℕ) (ready head : ℕ → ℕ) (l : ℕ) → AreReadyFrom b (arc_in lower) ready →
    l < b → IsLeastFirst b (arc_in lower) head → IsFirstFrom ready head l
each_first lower b ready head l R lb all k le kl = all k l kl lb ((R l k lb).0 le)
