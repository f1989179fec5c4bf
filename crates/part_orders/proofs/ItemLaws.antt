-- Items of a list, by their place in it.
use Rattle.std.proofs.Common.{◌≡◌, ℕ, zero, suc, ◌<◌, ◌≤◌, true, eqb, ◌&&◌, inl, inr, List, [], ◌∷◌, length, slice_index_or, refl, ap, subst, arith}
use Rattle.residue_theory.proofs.SetLaws.{differ, both_true, both-first, both-second, either_cases, either-first}
use Rattle.residue_theory.proofs.SetLaws.{either-second, eqb_true, eqb_from, lt_cases, le_cases}
use Rattle.part_rules.specs.Listed.{arc_in}
use Rattle.part_orders.specs.Orders.{AreLowerItems}

-- the two numbers of an item
abbrev pub left : List (ℕ × ℕ) → ℕ → ℕ
left arcs j = (slice_index_or arcs j (0, 0)).0

abbrev pub right : List (ℕ × ℕ) → ℕ → ℕ
right arcs j = (slice_index_or arcs j (0, 0)).1

-- an item that stands in the list
pub arc_in-place : (arcs : List (ℕ × ℕ)) (x y : ℕ) → arc_in arcs x y ≡ true → (j : ℕ) × (j < length arcs) × (left arcs j ≡ x) × (right arcs j ≡ y)
arc_in-place [] x y h = absurd (differ refl h)
arc_in-place (arc ∷ arcs) x y h = elim (either_cases (eqb arc.0 x && eqb arc.1 y) (arc_in arcs x y) h) [
  | inl here ↦ (0, omega arith, eqb_true arc.0 x (both-first (eqb arc.0 x) (eqb arc.1 y) here), eqb_true arc.1 y (both-second (eqb arc.0 x) (eqb arc.1 y) here))
  | inr there ↦ let r : (j : ℕ) × (j < length arcs) × (left arcs j ≡ x) × (right arcs j ≡ y) = arc_in-place arcs x y there in
      (suc r.0, (let l : r.0 < length arcs = r.1 in omega arith), r.2, r.3)
]

arc_in-at : (arcs : List (ℕ × ℕ)) (j : ℕ) → j < length arcs → arc_in arcs (left arcs j) (right arcs j) ≡ true
arc_in-at [] j l = absurd (omega arith)
arc_in-at (arc ∷ arcs) zero l = either-first (eqb arc.0 arc.0 && eqb arc.1 arc.1) (arc_in arcs arc.0 arc.1)
    (both_true (eqb arc.0 arc.0) (eqb arc.1 arc.1) (eqb_from arc.0 arc.0 refl) (eqb_from arc.1 arc.1 refl))
arc_in-at (arc ∷ arcs) (suc j) l =
    either-second (eqb arc.0 (left arcs j) && eqb arc.1 (right arcs j)) (arc_in arcs (left arcs j) (right arcs j)) (arc_in-at arcs j (omega arith))

pub arc_in-is : (arcs : List (ℕ × ℕ)) (j x y : ℕ) → j < length arcs → left arcs j ≡ x → right arcs j ≡ y → arc_in arcs x y ≡ true
arc_in-is arcs j x y l xe ye = subst (λ v. arc_in arcs v y ≡ true) xe (subst (λ v. arc_in arcs (left arcs j) v ≡ true) ye (arc_in-at arcs j l))

pub left-below : (b : ℕ) (lower : List (ℕ × ℕ)) (j : ℕ) → AreLowerItems b lower → j < length lower → left lower j < b
left-below b lower j L l = (L.within j (0, 0) l).0

pub right-below : (b : ℕ) (lower : List (ℕ × ℕ)) (j : ℕ) → AreLowerItems b lower → j < length lower → right lower j < left lower j
right-below b lower j L l = (L.within j (0, 0) l).1

-- an item of a block below the one of item i stands before item i
pub stands-before : (b : ℕ) (lower : List (ℕ × ℕ)) (i j : ℕ) → AreLowerItems b lower → j < length lower → left lower j < left lower i → j < i
stands-before b lower i j L jl less = elim (lt_cases j i) [
  | inl l ↦ l
  | inr ge ↦ elim (le_cases i j ge) [
    | inl e ↦ absurd (let q : left lower i ≡ left lower j = ap (left lower) e in omega arith)
    | inr l ↦ absurd (let r : left lower i ≤ left lower j = L.rising i j l jl in omega arith)
  ]
]
