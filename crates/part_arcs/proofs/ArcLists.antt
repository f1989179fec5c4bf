-- Lists of arcs, and arcs that are put at their ends.
use Rattle.std.proofs.lemmas.List.Elements.{All-cons}
use Rattle.std.proofs.Common.{◌≡◌, ◌≢◌, ℕ, ◌+◌, ◌<◌, ◌⊎◌, true, false, ◌&&◌, eqb, List, [], ◌∷◌, ◌++◌, length, slice_index, inl, inr, refl, sym, subst, arith}
use Rattle.residue_theory.proofs.SetLaws.{differ, both_true, both-first, both-second, either_cases, either-first, either-second, eqb_true, eqb_from}
use Rattle.residue_theory.proofs.SumLaws.{nat_cases}
use Rattle.cert_text.specs.Readings.{pair_at}
use Rattle.part_rules.specs.Listed.{AreArcs, arc_in}
use Rattle.part_arcs.specs.Leading.{AreLed, AreLedTo}
use Rattle.part_arcs.specs.Marking.{row_of_lists}

here : (x y : ℕ) → (eqb x x && eqb y y) ≡ true
here x y = both_true (eqb x x) (eqb y y) (eqb_from x x refl) (eqb_from y y refl)

pub pushed-old : (xs : List (ℕ × ℕ)) (x y a b : ℕ) → arc_in xs a b ≡ true → arc_in (xs ++ (x, y) ∷ []) a b ≡ true
pushed-old [] x y a b h = absurd (differ refl h)
pushed-old (arc ∷ xs) x y a b h = elim (either_cases (eqb arc.0 a && eqb arc.1 b) (arc_in xs a b) h) [
  | inl first ↦ either-first (eqb arc.0 a && eqb arc.1 b) (arc_in (xs ++ (x, y) ∷ []) a b) first
  | inr later ↦ either-second (eqb arc.0 a && eqb arc.1 b) (arc_in (xs ++ (x, y) ∷ []) a b) (pushed-old xs x y a b later)
]

pub pushed-new : (xs : List (ℕ × ℕ)) (x y : ℕ) → arc_in (xs ++ (x, y) ∷ []) x y ≡ true
pushed-new [] x y = either-first (eqb x x && eqb y y) false (here x y)
pushed-new (arc ∷ xs) x y = either-second (eqb arc.0 x && eqb arc.1 y) (arc_in (xs ++ (x, y) ∷ []) x y) (pushed-new xs x y)

is-here : (x y a b : ℕ) → (eqb x a && eqb y b) ≡ true → (x ≡ a) × (y ≡ b)
is-here x y a b h = (eqb_true x a (both-first (eqb x a) (eqb y b) h), eqb_true y b (both-second (eqb x a) (eqb y b) h))

pub pushed-only : (xs : List (ℕ × ℕ)) (x y a b : ℕ) → arc_in (xs ++ (x, y) ∷ []) a b ≡ true → (arc_in xs a b ≡ true) ⊎ ((x ≡ a) × (y ≡ b))
pushed-only [] x y a b h = elim (either_cases (eqb x a && eqb y b) false h) [
  | inl first ↦ inr (is-here x y a b first)
  | inr later ↦ absurd (differ refl later)
]
pushed-only (arc ∷ xs) x y a b h = elim (either_cases (eqb arc.0 a && eqb arc.1 b) (arc_in (xs ++ (x, y) ∷ []) a b) h) [
  | inl first ↦ inl (either-first (eqb arc.0 a && eqb arc.1 b) (arc_in xs a b) first)
  | inr later ↦ elim (pushed-only xs x y a b later) [
    | inl old ↦ inl (either-second (eqb arc.0 a && eqb arc.1 b) (arc_in xs a b) old)
    | inr new ↦ inr new
  ]
]

pub led-none : (list : List ℕ) (y : ℕ) (old : List (ℕ × ℕ)) → AreLedTo list y 0 old old
led-none list y old = record { kept = λ a b h. h; new = λ k low apart. absurd (omega (arith, low)); only = λ a b h. inl h }

-- an arc more
pub led-put : (list : List ℕ) (y k x : ℕ) (old now : List (ℕ × ℕ)) → AreLedTo list y k old now → slice_index list k ≡ x →
    x ≢ y → AreLedTo list y (k + 1) old (now ++ (x, y) ∷ [])
led-put list y k x old now led is apart = record {
  kept = λ a b h. pushed-old now x y a b (led.kept a b h);
  new = λ j low other. elim (nat_cases j k) [
    | inl same ↦ subst (λ v. arc_in (now ++ (x, y) ∷ []) v y ≡ true) (sym (subst (λ i. slice_index list i ≡ x) (sym same) is)) (pushed-new now x y)
    | inr less ↦ pushed-old now x y (slice_index list j) y (led.new j (omega (arith, low, less)) other)
  ];
  only = λ a b h. elim (pushed-only now x y a b h) [
    | inl before ↦ elim (led.only a b before) [
      | inl first ↦ inl first
      | inr (same, other, (j, low, at)) ↦ inr (same, other, (j, omega (arith, low), at))
    ]
    | inr (left, right) ↦ inr (sym right, subst (λ v. v ≢ y) left apart, (k, omega arith, subst (λ v. slice_index list k ≡ v) left is))
  ];
}

-- y itself leads not
pub led-stay : (list : List ℕ) (y k : ℕ) (old now : List (ℕ × ℕ)) → AreLedTo list y k old now → slice_index list k ≡ y → AreLedTo list y (k + 1) old now
led-stay list y k old now led is = record {
  kept = led.kept;
  new = λ j low other. elim (nat_cases j k) [
    | inl same ↦ absurd (other (subst (λ i. slice_index list i ≡ y) (sym same) is))
    | inr less ↦ led.new j (omega (arith, low, less)) other
  ];
  only = λ a b h. elim (led.only a b h) [
    | inl first ↦ inl first
    | inr (same, other, (j, low, at)) ↦ inr (same, other, (j, omega (arith, low), at))
  ];
}

pub rows-none : (rows : List (List ℕ)) (pairs old : List (ℕ × ℕ)) → AreLed rows pairs 0 old old
rows-none rows pairs old = record { kept = λ a b h. h; new = λ j k low within apart. absurd (omega (arith, low)); only = λ a b h. inl h }

-- a row more
pub rows-more : (rows : List (List ℕ)) (pairs : List (ℕ × ℕ)) (n : ℕ) (old now more : List (ℕ × ℕ)) (list : List ℕ)
    (y : ℕ) → AreLed rows pairs n old now → list ≡ row_of_lists rows (pair_at pairs n).0 → y ≡ (pair_at pairs n).1 →
    AreLedTo list y (length list) now more →
    AreLed rows pairs (n + 1) old more
rows-more rows pairs n old now more list y before row column led = go (subst (λ l. AreLedTo l y (length l) now more) row led)
  where
    go : AreLedTo (row_of_lists rows (pair_at pairs n).0) y (length (row_of_lists rows (pair_at pairs n).0)) now more → AreLed rows pairs (n + 1) old more
    go step = record {
      kept = λ a b h. step.kept a b (before.kept a b h);
      new = λ j k low within apart. elim (nat_cases j n) [
        | inl same ↦ subst (λ i. k < length (row_of_lists rows (pair_at pairs i).0) →
            slice_index (row_of_lists rows (pair_at pairs i).0) k ≢ (pair_at pairs i).1 →
            arc_in more (slice_index (row_of_lists rows (pair_at pairs i).0) k) (pair_at pairs i).1 ≡ true) (sym same)
            (subst (λ v. k < length (row_of_lists rows (pair_at pairs n).0) →
            slice_index (row_of_lists rows (pair_at pairs n).0) k ≢ v →
            arc_in more (slice_index (row_of_lists rows (pair_at pairs n).0) k) v ≡ true) column
            (step.new k)) within apart
        | inr less ↦ step.kept (slice_index (row_of_lists rows (pair_at pairs j).0) k) (pair_at pairs j).1
            (before.new j k (omega (arith, low, less)) within apart)
      ];
      only = λ a b h. elim (step.only a b h) [
        | inl first ↦ elim (before.only a b first) [
          | inl oldest ↦ inl oldest
          | inr (j, k, low, within, at, apart, is) ↦ inr (j, k, omega (arith, low), within, at, apart, is)
        ]
        | inr (same, apart, (k, low, is)) ↦ inr (n, k, omega arith, low, sym (subst (λ v. b ≡ v) column same), subst (λ v. a ≢ v) (sym same) apart, is)
      ];
    }

-- what a list says of each of its arcs is so of each item
pub arcs-within : (n : ℕ) (arcs : List (ℕ × ℕ)) → ((a b : ℕ) → arc_in arcs a b ≡ true → (a < n) × (b < n)) → AreArcs n arcs
arcs-within n [] each = λ k d low. absurd (omega (arith, low))
arcs-within n (arc ∷ arcs) each = All-cons (λ (e : ℕ × ℕ). (e.0 < n) × (e.1 < n)) arc arcs
    (each arc.0 arc.1 (either-first (eqb arc.0 arc.0 && eqb arc.1 arc.1) (arc_in arcs arc.0 arc.1) (here arc.0 arc.1)))
    (arcs-within n arcs (λ a b h. each a b (either-second (eqb arc.0 a && eqb arc.1 b) (arc_in arcs a b) h)))
