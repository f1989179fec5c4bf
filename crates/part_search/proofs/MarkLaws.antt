-- Marks and the queue of what is marked.
use Rattle.std.proofs.Common.{◌≡◌, ◌≢◌, ℕ, ◌+◌, ◌<◌, ◌≤◌, Bool, true, false, ◌||◌, eqb, List, [], ◌∷◌, ◌++◌, length, get_or}
use Rattle.std.proofs.Common.{slice_set, take, refl, sym, ◌∙◌, ap, subst, inl, inr, arith, length-append}
use Rattle.std.proofs.lemmas.Bool.Decides.{nat_tests}
use Rattle.std.proofs.lemmas.Grind.{common_steps}
use Rattle.std.proofs.lemmas.List.{get_or-set_same, get_or-set_other, length-set, take_more, take_all}
use Rattle.std.proofs.Math.ListN.{get_or-append}
use Rattle.std.proofs.Math.Seq.{get_or-append_seam}
use Rattle.residue_theory.specs.Sets.{has, only, with_one}
use Rattle.residue_theory.specs.Sums.{size_on}
use Rattle.residue_theory.proofs.SumLaws.{nat_cases, sum_on-same}
use Rattle.residue_theory.proofs.CountLaws.{size-zero, sum-with_one}
use Rattle.residue_theory.proofs.SetLaws.{differ, lt_cases, either_cases, either-first, either-second, eqb_true, eqb_from}
use Rattle.part_rules.specs.Listed.{marked}
use Rattle.part_search.specs.Markings.{IsQueue, AreMarkedToo}
use Rattle.part_search.proofs.ListLaws.{has-last}

pub mark-read : (marks : List Bool) (y : ℕ) (v : Bool) → y < length marks → v ≡ get_or marks y v → marked marks y ≡ v
mark-read marks y v l e = grind (arith, common_steps)

pub item-read : (xs : List ℕ) (i v : ℕ) → i < length xs → v ≡ get_or xs i v → get_or xs i 0 ≡ v
item-read xs i v l e = grind (arith, common_steps)

pub queue-empty : (marks : List Bool) → ((y : ℕ) → marked marks y ≡ false) → IsQueue marks []
queue-empty marks none = record {
  size = sym (size-zero (marked marks) (length marks) (λ y _. none y));
  below = λ i l. absurd (omega arith);
  marks_all = λ i l. absurd (omega arith);
  holds_all = λ y h. absurd (differ (none y) h);
}

-- nothing more is marked
pub grown-same : (X : ℕ → Bool) (marks : List Bool) (queue : List ℕ) → IsQueue marks queue →
    ((y : ℕ) → X y ≡ true → marked marks y ≡ true) → AreMarkedToo X marks queue marks queue
grown-same X marks queue Q known = record {
  queued = Q;
  count = refl;
  marks_too = λ y. told (marked marks y) (X y) (known y);
  longer = omega arith;
  same = λ i l. refl;
}
  where
    told : (a b : Bool) → (b ≡ true → a ≡ true) → a ≡ a || b
    told true b h = refl
    told false true h = absurd (differ refl (h refl))
    told false false h = refl

-- a place is marked, and put at the end of the queue
module _ (marks : List Bool) (queue : List ℕ) (place : ℕ) (Q : IsQueue marks queue) (l : place < length marks) (free : marked marks place ≡ false) where
  marks-put : (y : ℕ) → marked (slice_set marks place true) y ≡ with_one (marked marks) place y
  marks-put y = elim (nat_cases y place) [
    | inl q ↦ subst (λ z. marked (slice_set marks place true) z ≡ with_one (marked marks) place z) (sym q)
        (get_or-set_same marks place true false l ∙ sym (either-second (marked marks place) (eqb place place) (eqb_from place place refl)))
    | inr ne ↦ get_or-set_other marks place y true false ne ∙ other (marked marks y) (eqb y place) (apart y place ne)
  ]
    where
      other : (a b : Bool) → b ≡ false → a ≡ a || b
      other a b h = grind arith

      apart : (a b : ℕ) → a ≢ b → eqb a b ≡ false
      apart a b ne = grind (arith, nat_tests)

  queue-early : (i : ℕ) → i < length queue → get_or (queue ++ place ∷ []) i 0 ≡ get_or queue i 0
  queue-early i il = get_or-append queue (place ∷ []) 0 i il

  queue-last : (i : ℕ) → i ≡ length queue → get_or (queue ++ place ∷ []) i 0 ≡ place
  queue-last i e = ap (λ k. get_or (queue ++ place ∷ []) k 0) e ∙ get_or-append_seam queue place [] 0

  queue-count : length (queue ++ place ∷ []) ≡ length queue + 1
  queue-count = omega (arith, length-append queue (place ∷ []))

  -- what each place of the queue and this one have, each place of the new queue has
  queue-each : (P : ℕ → Type 0) → ((i : ℕ) → i < length queue → P (get_or queue i 0)) → P place → (i : ℕ) →
      i < length (queue ++ place ∷ []) → P (get_or (queue ++ place ∷ []) i 0)
  queue-each P each here i il = elim (lt_cases i (length queue)) [
    | inl less ↦ subst P (sym (queue-early i less)) (each i less)
    | inr ge ↦ subst P (sym (queue-last i (omega (arith, queue-count)))) here
  ]

  marks-still : (y : ℕ) → marked marks y ≡ true → marked (slice_set marks place true) y ≡ true
  marks-still y h = marks-put y ∙ either-first (marked marks y) (eqb y place) h

  queue-put : IsQueue (slice_set marks place true) (queue ++ place ∷ [])
  queue-put = record {
    size = omega (arith, queue-count, Q.size, length-set marks place true, sizes);
    below = queue-each (λ x. x < length (slice_set marks place true))
        (λ i il. omega (arith, Q.below i il, length-set marks place true)) (omega (arith, length-set marks place true));
    marks_all = queue-each (λ x. marked (slice_set marks place true) x ≡ true)
        (λ i il. marks-still (get_or queue i 0) (Q.marks_all i il)) (get_or-set_same marks place true false l);
    holds_all = λ y h. elim (either_cases (marked marks y) (eqb y place) (sym (marks-put y) ∙ h)) [
      | inl old ↦ let found : (i : ℕ) × (i < length queue) × (get_or queue i 0 ≡ y) = Q.holds_all y old in
          (found.0, omega (arith, queue-count, found.1), queue-early found.0 found.1 ∙ found.2)
      | inr new ↦ (length queue, omega (arith, queue-count), queue-last (length queue) refl ∙ sym (eqb_true y place new))
    ];
  }
    where
      sizes : size_on (marked (slice_set marks place true)) (length (slice_set marks place true)) ≡ size_on (marked marks) (length marks) + 1
      sizes = ap (λ n. size_on (marked (slice_set marks place true)) n) (length-set marks place true)
          ∙ (sum_on-same (marked (slice_set marks place true)) (with_one (marked marks) place) (length marks) (λ _. 1) (λ j _. marks-put j)
          ∙ sum-with_one (marked marks) (length marks) place (λ _. 1) l free)

  pub grown-put : AreMarkedToo (only place) marks queue (slice_set marks place true) (queue ++ place ∷ [])
  grown-put = record {
    queued = queue-put;
    count = length-set marks place true;
    marks_too = marks-put;
    longer = omega (arith, queue-count);
    same = queue-early;
  }

-- first X and then one place, which make Y
pub grown-more : (X Y : ℕ → Bool) (place : ℕ) (marks middle now : List Bool) (queue between later : List ℕ) →
    AreMarkedToo X marks queue middle between → AreMarkedToo (only place) middle between now later →
    ((y : ℕ) → Y y ≡ X y || eqb place y) → AreMarkedToo Y marks queue now later
grown-more X Y place marks middle now queue between later G H sum = record {
  queued = H.queued;
  count = H.count ∙ G.count;
  marks_too = λ y. H.marks_too y
      ∙ (ap (λ b. b || eqb y place) (G.marks_too y)
      ∙ (joined (marked marks y) (X y) (eqb y place) (eqb place y) (turned y place)
      ∙ ap (λ b. marked marks y || b) (sym (sum y))));
  longer = omega (arith, G.longer, H.longer);
  same = λ i l. H.same i (omega (arith, l, G.longer)) ∙ G.same i l;
}
  where
    turned : (a b : ℕ) → eqb a b ≡ eqb b a
    turned a b = grind (arith, nat_tests)

    joined : (a b c d : Bool) → c ≡ d → (a || b) || c ≡ a || (b || d)
    joined true b c d e = refl
    joined false b c d e = ap (λ v. b || v) e

-- of a list one item more
pub grown-item : (list : List ℕ) (k place : ℕ) (marks middle now : List Bool) (queue between later : List ℕ) → k < length list → get_or list k 0 ≡ place →
    AreMarkedToo (has (take k list)) marks queue middle between → AreMarkedToo (only place) middle between now later →
    AreMarkedToo (has (take (k + 1) list)) marks queue now later
grown-item list k place marks middle now queue between later l at G H =
    grown-more (has (take k list)) (has (take (k + 1) list)) place marks middle now queue between later G H
    (λ y. ap (λ ys. has ys y) (take_more list k 0 l) ∙ (has-last (take k list) (get_or list k 0) y ∙ ap (λ z. has (take k list) y || eqb z y) at))

pub grown-list : (list : List ℕ) (k : ℕ) (marks now : List Bool) (queue later : List ℕ) → length list ≤ k →
    AreMarkedToo (has (take k list)) marks queue now later → AreMarkedToo (has list) marks queue now later
grown-list list k marks now queue later l G = subst (λ ys. AreMarkedToo (has ys) marks queue now later) (take_all k list l) G

-- ---- the starts
-- of the places below `place` the starts are marked
module _ (starts marks : List Bool) (place : ℕ) (done : (y : ℕ) → y < place → marked marks y ≡ marked starts y) where
  pub starts-put : (now : List Bool) (queue later : List ℕ) → ((y : ℕ) → place ≤ y → marked marks y ≡ false) →
      AreMarkedToo (only place) marks queue now later → marked starts place ≡ true →
      (y : ℕ) → y < place + 1 → marked now y ≡ marked starts y
  starts-put now queue later rest G h y l = elim (nat_cases y place) [
    | inl q ↦ subst (λ z. marked now z ≡ marked starts z) (sym q)
        (G.marks_too place ∙ (either-second (marked marks place) (eqb place place) (eqb_from place place refl) ∙ sym h))
    | inr ne ↦ G.marks_too y ∙ (other (marked marks y) (eqb y place) (apart y place ne) ∙ done y (omega arith))
  ]
    where
      other : (a b : Bool) → b ≡ false → a || b ≡ a
      other a b e = grind arith

      apart : (a b : ℕ) → a ≢ b → eqb a b ≡ false
      apart a b differ_ab = grind (arith, nat_tests)

  pub starts-pass : ((y : ℕ) → place ≤ y → marked marks y ≡ false) → marked starts place ≡ false → (y : ℕ) → y < place + 1 → marked marks y ≡ marked starts y
  starts-pass rest h y l = elim (nat_cases y place) [
    | inl q ↦ subst (λ z. marked marks z ≡ marked starts z) (sym q) (rest place (omega arith) ∙ sym h)
    | inr ne ↦ done y (omega arith)
  ]

pub rest-put : (marks now : List Bool) (queue later : List ℕ) (place : ℕ) → AreMarkedToo (only place) marks queue now later →
    ((y : ℕ) → place ≤ y → marked marks y ≡ false) →
    (y : ℕ) → place + 1 ≤ y → marked now y ≡ false
rest-put marks now queue later place G rest y l = G.marks_too y ∙ none (marked marks y) (eqb y place) (rest y (omega arith)) (apart y place (λ q. omega arith))
  where
    none : (a b : Bool) → a ≡ false → b ≡ false → a || b ≡ false
    none a b h k = grind arith

    apart : (a b : ℕ) → a ≢ b → eqb a b ≡ false
    apart a b differ_ab = grind (arith, nat_tests)
