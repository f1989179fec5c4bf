-- Sets that are marked, one number after the other.
use Rattle.std.proofs.Common.{◌≡◌, ℕ, ◌+◌, ◌-◌, ◌<◌, ◌≤◌, ◌⊎◌, ◌↔◌, ◌||◌, Bool, true, false, List, inl, inr, refl, sym, subst, ◌∙◌, arith}
use Rattle.std.proofs.Common.{length, get_or, drop, replicate, slice_index, slice_set, take}
use Rattle.std.proofs.lemmas.List.{ext_get_or, get_or_default, get_or_past, get_or-drop, get_or-replicate, get_or-take}
use Rattle.std.proofs.lemmas.List.{get_or-set_same, get_or-set_other, length-set, length-replicate}
use Rattle.residue_theory.proofs.SetLaws.{differ, lt_cases, not_true}
use Rattle.residue_theory.proofs.SumLaws.{nat_cases}
use Rattle.part_rules.specs.Listed.{marked}
use Rattle.part_arcs.proofs.Gathered.{none-marked}
use Rattle.std.specs.List.{All}
use Rattle.part_arcs.proofs.FormLaws.{has-some, some-has}
use Rattle.solve_plan.specs.Marks.{AreMarksOf, AreMembersOf, IsItem, Marks, OfSome, Unmarks}

-- nothing is marked yet
pub mark-none : (P : ℕ → ℕ → Type 0) (old : List Bool) → Marks (OfSome 0 P) old old
mark-none P old = record {
  count = refl;
  tells = λ x. (
    λ h. inl h,
    λ either. elim either [
      | inl h ↦ h
      | inr (k, low, is) ↦ absurd (omega (arith, low))
    ],
  );
}

module _ (P : ℕ → ℕ → Type 0) (n : ℕ) where
  more : (x : ℕ) → OfSome n P x → OfSome (n + 1) P x
  more x (k, low, is) = (k, omega (arith, low), is)

  newest : (x : ℕ) → P n x → OfSome (n + 1) P x
  newest x is = (n, omega arith, is)

  of-cases : (x : ℕ) → OfSome (n + 1) P x → OfSome n P x ⊎ P n x
  of-cases x (k, low, is) = elim (nat_cases k n) [
    | inl same ↦ inr (subst (λ i. P i x) same is)
    | inr other ↦ inl (k, omega (arith, low, other), is)
  ]

  -- number n adds a set
  pub mark-join : (old mid now : List Bool) → Marks (OfSome n P) old mid → Marks (P n) mid now → Marks (OfSome (n + 1) P) old now
  mark-join old mid now before step = record {
    count = step.count ∙ before.count;
    tells = λ x. (
      λ h. elim ((step.tells x).0 h) [
        | inr new ↦ inr (newest x new)
        | inl kept ↦ elim ((before.tells x).0 kept) [
          | inl first ↦ inl first
          | inr early ↦ inr (more x early)
        ]
      ],
      λ either. elim either [
        | inl first ↦ (step.tells x).1 (inl ((before.tells x).1 (inl first)))
        | inr item ↦ elim (of-cases x item) [
          | inl early ↦ (step.tells x).1 (inl ((before.tells x).1 (inr early)))
          | inr new ↦ (step.tells x).1 (inr new)
        ]
      ],
    );
  }

  -- number n adds nothing
  pub mark-skip : (old now : List Bool) → Marks (OfSome n P) old now → ((x : ℕ) → P n x → ⊥) → Marks (OfSome (n + 1) P) old now
  mark-skip old now before none = mark-join old now now before (record {
    count = refl;
    tells = λ x. (
      λ h. inl h,
      λ either. elim either [
        | inl h ↦ h
        | inr new ↦ absurd (none x new)
      ],
    );
  })

  -- number n adds v
  pub mark-set : (old now : List Bool) (v : ℕ) → Marks (OfSome n P) old now → v < length old → P n v → ((x : ℕ) → P n x → v ≡ x) →
      Marks (OfSome (n + 1) P) old (slice_set now v true)
  mark-set old now v before low is only = mark-join old now (slice_set now v true) before (record {
    count = length-set now v true;
    tells = λ x. (set-told x, told-set x);
  })
    where
      here : marked (slice_set now v true) v ≡ true
      here = get_or-set_same now v true false (subst (λ m. v < m) (sym before.count) low)

      set-told : (x : ℕ) → marked (slice_set now v true) x ≡ true → (marked now x ≡ true) ⊎ P n x
      set-told x h = elim (nat_cases v x) [
        | inl same ↦ inr (subst (λ i. P n i) same is)
        | inr other ↦ inl (subst (λ b. b ≡ true) (get_or-set_other now v x true false (λ e. other (sym e))) h)
      ]

      told-set : (x : ℕ) → (marked now x ≡ true) ⊎ P n x → marked (slice_set now v true) x ≡ true
      told-set x (inr new) = subst (λ i. marked (slice_set now v true) i ≡ true) (only x new) here
      told-set x (inl h) = elim (nat_cases v x) [
        | inl same ↦ subst (λ i. marked (slice_set now v true) i ≡ true) same here
        | inr other ↦ get_or-set_other now v x true false (λ e. other (sym e)) ∙ h
      ]

-- nothing is unmarked yet
pub unmark-none : (P : ℕ → ℕ → Type 0) (old : List Bool) → Unmarks (OfSome 0 P) old old
unmark-none P old = record {
  count = refl;
  tells = λ x. (λ h. (h, λ item. absurd (omega (arith, item.1))), λ h. h.0);
}

-- number n unmarks v
pub unmark-set : (P : ℕ → ℕ → Type 0) (n : ℕ) (old now : List Bool) (v : ℕ) → Unmarks (OfSome n P) old now → v < length old → P n v → ((x : ℕ) →
    P n x → v ≡ x) →
    Unmarks (OfSome (n + 1) P) old (slice_set now v false)
unmark-set P n old now v before low is only = record {
  count = length-set now v false ∙ before.count;
  tells = λ x. (set-told x, told-set x);
}
  where
    here : marked (slice_set now v false) v ≡ false
    here = get_or-set_same now v false false (subst (λ m. v < m) (sym before.count) low)

    set-told : (x : ℕ) → marked (slice_set now v false) x ≡ true → (marked old x ≡ true) × (OfSome (n + 1) P x → ⊥)
    set-told x h = elim (nat_cases v x) [
      | inl same ↦ absurd (differ here (subst (λ i. marked (slice_set now v false) i ≡ true) (sym same) h))
      | inr other ↦
          let kept = (before.tells x).0 (subst (λ b. b ≡ true) (get_or-set_other now v x false false (λ e. other (sym e))) h) in (
            kept.0,
            λ item. elim (of-cases P n x item) [
              | inl early ↦ kept.1 early
              | inr new ↦ other (only x new)
            ],
          )
    ]

    told-set : (x : ℕ) → (marked old x ≡ true) × (OfSome (n + 1) P x → ⊥) → marked (slice_set now v false) x ≡ true
    told-set x h = elim (nat_cases v x) [
      | inl same ↦ absurd (h.1 (newest P n x (subst (λ i. P n i) same is)))
      | inr other ↦ get_or-set_other now v x false false (λ e. other (sym e)) ∙ (before.tells x).1 (h.0, λ item. h.1 (more P n x item))
    ]

-- marks that are set where none was
pub mark-fresh : (n : ℕ) (A : ℕ → Type 0) (none now : List Bool) → none ≡ replicate n false → Marks A none now → AreMarksOf n A now
mark-fresh n A none now clear are = record {
  count = are.count ∙ subst (λ l. length l ≡ n) (sym clear) (length-replicate n false);
  tells = λ x. (
    λ h. elim ((are.tells x).0 h) [
      | inl old ↦ absurd (none-marked n x (subst (λ l. marked l x ≡ true) clear old))
      | inr new ↦ new
    ],
    λ new. (are.tells x).1 (inr new),
  );
}

-- of the first n marks none is set
abbrev pub AreClear : List Bool → ℕ → Type 0
AreClear marks n = (i : ℕ) → i < n → marked marks i ≡ false

module _ (marks : List Bool) (n : ℕ) (any : Bool) where
  -- one mark more
  pub clear-next : ((any ≡ false) ↔ AreClear marks n) → (((any || get_or marks n false) ≡ false) ↔ AreClear marks (n + 1))
  clear-next (to, from) = (one any to, λ clear. two any from (λ i low. clear i (omega (arith, low))) (clear n (omega arith)))
    where
      one : (b : Bool) → (b ≡ false → AreClear marks n) → (b || get_or marks n false) ≡ false → AreClear marks (n + 1)
      one true known h i low = absurd (differ h refl)
      one false known h i low = elim (nat_cases i n) [
        | inl same ↦ subst (λ k. marked marks k ≡ false) (sym same) h
        | inr other ↦ known refl i (omega (arith, low, other))
      ]

      two : (b : Bool) → (AreClear marks n → b ≡ false) → AreClear marks n → marked marks n ≡ false → (b || get_or marks n false) ≡ false
      two true known clear last = known clear
      two false known clear last = last

  -- all marks
  pub clear-all : length marks ≤ n → ((any ≡ false) ↔ AreClear marks n) → ((any ≡ false) ↔ ((i : ℕ) → marked marks i ≡ false))
  clear-all end (to, from) = (
    λ h i. elim (lt_cases i n) [
      | inl low ↦ to h i low
      | inr high ↦ get_or_past marks i false (omega (arith, high, end))
    ],
    λ clear. from (λ i low. clear i),
  )

-- in a run of marks none is set
pub clear-run : (marks : List Bool) (from end : ℕ) → ((i : ℕ) → marked (take (end - from) (drop from marks)) i ≡ false) → (i : ℕ) → from ≤ i →
    i < end → marked marks i ≡ false
clear-run marks from end clear i low high =
    let k : ℕ = i - from in
    let back : from + k ≡ i = omega (arith, low) in
    subst (λ j. marked marks j ≡ false) back
    (sym (get_or-take (end - from) (drop from marks) k false (omega (arith, low, high)) ∙ get_or-drop from marks k false) ∙ clear k)

-- marks of which none is set
pub clear-same : (n : ℕ) (marks : List Bool) → length marks ≡ n → ((x : ℕ) → marked marks x ≡ true → ⊥) → marks ≡ replicate n false
clear-same n marks count none = ext_get_or false marks (replicate n false) (count ∙ sym (length-replicate n false))
    (λ i low. not_true (marked marks i) (none i) ∙ sym (get_or-replicate n i false false (omega (arith, low, count))))

-- the members of a set of numbers below n are below n
pub members-low : (n : ℕ) (A : ℕ → Type 0) (list : List ℕ) → AreMembersOf n A list → All (λ i. i < n) list
members-low n A list are = λ k d low. ((are.exact (get_or list k d)).0 (some-has list k (get_or list k d) low (get_or_default list k 0 d low))).0

module _ (n : ℕ) (marks : List Bool) (list : List ℕ) (count : length marks ≡ n) (are : AreMembersOf n (λ i. marked marks i ≡ true) list) where
  -- what is listed is below
  pub listed-low : All (λ i. i < length marks) list
  listed-low k d low = omega (arith, members-low n (λ i. marked marks i ≡ true) list are k d low, count)

  -- and taken back, no mark is left
  pub listed-back : (now : List Bool) → Unmarks (IsItem list) marks now → now ≡ replicate n false
  listed-back now back = clear-same n now (back.count ∙ count) (λ x set.
      let kept = (back.tells x).0 set in
      kept.1 (has-some list x ((are.exact x).1 (marked-low x kept.0, kept.0))))
    where
      marked-low : (x : ℕ) → marked marks x ≡ true → x < n
      marked-low x is = elim (lt_cases x n) [
        | inl low ↦ low
        | inr high ↦ absurd (differ (get_or_past marks x false (omega (arith, high, count))) is)
      ]
