-- A search for a shortest walk, place by place.
use Rattle.std.specs.Prelude.{ℕ, ◌+◌, ◌<◌, ◌≤◌, ◌≡◌, ◌≢◌, ◌⊎◌, Bool, true, false}
use Rattle.residue_theory.specs.Sums.{size_on}
use Rattle.closed_sets.specs.Walks.{Walk}

-- at leads from a start to an end in k arcs, and no walk from a start to an end has fewer
pub record IsShortest (arc : ℕ → ℕ → Bool) (n : ℕ) (starts ends : ℕ → Bool) (at : ℕ → ℕ) (k : ℕ) : Type 0 where
  pub fewer : k < n
  pub begins : starts (at 0) ≡ true
  pub stops : ends (at k) ≡ true
  pub below : (i : ℕ) → i ≤ k → at i < n
  pub follows : (i : ℕ) → i < k → arc (at i) (at (i + 1)) ≡ true
  pub least : (s e m : ℕ) → s < n → e < n → starts s ≡ true → ends e ≡ true → Walk arc n s e m → k ≤ m

-- what a search knows: order lists the places, the reached ones first; before is where the walk to a place comes from
pub record SearchState : Type 0 where
  pub order : ℕ → ℕ
  pub reached : ℕ → Bool
  pub depth : ℕ → ℕ
  pub before : ℕ → ℕ

-- a reached place of some depth: an arc of a reached place leads to it
pub record IsLed (arc : ℕ → ℕ → Bool) (n : ℕ) (s : SearchState) (y : ℕ) : Type 0 where
  pub below : s.before y < n
  pub reached : s.reached (s.before y) ≡ true
  pub along : arc (s.before y) y ≡ true
  pub deeper : s.depth y ≡ s.depth (s.before y) + 1

-- the first `filled` places of the order are reached, and the first `head` of these have been looked at
pub record IsSearch (arc : ℕ → ℕ → Bool) (n : ℕ) (s : SearchState) (head filled : ℕ) : Type 0 where
  pub head_le : head ≤ filled
  pub filled_le : filled ≤ n
  pub below : (i : ℕ) → i < n → s.order i < n
  pub distinct : (i j : ℕ) → i < n → j < n → s.order i ≡ s.order j → i ≡ j
  pub each : (y : ℕ) → y < n → (i : ℕ) × (i < n) × (s.order i ≡ y)
  pub done : (i : ℕ) → i < filled → s.reached (s.order i) ≡ true
  pub waiting : (i : ℕ) → filled ≤ i → i < n → s.reached (s.order i) ≡ false
  pub count : size_on s.reached n ≡ filled
  pub shallow : (i : ℕ) → i < filled → s.depth (s.order i) ≤ i
  pub rising : (i j : ℕ) → i ≤ j → j < filled → s.depth (s.order i) ≤ s.depth (s.order j)
  pub near : (j : ℕ) → j < filled → head < filled → s.depth (s.order j) ≤ s.depth (s.order head) + 1
  pub origin : (y : ℕ) → y < n → s.reached y ≡ true → (s.depth y ≡ 0) ⊎ IsLed arc n s y
  pub looked : (j y : ℕ) → j < head → y < n → arc (s.order j) y ≡ true → (s.reached y ≡ true)
      × (s.depth y ≤ s.depth (s.order j) + 1)

-- the reached places of depth 0 are the starts
pub record HasStarts (n : ℕ) (starts : ℕ → Bool) (s : SearchState) : Type 0 where
  pub reached : (y : ℕ) → y < n → starts y ≡ true → s.reached y ≡ true
  pub depth : (y : ℕ) → y < n → starts y ≡ true → s.depth y ≡ 0
  pub only : (y : ℕ) → y < n → s.reached y ≡ true → s.depth y ≡ 0 → starts y ≡ true

-- none of the first `head` places is an end
abbrev pub NoEndBefore : (ℕ → Bool) → SearchState → ℕ → Type 0
NoEndBefore ends s head = (j : ℕ) → j < head → ends (s.order j) ≡ true → ⊥

-- t has what s had reached, in its order and as deep, and more that is deeper than 0
pub record IsGrown (n : ℕ) (s t : SearchState) (filled : ℕ) : Type 0 where
  pub order : (j : ℕ) → j < filled → t.order j ≡ s.order j
  pub reached : (y : ℕ) → s.reached y ≡ true → t.reached y ≡ true
  pub depth : (y : ℕ) → s.reached y ≡ true → t.depth y ≡ s.depth y
  pub deeper : (y : ℕ) → t.reached y ≡ true → t.depth y ≡ 0 → s.reached y ≡ true

-- t is s with the place at i of the order put at the end of the reached ones, d deep and led to by x
pub record IsPut (s t : SearchState) (i filled x d : ℕ) : Type 0 where
  pub order_new : t.order filled ≡ s.order i
  pub order_moved : t.order i ≡ s.order filled
  pub order_same : (j : ℕ) → j ≢ i → j ≢ filled → t.order j ≡ s.order j
  pub reached_new : t.reached (s.order i) ≡ true
  pub reached_same : (y : ℕ) → y ≢ s.order i → t.reached y ≡ s.reached y
  pub depth_new : t.depth (s.order i) ≡ d
  pub depth_same : (y : ℕ) → y ≢ s.order i → t.depth y ≡ s.depth y
  pub before_new : t.before (s.order i) ≡ x
  pub before_same : (y : ℕ) → y ≢ s.order i → t.before y ≡ s.before y

-- at holds the last arcs of the walk to e: from the k-th place on
pub record IsTrace (arc : ℕ → ℕ → Bool) (n : ℕ) (s : SearchState) (at : ℕ → ℕ) (k d e : ℕ) : Type 0 where
  pub le : k ≤ d
  pub last : at d ≡ e
  pub below : (i : ℕ) → k ≤ i → i ≤ d → at i < n
  pub reached : s.reached (at k) ≡ true
  pub depth : s.depth (at k) ≡ k
  pub follows : (i : ℕ) → k ≤ i → i < d → arc (at i) (at (i + 1)) ≡ true
