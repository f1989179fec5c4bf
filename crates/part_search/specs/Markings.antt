-- Places that are marked, and the queue of them.
use Rattle.std.specs.Prelude.{ℕ, ◌<◌, ◌≤◌, ◌≡◌, Bool, true, ◌||◌, List, length, slice_index}
use Rattle.residue_theory.specs.Sums.{size_on}
use Rattle.closed_sets.specs.Walks.{FromSome}
use Rattle.part_rules.specs.Listed.{marked}

-- the queue holds exactly the marked places, and is no longer than there are such
pub record IsQueue (marks : List Bool) (queue : List ℕ) : Type 0 where
  pub size : length queue ≡ size_on (marked marks) (length marks)
  pub below : (i : ℕ) → i < length queue → slice_index queue i < length marks
  pub marks_all : (i : ℕ) → i < length queue → marked marks (slice_index queue i) ≡ true
  pub holds_all : (y : ℕ) → marked marks y ≡ true → (i : ℕ) × (i < length queue) × (slice_index queue i ≡ y)

-- the places of X are marked too, and stand in the queue behind those that stood there
pub record AreMarkedToo (X : ℕ → Bool) (marks : List Bool) (queue : List ℕ) (marks_now : List Bool) (queue_now : List ℕ)
    : Type 0 where
  pub queued : IsQueue marks_now queue_now
  pub count : length marks_now ≡ length marks
  pub marks_too : (y : ℕ) → marked marks_now y ≡ marked marks y || X y
  pub longer : length queue ≤ length queue_now
  pub same : (i : ℕ) → i < length queue → slice_index queue_now i ≡ slice_index queue i

-- what is marked is reached from a start, the starts are, and all that the first `head` places of the queue lead to
pub record IsMarking (arc : ℕ → ℕ → Bool) (n : ℕ) (starts : ℕ → Bool) (marks : List Bool) (queue : List ℕ) (head : ℕ)
    : Type 0 where
  pub queued : IsQueue marks queue
  pub count : length marks ≡ n
  pub within : head ≤ length queue
  pub sound : (y : ℕ) → y < n → marked marks y ≡ true → FromSome arc n starts y
  pub from : (y : ℕ) → y < n → starts y ≡ true → marked marks y ≡ true
  pub looked : (i y : ℕ) → i < head → y < n → arc (slice_index queue i) y ≡ true → marked marks y ≡ true
