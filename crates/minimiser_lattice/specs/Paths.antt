-- What is known while components are found along a path: groups of places that reach each other stand on a stack, each
-- group leading to the next one, and the components that are closed have numbers.
use Rattle.std.specs.Prelude.{ℕ, ◌+◌, ◌-◌, ◌<◌, ◌≤◌, ◌≡◌, ◌≢◌, ◌⊎◌, Bool, true, false}
use Rattle.residue_theory.specs.Sums.{size_on}
use Rattle.closed_sets.specs.Walks.{Reaches}
use Rattle.exchange_graph.specs.Turns.{HaveHadTurns}

-- `stack` holds the places that are seen and not done, from 0 to `height` - 1, and `position` tells where; the g-th
-- group begins at `base g`; `path` tells the positions of the places some of whose arcs are left, and `next` the turn
-- from which they are; a place that is done has its component's number, and `strict k l` says that component k leads to
-- the other one l
pub record PathState : Type 0 where
  pub seen : ℕ → Bool
  pub done : ℕ → Bool
  pub number : ℕ → ℕ
  pub position : ℕ → ℕ
  pub next : ℕ → ℕ
  pub stack : ℕ → ℕ
  pub base : ℕ → ℕ
  pub path : ℕ → ℕ
  pub strict : ℕ → ℕ → Bool
  pub height : ℕ
  pub groups : ℕ
  pub depth : ℕ
  pub count : ℕ

-- the components that are closed: what their places lead to has a number that is no greater
pub record IsTold (arc : ℕ → ℕ → Bool) (n : ℕ) (done : ℕ → Bool) (number : ℕ → ℕ) (count : ℕ)
    (strict : ℕ → ℕ → Bool) : Type 0 where
  pub below : (x : ℕ) → x < n → done x ≡ true → number x < count
  pub member : (k : ℕ) → k < count → (x : ℕ) × (x < n) × (done x ≡ true) × (number x ≡ k)
  pub leads : (x y : ℕ) → x < n → y < n → done x ≡ true → arc x y ≡ true → (done y ≡ true)
      × ((number y ≡ number x) ⊎ (strict (number x) (number y) ≡ true))
  pub same : (x y : ℕ) → x < n → y < n → done x ≡ true → done y ≡ true → number x ≡ number y → Reaches arc n x y
  pub tells : (x y : ℕ) → x < n → y < n → done x ≡ true → done y ≡ true →
      strict (number x) (number y) ≡ true → Reaches arc n x y
  pub falls : (k l : ℕ) → k < count → l < n → strict k l ≡ true → l < k
  pub lower : (k l m : ℕ) → k < count → l < n → m < n → strict k l ≡ true → strict l m ≡ true → strict k m ≡ true
  pub empty : (k l : ℕ) → count ≤ k → l < n → strict k l ≡ false

-- the same while the component with the number `count` is closed: its places are done, and its row is being made
pub record IsClosing (arc : ℕ → ℕ → Bool) (n : ℕ) (done : ℕ → Bool) (number : ℕ → ℕ) (count : ℕ)
    (strict : ℕ → ℕ → Bool) : Type 0 where
  pub small : count < n
  pub within : (x : ℕ) → x < n → done x ≡ true → number x ≤ count
  pub member : (k : ℕ) → k ≤ count → (x : ℕ) × (x < n) × (done x ≡ true) × (number x ≡ k)
  pub leads : (x y : ℕ) → x < n → y < n → done x ≡ true → number x < count → arc x y ≡ true → (number y ≡ number x)
      ⊎ (strict (number x) (number y) ≡ true)
  pub stays : (x y : ℕ) → x < n → y < n → done x ≡ true → arc x y ≡ true → done y ≡ true
  pub same : (x y : ℕ) → x < n → y < n → done x ≡ true → done y ≡ true → number x ≡ number y → Reaches arc n x y
  pub tells : (x y : ℕ) → x < n → y < n → done x ≡ true → done y ≡ true →
      strict (number x) (number y) ≡ true → Reaches arc n x y
  pub falls : (k l : ℕ) → k ≤ count → l < n → strict k l ≡ true → l < k
  pub lower : (k l m : ℕ) → k ≤ count → l < n → m < n → strict k l ≡ true → strict l m ≡ true → strict k m ≡ true
  pub empty : (k l : ℕ) → count < k → l < n → strict k l ≡ false

abbrev pub Closes : (ℕ → ℕ → Bool) → ℕ → PathState → Type 0
Closes arc n s = IsClosing arc n s.done s.number s.count s.strict

-- the row of the component that is being closed tells of y's component, or y is of the one itself
abbrev pub IsToldOf : PathState → ℕ → Type 0
IsToldOf s y = (s.number y ≡ s.count) ⊎ (s.strict s.count (s.number y) ≡ true)

-- y is done, or stands in no lower group than position i
abbrev pub IsHandled : PathState → ℕ → ℕ → Type 0
IsHandled s i y = (s.done y ≡ true) ⊎ ((s.seen y ≡ true)
    × ((g : ℕ) → g < s.groups → s.base g ≤ i → s.base g ≤ s.position y))

pub record IsGoing (arc : ℕ → ℕ → Bool) (turn : ℕ → ℕ → ℕ) (n : ℕ) (s : PathState) : Type 0 where
  pub told : IsTold arc n s.done s.number s.count s.strict
  pub stack_below : (i : ℕ) → i < s.height → s.stack i < n
  pub stack_seen : (i : ℕ) → i < s.height → s.seen (s.stack i) ≡ true
  pub stack_waits : (i : ℕ) → i < s.height → s.done (s.stack i) ≡ false
  pub placed : (i : ℕ) → i < s.height → s.position (s.stack i) ≡ i
  pub on_stack : (y : ℕ) → y < n → s.seen y ≡ true → s.done y ≡ false → (s.position y < s.height)
      × (s.stack (s.position y) ≡ y)
  pub done_seen : (y : ℕ) → y < n → s.done y ≡ true → s.seen y ≡ true
  pub along : (i j : ℕ) → i ≤ j → j < s.height → Reaches arc n (s.stack i) (s.stack j)
  pub back : (i j : ℕ) → i ≤ j → j < s.height → ((g : ℕ) → g < s.groups → i < s.base g → s.base g ≤ j → ⊥) →
      Reaches arc n (s.stack j) (s.stack i)
  pub explored : (i y : ℕ) → i < s.height → y < n → turn (s.stack i) y < s.next (s.stack i) →
      arc (s.stack i) y ≡ true → IsHandled s i y
  pub base_below : (g : ℕ) → g < s.groups → s.base g < s.height
  pub base_rises : (g h : ℕ) → g < h → h < s.groups → s.base g < s.base h
  pub first_base : 0 < s.height → (0 < s.groups) × (s.base 0 ≡ 0)
  pub path_below : (d : ℕ) → d < s.depth → s.path d < s.height
  pub path_rises : (d e : ℕ) → d < e → e < s.depth → s.path d < s.path e
  pub base_on_path : (g : ℕ) → g < s.groups → (d : ℕ) × (d < s.depth) × (s.path d ≡ s.base g)
  pub finished : (i : ℕ) → i < s.height → ((d : ℕ) → d < s.depth → s.path d ≡ i → ⊥) →
      HaveHadTurns (arc (s.stack i)) (turn (s.stack i)) n (s.next (s.stack i))
  pub room : s.count + s.height ≤ size_on s.seen n

-- a place that was not seen is put on the stack, as a group of its own, and on the path
pub record IsOnPath (s t : PathState) (place : ℕ) : Type 0 where
  pub kept : t ≡ record s {
    seen = t.seen;
    position = t.position;
    next = t.next;
    stack = t.stack;
    base = t.base;
    path = t.path;
    height = s.height + 1;
    groups = s.groups + 1;
    depth = s.depth + 1;
  }
  pub seen : t.seen place ≡ true
  pub seen_others : (y : ℕ) → y ≢ place → t.seen y ≡ s.seen y
  pub position : t.position place ≡ s.height
  pub position_others : (y : ℕ) → y ≢ place → t.position y ≡ s.position y
  pub next : t.next place ≡ 0
  pub next_others : (y : ℕ) → y ≢ place → t.next y ≡ s.next y
  pub stack : t.stack s.height ≡ place
  pub stack_others : (i : ℕ) → i ≢ s.height → t.stack i ≡ s.stack i
  pub base : t.base s.groups ≡ s.height
  pub base_others : (g : ℕ) → g ≢ s.groups → t.base g ≡ s.base g
  pub path : t.path s.depth ≡ s.height
  pub path_others : (d : ℕ) → d ≢ s.depth → t.path d ≡ s.path d

-- the groups that begin above position `at` are joined with the one below them, and `groups` are left
pub record AreMergedGroups (s : PathState) (groups at : ℕ) : Type 0 where
  pub some : 0 < groups
  pub fewer : groups ≤ s.groups
  pub kept : (g : ℕ) → g < groups → s.base g ≤ at
  pub joined : (g : ℕ) → groups ≤ g → g < s.groups → at < s.base g

-- the last place of the path
abbrev pub last_of : PathState → ℕ
last_of s = s.stack (s.path (s.depth - 1))

-- no arc of it is left
abbrev pub IsFinished : (ℕ → ℕ → Bool) → (ℕ → ℕ → ℕ) → ℕ → PathState → Type 0
IsFinished arc turn n s = HaveHadTurns (arc (last_of s)) (turn (last_of s)) n (s.next (last_of s))

-- of the places of the stack those from position `at` on and before `to` are done, with the number `count`
pub record IsNumberedTo (s : PathState) (done : ℕ → Bool) (number : ℕ → ℕ) (at to : ℕ) : Type 0 where
  pub done_here : (p : ℕ) → at ≤ p → p < to → done (s.stack p) ≡ true
  pub number_here : (p : ℕ) → at ≤ p → p < to → number (s.stack p) ≡ s.count
  pub done_others : (y : ℕ) → ((p : ℕ) → at ≤ p → p < to → s.stack p ≢ y) → done y ≡ s.done y
  pub number_others : (y : ℕ) → ((p : ℕ) → at ≤ p → p < to → s.stack p ≢ y) → number y ≡ s.number y

abbrev pub IsNumbered : PathState → (ℕ → Bool) → (ℕ → ℕ) → ℕ → Type 0
IsNumbered s done number at = IsNumberedTo s done number at s.height

-- each place has the number of its component, below `count`, and components lead to others with lesser numbers alone
pub record IsNumbering (n : ℕ) (number : ℕ → ℕ) (count : ℕ) (strict : ℕ → ℕ → Bool) : Type 0 where
  pub fits : count ≤ n
  pub below : (x : ℕ) → x < n → number x < count
  pub member : (k : ℕ) → k < count → (x : ℕ) × (x < n) × (number x ≡ k)
  pub falls : (k l : ℕ) → k < count → l < n → strict k l ≡ true → l < k
  pub lower : (k l m : ℕ) → k < count → l < n → m < n → strict k l ≡ true → strict l m ≡ true → strict k m ≡ true

-- the numbers and the table tell what is reached
pub record IsQuotient (arc : ℕ → ℕ → Bool) (n : ℕ) (number : ℕ → ℕ) (count : ℕ) (strict : ℕ → ℕ → Bool) : Type 0 where
  pub numbering : IsNumbering n number count strict
  pub same : (x y : ℕ) → x < n → y < n → number x ≡ number y → Reaches arc n x y
  pub tells : (x y : ℕ) → x < n → y < n → strict (number x) (number y) ≡ true → Reaches arc n x y
  pub made : (x y : ℕ) → x < n → y < n → Reaches arc n x y → (number y ≡ number x)
      ⊎ (strict (number x) (number y) ≡ true)
