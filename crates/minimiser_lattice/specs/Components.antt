-- What the arrays of the components mean.
use Rattle.std.specs.Prelude.{ℕ, ◌≡◌, ◌≢◌, ◌⊎◌, ◌||◌, nat_eq, Bool, true, vec_len, slice_index}
use Rattle.exchange_graph.specs.Marks.{members_of}
use Rattle.bit_table.specs.Bits.{IsBitSet, IsJoined, bit_in}
use Rattle.minimiser_lattice.specs.Paths.{PathState}
use Rattle.minimiser_lattice.specs.declared.components.Components.{Components}

-- how many places there are
abbrev pub component_places : Components → ℕ
component_places c = vec_len c.seen

-- the number of a place's component
abbrev pub component_number : Components → ℕ → ℕ
component_number c y = slice_index c.number.items y

abbrev pub path_state : Components → PathState
path_state c = record {
  seen = members_of c.seen.items;
  done = members_of c.done.items;
  number = λ y. slice_index c.number.items y;
  position = λ y. slice_index c.position.items y;
  next = λ y. slice_index c.next.items y;
  stack = λ i. slice_index c.stack.items i;
  base = λ g. slice_index c.base.items g;
  path = λ d. slice_index c.path.items d;
  strict = bit_in c.strict;
  height = c.height;
  groups = c.groups;
  depth = c.depth;
  count = c.count;
}

-- each array has an item for each place, and the table a row
pub record HasArrays (c : Components) : Type 0 where
  pub done : vec_len c.done ≡ component_places c
  pub number : vec_len c.number ≡ component_places c
  pub position : vec_len c.position ≡ component_places c
  pub next : vec_len c.next ≡ component_places c
  pub stack : vec_len c.stack ≡ component_places c
  pub base : vec_len c.base ≡ component_places c
  pub path : vec_len c.path ≡ component_places c
  pub rows : c.strict.rows ≡ component_places c
  pub size : c.strict.size ≡ component_places c

-- whether component k is l, or leads to it
abbrev pub leads_in : (ℕ → ℕ → Bool) → ℕ → ℕ → Bool
leads_in strict k l = nat_eq k l || strict k l

-- row `own` leads to `other`: nothing is to be done, or it gets the row of `other`, and `other` itself
abbrev pub IsRowLed : (ℕ → ℕ → Bool) → (ℕ → ℕ → Bool) → ℕ → ℕ → ℕ → Type 0
IsRowLed before now n own other =
    (((other ≡ own) ⊎ (before own other ≡ true)) × (now ≡ before))
    ⊎ ((other ≢ own) × ((joined : ℕ → ℕ → Bool) × IsJoined before joined (before other) n own
    × IsBitSet joined now n own other))
