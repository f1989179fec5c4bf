-- What the arrays of a sweep mean.
use Rattle.std.specs.Prelude.{ℕ, ◌+◌, ◌≡◌, Bool, true, vec_len}
use Rattle.residue_theory.specs.Sets.{IsWithin}
use Rattle.residue_theory.specs.Sums.{size_on}
use Rattle.search_laws.specs.Outside.{IsReachedInVain}
use Rattle.exchange_graph.specs.Counts.{counted_on}
use Rattle.exchange_graph.specs.Marks.{members_of}
use Rattle.exchange_graph.specs.Scans as scan
use Rattle.exchange_graph.specs.Sweeps.{IsShortestFromOne}
use Rattle.exchange_graph.specs.declared.sweep.Sweep.{Sweep}

-- how many places there are
abbrev pub sweep_places : Sweep → ℕ
sweep_places s = scan.scan_places s.scan

-- what is left out
abbrev pub left_by : Sweep → ℕ → Bool
left_by s = members_of s.left.items

-- there is a mark for each place
pub record HasMarks (s : Sweep) : Type 0 where
  pub scan : scan.IsScan s.scan
  pub marks : vec_len s.left ≡ sweep_places s

-- what is left out was reached in vain, by one look at each place of it that was not left out before
pub record IsSweeping (arc : ℕ → ℕ → Bool) (n : ℕ) (starts ends before : ℕ → Bool) (s : Sweep) : Type 0 where
  pub stored : HasMarks s
  pub places : sweep_places s ≡ n
  pub vain : IsReachedInVain arc n starts ends (left_by s)
  pub kept : IsWithin n before (left_by s)
  pub size : size_on (left_by s) n ≡ size_on before n + s.scan.looks

-- a walk of k arcs to an end was found, a shortest one from this start, and what is left out stays
pub record HasFoundFrom (arc : ℕ → ℕ → Bool) (n : ℕ) (starts ends : ℕ → Bool) (start : ℕ) (old now : Sweep)
    (k : ℕ) : Type 0 where
  pub found : IsShortestFromOne arc n starts ends (scan.walk_of now.scan) k
  pub first : scan.walk_of now.scan 0 ≡ start
  pub left : now.left ≡ old.left

-- no walk is found from this place: it is left out now if it is a start, and so is what it reaches
pub record HasPassed (arc : ℕ → ℕ → Bool) (n : ℕ) (starts ends : ℕ → Bool) (start : ℕ) (old now : Sweep)
    : Type 0 where
  pub sweeping : (before : ℕ → Bool) → IsSweeping arc n starts ends before old →
      IsSweeping arc n starts ends before now
  pub held : starts start ≡ true → left_by now start ≡ true
  pub walk : now.scan.walk ≡ old.scan.walk

-- what is left out has grown, and the looks are counted on: as many steps, from `before` to `after`, and counted with
-- all looks. The start that comes next stays
pub record HasSweptOn (old now : Sweep) (before after : ℕ) : Type 0 where
  pub grown : IsWithin (sweep_places old) (left_by old) (left_by now)
  pub told : after + old.scan.looks ≡ before + now.scan.looks
  pub all_looks : (first : ℕ) → old.scan.all_looks ≡ counted_on first old.scan.looks →
      now.scan.all_looks ≡ counted_on first now.scan.looks
  pub next : now.next ≡ old.next
  pub places : sweep_places now ≡ sweep_places old
