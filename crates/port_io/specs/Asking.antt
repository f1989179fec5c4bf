-- What a source was asked for, and how it answered.
use Rattle.std.specs.Prelude.{ℕ, ◌+◌, ◌≤◌, false, true, max, nat_eq, if◌then◌else◌, Result, Ok, Err}
use Rattle.port_io.specs.Causes.{one_more, shown}
use Rattle.port_io.specs.declared.asking.Asked.{Asked}

-- before the first read
abbrev pub nothing_asked : Asked
nothing_asked = record { taken = 0; longest = 0; furthest = 0; ends = 0; failed = false }

-- asked once more, for so many bytes: it fails unless it gives some
abbrev pub asked_for : Asked → ℕ → Asked
asked_for asked space =
    record {
      taken = asked.taken;
      longest = max asked.longest space;
      furthest = max asked.furthest (shown (asked.taken + space));
      ends = asked.ends;
      failed = true;
    }

-- it gave so many bytes: none at the end alone
abbrev pub gave : Asked → ℕ → Asked
gave asked count =
    record {
      taken = shown (asked.taken + count);
      longest = asked.longest;
      furthest = asked.furthest;
      ends = if nat_eq count 0 then one_more asked.ends else asked.ends;
      failed = false;
    }

-- what it gave at this answer: nothing where it failed
abbrev pub given : {E : Type 0} → Asked → Result ℕ E → Asked
given asked (Ok count) = gave asked count
given asked (Err e) = asked

-- no read asked for more than `once` bytes, and none beyond the next `all` bytes
pub record AsksWithin (once all : ℕ) (before after : Asked) : Type 0 where
  pub longest : after.longest ≤ max before.longest once
  pub furthest : after.furthest ≤ max before.furthest (before.taken + all)
