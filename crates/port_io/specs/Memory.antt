-- A source and a sink in memory, as contracts see them, and what each of their calls does.
-- Calls are counted from 1, a flush among them; `fails` lists the numbers of the calls that fail.
use Rattle.std.specs.Prelude.{◌≡◌, ◌⊎◌, ℕ, ◌+◌, ◌-◌, ◌≤◌, ◌<◌, List, [], ◌++◌, length, take, drop, Bool, true, false, cond}
use Rattle.std.specs.Prelude.{◌==◌, min, Contains, Result, Ok, Err}
use Rattle.port_io.specs.Causes.{one_more}
use Rattle.port_io.specs.Asking.{asked_for, gave}
use Rattle.port_io.specs.declared.asking.Asked.{Asked}

pub record MemorySource : Type 0 where
  pub left : List ℕ
  pub most : ℕ
  pub asked : Asked
  pub calls : ℕ
  pub fails : List ℕ
  pub faults : ℕ

pub record MemorySink : Type 0 where
  pub written : List ℕ
  pub most : ℕ
  pub room : ℕ
  pub flushed : Bool
  pub flushes : ℕ
  pub calls : ℕ
  pub fails : List ℕ
  pub faults : ℕ
  pub failed : Bool

-- a read fails exactly where its number is listed, and takes what the buffer, `most` and the end allow
abbrev pub ReadsMemory : {E : Type 0} → MemorySource → ℕ → Result ℕ E → MemorySource → Type 0
ReadsMemory before space (Err e) after =
    Contains before.fails (one_more before.calls)
    × (after ≡ record before {
      asked = asked_for before.asked space;
      calls = one_more before.calls;
      faults = one_more before.faults;
    })
ReadsMemory before space (Ok n) after =
    ¬ Contains before.fails (one_more before.calls)
    × (n ≡ min space (min before.most (length before.left)))
    × (after ≡ record before {
      left = drop n before.left;
      asked = gave (asked_for before.asked space) n;
      calls = one_more before.calls;
    })

-- no room is left
abbrev pub IsFull : MemorySink → Type 0
IsFull sink = sink.room ≤ length sink.written

-- a write fails exactly where its number is listed, or the piece is not empty and no room is left;
-- it appends what `most` and the room allow
abbrev pub WritesMemory : {E : Type 0} → MemorySink → List ℕ → Result ℕ E → MemorySink → Type 0
WritesMemory before piece (Err e) after =
    (Contains before.fails (one_more before.calls) ⊎ ((0 < length piece) × IsFull before))
    × (after ≡ record before {
      calls = one_more before.calls;
      faults = one_more before.faults;
      failed = true;
    })
WritesMemory before piece (Ok n) after =
    ¬ Contains before.fails (one_more before.calls)
    × (n ≡ min (length piece) (min before.most (before.room - length before.written)))
    × (after ≡ record before {
      written = before.written ++ take n piece;
      flushed = cond (n == 0) before.flushed false;
      calls = one_more before.calls;
      failed = false;
    })

-- a flush fails exactly where its number is listed
abbrev pub FlushesMemory : {T E : Type 0} → MemorySink → Result T E → MemorySink → Type 0
FlushesMemory before (Err e) after =
    Contains before.fails (one_more before.calls)
    × (after ≡ record before {
      flushes = one_more before.flushes;
      calls = one_more before.calls;
      faults = one_more before.faults;
      failed = true;
    })
FlushesMemory before (Ok v) after =
    ¬ Contains before.fails (one_more before.calls)
    × (after ≡ record before {
      flushed = true;
      flushes = one_more before.flushes;
      calls = one_more before.calls;
      failed = false;
    })

-- no call is to fail, and there is room for so many bytes more
pub record TakesMore (sink : MemorySink) (more : ℕ) : Type 0 where
  pub none : sink.fails ≡ []
  pub room : length sink.written + more ≤ sink.room
