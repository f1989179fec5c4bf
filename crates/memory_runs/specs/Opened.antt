-- A source and a sink in memory before the first call.
use Rattle.std.specs.Prelude.{ℕ, List, [], false}
use Rattle.port_io.specs.Asking.{nothing_asked}
use Rattle.port_io.specs.Memory.{MemorySink, MemorySource}

-- a source of these bytes that gives at most so many in one call
abbrev pub opened_source : List ℕ → ℕ → List ℕ → MemorySource
opened_source bytes step fails = record {
  left = bytes;
  most = step;
  asked = nothing_asked;
  calls = 0;
  fails = fails;
  faults = 0;
}

-- a sink with room for 9,000,000 bytes that takes at most so many in one call
abbrev pub opened_sink : ℕ → List ℕ → MemorySink
opened_sink most fails = record {
  written = [];
  most = most;
  room = 9000000;
  flushed = false;
  flushes = 0;
  calls = 0;
  fails = fails;
  faults = 0;
  failed = false;
}
