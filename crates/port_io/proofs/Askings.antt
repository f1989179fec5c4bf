-- What reads ask for, one after the other.
use Rattle.std.proofs.Common.{ℕ, ◌+◌, ◌-◌, ◌≤◌, arith}
use Rattle.port_io.specs.Asking.{AsksWithin}
use Rattle.port_io.specs.declared.asking.Asked.{Asked}

pub none_asked : (once all : ℕ) (a : Asked) → AsksWithin once all a a
none_asked once all a = record { longest = omega arith; furthest = omega arith }

-- so far so many bytes were taken, and what is asked for now ends within the next `all`
pub asks_on : (once all so_far : ℕ) (a b c : Asked) → AsksWithin once all a b → b.taken ≤ a.taken + so_far → so_far ≤ all →
    AsksWithin once (all - so_far) b c → AsksWithin once all a c
asks_on once all so_far a b c before taken within now =
    record {
      longest = omega (arith, before.longest, now.longest);
      furthest = omega (arith, before.furthest, now.furthest);
    }
