-- Pivots that were told, and the count that a tableau keeps of them.
use Rattle.std.proofs.Common.{◌≡◌, ◌+◌, ℕ, arith}
use Rattle.row_transform.specs.Bases.{raised}
use Rattle.independent_matching.specs.Engines.{ArePivotsMade}

-- a count that has risen twice
raised-twice : (count k l : ℕ) → raised (raised count k) l ≡ raised count (k + l)
raised-twice count k l = omega arith

pub none-made : (count told : ℕ) → ArePivotsMade count count told told
none-made count told = (0, omega arith, omega arith)

pub some-made : (count now before after k : ℕ) → after ≡ before + k → now ≡ raised count k → ArePivotsMade count now before after
some-made count now before after k told made = (k, told, made)

pub more-made : (count now next before between after : ℕ) → ArePivotsMade count now before between →
    ArePivotsMade now next between after → ArePivotsMade count next before after
more-made count now next before between after (k, e, h) (l, f, i) =
    (k + l, omega (arith, e, f), omega (arith, h, i, raised-twice count k l))
