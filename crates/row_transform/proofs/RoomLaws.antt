-- How room grows.
use Rattle.std.proofs.Common.{ℕ, ◌+◌, ◌/◌, ◌≤◌, Bool, true, false, cond, leb, max, min, arith}
use Rattle.limits.specs.Limits.{column_limit, grown}

chosen : (b : Bool) (had asked more : ℕ) → had ≤ column_limit → asked ≤ column_limit →
    cond b had (max asked (min more column_limit)) ≤ column_limit
chosen true had asked more few wanted = few
chosen false had asked more few wanted = omega (arith, few, wanted)

pub grown-few : (had asked : ℕ) → had ≤ column_limit → asked ≤ column_limit → grown had asked ≤ column_limit
grown-few had asked few wanted = chosen (leb asked had) had asked (had + had / 8) few wanted
