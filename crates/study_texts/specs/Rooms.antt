-- How many bytes a text that tells of a model has at most.
use Rattle.std.specs.Prelude.{ℕ, ◌+◌, ◌*◌}

-- room for what solving a model tells that has at most k unknowns and n columns, over a field whose modulus has at most
-- so many digits: a line for each unknown, of a name of at most 96 bytes and a number; or a block's number, and its
-- columns, each of at most 98 bytes
abbrev pub solution_room : ℕ → ℕ → ℕ → ℕ
solution_room digits k n = 48 + (106 + digits) * k + 98 * n

-- room for the conflict sets of a model of at most k equations: a line for each, of at most k + 1 names
abbrev pub conflict_room : ℕ → ℕ
conflict_room k = 17 + 107 * k + 97 * (k * k)

-- room for the rank of a model of at most k equations and k unknowns, and a value for each symbol, over a field whose
-- modulus has at most so many digits: a line for each place, of two names of at most 96 bytes and a number
abbrev pub values_room : ℕ → ℕ → ℕ
values_room digits k = 10 + (201 + digits) * (k * k)
