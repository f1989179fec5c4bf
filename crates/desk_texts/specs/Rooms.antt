-- How many bytes a desk prints of a text at most.
use Rattle.std.specs.Prelude.{ℕ, ◌+◌, ◌*◌, min}
use Rattle.limits.specs.Limits.{column_limit}

-- room for what is told of a model whose layered matrix has at most k columns, and for any other reply: a column has a
-- name of at most 97 bytes behind a space, and stands in one line; of at most k blocks each has a line with 14 bytes
-- besides; and the lower blocks of all blocks are fewer than half of k * k, each a number of at most four digits behind
-- a space
abbrev pub parts_room : ℕ → ℕ
parts_room k = 30 + 112 * k + 3 * (k * k)

-- how many columns the layered matrix of a model has at most that lines of n bytes make of an empty one
abbrev pub columns_said : ℕ → ℕ
columns_said n = min (2 * n) column_limit

-- room for what a desk prints of a text of n bytes, which has at most n lines
abbrev pub said_room : ℕ → ℕ
said_room n = n * parts_room (columns_said n)
