-- How many bytes a text that tells of a model has at most.
use Rattle.std.specs.Prelude.{ℕ, ◌+◌, ◌*◌}

-- room for a layer text of at most k rows of each kind and k columns: a line has a name of at most 96 bytes and k
-- items: one of a value takes at most 7 bytes and its digits, of which there are at most so many, and any other 6
abbrev pub layer_room : ℕ → ℕ → ℕ
layer_room digits k = 14 + 313 * k + (13 + digits) * (k * k)

-- room for the text of a report on a model of at most k equations and k unknowns: three lines of numbers, and at most
-- 2 k lines of names of at most 96 bytes
abbrev pub report_room : ℕ → ℕ
report_room k = 72 + 220 * k

-- room for the text of a plan of the rows of a form, of each kind at most m, in at most k columns: a name takes at most
-- 97 bytes behind a space, a term of a row 98 and the digits of its coefficient, of which there are at most so many. Of
-- at most k + 2 steps each has three lines besides those of its rows, and uses at most k columns; each column stands in
-- one step, and each row, with at most m terms, in one
abbrev pub plan_room : ℕ → ℕ → ℕ → ℕ
plan_room digits m k = 60 + 324 * k + 104 * m + (98 + digits) * (m * m) + 98 * (k * k)

-- room for the text about a made model: 53 bytes besides its ten numbers, each of at most five digits behind a space
abbrev pub made_room : ℕ
made_room = 113
