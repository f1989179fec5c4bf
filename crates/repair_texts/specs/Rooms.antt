-- How many bytes the text of a repair has at most.
use Rattle.std.specs.Prelude.{ℕ, ◌+◌, ◌*◌}
use Rattle.cert_text.specs.declared.version.Version.TheVariants.{One}
use Rattle.text_lengths.specs.Rooms.{certificate_room}

-- room for a repair of a model of at most k equations, whose layered matrices have at most k rows of each kind and n
-- columns, over a field whose modulus has at most so many digits: a line for what it costs and one for how many are
-- kept, a line for each equation, of a name of at most 96 bytes and a cost, and for each of at most 16 levels a line
-- and a form, and one form more; a form takes no more than the certificate of an empty input
abbrev pub repair_room : ℕ → ℕ → ℕ → ℕ
repair_room digits k n = 447 + 112 * k + 17 * certificate_room One digits 0 k n
