-- Refusals of a text that stands behind some lines.
use Rattle.std.specs.Prelude.{ℕ, ◌+◌}
use Rattle.refusals.specs.declared.Place.{Place}
use Rattle.refusals.specs.declared.Place.TheVariants.{Component, Document, Line, Stream, Unit as Unit_of}
use Rattle.refusals.specs.declared.Refused.{Refused}

-- a place of a text behind n lines: a line is counted on from them, another place stays
abbrev pub place_behind : ℕ → Place → Place
place_behind n (Line k) = Line (k + n)
place_behind n Document = Document
place_behind n (Component k) = Component k
place_behind n (Stream k) = Stream k
place_behind n (Unit_of k) = Unit_of k

-- the line of a place, and 0 where it is none
abbrev pub line_number : Place → ℕ
line_number (Line k) = k
line_number Document = 0
line_number (Component k) = 0
line_number (Stream k) = 0
line_number (Unit_of k) = 0

-- and the refusal at it
abbrev pub refused_behind : ℕ → Refused → Refused
refused_behind n refused = record { place = place_behind n refused.place; why = refused.why }
