-- What places, reasons and refusals print.
use Rattle.std.specs.Prelude.{ℕ, List, [], ◌∷◌, ◌++◌, Option, Some, None, codes}
use Rattle.std.specs.Fmt.{decimal}
use Rattle.refusals.specs.declared.Place.{Place}
use Rattle.refusals.specs.declared.Place.TheVariants.{Line, Document, Component, Stream, Unit as Unit_of}
use Rattle.refusals.specs.declared.Why.{Why}
use Rattle.refusals.specs.declared.Why.TheVariants.{
  BadByte,
  BadWord,
  BadShape,
  BadName,
  BadNumber,
  Vanish,
  Twice,
  TooMany,
  Unsupported,
  NoGround,
  NoSuchSource,
  NotToml,
  BadVersion,
  UnknownKey,
  Missing,
  BadValue,
  BadKind,
  Undeclared,
}
use Rattle.refusals.specs.declared.Refused.{Refused}

-- the word for a place
abbrev pub place_word : Place → List ℕ
place_word (Line k) = codes "line"
place_word Document = codes "document"
place_word (Component k) = codes "component"
place_word (Stream k) = codes "stream"
place_word (Unit_of k) = codes "unit"

-- the number of a place, where it has one
abbrev pub place_number : Place → Option ℕ
place_number (Line k) = Some k
place_number Document = None
place_number (Component k) = Some k
place_number (Stream k) = Some k
place_number (Unit_of k) = Some k

-- a number behind a space, where there is one
abbrev pub place_number_text : Option ℕ → List ℕ
place_number_text None = []
place_number_text (Some k) = 32 ∷ decimal k

-- a place, with its number where it has one
abbrev pub place_text : Place → List ℕ
place_text place = place_word place ++ place_number_text (place_number place)

-- the words for a reason
abbrev pub why_text : Why → List ℕ
why_text BadByte = codes "bad byte"
why_text BadWord = codes "bad word"
why_text BadShape = codes "bad shape"
why_text BadName = codes "bad name"
why_text BadNumber = codes "bad number"
why_text Vanish = codes "vanishes in the field"
why_text Twice = codes "twice"
why_text TooMany = codes "too many"
why_text Unsupported = codes "unsupported"
why_text NoGround = codes "no ground"
why_text NoSuchSource = codes "no such source"
why_text NotToml = codes "not TOML"
why_text BadVersion = codes "bad version"
why_text UnknownKey = codes "unknown key"
why_text Missing = codes "missing key"
why_text BadValue = codes "bad value"
why_text BadKind = codes "bad kind"
why_text Undeclared = codes "undeclared"

-- the place, a colon and the reason
abbrev pub refusal_text : Refused → List ℕ
refusal_text refused = place_text refused.place ++ codes ": " ++ why_text refused.why
