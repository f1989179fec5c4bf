-- Worked examples of flowsheets: their texts, and what they are read as.
use Rattle.std.specs.Prelude.{◌≡◌, ℕ, ◌-◌, List, [], ◌∷◌, ◌++◌, codes, Some, Ok, Err}
use Rattle.refusals.specs.declared.Place.{Place}
use Rattle.refusals.specs.declared.Why.{Why}
use Rattle.toml.specs.Data.{Members}
use Rattle.toml.specs.Parse.{parse_document}
use Rattle.term_model.specs.Terms.{constant, symbol}
use Rattle.unit_equations.specs.declared.version.Version.TheVariants.{One, Two}
use Rattle.flowsheet_reader.specs.Models.{sheet_in}
use Rattle.flowsheet_reader.specs.Sheets.{Sheet}

-- a text is a document, of this flowsheet
abbrev pub ReadsAs : ℕ → List ℕ → Sheet → Type 0
ReadsAs p text sheet =
    (document : Members) × (parse_document text ≡ Some document) × (sheet_in p document ≡ Ok sheet)

-- a text is a document, whose first broken rule this is
abbrev pub IsRefusedFor : ℕ → List ℕ → Place → Why → Type 0
IsRefusedFor p text place why =
    (document : Members) × (parse_document text ≡ Some document)
    × (sheet_in p document ≡ Err (record { place = place; why = why }))

-- a feed that a separator splits
abbrev pub separator_text : List ℕ
separator_text =
    codes "components = [\"A\"]\nstreams = [\"s1\", \"s2\", \"s3\"]\n"
    ++ codes "[[unit]]\nname = \"F\"\nkind = \"spec\"\nstream = \"s1\"\ncomponent = \"A\"\n"
    ++ codes "[[unit]]\nname = \"S\"\nkind = \"separator\"\ninlet = \"s1\"\ntop = \"s2\"\nbottom = \"s3\"\n"

abbrev pub separator_sheet : ℕ → Sheet
separator_sheet p = record {
  version = One;
  components = codes "A" ∷ [];
  streams = codes "s1" ∷ codes "s2" ∷ codes "s3" ∷ [];
  units = codes "F" ∷ codes "S" ∷ [];
  system = record {
    equations = codes "spec.F" ∷ codes "bal.S.A" ∷ codes "split.S.A" ∷ [];
    unknowns = codes "f.s1.A" ∷ codes "f.s2.A" ∷ codes "f.s3.A" ∷ [];
    terms =
        constant (codes "spec.F") (codes "f.s1.A") 1
        ∷ constant (codes "bal.S.A") (codes "f.s1.A") 1
        ∷ constant (codes "bal.S.A") (codes "f.s2.A") (p - 1)
        ∷ constant (codes "bal.S.A") (codes "f.s3.A") (p - 1)
        ∷ symbol (codes "split.S.A") (codes "f.s1.A")
        ∷ symbol (codes "split.S.A") (codes "f.s2.A") ∷ [];
  };
}

-- a tee with three outlets in version 2, with these fractions as the text has them
abbrev pub tee_text : List ℕ → List ℕ
tee_text fractions =
    codes "version = 2\ncomponents = [\"A\"]\nstreams = [\"s1\", \"s2\", \"s3\", \"s4\"]\n"
    ++ codes "[[unit]]\nname = \"T\"\nkind = \"tee\"\ninlet = \"s1\"\noutlets = [\"s2\", \"s3\", \"s4\"]\n"
    ++ codes "fractions = [" ++ fractions ++ codes "]\n"

-- and what it is read as, modulo 65,521, where the fractions are 1/2 and 1/3
abbrev pub tee_sheet : Sheet
tee_sheet = record {
  version = Two;
  components = codes "A" ∷ [];
  streams = codes "s1" ∷ codes "s2" ∷ codes "s3" ∷ codes "s4" ∷ [];
  units = codes "T" ∷ [];
  system = record {
    equations = codes "bal.T.A" ∷ codes "tee.T.A.1" ∷ codes "tee.T.A.2" ∷ [];
    unknowns = codes "f.s1.A" ∷ codes "f.s2.A" ∷ codes "f.s3.A" ∷ codes "f.s4.A" ∷ [];
    terms =
        constant (codes "bal.T.A") (codes "f.s1.A") 1
        ∷ constant (codes "bal.T.A") (codes "f.s2.A") 65520
        ∷ constant (codes "bal.T.A") (codes "f.s3.A") 65520
        ∷ constant (codes "bal.T.A") (codes "f.s4.A") 65520
        ∷ constant (codes "tee.T.A.1") (codes "f.s2.A") 1
        ∷ constant (codes "tee.T.A.1") (codes "f.s1.A") 32760
        ∷ constant (codes "tee.T.A.2") (codes "f.s3.A") 1
        ∷ constant (codes "tee.T.A.2") (codes "f.s1.A") 21840 ∷ [];
  };
}
