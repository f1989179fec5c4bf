-- What a certificate says: of its input, and of a layered matrix. Rows, columns and blocks are counted from 0.
use Rattle.std.specs.Prelude.{ℕ, List, map}
use Rattle.cert_text.specs.declared.kind.Kind.{Kind}
use Rattle.cert_text.specs.declared.shape.Shape.{Shape}
use Rattle.cert_text.specs.declared.version.Version.{Version}
use Rattle.cert_text.specs.declared.part.CcfPart.{CcfPart}
use Rattle.cert_text.specs.declared.part.CcfBlock.{CcfBlock}

-- base: Q rows and their columns; mates: T rows and their columns; s, u, p: for each Q row the columns and numbers of
-- its entries; t: for each T row the columns of its symbols; the parts: the first tail, the blocks, the last tail
pub record Contents : Type 0 where
  pub shape : Shape
  pub rank : ℕ
  pub base : List (ℕ × ℕ)
  pub mates : List (ℕ × ℕ)
  pub s : List (List (ℕ × ℕ))
  pub u : List (List (ℕ × ℕ))
  pub p : List (List (ℕ × ℕ))
  pub t : List (List ℕ)
  pub first : CcfPart
  pub blocks : List CcfBlock
  pub last : CcfPart

-- a certificate: the layout of its text, the modulus of its values, the kind of an input, its bytes, and the form
pub record Certificate : Type 0 where
  pub version : Version
  pub modulus : ℕ
  pub kind : Kind
  pub echo : List ℕ
  pub ccf : Contents

-- a row of entries, each value by its number
abbrev pub numbered : {T : Type 0} → (T → ℕ) → List (ℕ × T) → List (ℕ × ℕ)
numbered number entries = map (λ entry. (entry.0, number entry.1)) entries

-- rows of entries, each value by its number
abbrev pub numbered_rows : {T : Type 0} → (T → ℕ) → List (List (ℕ × T)) → List (List (ℕ × ℕ))
numbered_rows number rows = map (numbered number) rows

-- the lines of a form whose entries are values, each seen by its number
abbrev pub contents_of : {T : Type 0} → (T → ℕ) → Shape → ℕ → List (ℕ × ℕ) → List (ℕ × ℕ) →
    List (List (ℕ × T)) → List (List (ℕ × T)) → List (List (ℕ × T)) → List (List ℕ) →
    CcfPart → List CcfBlock → CcfPart → Contents
contents_of number shape rank base mates s u p t first blocks last = record {
  shape = shape;
  rank = rank;
  base = base;
  mates = mates;
  s = numbered_rows number s;
  u = numbered_rows number u;
  p = numbered_rows number p;
  t = t;
  first = first;
  blocks = blocks;
  last = last;
}
