-- The whole of a certificate.
use Rattle.std.proofs.lemmas.List.{length-replicate}
use Rattle.std.proofs.Common.{replicate, ◌≡◌, ℕ, zero, suc, ◌+◌, ◌^◌, ◌<◌, ◌≤◌, List, [], ◌∷◌, ◌++◌, length, get_or}
use Rattle.std.proofs.Common.{Result, refl, sym, ap, subst, ◌∙◌, length-append, arith, ◌⊎◌, inl, inr}
use Rattle.std.specs.Prelude.{codes, decimal}
use Rattle.std.specs.List.{concat}
use Rattle.std.proofs.lemmas.List.Elements.{All-from_recursion, recursion_from_All}
use Rattle.limits.specs.Limits.{column_limit, input_limit}
use Rattle.cert_text.specs.Contents.{Certificate, Contents}
use Rattle.residue_field.specs.Modulus.{modulus_of}
use Rattle.residue_field.specs.declared.field_name.FieldName.TheVariants.{Large, Small}
use Rattle.cert_text.specs.Texts.{tail_line, entries_line, columns_line, kind_text, shape_text, pairs_text}
use Rattle.cert_text.specs.Ranges.{IsShape, AreRising, ArePairs, AreEntries, IsPrintedMatrix, IsPattern, IsPart, IsBlock, IsCcf}
use Rattle.cert_text.specs.declared.kind.Kind.{Kind}
use Rattle.cert_text.specs.declared.kind.Kind.TheVariants.{Matrix}
use Rattle.cert_text.specs.declared.shape.Shape.{Shape}
use Rattle.cert_text.specs.declared.part.CcfPart.{CcfPart}
use Rattle.cert_text.specs.declared.part.CcfBlock.{CcfBlock}
use Rattle.cert_text.specs.declared.version.Version.{Version}
use Rattle.cert_text.specs.declared.version.Version.TheVariants.{One, Two}
use Rattle.cert_reader.specs.Limits.{certificate_limit}
use Rattle.cert_reader.specs.CertLines.{row_lines, contents_lines, version_lines, body_lines, certificate_lines, IsCertificate}
use Rattle.cert_reader.specs.Fronts.{◌>>=◌}
use Rattle.cert_reader.specs.LineReading.{version_at, field_line_at, field_at, kind_at, echo_at, shape_at, pairs_line_at}
use Rattle.cert_reader.specs.LineReading.{entries_line_at, columns_line_at, tail_at}
use Rattle.cert_reader.specs.CertReading.{then_at, rows_at, all_blocks_at, parts_at, matrices_at, pieces_at, Matrices}
use Rattle.cert_reader.specs.CertReading.{Pieces, size_at, rank_at, contents_from, contents_at, body_at, field_count, certificate_at}
use Rattle.cert_reader.proofs.Spells.{Spells, Any}
use Rattle.cert_reader.proofs.LineKinds.{version_line, field_line, Spells-version, Spells-field_line, Spells-kind}
use Rattle.cert_reader.proofs.LineKinds.{Spells-count, Spells-echo, Spells-shape, Spells-pairs_line}
use Rattle.cert_reader.proofs.LineKinds.{Spells-entries_line, Spells-columns_line, Spells-tail}
use Rattle.cert_reader.proofs.Lines.{Reads, Reads-then, Reads-pair, Reads-map, Reads-line, Reads-nothing}
use Rattle.cert_reader.proofs.Rows.{Reads-same, AreRows, rows-some, Reads-rows, rows-to, rows-from, row_lines-count}
use Rattle.cert_reader.proofs.Blocks.{IsEmpty, AreBlocks, AreParts, parts_lines, Reads-blocks}
use Rattle.cert_reader.proofs.Empty.{no-numbers, no-entries, no-pairs, no_part, no_part-is, no_shape, no_shape-is}

abbrev pub Short : List ℕ → Type 0
Short bytes = length bytes ≤ certificate_limit

-- a reader to the end of the bytes, and a value that it takes
pub record Whole {B : Type 0} (F : B → Type 0) (lines : B → List (List ℕ)) (read : ℕ → List ℕ → Result (B × List ℕ) ℕ) : Type 0 where
  pub reads : Reads Short IsEmpty F lines read
  pub some : (b : B) × F b

shorter : (front rest : List ℕ) → Short (front ++ rest) → Short rest
shorter front rest short = omega (arith, short, length-append front rest)

Whole-pair : {A B : Type 0} {FA : A → Type 0} {FB : A → B → Type 0} {la : A → List (List ℕ)} {lb : A → B → List (List ℕ)} (n : ℕ)
    (p : ℕ → List ℕ → Result (A × List ℕ) ℕ) (q : A → ℕ → List ℕ → Result (B × List ℕ) ℕ) →
    Reads Any Any FA la p → (a : A) → FA a → ((a : A) → FA a → length (la a) ≡ n) → ((a : A) → FA a → Whole (FB a) (lb a) (q a)) →
    Whole (λ (x : A × B). FA x.0 × FB x.0 x.1) (λ x. la x.0 ++ lb x.0 x.1) (then_at n p q)
Whole-pair {A} {B} {FA} {FB} {la} {lb} n p q first a fit count second = record {
  reads = Reads-pair {OC = Short} {OB = Short} n p q first (λ a fit. (second a fit).reads) count
      (λ a fit. (second a fit).some) (λ a rest fit short. shorter (concat (la a)) rest short);
  some = (let b = (second a fit).some in ((a, b.0), (fit, b.1)));
}

rows-count : {A : Type 0} (F : A → Type 0) (text : ℕ → A → List ℕ) (count : ℕ) (xs : List A) → AreRows F count xs → length (row_lines text 1 xs) ≡ count
rows-count F text count xs are = row_lines-count text 1 xs ∙ (rows-to F count xs are).0

whole-blocks : (shape : Shape) → IsShape shape → Whole (AreParts shape 0) (parts_lines 1) (all_blocks_at shape)
whole-blocks shape is = record {
  reads = record {
    takes = λ line bytes x short e. (Reads-blocks shape (suc (length bytes)) 0 is (omega (arith, short))).takes line bytes x (omega arith) e;
    again = λ line x rest short fits ending. (Reads-blocks shape
        (suc (length (concat (parts_lines 1 x) ++ rest))) 0 is (omega (arith, short))).again line x rest
        (omega arith) fits ending;
    stops = λ line x rest short fits ending. (Reads-blocks shape
        (suc (length (concat (parts_lines 1 x) ++ rest))) 0 is (omega (arith, short))).stops line x rest
        (omega arith) fits ending;
    fails = λ line bytes l short e. (Reads-blocks shape (suc (length bytes)) 0 is (omega (arith, short))).fails line bytes l (omega arith) e;
  };
  some = (([], no_part), (tt, no_part-is shape));
}

whole-parts : (shape : Shape) → IsShape shape → Whole (λ (x : CcfPart × (List CcfBlock × CcfPart)). IsPart shape x.0
    × AreParts shape 0 x.1) (λ x. (tail_line (codes "first") x.0 ∷ []) ++ parts_lines 1 x.1) (parts_at shape)
whole-parts shape is = Whole-pair 1 (tail_at (codes "first") shape) (λ first. all_blocks_at shape)
    (Reads-line (tail_at (codes "first") shape) no_part (no_part-is shape)
    (Spells-tail (codes "first") shape is)) no_part (no_part-is shape) (λ a fit. refl)
    (λ a fit. whole-blocks shape is)

Whole-rows : {A B : Type 0} {F : A → Type 0} {FB : B → Type 0} {lb : B → List (List ℕ)} (text : ℕ → A → List ℕ)
    (row : ℕ → ℕ → List ℕ → Result (A × List ℕ) ℕ) (a : A) → F a →
    ((number : ℕ) → Spells Any F (text number) (row number)) →
    (count : ℕ) (q : ℕ → List ℕ → Result (B × List ℕ) ℕ) → Whole FB lb q →
    Whole (λ (x : List A × B). AreRows F count x.0 × FB x.1) (λ x. row_lines text 1 x.0 ++ lb x.1)
    (then_at count (rows_at row count 1) (λ xs. q))
Whole-rows {A} {B} {F} {FB} {lb} text row a fit spells count q whole =
    (let none = rows-some F count a fit in Whole-pair {FB = λ xs. FB} {lb = λ xs. lb} count (rows_at row count 1)
    (λ xs. q) (Reads-rows text row a fit spells count 1) none.0 none.1
    (λ xs are. rows-count F text count xs are) (λ xs are. whole))

-- the matrices and the parts
abbrev AreMatrices : ℕ → Shape → Matrices → Type 0
AreMatrices modulus shape x =
    AreRows (AreEntries modulus shape.q_rows) shape.q_rows x.0
    × (AreRows (AreEntries modulus shape.q_rows) shape.q_rows x.1.0
    × (AreRows (AreEntries modulus shape.columns) shape.q_rows x.1.1.0 ×
    (AreRows (AreRising shape.columns) shape.t_rows x.1.1.1.0 × (IsPart shape x.1.1.1.1.0 × AreParts shape 0 x.1.1.1.1.1))))

abbrev matrices_lines : Matrices → List (List ℕ)
matrices_lines x =
    row_lines (entries_line (codes "S")) 1 x.0 ++ (row_lines (entries_line (codes "U")) 1 x.1.0 ++ (row_lines (entries_line (codes "P")) 1 x.1.1.0 ++
    (row_lines (columns_line (codes "T")) 1 x.1.1.1.0 ++ ((tail_line (codes "first") x.1.1.1.1.0 ∷ []) ++ parts_lines 1 x.1.1.1.1.1))))

whole-matrices : (modulus : ℕ) → modulus < 2 ^ 32 → (shape : Shape) → IsShape shape →
    Whole (AreMatrices modulus shape) matrices_lines (matrices_at modulus shape)
whole-matrices modulus small shape is =
    let q : shape.q_rows < 10 ^ 10 = omega (arith, is.q_rows) in
    let n : shape.columns < 10 ^ 10 = omega (arith, is.columns) in
    Whole-rows (entries_line (codes "S")) (entries_line_at modulus (codes "S") shape.q_rows) []
    (no-entries modulus shape.q_rows) (λ number. Spells-entries_line modulus
    (codes "S") shape.q_rows number small q) shape.q_rows _
    (Whole-rows (entries_line (codes "U")) (entries_line_at modulus (codes "U") shape.q_rows) []
    (no-entries modulus shape.q_rows) (λ number. Spells-entries_line modulus
    (codes "U") shape.q_rows number small q) shape.q_rows _
    (Whole-rows (entries_line (codes "P")) (entries_line_at modulus (codes "P") shape.columns) []
    (no-entries modulus shape.columns) (λ number. Spells-entries_line modulus
    (codes "P") shape.columns number small n) shape.q_rows _
    (Whole-rows (columns_line (codes "T")) (columns_line_at (codes "T") shape.columns) [] (no-numbers shape.columns)
    (λ number. Spells-columns_line (codes "T") shape.columns number n) shape.t_rows _
    (whole-parts shape is))))

Whole-line : {A B : Type 0} {F : A → Type 0} {FB : B → Type 0} {text : A → List ℕ} {lb : B → List (List ℕ)} (p : ℕ →
    List ℕ → Result (A × List ℕ) ℕ) (a : A) → F a → Spells Any F text p →
    (q : ℕ → List ℕ → Result (B × List ℕ) ℕ) → Whole FB lb q → Whole (λ (x : A × B). F x.0 × FB x.1) (λ x. (text x.0 ∷ []) ++ lb x.1) (then_at 1 p (λ x. q))
Whole-line {A} {B} {F} {FB} {text} {lb} p a fit spells q whole =
    Whole-pair {FB = λ x. FB} {lb = λ x. lb} 1 p (λ x. q) (Reads-line p a fit spells) a fit (λ x fits. refl) (λ x fits. whole)

abbrev ArePieces : ℕ → Shape → Pieces → Type 0
ArePieces modulus shape x = (x.0 ≤ column_limit) × (ArePairs shape.q_rows shape.columns x.1.0
    × (ArePairs shape.t_rows shape.columns x.1.1.0 × AreMatrices modulus shape x.1.1.1))

abbrev pieces_lines : Pieces → List (List ℕ)
pieces_lines x =
    ((codes "rank " ++ (decimal x.0 ++ codes "\n")) ∷ []) ++
    (((codes "base" ++ (pairs_text x.1.0 ++ codes "\n")) ∷ []) ++
    (((codes "match" ++ (pairs_text x.1.1.0 ++ codes "\n")) ∷ []) ++ matrices_lines x.1.1.1))

whole-pieces : (modulus : ℕ) → modulus < 2 ^ 32 → (shape : Shape) → IsShape shape → Whole (ArePieces modulus shape) pieces_lines (pieces_at modulus shape)
whole-pieces modulus small shape is =
    let q : shape.q_rows < 10 ^ 10 = omega (arith, is.q_rows) in
    let t : shape.t_rows < 10 ^ 10 = omega (arith, is.t_rows) in
    let n : shape.columns < 10 ^ 10 = omega (arith, is.columns) in
    Whole-line rank_at 0 (omega arith) (Spells-count (codes "rank ") column_limit (omega arith)) _
    (Whole-line (pairs_line_at (codes "base") shape.q_rows shape.columns) [] (no-pairs shape.q_rows shape.columns)
    (Spells-pairs_line (codes "base") shape.q_rows shape.columns q n) _
    (Whole-line (pairs_line_at (codes "match") shape.t_rows shape.columns) [] (no-pairs shape.t_rows shape.columns)
    (Spells-pairs_line (codes "match") shape.t_rows shape.columns t n) _
    (whole-matrices modulus small shape is)))

whole-both : (modulus : ℕ) → modulus < 2 ^ 32 → Whole (λ (x : Shape × Pieces). IsShape x.0
    × ArePieces modulus x.0 x.1) (λ x. (shape_text x.0 ∷ []) ++ pieces_lines x.1)
    (then_at 1 shape_at (pieces_at modulus))
whole-both modulus small = Whole-pair {FB = ArePieces modulus} {lb = λ shape. pieces_lines} 1 shape_at
    (pieces_at modulus) (Reads-line shape_at no_shape no_shape-is Spells-shape)
    no_shape no_shape-is (λ shape is. refl) (whole-pieces modulus small)

-- ---- the conditions of the contents

matrix-to : (modulus m n : ℕ) (rows : List (List (ℕ × ℕ))) → AreRows (AreEntries modulus n) m rows → IsPrintedMatrix modulus m n rows
matrix-to modulus m n rows are = (let h = rows-to (AreEntries modulus n) m rows are in
    record { count = h.0; entries = All-from_recursion (AreEntries modulus n) rows h.1 })

matrix-from : (modulus m n : ℕ) (rows : List (List (ℕ × ℕ))) → IsPrintedMatrix modulus m n rows → AreRows (AreEntries modulus n) m rows
matrix-from modulus m n rows is = rows-from (AreEntries modulus n) m rows is.count (recursion_from_All (AreEntries modulus n) rows is.entries)

pattern-to : (m n : ℕ) (rows : List (List ℕ)) → AreRows (AreRising n) m rows → IsPattern m n rows
pattern-to m n rows are = (let h = rows-to (AreRising n) m rows are in record { count = h.0; columns = All-from_recursion (AreRising n) rows h.1 })

pattern-from : (m n : ℕ) (rows : List (List ℕ)) → IsPattern m n rows → AreRows (AreRising n) m rows
pattern-from m n rows is = rows-from (AreRising n) m rows is.count (recursion_from_All (AreRising n) rows is.columns)

blocks-to : (shape : Shape) (j : ℕ) (blocks : List CcfBlock) → AreBlocks shape j blocks → (k : ℕ) (d : CcfBlock) →
    k < length blocks → IsBlock shape (j + k) (get_or blocks k d)
blocks-to shape j [] are k d less = absurd (omega (arith, less))
blocks-to shape j (b ∷ bs) are zero d less = subst (λ i. IsBlock shape i b) (let e : j ≡ j + 0 = omega arith in e) are.0
blocks-to shape j (b ∷ bs) are (suc k) d less = subst (λ i. IsBlock shape i (get_or bs k d))
    (let e : j + 1 + k ≡ j + suc k = omega arith in e) (blocks-to shape (j + 1) bs are.1 k d (omega (arith, less)))

blocks-from : (shape : Shape) (j : ℕ) (blocks : List CcfBlock) → ((k : ℕ) (d : CcfBlock) → k < length blocks →
    IsBlock shape (j + k) (get_or blocks k d)) → AreBlocks shape j blocks
blocks-from shape j [] each = tt
blocks-from shape j (b ∷ bs) each = (
  subst (λ i. IsBlock shape i b) (let e : j + 0 ≡ j = omega arith in e) (each 0 b (omega arith)),
  blocks-from shape (j + 1) bs (λ k d less. subst (λ i. IsBlock shape i (get_or bs k d))
      (let e : j + suc k ≡ j + 1 + k = omega arith in e) (each (suc k) d (omega (arith, less)))),
)

blocks-at-0 : (shape : Shape) (blocks : List CcfBlock) → AreBlocks shape 0 blocks → (k : ℕ) (d : CcfBlock) →
    k < length blocks → IsBlock shape k (get_or blocks k d)
blocks-at-0 shape blocks are k d less = subst (λ i. IsBlock shape i (get_or blocks k d)) (let e : 0 + k ≡ k =
    omega arith in e) (blocks-to shape 0 blocks are k d less)

blocks-of-0 : (shape : Shape) (blocks : List CcfBlock) → ((k : ℕ) (d : CcfBlock) → k < length blocks →
    IsBlock shape k (get_or blocks k d)) → AreBlocks shape 0 blocks
blocks-of-0 shape blocks each = blocks-from shape 0 blocks
    (λ k d less. subst (λ i. IsBlock shape i (get_or blocks k d)) (let e : k ≡ 0 + k = omega arith in e)
    (each k d less))

pieces_of : Contents → Shape × Pieces
pieces_of c = (c.shape, (c.rank, (c.base, (c.mates, (c.s, (c.u, (c.p, (c.t, (c.first, (c.blocks, c.last))))))))))

is-ccf : (modulus : ℕ) (x : Shape × Pieces) → IsShape x.0 → ArePieces modulus x.0 x.1 → IsCcf modulus (contents_from x)
is-ccf modulus x shape pieces = record {
  shape = shape;
  rank = pieces.0;
  base = pieces.1.0;
  mates = pieces.1.1.0;
  s = matrix-to modulus x.0.q_rows x.0.q_rows x.1.1.1.1.0 pieces.1.1.1.0;
  u = matrix-to modulus x.0.q_rows x.0.q_rows x.1.1.1.1.1.0 pieces.1.1.1.1.0;
  p = matrix-to modulus x.0.q_rows x.0.columns x.1.1.1.1.1.1.0 pieces.1.1.1.1.1.0;
  t = pattern-to x.0.t_rows x.0.columns x.1.1.1.1.1.1.1.0 pieces.1.1.1.1.1.1.0;
  first = pieces.1.1.1.1.1.1.1.0;
  blocks = blocks-at-0 x.0 x.1.1.1.1.1.1.1.1.1.0 pieces.1.1.1.1.1.1.1.1.0;
  last = pieces.1.1.1.1.1.1.1.1.1;
}

are-pieces : (modulus : ℕ) (c : Contents) → IsCcf modulus c →
    ArePieces modulus c.shape (c.rank, (c.base, (c.mates, (c.s, (c.u, (c.p, (c.t, (c.first, (c.blocks, c.last)))))))))
are-pieces modulus c is = (
  is.rank,
  (
    is.base,
    (
      is.mates,
      (
        matrix-from modulus c.shape.q_rows c.shape.q_rows c.s is.s,
        (
          matrix-from modulus c.shape.q_rows c.shape.q_rows c.u is.u,
          (
            matrix-from modulus c.shape.q_rows c.shape.columns c.p is.p,
            (pattern-from c.shape.t_rows c.shape.columns c.t is.t, (is.first, (blocks-of-0 c.shape c.blocks is.blocks, is.last))),
          ),
        ),
      ),
    ),
  ),
)

pub whole-contents : (modulus : ℕ) → modulus < 2 ^ 32 → Whole (IsCcf modulus) contents_lines (contents_at modulus)
unfolding contents_at pieces_of
whole-contents modulus small =
    let both = whole-both modulus small in
    record {
      reads = Reads-same (Reads-map {G = IsCcf modulus}
          (then_at 1 shape_at (pieces_at modulus)) contents_from pieces_of both.reads
          (λ x fits. (is-ccf modulus x fits.0 fits.1, refl)) (λ c is. ((is.shape, are-pieces modulus c is), refl)))
          (λ c is. (is, refl)) (λ c is. is);
      some = (contents_from both.some.0, is-ccf modulus both.some.0 both.some.1.0 both.some.1.1);
    }

-- ---- the certificate

abbrev Body : Type 0
Body = Kind × (ℕ × (List ℕ × Contents))

whole-sized : (modulus : ℕ) → modulus < 2 ^ 32 → Whole (λ (x : ℕ × (List ℕ × Contents)). (x.0 ≤ input_limit)
    × ((length x.1.0 ≡ x.0) × IsCcf modulus x.1.1)) (λ x. ((codes "length " ++ (decimal x.0 ++ codes "\n")) ∷ []) ++
    (((x.1.0 ++ codes "\n") ∷ []) ++ contents_lines x.1.1))
    (then_at 1 size_at (λ size. then_at 1 (echo_at size) (λ echo. contents_at modulus)))
whole-sized modulus small = Whole-pair {FA = λ n. n ≤ input_limit} {FB = λ size (y : List ℕ × Contents).
    (length y.0 ≡ size) × IsCcf modulus y.1} {lb = λ size y.
    ((y.0 ++ codes "\n") ∷ []) ++ contents_lines y.1} 1 size_at
    (λ size. then_at 1 (echo_at size) (λ echo. contents_at modulus))
    (Reads-line size_at 0 (omega arith) (Spells-count (codes "length ") input_limit (omega arith))) 0 (omega arith) (λ size fit. refl)
    (λ size fit. Whole-line (echo_at size) (replicate size 0) (length-replicate size 0) (Spells-echo size) (contents_at modulus) (whole-contents modulus small))

whole-kind : (modulus : ℕ) → modulus < 2 ^ 32 → Whole (λ (x : Body). Unit {0}
    × ((x.1.0 ≤ input_limit) × ((length x.1.1.0 ≡ x.1.0) × IsCcf modulus x.1.1.1)))
    (λ x. ((codes "kind " ++ (kind_text x.0 ++ codes "\n")) ∷ []) ++
    (((codes "length " ++ (decimal x.1.0 ++ codes "\n")) ∷ []) ++
    (((x.1.1.0 ++ codes "\n") ∷ []) ++ contents_lines x.1.1.1)))
    (then_at 1 kind_at (λ kind. then_at 1 size_at (λ size. then_at 1 (echo_at size) (λ echo. contents_at modulus))))
whole-kind modulus small = Whole-line kind_at Matrix tt Spells-kind _ (whole-sized modulus small)

-- a certificate of this version and field
record IsBody (version : Version) (modulus : ℕ) (c : Certificate) : Type 0 where
  pub version_is : c.version ≡ version
  pub modulus_is : c.modulus ≡ modulus
  pub echo : length c.echo ≤ input_limit
  pub ccf : IsCcf modulus c.ccf

body_of : Certificate → Body
body_of c = (c.kind, (length c.echo, (c.echo, c.ccf)))

made : Version → ℕ → Body → Certificate
made version modulus x = record { version = version; modulus = modulus; kind = x.0; echo = x.1.1.0; ccf = x.1.1.1 }

whole-body : (version : Version) (modulus : ℕ) → modulus < 2 ^ 32 → Whole (IsBody version modulus) body_lines (body_at version modulus)
unfolding body_at body_of made
whole-body version modulus small =
    let whole = whole-kind modulus small in
    let x = whole.some in
    record {
      reads = Reads-same (Reads-map {G = IsBody version modulus}
          (then_at 1 kind_at (λ kind. then_at 1 size_at (λ size. then_at 1 (echo_at size) (λ echo. contents_at modulus))))
          (made version modulus) body_of whole.reads
          (λ x fits. (is x fits, ap (λ n. (x.0, (n, (x.1.1.0, x.1.1.1)))) fits.1.1.0))
          (λ c is. (
            (tt, (is.echo, (refl, is.ccf))),
            (λ i. record {
              version = sym is.version_is i;
              modulus = sym is.modulus_is i;
              kind = c.kind;
              echo = c.echo;
              ccf = c.ccf;
            }),
          )))
          (λ c is. (is, refl)) (λ c is. is);
      some = (made version modulus x.0, is x.0 x.1);
    }
  where
    is : (x : Body) → Unit {0} × ((x.1.0 ≤ input_limit) × ((length x.1.1.0 ≡ x.1.0) × IsCcf modulus x.1.1.1)) →
        IsBody version modulus (made version modulus x)
    is x fits = record {
      version_is = refl;
      modulus_is = refl;
      echo = subst (λ n. n ≤ input_limit) (sym fits.1.1.0) fits.1.0;
      ccf = fits.1.1.1;
    }

-- ---- the version and the field

abbrev pub IsFieldOf : Version → ℕ → Type 0
IsFieldOf One modulus = modulus ≡ modulus_of Small
IsFieldOf Two modulus = (modulus ≡ modulus_of Small) ⊎ (modulus ≡ modulus_of Large)

field_small : (version : Version) (modulus : ℕ) → IsFieldOf version modulus → modulus < 2 ^ 32
field_small One modulus is = omega (arith, is)
field_small Two modulus (inl is) = omega (arith, is)
field_small Two modulus (inr is) = omega (arith, is)

field_some : (version : Version) → IsFieldOf version (modulus_of Small)
field_some One = refl
field_some Two = inl refl

abbrev pub field_lines : Version → ℕ → List (List ℕ)
field_lines One modulus = []
field_lines Two modulus = field_line modulus ∷ []

field_lines-count : (version : Version) (modulus : ℕ) → length (field_lines version modulus) ≡ field_count version
field_lines-count One modulus = refl
field_lines-count Two modulus = refl

split : (version : Version) (modulus : ℕ) (others : List (List ℕ)) →
    version_lines version modulus ++ others ≡ (version_line version ∷ []) ++ (field_lines version modulus ++ others)
split One modulus others = refl
split Two modulus others = refl

pub Reads-field : (version : Version) → Reads Any Any (IsFieldOf version) (field_lines version) (field_at version)
unfolding field_at
Reads-field One = Reads-nothing (modulus_of Small)
Reads-field Two = Reads-line field_line_at (modulus_of Small) (inl refl) Spells-field_line

-- a certificate of this version
record IsOf (version : Version) (c : Certificate) : Type 0 where
  pub version_is : c.version ≡ version
  pub is : IsCertificate c

field_of : (version : Version) (c : Certificate) → IsOf version c → IsFieldOf version c.modulus
field_of One c of = of.is.version of.version_is
field_of Two c of = of.is.field

of-body : (version : Version) (modulus : ℕ) (c : Certificate) → IsFieldOf version modulus → IsBody version modulus c → IsOf version c
of-body version modulus c field is = record {
  version_is = is.version_is;
  is = record {
    field = subst (λ m. (m ≡ modulus_of Small) ⊎ (m ≡ modulus_of Large)) (sym is.modulus_is) (one_of version field);
    version = λ one. is.modulus_is ∙ small version field (sym is.version_is ∙ one);
    echo = is.echo;
    ccf = subst (λ m. IsCcf m c.ccf) (sym is.modulus_is) is.ccf;
  };
}
  where
    one_of : (version : Version) → IsFieldOf version modulus → (modulus ≡ modulus_of Small) ⊎ (modulus ≡ modulus_of Large)
    one_of One field = inl field
    one_of Two field = field

    small : (version : Version) → IsFieldOf version modulus → version ≡ One → modulus ≡ modulus_of Small
    small One field one = field
    small Two field one = (let f : ⊥ = cc in absurd f)

whole-fielded : (version : Version) → Whole (IsOf version) (λ c. field_lines version c.modulus ++ body_lines c)
    (λ line bytes. field_at version line bytes >>= λ modulus. body_at version modulus.0 (line + field_count version) modulus.1)
whole-fielded version = record {
  reads = Reads-then {OC = Short} {OB = Short} {FA = IsFieldOf version} {FB = IsBody version} {FC = IsOf version}
      {la = field_lines version} {lb = λ modulus. body_lines} {lc = λ c. field_lines version c.modulus ++ body_lines c}
      (field_count version) (field_at version) (body_at version) (Reads-field version)
      (λ modulus field. (whole modulus field).reads)
      (record {
        count = λ modulus field. field_lines-count version modulus;
        some = λ modulus field. (whole modulus field).some;
        apart = λ c of. (
          c.modulus,
          field_of version c of,
          record { version_is = of.version_is; modulus_is = refl; echo = of.is.echo; ccf = of.is.ccf },
          refl,
        );
        joined = λ modulus c field is. (
          of-body version modulus c field is,
          ap (λ m. field_lines version m ++ body_lines c) is.modulus_is,
        );
      })
      (λ modulus rest field short. shorter (concat (field_lines version modulus)) rest short);
  some =
      let c = (whole (modulus_of Small) (field_some version)).some in
      (c.0, of-body version (modulus_of Small) c.0 (field_some version) c.1);
}
  where
    whole : (modulus : ℕ) → IsFieldOf version modulus → Whole (IsBody version modulus) body_lines (body_at version modulus)
    whole modulus field = whole-body version modulus (field_small version modulus field)

pub whole-certificate : Whole IsCertificate certificate_lines certificate_at
unfolding certificate_at
whole-certificate = record {
  reads = Reads-then {OC = Short} {OB = Short} {FA = λ version. Unit {0}} {FB = IsOf} {FC = IsCertificate}
      {la = λ version. version_line version ∷ []} {lb = λ version c. field_lines version c.modulus ++ body_lines c}
      {lc = certificate_lines} 1 version_at
      (λ version line bytes. field_at version line bytes >>= λ modulus. body_at version modulus.0 (line + field_count version) modulus.1)
      (Reads-line version_at One tt Spells-version) (λ version any. (whole-fielded version).reads)
      (record {
        count = λ version any. refl;
        some = λ version any. (whole-fielded version).some;
        apart = λ c is. (c.version, tt, record { version_is = refl; is = is }, split c.version c.modulus (body_lines c));
        joined = λ version c any of. (
          of.is,
          split c.version c.modulus (body_lines c)
              ∙ ap (λ v. (version_line v ∷ []) ++ (field_lines v c.modulus ++ body_lines c)) of.version_is,
        );
      })
      (λ version rest any short. shorter (version_line version ++ []) rest short);
  some = (let c = (whole-fielded One).some in (c.0, c.1.is));
}
