-- The length of a right certificate's text.
use Rattle.std.proofs.Common.{◌≡◌, ℕ, ◌+◌, ◌-◌, ◌*◌, ◌^◌, ◌<◌, ◌≤◌, List, [], ◌∷◌, ◌++◌, length, map, get_or, codes, refl, ap, ◌∙◌, subst, arith}
use Rattle.std.proofs.Common.{mul-add, mul_comm, mul_left_comm, mul-le-mul_left, mul-le-mul_right}
use Rattle.std.specs.List.{All}
use Rattle.std.proofs.lemmas.Fmt.{length-decimal-le}
use Rattle.std.proofs.lemmas.List.{length-append}
use Rattle.std.proofs.lemmas.Nat.{mul-le}
use Rattle.residue_theory.specs.Sets.{everything}
use Rattle.residue_theory.proofs.CountLaws.{size-everything, size-surjection}
use Rattle.mixed_matrices.specs.CanonicalParts.{AreCanonical}
use Rattle.mixed_matrices.specs.Forms.{Parts}
use Rattle.mixed_matrices.specs.LayeredMatrices.{LayeredMatrix}
use Rattle.mixed_matrices.specs.Layerings.{Origins}
use Rattle.mixed_matrices.specs.Models.{MixedMatrix}
use Rattle.cert_text.specs.Contents.{Contents, Certificate}
use Rattle.cert_text.specs.Ranges.{IsCcf, AreRising}
use Rattle.cert_text.specs.Readings.{column_lists, q_row_lists, t_row_lists, parts_of}
use Rattle.cert_text.specs.Right.{HasForm, HasShape, IsRightCcf}
use Rattle.cert_text.specs.Texts.{spaced, pairs_text, matrix_text, pattern_text, tail_line, blocks_text, kind_text}
use Rattle.cert_text.specs.Texts.{echo_text, shape_text, pair_text, matrices_text, parts_text, contents_text}
use Rattle.cert_text.specs.Texts.{certificate_text, version_text}
use Rattle.cert_text.specs.declared.kind.Kind.{Kind}
use Rattle.cert_text.specs.declared.part.CcfBlock.{CcfBlock}
use Rattle.cert_text.specs.declared.kind.Kind.TheVariants.{Flowsheet, Matrix, Netlist}
use Rattle.cert_text.specs.declared.version.Version.{Version}
use Rattle.cert_text.specs.declared.version.Version.TheVariants.{One, Two}
use Rattle.text_lengths.specs.Rooms.{IsShapeWithin, certificate_room, contents_room, head_room}
use Rattle.text_lengths.proofs.Lengths.{decimal-short, marked-short, total, totals-few}
use Rattle.text_lengths.proofs.LineLengths.{pairs-within, matrix-short, pattern-short, tail-short, blocks-short}
use Rattle.text_lengths.proofs.LineLengths.{part_items, block_items, sum_to, sum_to-square}
use Rattle.certificate_laws.proofs.PlacedLists.{columns-rise, q_rows-rise, t_rows-rise}

-- canonical parts have no more blocks than columns
pub blocks-few : (p : ℕ) (L : LayeredMatrix) (G : Parts) → AreCanonical p L G → G.blocks ≤ L.columns
blocks-few p L G are = omega (
  arith,
  size-everything G.blocks,
  size-everything L.columns,
  size-surjection everything L.columns (λ x. G.column x - 1) G.blocks everything
      (λ i il _. let held = are.held i il in (held.0, held.1.0, refl, omega (arith, held.1.2))),
)

expand : (m n a b : ℕ) → m * (a + b * n) ≡ a * m + b * (m * n)
expand m n a b = mul-add m a (b * n) ∙ ap (λ x. x + m * (b * n)) (mul_comm m a) ∙ ap (λ y. a * m + y) (mul_left_comm m b n)

-- at most m lines, each of at most k items
pub lines_at_most : (r m n k a b : ℕ) → r ≤ m → n ≤ k → r * (a + b * n) ≤ a * m + b * (m * k)
lines_at_most r m n k a b few narrow = omega (
  arith,
  mul-le-mul_right (a + b * n) few,
  expand m n a b,
  mul-le-mul_left b (mul-le-mul_left m narrow),
)

pub at_most : (m k a b : ℕ) → m ≤ k → m * (a + b * k) ≤ a * k + b * (k * k)
at_most m k a b less = lines_at_most m k k k a b less (omega arith)

-- the parts that are printed: each column and each row stands in one of them
pub total-append : (lists more : List (List ℕ)) → total (lists ++ more) ≡ total lists + total more
total-append [] more = omega arith
total-append (list ∷ lists) more = omega (arith, total-append lists more)

blocks-total : (blocks : List CcfBlock) → block_items blocks ≡ 5 * total (map (λ (block : CcfBlock). block.part.columns) blocks)
    + 6 * total (map (λ (block : CcfBlock). block.part.q_rows) blocks) + 6 * total (map (λ (block : CcfBlock). block.part.t_rows) blocks)
blocks-total [] = omega arith
blocks-total (block ∷ blocks) = omega (arith, blocks-total blocks)

module _ (p : ℕ) (L : LayeredMatrix) (c : Contents) (is : IsCcf p c) (form : HasForm p L c) where
  pub columns-total : c.shape.columns ≡ L.columns → total (column_lists c) ≤ L.columns
  columns-total same = totals-few L.columns (column_lists c) (subst (λ n. All (AreRising n) (column_lists c)) same (columns-rise p c is))
      (form.columns).one

  pub q_rows-total : c.shape.q_rows ≡ L.q_rows → total (q_row_lists c) ≤ L.q_rows
  q_rows-total same = totals-few L.q_rows (q_row_lists c) (subst (λ n. All (AreRising n) (q_row_lists c)) same (q_rows-rise p c is))
      (form.q_rows).one

  pub t_rows-total : c.shape.t_rows ≡ L.t_rows → total (t_row_lists c) ≤ L.t_rows
  t_rows-total same = totals-few L.t_rows (t_row_lists c) (subst (λ n. All (AreRising n) (t_row_lists c)) same (t_rows-rise p c is))
      (form.t_rows).one

  pub items-few : (M : MixedMatrix) → HasShape M L c →
      part_items c.first + block_items c.blocks + part_items c.last ≤ 5 * c.shape.columns + 6 * c.shape.q_rows + 6 * c.shape.t_rows
  items-few M shape = omega (
    arith,
    shape.columns,
    shape.q_rows,
    shape.t_rows,
    columns-total shape.columns,
    q_rows-total shape.q_rows,
    t_rows-total shape.t_rows,
    blocks-total c.blocks,
    total-append (map (λ (block : CcfBlock). block.part.columns) c.blocks) (c.last.columns ∷ []),
    total-append (map (λ (block : CcfBlock). block.part.q_rows) c.blocks) (c.last.q_rows ∷ []),
    total-append (map (λ (block : CcfBlock). block.part.t_rows) c.blocks) (c.last.t_rows ∷ []),
  )

module _ (p digits : ℕ) (short : p ≤ 10 ^ digits) (m k : ℕ) (c : Contents) (is : IsCcf p c) (low : IsShapeWithin m k c.shape) where
  shape-short : length (shape_text c.shape) ≤ 31
  shape-short =
      let e = marked-short 32 c.shape.equations (omega (arith, (is.shape).equations)) in
      let u = marked-short 32 c.shape.unknowns (omega (arith, (is.shape).unknowns)) in
      let q = marked-short 32 c.shape.q_rows (omega (arith, (is.shape).q_rows)) in
      let t = marked-short 32 c.shape.t_rows (omega (arith, (is.shape).t_rows)) in
      let n = marked-short 32 c.shape.columns (omega (arith, (is.shape).columns)) in
      let one : List ℕ = codes "shape" ++ spaced c.shape.equations in
      let two : List ℕ = one ++ spaced c.shape.unknowns in
      let three : List ℕ = two ++ spaced c.shape.q_rows in
      let four : List ℕ = three ++ spaced c.shape.t_rows in
      let five : List ℕ = four ++ spaced c.shape.columns in
      omega (
        arith,
        e,
        u,
        q,
        t,
        n,
        length-append (codes "shape") (spaced c.shape.equations),
        length-append one (spaced c.shape.unknowns),
        length-append two (spaced c.shape.q_rows),
        length-append three (spaced c.shape.t_rows),
        length-append four (spaced c.shape.columns),
        length-append five (codes "\n"),
      )

  pair-short : length (pair_text c.rank c.base c.mates) ≤ 21 + 20 * m
  pair-short =
      let q_few : c.shape.q_rows ≤ 4096 = (is.shape).q_rows in
      let t_few : c.shape.t_rows ≤ 4096 = (is.shape).t_rows in
      let narrow : c.shape.columns ≤ 8192 = (is.shape).columns in
      let r = marked-short 32 c.rank (omega (arith, is.rank)) in
      let base = pairs-within c.shape.q_rows c.shape.columns c.base (omega (arith, q_few)) narrow is.base in
      let mates = pairs-within c.shape.t_rows c.shape.columns c.mates (omega (arith, t_few)) narrow is.mates in
      let one : List ℕ = codes "rank" ++ spaced c.rank in
      let two : List ℕ = one ++ codes "\nbase" in
      let three : List ℕ = two ++ pairs_text c.base in
      let four : List ℕ = three ++ codes "\nmatch" in
      let five : List ℕ = four ++ pairs_text c.mates in
      omega (
        arith,
        r,
        base,
        mates,
        low.q_rows,
        low.t_rows,
        length-append (codes "rank") (spaced c.rank),
        length-append one (codes "\nbase"),
        length-append two (pairs_text c.base),
        length-append three (codes "\nmatch"),
        length-append four (pairs_text c.mates),
        length-append five (codes "\n"),
      )

  matrices-short : length (matrices_text c.s c.u c.p c.t) ≤ 32 * m + (12 + 2 * digits) * (m * m) + (11 + digits) * (m * k)
  matrices-short =
      let q_few : c.shape.q_rows ≤ 4096 = (is.shape).q_rows in
      let t_few : c.shape.t_rows ≤ 4096 = (is.shape).t_rows in
      let narrow : c.shape.columns ≤ 8192 = (is.shape).columns in
      let wide : c.shape.q_rows ≤ 8192 = omega (arith, q_few) in
      let s = matrix-short p digits short c.shape.q_rows wide 83 1 c.s (omega (arith, (is.s).count, q_few)) (is.s).entries in
      let u = matrix-short p digits short c.shape.q_rows wide 85 1 c.u (omega (arith, (is.u).count, q_few)) (is.u).entries in
      let product = matrix-short p digits short c.shape.columns narrow 80 1 c.p (omega (arith, (is.p).count, q_few)) (is.p).entries in
      let t = pattern-short c.shape.columns narrow 84 1 c.t (omega (arith, (is.t).count, t_few)) (is.t).columns in
      let sk = lines_at_most (length c.s) m c.shape.q_rows m 8 (6 + digits) (omega (arith, (is.s).count, low.q_rows)) low.q_rows in
      let uk = lines_at_most (length c.u) m c.shape.q_rows m 8 (6 + digits) (omega (arith, (is.u).count, low.q_rows)) low.q_rows in
      let pk = lines_at_most (length c.p) m c.shape.columns k 8 (6 + digits) (omega (arith, (is.p).count, low.q_rows)) low.columns in
      let tk = lines_at_most (length c.t) m c.shape.columns k 8 5 (omega (arith, (is.t).count, low.t_rows)) low.columns in
      let one : List ℕ = matrix_text (codes "S") 1 c.s in
      let two : List ℕ = one ++ matrix_text (codes "U") 1 c.u in
      let three : List ℕ = two ++ matrix_text (codes "P") 1 c.p in
      omega (
        arith,
        s,
        u,
        product,
        t,
        sk,
        uk,
        pk,
        tk,
        length-append one (matrix_text (codes "U") 1 c.u),
        length-append two (matrix_text (codes "P") 1 c.p),
        length-append three (pattern_text (codes "T") 1 c.t),
      )

  module _ (M : MixedMatrix) (L : LayeredMatrix) (shape : HasShape M L c) (form : HasForm p L c) (blocks : length c.blocks ≤ c.shape.columns) where
    lower-short : 5 * sum_to (length c.blocks) ≤ 3 * (k * k)
    lower-short = omega (
      arith,
      sum_to-square (length c.blocks),
      mul-le (length c.blocks) (length c.blocks) k k (omega (arith, blocks, low.columns)) (omega (arith, blocks, low.columns)),
    )

    parts-short : length (parts_text c.first c.blocks c.last) ≤ 16 + 21 * k + 12 * m + 3 * (k * k)
    parts-short =
        let narrow : c.shape.columns ≤ 8192 = (is.shape).columns in
        let first = tail-short c.shape is.shape (codes "first") c.first (omega arith) is.first in
        let last = tail-short c.shape is.shape (codes "last") c.last (omega arith) is.last in
        let all = blocks-short c.shape is.shape 0 c.blocks (omega (arith, blocks, narrow))
        (λ i d il. let b = is.blocks i d il in (b.part, subst (λ n. AreRising n (get_or c.blocks i d).lower) (let e : i ≡ 0 + i = omega arith in e) b.lower)) in
        let from : 0 + length c.blocks ≡ length c.blocks = omega arith in
        let sums : 5 * sum_to (0 + length c.blocks) ≡ 5 * sum_to (length c.blocks) = ap (λ n. 5 * sum_to n) from in
        let one : List ℕ = tail_line (codes "first") c.first in
        omega (
          arith,
          first,
          last,
          all,
          sums,
          lower-short,
          blocks,
          low.columns,
          low.q_rows,
          low.t_rows,
          items-few p L c is form M shape,
          length-append one (blocks_text 1 c.blocks),
          length-append
              (one ++ blocks_text 1 c.blocks) (tail_line (codes "last") c.last),
        )

    contents-short : length (contents_text c) ≤ contents_room digits m k
    contents-short =
        let one : List ℕ = shape_text c.shape in
        let two : List ℕ = one ++ pair_text c.rank c.base c.mates in
        let three : List ℕ = two ++ matrices_text c.s c.u c.p c.t in
        let four : List ℕ = three ++ parts_text c.first c.blocks c.last in
        omega (
          arith,
          shape-short,
          pair-short,
          matrices-short,
          parts-short,
          length-append one (pair_text c.rank c.base c.mates),
          length-append two (matrices_text c.s c.u c.p c.t),
          length-append three (parts_text c.first c.blocks c.last),
          length-append four (codes "end\n"),
        )

kind-short : (kind : Kind) → length (kind_text kind) ≤ 9
kind-short Matrix = omega arith
kind-short Netlist = omega arith
kind-short Flowsheet = omega arith

version-short : (version : Version) (p digits : ℕ) → 0 < digits → p < 10 ^ digits → length (version_text version p) + 31 ≤ head_room version digits
version-short One p digits some below = omega arith
version-short Two p digits some below = omega (
  arith,
  decimal-short digits p some below,
  length-append (codes "mixed-certificate 2\nfield") (spaced p),
  length-append (codes "mixed-certificate 2\nfield" ++ spaced p) (codes "\n"),
)

echo-short : (version : Version) (p digits : ℕ) → 0 < digits → p < 10 ^ digits → (kind : Kind) (echo : List ℕ) → length echo ≤ 8388608 →
    length (echo_text version p kind echo) ≤ length echo + head_room version digits
echo-short version p digits some below kind echo few =
    let number : length (spaced (length echo)) ≤ 8 = omega (arith, length-decimal-le 7 (length echo) (omega arith) (omega (arith, few)) (omega (arith, few))) in
    let zero : List ℕ = version_text version p ++ codes "kind " in
    let one : List ℕ = zero ++ kind_text kind in
    let two : List ℕ = one ++ codes "\nlength" in
    let three : List ℕ = two ++ spaced (length echo) in
    let four : List ℕ = three ++ codes "\n" in
    let five : List ℕ = four ++ echo in
    omega (
      arith,
      version-short version p digits some below,
      kind-short kind,
      number,
      length-append (version_text version p) (codes "kind "),
      length-append zero (kind_text kind),
      length-append one (codes "\nlength"),
      length-append two (spaced (length echo)),
      length-append three (codes "\n"),
      length-append four echo,
      length-append five (codes "\n"),
    )

pub certificate-short : (p digits : ℕ) → 0 < digits → p < 10 ^ digits → (M : MixedMatrix) (L : LayeredMatrix) (O : Origins) (c : Certificate) (n m k : ℕ) →
    c.modulus ≡ p → length c.echo ≤ n → n ≤ 8388608 → IsCcf p c.ccf → IsRightCcf p M L O c.ccf → IsShapeWithin m k c.ccf.shape →
    length (certificate_text c) ≤ certificate_room c.version digits n m k
certificate-short p digits some below M L O c n m k over within limit is right low =
    let blocks = blocks-few p L (parts_of c.ccf) (right.canonical_listing).parts in
    let stated : c.modulus < 10 ^ digits = omega (arith, over, below) in
    omega (
      arith,
      within,
      echo-short c.version c.modulus digits some stated c.kind c.echo (omega (arith, within, limit)),
      contents-short p digits (omega (arith, below)) m k c.ccf is low M L right.shape right.block_triangular_form
          (omega (arith, blocks, (right.shape).columns)),
      length-append (echo_text c.version c.modulus c.kind c.echo) (contents_text c.ccf),
    )

-- the room of ten digits at all limits
version-below : (version : Version) → certificate_room version 10 8388608 4096 8192 ≤ 1451663500
version-below One = omega arith
version-below Two = omega arith

pub certificate-below : (p : ℕ) → p < 10 ^ 10 → (M : MixedMatrix) (L : LayeredMatrix) (O : Origins) (c : Certificate) →
    c.modulus ≡ p → length c.echo ≤ 8388608 → IsCcf p c.ccf → IsRightCcf p M L O c.ccf → length (certificate_text c) ≤ 1451663500
certificate-below p below M L O c over within is right = omega (
  arith,
  version-below c.version,
  certificate-short p 10 (omega arith) below M L O c 8388608 4096 8192 over within (omega arith) is right (record {
    q_rows = (is.shape).q_rows;
    t_rows = (is.shape).t_rows;
    columns = (is.shape).columns;
  }),
)
