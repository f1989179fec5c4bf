use Rattle.std.proofs.Common.{◌≡◌, ℕ, List, ap, sym, subst, arith}
use Rattle.std.specs.List.{All}
use Rattle.cert_text.specs.Contents.{numbered_rows}
use Rattle.cert_text.specs.Ranges.{AreSmall, HasSmallKeys, AreSmallBlocks}
use Rattle.cert_text.specs.Texts.{contents_text, pair_text, matrices_text, parts_text}
use Rattle.text_writer.proofs.Putting.{puts_then, puts_is}
use Rattle.cert_text.proofs.Smallness.{small_rows, small_columns, small_blocks}
use Rattle.cert_text.proofs.ccf.Ccf.put.Goals as goal

same_matrices : {T : Type 0} (number : T → ℕ) {s s1 u u1 p p1 : List (List (ℕ × T))} {t t1 : List (List ℕ)} → s ≡ s1 → u ≡ u1 → p ≡ p1 → t ≡ t1 →
    matrices_text (numbered_rows number s) (numbered_rows number u) (numbered_rows number p) t
    ≡ matrices_text (numbered_rows number s1) (numbered_rows number u1) (numbered_rows number p1) t1
same_matrices {T} number {s} {s1} {u} {u1} {p} {p1} {t} {t1} one two three four = cc

same_pair : (rank : ℕ) {base base1 mates mates1 : List (ℕ × ℕ)} → base ≡ base1 → mates ≡ mates1 → pair_text rank base mates ≡ pair_text rank base1 mates1
same_pair rank {base} {base1} {mates} {mates1} one two = cc

pub returns : goal.returns
returns g c =
    puts_is (ap contents_text c.self.view_is)
    (puts_then (puts_then (puts_then (puts_then c.put_shape.ensures
    (puts_is (same_pair _ c.as_slice.ensures c.as_slice-2.ensures) c.put_pair.ensures))
    (puts_is (same_matrices g.F.Field.number c.as_slice-3.ensures c.as_slice-4.ensures c.as_slice-5.ensures
    c.as_slice-6.ensures) c.put_matrices.ensures))
    (puts_is (ap (λ z. parts_text c.self.inside.first z c.self.inside.last) c.as_slice-7.ensures)
    c.put_parts.ensures)) c.piece.ensures)

pub put_matrices-requires-clause-s : goal.put_matrices-requires-clause-s
put_matrices-requires-clause-s g c = subst (All HasSmallKeys) (sym c.as_slice-3.ensures)
    (small_rows g.F.Field.number g.F.Field.modulus c.self.inside.shape.q_rows
    (omega (arith, c.self.invariant.shape.q_rows)) c.self.inside.s c.self.invariant.s.entries)

pub put_matrices-requires-clause-u : goal.put_matrices-requires-clause-u
put_matrices-requires-clause-u g c = subst (All HasSmallKeys) (sym c.as_slice-4.ensures)
    (small_rows g.F.Field.number g.F.Field.modulus c.self.inside.shape.q_rows
    (omega (arith, c.self.invariant.shape.q_rows)) c.self.inside.u c.self.invariant.u.entries)

pub put_matrices-requires-clause-p : goal.put_matrices-requires-clause-p
put_matrices-requires-clause-p g c = subst (All HasSmallKeys) (sym c.as_slice-5.ensures)
    (small_rows g.F.Field.number g.F.Field.modulus c.self.inside.shape.columns
    (omega (arith, c.self.invariant.shape.columns)) c.self.inside.p c.self.invariant.p.entries)

pub put_matrices-requires-clause-t : goal.put_matrices-requires-clause-t
put_matrices-requires-clause-t g c = subst (All AreSmall) (sym c.as_slice-6.ensures)
    (small_columns c.self.inside.shape.columns c.self.invariant.shape.columns c.self.inside.t c.self.invariant.t.columns)

pub put_parts-requires-clause-blocks : goal.put_parts-requires-clause-blocks
put_parts-requires-clause-blocks g c = subst AreSmallBlocks (sym c.as_slice-7.ensures)
    (small_blocks c.self.inside.shape c.self.invariant.shape c.self.inside.blocks c.self.invariant.blocks)
