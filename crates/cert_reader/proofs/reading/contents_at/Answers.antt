use Rattle.std.proofs.Common.{sym, subst}
use Rattle.cert_text.specs.Contents.{contents_of}
use Rattle.cert_text.specs.Ranges.{IsCcf}
use Rattle.cert_reader.proofs.Theorem.{contents_are}
use Rattle.cert_reader.proofs.reading.contents_at.Goals as goal

pub new-ccf-requires : goal.new-ccf-requires
new-ccf-requires g c =
    let pieces = c.in_ok-pieces.pieces in
    subst (IsCcf g.F.Field.modulus) (λ i. contents_of g.F.Field.number pieces.shape pieces.rank
    (sym c.from_vec.ensures i) (sym c.from_vec-2.ensures i) (sym c.from_vec-3.ensures i)
    (sym c.from_vec-4.ensures i) (sym c.from_vec-5.ensures i) (sym c.from_vec-6.ensures i)
    pieces.matrices.parts.first (sym c.from_vec-7.ensures i) pieces.matrices.parts.last)
    (contents_are g.F.Field.modulus g.met.F.Field.small c.args.line c.args.bytes.now _ c.requires.short c.in_ok-pieces.ensures)
