use Rattle.std.proofs.Common.{◌≡◌, ◌%◌, eqb, not, subst, ◌∙◌, ap}
use Rattle.sparse_q.specs.Tables.{sparse_rows, number_in}
use Rattle.bit_table.specs.Bits.{bit_in}
use Rattle.row_transform.proofs.EntryLaws.{if_none-listed, if_candidate-listed, some_of}
use Rattle.sparse_tableau.specs.Listings.{AreSparseEntriesListed}
use Rattle.sparse_tableau.specs.Sparse.{Sparse}
use Rattle.sparse_tableau.proofs.sparse.SparseTableauTableau.next_candidate.Goals as goal

pub returns-clause-none : goal.returns-clause-none
returns-clause-none g c =
    let m = g.F.Field.modulus in
    let p = c.args.self.now.p in
    let bits = c.self.inside.entries.bits in
    let listed : AreSparseEntriesListed m p bits =
    subst (λ (t : Sparse). AreSparseEntriesListed m t.p bits) c.self.view_is c.self.invariant.1 in
    let rows : c.rows.result ≡ sparse_rows p = c.rows.ensures.rows ∙ ap (λ (t : Sparse). sparse_rows t.p) c.self.view_is in
    if_none-listed (λ i. not (eqb (number_in p i c.args.col % m) 0)) (bit_in bits c.args.col) (sparse_rows p)
    (λ i il some. listed.listed i c.args.col il c.requires (some_of (number_in p i c.args.col % m) some)) c.args.from
    c.rows.result rows c.next.result c.next.ensures.none

pub returns-clause-some : goal.returns-clause-some
returns-clause-some g c =
    let m = g.F.Field.modulus in
    let p = c.args.self.now.p in
    let bits = c.self.inside.entries.bits in
    let listed : AreSparseEntriesListed m p bits =
    subst (λ (t : Sparse). AreSparseEntriesListed m t.p bits) c.self.view_is c.self.invariant.1 in
    let rows : c.rows.result ≡ sparse_rows p = c.rows.ensures.rows ∙ ap (λ (t : Sparse). sparse_rows t.p) c.self.view_is in
    if_candidate-listed (λ i. not (eqb (number_in p i c.args.col % m) 0)) (bit_in bits c.args.col) (sparse_rows p)
    (λ i il some. listed.listed i c.args.col il c.requires (some_of (number_in p i c.args.col % m) some)) c.args.from
    c.rows.result rows c.next.result c.next.ensures.least
