use Rattle.std.proofs.Common.{◌≡◌, ◌%◌, eqb, not, subst, ◌∙◌, ap}
use Rattle.sparse_q.specs.Tables.{sparse_rows}
use Rattle.bit_table.specs.Bits.{bit_in}
use Rattle.row_table.specs.RowTables.{Combined, p_part}
use Rattle.row_transform.specs.Dense.{Dense}
use Rattle.row_transform.specs.Entries.{AreEntriesListed}
use Rattle.row_transform.proofs.EntryLaws.{if_none-listed, if_candidate-listed, some_of}
use Rattle.row_transform.proofs.dense.DenseTableauTableau.next_candidate.Goals as goal

pub returns-clause-none : goal.returns-clause-none
returns-clause-none g c =
    let p = g.F.Field.modulus in
    let t : Combined = c.args.self.now.table in
    let bits = c.self.inside.entries.bits in
    let listed : AreEntriesListed p (sparse_rows t.q) t.q.width (p_part p t) bits =
    subst (λ (d : Dense). AreEntriesListed p (sparse_rows d.table.q) d.table.q.width (p_part p d.table) bits) c.self.view_is
    c.self.invariant.1 in
    let rows : c.rows.result ≡ sparse_rows t.q = c.rows.ensures.rows ∙ ap (λ (d : Dense). sparse_rows d.table.q) c.self.view_is in
    if_none-listed (λ i. not (eqb (p_part p t i c.args.col % p) 0)) (bit_in bits c.args.col) (sparse_rows t.q)
    (λ i il some. listed.listed i c.args.col il c.requires (some_of (p_part p t i c.args.col % p) some)) c.args.from
    c.rows.result rows c.next.result c.next.ensures.none

pub returns-clause-some : goal.returns-clause-some
returns-clause-some g c =
    let p = g.F.Field.modulus in
    let t : Combined = c.args.self.now.table in
    let bits = c.self.inside.entries.bits in
    let listed : AreEntriesListed p (sparse_rows t.q) t.q.width (p_part p t) bits =
    subst (λ (d : Dense). AreEntriesListed p (sparse_rows d.table.q) d.table.q.width (p_part p d.table) bits) c.self.view_is
    c.self.invariant.1 in
    let rows : c.rows.result ≡ sparse_rows t.q = c.rows.ensures.rows ∙ ap (λ (d : Dense). sparse_rows d.table.q) c.self.view_is in
    if_candidate-listed (λ i. not (eqb (p_part p t i c.args.col % p) 0)) (bit_in bits c.args.col) (sparse_rows t.q)
    (λ i il some. listed.listed i c.args.col il c.requires (some_of (p_part p t i c.args.col % p) some)) c.args.from
    c.rows.result rows c.next.result c.next.ensures.least
