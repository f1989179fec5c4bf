use Rattle.std.proofs.Common.{◌≡◌, ◌∙◌, ap, sym, subst, arith}
use Rattle.linear_algebra.specs.Products.{transposed}
use Rattle.sparse_q.specs.Tables.{HasSize, SparseTable, sparse_rows, number_in}
use Rattle.sparse_q.proofs.MadeLaws.{past-column}
use Rattle.row_transform.specs.Tableaus.{IsOpened}
use Rattle.dense_q.specs.Tables.{height, entry}
use Rattle.row_transform.proofs.EntryLaws.{listed-entries}
use Rattle.sparse_tableau.specs.Listings.{AreNumbersListed, AreSparseEntriesListed}
use Rattle.sparse_tableau.specs.Sparse.{IsSparse, HasSparseRoom, sparse_state}
use Rattle.sparse_tableau.proofs.EntryLaws.{numbers-listed, diagonal-listed}
use Rattle.sparse_tableau.proofs.RoomLaws.{no-room}
use Rattle.sparse_tableau.proofs.SparseLaws.{opened-sparse, opened-state}
use Rattle.sparse_tableau.proofs.sparse.SparseTableauTableau.open.Goals as goal

pub invariant_of-result-2 : goal.invariant_of-result-2
invariant_of-result-2 g c =
    let m = g.F.Field.modulus in
    let p = c.in_ok-p.p in
    let q = c.args.q.now in
    let turned_numbers : number_in c.in_ok-turned.field-0 ≡ transposed (entry q) =
    c.in_ok-turned.ensures.numbers ∙ ap transposed c.in_ok-p.ensures.numbers in
    let turned_size : HasSize q.width (height q) c.in_ok-turned.field-0 = record {
      rows_are = c.in_ok-turned.ensures.size.rows_are ∙ c.in_ok-p.ensures.size.width_is;
      width_is = c.in_ok-turned.ensures.size.width_is ∙ c.in_ok-p.ensures.size.rows_are;
    } in
    subst (λ (v : SparseTable). IsSparse m (record {
      q = c.in_ok-turned.field-0;
      p = p;
      s = c.in_ok-s.s;
      v = v;
      base = c.in_ok-empty.field-0;
      room = record { rows = 0; columns = 0 };
    }) × AreSparseEntriesListed m p c.in_ok-entries.entries.bits × AreNumbersListed v c.in_ok-u_entries.u_entries.bits
    × HasSparseRoom (record {
      q = c.in_ok-turned.field-0;
      p = p;
      s = c.in_ok-s.s;
      v = v;
      base = c.in_ok-empty.field-0;
      room = record { rows = 0; columns = 0 };
    }) c.in_ok-entries.entries.bits c.in_ok-u_entries.u_entries.bits) (sym c.v.view_is) (
      opened-sparse m c.rows-rows.result c.cols-columns.result c.args.q.now c.in_ok-turned.field-0 p c.in_ok-s.s
          c.in_ok-v.v c.in_ok-empty.field-0 (record { rows = 0; columns = 0 }) c.rows-rows.ensures.rows c.cols-columns.ensures.cols
          c.in_ok-p.ensures.size c.in_ok-p.ensures.numbers turned_size turned_numbers c.in_ok-s.ensures.size c.in_ok-s.ensures.numbers c.in_ok-v.ensures.size
          c.in_ok-v.ensures.numbers c.in_ok-empty.ensures,
      listed-entries m (sparse_rows p) p.width (number_in p) c.in_ok-entries.entries.bits
          (numbers-listed (height q) q.width (entry q) p c.in_ok-entries.entries.bits c.in_ok-p.ensures.size
          c.in_ok-p.ensures.numbers c.in_ok-entries.ensures),
      diagonal-listed c.rows-rows.result c.in_ok-v.v c.in_ok-u_entries.u_entries.bits c.in_ok-v.ensures.size
          c.in_ok-v.ensures.numbers c.in_ok-u_entries.ensures,
      no-room c.in_ok-turned.field-0 p c.in_ok-s.s c.in_ok-v.v c.in_ok-empty.field-0 c.in_ok-entries.entries.bits
          c.in_ok-u_entries.u_entries.bits,
    )

pub returns-clause-opened : goal.returns-clause-opened
returns-clause-opened g c =
    let m = g.F.Field.modulus in
    let of = c.args.q.now in
    let q = c.args.q.now in
    let turned_numbers : number_in c.in_ok-turned.field-0 ≡ transposed (entry q) =
    c.in_ok-turned.ensures.numbers ∙ ap transposed c.in_ok-p.ensures.numbers in
    let turned_size : HasSize q.width (height q) c.in_ok-turned.field-0 = record {
      rows_are = c.in_ok-turned.ensures.size.rows_are ∙ c.in_ok-p.ensures.size.width_is;
      width_is = c.in_ok-turned.ensures.size.width_is ∙ c.in_ok-p.ensures.size.rows_are;
    } in
    subst (λ (v : SparseTable). IsOpened m (height of) of.width (entry of) (sparse_state (record {
      q = c.in_ok-turned.field-0;
      p = c.in_ok-p.p;
      s = c.in_ok-s.s;
      v = v;
      base = c.in_ok-empty.field-0;
      room = record { rows = 0; columns = 0 };
    }))) (sym c.v.view_is)
    (opened-state m c.rows-rows.result c.cols-columns.result of c.in_ok-turned.field-0 c.in_ok-p.p c.in_ok-s.s
    c.in_ok-v.v c.in_ok-empty.field-0 (record { rows = 0; columns = 0 }) c.rows-rows.ensures.rows c.cols-columns.ensures.cols c.in_ok-p.ensures.size
    c.in_ok-p.ensures.numbers turned_size turned_numbers c.in_ok-s.ensures.size
    c.in_ok-s.ensures.numbers c.in_ok-v.ensures.size c.in_ok-v.ensures.numbers c.in_ok-empty.ensures)

pub turned-requires-clause-outside : goal.turned-requires-clause-outside
turned-requires-clause-outside g c =
    let q = c.args.q.now in
    λ i j le. ap (λ f. f i j) c.in_ok-p.ensures.numbers
    ∙ past-column q i j c.cols-columns.ensures.matrix (omega (arith, le, c.in_ok-p.ensures.size.width_is))

pub turned-requires-clause-listed : goal.turned-requires-clause-listed
turned-requires-clause-listed g c =
    let q = c.args.q.now in
    (numbers-listed (height q) q.width (entry q) c.in_ok-p.p c.in_ok-entries.entries.bits c.in_ok-p.ensures.size
    c.in_ok-p.ensures.numbers c.in_ok-entries.ensures).listed
