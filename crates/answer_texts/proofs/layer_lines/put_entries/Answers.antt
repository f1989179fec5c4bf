use Rattle.std.proofs.Common.{◌≡◌, ◌<◌, ◌+◌, ◌++◌, ap, sym, ◌∙◌, drop, length, arith}
use Rattle.text_writer.proofs.Putting.{loop_goes_on, loop_begins, loop_ends}
use Rattle.dense_q.specs.Tables.{entry, row_at}
use Rattle.answer_texts.specs.LayerTexts.{row_entries_text, q_entry_text}
use Rattle.mixed_layering.proofs.EntryLaws.{row_long}
use Rattle.answer_texts.proofs.LayerPieces.{entries_next, entries_none, unmarked}
use Rattle.answer_texts.proofs.layer_lines.put_entries.Goals as goal

pub loop-entry-init : goal.loop-entry-init
loop-entry-init g c = record { within = omega arith; put = loop_begins (row_entries_text 1 (row_at c.args.matrix.now c.args.row)) }

pub loop-entry-preserved : goal.loop-entry-preserved
loop-entry-preserved g c =
    let row = row_at c.args.matrix.now c.args.row in
    let at = c.in-Some.entry.0 in
    let L = c.in-Some.ensures.least in
    let rest = row_entries_text (at + 1 + 1) (drop (at + 1) row) in
    let long : length row ≡ c.args.matrix.now.width = row_long c.args.matrix.now c.args.row c.requires c.is_matrix.ensures in
    record {
      within = omega (arith, L.before_end);
      put = loop_goes_on (entries_next row c.loop-entry.from at L.from_on (omega (arith, long, L.before_end))
          (λ k le l. unmarked (entry c.args.matrix.now c.args.row k) (L.none_before k le l))
          ∙ ap (λ n. q_entry_text (at + 1) n ++ rest) (sym c.in-Some.ensures.entry)) c.loop-entry.invariant.put c.put_entry.ensures;
    }

pub returns : goal.returns
returns g c =
    let row = row_at c.args.matrix.now c.args.row in
    let long : length row ≡ c.args.matrix.now.width = row_long c.args.matrix.now c.args.row c.requires c.is_matrix.ensures in
    loop_ends (entries_none row c.loop-entry.from (omega (arith, long, c.loop-entry.invariant.within))
    (λ k le l. unmarked (entry c.args.matrix.now c.args.row k) (c.in_default.ensures.none k le (omega (arith, long, l)))))
    c.loop-entry.invariant.put
