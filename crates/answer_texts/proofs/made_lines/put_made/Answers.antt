use Rattle.std.proofs.Common.{ap, codes, length, ◌∙◌}
use Rattle.text_writer.proofs.Putting.{puts_then, puts_is}
use Rattle.answer_texts.specs.MadeTexts.{tail_sizes}
use Rattle.answer_texts.specs.ReportTexts.{count_line}
use Rattle.answer_texts.proofs.made_lines.put_made.Goals as goal

pub returns : goal.returns
returns g c =
    let rank = puts_is (ap (count_line (codes "rank")) c.rank.ensures.rank) c.put_count-2.ensures in
    let first = puts_is (ap (tail_sizes (codes "first")) c.first.ensures.first) c.put_tail.ensures in
    let blocks = puts_is (ap (λ items. count_line (codes "blocks") (length items)) (c.as_slice.ensures ∙ c.blocks-2.ensures.blocks)) c.put_count-3.ensures in
    let last = puts_is (ap (tail_sizes (codes "last")) c.last.ensures.last) c.put_tail-2.ensures in
    puts_then (puts_then (puts_then (puts_then (puts_then c.put_count.ensures c.put_system.ensures) rank) first) blocks) last
