use Rattle.std.proofs.Common.{rules}
use Rattle.line_lexer.specs.Lines.{lines_of}
use Rattle.edit_desk.specs.Desks.{desk_limit, empty_models}
use Rattle.text_writer.proofs.Putting.{text_written}
use Rattle.desk_texts.specs.Puttings.{PutsSaid}
use Rattle.desk_texts.proofs.Talks.{of-ok}
use Rattle.desk_texts.proofs.said.write_said.Goals as goal

pub returns-in-Ok-Ok : goal.returns-in-Ok-Ok
returns-in-Ok-Ok g c =
    let put : PutsSaid g.K.Sink g.F.Field.modulus (empty_models desk_limit) (lines_of c.args.input.now) c.new-out.result c.put_said-said.new.out =
    of-ok c.put_said-said.result c.in-Ok-Ok.field-0-0 c.in-Ok-Ok.is-0 c.put_said-said.ensures in
    let same = put.puts.same_sink in
    let written = text_written c.new-out.ensures.nothing put.puts c.finish.ensures in
    let all = of-ok c.finish.result c.in-Ok-Ok.field-0-1 c.in-Ok-Ok.is-1 written.whole in
    (put.text, put.said, search rules)
