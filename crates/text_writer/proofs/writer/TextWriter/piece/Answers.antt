use Rattle.std.proofs.Common.{ap, ◌++◌, ◌∙◌, refl}
use Rattle.text_writer.proofs.Putting.{puts_passing, puts_holding}
use Rattle.text_writer.proofs.writer.TextWriter.piece.Goals as goal

pub returns-then-not-hold : goal.returns-then-not-hold
returns-then-not-hold g c =
    puts_passing c.args.self.now _ _ c.give.new.self c.as_slice.result.now c.args.piece.now (c.as_slice.ensures ∙ c.if-hold.ensures)
    (c.if-not-hold.ensures ∙ c.clear.ensures) refl c.give.ensures c.give-then-not-hold.ensures

pub returns-else-not-hold : goal.returns-else-not-hold
returns-else-not-hold g c =
    puts_holding c.args.self.now _ c.as_slice.result.now c.args.piece.now (c.as_slice.ensures ∙ c.if-hold.ensures)
    (c.if-not-hold.ensures ∙ ap (λ z. z ++ c.args.piece.now) c.clear.ensures) refl c.give.ensures
