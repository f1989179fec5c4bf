use Rattle.std.proofs.Common.{◌≡◌, ◌++◌, ◌∙◌, ◌||◌, ◌&&◌, ℕ, Bool, List, true, false, ap, sym, refl, is_some, length, nat_lt}
use Rattle.std.specs.List.{list_all}
use Rattle.line_lexer.specs.Tokens.{is_blank}
use Rattle.line_reader.specs.LineRules.{Rules, is_remark}
use Rattle.line_reader.proofs.Comments.{uncommented-shorter}
use Rattle.line_reader.proofs.Steps.{fed-left, fed-part, fed-remark}
use Rattle.line_reader.proofs.reader.Progress.take_part.Goals as goal
use Rattle.line_reader.proofs.reader.Progress.take_part.Goals.{then-is_some-via-then-is_some, then-is_some-via-else-is_some+then-self}

becomes_remark : (rules : Rules) (bytes part line : List ℕ) (result value : Bool) → line ≡ bytes →
    result ≡ (is_remark rules.remark part && list_all is_blank line) → result ≡ value →
    (is_remark rules.remark part && list_all is_blank bytes) ≡ value
becomes_remark rules bytes part line result value same is answer = sym (is ∙ ap (λ l. is_remark rules.remark part && list_all is_blank l) same) ∙ answer

pub returns-then-is_some-clause-fed : goal.returns-then-is_some-clause-fed
returns-then-is_some-clause-fed g c = λ text fed.
    let at = c.args.self.now in
    let left : (is_some at.refused || at.commented) ≡ true = elim c.then-is_some.branch [
      | then-is_some-via-then-is_some w ↦ rw (sym c.is_some.ensures ∙ w.if-is_some.true) refl
      | then-is_some-via-else-is_some+then-self w ↦ rw (sym c.is_some.ensures ∙ w.if-is_some.false, w.if-self.true) refl
    ] in
    fed-left g.R.LineFormat.rules g.R.LineFormat.has_read text at.format at.number at.line.items at.commented at.refused
    c.args.part.now c.requires.unended left fed

pub returns-then-becomes_remark-clause-fed : goal.returns-then-becomes_remark-clause-fed
returns-then-becomes_remark-clause-fed g c = λ text fed.
    let at = c.args.self.now in
    let remark = becomes_remark g.R.LineFormat.rules at.line.items c.args.part.now c.deref.result.now
    c.becomes_remark.result true c.deref.ensures.value c.becomes_remark.ensures c.if-becomes_remark.true in
    fed-remark g.R.LineFormat.rules g.R.LineFormat.has_read text at.format at.number at.line.items at.commented
    at.refused c.args.part.now c.clear.new.self.items c.requires.unended c.if-self.false remark
    c.clear.ensures.items fed

pub returns-clause-fed : goal.returns-clause-fed
returns-clause-fed g c = λ text fed.
    let at = c.args.self.now in
    let part = c.args.part.now in
    let line = c.in_ok-extend_from_slice.ensures.items ∙ ap (λ plain. at.line.items ++ plain) c.before_comment-plain.ensures in
    let commented = ap (λ plain. nat_lt (length plain) (length part)) c.before_comment-plain.ensures ∙ uncommented-shorter part in
    let none = becomes_remark g.R.LineFormat.rules at.line.items part c.deref.result.now c.becomes_remark.result false
    c.deref.ensures.value c.becomes_remark.ensures c.if-becomes_remark.false in
    fed-part g.R.LineFormat.rules g.R.LineFormat.has_read text at.format at.number at.line.items at.commented at.refused
    part c.extend_from_slice.new.self.items _ c.requires.unended c.if-self.false none line commented fed
