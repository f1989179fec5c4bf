use Rattle.equation_choice.proofs.TellLaws.{try-marked}
use Rattle.equation_choice.proofs.chooser.Chooser.tell.Goals as goal

pub returns-clause-told : goal.returns-clause-told
returns-clause-told g c x = try-marked _ _ _ c.mark_only.new.marks c.tell_first.new.told c.tell_reached.new.told c.mark_only.ensures.marks
    c.tell_first.ensures c.tell_reached.ensures x
