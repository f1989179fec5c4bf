use Rattle.row_transform.proofs.EntryEdits.{copied}
use Rattle.row_transform.proofs.entries.Entries.copy.Goals as goal

pub returns : goal.returns
returns c = copied c.args.self.now.bits c.clear_row.new.self c.join.new.self c.args.to c.args.from c.requires.apart
    c.clear_row.ensures.cleared c.clear_row.ensures.rows c.clear_row.ensures.size c.join.ensures.joined c.join.ensures.rows
    c.join.ensures.size
