use Rattle.std.proofs.Common.{◌+◌, ◌*◌, ◌/◌, ◌%◌, ◌<◌, length, subst, sym}
use Rattle.bit_table.specs.Bits.{Bits}
use Rattle.bit_table.proofs.BitLaws.{test_bit}
use Rattle.bit_table.proofs.table.BitTable.get_used.Goals as goal

pub returns : goal.returns
returns c =
    let t = c.self.inside in
    rw (← c.self.view_is) (test_bit t.words.items (c.args.x * t.width + c.args.y / 64) c.index.result.now (c.args.y % 64)
    (subst (λ (v : Bits). c.args.x * v.width + c.args.y / 64 < length v.words) (sym c.self.view_is) c.requires) c.index.ensures)
