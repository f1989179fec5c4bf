use Rattle.report_cli.proofs.Making.{made-so, made-writable, unmade}
use Rattle.report_cli.proofs.running.make_over.Goals as goal

pub deliver_whole-requires : goal.deliver_whole-requires
deliver_whole-requires g c = made-writable g.F.Field.modulus c.args.size c.in-Ok.output c.in-Ok.ensures

pub returns-in-Ok : goal.returns-in-Ok
returns-in-Ok g c =
    made-so g.K.Sink g.F.Field.number g.F.Field.modulus c.args.size c.in-Ok.output c.in-Ok.ensures c.args.out.now c.deliver_whole.new.out
    c.deliver_whole.result c.deliver_whole.ensures

pub returns-in-Err : goal.returns-in-Err
returns-in-Err g c = unmade g.K.Sink g.F.Field.modulus c.args.size c.args.out.now
