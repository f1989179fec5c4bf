use Rattle.std.proofs.Common.{rules}
use Rattle.mixed_model.specs.Models.{mixed_matrix_of}
use Rattle.text_writer.proofs.Putting.{text_written}
use Rattle.report_cli.proofs.ReportFacts.{rank-few, rank-many, surplus-within, undetermined-within}
use Rattle.report_cli.proofs.output.write_report.Goals as goal

pub put_report-requires : goal.put_report-requires
put_report-requires g c =
    let p = g.F.Field.modulus in
    let M = mixed_matrix_of c.args.model.now in
    let told = c.args.told.now in
    record {
      surplus = surplus-within p M told c.requires;
      undetermined = undetermined-within p M told c.requires;
      many = rank-many p M told c.requires g.met.F.Field.prime;
      few = rank-few p M told c.requires g.met.F.Field.prime;
    }

pub returns : goal.returns
returns g c =
    let same = c.put_report.ensures.same_sink in
    let written = text_written c.new-writer.ensures.nothing c.put_report.ensures c.finish.ensures in
    search rules
