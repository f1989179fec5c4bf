use Rattle.command_line.proofs.AtExamples.{analyse, layer, report, plan, check, edit, values, solve, repair, conflict, make, make_most, make_zeros}
use Rattle.command_line.proofs.AtExamples.{make_plus, make_none, make_more, make_word, make_alone, check_of_kind}
use Rattle.command_line.proofs.AtExamples.{layer_large, report_small, make_large, unknown_field, field_of_zeros}
use Rattle.command_line.proofs.AtExamples.{make_unknown_field, check_of_field, edit_of_kind, study_of_field, study_alone}
use Rattle.command_line.proofs.AtExamples.{no_word, no_kind, unknown_kind, too_many, help, help_flag, part}
use Rattle.command_line.proofs.examples.words_at_examples.Goals as goal

pub returns : goal.returns
returns c = record {
  analyse = analyse;
  layer = layer;
  report = report;
  plan = plan;
  check = check;
  edit = edit;
  values = values;
  solve = solve;
  repair = repair;
  conflict = conflict;
  make = make;
  make_most = make_most;
  make_zeros = make_zeros;
  make_plus = make_plus;
  layer_large = layer_large;
  report_small = report_small;
  make_large = make_large;
  make_none = make_none;
  make_more = make_more;
  make_word = make_word;
  make_alone = make_alone;
  check_of_kind = check_of_kind;
  edit_of_kind = edit_of_kind;
  no_word = no_word;
  no_kind = no_kind;
  unknown_kind = unknown_kind;
  unknown_field = unknown_field;
  field_of_zeros = field_of_zeros;
  make_unknown_field = make_unknown_field;
  check_of_field = check_of_field;
  study_of_field = study_of_field;
  study_alone = study_alone;
  too_many = too_many;
  help = help;
  help_flag = help_flag;
  part = part;
}
