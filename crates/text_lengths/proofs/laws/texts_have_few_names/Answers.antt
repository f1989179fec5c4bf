use Rattle.matrix_reader.proofs.NameCounts.{list-names-few}
use Rattle.text_lengths.proofs.laws.texts_have_few_names.Goals as goal

pub returns : goal.returns
returns c = list-names-few
