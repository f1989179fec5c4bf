use Rattle.mixed_augmentation_laws.proofs.Routes.{end-free_row, free_row-end}
use Rattle.mixed_augmentation_laws.proofs.ends_have_a_free_row.Goals as goal

pub returns : goal.returns
returns c p L F x = (end-free_row p L F x, free_row-end p L F x)
