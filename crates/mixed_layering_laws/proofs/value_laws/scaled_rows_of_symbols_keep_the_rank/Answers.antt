use Rattle.std.proofs.Common.{◌+◌}
use Rattle.linear_algebra_laws.proofs.Kernels.{kernel-sym, rank_of-kernel}
use Rattle.mixed_matrices.specs.LayeredMatrices.{layered_value}
use Rattle.mixed_layering_laws.proofs.ScaledRows.{scaled-kernel}
use Rattle.mixed_layering_laws.proofs.value_laws.scaled_rows_of_symbols_keep_the_rank.Goals as goal

pub returns : goal.returns
returns c p prime L f w u scaled X r = (
  rank_of-kernel p (L.q_rows + L.t_rows) L.columns (layered_value L w) (layered_value L u) X r (scaled-kernel p prime L f w u scaled),
  rank_of-kernel p (L.q_rows + L.t_rows) L.columns (layered_value L u) (layered_value L w) X r
      (kernel-sym p (L.q_rows + L.t_rows) L.columns (layered_value L w) (layered_value L u) (scaled-kernel p prime L f w u scaled)),
)
