use Rattle.std.proofs.Common.{inl, inr}
use Rattle.residue_theory.proofs.SetLaws.{differ}
use Rattle.mixed_pair_laws.proofs.TableauParts.{full_columns-rank}
use Rattle.mixed_pair_laws.proofs.part_laws.full_columns_show_the_rank.Goals as goal

pub returns : goal.returns
returns c p prime L S U F tab R D X holds each = full_columns-rank p prime L S U F tab R D X holds.0 holds.1
    (λ j jl h b m. elim (each j jl h) [ inl e ↦ differ b e | inr e ↦ differ m e ])
