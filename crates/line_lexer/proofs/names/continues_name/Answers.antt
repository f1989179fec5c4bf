use Rattle.std.proofs.Common.{nat_eq, slice_index_or, refl}
use Rattle.std.proofs.lemmas.Bool.{agree_below_at}
use Rattle.line_lexer.specs.Names.{continues_name}
use Rattle.line_lexer.specs.declared.names.TheConstants.{CONTINUES_NAME}
use Rattle.line_lexer.proofs.names.continues_name.Goals as goal

pub returns : goal.returns
returns c = agree_below_at (λ byte. nat_eq (slice_index_or CONTINUES_NAME byte 0) 1) continues_name 256 c.args.byte refl c.ranges.byte.fits
