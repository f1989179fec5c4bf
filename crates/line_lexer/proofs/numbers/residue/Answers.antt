use Rattle.std.proofs.Common.{◌≡◌, Ok, Err, sym, subst}
use Rattle.std.specs.Prelude.{Some, MatchResult}
use Rattle.line_lexer.specs.Numbers.{residue_of}
use Rattle.line_lexer.proofs.ResidueLaws.{residue_read, replaced_read}
use Rattle.line_lexer.proofs.numbers.residue.Goals as goal

pub returns : goal.returns
returns g c =
    let read = residue_read g.F.Field.modulus g.met.F.Field.prime g.F.Field.number c.args.negative c.args.fraction c.from_fraction.result
    c.from_fraction.ensures.vanish c.from_fraction.ensures.fraction c.from_fraction.ensures.below in
    let wanted = residue_of g.F.Field.modulus c.args.negative (Some c.args.fraction) in
    subst (λ result. MatchResult result (λ r. wanted ≡ Ok (g.F.Field.number r)) (λ why. wanted ≡ Err why)) (sym c.or.ensures)
    (replaced_read g.F.Field.number c.from_fraction.result wanted read)
