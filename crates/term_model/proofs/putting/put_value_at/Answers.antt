use Rattle.std.proofs.Common.{ap, refl, arith}
use Rattle.std.proofs.lemmas.Result.{on_ok_weaker}
use Rattle.mixed_model.specs.Names.{name_at}
use Rattle.term_model.specs.Putting.{IsPlaceOf, constant_of_value, is_symbol, term_of_value}
use Rattle.term_model.proofs.Placing.{constant_put, symbol_put, constant_refused, symbol_refused}
use Rattle.term_model.proofs.putting.put_value_at.Goals as goal

pub returns-in-Constant-clause-says : goal.returns-in-Constant-clause-says
returns-in-Constant-clause-says g c =
    let old = c.args.model.now in
    let term = term_of_value g.F.Field.number (name_at old.equations c.args.i) (name_at old.unknowns c.args.j) c.args.value in
    let place : IsPlaceOf old term.equation term.unknown c.args.i c.args.j = record {
      row = c.requires.equation;
      column = c.requires.unknown;
      equation_is = refl;
      unknown_is = refl;
    } in
    on_ok_weaker c.put_constant.result
    (constant_put g.F.Field.modulus old c.put_constant.new.self c.args.i c.args.j (g.F.Field.number c.in-Constant.constant) term c.is_model.ensures place
    (ap (constant_of_value g.F.Field.number) c.in-Constant.is) (ap is_symbol c.in-Constant.is) c.in_field.ensures)
    c.put_constant.ensures.put

pub returns-in-Constant-clause-refused : goal.returns-in-Constant-clause-refused
returns-in-Constant-clause-refused g c =
    let old = c.args.model.now in
    let term = term_of_value g.F.Field.number (name_at old.equations c.args.i) (name_at old.unknowns c.args.j) c.args.value in
    let place : IsPlaceOf old term.equation term.unknown c.args.i c.args.j = record {
      row = c.requires.equation;
      column = c.requires.unknown;
      equation_is = refl;
      unknown_is = refl;
    } in
    constant_refused g.F.Field.modulus old c.args.i c.args.j term c.put_constant.result c.is_model.ensures place c.put_constant.ensures.answer

pub returns-in-Symbol-clause-says : goal.returns-in-Symbol-clause-says
returns-in-Symbol-clause-says g c =
    let old = c.args.model.now in
    let term = term_of_value g.F.Field.number (name_at old.equations c.args.i) (name_at old.unknowns c.args.j) c.args.value in
    let place : IsPlaceOf old term.equation term.unknown c.args.i c.args.j = record {
      row = c.requires.equation;
      column = c.requires.unknown;
      equation_is = refl;
      unknown_is = refl;
    } in
    on_ok_weaker c.put_symbol.result
    (symbol_put g.F.Field.modulus old c.put_symbol.new.self c.args.i c.args.j term c.is_model.ensures place
    (ap (constant_of_value g.F.Field.number) c.in-Symbol.is) (ap is_symbol c.in-Symbol.is) (omega (arith, g.met.F.Field.odd)))
    c.put_symbol.ensures.put

pub returns-in-Symbol-clause-refused : goal.returns-in-Symbol-clause-refused
returns-in-Symbol-clause-refused g c =
    let old = c.args.model.now in
    let term = term_of_value g.F.Field.number (name_at old.equations c.args.i) (name_at old.unknowns c.args.j) c.args.value in
    let place : IsPlaceOf old term.equation term.unknown c.args.i c.args.j = record {
      row = c.requires.equation;
      column = c.requires.unknown;
      equation_is = refl;
      unknown_is = refl;
    } in
    symbol_refused g.F.Field.modulus old c.args.i c.args.j term c.put_symbol.result c.is_model.ensures place c.put_symbol.ensures.answer
