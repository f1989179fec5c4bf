use Rattle.std.proofs.Common.{◌≡◌, false, [], ◌∷◌, ◌++◌, length, None, Err, position, unwrap_or, sym, ap, ◌∙◌, subst}
use Rattle.std.specs.Option.{option_map}
use Rattle.std.specs.Str.{bytes_eq}
use Rattle.std.proofs.lemmas.Result.{err_from_is_err_and}
use Rattle.mixed_model.specs.Models.{constant_of, symbol_of}
use Rattle.mixed_model.specs.declared.errors.AddError.TheVariants.{NoMemory}
use Rattle.matrix_reader.specs.Items.{item_constant}
use Rattle.matrix_reader.specs.EquationLists.{equations_in}
use Rattle.matrix_reader.specs.Rules.{item_rule}
use Rattle.line_reader.specs.Answers.{AnswersRule}
use Rattle.matrix_reader.specs.ReaderStates.{IsWithinLine, MarkedFrom, UnmarkedFrom, PutsValue, so_far}
use Rattle.matrix_reader.proofs.MarkLaws.{Marks-from_mark}
use Rattle.matrix_reader.proofs.ItemSteps.{unmarked_item, marked_item, grown_by_value, put_refused}
use Rattle.matrix_reader.proofs.ValueLaws.{or_zero}
use Rattle.line_reader.proofs.Faults.{answers_fault}
use Rattle.matrix_reader.proofs.reader.Reader.read_item.Goals as goal

pub returns-in_err-j-clause-read : goal.returns-in_err-j-clause-read
returns-in_err-j-clause-read g c = λ before name items numbered at_line.
    let failed = err_from_is_err_and c.from_residual.result c.from_residual.ensures.1 in
    let old = c.args.self.now.model in
    let lines = c.args.self.now.last_lines.items in
    let item = c.args.token.now in
    let rule = item_rule g.F.Field.modulus before (so_far name items) item in
    let left = IsWithinLine g.F.Field.modulus before (so_far name (items ++ item ∷ [])) c.args.line c.mark.new.self.model c.mark.new.self.last_lines.items in
    rw failed.1
    (subst (λ fault. AnswersRule rule left (Err fault)) (sym failed.2)
    (answers_fault rule left (UnmarkedFrom (position (bytes_eq c.in-Ok.item.unknown.now) old.unknowns) c.args.line old lines) c.in_err-j.field-0.0
    (λ why told. unmarked_item g.F.Field.modulus before name items c.args.line old lines item at_line why c.in-Ok.ensures.rule
    (subst (λ unknown. UnmarkedFrom (position (bytes_eq unknown) old.unknowns) c.args.line old lines why) c.in-Ok.ensures.says.unknown_is told))
    c.in_err-j.ensures.unmarked))

pub returns-in_err-put_value-clause-read : goal.returns-in_err-put_value-clause-read
returns-in_err-put_value-clause-read g c = λ before name items numbered at_line.
    let failed = err_from_is_err_and c.from_residual-in_err-put_value.result c.from_residual-in_err-put_value.ensures.1 in
    let old = c.args.self.now.model in
    let lines = c.args.self.now.last_lines.items in
    let item = c.args.token.now in
    let new = c.mark.new.self.model in
    let new_lines = c.mark.new.self.last_lines.items in
    let j = c.in_ok-j.j in
    let rule = item_rule g.F.Field.modulus before (so_far name items) item in
    let left = IsWithinLine g.F.Field.modulus before (so_far name (items ++ item ∷ [])) c.args.line c.put_value.new.model c.mark.new.self.last_lines.items in
    let error = c.in_err-put_value.field-0.0 in
    let marks = Marks-from_mark g.F.Field.modulus before name items c.args.line old lines item at_line new new_lines j
    (subst (λ unknown. MarkedFrom g.F.Field.modulus
    (position (bytes_eq unknown) old.unknowns) c.args.line old new lines new_lines unknown j) c.in-Ok.ensures.says.unknown_is c.in_ok-j.ensures.marked) in
    rw failed.1
    (subst (λ fault. AnswersRule rule left (Err fault)) (sym failed.2)
    (put_refused g.F.Field.modulus before name items c.args.line old lines item at_line new new_lines j marks error rule left
    (subst (λ i. constant_of new i j ≡ None → symbol_of new i j ≡ false → error ≡ NoMemory) numbered c.in_err-put_value.ensures.refused)))

pub returns-clause-read : goal.returns-clause-read
returns-clause-read g c = λ before name items numbered at_line.
    let old = c.args.self.now.model in
    let lines = c.args.self.now.last_lines.items in
    let item = c.args.token.now in
    let new = c.mark.new.self.model in
    let new_lines = c.mark.new.self.last_lines.items in
    let last = c.put_value.new.model in
    let j = c.in_ok-j.j in
    let number = option_map g.F.Field.number c.in-Ok.item.constant in
    let symbol = c.in-Ok.item.symbol in
    let marks = Marks-from_mark g.F.Field.modulus before name items c.args.line old lines item at_line new new_lines j
    (subst (λ unknown. MarkedFrom g.F.Field.modulus
    (position (bytes_eq unknown) old.unknowns) c.args.line old new lines new_lines unknown j) c.in-Ok.ensures.says.unknown_is c.in_ok-j.ensures.marked) in (
      marked_item g.F.Field.modulus before name items c.args.line old lines item at_line new new_lines j marks c.in-Ok.ensures.rule,
      grown_by_value g.F.Field.modulus before name items c.args.line old lines item at_line new new_lines j marks last
          (subst (λ symbol. PutsValue g.F.Field.modulus new last (length (equations_in before)) j
          (item_constant g.F.Field.modulus item) symbol) c.in-Ok.ensures.says.symbol_is
          (subst (λ constant. PutsValue g.F.Field.modulus new last (length (equations_in before)) j constant symbol)
          (ap (λ constant. unwrap_or constant 0) c.in-Ok.ensures.says.constant_is ∙ or_zero (item_constant g.F.Field.modulus item))
          (subst (λ i. PutsValue g.F.Field.modulus new last i j (unwrap_or number 0) symbol) numbered c.in_ok-put_value.ensures.put))),
    )
