use Rattle.std.proofs.Common.{◌≡◌, ◌∷◌, ◌++◌, [], Err, Ok, sym, subst}
use Rattle.std.specs.Option.{option_map}
use Rattle.std.proofs.lemmas.Result.{err_from_is_err_and}
use Rattle.line_reader.specs.Answers.{AnswersRule}
use Rattle.line_reader.proofs.Faults.{answers_fault}
use Rattle.mixed_model.specs.Models.{SetsPlace, with_seen_unknown}
use Rattle.mixed_model.specs.Names.{seeing}
use Rattle.matrix_reader.specs.Items.{item_constant, item_symbol, unknown_of, unless_zero}
use Rattle.model_edits.specs.Commands.{added_item_rule}
use Rattle.model_edits.specs.Marks.{IsUnmarked, MarksItems, SaysItems}
use Rattle.model_edits.proofs.ItemMarks.{MarksItems-more, SaysItems-more, broken, kept}
use Rattle.model_edits.proofs.SeenLaws.{IsSeen-from}
use Rattle.model_edits.proofs.items.put_item.Goals as goal

pub returns-in_err-j-clause-put : goal.returns-in_err-j-clause-put
returns-in_err-j-clause-put g c = λ start earlier says marked.
    let failed = err_from_is_err_and c.from_residual.result c.from_residual.ensures.1 in
    let p = g.F.Field.modulus in
    let old = c.args.model.now in
    let token = c.args.token.now in
    let rule = added_item_rule p start earlier token in
    let new = c.mark.new.model in
    let left = SaysItems p start new c.args.i (earlier ++ token ∷ []) × MarksItems c.mark.new.marks new.unknowns (earlier ++ token ∷ []) in
    rw failed.1
    (subst (λ fault. AnswersRule rule left (Err fault)) (sym failed.2)
    (answers_fault rule left (IsUnmarked (seeing old.unknowns c.in-Ok.said.unknown.now) c.args.marks.now) c.in_err-j.field-0.0
    (λ why told. broken p start old c.args.i earlier c.args.marks.now token says marked why c.in-Ok.ensures.rule
    (subst (λ unknown. IsUnmarked (seeing old.unknowns unknown) c.args.marks.now why) c.in-Ok.ensures.says.unknown_is told))
    c.in_err-j.ensures.unmarked))

pub returns-clause-put : goal.returns-clause-put
returns-clause-put g c = λ start earlier says marked.
    let p = g.F.Field.modulus in
    let old = c.args.model.now in
    let token = c.args.token.now in
    let marks = c.args.marks.now in
    let new = c.set_place.new.self in
    let j = c.in_ok-j.j in
    let i = c.args.i in
    let said = c.in-Ok.ensures.says in
    let answer = subst (λ unknown. seeing old.unknowns unknown ≡ Ok j) said.unknown_is c.in_ok-j.ensures.found in
    let seen = IsSeen-from old.unknowns (unknown_of token) j answer in
    let put = subst (λ unknown. SetsPlace (with_seen_unknown old unknown) new i j (unless_zero (item_constant p token)) (item_symbol token)) said.unknown_is
    (subst (λ symbol. SetsPlace (with_seen_unknown old c.in-Ok.said.unknown.now) new i j (unless_zero (item_constant p token)) symbol) said.symbol_is
    (subst (λ constant. SetsPlace (with_seen_unknown old c.in-Ok.said.unknown.now) new i j constant c.in-Ok.said.symbol) said.constant_is
    (subst (λ mid. SetsPlace mid new i j (option_map g.F.Field.number c.in-Ok.said.constant) c.in-Ok.said.symbol) c.in_ok-j.ensures.seen
    c.in_ok-set_place.ensures.set))) in
    let is = c.in_ok-set_place.ensures.model in (
      kept p start old i earlier marks token says marked j answer c.in_ok-j.ensures.fresh c.in-Ok.ensures.rule,
      (
        SaysItems-more p start old i earlier marks token says marked j new seen c.in_ok-j.ensures.fresh is put,
        subst (λ all. MarksItems all new.unknowns (earlier ++ token ∷ [])) (sym c.in_ok-j.ensures.marked)
            (MarksItems-more p start old i earlier marks token says marked j new seen c.in_ok-j.ensures.fresh is put),
      ),
    )
