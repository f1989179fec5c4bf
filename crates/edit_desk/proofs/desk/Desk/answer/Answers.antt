use Rattle.std.proofs.Common.{rules, ◌≡◌, ◌<◌, length, None, Some, refl, sym, subst, ◌∙◌}
use Rattle.std.proofs.lemmas.Result.{IfErr-weaker, IfOk-weaker}
use Rattle.model_edits.specs.Commands.{line_front_rule}
use Rattle.model_edits.specs.Orders.{IsSaidOrder}
use Rattle.edit_desk.specs.Answers.{models_of}
use Rattle.edit_desk.proofs.DeskLaws.{asked, asked-ticked, changed, front-refused, if-ok-both, model-below, on_broken, refused, ticked, written-models}
use Rattle.edit_desk.proofs.desk.Desk.answer.Goals as goal

pub returns-in_err-order-clause-refused : goal.returns-in_err-order-clause-refused
returns-in_err-order-clause-refused g c =
    let why = c.in_err-order.field-0.0 in
    let broken : line_front_rule c.len.result c.args.line.now ≡ Some why = c.in_err-order.ensures in
    let refused = front-refused g.F.Field.modulus c.len.result c.self.inside.held.items c.args.self.now c.args.line.now why
    c.self.view_is (c.len.ensures ∙ c.self.inside.held.ok.0) broken in
    search rules

pub ask_model-requires : goal.ask_model-requires
ask_model-requires g c =
    let front : line_front_rule c.len.result c.args.line.now ≡ None = search rules in
    let said : IsSaidOrder c.len.result c.args.line.now c.in-Some.order = search rules in
    let below = model-below g.F.Field.modulus c.len.result c.self.inside.held.items c.args.self.now c.args.line.now
    c.in-Some.order c.self.view_is (c.len.ensures ∙ c.self.inside.held.ok.0) front said in
    subst (λ items. c.in-Some.order.model < length items) (sym c.deref.ensures.value) below

pub change_model-requires : goal.change_model-requires
change_model-requires g c =
    let front : line_front_rule c.len.result c.args.line.now ≡ None = search rules in
    let said : IsSaidOrder c.len.result c.args.line.now c.in-Some.order = search rules in
    let below = model-below g.F.Field.modulus c.len.result c.self.inside.held.items c.args.self.now c.args.line.now
    c.in-Some.order c.self.view_is (c.len.ensures ∙ c.self.inside.held.ok.0) front said in
    subst (λ items. c.in-Some.order.model < length items) (sym c.deref_mut.ensures.value) below

pub returns-in_ok-ask_model-in-Ask-clause-reply : goal.returns-in_ok-ask_model-in-Ask-clause-reply
returns-in_ok-ask_model-in-Ask-clause-reply g c =
    let front : line_front_rule c.len.result c.args.line.now ≡ None = search rules in
    let said : IsSaidOrder c.len.result c.args.line.now c.in-Some.order = search rules in
    asked g.F.Field.modulus c.len.result c.deref.result.now c.args.self.now c.args.line.now c.in-Some.order
    (subst (λ items. models_of items ≡ c.args.self.now) (sym c.deref.ensures.value) c.self.view_is)
    (subst (λ items. c.len.result ≡ length items) (sym c.deref.ensures.value) (c.len.ensures ∙ c.self.inside.held.ok.0)) front said
    c.in_ok-ask_model-in-Ask.field-0 c.in-Ask.is c.in_ok-ask_model-in-Ask.ensures

pub returns-in_ok-ask_model-in-Ask-clause-ticks : goal.returns-in_ok-ask_model-in-Ask-clause-ticks
returns-in_ok-ask_model-in-Ask-clause-ticks g c =
    asked-ticked g.F.Field.modulus c.args.self.now c.args.self.now c.args.line.now _ _ c.args.steps.now c.args.steps.now
    c.in_ok-ask_model-in-Ask.field-0 c.in_ok-ask_model-in-Ask.ensures refl refl

pub returns-in-Change-clause-reply : goal.returns-in-Change-clause-reply
returns-in-Change-clause-reply g c =
    let front : line_front_rule c.len.result c.args.line.now ≡ None = search rules in
    let said : IsSaidOrder c.len.result c.args.line.now c.in-Some.order = search rules in
    IfOk-weaker c.change_model.result _ _ (λ reply at.
    changed g.F.Field.modulus c.len.result c.deref_mut.result.now c.args.self.now c.args.line.now c.in-Some.order
    (subst (λ items. models_of items ≡ c.args.self.now) (sym c.deref_mut.ensures.value) c.self.view_is)
    (subst (λ items. c.len.result ≡ length items) (sym c.deref_mut.ensures.value) (c.len.ensures ∙ c.self.inside.held.ok.0)) front said
    c.in-Change.edit c.in-Change.is c.change_model.new.held _ reply
    (written-models c.self.inside.held c.change_model.new.held g.F.Field.modulus c.in-Some.order.model _ _ reply
    c.deref_mut.result.now c.deref_mut.ensures.value (sym c.self.inside.held.ok.0) at) at)
    c.change_model.ensures.changed

pub returns-in-Change-clause-refused : goal.returns-in-Change-clause-refused
returns-in-Change-clause-refused g c =
    let front : line_front_rule c.len.result c.args.line.now ≡ None = search rules in
    let said : IsSaidOrder c.len.result c.args.line.now c.in-Some.order = search rules in
    IfErr-weaker c.change_model.result _ _ (λ fault. on_broken fault _ _ (λ why.
    refused g.F.Field.modulus c.len.result c.deref_mut.result.now c.args.self.now c.args.line.now c.in-Some.order
    (subst (λ items. models_of items ≡ c.args.self.now) (sym c.deref_mut.ensures.value) c.self.view_is)
    (subst (λ items. c.len.result ≡ length items) (sym c.deref_mut.ensures.value) (c.len.ensures ∙ c.self.inside.held.ok.0)) front said
    c.in-Change.edit c.in-Change.is why)) c.change_model.ensures.refused

pub returns-in-Change-clause-ticks : goal.returns-in-Change-clause-ticks
returns-in-Change-clause-ticks g c =
    let front : line_front_rule c.len.result c.args.line.now ≡ None = search rules in
    let said : IsSaidOrder c.len.result c.args.line.now c.in-Some.order = search rules in
    if-ok-both c.change_model.result _ _ _ (λ reply at within.
    ticked g.F.Field.modulus c.len.result c.deref_mut.result.now c.args.self.now c.args.line.now c.in-Some.order
    (subst (λ items. models_of items ≡ c.args.self.now) (sym c.deref_mut.ensures.value) c.self.view_is)
    (subst (λ items. c.len.result ≡ length items) (sym c.deref_mut.ensures.value) (c.len.ensures ∙ c.self.inside.held.ok.0)) front said
    c.in-Change.edit c.in-Change.is c.change_model.new.held _ reply _ c.args.steps.now c.change_model.new.steps
    (written-models c.self.inside.held c.change_model.new.held g.F.Field.modulus c.in-Some.order.model _ _ reply
    c.deref_mut.result.now c.deref_mut.ensures.value (sym c.self.inside.held.ok.0) at) within at)
    c.change_model.ensures.changed c.change_model.ensures.steps
