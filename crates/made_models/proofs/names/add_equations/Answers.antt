use Rattle.std.proofs.Common.{◌≡◌, ◌+◌, ◌<◌, ◌∷◌, IsTrue, Err, decimal, refl, sym, subst, ◌∙◌, arith}
use Rattle.mixed_model.specs.Names.{AnswersAdd, adding, is_label}
use Rattle.made_models.specs.MadeModels.{numbered_names}
use Rattle.made_models.proofs.NameLaws.{numbered-added, numbered-label}
use Rattle.made_models.proofs.names.add_equations.Goals as goal

pub add_equation-requires : goal.add_equation-requires
add_equation-requires g c =
    let is : c.deref.result.now ≡ 101 ∷ decimal (c.loop-place.place + 1) = c.deref.ensures ∙ c.in_ok-name.ensures.ok in
    let few : c.loop-place.place < 400 = omega (arith, c.loop-place-test.true, (c.requires.size).most) in
    subst (λ name. IsTrue (is_label name)) (sym is) (numbered-label 101 (c.loop-place.place + 1) refl (omega (arith, few)))

pub want_of_memory-requires : goal.want_of_memory-requires
want_of_memory-requires g c =
    let is : c.deref.result.now ≡ 101 ∷ decimal (c.loop-place.place + 1) = c.deref.ensures ∙ c.in_ok-name.ensures.ok in
    let few : c.loop-place.place < 400 = omega (arith, c.loop-place-test.true, (c.requires.size).most) in
    numbered-added 101 c.loop-place.place (omega (arith, few)) c.in-Err.error
    (subst (λ name. AnswersAdd (Err c.in-Err.error) (adding (numbered_names 101 c.loop-place.place) name)) is
    (subst (λ names. AnswersAdd (Err c.in-Err.error) (adding names c.deref.result.now)) c.loop-place.invariant.equations c.in-Err.ensures.answer))
