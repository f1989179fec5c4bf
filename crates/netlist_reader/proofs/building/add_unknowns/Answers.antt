use Rattle.std.proofs.Common.{◌<◌, [], Err, ◌∷◌, ◌++◌, length, map, subst, ap, ◌∙◌, arith}
use Rattle.std.specs.String.{string_bytes}
use Rattle.std.proofs.lemmas.List.{length-map}
use Rattle.mixed_model.specs.Models.{MixedModel}
use Rattle.mixed_model.specs.Names.{AnswersAdd, adding}
use Rattle.term_model.proofs.Adding.{label, refused, longer, text_at}
use Rattle.netlist_reader.proofs.building.add_unknowns.Goals as goal

pub add_unknown-requires : goal.add_unknown-requires
add_unknown-requires g c =
    let names = map string_bytes c.args.names.now in
    let within : c.loop-name.name-index < length names = omega (arith, c.loop-name-test.true, length-map c.args.names.now string_bytes) in
    let is = text_at c.args.names.now c.loop-name.name-index c.name-item.result c.deref.result.now c.loop-name-test.true c.name-item.is c.deref.ensures in
    label names c.loop-name.name-index c.deref.result.now c.requires.names within is

pub want_of_memory-requires : goal.want_of_memory-requires
want_of_memory-requires g c =
    let names = map string_bytes c.args.names.now in
    let within : c.loop-name.name-index < length names = omega (arith, c.loop-name-test.true, length-map c.args.names.now string_bytes) in
    let is = text_at c.args.names.now c.loop-name.name-index c.name-item.result c.deref.result.now c.loop-name-test.true c.name-item.is c.deref.ensures in
    refused names c.loop-name.name-index c.deref.result.now c.requires.names within is c.in-Err.error
    (subst (λ all. AnswersAdd (Err c.in-Err.error) (adding all c.deref.result.now)) c.loop-name.invariant.unknowns c.in-Err.ensures.answer)

pub loop-name-preserved : goal.loop-name-preserved
loop-name-preserved g c =
    let names = map string_bytes c.args.names.now in
    let within : c.loop-name.name-index < length names = omega (arith, c.loop-name-test.true, length-map c.args.names.now string_bytes) in
    let is = text_at c.args.names.now c.loop-name.name-index c.name-item.result c.deref.result.now c.loop-name-test.true c.name-item.is c.deref.ensures in
    record {
      unknowns = ap (λ (model : MixedModel). model.unknowns) c.in_default.ensures.added
          ∙ ap (λ all. all ++ c.deref.result.now ∷ []) c.loop-name.invariant.unknowns
          ∙ longer names c.loop-name.name-index c.deref.result.now c.requires.names within is;
      equations = ap (λ (model : MixedModel). model.equations) c.in_default.ensures.added ∙ c.loop-name.invariant.equations;
      rows = ap (λ (model : MixedModel). model.rows) c.in_default.ensures.added ∙ c.loop-name.invariant.rows;
    }
