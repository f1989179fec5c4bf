use Rattle.std.proofs.Common.{◌<◌, ◌++◌, ◌∷◌, [], All, length, map, take, sym, ap, subst, ◌∙◌, arith}
use Rattle.std.specs.String.{string_bytes}
use Rattle.std.proofs.lemmas.List.{length-map, map-append, take_more}
use Rattle.std.proofs.lemmas.List.Elements.{All-push}
use Rattle.term_model.proofs.Adding.{text_at}
use Rattle.netlist_reader.specs.Numbers.{IsNode, IsSeen, node_named}
use Rattle.netlist_reader.proofs.Numbering.{named_found}
use Rattle.netlist_reader.proofs.places.numbers_of.Goals as goal

pub loop-node-preserved : goal.loop-node-preserved
loop-node-preserved c =
    let seen = c.args.seen.now in
    let nodes = map string_bytes c.args.nodes.now in
    let i = c.loop-node.node-index in
    let within : i < length nodes = omega (arith, c.loop-node-test.true, length-map c.args.nodes.now string_bytes) in
    let is = text_at c.args.nodes.now i c.node-item.result c.deref.result.now c.loop-node-test.true c.node-item.is c.deref.ensures in
    let found = named_found seen c.deref.result.now c.find.result (subst (IsSeen seen) is (c.requires i [] within)) (sym c.find.ensures.place) in
    record {
      named = ap (map (node_named seen)) c.in_ok-push.ensures.items
          ∙ map-append (node_named seen) c.loop-node.numbers.items (c.find.result ∷ [])
          ∙ (λ k. c.loop-node.invariant.named k ++ found.0 k ∷ [])
          ∙ ap (λ last. take i nodes ++ last ∷ []) (sym is)
          ∙ sym (take_more nodes i [] within);
      within = subst (All (IsNode seen)) (sym c.in_ok-push.ensures.items)
          (All-push (IsNode seen) c.loop-node.numbers.items c.find.result c.loop-node.invariant.within found.1);
    }
