use Rattle.std.proofs.Common.{◌≡◌, false, ◌++◌, ◌∷◌, [], map, take, ap, ◌∙◌, sym, subst}
use Rattle.std.specs.List.{list_all}
use Rattle.std.specs.String.{string_bytes}
use Rattle.std.proofs.lemmas.List.{map-append}
use Rattle.std.proofs.lemmas.Result.{err_from_is_err_and}
use Rattle.refusals.specs.declared.Why.TheVariants.{BadName}
use Rattle.line_lexer.specs.Names.{is_node}
use Rattle.refusals.specs.Faults.{OnBroken}
use Rattle.netlist_devices.proofs.WordSteps.{bytes_of, no_node, node_more, bytes_more}
use Rattle.netlist_devices.proofs.words.read_nodes.Goals as goal

pub returns-in_err-node : goal.returns-in_err-node
returns-in_err-node c =
    let failed = err_from_is_err_and c.from_residual.result c.from_residual.ensures.1 in
    let texts = c.args.texts.now in
    rw failed.1
    (subst (λ fault. OnBroken fault (λ why. (list_all is_node (bytes_of texts) ≡ false) × (why ≡ BadName))) (sym failed.2) (
      no_node texts c.loop-text.text-index (record { ref_ptr = (0, 0); now = [] }) c.loop-text-test.true c.in_err-node.ensures.0,
      c.in_err-node.ensures.1,
    ))

pub loop-text-preserved : goal.loop-text-preserved
loop-text-preserved c =
    let texts = c.args.texts.now in
    let i = c.loop-text.text-index in
    record {
      good = node_more texts i (record { ref_ptr = (0, 0); now = [] }) c.loop-text-test.true c.loop-text.invariant.good c.in_ok-node.ensures;
      nodes = ap (map string_bytes) c.in_ok-push.ensures.items
          ∙ map-append string_bytes c.loop-text.nodes.items (c.in_ok-node-2.node ∷ [])
          ∙ ap (λ front. front ++ string_bytes c.in_ok-node-2.node ∷ []) c.loop-text.invariant.nodes
          ∙ ap (λ node. take i (bytes_of texts) ++ node ∷ []) c.in_ok-node-2.ensures.ok
          ∙ sym (bytes_more texts i (record { ref_ptr = (0, 0); now = [] }) c.loop-text-test.true);
    }
