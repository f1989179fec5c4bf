use Rattle.std.proofs.Common.{◌≡◌, ℕ, List, String, Global, ◌<◌, ◌+◌, [], length, map, take, get_or, ap, sym, ◌∙◌, arith}
use Rattle.std.specs.String.{string_bytes}
use Rattle.std.proofs.lemmas.List.{get_or-map, length-map}
use Rattle.std.proofs.lemmas.Result.{err_from_is_err_and}
use Rattle.line_lexer.specs.Names.{is_node}
use Rattle.refusals.specs.declared.Why.TheVariants.{TooMany}
use Rattle.netlist_devices.specs.ReaderStates.{see_node, see_nodes}
use Rattle.line_reader.proofs.Faults.{on_same}
use Rattle.netlist_devices.proofs.NodeSteps.{see_more, see_all}
use Rattle.netlist_devices.proofs.circuit.add_nodes.Goals as goal

-- the bytes of one of some texts
bytes_at : (texts : List (String Global)) (i : ℕ) (text : String Global) (bytes : List ℕ) → i < length texts →
    text ≡ get_or texts i text → bytes ≡ string_bytes text → get_or (map string_bytes texts) i [] ≡ bytes
bytes_at texts i text bytes at is same = get_or-map string_bytes texts i text [] at ∙ ap string_bytes (sym is) ∙ sym same

pub add_node-requires : goal.add_node-requires
add_node-requires c =
    let nodes = c.args.nodes.now in
    let i = c.loop-node.node-index in
    let here = bytes_at nodes i c.node-item.result c.deref.result.now c.loop-node-test.true c.node-item.is c.deref.ensures in
    ap is_node (sym here) ∙ c.requires i [] (omega (arith, c.loop-node-test.true, length-map nodes string_bytes))

pub returns-in_err-add_node-clause-full : goal.returns-in_err-add_node-clause-full
returns-in_err-add_node-clause-full c =
    let failed = err_from_is_err_and c.from_residual.result c.from_residual.ensures.1 in
    let nodes = c.args.nodes.now in
    let all = map string_bytes nodes in
    let i = c.loop-node.node-index in
    let node = c.deref.result.now in
    let seen = c.args.seen.now in
    let here = bytes_at nodes i c.node-item.result node c.loop-node-test.true c.node-item.is c.deref.ensures in
    let more = see_more seen all i (omega (arith, c.loop-node-test.true, length-map nodes string_bytes)) in
    let same : see_node c.loop-node.seen node ≡ see_nodes seen (take (i + 1) all) =
    ap (λ front. see_node front node) c.loop-node.invariant ∙ ap (see_node (see_nodes seen (take i all))) (sym here) ∙ sym more in
    rw failed.1
    (on_same (λ why. (why ≡ TooMany) × (4096 < length (see_node c.loop-node.seen node))) (λ why. (why ≡ TooMany)
    × (4096 < length (see_nodes seen all))) failed.0 c.in_err-add_node.field-0.0 failed.2
    (λ why full. (full.0, omega (arith, full.1, ap length same, see_all seen all (i + 1))))
    c.in_err-add_node.ensures.full)

pub loop-node-preserved : goal.loop-node-preserved
loop-node-preserved c =
    let nodes = c.args.nodes.now in
    let all = map string_bytes nodes in
    let i = c.loop-node.node-index in
    let node = c.deref.result.now in
    let seen = c.args.seen.now in
    let here = bytes_at nodes i c.node-item.result node c.loop-node-test.true c.node-item.is c.deref.ensures in
    let more = see_more seen all i (omega (arith, c.loop-node-test.true, length-map nodes string_bytes)) in
    c.in_ok-add_node.ensures.added ∙ ap (λ front. see_node front node) c.loop-node.invariant
    ∙ ap (see_node (see_nodes seen (take i all))) (sym here) ∙ sym more
