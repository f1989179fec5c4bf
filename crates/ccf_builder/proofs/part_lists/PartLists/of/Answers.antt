use Rattle.std.proofs.Common.{◌≡◌, subst, length, get_or, arith}
use Rattle.std.proofs.lemmas.Option.{slice_get-get_or}
use Rattle.minimiser_lattice.specs.declared.lattice.Part.TheVariants.{First}
use Rattle.ccf_builder.specs.Placings.{ListsParts}
use Rattle.ccf_builder.proofs.PartTables.{entered-none, entered-one}
use Rattle.ccf_builder.proofs.part_lists.PartLists.of.Goals as goal

pub loop-number-init : goal.loop-number-init
loop-number-init c = entered-none c.args.parts.now c.args.blocks c.in_ok-lists.lists c.in_ok-lists.ensures

pub loop-number-preserved : goal.loop-number-preserved
loop-number-preserved c =
    let parts = c.args.parts.now in
    let number = c.loop-number.number in
    entered-one parts number c.args.blocks c.loop-number.lists c.loop-number.invariant c.enter.new.self (get_or parts number First)
    (slice_get-get_or parts number First c.loop-number-test.true) c.in_ok-enter.ensures

pub returns : goal.returns
returns c =
    let all : c.loop-number.number ≡ length c.args.parts.now = omega (arith, c.loop-number-test.false, c.loop-number.auto.number-end) in
    subst (λ n. ListsParts c.args.parts.now n c.args.blocks c.loop-number.lists) all c.loop-number.invariant
