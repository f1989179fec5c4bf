use Rattle.std.proofs.Common.{◌≡◌, ◌+◌, ◌≤◌, ◌∙◌, ap, length, slice_index, subst, sym}
use Rattle.cert_text.specs.Readings.{lower_of}
use Rattle.part_rules.specs.Tests.{TellsChains}
use Rattle.bit_table.specs.Bits.{bit_in}
use Rattle.part_checker.proofs.PartNumbers.{part-range}
use Rattle.part_checker.proofs.RuleLaws.{chains-told, rule-tested, tested-rule}
use Rattle.part_checker.proofs.Views.{down-as}
use Rattle.part_checker.proofs.rules.leads_down.Goals as goal

pub arcs_are_down-requires-clause-parts : goal.arcs_are_down-requires-clause-parts
arcs_are_down-requires-clause-parts g c x low =
    let range = part-range g.F.Field.modulus c.args.form.now c.blocks-2.ensures.ccf c.args.parts.now c.requires.parts x low in
    (range.0, subst (λ n. slice_index c.args.parts.now x ≤ n + 2) (sym (ap length (c.as_slice.ensures ∙ c.blocks-2.ensures.blocks))) range.1)

pub returns : goal.returns
returns g c L P =
    let p = g.F.Field.modulus in
    let form = c.args.form.now in
    let parts = c.args.parts.now in
    let told = c.args.told.now in
    let rows : told.below.rows ≡ length form.blocks = c.requires.told.rows in
    let chains : TellsChains (lower_of form) told.below.rows (bit_in told.below) =
    subst (λ n. TellsChains (lower_of form) n (bit_in told.below)) (sym rows)
    (chains-told p form c.blocks-2.ensures.ccf parts c.requires.parts told c.requires.told) in
    let test = c.arcs_are_down.ensures (lower_of form) chains in
    let view = down-as c.deref.result.now told.arcs.arcs.items c.deref-2.result.now told.arcs.free.items
    c.deref-3.result.now told.arcs.ends.items (length parts) (slice_index parts) told.below.rows
    (length form.blocks) (lower_of form)
    c.deref.ensures.value c.deref-2.ensures.value c.deref-3.ensures.value rows in (
      λ h. tested-rule p form c.blocks-2.ensures.ccf parts c.requires.parts told c.requires.told L P (view.0 (test.0 h)),
      λ R. test.1 (view.1 (rule-tested p form c.blocks-2.ensures.ccf parts c.requires.parts told c.requires.told L P R)),
    )
