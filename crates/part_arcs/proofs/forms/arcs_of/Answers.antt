use Rattle.part_arcs.proofs.FormLaws.{form-arcs}
use Rattle.part_arcs.proofs.forms.arcs_of.Goals as goal

pub returns : goal.returns
returns g c = form-arcs g.F.Field.modulus c.args.form.now c.is_in_form.ensures c.requires
    c.in_ok-arcs_in.field-0.items c.in_ok-arcs_in.ensures c.in_ok-free_in.field-0.items c.in_ok-ends_in.field-0.items
    c.in_ok-free_in.ensures c.in_ok-ends_in.ensures
