use Rattle.std.proofs.Common.{refl, ◌∙◌}
use Rattle.part_arcs.proofs.Gathered.{keys-as, led-as, led-form}
use Rattle.part_arcs.specs.Marking.{first_numbers}
use Rattle.std.proofs.Common.{[], map}
use Rattle.part_arcs.proofs.forms.arcs_in.Goals as goal

pub returns : goal.returns
returns g c =
    let form = c.args.form.now in
    led-form form c.put_entries.new.arcs.items c.put_symbols.new.arcs.items
    (led-as (map first_numbers c.as_slice-2.result.now) (map first_numbers form.p) c.as_slice.result.now form.base c.new-arcs.result.items []
    c.put_entries.new.arcs.items
    (keys-as g.F.Field.number c.as_slice-2.result.now c.p.result.now form.p c.as_slice-2.ensures c.p.ensures.p)
    (c.as_slice.ensures ∙ c.base.ensures.base) c.new-arcs.ensures.items c.in_ok-put_entries.ensures)
    (led-as c.as_slice-4.result.now form.t c.as_slice-3.result.now form.mates c.put_entries.new.arcs.items
    c.put_entries.new.arcs.items c.put_symbols.new.arcs.items
    (c.as_slice-4.ensures ∙ c.t.ensures.t) (c.as_slice-3.ensures ∙ c.mates.ensures.mates) refl c.in_ok-put_symbols.ensures)
