use Rattle.cheapest_repairs.proofs.forms.form_of_all.Goals as goal

pub returns : goal.returns
returns g c = c.in_ok-form.ensures.accepted c.args.model.now c.is_model.ensures c.in_ok-layered.ensures
