use Rattle.std.proofs.Common.{ap, sym, ◌∙◌}
use Rattle.sparse_t.specs.Incidences.{incidence_rows}
use Rattle.cert_checker.proofs.FormSizes.{pairs-as}
use Rattle.cert_checker.proofs.rules.has_matching.Goals as goal

pub are_symbols-requires : goal.are_symbols-requires
are_symbols-requires g c =
    let form = c.args.form.now in
    let t = c.symbols.result.now in
    pairs-as form.shape.t_rows form.shape.columns (incidence_rows t) t.width form.mates c.as_slice-mates.result.now
    (c.as_slice-mates.ensures ∙ c.mates.ensures.mates)
    c.mates.ensures.ccf.mates (c.requires.t_rows ∙ sym (ap incidence_rows c.symbols.ensures))
    (c.requires.columns ∙ sym c.are_layers.ensures.same_columns ∙ sym (ap (λ m. m.width) c.symbols.ensures))
