use Rattle.std.proofs.Common.{ap, sym, ◌∙◌}
use Rattle.sparse_t.specs.Incidences.{incidence_rows}
use Rattle.cert_checker.proofs.FormSizes.{pattern-as, symbols_as}
use Rattle.cert_checker.proofs.rules.prints_symbols.Goals as goal

pub has_symbols-requires : goal.has_symbols-requires
has_symbols-requires g c =
    let form = c.args.form.now in
    let t = c.symbols.result.now in
    pattern-as form.shape.t_rows form.shape.columns (incidence_rows t) t.width form.t c.as_slice.result.now (c.as_slice.ensures ∙ c.t.ensures.t)
    c.t.ensures.ccf.t
    (c.requires.t_rows ∙ sym (ap incidence_rows c.symbols.ensures))
    (c.requires.columns ∙ sym c.are_layers.ensures.same_columns ∙ sym (ap (λ m. m.width) c.symbols.ensures))

pub returns : goal.returns
returns g c =
    let form = c.args.form.now in
    let layered = c.args.layered.now in
    let same = symbols_as layered.t c.symbols.result.now layered.q.width form.t c.as_slice.result.now (c.as_slice.ensures ∙ c.t.ensures.t)
    c.symbols.ensures c.are_layers.ensures.same_columns in
    (λ h. same.0 (c.has_symbols.ensures.0 h), λ h. c.has_symbols.ensures.1 (same.1 h))
