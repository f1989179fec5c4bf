use Rattle.std.proofs.Common.{List, ℕ, refl, subst}
use Rattle.cert_text.specs.Contents.{Certificate}
use Rattle.input_kinds.specs.Kinds.{GivesModel}
use Rattle.report_cli.specs.RightFor.{IsRightForInput}
use Rattle.report_cli.proofs.Certified.{right_for}
use Rattle.report_cli.proofs.output.Output.certificate.Goals as goal

pub returns-clause-right : goal.returns-clause-right
returns-clause-right g c =
    let p = g.F.Field.modulus in
    let kind = c.args.kind in
    let text : List ℕ = c.args.text.items in
    let version = c.version_of.result in
    let certificate : Certificate =
    record { version = version; modulus = p; kind = kind; echo = c.from_vec.result; ccf = c.in_ok-ccf.ccf } in
    let of_input = subst (λ text. GivesModel p kind text c.in_ok-model.model) c.deref.ensures.value c.in_ok-model.ensures.model in
    let promise = c.in_ok-ccf.ensures in
    let right = right_for p version kind text c.in_ok-model.model c.in_ok-layered.layered c.from_vec.result c.in_ok-ccf.ccf of_input c.in_ok-layered.ensures
    c.from_vec.ensures c.requires c.is_in_form.ensures
    promise.shape promise.transform promise.pair_and_rank promise.block_triangular_form promise.ideals promise.canonical_listing in (
      kind,
      c.args.named,
      refl,
      subst (λ v. IsRightForInput p v kind text certificate) c.version_of.ensures right,
    )
