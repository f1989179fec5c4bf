use Rattle.std.proofs.Common.{◌≡◌, ℕ, true, nat_eq, refl, subst, arith}
use Rattle.std.proofs.lemmas.Bool.Decides.{nat_tests}
use Rattle.residue_theory.proofs.SetLaws.{differ}
use Rattle.mixed_model.specs.Models.{MixedModel, mixed_matrix_of}
use Rattle.cert_checker.specs.Answers.{IsRejected, IsRightFor, IsWhyNot}
use Rattle.cert_checker.proofs.OneVerdict.{not-both}
use Rattle.restricted_models.specs.Restrictions.{restricted}
use Rattle.repair_checker.proofs.checking.shows_rank.Goals as goal

same : (x y z : ℕ) → nat_eq x y ≡ true → x ≡ z → z ≡ y
same x y z told is = grind (arith, nat_tests)

told : (x y z : ℕ) → x ≡ z → z ≡ y → nat_eq x y ≡ true
told x y z is rank = grind (arith, nat_tests)

pub returns-in-Ok : goal.returns-in-Ok
returns-in-Ok g c = (
  λ equal. record {
    right = subst (λ (part : MixedModel). IsRightFor g.F.Field.modulus (mixed_matrix_of part) c.args.ccf.now) c.in_ok-part.ensures
        c.in-Ok.ensures.right;
    rank_is = same c.rank.result c.args.rank c.args.ccf.now.rank equal c.rank.ensures.rank;
  },
  λ shown. told c.rank.result c.args.rank c.args.ccf.now.rank c.rank.ensures.rank shown.rank_is,
)

pub returns-in-Err-Reject : goal.returns-in-Err-Reject
returns-in-Err-Reject g c =
    let model = mixed_matrix_of (restricted c.args.model.now c.args.equations.now) in
    let rule = c.in-Err-Reject.field-0-0 in
    let why : IsRejected g.F.Field.modulus (mixed_matrix_of c.in_ok-part.part) c.args.ccf.now rule =
    subst (IsWhyNot g.F.Field.modulus (mixed_matrix_of c.in_ok-part.part) c.args.ccf.now) c.in-Err-Reject.field-0-is c.in-Err-Reject.ensures.rejected in (
      (λ never. absurd (differ refl never)),
      (λ shown. absurd (not-both g.F.Field.modulus g.met.F.Field.prime g.met.F.Field.odd model c.args.ccf.now c.is_in_form.ensures shown.right rule
          (subst (λ (part : MixedModel). IsRejected g.F.Field.modulus (mixed_matrix_of part) c.args.ccf.now rule) c.in_ok-part.ensures why))),
    )
