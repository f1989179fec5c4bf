-- The rules of the rows and those of the parts, taken together.
use Rattle.std.proofs.Common.{◌≡◌, ℕ, ◌<◌, ◌⊎◌, List, IfErr, IfOk, Result, Ok, Err, inl, inr, refl, sym, subst, ◌∙◌, arith}
use Rattle.mixed_matrices.specs.LayeredMatrices.{LayeredMatrix}
use Rattle.mixed_matrices.specs.Models.{MixedMatrix}
use Rattle.cert_text.specs.Contents.{Contents}
use Rattle.cert_text.specs.Readings.{ColumnsDiffer, StandsOnce, column_lists}
use Rattle.cert_text.specs.Right.{HasProduct, HasShape}
use Rattle.cert_text.specs.Rules.{HasLowerLists, HasMatching, HasReasons, LeadsDown}
use Rattle.part_checker.specs.Told.{IsPrintedBy, TellsParts}
use Rattle.cert_checker.specs.Answers.{IsWhyBroken, TellsOfParts}
use Rattle.cert_checker.specs.declared.checking.CheckError.{CheckError}
use Rattle.cert_checker.specs.declared.checking.CheckError.TheVariants.{NoMemory, Reject}
use Rattle.cert_checker.specs.Checking.{IsFirstBrokenRule, KeepsFirst}
use Rattle.cert_checker.specs.Standing.{Not, TellsPlaces}
use Rattle.cert_checker.proofs.FirstBroken.{more-kept, next-broken}

module _ (p : ℕ) (M : MixedMatrix) (L : LayeredMatrix) (c : Contents) (kept : KeepsFirst p M L c 8) where
  shape : HasShape M L c
  shape = kept 0 (omega arith)

  product_is : HasProduct p L c
  product_is = kept 2 (omega arith)

  matching : HasMatching L c
  matching = kept 4 (omega arith)

  pub columns-differ : ColumnsDiffer c.base c.mates
  columns-differ = matching.differ

  pub printed : IsPrintedBy L c
  printed = record {
    q_rows = sym shape.q_rows;
    t_rows = sym shape.t_rows;
    columns = sym shape.columns;
    symbols = λ i j il jl. product_is.t i j (subst (λ n. i < n) shape.t_rows il) (subst (λ n. j < n) shape.columns jl);
  }

  pub parts-told : (parts : List ℕ) → TellsPlaces L.columns (column_lists c) parts → TellsParts c parts
  parts-told parts told = record {
    once = subst (λ n. StandsOnce n (column_lists c)) (sym shape.columns) told.once;
    count = told.count ∙ sym shape.columns;
    part = λ x xl. told.place x (subst (λ n. x < n) shape.columns xl);
  }

  pub all-kept : LeadsDown p L c → HasReasons p L c → HasLowerLists p L c → KeepsFirst p M L c 11
  all-kept down reasons lists =
      more-kept p M L c 10 11 refl (more-kept p M L c 9 10 refl (more-kept p M L c 8 9 refl kept down) reasons) lists

  pub later-broken : (rule : ℕ) → ((rule ≡ 10) × Not (LeadsDown p L c)) ⊎ ((rule ≡ 11) × LeadsDown p L c × Not (HasReasons p L c))
      ⊎ ((rule ≡ 12) × LeadsDown p L c × HasReasons p L c × Not (HasLowerLists p L c)) → IsFirstBrokenRule p M L c rule
  later-broken rule (inl (is, broken)) = next-broken p M L c 8 rule is (omega (arith, is)) kept broken
  later-broken rule (inr (inl (is, down, broken))) = next-broken p M L c 9 rule is (omega (arith, is)) (more-kept p M L c 8 9 refl kept down) broken
  later-broken rule (inr (inr (is, down, reasons, broken))) =
      next-broken p M L c 10 rule is (omega (arith, is)) (more-kept p M L c 9 10 refl (more-kept p M L c 8 9 refl kept down) reasons) broken

  -- what the rules of the parts tell, told of all rules
  pub tells-kept : (result : Result (Unit {0}) CheckError) → TellsOfParts p L c result → IfOk result (λ done. KeepsFirst p M L c 11)
  tells-kept (Ok done) told = all-kept told.0 told.1 told.2
  tells-kept (Err why) told = tt

  pub tells-broken : (result : Result (Unit {0}) CheckError) → TellsOfParts p L c result → IfErr result (IsWhyBroken p M L c)
  tells-broken (Ok done) told = tt
  tells-broken (Err (Reject rule)) told = later-broken rule told
  tells-broken (Err NoMemory) told = tt
