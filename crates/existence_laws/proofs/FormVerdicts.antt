-- The first rule that a form breaks is found, and with it the verdict on the form.
use Rattle.std.proofs.Common.{ℕ, zero, suc, ◌+◌, ◌≤◌, ◌⊎◌, List, length, inl, inr, refl, sym, subst, slice_index, add-one, arith}
use Rattle.mixed_layering_laws.proofs.LayeringExists.{layered_matrix_exists}
use Rattle.mixed_matrices.specs.Arcs.{is_end, is_free, leads_to}
use Rattle.mixed_matrices.specs.CheckerRules.{block_of, in_first, in_last}
use Rattle.mixed_matrices.specs.LayeredMatrices.{LayeredMatrix}
use Rattle.mixed_matrices.specs.Layerings.{IsLayeredMatrixOf, Origins}
use Rattle.mixed_matrices.specs.Models.{MixedMatrix}
use Rattle.cert_text.specs.Contents.{Contents}
use Rattle.cert_text.specs.Ranges.{IsCcf}
use Rattle.cert_text.specs.Readings.{StandsOnce, column_lists, lower_of, matrix_of, parts_of, place_of, tableau_of}
use Rattle.cert_text.specs.Right.{HasShape}
use Rattle.cert_text.specs.Rules.{HasLowerLists, HasReasons, LeadsDown}
use Rattle.cert_text.proofs.PrintedRules.{lower-before}
use Rattle.linear_algebra.specs.Products.{identity, product}
use Rattle.part_rules.specs.Parts.{AreNumbered}
use Rattle.cert_checker.specs.Answers.{IsRejected, IsRightFor}
use Rattle.cert_checker.specs.Checking.{IsFirstBrokenRule, KeepsFirst, KeepsRule}
use Rattle.part_checker.specs.Told.{TellsParts}
use Rattle.cert_checker.proofs.FirstBroken.{more-kept, next-broken, none-kept}
use Rattle.cert_checker.proofs.OneVerdict.{kept-for, rejected-for}
use Rattle.part_checker.proofs.PartNumbers.{parts-numbered}
use Rattle.existence_laws.specs.Verdicts.{EachFormHasAVerdict}
use Rattle.existence_laws.proofs.Deciding.{Decided, equal}
use Rattle.existence_laws.proofs.Lists.{values-at, values-long, values_of}
use Rattle.existence_laws.proofs.ListsDecided.{lists}
use Rattle.existence_laws.proofs.RulesDecided.{agreeing, down, matching, once, placed_rows, product_is, reasons, shape, units}

module _ (p : ℕ) (M : MixedMatrix) (L : LayeredMatrix) (c : Contents) (is : IsCcf p c) where
  -- the number of the part of each column
  part_at : ℕ → ℕ
  part_at x = place_of (column_lists c) x + 1

  parts : List ℕ
  parts = values_of part_at c.shape.columns

  numbered : HasShape M L c → StandsOnce L.columns (column_lists c) →
      AreNumbered L.columns (length c.blocks) (in_first (parts_of c)) (in_last (parts_of c)) (block_of (parts_of c)) (slice_index parts)
  unfolding parts part_at
  numbered sizes stands = subst
      (λ n. AreNumbered n (length c.blocks) (in_first (parts_of c)) (in_last (parts_of c)) (block_of (parts_of c)) (slice_index parts))
      sizes.columns (parts-numbered p c is parts told)
    where
      told : TellsParts c parts
      told = record {
        once = subst (λ n. StandsOnce n (column_lists c)) (sym sizes.columns) stands;
        count = values-long part_at c.shape.columns;
        part = λ x xl. values-at part_at c.shape.columns x 0 xl;
      }

  lower-lists : KeepsFirst p M L c 10 → Decided (HasLowerLists p L c)
  lower-lists kept = lists L.columns (length c.blocks) (in_first (parts_of c)) (in_last (parts_of c)) (block_of (parts_of c)) (slice_index parts)
      (numbered (kept 0 (omega arith)) (kept 6 (omega arith))) (leads_to p L (tableau_of c)) (is_free (tableau_of c)) (is_end p L (tableau_of c)) (lower_of c)
      (λ k l h. (lower-before p c is k l h).0) (kept 8 (omega arith)) (kept 9 (omega arith))

  rule-decided : (k : ℕ) → KeepsFirst p M L c k → Decided (KeepsRule p M L c k)
  rule-decided zero kept = shape M L c
  rule-decided (suc zero) kept = agreeing p L.q_rows L.q_rows (product L.q_rows (matrix_of c.s) (matrix_of c.u)) identity
  rule-decided (suc (suc zero)) kept = product_is p L c
  rule-decided (suc (suc (suc zero))) kept = units p L c
  rule-decided (suc (suc (suc (suc zero)))) kept = matching L c
  rule-decided (suc (suc (suc (suc (suc zero))))) kept = equal (c.rank + L.columns) (M.columns + (length c.base + length c.mates))
  rule-decided (suc (suc (suc (suc (suc (suc zero)))))) kept = once L.columns (column_lists c)
  rule-decided (suc (suc (suc (suc (suc (suc (suc zero))))))) kept = placed_rows L c
  rule-decided (suc (suc (suc (suc (suc (suc (suc (suc zero)))))))) kept = down p L c
  rule-decided (suc (suc (suc (suc (suc (suc (suc (suc (suc zero))))))))) kept = reasons p L c
  rule-decided (suc (suc (suc (suc (suc (suc (suc (suc (suc (suc zero)))))))))) kept = lower-lists kept
  rule-decided (suc (suc (suc (suc (suc (suc (suc (suc (suc (suc (suc k))))))))))) kept = inl tt

  pub kept_or_broken : (n : ℕ) → n ≤ 11 → KeepsFirst p M L c n ⊎ ((rule : ℕ) × IsFirstBrokenRule p M L c rule)
  kept_or_broken zero few = inl (none-kept p M L c)
  kept_or_broken (suc n) few = go (kept_or_broken n (omega (arith, few)))
    where
      here : KeepsFirst p M L c n → Decided (KeepsRule p M L c n) → KeepsFirst p M L c (suc n) ⊎ ((rule : ℕ) × IsFirstBrokenRule p M L c rule)
      here before (inl kept) = inl (more-kept p M L c n (suc n) (sym (add-one n)) before kept)
      here before (inr broken) = inr (n + 2, next-broken p M L c n (n + 2) refl (omega (arith, few)) before broken)

      go : KeepsFirst p M L c n ⊎ ((rule : ℕ) × IsFirstBrokenRule p M L c rule) → KeepsFirst p M L c (suc n) ⊎ ((rule : ℕ) × IsFirstBrokenRule p M L c rule)
      go (inl before) = here before (rule-decided n before)
      go (inr broken) = inr broken

-- from one layered matrix to each one, by what is said of both outcomes
verdict-by : (p : ℕ) (M : MixedMatrix) (L : LayeredMatrix) (c : Contents) → IsCcf p c → (KeepsFirst p M L c 11 → IsRightFor p M c) →
    ((rule : ℕ) → IsFirstBrokenRule p M L c rule → IsRejected p M c rule) → IsRightFor p M c ⊎ ((rule : ℕ) × IsRejected p M c rule)
verdict-by p M L c is right rejected = elim (kept_or_broken p M L c is 11 (omega arith)) [
  | inl kept ↦ inl (right kept)
  | inr broken ↦ inr (broken.0, rejected broken.0 broken.1)
]

pub has-verdict : EachFormHasAVerdict
has-verdict p prime big M c is = go (layered_matrix_exists M)
  where
    go : (L : LayeredMatrix) × (O : Origins) × IsLayeredMatrixOf M L O → IsRightFor p M c ⊎ ((rule : ℕ) × IsRejected p M c rule)
    go (L, O, lay) = verdict-by p M L c is (kept-for p prime big M c is L O lay) (rejected-for p prime big M c is L O lay)
