-- What was reached in vain, before a pair gains a column and after it.
use Rattle.std.proofs.Common.{◌≡◌, ◌<◌, ◌∙◌, ℕ, Bool, false, true, inl, inr, sym, subst}
use Rattle.residue_theory.proofs.SetLaws.{both-first, both-second, both_true, differ}
use Rattle.residue_theory.proofs.SumLaws.{nat_cases}
use Rattle.exchange_graph.specs.Sweeps.{IsLeftOut}
use Rattle.mixed_matrices.specs.Arcs.{is_end, is_free, leads_to}
use Rattle.mixed_matrices.specs.LayeredMatrices.{LayeredMatrix}
use Rattle.mixed_matrices.specs.Tableaus.{Tableau, HasTableau}
use Rattle.mixed_augmentation_laws.specs.Sealed.{HaveStayed, KeepsSealed, IsRooted}
use Rattle.mixed_augmentation_laws.proofs.Sealed.{stayed-rooted, stayed-sealed}
use Rattle.independent_matching.specs.Sides.{IsFreeTaken}

module _ (p : ℕ) (L : LayeredMatrix) (F G : Tableau) (before : HasTableau p L F) (after : HasTableau p L G)
    (keeps : KeepsSealed p L F G) (first : ℕ) (taken : IsFreeTaken L.columns F G first) (C : ℕ → Bool) (next : ℕ)
    (V : IsLeftOut (leads_to p L F) L.columns (is_free F) (is_end p L F) C next) where
  stayed : HaveStayed p L F G C
  stayed = keeps C V.vain.closed

  rooted : IsRooted p L F C
  rooted x l h = let (s, sl, b, w) = V.vain.rooted x l h in
      (s, sl, both-second (is_free F s) (C s) b, both-first (is_free F s) (C s) b, w)

  was-free : (x : ℕ) → x < L.columns → is_free G x ≡ true → is_free F x ≡ true
  was-free x l h = elim (nat_cases x first) [
    | inl e ↦ absurd (differ (subst (λ y. is_free G y ≡ false) (sym e) taken.here) h)
    | inr ne ↦ sym (taken.others x l ne) ∙ h
  ]

  -- it is left out still
  pub left-stays : IsLeftOut (leads_to p L G) L.columns (is_free G) (is_end p L G) C next
  left-stays = record {
    vain = record {
      closed = stayed-sealed p L F G C stayed before V.vain.closed after;
      rooted = λ x l h. let (s, sl, m, f, w) = stayed-rooted p L F G C stayed before V.vain.closed rooted x l h in
          (s, sl, both_true (is_free G s) (C s) f m, w);
    };
    passed = λ x l less h. V.passed x l less (was-free x l h);
  }
