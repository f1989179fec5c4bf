-- Each model whose equations have costs has a cheapest repair.
use Rattle.std.proofs.Common.{◌≡◌, ℕ, ◌<◌, ◌≤◌, Bool, true, List, [], ◌∷◌, length, map, get_or, reverse, refl, ap, sym, subst, ◌∙◌, arith, eqb, ltb}
use Rattle.std.proofs.lemmas.Bool.Decides.{nat_tests}
use Rattle.std.proofs.lemmas.List.{get_or_default, length-map}
use Rattle.std.proofs.lemmas.List.Folds.{list_any_at}
use Rattle.std.specs.List.{All, Contains}
use Rattle.std.proofs.lemmas.List.Elements.{All-map}
use Rattle.residue_theory.specs.Residues.{IsPrime}
use Rattle.residue_theory.specs.Sets.{everything, has, with_one}
use Rattle.mixed_matrices.specs.LayeredMatrices.{LayeredMatrix}
use Rattle.mixed_matrices.specs.Layerings.{IsLayeredMatrixOf, Origins}
use Rattle.mixed_matrices.specs.Models.{MixedMatrix}
use Rattle.mixed_layering_laws.proofs.LayeringExists.{layered_matrix_exists}
use Rattle.mixed_model.specs.Models.{IsModel, MixedModel, mixed_matrix_of}
use Rattle.mixed_model.specs.Names.{name_at}
use Rattle.cert_text.specs.Contents.{Contents}
use Rattle.cert_text.specs.Ranges.{AreRising, IsCcf}
use Rattle.cert_checker.specs.Answers.{IsRightFor}
use Rattle.cert_checker.proofs.OneVerdict.{right-for}
use Rattle.sparse_t.proofs.ListLaws.{has-member}
use Rattle.block_solver.proofs.RisingLists.{rising-short}
use Rattle.existence_laws.specs.Forms.{HasRightForm}
use Rattle.existence_laws.proofs.Lists.{members-are, members-has, members_of}
use Rattle.existence_laws.proofs.RightForms.{right-form}
use Rattle.equation_matroid_laws.specs.EquationRanks.{IsRankOf}
use Rattle.equation_matroid_laws.specs.GreedyChoices.{IsGreedyChoice, by_cost, earlier}
use Rattle.equation_matroid_laws.proofs.Repairs.{choice_exists, kept-independent, level-reached, levels-cheapest}
use Rattle.restricted_models.specs.Restrictions.{restricted}
use Rattle.repair_checker.specs.Costs.{AreCosts, AreLevels, all_costing}
use Rattle.repair_checker.specs.Rules.{cost_of_others, level_costs}
use Rattle.repair_checker.specs.declared.repair.Level.{Level}
use Rattle.repair_checker.specs.declared.repair.Repair.{Repair}
use Rattle.repair_checker.proofs.CostLists.{all-rising}
use Rattle.cheapest_repairs.specs.ShownRepairs.{AreKept}
use Rattle.cheapest_repairs.proofs.Falling.{rising-levels}
use Rattle.cheapest_repairs.proofs.ShownRanks.{keeps-rules}
use Rattle.study_existence_laws.specs.HasRepairs.{EachModelHasARepair, HasRepair}

-- ---- the members of a set below n
members-rise : (X : ℕ → Bool) (n : ℕ) → AreRising n (members_of X n)
members-rise X n = (members-are X n).rising

-- ---- levels
contained : (xs : List ℕ) (x : ℕ) → has xs x ≡ true → Contains xs x
contained xs x h = let at = has-member xs x h in (at.0, at.1, get_or_default xs at.0 x 0 at.1 ∙ at.2)

holds : (xs : List ℕ) (x : ℕ) → Contains xs x → has xs x ≡ true
holds xs x (k, kl, is) = list_any_at (λ item. eqb item x) xs k x kl same
  where
    same : eqb (get_or xs k x) x ≡ true
    same = grind (arith, nat_tests)

-- costs below some number have levels
levels-of : (bound : ℕ) (costs : List ℕ) → ((e : ℕ) → get_or costs e 0 < bound) → (levels : List ℕ) × AreLevels costs levels
levels-of bound costs low = (reverse once, rising-levels costs once (reverse once) (members-rise (has costs) bound).rising there back refl)
  where
    once : List ℕ
    once = members_of (has costs) bound

    there : (x : ℕ) → Contains costs x → Contains (members_of (has costs) bound) x
    there x (k, kl, is) = contained (members_of (has costs) bound) x
        (members-has (has costs) bound x (omega (arith, low k, get_or_default costs k x 0 kl, is)) ∙ holds costs x (k, kl, is))

    back : (x : ℕ) → Contains (members_of (has costs) bound) x → Contains costs x
    back x (k, kl, is) = contained costs x (sym (members-has (has costs) bound x below) ∙ holds (members_of (has costs) bound) x (k, kl, is))
      where
        below : x < bound
        below = subst (λ y. y < bound) is ((members-rise (has costs) bound).below k x kl)

-- ---- forms of some equations
record HasForm (p : ℕ) (model : MixedModel) (list : List ℕ) : Type 0 where
  form : Contents
  is : IsCcf p form
  right : IsRightFor p (mixed_matrix_of (restricted model list)) form

module _ (p : ℕ) (prime : IsPrime p) (big : 2 < p) (model : MixedModel) (is : IsModel p model) where
  form_of : (list : List ℕ) → length list ≤ 4096 → HasForm p model list
  form_of list few = go (layered_matrix_exists part)
    where
      part : MixedMatrix
      part = mixed_matrix_of (restricted model list)

      go : (L : LayeredMatrix) × (O : Origins) × IsLayeredMatrixOf (mixed_matrix_of (restricted model list)) L O → HasForm p model list
      go (L, O, layers) = told (right-form p prime big (mixed_matrix_of (restricted model list)) (omega (arith, few, length-map list (name_at model.equations)))
          is.unknowns.few L O layers)
        where
          told : HasRightForm p (mixed_matrix_of (restricted model list)) L O → HasForm p model list
          told h = record {
            form = h.form;
            is = h.is;
            right = right-for p prime big (mixed_matrix_of (restricted model list)) h.form h.is L O layers h.right;
          }

  module _ (costs : List ℕ) (are : AreCosts (length model.equations) costs) where
    abbrev M : MixedMatrix
    M = mixed_matrix_of model

    abbrev cost : ℕ → ℕ
    cost e = get_or costs e 0

    few-costing : (least : ℕ) → length (all_costing costs least) ≤ 4096
    few-costing least =
        let rising = all-rising costs least in
        omega (
          arith,
          is.equations.few,
          are.count,
          rising-short (all_costing costs least) (length costs) rising.rising (λ k kl. rising.below k 0 kl),
        )

    -- ---- the equations that are kept
    listed : (K : ℕ → Bool) → IsGreedyChoice p M (by_cost cost) everything K → AreKept p model costs (members_of K (length model.equations))
    listed K choice = record {
      choice = record {
        inside = λ _ _ _. refl;
        kept = λ e el h. told e el (choice.kept e el h);
      };
      rising = members-rise K (length model.equations);
    }
      where
        told : (e : ℕ) → e < length model.equations →
            (r s : ℕ) × IsRankOf p M (earlier (by_cost cost) everything e) r
            × IsRankOf p M (with_one (earlier (by_cost cost) everything e) e) s × (K e ≡ ltb r s) →
            (r s : ℕ) × IsRankOf p M (earlier (by_cost cost) everything e) r
            × IsRankOf p M (with_one (earlier (by_cost cost) everything e) e) s × (has (members_of K (length model.equations)) e ≡ ltb r s)
        told e el (r, s, R, S, q) = (r, s, R, S, members-has K (length model.equations) e el ∙ q)

    -- ---- the repair that keeps them
    abbrev level-of : ℕ → Level ℕ
    level-of least = record { cost = least; ccf = (form_of (all_costing costs least) (few-costing least)).form }

    costs-again : (levels : List ℕ) → level_costs (map level-of levels) ≡ levels
    costs-again [] = refl
    costs-again (level ∷ levels) = ap (λ list. level ∷ list) (costs-again levels)

    levels-right : (levels : List ℕ) →
        All (λ (level : Level ℕ). IsRightFor p (mixed_matrix_of (restricted model (all_costing costs level.cost))) level.ccf) (map level-of levels)
    levels-right levels = All-map (λ (level : Level ℕ). IsRightFor p (mixed_matrix_of (restricted model (all_costing costs level.cost))) level.ccf)
        level-of levels (λ k d kl. (form_of (all_costing costs (get_or levels k d)) (few-costing (get_or levels k d))).right)

    levels-in-form : (levels : List ℕ) → All (λ (level : Level ℕ). IsCcf p level.ccf) (map level-of levels)
    levels-in-form levels = All-map (λ (level : Level ℕ). IsCcf p level.ccf) level-of levels
        (λ k d kl. (form_of (all_costing costs (get_or levels k d)) (few-costing (get_or levels k d))).is)

    module _ (kept levels : List ℕ) (keeps : AreKept p model costs kept) (falling : AreLevels costs levels) where
      kept-form : HasForm p model kept
      kept-form = form_of kept (omega (
        arith,
        is.equations.few,
        rising-short kept (length model.equations) keeps.rising.rising (λ k kl. keeps.rising.below k 0 kl),
      ))

      abbrev repair : Repair ℕ
      repair = record {
        kept = kept;
        cost = cost_of_others costs kept;
        kept_ccf = kept-form.form;
        levels = map level-of levels;
      }

      repair-of : HasRepair p model costs
      repair-of = record {
        repair = repair;
        is = record {
          kept = keeps;
          cheapest = levels-cheapest p prime M big cost (has kept) (kept-independent p prime M big cost (has kept) keeps.choice)
              (λ e _ _. level-reached p prime M big cost (has kept) keeps.choice (cost e));
          rules = keeps-rules p prime big model costs kept are.count keeps.rising keeps.choice repair refl
              (subst (AreLevels costs) (sym (costs-again levels)) falling) (levels-right levels) kept-form.right refl;
          forms = (kept-form.is, levels-in-form levels);
        };
      }

pub has-repair : EachModelHasARepair
has-repair p prime big model is costs are = go (choice_exists p prime (mixed_matrix_of model) (by_cost (λ e. get_or costs e 0)) everything)
    (levels-of 1000000000 costs (λ e. omega (arith, are.small e)))
  where
    go : (K : ℕ → Bool) × IsGreedyChoice p (mixed_matrix_of model) (by_cost (λ e. get_or costs e 0)) everything K →
        (levels : List ℕ) × AreLevels costs levels → HasRepair p model costs
    go (K, choice) (levels, falling) = repair-of p prime big model is costs are (members_of K (length model.equations)) levels
        (listed p prime big model is costs are K choice) falling
