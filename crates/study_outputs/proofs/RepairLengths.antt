-- How long the text of a repair is.
use Rattle.std.proofs.Common.{◌≡◌, ℕ, zero, suc, ◌+◌, ◌*◌, ◌^◌, ◌<◌, ◌≤◌, Bool, true, false, cond, eqb, leb, List, [], ◌∷◌, length, get_or}
use Rattle.std.proofs.Common.{refl, ap, sym, subst, ◌∙◌, arith, suc-mul}
use Rattle.std.proofs.lemmas.Bool.Decides.{nat_tests}
use Rattle.std.proofs.lemmas.List.{get_or-map, get_or_default, length-map}
use Rattle.residue_theory.specs.Sets.{everything, has}
use Rattle.residue_theory.specs.Sums.{size_on, sum_on}
use Rattle.residue_theory.proofs.CountLaws.{size-everything, size-surjection}
use Rattle.residue_theory.proofs.SetLaws.{eqb_from}
use Rattle.residue_theory.proofs.SumLaws.{size_on-within}
use Rattle.mixed_matrices.specs.Layerings.{AreMembers}
use Rattle.mixed_model.specs.Models.{IsModel, MixedModel, mixed_matrix_of}
use Rattle.cert_text.specs.Contents.{Contents}
use Rattle.cert_text.specs.Ranges.{IsCcf}
use Rattle.cert_text.specs.Texts.{contents_text}
use Rattle.cert_text.specs.declared.version.Version.TheVariants.{One}
use Rattle.cert_checker.specs.Answers.{IsRightFor}
use Rattle.text_lengths.specs.Rooms.{certificate_room}
use Rattle.text_lengths.proofs.Lengths.{rising-few}
use Rattle.sparse_t.proofs.ListLaws.{has-member}
use Rattle.equation_matroid_laws.specs.GreedyChoices.{outside}
use Rattle.restricted_models.specs.Restrictions.{restricted}
use Rattle.repair_checker.specs.Costs.{AreCosts, all_costing, costing_of}
use Rattle.repair_checker.specs.Rules.{ShowsRank, cost_of_others, level_costs}
use Rattle.repair_checker.specs.declared.repair.Level.{Level}
use Rattle.repair_checker.specs.declared.repair.Repair.{Repair}
use Rattle.repair_checker.proofs.CostLists.{all-rising, rising-filter}
use Rattle.repair_texts.specs.RepairTexts.{repair_text}
use Rattle.repair_texts.specs.Rooms.{repair_room}
use Rattle.repair_texts.proofs.Lengths.{IsShortLevel, form-short, repair-text-short}
use Rattle.cheapest_repairs.specs.ShownRepairs.{IsShownRepair}

-- ---- falling numbers that stand in a list are no more than its places
-- where a number first stands
place : List ℕ → ℕ → ℕ
place [] x = 0
place (y ∷ ys) x = cond (eqb y x) 0 (suc (place ys x))

module _ (xs : List ℕ) (falling : (k : ℕ) → k + 1 < length xs → get_or xs (k + 1) 0 < get_or xs k 0) where
  first-most : (k : ℕ) → k < length xs → get_or xs k 0 + k ≤ get_or xs 0 0
  first-most zero kl = omega arith
  first-most (suc k) kl = omega (arith, less, first-most k (omega (arith, kl)))
    where
      next : k + 1 ≡ suc k
      next = omega arith

      less : get_or xs (suc k) 0 < get_or xs k 0
      less = subst (λ i. get_or xs i 0 < get_or xs k 0) next (falling k (omega (arith, kl)))

falls-on : (x : ℕ) (xs : List ℕ) → ((k : ℕ) → k + 1 < length (x ∷ xs) → get_or (x ∷ xs) (k + 1) 0 < get_or (x ∷ xs) k 0) →
    (k : ℕ) → k + 1 < length xs → get_or xs (k + 1) 0 < get_or xs k 0
falls-on x xs falling k kl =
    let next : suc k + 1 ≡ suc (k + 1) = omega arith in
    subst (λ i. get_or (x ∷ xs) i 0 < get_or xs k 0) next (falling (suc k) (omega (arith, kl)))

placed : (xs : List ℕ) → ((k : ℕ) → k + 1 < length xs → get_or xs (k + 1) 0 < get_or xs k 0) → (k : ℕ) → k < length xs →
    place xs (get_or xs k 0) ≡ k
unfolding place
placed [] falling k kl = absurd (omega (arith, kl))
placed (x ∷ xs) falling zero kl = ap (λ b. cond b 0 (suc (place xs x))) (eqb_from x x refl)
placed (x ∷ xs) falling (suc k) kl = ap (λ b. cond b 0 (suc (place xs (get_or xs k 0)))) differs
    ∙ ap suc (placed xs (falls-on x xs falling) k (omega (arith, kl)))
  where
    less : get_or xs k 0 + suc k ≤ x
    less = first-most (x ∷ xs) falling (suc k) kl

    differs : eqb x (get_or xs k 0) ≡ false
    differs = grind (arith, nat_tests, less)

falling-few : (xs among : List ℕ) → ((k : ℕ) → k + 1 < length xs → get_or xs (k + 1) 0 < get_or xs k 0) →
    ((k : ℕ) → k < length xs → has among (get_or xs k 0) ≡ true) → length xs ≤ length among
falling-few xs among falling held = omega (arith, size-everything (length xs), size-everything (length among), counted)
  where
    counted : size_on everything (length xs) ≤ size_on everything (length among)
    counted = size-surjection everything (length among) (λ j. place xs (get_or among j 0)) (length xs) everything
        (λ k kl _. let at = has-member among (get_or xs k 0) (held k kl) in (at.0, at.1, refl, ap (place xs) at.2 ∙ placed xs falling k kl))

-- ---- numbers
sum-small : (X : ℕ → Bool) (n most : ℕ) (f : ℕ → ℕ) → ((j : ℕ) → f j ≤ most) → sum_on X n f ≤ n * most
sum-small X zero most f small = omega arith
sum-small X (suc n) most f small = rw (suc-mul n most) (at (X n) refl (sum-small X n most f small))
  where
    at : (b : Bool) → X n ≡ b → sum_on X n f ≤ n * most → sum_on X (suc n) f ≤ n * most + most
    at true is rest = grind (arith, rest, small n)
    at false is rest = grind (arith, rest)

-- ---- forms of some equations of a model
module _ (p : ℕ) (model : MixedModel) (k n : ℕ) (equations : length model.equations ≤ k) (wide : length model.equations + length model.unknowns ≤ n)
    (digits : ℕ) (some : 0 < digits) (below : p < 10 ^ digits) where
  abbrev room : ℕ
  room = certificate_room One digits 0 k n

  members-few : (A : ℕ → Bool) (rows : ℕ) (at : ℕ → ℕ) (m : ℕ) → AreMembers A rows at m → m ≤ rows
  members-few A rows at m are = omega (arith, are.count, size-everything rows, size_on-within everything A rows (λ j jl h. refl))

  part-short : (list : List ℕ) → length list ≤ length model.equations → (c : Contents) → IsCcf p c →
      IsRightFor p (mixed_matrix_of (restricted model list)) c → length (contents_text c) ≤ room
  part-short list few c is right =
      let layers = right.layers in
      let rows : (mixed_matrix_of (restricted model list)).rows ≡ length list = length-map list _ in
      let q = members-few _ _ _ _ layers.q_rows in
      let t = members-few _ _ _ _ layers.t_rows in
      let s = members-few _ _ _ _ layers.auxiliary in
      let told = right.each right.layered right.origins layers in
      form-short p digits some below (mixed_matrix_of (restricted model list)) right.layered right.origins c k n is told (record {
        q_rows = omega (arith, told.shape.q_rows, q, rows, few, equations);
        t_rows = omega (arith, told.shape.t_rows, t, rows, few, equations);
        columns = omega (arith, told.shape.columns, layers.columns, s, rows, few, wide);
      })

  -- ---- the whole repair
  module _ {F : Type 0} (is : IsModel p model) (costs : List ℕ) (are : AreCosts (length model.equations) costs) (repair : Repair F)
      (shown : IsShownRepair p model costs repair) where
    kept-few : length repair.kept ≤ length model.equations
    kept-few = rising-few (length model.equations) repair.kept shown.kept.rising.rising shown.kept.rising.below

    costing-few : (least : ℕ) → length (all_costing costs least) ≤ length model.equations
    costing-few least =
        let rising = all-rising costs least in
        omega (arith, are.count, rising-few (length costs) (all_costing costs least) rising.rising rising.below)

    level-short : (j : ℕ) (d : Level F) → j < length repair.levels → IsShortLevel room (get_or repair.levels j d)
    level-short j d jl = record {
      cost = omega (arith, cost-is, small);
      rank = omega (arith, level.rank_is, ranked, kept-few, is.equations.few);
      form = part-short (all_costing costs (get_or repair.levels j d).cost) (costing-few (get_or repair.levels j d).cost)
          (get_or repair.levels j d).ccf (shown.forms.1 j d jl) level.right;
    }
      where
        level : ShowsRank p model (all_costing costs (get_or repair.levels j d).cost) (get_or repair.levels j d).ccf
            (length (costing_of costs (get_or repair.levels j d).cost repair.kept))
        level = shown.rules.reaches j d jl

        ranked : length (costing_of costs (get_or repair.levels j d).cost repair.kept) ≤ length model.equations
        ranked =
            let least = (get_or repair.levels j d).cost in
            let rising = rising-filter (λ e. leb least (get_or costs e 0)) (length model.equations) repair.kept shown.kept.rising in
            rising-few (length model.equations) (costing_of costs (get_or repair.levels j d).cost repair.kept) rising.rising rising.below

        cost-is : (get_or repair.levels j d).cost ≡ get_or (level_costs repair.levels) j 0
        cost-is = sym (get_or-map (λ (level : Level F). level.cost) repair.levels j d 0 jl)

        small : get_or (level_costs repair.levels) j 0 ≤ 999999999
        small =
            let at = has-member costs (get_or (level_costs repair.levels) j 0)
            (shown.rules.levels.some j (omega (arith, jl, length-map repair.levels (λ (level : Level F). level.cost)))) in
            omega (arith, at.2, are.small at.0)

    pub repair-fits : length (repair_text model costs repair) ≤ repair_room digits k n
    repair-fits = repair-text-short digits k n model is.equations costs (omega (arith, are.count, equations))
        (λ j d jl. omega (arith, get_or_default costs j d 0 jl, are.small j)) repair (record {
          cost = omega (arith, shown.rules.cost, total, are.count, is.equations.few);
          kept = omega (arith, kept-few, is.equations.few);
          kept_form = part-short repair.kept kept-few repair.kept_ccf shown.forms.0 shown.rules.independent.right;
          few = levels-few;
          levels = level-short;
        })
      where
        total : cost_of_others costs repair.kept ≤ length costs * 999999999
        total = sum-small (outside (has repair.kept)) (length costs) 999999999 (λ e. get_or costs e 0) are.small

        levels-few : length repair.levels ≤ 16
        levels-few = omega (
          arith,
          are.few.1,
          length-map repair.levels (λ (level : Level F). level.cost),
          falling-few (level_costs repair.levels) are.few.0 shown.rules.levels.falling held,
        )
          where
            held : (j : ℕ) → j < length (level_costs repair.levels) → has are.few.0 (get_or (level_costs repair.levels) j 0) ≡ true
            held j jl = let at = has-member costs (get_or (level_costs repair.levels) j 0) (shown.rules.levels.some j jl) in
                subst (λ x. has are.few.0 x ≡ true) at.2 (are.few.2 at.0 at.1)
