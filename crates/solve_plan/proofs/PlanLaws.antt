-- What the steps of a right form tell: in which steps entries and columns stand, and that they are square.
use Rattle.std.proofs.Common.{◌≡◌, ℕ, ◌+◌, ◌<◌, ◌≤◌, ◌↔◌, true, List, [], length, map, get_or, inl, inr, refl, ap, sym, subst, ◌∙◌, arith}
use Rattle.std.proofs.lemmas.List.{get_or-map, length-append, length-map}
use Rattle.residue_theory.proofs.SetLaws.{differ, lt_cases, not_true}
use Rattle.residue_theory.proofs.SumLaws.{nat_cases}
use Rattle.residue_theory.specs.Residues.{IsPrime}
use Rattle.residue_theory.specs.Sets.{has}
use Rattle.residue_theory.specs.Sums.{size_on}
use Rattle.linear_algebra.specs.Parts.{in_part}
use Rattle.mixed_matrices.specs.Forms.{diagonal_part, part_columns, part_rows, transformed}
use Rattle.mixed_matrices.specs.LayeredMatrices.{LayeredMatrix}
use Rattle.mixed_matrices.specs.Layerings.{IsLayeredMatrixOf, Origins}
use Rattle.mixed_matrices.specs.Models.{MixedMatrix}
use Rattle.mixed_matrices.specs.StructuralRanks.{IsLayeredRank}
use Rattle.mixed_layering.specs.Layers.{origins_of}
use Rattle.mixed_model.specs.Layers.{Layers, layered_matrix_of}
use Rattle.mixed_model.specs.Models.{mixed_matrix_of}
use Rattle.cert_text.specs.Contents.{Contents}
use Rattle.cert_text.specs.Ranges.{AreRising, IsCcf}
use Rattle.cert_text.specs.Readings.{StandsOnce, column_lists, matrix_of, parts_of, q_row_lists, t_row_lists}
use Rattle.cert_text.specs.Right.{IsRightCcf}
use Rattle.cert_text.specs.declared.part.CcfPart.{CcfPart}
use Rattle.cert_text.proofs.PrintedRules.{has-below, place-is}
use Rattle.certificate_laws.proofs.PlacedLists.{columns-long, columns-rise, place-counted, q_rows-long, q_rows-rise, t_rows-long, t_rows-rise}
use Rattle.solve_plan.specs.declared.steps.Plan.{Plan}
use Rattle.solve_plan.specs.declared.steps.Step.{Step}
use Rattle.solve_plan.specs.declared.steps.StepPart.{StepPart}
use Rattle.solve_plan.specs.declared.steps.StepPart.TheVariants.{First}
use Rattle.solve_plan.specs.PlanSteps.{AreStepsOf, HasEntryAt, combined_row, row_numbers, solved_parts, symbol_row}
use Rattle.solve_plan.specs.Plans.{IsAmongFirst, IsPlanOf, IsSquareStep, PlansEach, part_number, step_columns}
use Rattle.solve_plan.proofs.EntryPlaces.{entry-nonzero}
use Rattle.solve_plan.proofs.PlanSizes.{part-even, part-full, tri}
use Rattle.solve_plan.proofs.StepPlaces.{Descends, parts-descend, place}

module _ (p : ℕ) (prime : IsPrime p) (big : 2 < p) (M : MixedMatrix) (L : LayeredMatrix) (O : Origins) (lay : IsLayeredMatrixOf M L O)
    (c : Contents) (is : IsCcf p c) (R : IsRightCcf p M L O c) where
  abbrev items : List (StepPart × CcfPart)
  items = solved_parts c

  abbrev at : ℕ → ℕ
  at k = place c (solved_parts c) k

  D : Descends c 0 (length c.blocks + 2) (solved_parts c)
  D = parts-descend c

  -- ---- the places of the columns and rows of a step
  column-place : (x n : ℕ) → x < L.columns → n < length c.blocks + 2 → has (get_or (column_lists c) n []) x ≡ true → (parts_of c).column x ≡ n
  column-place x n xl nl h = place-is L.columns (column_lists c) R.block_triangular_form.columns x n xl (omega (arith, nl, columns-long c)) h

  q_row-place : (k i : ℕ) (of : StepPart × CcfPart) → k < length items → has (get_or items k of).1.q_rows i ≡ true →
      (i < L.q_rows) × ((parts_of c).q_row i ≡ at k)
  q_row-place k i of kl h =
      let nl : at k < length (q_row_lists c) = omega (arith, (D.within k kl).1, q_rows-long c) in
      let held : has (get_or (q_row_lists c) (at k) []) i ≡ true = subst (λ list. has list i ≡ true) (sym (D.stands k of kl).q_rows) h in
      let low : i < L.q_rows = subst (λ m. i < m) R.shape.q_rows (has-below c.shape.q_rows (get_or (q_row_lists c) (at k) []) i (q_rows-rise p c is
      (at k) [] nl).below held) in
      (low, place-is L.q_rows (q_row_lists c) R.block_triangular_form.q_rows i (at k) low nl held)

  t_row-place : (k i : ℕ) (of : StepPart × CcfPart) → k < length items → has (get_or items k of).1.t_rows i ≡ true →
      (i < L.t_rows) × ((parts_of c).t_row i ≡ at k)
  t_row-place k i of kl h =
      let nl : at k < length (t_row_lists c) = omega (arith, (D.within k kl).1, t_rows-long c) in
      let held : has (get_or (t_row_lists c) (at k) []) i ≡ true = subst (λ list. has list i ≡ true) (sym (D.stands k of kl).t_rows) h in
      let low : i < L.t_rows = subst (λ m. i < m) R.shape.t_rows (has-below c.shape.t_rows (get_or (t_row_lists c) (at k) []) i (t_rows-rise p c is
      (at k) [] nl).below held) in
      (low, place-is L.t_rows (t_row_lists c) R.block_triangular_form.t_rows i (at k) low nl held)

  -- an entry at a row of a step stands at a column of a part that is not below it
  entry-above : (k x : ℕ) (of : StepPart × CcfPart) → k < length items → x < L.columns → HasEntryAt c (get_or items k of).1 x → at k ≤ (parts_of c).column x
  entry-above k x of kl xl entry = elim (lt_cases ((parts_of c).column x) (at k)) [
    | inr more ↦ more
    | inl less ↦ absurd (elim entry [
      | inl (i, h, apart) ↦
          let row = q_row-place k i of kl h in
          entry-nonzero p c is i x (subst (λ m. i < m) (sym R.shape.q_rows) row.0) apart
          (R.transform.product_is.q i x row.0 xl ∙ ((tri p prime big M L O lay c R).empty (at k) ((parts_of c).column x) less).q i x row.0 xl row.1 refl)
      | inr (i, h, symbol) ↦
          let row = t_row-place k i of kl h in
          differ (R.transform.product_is.t i x row.0 xl ∙ ((tri p prime big M L O lay c R).empty (at k)
          ((parts_of c).column x) less).t i x row.0 xl row.1 refl) symbol
    ])
  ]

  -- each column stands in a step
  column-step : (x : ℕ) → x < L.columns → (j : ℕ) × (j < length items) × (at j ≡ (parts_of c).column x) × (has (get_or (column_lists c) (at j) []) x ≡ true)
  column-step x xl =
      let some = R.block_triangular_form.columns.some x xl in
      let nl : some.0 < length c.blocks + 2 = omega (arith, some.1, columns-long c) in
      let step = D.every some.0 x (omega arith) nl some.2 in
      (step.0, step.1, step.2 ∙ sym (column-place x some.0 xl nl some.2), subst (λ n. has (get_or (column_lists c) n []) x ≡ true) (sym step.2) some.2)

  -- steps of one place are one
  same-step : (k l : ℕ) → k < length items → l < length items → at k ≡ at l → k ≡ l
  same-step k l kl ll same = elim (lt_cases k l) [
    | inl less ↦ absurd (omega (arith, D.falls k l less ll, same))
    | inr more ↦ elim (lt_cases l k) [
      | inl less ↦ absurd (omega (arith, D.falls l k less kl, same))
      | inr equal ↦ omega (arith, more, equal)
    ]
  ]

  -- ---- the steps of these parts
  module _ {T : Type 0} (number : T → ℕ) (layers : Layers) (plan : Plan T) (are : AreStepsOf number layers c (solved_parts c) plan.steps) where
    bare : Step T
    bare = record { part = First; columns = []; rows = []; uses = [] }

    abbrev none : StepPart × CcfPart
    none = (First, record { columns = []; q_rows = []; t_rows = [] })

    item : (k : ℕ) → k < length plan.steps → k < length items
    item k kl = omega (arith, kl, are.count)

    lists-long : length (step_columns plan.steps) ≡ length plan.steps
    lists-long = length-map plan.steps (λ (step : Step T). step.columns)

    columns-at : (k : ℕ) (step : Step T) → k < length plan.steps → (get_or plan.steps k step).columns ≡ get_or (column_lists c) (at k) []
    columns-at k step kl = (are.each k none step (item k kl)).columns ∙ sym (D.stands k none (item k kl)).columns

    listed : (k : ℕ) → k < length plan.steps → get_or (step_columns plan.steps) k [] ≡ get_or (column_lists c) (at k) []
    listed k kl = get_or-map (λ (step : Step T). step.columns) plan.steps k bare [] kl ∙ columns-at k bare kl

    held : (k x : ℕ) → k < length plan.steps → has (get_or (step_columns plan.steps) k []) x ≡ true → has (get_or (column_lists c) (at k) []) x ≡ true
    held k x kl h = subst (λ list. has list x ≡ true) (listed k kl) h

    -- (1) entries stand at columns of the step or of those before
    only_solved : (k x : ℕ) (of : StepPart × CcfPart) → k < length plan.steps → x < L.columns → HasEntryAt c (get_or items k of).1 x →
        IsAmongFirst (step_columns plan.steps) (k + 1) x
    only_solved k x of kl xl entry =
        let step = column-step x xl in
        let above : at k ≤ (parts_of c).column x = entry-above k x of (item k kl) xl entry in
        let before : step.0 < k + 1 = elim (lt_cases k step.0) [
          | inl later ↦ absurd (omega (arith, D.falls k step.0 later step.1, step.2, above))
          | inr early ↦ omega (arith, early)
        ] in
        (step.0, before, subst (λ list. has list x ≡ true) (sym (listed step.0 (omega (arith, step.1, are.count)))) step.3)

    -- (3) each column stands in one step
    one-step : (x k l : ℕ) → x < L.columns → k < length plan.steps → l < length plan.steps → has (get_or (step_columns plan.steps) k []) x ≡ true →
        has (get_or (step_columns plan.steps) l []) x ≡ true → k ≡ l
    one-step x k l xl kl ll hk hl = same-step k l (item k kl) (item l ll)
        (sym (column-place x (at k) xl (D.within k (item k kl)).1 (held k x kl hk)) ∙ column-place x (at l) xl (D.within l (item l ll)).1 (held l x ll hl))

    once : StandsOnce L.columns (step_columns plan.steps)
    once = record {
      some = λ x xl.
          let step = column-step x xl in
          let low : step.0 < length plan.steps = omega (arith, step.1, are.count) in
          (step.0, omega (arith, low, lists-long), subst (λ list. has list x ≡ true) (sym (listed step.0 low)) step.3);
      one = λ x k l xl kl ll hk hl. one-step x k l xl (omega (arith, kl, lists-long)) (omega (arith, ll, lists-long)) hk hl;
    }

    own-columns : (k x : ℕ) (of : StepPart × CcfPart) → k < length plan.steps → get_or (step_columns plan.steps) k [] ≡ (get_or items k of).1.columns
    own-columns k x of kl = listed k kl ∙ (D.stands k of (item k kl)).columns

    -- (2) a step uses those that stand in steps before
    uses_earlier : (k x : ℕ) (of : StepPart × CcfPart) (step : Step T) → k < length plan.steps → x < L.columns →
        (has (get_or plan.steps k step).uses x ≡ true) ↔ (HasEntryAt c (get_or items k of).1 x × IsAmongFirst (step_columns plan.steps) k x)
    uses_earlier k x of step kl xl = (into, from)
      where
        into : has (get_or plan.steps k step).uses x ≡ true → HasEntryAt c (get_or items k of).1 x × IsAmongFirst (step_columns plan.steps) k x
        into h =
            let told = (((are.each k of step (item k kl)).uses).exact x).0 h in
            let first = only_solved k x of kl xl told.1.1 in (
              told.1.1,
              elim (nat_cases first.0 k) [
                | inl same ↦ absurd (differ told.1.0 (subst (λ list. has list x ≡ true) (own-columns k x of kl) (subst (λ j. has (get_or
                    (step_columns plan.steps) j []) x ≡ true) same first.2)))
                | inr other ↦ (first.0, omega (arith, first.1, other), first.2)
              ],
            )

        from : HasEntryAt c (get_or items k of).1 x × IsAmongFirst (step_columns plan.steps) k x → has (get_or plan.steps k step).uses x ≡ true
        from (entry, (j, jk, h)) = (((are.each k of step (item k kl)).uses).exact x).1 (
          subst (λ n. x < n) (sym R.shape.columns) xl,
          (
            not_true (has (get_or items k of).1.columns x) (λ own. absurd (omega (
              arith,
              jk,
              one-step x k j xl kl (omega (arith, jk, kl)) (subst (λ list. has list x ≡ true) (sym (own-columns k x of kl)) own) h,
            ))),
            entry,
          ),
        )

    -- (4) where M is square and of full rank, each step is
    columns-counted : (k : ℕ) (step : Step T) → k < length plan.steps →
        length (get_or plan.steps k step).columns ≡ part_columns (transformed (matrix_of c.s) L) (parts_of c) (at k)
    columns-counted k step kl =
        ap length (columns-at k step kl)
        ∙ place-counted L.columns (column_lists c) (subst (λ n. (i : ℕ) (d : List ℕ) → i < length (column_lists c) →
        AreRising n (get_or (column_lists c) i d)) R.shape.columns (columns-rise p c is))
        R.block_triangular_form.columns (at k) (omega (arith, (D.within k (item k kl)).1, columns-long c))

    q_rows-counted : (k : ℕ) → k < length items → length (get_or items k none).1.q_rows ≡ size_on (in_part (parts_of c).q_row (at k)) L.q_rows
    q_rows-counted k kl =
        ap length (sym (D.stands k none kl).q_rows)
        ∙ place-counted L.q_rows (q_row_lists c) (subst (λ n. (i : ℕ) (d : List ℕ) → i < length (q_row_lists c) →
        AreRising n (get_or (q_row_lists c) i d)) R.shape.q_rows (q_rows-rise p c is))
        R.block_triangular_form.q_rows (at k) (omega (arith, (D.within k kl).1, q_rows-long c))

    t_rows-counted : (k : ℕ) → k < length items → length (get_or items k none).1.t_rows ≡ size_on (in_part (parts_of c).t_row (at k)) L.t_rows
    t_rows-counted k kl =
        ap length (sym (D.stands k none kl).t_rows)
        ∙ place-counted L.t_rows (t_row_lists c) (subst (λ n. (i : ℕ) (d : List ℕ) → i < length (t_row_lists c) →
        AreRising n (get_or (t_row_lists c) i d)) R.shape.t_rows (t_rows-rise p c is))
        R.block_triangular_form.t_rows (at k) (omega (arith, (D.within k kl).1, t_rows-long c))

    rows-counted : (k : ℕ) (step : Step T) → k < length plan.steps →
        length (get_or plan.steps k step).rows ≡ part_rows (transformed (matrix_of c.s) L) (parts_of c) (at k)
    rows-counted k step kl =
        let part : CcfPart = (get_or items k none).1 in
        let rows = (get_or plan.steps k step).rows in
        let made = (are.each k none step (item k kl)).rows in
        sym (length-map rows (row_numbers number)) ∙ ap length made ∙ length-append (map (combined_row layers c) part.q_rows) (map
        (symbol_row layers) part.t_rows)
        ∙ ap (λ m. m + length (map (symbol_row layers) part.t_rows)) (length-map part.q_rows (combined_row layers c) ∙ q_rows-counted k (item k kl))
        ∙ ap (λ m. size_on (in_part (parts_of c).q_row (at k)) L.q_rows + m) (length-map part.t_rows (symbol_row layers) ∙ t_rows-counted k (item k kl))

    square : M.rows ≡ M.columns → M.rows ≡ c.rank → (k : ℕ) (step : Step T) → k < length plan.steps → IsSquareStep p L c (get_or plan.steps k step)
    square even full k step kl =
        let few : at k ≤ length c.blocks + 1 = omega (arith, (D.within k (item k kl)).1) in
        let number_is : part_number c (get_or plan.steps k step).part ≡ at k = ap (part_number c) (are.each k none step (item k kl)).name in
        record {
          rows = rows-counted k step kl ∙ part-even p prime big M L O lay c R even full (at k) few ∙ sym (columns-counted k step kl);
          rank = subst (λ n. IsLayeredRank p (diagonal_part (transformed (matrix_of c.s) L) (parts_of c) n) (length
              (get_or plan.steps k step).columns)) (sym number_is)
              (subst (IsLayeredRank p (diagonal_part (transformed (matrix_of c.s) L) (parts_of c) (at k))) (sym (columns-counted k step kl))
              (part-full p prime big M L O lay c R even full (at k) few));
        }

    pub steps-plan : IsPlanOf number p M L layers c plan
    steps-plan = record {
      are = are;
      only_solved = only_solved;
      uses_earlier = uses_earlier;
      once = once;
      square = square;
    }

-- steps of the parts of a right form are a plan
pub plan-made : {T : Type 0} (number : T → ℕ) (p : ℕ) → IsPrime p → 2 < p → (layers : Layers) (c : Contents) → IsCcf p c → (plan : Plan T) →
    AreStepsOf number layers c (solved_parts c) plan.steps → PlansEach number p layers c plan
plan-made number p prime big layers c is plan are model is_model layers_of right =
    steps-plan p prime big (mixed_matrix_of model) (layered_matrix_of layers)
    (origins_of layers layers_of.split) layers_of.layered c is right number layers plan are
