-- A plan of a right form keeps the ranges of its text, and its steps are few and short.
use Rattle.std.proofs.Common.{◌≡◌, ℕ, suc, ◌+◌, ◌<◌, ◌≤◌, Bool, true, false, cond, List, [], ◌∷◌, ◌++◌, length, map}
use Rattle.std.proofs.Common.{get_or, slice_index, slice_index_or, refl, ap, sym, subst, arith}
use Rattle.std.specs.List.{All}
use Rattle.std.proofs.lemmas.List.{length-append, length-map}
use Rattle.std.proofs.lemmas.List.Elements.{All-append, All-cons, All-from_get_or, All-head, All-map, All-nil, All-tail, All-weaker}
use Rattle.dense_q.specs.Tables.{height}
use Rattle.part_arcs.proofs.FormLaws.{some-has}
use Rattle.limits.specs.Limits.{column_limit}
use Rattle.text_lengths.proofs.Lengths.{rising-few, total}
use Rattle.text_lengths.proofs.TextLengths.{blocks-few, total-append, columns-total, q_rows-total, t_rows-total}
use Rattle.answer_texts.proofs.PlanLengths.{summed, sum_count, symbol_count, columns_of, sums_of, symbols_of}
use Rattle.mixed_model.specs.Layers.{Layers, layered_matrix_of}
use Rattle.mixed_model.specs.Models.{MixedModel, IsModel, mixed_matrix_of}
use Rattle.mixed_layering.specs.Layers.{AreLayersOf, origins_of}
use Rattle.cert_text.specs.Contents.{Contents}
use Rattle.cert_text.specs.Ranges.{AreEntries, IsCcf, IsPart}
use Rattle.cert_text.specs.Readings.{parts_of}
use Rattle.cert_text.specs.Right.{IsRightCcf}
use Rattle.cert_text.specs.declared.part.CcfBlock.{CcfBlock}
use Rattle.cert_text.specs.declared.part.CcfPart.{CcfPart}
use Rattle.cert_text.specs.declared.shape.Shape.{Shape}
use Rattle.solve_plan.specs.Marks.{AreMembersOf}
use Rattle.solve_plan.specs.PlanSteps.{IsStepOf, block_steps, combined_row, is_bare, row_numbers, solved_parts, symbol_row, tail_steps, step_terms}
use Rattle.solve_plan.specs.Plans.{IsPlanOf}
use Rattle.solve_plan.specs.declared.steps.Plan.{Plan}
use Rattle.solve_plan.specs.declared.steps.Step.{Step}
use Rattle.solve_plan.specs.declared.steps.StepPart.{StepPart}
use Rattle.solve_plan.specs.declared.steps.StepPart.TheVariants.{First, Block, Last}
use Rattle.solve_plan.specs.declared.steps.StepRow.{StepRow}
use Rattle.solve_plan.specs.declared.steps.StepRow.TheVariants.{Combined, Symbols}
use Rattle.answer_texts.specs.PlanRanges.{IsPartBelow, IsRowBelow, IsStepIn, IsShortRow, IsShortStep}
use Rattle.answer_texts.specs.WholeLayers.{AreWholeLayers}

-- what holds of the images of items
unmapped : {X Y : Type 0} (P : Y → Type 0) (f : X → Y) (xs : List X) → All P (map f xs) → All (λ x. P (f x)) xs
unmapped P f [] all = All-nil (λ x. P (f x))
unmapped P f (x ∷ xs) all =
    All-cons (λ y. P (f y)) x xs (All-head P (f x) (map f xs) all) (unmapped P f xs (All-tail P (f x) (map f xs) all))

members-below : {A : ℕ → Type 0} (n : ℕ) (list : List ℕ) → AreMembersOf n A list → All (λ x. x < n) list
members-below n list are =
    All-from_get_or (λ x. x < n) list 0 (λ k kl. ((are.exact (get_or list k 0)).0 (some-has list k (get_or list k 0) kl refl)).0)

-- ---- the parts that are solved
part-below : (part : StepPart) (m n : ℕ) → m ≤ n → IsPartBelow m part → IsPartBelow n part
part-below First m n few low = tt
part-below (Block block) m n few low = omega (arith, few, low)
part-below Last m n few low = tt

tail-few : (name : StepPart) (part : CcfPart) → length (tail_steps name part) ≤ 1
tail-few name part = go (is_bare part)
  where
    go : (b : Bool) → length {A = StepPart × CcfPart} (cond b [] ((name, part) ∷ [])) ≤ 1
    go true = omega arith
    go false = omega arith

blocks-long : (blocks : List CcfBlock) (k : ℕ) → length (block_steps k blocks) ≡ length blocks
blocks-long [] k = refl
blocks-long (block ∷ blocks) k =
    omega (arith, blocks-long blocks (k + 1), length-append (block_steps (k + 1) blocks) ((Block k, block.part) ∷ []))

solved-few : (c : Contents) → length (solved_parts c) ≤ length c.blocks + 2
solved-few c = omega (
  arith,
  tail-few Last c.last,
  blocks-long c.blocks 0,
  tail-few First c.first,
  length-append (tail_steps Last c.last) (block_steps 0 c.blocks),
  length-append (tail_steps Last c.last ++ block_steps 0 c.blocks) (tail_steps First c.first),
)

-- how many numbers the parts that are solved list in all
module _ (list_of : CcfPart → List ℕ) where
  abbrev list_size : StepPart × CcfPart → ℕ
  list_size of = length (list_of of.1)

  summed-append : (parts more : List (StepPart × CcfPart)) → summed list_size (parts ++ more) ≡ summed list_size parts + summed list_size more
  summed-append [] more = omega arith
  summed-append (part ∷ parts) more = omega (arith, summed-append parts more)

  tail-total : (name : StepPart) (part : CcfPart) → summed list_size (tail_steps name part) ≤ length (list_of part)
  tail-total name part = go (is_bare part)
    where
      go : (b : Bool) → summed list_size (cond b [] ((name, part) ∷ [])) ≤ length (list_of part)
      go true = omega arith
      go false = omega arith

  blocks-total : (blocks : List CcfBlock) (k : ℕ) → summed list_size (block_steps k blocks) ≡ total (map (λ (block : CcfBlock). list_of block.part) blocks)
  blocks-total [] k = refl
  blocks-total (block ∷ blocks) k =
      omega (arith, blocks-total blocks (k + 1), summed-append (block_steps (k + 1) blocks) ((Block k, block.part) ∷ []))

  solved-total : (c : Contents) → summed list_size (solved_parts c)
      ≤ total (list_of c.first ∷ (map (λ (block : CcfBlock). list_of block.part) c.blocks ++ list_of c.last ∷ []))
  solved-total c = omega (
    arith,
    tail-total Last c.last,
    blocks-total c.blocks 0,
    tail-total First c.first,
    summed-append (tail_steps Last c.last) (block_steps 0 c.blocks),
    summed-append (tail_steps Last c.last ++ block_steps 0 c.blocks) (tail_steps First c.first),
    total-append (map (λ (block : CcfBlock). list_of block.part) c.blocks) (list_of c.last ∷ []),
  )

-- sums over two lists whose items have the same numbers
summed-same : {X Y : Type 0} (f : X → ℕ) (g : Y → ℕ) (xs : List X) (ys : List Y) → length xs ≡ length ys →
    ((k : ℕ) (y : Y) (x : X) → k < length ys → f (get_or xs k x) ≡ g (get_or ys k y)) → summed f xs ≡ summed g ys
summed-same f g [] [] long same = refl
summed-same f g [] (y ∷ ys) long same = absurd (omega (arith, long))
summed-same f g (x ∷ xs) [] long same = absurd (omega (arith, long))
summed-same f g (x ∷ xs) (y ∷ ys) long same =
    let here : f x ≡ g y = same 0 y x (omega arith) in
    omega (arith, here, summed-same f g xs ys (omega (arith, long)) (λ k b a kl. same (suc k) b a (omega (arith, kl))))

-- what holds of the tails and of the blocks
module _ (P : StepPart × CcfPart → Type 0) where
  tail-each : (name : StepPart) (part : CcfPart) → P (name, part) → All P (tail_steps name part)
  tail-each name part at = go (is_bare part)
    where
      go : (b : Bool) → All P (cond b [] ((name, part) ∷ []))
      go true = All-nil P
      go false = All-cons P (name, part) [] at (All-nil P)

  blocks-each : (blocks : List CcfBlock) (k : ℕ) → ((i m : ℕ) (d : CcfBlock) → i < length blocks → m ≡ k + i → P (Block m, (get_or blocks i d).part)) →
      All P (block_steps k blocks)
  blocks-each [] k at = All-nil P
  blocks-each (block ∷ blocks) k at = All-append P (block_steps (k + 1) blocks) ((Block k, block.part) ∷ [])
      (blocks-each blocks (k + 1) (λ i m d il e. at (suc i) m d (omega (arith, il)) (omega (arith, e))))
      (All-cons P (Block k, block.part) [] (at 0 k block (omega arith) (omega arith)) (All-nil P))

  solved-each : (c : Contents) → P (First, c.first) → ((i : ℕ) (d : CcfBlock) → i < length c.blocks → P (Block i, (get_or c.blocks i d).part)) →
      P (Last, c.last) → All P (solved_parts c)
  solved-each c first blocks last =
      let all : All P (block_steps 0 c.blocks) = blocks-each c.blocks 0
      (λ i m d il e. subst (λ j. P (Block j, (get_or c.blocks i d).part)) (let q : i ≡ m = omega (arith, e) in q) (blocks i d il)) in
      All-append P (tail_steps Last c.last ++ block_steps 0 c.blocks) (tail_steps First c.first)
      (All-append P (tail_steps Last c.last) (block_steps 0 c.blocks) (tail-each Last c.last last) all) (tail-each First c.first first)

-- the rows and columns are those of the form, and the number of a block is that of one of n
abbrev IsPartOf : Shape → ℕ → StepPart × CcfPart → Type 0
IsPartOf shape n of = IsPartBelow n of.0 × IsPart shape of.1

solved-within : (p : ℕ) (c : Contents) → IsCcf p c → All (IsPartOf c.shape (length c.blocks)) (solved_parts c)
solved-within p c form = solved-each (IsPartOf c.shape (length c.blocks)) c (tt, form.first) (λ i d il. (il, (form.blocks i d il).part)) (tt, form.last)

-- ---- the terms of a row
module _ (p n : ℕ) (entries : List (ℕ × ℕ)) (are : AreEntries p n entries) where
  abbrev Within : ℕ × ℕ → Type 0
  Within entry = (entry.0 < n) × (0 < entry.1) × (entry.1 < p)

  entries-few : length entries ≤ n
  entries-few = omega (
    arith,
    length-map entries (λ (entry : ℕ × ℕ). entry.0),
    rising-few n (map (λ (entry : ℕ × ℕ). entry.0) entries) are.rising (All-map (λ x. x < n) (λ (entry : ℕ × ℕ). entry.0) entries
        (All-weaker Within (λ entry. entry.0 < n) (λ entry at. at.0) entries are.within)),
  )

  module _ (origins : List ℕ) where
    abbrev term : ℕ × ℕ → ℕ × ℕ
    term entry = (entry.1, slice_index origins entry.0)

    terms-few : length (step_terms origins entries) ≤ n
    terms-few = omega (arith, entries-few, length-map entries term)

    terms-small : All (λ (t : ℕ × ℕ). t.0 < p) (step_terms origins entries)
    terms-small = All-map (λ (t : ℕ × ℕ). t.0 < p) term entries (All-weaker Within (λ entry. entry.1 < p) (λ entry at. at.2) entries are.within)

    terms-below : (m : ℕ) → ((q : ℕ) → q < n → slice_index origins q < m) → All (λ (t : ℕ × ℕ). t.1 < m) (step_terms origins entries)
    terms-below m from = All-map (λ (t : ℕ × ℕ). t.1 < m) term entries
        (All-weaker Within (λ entry. slice_index origins entry.0 < m) (λ entry at. from entry.0 at.0) entries are.within)

-- ---- the rows of a part, of each kind
module _ (layers : Layers) (c : Contents) where
  symbols-sums : (rows : List ℕ) → summed sum_count (map (symbol_row layers) rows) ≡ 0
  symbols-sums [] = refl
  symbols-sums (row ∷ rows) = omega (arith, symbols-sums rows)

  symbols-counted : (rows : List ℕ) → summed symbol_count (map (symbol_row layers) rows) ≡ length rows
  symbols-counted [] = refl
  symbols-counted (row ∷ rows) = omega (arith, symbols-counted rows)

  sums-counted : (rows : List ℕ) (more : List (StepRow ℕ)) → summed sum_count (map (combined_row layers c) rows ++ more) ≡ length rows + summed sum_count more
  sums-counted [] more = omega arith
  sums-counted (row ∷ rows) more = omega (arith, sums-counted rows more)

  sums-symbols : (rows : List ℕ) (more : List (StepRow ℕ)) → summed symbol_count (map (combined_row layers c) rows ++ more) ≡ summed symbol_count more
  sums-symbols [] more = refl
  sums-symbols (row ∷ rows) more = omega (arith, sums-symbols rows more)

-- ---- a row by its numbers
module _ {T : Type 0} (number : T → ℕ) where
  abbrev numbers : T × ℕ → ℕ × ℕ
  numbers term = (number term.0, term.1)

  row-below : (m : ℕ) (row : StepRow T) → IsRowBelow m (row_numbers number row) → IsRowBelow m row
  row-below m (Combined terms) below = unmapped (λ (t : ℕ × ℕ). t.1 < m) numbers terms below
  row-below m (Symbols equation) below = below

  row-short : (p k : ℕ) (row : StepRow T) → IsShortRow (λ x. x) p k (row_numbers number row) → IsShortRow number p k row
  row-short p k (Combined terms) short =
      (omega (arith, short.0, length-map terms numbers), unmapped (λ (t : ℕ × ℕ). t.0 < p) numbers terms short.1)
  row-short p k (Symbols equation) short = tt

  numbers-sums : (rows : List (StepRow T)) → summed sum_count (map (row_numbers number) rows) ≡ summed sum_count rows
  numbers-sums [] = refl
  numbers-sums (Combined terms ∷ rows) = omega (arith, numbers-sums rows)
  numbers-sums (Symbols equation ∷ rows) = omega (arith, numbers-sums rows)

  numbers-symbols : (rows : List (StepRow T)) → summed symbol_count (map (row_numbers number) rows) ≡ summed symbol_count rows
  numbers-symbols [] = refl
  numbers-symbols (Combined terms ∷ rows) = omega (arith, numbers-symbols rows)
  numbers-symbols (Symbols equation ∷ rows) = omega (arith, numbers-symbols rows)

  -- ---- the step of a part
  module _ (p : ℕ) (layers : Layers) (c : Contents) (form : IsCcf p c) (of : StepPart × CcfPart) (step : Step T)
      (at : IsStepOf number layers c of step) (part : IsPart c.shape of.1) where
    rows-each : (P : StepRow ℕ → Type 0) → ((q : ℕ) → q < c.shape.q_rows → P (combined_row layers c q)) →
        ((t : ℕ) → t < c.shape.t_rows → P (symbol_row layers t)) → All (λ row. P (row_numbers number row)) step.rows
    rows-each P combined symbols =
        let qs : All (λ q. P (combined_row layers c q)) of.1.q_rows =
        All-weaker (λ q. q < c.shape.q_rows) (λ q. P (combined_row layers c q)) combined of.1.q_rows (part.q_rows).below in
        let ts : All (λ t. P (symbol_row layers t)) of.1.t_rows =
        All-weaker (λ t. t < c.shape.t_rows) (λ t. P (symbol_row layers t)) symbols of.1.t_rows (part.t_rows).below in
        unmapped P (row_numbers number) step.rows (subst (All P) (sym at.rows)
        (All-append P (map (combined_row layers c) of.1.q_rows) (map (symbol_row layers) of.1.t_rows)
        (All-map P (combined_row layers c) of.1.q_rows qs) (All-map P (symbol_row layers) of.1.t_rows ts)))

    s-row : (q : ℕ) → q < c.shape.q_rows → AreEntries p c.shape.q_rows (slice_index_or c.s q [])
    s-row q low = (form.s).entries q [] (omega (arith, low, (form.s).count))

    step-in : (m n : ℕ) → IsPartBelow column_limit of.0 → c.shape.columns ≡ n → ((q : ℕ) → q < c.shape.q_rows → slice_index layers.q_origins q < m) →
        ((t : ℕ) → t < c.shape.t_rows → slice_index layers.t_origins t < m) → IsStepIn m n step
    step-in m n name wide q_low t_low = record {
      part = subst (IsPartBelow column_limit) (sym at.name) name;
      columns = subst (λ w. All (λ x. x < w) step.columns) wide (subst (All (λ x. x < c.shape.columns)) (sym at.columns) (part.columns).below);
      rows = All-weaker (λ row. IsRowBelow m (row_numbers number row)) (IsRowBelow m) (row-below m) step.rows
          (rows-each (IsRowBelow m) (λ q low. terms-below p c.shape.q_rows (slice_index_or c.s q []) (s-row q low) layers.q_origins m q_low) t_low);
      uses = subst (λ w. All (λ x. x < w) step.uses) wide uses-below;
    }
      where
        uses-below : All (λ x. x < c.shape.columns) step.uses
        uses-below = members-below c.shape.columns step.uses at.uses

    -- the step has the columns and the rows of its part
    columns-same : columns_of step ≡ length of.1.columns
    columns-same = ap length at.columns

    sums-same : sums_of step ≡ length of.1.q_rows
    sums-same = omega (
      arith,
      numbers-sums step.rows,
      ap (summed sum_count) at.rows,
      sums-counted layers c of.1.q_rows (map (symbol_row layers) of.1.t_rows),
      symbols-sums layers c of.1.t_rows,
    )

    symbols-same : symbols_of step ≡ length of.1.t_rows
    symbols-same = omega (
      arith,
      numbers-symbols step.rows,
      ap (summed symbol_count) at.rows,
      sums-symbols layers c of.1.q_rows (map (symbol_row layers) of.1.t_rows),
      symbols-counted layers c of.1.t_rows,
    )

    step-short : (m k : ℕ) → c.shape.q_rows ≤ m → c.shape.columns ≤ k → IsShortStep number p m k step
    step-short m k high wide = record {
      uses = omega (arith, wide, rising-few c.shape.columns step.uses (at.uses).rising (members-below c.shape.columns step.uses at.uses));
      short = All-weaker (λ row. IsShortRow (λ x. x) p m (row_numbers number row)) (IsShortRow number p m) (row-short p m) step.rows
          (rows-each (IsShortRow (λ x. x) p m) short-combined (λ t low. tt));
    }
      where
        short-combined : (q : ℕ) → q < c.shape.q_rows → IsShortRow (λ x. x) p m (combined_row layers c q)
        short-combined q low = (
          omega (arith, high, terms-few p c.shape.q_rows (slice_index_or c.s q []) (s-row q low) layers.q_origins),
          terms-small p c.shape.q_rows (slice_index_or c.s q []) (s-row q low) layers.q_origins,
        )

-- ---- the steps of a plan of a right form
module _ {T : Type 0} (number : T → ℕ) (p : ℕ) (model : MixedModel) (is : IsModel p model) (layers : Layers) (are : AreLayersOf model layers)
    (whole : AreWholeLayers layers) (c : Contents) (form : IsCcf p c)
    (right : IsRightCcf p (mixed_matrix_of model) (layered_matrix_of layers) (origins_of layers are.split) c) (plan : Plan T)
    (planned : IsPlanOf number p (mixed_matrix_of model) (layered_matrix_of layers) layers c plan) where
  blocks : length c.blocks ≤ layers.q.width
  blocks = blocks-few p (layered_matrix_of layers) (parts_of c) (right.canonical_listing).parts

  none : StepPart × CcfPart
  none = (First, record { columns = []; q_rows = []; t_rows = [] })

  each : (P : Step T → Type 0) →
      ((of : StepPart × CcfPart) (step : Step T) → IsStepOf number layers c of step → IsPartOf c.shape (length c.blocks) of → P step) →
      All P plan.steps
  each P from k d kl =
      let low : k < length (solved_parts c) = omega (arith, kl, (planned.are).count) in
      from (get_or (solved_parts c) k none) (get_or plan.steps k d) ((planned.are).each k none d low) (solved-within p c form k none low)

  q_below : (q : ℕ) → q < c.shape.q_rows → slice_index layers.q_origins q < length model.equations
  q_below q low = are.layered.q_rows.below q (subst (λ n. q < n) (right.shape).q_rows low)

  t_below : (t : ℕ) → t < c.shape.t_rows → slice_index layers.t_origins t < length model.equations
  t_below t low = are.layered.t_rows.below t (subst (λ n. t < n) (right.shape).t_rows low)

  -- numbers of blocks, columns and equations are in range
  pub steps-in : All (IsStepIn (length model.equations) layers.q.width) plan.steps
  steps-in = each (IsStepIn (length model.equations) layers.q.width) (λ of step at part.
      step-in number p layers c form of step at part.1 (length model.equations) layers.q.width
      (part-below of.0 (length c.blocks) column_limit (omega (arith, blocks, (right.shape).columns, (form.shape).columns)) part.0) (right.shape).columns
      q_below t_below)

  -- no more blocks than columns, and two tails
  pub steps-few : (k : ℕ) → layers.q.width ≤ k → length plan.steps ≤ k + 2
  steps-few k wide = omega (arith, wide, blocks, solved-few c, (planned.are).count)

  -- lists that rise below k have at most k numbers
  pub steps-short : (m k : ℕ) → height layers.q ≤ m → layers.q.width ≤ k → All (IsShortStep number p m k) plan.steps
  steps-short m k high wide = each (IsShortStep number p m k) (λ of step at part.
      step-short number p layers c form of step at part.1 m k (omega (arith, high, (right.shape).q_rows)) (omega (arith, wide, (right.shape).columns)))

  -- what holds of each step and its part
  steps-same : (f : Step T → ℕ) (g : StepPart × CcfPart → ℕ) →
      ((of : StepPart × CcfPart) (step : Step T) → IsStepOf number layers c of step → IsPartOf c.shape (length c.blocks) of → f step ≡ g of) →
      summed f plan.steps ≡ summed g (solved_parts c)
  steps-same f g same = summed-same f g plan.steps (solved_parts c) (planned.are).count
      (λ k of step kl. same (get_or (solved_parts c) k of) (get_or plan.steps k step) ((planned.are).each k of step kl) (solved-within p c form k of kl))

  -- each column stands in one step, and each row
  pub columns-few : summed columns_of plan.steps ≤ layers.q.width
  columns-few = omega (
    arith,
    steps-same columns_of (list_size (λ part. part.columns)) (λ of step at part. columns-same number p layers c form of step at part.1),
    solved-total (λ part. part.columns) c,
    columns-total p (layered_matrix_of layers) c form right.block_triangular_form (right.shape).columns,
  )

  pub sums-few : summed sums_of plan.steps ≤ height layers.q
  sums-few = omega (
    arith,
    steps-same sums_of (list_size (λ part. part.q_rows)) (λ of step at part. sums-same number p layers c form of step at part.1),
    solved-total (λ part. part.q_rows) c,
    q_rows-total p (layered_matrix_of layers) c form right.block_triangular_form (right.shape).q_rows,
  )

  pub symbols-few : summed symbols_of plan.steps ≤ length layers.t.rows
  symbols-few = omega (
    arith,
    steps-same symbols_of (list_size (λ part. part.t_rows)) (λ of step at part. symbols-same number p layers c form of step at part.1),
    solved-total (λ part. part.t_rows) c,
    t_rows-total p (layered_matrix_of layers) c form right.block_triangular_form (right.shape).t_rows,
  )
