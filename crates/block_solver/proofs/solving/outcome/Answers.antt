use Rattle.std.proofs.Common.{◌<◌, ap, length, map, slice_index, subst, sym, ◌∙◌, arith}
use Rattle.std.specs.List.{All}
use Rattle.std.proofs.lemmas.List.{length-map}
use Rattle.std.proofs.lemmas.Result.{IfOk-weaker}
use Rattle.mixed_model.specs.Layers.{layered_matrix_of}
use Rattle.mixed_model.specs.Models.{mixed_matrix_of}
use Rattle.mixed_layering.specs.Layers.{origins_of}
use Rattle.mixed_matrices.specs.Models.{MixedMatrix}
use Rattle.value_list_laws.specs.ListedValues.{values_of}
use Rattle.cert_text.specs.Contents.{numbered_rows}
use Rattle.part_arcs.proofs.Gathered.{keys-low}
use Rattle.block_solver.specs.Blocks.{BlockSystem, FitBlocks, IsOutcomeOf, block_system}
use Rattle.block_solver.specs.Solving.{numbers_in_blocks}
use Rattle.block_solver.proofs.FormParts.{fit-blocks}
use Rattle.block_solver.proofs.SolvedForms.{full-told, outcome-told}
use Rattle.block_solver.proofs.SymbolNumbers.{few-symbols, values-stand}
use Rattle.block_solver.proofs.SystemFacts.{all-rising, all-valued, q-origins-low, symbols-given, system-given, t-keys, t-origins-low}
use Rattle.block_solver.proofs.solving.outcome.Goals as goal

pub symbol_rows-requires-clause-rising : goal.symbol_rows-requires-clause-rising
symbol_rows-requires-clause-rising g c =
    let R = c.requires.form in
    all-rising g.F.Field.modulus (mixed_matrix_of c.args.model.now) c.args.layered.now R.are.split c.args.form.now c.t.ensures.ccf R.are.layered R.right
    c.as_slice.result.now (c.as_slice.ensures ∙ c.t.ensures.t)

pub symbol_rows-requires-clause-values : goal.symbol_rows-requires-clause-values
symbol_rows-requires-clause-values g c =
    let R = c.requires.form in
    all-valued g.F.Field.modulus (mixed_matrix_of c.args.model.now) c.args.layered.now R.are.split c.args.form.now c.t.ensures.ccf R.are.layered R.right
    c.as_slice.result.now c.unknowns.result (length c.args.values.now) (c.as_slice.ensures ∙ c.t.ensures.t) c.unknowns.ensures.count c.requires.values

pub q_sides-requires : goal.q_sides-requires
q_sides-requires g c =
    let R = c.requires.form in
    q-origins-low g.F.Field.modulus (mixed_matrix_of c.args.model.now) c.args.layered.now R.are.split c.args.form.now c.t.ensures.ccf R.are.layered R.right
    c.are_layers.ensures (length c.args.right.now) c.requires.right

pub row_sums-requires : goal.row_sums-requires
row_sums-requires g c =
    let number = g.F.Field.number in
    let form = c.args.form.now in
    let qs = c.in_ok-q_sides.field-0.items in
    keys-low number g.F.Field.modulus form.shape.q_rows form.shape.q_rows (length c.deref.result.now) c.as_slice-2.result.now c.s.result.now
    form.s c.s.ensures.ccf.s c.as_slice-2.ensures c.s.ensures.s
    (c.requires.form.right.shape.q_rows ∙ sym c.in_ok-q_sides.ensures.count ∙ length-map qs number ∙ sym (ap length c.deref.ensures.value))

pub t_sides-requires-clause-q_origins : goal.t_sides-requires-clause-q_origins
t_sides-requires-clause-q_origins g c =
    let R = c.requires.form in
    q-origins-low g.F.Field.modulus (mixed_matrix_of c.args.model.now) c.args.layered.now R.are.split c.args.form.now c.t.ensures.ccf R.are.layered R.right
    c.are_layers.ensures (length c.args.right.now) c.requires.right

pub t_sides-requires-clause-t_origins : goal.t_sides-requires-clause-t_origins
t_sides-requires-clause-t_origins g c =
    let R = c.requires.form in
    t-origins-low g.F.Field.modulus (mixed_matrix_of c.args.model.now) c.args.layered.now R.are.split c.args.form.now c.t.ensures.ccf R.are.layered R.right
    c.are_layers.ensures (length c.args.right.now) c.requires.right

pub symbol_rows-requires-clause-few : goal.symbol_rows-requires-clause-few
symbol_rows-requires-clause-few g c =
    let M : MixedMatrix = mixed_matrix_of c.args.model.now in
    omega (arith, c.requires.values, few-symbols M c.unknowns.ensures.model.equations.few c.unknowns.ensures.model.unknowns.few)

pub solve_blocks-requires-clause-p_rows : goal.solve_blocks-requires-clause-p_rows
solve_blocks-requires-clause-p_rows g c =
    let form = c.args.form.now in
    keys-low g.F.Field.number g.F.Field.modulus form.shape.q_rows form.shape.columns c.shape.result.columns c.as_slice-3.result.now c.p.result.now
    form.p c.p.ensures.ccf.p c.as_slice-3.ensures c.p.ensures.p (sym (ap (λ s. s.columns) c.shape.ensures.shape))

pub solve_blocks-requires-clause-t_rows : goal.solve_blocks-requires-clause-t_rows
solve_blocks-requires-clause-t_rows g c =
    let p = g.F.Field.modulus in
    let number = g.F.Field.number in
    let M : MixedMatrix = mixed_matrix_of c.args.model.now in
    let R = c.requires.form in
    let t = c.in_ok-t.t.items in
    let n = c.shape.result.columns in
    let are = symbols-given p M c.args.layered.now R.are.split c.args.form.now c.t.ensures.ccf R.are.layered R.right number (map number c.args.values.now)
    c.as_slice.result.now c.unknowns.result t (c.as_slice.ensures ∙ c.t.ensures.t) c.unknowns.ensures.count c.in_ok-t.ensures in
    subst (All (λ row. All (λ entry. entry.0 < n) row)) (sym c.deref-2.ensures.value)
    (t-keys p M c.args.layered.now R.are.split c.args.form.now c.t.ensures.ccf R.are.layered R.right number (map number c.args.values.now) t are
    n (ap (λ s. s.columns) c.shape.ensures.shape))

pub solve_blocks-requires-clause-blocks : goal.solve_blocks-requires-clause-blocks
solve_blocks-requires-clause-blocks g c =
    let p = g.F.Field.modulus in
    let number = g.F.Field.number in
    let M : MixedMatrix = mixed_matrix_of c.args.model.now in
    let layers = c.args.layered.now in
    let form = c.args.form.now in
    let R = c.requires.form in
    let values = map number c.args.values.now in
    let right = map number c.args.right.now in
    let s : BlockSystem = block_system number c.as_slice-3.result.now c.deref-2.result.now c.deref-3.result.now c.deref-4.result.now in
    let system = system-given p M layers R.are.split form c.t.ensures.ccf R.are.layered R.right number values right c.as_slice.result.now
    c.unknowns.result c.in_ok-t.t.items c.deref-2.result.now c.as_slice-3.result.now c.as_slice-2.result.now c.in_ok-p_right.p_right.items
    c.deref-3.result.now c.in_ok-t_right.t_right.items c.deref-4.result.now c.in_ok-q_sides.field-0.items c.deref.result.now
    (c.as_slice.ensures ∙ c.t.ensures.t) c.unknowns.ensures.count c.in_ok-t.ensures c.deref-2.ensures.value
    (ap (numbered_rows number) c.as_slice-3.ensures ∙ c.p.ensures.p) c.in_ok-q_sides.ensures c.deref.ensures.value
    (ap (numbered_rows number) c.as_slice-2.ensures ∙ c.s.ensures.s) c.in_ok-p_right.ensures c.deref-3.ensures.value
    c.in_ok-t_right.ensures c.deref-4.ensures.value in
    let fit = fit-blocks p g.met.F.Field.prime g.met.F.Field.odd M (layered_matrix_of layers) (origins_of layers R.are.split) R.are.layered form
    c.t.ensures.ccf R.right (numbers_in_blocks p M layers (values_of M values)) (slice_index right) s system in
    subst (λ n. FitBlocks s n c.as_slice-4.result.now) (sym (ap (λ z. z.columns) c.shape.ensures.shape))
    (subst (FitBlocks s form.shape.columns) (sym (c.as_slice-4.ensures ∙ c.blocks-2.ensures.blocks)) fit)

pub returns : goal.returns
returns g c =
    let p = g.F.Field.modulus in
    let prime = g.met.F.Field.prime in
    let number = g.F.Field.number in
    let M : MixedMatrix = mixed_matrix_of c.args.model.now in
    let layers = c.args.layered.now in
    let form = c.args.form.now in
    let R = c.requires.form in
    let values = map number c.args.values.now in
    let right = map number c.args.right.now in
    let s : BlockSystem = block_system number c.as_slice-3.result.now c.deref-2.result.now c.deref-3.result.now c.deref-4.result.now in
    let system = system-given p M layers R.are.split form c.t.ensures.ccf R.are.layered R.right number values right c.as_slice.result.now
    c.unknowns.result c.in_ok-t.t.items c.deref-2.result.now c.as_slice-3.result.now c.as_slice-2.result.now c.in_ok-p_right.p_right.items
    c.deref-3.result.now c.in_ok-t_right.t_right.items c.deref-4.result.now c.in_ok-q_sides.field-0.items c.deref.result.now
    (c.as_slice.ensures ∙ c.t.ensures.t) c.unknowns.ensures.count c.in_ok-t.ensures c.deref-2.ensures.value
    (ap (numbered_rows number) c.as_slice-3.ensures ∙ c.p.ensures.p) c.in_ok-q_sides.ensures c.deref.ensures.value
    (ap (numbered_rows number) c.as_slice-2.ensures ∙ c.s.ensures.s) c.in_ok-p_right.ensures c.deref-3.ensures.value
    c.in_ok-t_right.ensures c.deref-4.ensures.value in
    let full = full-told p prime M form.rank R.right.pair_and_rank.rank c.requires.equations c.requires.unknowns in
    IfOk-weaker c.solve_blocks.result _ _
    (λ outcome told. outcome-told p prime g.met.F.Field.odd M layers R.are.split form c.t.ensures.ccf R.are.layered R.right full.0 full.1
    (values_of M values) (slice_index right)
    (values-stand p prime M (layered_matrix_of layers) (origins_of layers R.are.split) (values_of M values)) s system number outcome
    (subst (λ n. IsOutcomeOf number p s n form.blocks outcome) (ap (λ z. z.columns) c.shape.ensures.shape)
    (subst (λ blocks. IsOutcomeOf number p s c.shape.result.columns blocks outcome) (c.as_slice-4.ensures ∙ c.blocks-2.ensures.blocks) told)))
    c.solve_blocks.ensures
