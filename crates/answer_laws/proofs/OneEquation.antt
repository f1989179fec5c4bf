-- What answers one equation in one unknown.
use Rattle.std.proofs.Common.{◌≡◌, ℕ, zero, suc, ◌+◌, ◌<◌, Bool, true, false, cond, not, ◌||◌, ◌⊎◌, List, [], ◌∷◌}
use Rattle.std.proofs.Common.{◌++◌, length, get_or, decimal, codes, None, Some, refl, ap, sym, subst, ◌∙◌, arith, inl, inr}
use Rattle.std.proofs.Common.{⊎_elim}
use Rattle.std.specs.Fmt.{digits}
use Rattle.std.specs.List.{slice_get}
use Rattle.std.proofs.lemmas.List.Elements.{All-head}
use Rattle.residue_field.specs.Modulus.{modulus_of}
use Rattle.residue_field.specs.declared.field_name.FieldName.TheVariants.{Small}
use Rattle.residue_theory.specs.Sums.{size_on}
use Rattle.residue_theory.proofs.SetLaws.{differ, both-second, not_true, some_below-found}
use Rattle.mixed_matrices.specs.LayeredMatrices.{LayeredMatrix}
use Rattle.mixed_matrices.specs.Layerings.{AreMembers, Origins, IsLayeredMatrixOf, gives_q, has_constant, has_symbol}
use Rattle.mixed_model.specs.Models.{MixedModel, mixed_matrix_of, symbol_of}
use Rattle.mixed_model.specs.Layers.{Layers, layered_matrix_of}
use Rattle.mixed_model.specs.declared.origin.Origin.{Origin}
use Rattle.mixed_model.specs.declared.origin.Origin.TheVariants.{Unknown}
use Rattle.mixed_layering.specs.Layers.{AreLayersOf, origins_of}
use Rattle.matrix_reader.specs.Models.{GivesModel, symbol_said}
use Rattle.dense_q.specs.Tables.{height}
use Rattle.cert_text.specs.Ranges.{ArePairs}
use Rattle.cert_text.specs.Texts.{certificate_text, matrices_text, parts_text}
use Rattle.cert_text.specs.Contents.{Certificate}
use Rattle.cert_text.specs.declared.kind.Kind.TheVariants.{Matrix}
use Rattle.cert_text.specs.declared.shape.Shape.{Shape}
use Rattle.cert_text.specs.declared.version.Version.TheVariants.{One}
use Rattle.answer_texts.specs.LayerTexts.{column_lines, layer_text, q_line, named_row_lines, t_line}
use Rattle.report_cli.specs.RightFor.{IsRightForInput}
use Rattle.answer_texts.specs.WholeLayers.{AreWholeLayers}
use Rattle.answer_texts.proofs.LayerPieces.{got_or}
use Rattle.answer_laws.specs.NoAnswers.{NoListLeavesItsRange, NoColumnLineIsMadeUp, one_equation, out_of_range}
use Rattle.answer_laws.proofs.Answers.{analysed, layered}
use Rattle.answer_laws.proofs.EmptyInput.{empty-pairs, one-shape, text-with, text_with}

-- no member, none listed
none-listed : (A : ℕ → Bool) (n : ℕ) (at : ℕ → ℕ) (m : ℕ) → ((i : ℕ) → i < n → A i ≡ true → ⊥) → AreMembers A n at m → m ≡ 0
none-listed A n at zero none are = refl
none-listed A n at (suc m) none are = absurd (none (at 0) (are.below 0 (omega arith)) (are.member 0 (omega arith)))

-- one member of one
one-listed : (A : ℕ → Bool) (n : ℕ) (at : ℕ → ℕ) (m : ℕ) → n ≡ 1 → A 0 ≡ true → AreMembers A n at m → m ≡ 1
one-listed A n at m one member are = omega (arith, are.count, ap (size_on A) one, counted (A 0) member)
  where
    counted : (b : Bool) → b ≡ true → 0 + cond {A = ℕ} b 1 0 ≡ 1
    counted b is = rw is (omega arith)

module _ (model : MixedModel) (gives : GivesModel (modulus_of Small) one_equation model) where
  one-row : length model.equations ≡ 1
  one-row = ap length (gives.given).equations_are

  names : model.unknowns ≡ codes "x" ∷ []
  names = (gives.given).unknowns_are

  one-column : length model.unknowns ≡ 1
  one-column = ap length names

  no-symbol-said : symbol_of model 0 0 ≡ false
  no-symbol-said = (gives.given).symbols_are 0 0 (omega arith) (omega (arith, one-column))
      ∙ ap (λ unknowns. symbol_said (codes "x=1" ∷ []) (get_or unknowns 0 [])) names

  no-symbol : (i : ℕ) → i < length model.equations → has_symbol (mixed_matrix_of model) i ≡ true → ⊥
  no-symbol i il h =
      let at = some_below-found (length model.unknowns) (symbol_of model i) h in
      let row : i ≡ 0 = omega (arith, il, one-row) in
      let column : at.0 ≡ 0 = omega (arith, at.1, one-column) in
      differ no-symbol-said (subst (λ j. symbol_of model 0 j ≡ true) column (subst (λ r. symbol_of model r at.0 ≡ true) row at.2))

  first-gives : gives_q (mixed_matrix_of model) 0 ≡ true
  first-gives =
      let none : has_symbol (mixed_matrix_of model) 0 ≡ false = not_true _ (no-symbol 0 (omega (arith, one-row))) in
      ap (λ b. has_constant (mixed_matrix_of model) 0 || not b) none ∙ or-true (has_constant (mixed_matrix_of model) 0)
    where
      or-true : (b : Bool) → b || true ≡ true
      or-true true = refl
      or-true false = refl

  module _ (L : LayeredMatrix) (O : Origins) (are : IsLayeredMatrixOf (mixed_matrix_of model) L O) where
    pub one-q : L.q_rows ≡ 1
    one-q = one-listed _ _ _ _ one-row first-gives are.q_rows

    pub no-t : L.t_rows ≡ 0
    no-t = none-listed _ _ _ _ no-symbol are.t_rows

    pub no-split : O.split ≡ 0
    no-split = none-listed _ _ _ _ (λ i il h. no-symbol i il (both-second _ _ h)) are.auxiliary

    pub one-wide : L.columns ≡ 1
    one-wide = omega (arith, are.columns, one-column, no-split)

-- a base in one row and one column is empty, or has the one item
small-base : (m n : ℕ) (base : List (ℕ × ℕ)) → m ≡ 1 → n ≡ 1 → ArePairs m n base → (base ≡ []) ⊎ (base ≡ (0, 0) ∷ [])
small-base m n [] one two are = inl refl
small-base m n (pair ∷ []) one two are =
    let within = All-head (λ (pair : ℕ × ℕ). (pair.0 < m) × (pair.1 < n)) pair [] are.within in
    let row : pair.0 ≡ 0 = omega (arith, within.0, one) in
    let column : pair.1 ≡ 0 = omega (arith, within.1, two) in
    inr (ap (λ i. (i, pair.1) ∷ []) row ∙ ap (λ j. (0, j) ∷ []) column)
small-base m n (pair ∷ next ∷ pairs) one two are =
    let rises : pair.0 < next.0 = are.rising 0 (omega arith) in
    let within = are.within 1 next (omega arith) in
    absurd (omega (arith, rises, within.0, one))

module _ (c : Certificate) (right : IsRightForInput (modulus_of Small) One Matrix one_equation c) where
  shape-is : c.ccf.shape ≡ record { equations = 1; unknowns = 1; q_rows = 1; t_rows = 0; columns = 1 }
  shape-is =
      let shape = (right.right).shape in
      one-shape c.ccf.shape 1 1 1 0 1 (shape.equations ∙ one-row right.model right.gives) (shape.unknowns ∙ one-column right.model right.gives)
      (shape.q_rows ∙ one-q right.model right.gives right.layered right.origins right.layers)
      (shape.t_rows ∙ no-t right.model right.gives right.layered right.origins right.layers)
      (shape.columns ∙ one-wide right.model right.gives right.layered right.origins right.layers)

  mates-are : c.ccf.mates ≡ []
  mates-are = empty-pairs c.ccf.shape.t_rows c.ccf.shape.columns c.ccf.mates (ap (λ (s : Shape). s.t_rows) shape-is) (right.form).mates

  rank-is : (base : List (ℕ × ℕ)) → c.ccf.base ≡ base → c.ccf.rank ≡ length base
  rank-is base is = omega (
    arith,
    ((right.right).pair_and_rank).size,
    no-split right.model right.gives right.layered right.origins right.layers,
    ap length mates-are,
    ap length is,
  )

  text-is : (base : List (ℕ × ℕ)) → c.ccf.base ≡ base →
      certificate_text c ≡ text_with One (modulus_of Small) Matrix one_equation (record { equations = 1; unknowns = 1; q_rows = 1; t_rows = 0; columns = 1 })
      (length base) base []
      (matrices_text c.ccf.s c.ccf.u c.ccf.p c.ccf.t) (parts_text c.ccf.first c.ccf.blocks c.ccf.last)
  text-is base is =
      text-with c One (modulus_of Small) Matrix one_equation _ (length base) base [] right.version_is right.modulus_is right.kind_is right.echo
      shape-is (rank-is base is) is mates-are

  -- the digit of the rank, or that of the base column, is another one
  never-bad : certificate_text c ≡ out_of_range → ⊥
  unfolding digits
  never-bad same = ⊎_elim
      (λ none. let at : get_or (certificate_text c) 72 0 ≡ 48 = ap (λ t. get_or t 72 0) (text-is [] none) in
      let there : get_or (certificate_text c) 72 0 ≡ 49 = ap (λ t. get_or t 72 0) same in absurd (omega (arith, at, there)))
      (λ one. let at : get_or (certificate_text c) 81 0 ≡ 49 = ap (λ t. get_or t 81 0) (text-is ((0, 0) ∷ []) one) in
      let there : get_or (certificate_text c) 81 0 ≡ 56 = ap (λ t. get_or t 81 0) same in absurd (omega (arith, at, there)))
      (small-base c.ccf.shape.q_rows c.ccf.shape.columns c.ccf.base (ap (λ (s : Shape). s.q_rows) shape-is)
      (ap (λ (s : Shape). s.columns) shape-is) (right.form).base)

pub in-range : NoListLeavesItsRange
in-range words asks answer =
    let one = analysed words Matrix None one_equation out_of_range asks answer in
    never-bad one.certificate one.right (sym one.text_is)

-- the lines of one column, and of one row
one-column-text : (model : MixedModel) (origins : List Origin) → length origins ≡ 1 → slice_get origins 0 ≡ Some (Unknown 0) → model.unknowns ≡ codes "x" ∷ [] →
    column_lines model 1 origins ≡ codes "c1 x\n"
unfolding digits
one-column-text model [] one got named = absurd (omega (arith, one))
one-column-text model (origin ∷ []) one got named =
    let is : origin ≡ Unknown 0 = got_or (origin ∷ []) 0 origin (Unknown 0) got in
    ap (λ o. column_lines model 1 (o ∷ [])) is ∙ ap (λ (unknowns : List (List ℕ)). codes "c1 " ++ get_or unknowns 0 [] ++ codes "\n" ++ []) named
one-column-text model (origin ∷ next ∷ origins) one got named = absurd (omega (arith, one))

first-row : (names : List (List ℕ)) (origins : List ℕ) (rows : List (List ℕ)) (more : List ℕ) → length rows ≡ 1 →
    get_or (named_row_lines q_line names origins 0 rows ++ more) 0 0 ≡ 113
first-row names origins [] more one = absurd (omega (arith, one))
first-row names origins (row ∷ rows) more one = refl

never-made-up : (model : MixedModel) (layers : Layers) → GivesModel (modulus_of Small) one_equation model → AreLayersOf model layers → AreWholeLayers layers →
    layer_text model layers ≡ codes "columns 1\nc1 x\nc2 x\nq1 a 1=1\n" → ⊥
unfolding digits
never-made-up model layers gives are whole same =
    let wide : layers.q.width ≡ 1 = one-wide model gives (layered_matrix_of layers) (origins_of layers are.split) are.layered in
    let rows : height layers.q ≡ 1 = one-q model gives (layered_matrix_of layers) (origins_of layers are.split) are.layered in
    let columns : column_lines model 1 layers.column_origins ≡ codes "c1 x\n" =
    one-column-text model layers.column_origins ((whole.origins).column_origins ∙ wide)
    (are.unknowns 0 (omega (arith, one-column model gives))) (names model gives) in
    let q : List ℕ = named_row_lines q_line model.equations layers.q_origins 0 layers.q.rows in
    let t : List ℕ = named_row_lines t_line model.equations layers.t_origins 0 layers.t.rows in
    let text : layer_text model layers ≡ codes "columns 1\nc1 x\n" ++ q ++ t =
    ap (λ w. codes "columns" ++ (32 ∷ decimal w) ++ codes "\n" ++ column_lines model 1 layers.column_origins ++ q ++ t) wide
    ∙ ap (λ lines. codes "columns 1\n" ++ lines ++ q ++ t) columns in
    let at : get_or (codes "columns 1\nc1 x\n" ++ q ++ t) 15 0 ≡ 113 = first-row model.equations layers.q_origins layers.q.rows t rows in
    let there : get_or (codes "columns 1\nc1 x\n" ++ q ++ t) 15 0 ≡ 99 = ap (λ s. get_or s 15 0) (sym text ∙ same) in
    absurd (omega (arith, at, there))

pub no-line : NoColumnLineIsMadeUp
no-line words asks answer = let one = layered words Matrix None one_equation _ asks answer in
    never-made-up one.model one.layers one.gives one.are one.whole (sym one.text_is)
