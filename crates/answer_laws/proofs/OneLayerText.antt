-- The layers of a model are told by the model.
use Rattle.std.proofs.Common.{◌≡◌, ℕ, ◌+◌, ◌-◌, ◌<◌, List, [], length, get_or, slice_index, inl, inr, ap, sym, subst, ◌∙◌, arith}
use Rattle.std.specs.List.{All}
use Rattle.std.proofs.lemmas.List.{ext_get_or, get_or_default}
use Rattle.residue_theory.proofs.SetLaws.{lt_cases}
use Rattle.mixed_matrices.specs.Layerings.{gives_q, has_symbol}
use Rattle.dense_q.specs.Tables.{height, row_at}
use Rattle.mixed_model.specs.Models.{MixedModel, mixed_matrix_of}
use Rattle.mixed_model.specs.Layers.{Layers, layered_matrix_of}
use Rattle.mixed_model.specs.declared.origin.Origin.{Origin}
use Rattle.mixed_model.specs.declared.origin.Origin.TheVariants.{Unknown, Split}
use Rattle.mixed_layering.specs.Layers.{AreLayersOf, origins_of}
use Rattle.certificate_laws.proofs.OneMatrix.{AreOneMatrix, are-one}
use Rattle.certificate_laws.proofs.RisingLists.{same-lists}
use Rattle.answer_texts.specs.WholeLayers.{AreWholeLayers}
use Rattle.mixed_layering.proofs.EntryLaws.{row_long}
use Rattle.answer_texts.proofs.LayerPieces.{got_or}

module _ (model : MixedModel) (layers others : Layers) (are : AreLayersOf model layers)
    (whole : AreWholeLayers layers) (them : AreLayersOf model others) (complete : AreWholeLayers others) where
  same : AreOneMatrix (layered_matrix_of layers) (layered_matrix_of others) (origins_of layers are.split) (origins_of others them.split)
  same = are-one (mixed_matrix_of model) (gives_q (mixed_matrix_of model)) (has_symbol (mixed_matrix_of model))
      (layered_matrix_of layers) (layered_matrix_of others)
      (origins_of layers are.split) (origins_of others them.split) are.layered them.layered

  splits : are.split ≡ them.split
  splits = ext_get_or 0 are.split them.split
      same.split
      same.of_z

  q_origins : layers.q_origins ≡ others.q_origins
  q_origins = ext_get_or 0 layers.q_origins others.q_origins (omega (arith, (whole.origins).q_origins, (complete.origins).q_origins, same.q_rows))
      (λ i il. same.of_q i (omega (arith, il, (whole.origins).q_origins)))

  t_origins : layers.t_origins ≡ others.t_origins
  t_origins = ext_get_or 0 layers.t_origins others.t_origins (omega (arith, (whole.origins).t_origins, (complete.origins).t_origins, same.t_rows))
      (λ i il. same.of_t i (omega (arith, il, (whole.origins).t_origins)))

  -- each column comes from its unknown or its split equation
  column_origin : (j : ℕ) → j < layers.q.width → get_or layers.column_origins j (Unknown 0) ≡ get_or others.column_origins j (Unknown 0)
  column_origin j jl = elim (lt_cases j (length model.unknowns)) [
    | inl unknown ↦ got_or layers.column_origins j (Unknown 0) (Unknown j) (are.unknowns j unknown)
        ∙ sym (got_or others.column_origins j (Unknown 0) (Unknown j) (them.unknowns j unknown))
    | inr auxiliary ↦
        let k : ℕ = j - length model.unknowns in
        let low : k < length are.split = omega (arith, (are.layered).columns, auxiliary, jl) in
        let lower : k < length them.split = omega (arith, low, ap length splits) in
        let place : length model.unknowns + k ≡ j = omega (arith, auxiliary) in
        subst (λ c. get_or layers.column_origins c (Unknown 0) ≡ get_or others.column_origins c (Unknown 0)) place
        (got_or layers.column_origins (length model.unknowns + k) (Unknown 0) (Split (slice_index are.split k)) (are.auxiliary k low)
        ∙ ap (λ split. Split (slice_index split k)) splits
        ∙ sym (got_or others.column_origins (length model.unknowns + k) (Unknown 0) (Split (slice_index them.split k)) (them.auxiliary k lower)))
  ]

  column_origins : layers.column_origins ≡ others.column_origins
  column_origins = ext_get_or (Unknown 0) layers.column_origins others.column_origins
      (omega (arith, (whole.origins).column_origins, (complete.origins).column_origins, same.columns))
      (λ j jl. column_origin j (omega (arith, jl, (whole.origins).column_origins)))

  q_rows : layers.q.rows ≡ others.q.rows
  q_rows = ext_get_or [] layers.q.rows others.q.rows same.q_rows (λ i il.
      let low : i < height others.q = omega (arith, il, same.q_rows) in
      let long : length (row_at layers.q i) ≡ layers.q.width = row_long layers.q i il whole.q in
      let longer : length (row_at others.q i) ≡ others.q.width = row_long others.q i low complete.q in
      ext_get_or 0 (row_at layers.q i) (row_at others.q i) (long ∙ same.columns ∙ sym longer)
      (λ j jl. same.q i j il (omega (arith, jl, long))))

  t_rows : layers.t.rows ≡ others.t.rows
  t_rows = ext_get_or [] layers.t.rows others.t.rows same.t_rows (λ i il.
      let low : i < length others.t.rows = omega (arith, il, same.t_rows) in
      let row : List ℕ = get_or layers.t.rows i [] in
      let other : List ℕ = get_or others.t.rows i [] in
      let wide : layers.t.width ≡ layers.q.width = (whole.origins).same_columns in
      let width : others.t.width ≡ layers.q.width = (complete.origins).same_columns ∙ sym same.columns in
      let below : All (λ column. column < layers.q.width) row = λ j e jl. subst (λ column. column < layers.q.width)
      (get_or_default row j 0 e jl) (omega (arith, (whole.t).below i il j jl, wide)) in
      let under : All (λ column. column < layers.q.width) other =
      λ j e jl. subst (λ column. column < layers.q.width) (get_or_default other j 0 e jl)
      (omega (arith, (complete.t).below i low j jl, width)) in
      same-lists layers.q.width row other (record { rising = (whole.t).rising i il; below = below })
      (record { rising = (complete.t).rising i low; below = under })
      (λ j jl h. sym (same.t i j il jl) ∙ h) (λ j jl h. same.t i j il jl ∙ h))

  t_widths : layers.t.width ≡ others.t.width
  t_widths = (whole.origins).same_columns ∙ same.columns ∙ sym (complete.origins).same_columns

  abbrev made : ℕ → List (List ℕ) → ℕ → List (List ℕ) → List ℕ → List ℕ → List Origin → Layers
  made width rows t_width t_rows q_origins t_origins column_origins = record {
    q = record { width = width; rows = rows };
    t = record { width = t_width; rows = t_rows };
    q_origins = q_origins;
    t_origins = t_origins;
    column_origins = column_origins;
  }

  pub one-layers : layers ≡ others
  one-layers =
      ap (λ x. made x layers.q.rows layers.t.width layers.t.rows layers.q_origins layers.t_origins layers.column_origins) same.columns
      ∙ ap (λ x. made others.q.width x layers.t.width layers.t.rows layers.q_origins layers.t_origins layers.column_origins) q_rows
      ∙ ap (λ x. made others.q.width others.q.rows x layers.t.rows layers.q_origins layers.t_origins layers.column_origins) t_widths
      ∙ ap (λ x. made others.q.width others.q.rows others.t.width x layers.q_origins layers.t_origins layers.column_origins) t_rows
      ∙ ap (λ x. made others.q.width others.q.rows others.t.width others.t.rows x layers.t_origins layers.column_origins) q_origins
      ∙ ap (λ x. made others.q.width others.q.rows others.t.width others.t.rows others.q_origins x layers.column_origins) t_origins
      ∙ ap (λ x. made others.q.width others.q.rows others.t.width others.t.rows others.q_origins others.t_origins x) column_origins
