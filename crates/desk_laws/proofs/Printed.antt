-- What a certificate prints of a model is what is told of it.
use Rattle.std.proofs.Common.{◌≡◌, ◌∙◌, ◌<◌, ℕ, List, [], ◌∷◌, ◌++◌, length, map, get_or, ap, sym, subst, refl, arith}
use Rattle.std.specs.List.{All}
use Rattle.std.proofs.lemmas.List.{ext_get_or, get_or-map, length-map}
use Rattle.residue_theory.specs.Residues.{IsPrime}
use Rattle.mixed_matrices.specs.LayeredMatrices.{AreSameLayers, LayeredMatrix}
use Rattle.mixed_matrices.specs.Layerings.{Origins, gives_q, has_symbol}
use Rattle.mixed_matrices.specs.Models.{MixedMatrix}
use Rattle.mixed_form_laws.proofs.CanonicalForm.{canonical-one}
use Rattle.mixed_model.specs.Models.{mixed_matrix_of}
use Rattle.mixed_model.specs.Layers.{layered_matrix_of}
use Rattle.mixed_layering.specs.Layers.{origins_of}
use Rattle.cert_text.specs.Contents.{Contents}
use Rattle.cert_text.specs.declared.part.CcfBlock.{CcfBlock}
use Rattle.cert_text.specs.Ranges.{AreRising, IsCcf}
use Rattle.cert_text.specs.Readings.{column_lists, parts_of}
use Rattle.cert_text.specs.Right.{IsRightCcf}
use Rattle.certificate_laws.specs.Agreement.{lower_lists}
use Rattle.certificate_laws.proofs.OneMatrix.{one-matrix}
use Rattle.certificate_laws.proofs.PlacedLists.{columns-long, columns-rise, same-places}
use Rattle.certificate_laws.proofs.RisingLists.{same-lists}
use Rattle.ccf_builder.specs.Canonical.{AreCanonicalLists, listed_columns, listed_parts, lower_list}
use Rattle.ccf_builder.specs.declared.canonical.Block.{Block}
use Rattle.ccf_builder.specs.declared.canonical.Parts.{Parts}
use Rattle.desk_laws.specs.Printed.{PrintsWhatIsTold, WhatIsToldIsPrinted, told_block}
use Rattle.desk_laws.proofs.OneTold.{AreBoth, block-is, columns_in, everywhere, listed-long, lower-long, lowers_in, moved, moved-lower, parted, rank-one}

-- ---- printed blocks are told by their columns and their lower lists
abbrev columns_of : List CcfBlock → List (List ℕ)
columns_of blocks = map (λ (block : CcfBlock). block.part.columns) blocks

abbrev lowers_of : List CcfBlock → List (List ℕ)
lowers_of blocks = map (λ (block : CcfBlock). block.lower) blocks

blocks-told : (xs : List CcfBlock) (ys : List Block) → columns_of xs ≡ columns_in ys → lowers_of xs ≡ lowers_in ys → map told_block xs ≡ ys
blocks-told [] [] columns lower = refl
blocks-told [] (y ∷ ys) columns lower = absurd cc
blocks-told (x ∷ xs) [] columns lower = absurd cc
blocks-told (x ∷ xs) (y ∷ ys) columns lower =
    let first : x.part.columns ≡ y.columns = cc in
    let low : x.lower ≡ y.lower = cc in
    let later : columns_of xs ≡ columns_in ys = cc in
    let lower_later : lowers_of xs ≡ lowers_in ys = cc in
    ap (λ z. z ∷ map told_block xs) (block-is (told_block x) y first low) ∙ ap (λ zs. y ∷ zs) (blocks-told xs ys later lower_later)

columns-count : (blocks : List CcfBlock) → length (columns_of blocks) ≡ length blocks
columns-count blocks = length-map blocks (λ (block : CcfBlock). block.part.columns)

lowers-count : (blocks : List CcfBlock) → length (lowers_of blocks) ≡ length blocks
lowers-count blocks = length-map blocks (λ (block : CcfBlock). block.lower)

told-count : (blocks : List Block) → length (columns_in blocks) ≡ length blocks
told-count blocks = length-map blocks (λ (block : Block). block.columns)

no_block : CcfBlock
no_block = record { part = record { columns = []; q_rows = []; t_rows = [] }; lower = [] }

lower-rises : (p : ℕ) (c : Contents) → IsCcf p c → (l : ℕ) → l < length c.blocks → AreRising l (get_or (lower_lists c) l [])
lower-rises p c is l ll = subst (λ list. AreRising l list)
    (sym (get_or-map (λ (block : CcfBlock). block.lower) c.blocks l no_block [] ll)) (is.blocks l no_block ll).lower

-- ---- a right form prints the lists that tell the canonical parts of its layered matrix
module _ (p : ℕ) (prime : IsPrime p) (M : MixedMatrix) (L : LayeredMatrix) (O : Origins) (c : Contents) (is : IsCcf p c)
    (R : IsRightCcf p M L O c) (w : Parts) (them : AreCanonicalLists p L w) where
  one : (length c.blocks ≡ length w.blocks.items) × ((x : ℕ) → x < L.columns → (parts_of c).column x ≡ (listed_parts w).column x)
  one = canonical-one p prime L (parts_of c) (listed_parts w) (R.canonical_listing).parts them.canonical

  columns : column_lists c ≡ listed_columns w
  columns = same-places L.columns (column_lists c) (listed_columns w)
      (subst (λ n. All (AreRising n) (column_lists c)) (R.shape).columns (columns-rise p c is))
      (everywhere L.columns (listed_columns w) them.rising) (R.block_triangular_form).columns them.once
      (let many : length c.blocks ≡ length w.blocks.items = one.0 in omega (arith, columns-long c, listed-long w, many)) one.1

  more : (k : ℕ) → k < length c.blocks → k < length w.blocks.items
  more k kl = subst (λ n. k < n) one.0 kl

  lower-one : (l : ℕ) → l < length c.blocks → get_or (lower_lists c) l [] ≡ lower_list w l
  lower-one l ll = same-lists l (get_or (lower_lists c) l []) (lower_list w l) (lower-rises p c is l ll) (them.lower_rising l)
      (λ k kl h. (them.lower k l (more k (omega arith)) (more l ll)).1
      (moved-lower p L (parts_of c) (listed_parts w) one.0 one.1 k l (((R.canonical_listing).lists k l (omega arith) ll).0 h)))
      (λ k kl h. ((R.canonical_listing).lists k l (omega arith) ll).1
      (moved-lower p L (listed_parts w) (parts_of c) (sym one.0) (λ x xl. sym (one.1 x xl)) k l
      ((them.lower k l (more k (omega arith)) (more l ll)).0 h)))

  lowers : lower_lists c ≡ lowers_in w.blocks.items
  lowers = ext_get_or [] (lower_lists c) (lowers_in w.blocks.items)
      (lowers-count c.blocks ∙ one.0 ∙ sym (lower-long w)) (λ l ll. lower-one l (subst (λ n. l < n) (lowers-count c.blocks) ll))

  long : length (columns_of c.blocks) ≡ length (columns_in w.blocks.items)
  long = columns-count c.blocks ∙ one.0 ∙ sym (told-count w.blocks.items)

  -- behind the first tail stand the columns of the blocks, and those of the last tail
  behind : columns_of c.blocks ++ c.last.columns ∷ [] ≡ columns_in w.blocks.items ++ w.last ∷ []
  behind = cc columns

  both_are : AreBoth (columns_of c.blocks) (columns_in w.blocks.items) c.last.columns w.last
  both_are = parted (columns_of c.blocks) (columns_in w.blocks.items) c.last.columns w.last long behind

  printed : (rank : ℕ) → c.rank ≡ rank → PrintsWhatIsTold c rank w
  printed rank same = record {
    rank_is = same;
    first = cc columns;
    blocks = blocks-told c.blocks w.blocks.items both_are.lists_are lowers;
    last = both_are.last_is;
  }

pub told-printed : WhatIsToldIsPrinted
told-printed p model layered origins c rank parts prime lay is right told =
    let M : MixedMatrix = mixed_matrix_of model in
    let K : LayeredMatrix = layered_matrix_of told.layers in
    let same : AreSameLayers p layered K = one-matrix M (gives_q M) (has_symbol M) layered K origins
    (origins_of told.layers told.layered.split) lay told.layered.layered p in
    printed p prime M layered origins c is right parts (moved p layered K parts same told.parts_are) rank
    (rank-one p M rank c.rank told.rank_is (right.pair_and_rank).rank)
