-- What is told of a model: its rank, and the parts of a right form of its layered matrix as lists.
use Rattle.std.proofs.Common.{◌≡◌, ℕ, ◌<◌, ◌≤◌, ◌↔◌, true, List, [], ◌∷◌, ◌++◌, length, map, get_or, Vec, Global}
use Rattle.std.proofs.Common.{refl, ap, sym, subst, arith, inl, inr}
use Rattle.std.specs.List.{All}
use Rattle.std.proofs.lemmas.Bool.{cases_lt}
use Rattle.std.proofs.lemmas.List.{get_or-map, get_or_past, length-map}
use denote.RawPtr.{null_ptr}
use Rattle.residue_theory.specs.Sets.{has}
use Rattle.mixed_matrices.specs.CanonicalParts.{AreCanonical, IsLowerBlock}
use Rattle.mixed_matrices.specs.Forms.{Parts as Forms}
use Rattle.mixed_matrices.specs.LayeredMatrices.{LayeredMatrix}
use Rattle.mixed_matrices.specs.Layerings.{Origins}
use Rattle.mixed_matrices.specs.Models.{MixedMatrix}
use Rattle.mixed_model.specs.Layers.{layered_matrix_of}
use Rattle.mixed_model.specs.Models.{mixed_matrix_of}
use Rattle.mixed_layering.specs.Layers.{origins_of}
use Rattle.cert_text.specs.Contents.{Contents}
use Rattle.cert_text.specs.Ranges.{AreRising, IsCcf}
use Rattle.cert_text.specs.Readings.{StandsOnce, column_lists, lower_of, parts_of, place_of}
use Rattle.cert_text.specs.Right.{IsRightCcf}
use Rattle.cert_text.specs.declared.part.CcfBlock.{CcfBlock}
use Rattle.certificate_laws.specs.Agreement.{lower_lists}
use Rattle.certificate_laws.proofs.PlacedLists.{columns-rise}
use Rattle.text_lengths.proofs.TextLengths.{blocks-few}
use Rattle.ccf_builder.specs.Canonical.{AreCanonicalLists, listed_columns, listed_parts}
use Rattle.ccf_builder.specs.declared.canonical.Block.{Block}
use Rattle.ccf_builder.specs.declared.canonical.Parts.{Parts}
use Rattle.existence_laws.specs.Forms.{HasRightForm}
use Rattle.existence_laws.specs.Layerings.{HasLayers}
use Rattle.existence_laws.proofs.Layering.{has-layers}
use Rattle.existence_laws.proofs.RightForms.{right-form}
use Rattle.desk_existence_laws.specs.Laws.{EachModelIsTold, HasTold}

-- ---- the parts of a form as the parts of a reply
-- a few items as a vector
abbrev vector_of : {B : Type 0} → (items : List B) → length items ≤ 8192 → Vec B Global
vector_of items few = record {
  ptr = null_ptr;
  len = length items;
  cap = length items;
  alloc = record { memory = record { seal = tt } };
  items = items;
  ok = (refl, omega arith);
  small = omega (arith, few);
}

abbrev block_told : CcfBlock → Block
block_told block = record { columns = block.part.columns; lower = block.lower }

abbrev parts_told : (c : Contents) → length c.blocks ≤ 8192 → Parts
parts_told c few = record {
  first = c.first.columns;
  blocks = vector_of (map block_told c.blocks) (subst (λ n. n ≤ 8192) (sym (length-map c.blocks block_told)) few);
  last = c.last.columns;
}

columns-told : (blocks : List CcfBlock) →
    map (λ (block : Block). block.columns) (map block_told blocks) ≡ map (λ (block : CcfBlock). block.part.columns) blocks
columns-told [] = refl
columns-told (block ∷ blocks) = ap (λ lists. block.part.columns ∷ lists) (columns-told blocks)

lower-told : (blocks : List CcfBlock) → map (λ (block : Block). block.lower) (map block_told blocks) ≡ map (λ (block : CcfBlock). block.lower) blocks
lower-told [] = refl
lower-told (block ∷ blocks) = ap (λ lists. block.lower ∷ lists) (lower-told blocks)

-- ---- lists that rise
no_numbers : (n : ℕ) → AreRising n []
no_numbers n = record { rising = λ k kl. absurd (omega (arith, kl)); below = λ k d kl. absurd (omega (arith, kl)) }

rising-at : (n : ℕ) (lists : List (List ℕ)) → All (AreRising n) lists → (k : ℕ) → AreRising n (get_or lists k [])
rising-at n lists all k = elim (cases_lt k (length lists)) [
  | inl low ↦ all k [] low
  | inr high ↦ subst (AreRising n) (sym (get_or_past lists k [] high)) (no_numbers n)
]

no_block : CcfBlock
no_block = record { part = record { columns = []; q_rows = []; t_rows = [] }; lower = [] }

lower-rising : (p : ℕ) (c : Contents) → IsCcf p c → (k : ℕ) → AreRising k (get_or (lower_lists c) k [])
lower-rising p c is k = elim (cases_lt k (length c.blocks)) [
  | inl low ↦ subst (AreRising k) (sym (get_or-map (λ (block : CcfBlock). block.lower) c.blocks k no_block [] low)) (is.blocks k no_block low).lower
  | inr high ↦ subst (AreRising k)
      (sym (get_or_past (lower_lists c) k [] (omega (arith, high, length-map c.blocks (λ (block : CcfBlock). block.lower))))) (no_numbers k)
]

-- ---- canonical parts without rows
abbrev bare : ℕ → (ℕ → ℕ) → Forms
bare b column = record { blocks = b; column = column; q_row = λ i. 0; t_row = λ i. 0 }

bare-canonical : (p : ℕ) (L : LayeredMatrix) (G : Forms) → AreCanonical p L G → AreCanonical p L (bare G.blocks G.column)
bare-canonical p L G are = record {
  columns = are.columns;
  held = are.held;
  first = are.first;
  last = are.last;
  block = are.block;
  ready = are.ready;
  least = are.least;
}

bare-lower : (p : ℕ) (L : LayeredMatrix) (G : Forms) (k l : ℕ) → IsLowerBlock p L G k l → IsLowerBlock p L (bare G.blocks G.column) k l
bare-lower p L G k l is = record { below = is.below; none_between = is.none_between }

lower-bare : (p : ℕ) (L : LayeredMatrix) (G : Forms) (k l : ℕ) → IsLowerBlock p L (bare G.blocks G.column) k l → IsLowerBlock p L G k l
lower-bare p L G k l is = record { below = is.below; none_between = is.none_between }

-- ---- the parts of a right form
module _ (p : ℕ) (M : MixedMatrix) (L : LayeredMatrix) (O : Origins) (c : Contents) (is : IsCcf p c) (right : IsRightCcf p M L O c) where
  few : length c.blocks ≤ 8192
  few =
      let blocks : length c.blocks ≤ L.columns = blocks-few p L (parts_of c) (right.canonical_listing).parts in
      omega (arith, blocks, (right.shape).columns, (is.shape).columns)

  abbrev v : Parts
  v = parts_told c few

  columns-are : listed_columns v ≡ column_lists c
  columns-are = ap (λ lists. c.first.columns ∷ (lists ++ c.last.columns ∷ [])) (columns-told c.blocks)

  lower-are : map (λ (block : Block). block.lower) v.blocks.items ≡ lower_lists c
  lower-are = lower-told c.blocks

  count : length v.blocks.items ≡ length c.blocks
  count = length-map c.blocks block_told

  -- what holds of the count of blocks and of the lists of the form holds of those that are told
  moved : (P : ℕ → List (List ℕ) → Type 0) → P (length c.blocks) (column_lists c) → P (length v.blocks.items) (listed_columns v)
  moved P holds = subst (λ n. P n (listed_columns v)) (sym count) (subst (P (length c.blocks)) (sym columns-are) holds)

  lower-there : (k l : ℕ) → k < length v.blocks.items → l < length v.blocks.items →
      (lower_of c l k ≡ true) ↔ IsLowerBlock p L (bare (length c.blocks) (place_of (column_lists c))) k l
  lower-there k l kl ll =
      let at = (right.canonical_listing).lists k l (subst (λ n. k < n) count kl) (subst (λ n. l < n) count ll) in
      ((λ h. bare-lower p L (parts_of c) k l (at.0 h)), (λ b. at.1 (lower-bare p L (parts_of c) k l b)))

  canonical-lists : AreCanonicalLists p L v
  canonical-lists = record {
    once = subst (StandsOnce L.columns) (sym columns-are) (right.block_triangular_form).columns;
    rising = λ k. subst (λ lists. AreRising L.columns (get_or lists k [])) (sym columns-are)
        (rising-at L.columns (column_lists c) (subst (λ n. All (AreRising n) (column_lists c)) (right.shape).columns (columns-rise p c is)) k);
    canonical = moved (λ b lists. AreCanonical p L (bare b (place_of lists))) (bare-canonical p L (parts_of c) (right.canonical_listing).parts);
    lower_rising = λ k. subst (λ lists. AreRising k (get_or lists k [])) (sym lower-are) (lower-rising p c is k);
    lower = λ k l kl ll. subst (λ lists. (has (get_or lists l []) k ≡ true) ↔ IsLowerBlock p L (listed_parts v) k l) (sym lower-are)
        (moved (λ b lists. (lower_of c l k ≡ true) ↔ IsLowerBlock p L (bare b (place_of lists)) k l) (lower-there k l kl ll));
  }

pub each-told : EachModelIsTold
each-told p prime big model is = with_layers (has-layers p model is)
  where
    with_layers : HasLayers model → HasTold p model
    with_layers l = with_form (right-form p prime big (mixed_matrix_of model) is.equations.few is.unknowns.few
        (layered_matrix_of l.layers) (origins_of l.layers l.are.split) l.are.layered)
      where
        with_form : HasRightForm p (mixed_matrix_of model) (layered_matrix_of l.layers) (origins_of l.layers l.are.split) → HasTold p model
        with_form f = record {
          rank = f.form.rank;
          parts = v p (mixed_matrix_of model) (layered_matrix_of l.layers) (origins_of l.layers l.are.split) f.form f.is f.right;
          told = record {
            rank_is = f.right.pair_and_rank.rank;
            layers = l.layers;
            layered = l.are;
            parts_are = canonical-lists p (mixed_matrix_of model) (layered_matrix_of l.layers) (origins_of l.layers l.are.split) f.form f.is f.right;
          };
        }
