-- What is told of a model is one thing.
use Rattle.std.proofs.Common.{◌≡◌, ◌∙◌, ◌+◌, ◌<◌, ℕ, Bool, List, [], ◌∷◌, ◌++◌, length, map, get_or, length-append}
use Rattle.std.proofs.Common.{ap, sym, subst, refl, arith}
use Rattle.std.specs.List.{All}
use Rattle.std.proofs.lemmas.List.{ext_get_or, get_or_default, length-map}
use Rattle.residue_theory.specs.Residues.{IsPrime}
use Rattle.linear_algebra.specs.Products.{Agree as AreAlike}
use Rattle.mixed_matrices.specs.CanonicalParts.{IsBlockBelow, IsLowerBlock}
use Rattle.mixed_matrices.specs.Forms.{Parts as Forms}
use Rattle.mixed_matrices.specs.LayeredMatrices.{AreSameLayers, LayeredMatrix}
use Rattle.mixed_matrices.specs.Layerings.{gives_q, has_symbol}
use Rattle.mixed_matrices.specs.Models.{MixedMatrix, value}
use Rattle.mixed_matrices.specs.StructuralRanks.{IsStructuralRank}
use Rattle.mixed_matrices.specs.SetFunctions.{IsMinimiser}
use Rattle.mixed_pair_laws.proofs.PairRank.{greatest-unique}
use Rattle.mixed_form_laws.proofs.CanonicalForm.{canonical-one}
use Rattle.mixed_model.specs.Models.{mixed_matrix_of}
use Rattle.mixed_model.specs.Layers.{layered_matrix_of}
use Rattle.mixed_layering.specs.Layers.{origins_of}
use Rattle.cert_text.specs.Ranges.{AreRising}
use Rattle.certificate_laws.proofs.OneMatrix.{one-matrix}
use Rattle.certificate_laws.proofs.PlacedLists.{same-places}
use Rattle.certificate_laws.proofs.RisingLists.{same-lists}
use Rattle.certificate_laws.proofs.SameLayers.{lower-same, resized, same-canonical, same-lower, same-minimiser, with_entries}
use Rattle.ccf_builder.specs.Canonical.{AreCanonicalLists, listed_columns, listed_parts, lower_list}
use Rattle.ccf_builder.specs.declared.canonical.Block.{Block}
use Rattle.ccf_builder.specs.declared.canonical.Parts.{Parts}
use Rattle.desk_laws.specs.Laws.{OneThingIsTold}

-- lower blocks are told by the columns of the blocks
moved-below : (p : ℕ) (L : LayeredMatrix) (G H : Forms) → G.blocks ≡ H.blocks → ((x : ℕ) → x < L.columns → G.column x ≡ H.column x) →
    (k l : ℕ) → IsBlockBelow p L G k l → IsBlockBelow p L H k l
moved-below p L G H blocks same k l b = (
  b.0,
  λ x y ox oy. b.1 x y
      (ox.0, subst (λ n. k < n) (sym blocks) ox.1, same x ox.0 ∙ ox.2) (oy.0, subst (λ n. l < n) (sym blocks) oy.1, same y oy.0 ∙ oy.2),
)

pub moved-lower : (p : ℕ) (L : LayeredMatrix) (G H : Forms) → G.blocks ≡ H.blocks → ((x : ℕ) → x < L.columns → G.column x ≡ H.column x) →
    (k l : ℕ) → IsLowerBlock p L G k l → IsLowerBlock p L H k l
moved-lower p L G H blocks same k l b = record {
  below = moved-below p L G H blocks same k l b.below;
  none_between = λ h hl one two. b.none_between h (subst (λ n. h < n) (sym blocks) hl)
      (moved-below p L H G (sym blocks) (λ x xl. sym (same x xl)) k h one) (moved-below p L H G (sym blocks) (λ x xl. sym (same x xl)) h l two);
}

-- the lists before a last one, and the last one
pub record AreBoth (lists others : List (List ℕ)) (last end : List ℕ) : Type 0 where
  pub lists_are : lists ≡ others
  pub last_is : last ≡ end

pub parted : (lists others : List (List ℕ)) (last end : List ℕ) → length lists ≡ length others → lists ++ last ∷ [] ≡ others ++ end ∷ [] →
    AreBoth lists others last end
parted [] [] last end long same = record { lists_are = refl; last_is = cc }
parted [] (other ∷ others) last end long same = absurd (omega arith)
parted (list ∷ lists) [] last end long same = absurd (omega arith)
parted (list ∷ lists) (other ∷ others) last end long same =
    let first : list ≡ other = cc in
    let rest : lists ++ last ∷ [] ≡ others ++ end ∷ [] = cc in
    let both = parted lists others last end (omega arith) rest in
    record { lists_are = ap (λ x. x ∷ lists) first ∙ ap (λ xs. other ∷ xs) both.lists_are; last_is = both.last_is }

-- blocks are told by their lists
pub block-is : (a b : Block) → a.columns ≡ b.columns → a.lower ≡ b.lower → a ≡ b
block-is a b columns lower = λ i. record { columns = columns i; lower = lower i }

abbrev pub columns_in : List Block → List (List ℕ)
columns_in blocks = map (λ (block : Block). block.columns) blocks

abbrev pub lowers_in : List Block → List (List ℕ)
lowers_in blocks = map (λ (block : Block). block.lower) blocks

blocks-are : (xs ys : List Block) → columns_in xs ≡ columns_in ys → lowers_in xs ≡ lowers_in ys → xs ≡ ys
blocks-are [] [] columns lower = refl
blocks-are [] (y ∷ ys) columns lower = absurd cc
blocks-are (x ∷ xs) [] columns lower = absurd cc
blocks-are (x ∷ xs) (y ∷ ys) columns lower =
    let first : x.columns ≡ y.columns = cc in
    let low : x.lower ≡ y.lower = cc in
    let later : columns_in xs ≡ columns_in ys = cc in
    let lower_later : lowers_in xs ≡ lowers_in ys = cc in
    ap (λ z. z ∷ xs) (block-is x y first low) ∙ ap (λ zs. y ∷ zs) (blocks-are xs ys later lower_later)

-- two parts are told by the same lists
record AreSaid (parts others : Parts) : Type 0 where
  first : others.first ≡ parts.first
  blocks : others.blocks.items ≡ parts.blocks.items
  last : others.last ≡ parts.last

columns-long : (v : Parts) → length (columns_in v.blocks.items) ≡ length v.blocks.items
columns-long v = length-map v.blocks.items (λ (block : Block). block.columns)

pub listed-long : (v : Parts) → length (listed_columns v) ≡ length v.blocks.items + 2
listed-long v = omega (arith, columns-long v, length-append (columns_in v.blocks.items) (v.last ∷ []))

pub lower-long : (v : Parts) → length (lowers_in v.blocks.items) ≡ length v.blocks.items
lower-long v = length-map v.blocks.items (λ (block : Block). block.lower)

-- lists that rise at each place
pub everywhere : (n : ℕ) (lists : List (List ℕ)) → ((k : ℕ) → AreRising n (get_or lists k [])) → All (AreRising n) lists
everywhere n lists each k d kl = subst (AreRising n) (get_or_default lists k [] d kl) (each k)

-- lists that tell the parts of one layered matrix are the same
module _ (p : ℕ) (prime : IsPrime p) (L : LayeredMatrix) (v w : Parts) (are : AreCanonicalLists p L v) (them : AreCanonicalLists p L w) where
  one : (length v.blocks.items ≡ length w.blocks.items) × ((x : ℕ) → x < L.columns → (listed_parts v).column x ≡ (listed_parts w).column x)
  one = canonical-one p prime L (listed_parts v) (listed_parts w) are.canonical them.canonical

  columns : listed_columns v ≡ listed_columns w
  columns = same-places L.columns (listed_columns v) (listed_columns w) (everywhere L.columns (listed_columns v) are.rising)
      (everywhere L.columns (listed_columns w) them.rising)
      are.once them.once (let many : length v.blocks.items ≡ length w.blocks.items = one.0 in omega (arith, listed-long v, listed-long w, many)) one.1

  lower-one : (l : ℕ) → l < length v.blocks.items → lower_list v l ≡ lower_list w l
  lower-one l ll = same-lists l (lower_list v l) (lower_list w l) (are.lower_rising l) (them.lower_rising l)
      (λ k kl h. (them.lower k l (more k (omega arith)) (more l ll)).1
      (moved-lower p L (listed_parts v) (listed_parts w) one.0 one.1 k l ((are.lower k l (omega arith) ll).0 h)))
      (λ k kl h. (are.lower k l (omega arith) ll).1
      (moved-lower p L (listed_parts w) (listed_parts v) (sym one.0) (λ x xl. sym (one.1 x xl)) k l ((them.lower k l (more k (omega arith)) (more l ll)).0 h)))
    where
      more : (k : ℕ) → k < length v.blocks.items → k < length w.blocks.items
      more k kl = subst (λ n. k < n) one.0 kl

  lowers : lowers_in v.blocks.items ≡ lowers_in w.blocks.items
  lowers = ext_get_or [] (lowers_in v.blocks.items) (lowers_in w.blocks.items)
      (lower-long v ∙ one.0 ∙ sym (lower-long w)) (λ l ll. lower-one l (subst (λ n. l < n) (lower-long v) ll))

  long : length (columns_in v.blocks.items) ≡ length (columns_in w.blocks.items)
  long = columns-long v ∙ one.0 ∙ sym (columns-long w)

  -- behind the first tail stand the columns of the blocks, and those of the last tail
  behind : columns_in v.blocks.items ++ v.last ∷ [] ≡ columns_in w.blocks.items ++ w.last ∷ []
  behind = cc columns

  said : AreSaid v w
  said =
      let both = parted (columns_in v.blocks.items) (columns_in w.blocks.items) v.last w.last long behind in
      record {
        first = cc columns;
        blocks = sym (blocks-are v.blocks.items w.blocks.items both.lists_are lowers);
        last = sym both.last_is;
      }

-- the entries of a layered matrix decide which lists tell its parts
module _ (p : ℕ) (L K : LayeredMatrix) (w : Parts) (same : AreSameLayers p L K) (them : AreCanonicalLists p K w) where
  symbols : (i j : ℕ) → i < L.t_rows → j < L.columns → K.t i j ≡ L.t i j
  symbols i j il jl = sym (same.t i j il jl)

  constants : AreAlike p L.q_rows L.columns K.q L.q
  constants i j il jl = sym (same.q i j il jl)

  in_size : (E : LayeredMatrix → Type 0) → E K → E (with_entries L K.q K.t)
  in_size E = resized E L K same.q_rows same.t_rows same.columns

  into : (X : ℕ → Bool) → IsMinimiser p (with_entries L K.q K.t) X → IsMinimiser p L X
  into = same-minimiser p L K.q K.t same.q symbols

  from : (X : ℕ → Bool) → IsMinimiser p L X → IsMinimiser p (with_entries L K.q K.t) X
  from = same-minimiser p (with_entries L K.q K.t) L.q L.t constants same.t

  resized-lists : AreCanonicalLists p (with_entries L K.q K.t) w
  resized-lists = in_size (λ A. AreCanonicalLists p A w) them

  pub moved : AreCanonicalLists p L w
  moved = record {
    once = resized-lists.once;
    rising = resized-lists.rising;
    canonical = same-canonical p L K.q K.t into from (listed_parts w) resized-lists.canonical;
    lower_rising = resized-lists.lower_rising;
    lower = λ k l kl ll. (
      (λ h. same-lower p L K.q K.t into from (listed_parts w) k l ((resized-lists.lower k l kl ll).0 h)),
      (λ b. (resized-lists.lower k l kl ll).1 (lower-same p L K.q K.t into from (listed_parts w) k l b)),
    );
  }

pub rank-one : (p : ℕ) (M : MixedMatrix) (rank other : ℕ) → IsStructuralRank p M rank → IsStructuralRank p M other → other ≡ rank
rank-one p M rank other one two = greatest-unique p M.rows M.columns (value M) other rank two one

pub told-one : OneThingIsTold
told-one p model rank other parts others prime one two =
    let M : MixedMatrix = mixed_matrix_of model in
    let L : LayeredMatrix = layered_matrix_of one.layers in
    let K : LayeredMatrix = layered_matrix_of two.layers in
    let same : AreSameLayers p L K = one-matrix M (gives_q M) (has_symbol M) L K
    (origins_of one.layers one.layered.split) (origins_of two.layers two.layered.split) one.layered.layered two.layered.layered p in
    let are = said p prime L parts others one.parts_are (moved p L K others same two.parts_are) in
    (rank-one p M rank other one.rank_is two.rank_is, are.first, are.blocks, are.last)
