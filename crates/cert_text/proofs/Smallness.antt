-- Numbers in range have a next one of 64 bits.
use Rattle.std.proofs.Common.{ℕ, ◌≡◌, ◌<◌, ◌≤◌, ◌^◌, List, length, get_or, sym, subst, arith}
use Rattle.std.proofs.lemmas.List.{get_or-map, length-map}
use Rattle.std.specs.Prelude.{slice_index_or}
use Rattle.std.specs.List.{All}
use Rattle.cert_text.specs.Contents.{numbered, numbered_rows}
use Rattle.cert_text.specs.declared.shape.Shape.{Shape}
use Rattle.cert_text.specs.declared.part.CcfPart.{CcfPart}
use Rattle.cert_text.specs.declared.part.CcfBlock.{CcfBlock}
use Rattle.cert_text.specs.Ranges.{IsShape, AreRising, ArePairs, AreEntries, IsPart, IsBlock, AreSmall, AreSmallPairs}
use Rattle.cert_text.specs.Ranges.{HasSmallKeys, IsSmallPart, IsSmallBlock, AreSmallBlocks}

pub small_numbers : (n : ℕ) → n ≤ 8192 → (numbers : List ℕ) → AreRising n numbers → AreSmall numbers
small_numbers n few numbers are = λ k d within. omega (arith, few, are.below k d within)

pub small_pairs : (m n : ℕ) → m ≤ 8192 → n ≤ 8192 → (pairs : List (ℕ × ℕ)) → ArePairs m n pairs → AreSmallPairs pairs
small_pairs m n low few pairs are = λ k d within. (omega (arith, low, (are.within k d within).0), omega (arith, few, (are.within k d within).1))

pub small_keys : {T : Type 0} (number : T → ℕ) (p n : ℕ) → n ≤ 8192 → (entries : List (ℕ × T)) →
    AreEntries p n (numbered number entries) → HasSmallKeys entries
small_keys {T} number p n few entries are = λ i d inside.
    let named : ℕ × T → ℕ × ℕ = λ entry. (entry.0, number entry.1) in
    let same : get_or (numbered number entries) i (named d) ≡ named (get_or entries i d) = get_or-map named entries i d (named d) inside in
    let at = are.within i (named d) (subst (λ m. i < m) (sym (length-map entries named)) inside) in
    let low : (get_or entries i d).0 < n = subst (λ (entry : ℕ × ℕ). entry.0 < n) same at.0 in
    omega (arith, few, low)

pub small_rows : {T : Type 0} (number : T → ℕ) (p n : ℕ) → n ≤ 8192 → (rows : List (List (ℕ × T))) →
    All (AreEntries p n) (numbered_rows number rows) → All HasSmallKeys rows
small_rows {T} number p n few rows all = λ k d within.
    let same : get_or (numbered_rows number rows) k (numbered number d) ≡ numbered number (get_or rows k d) =
    get_or-map (numbered number) rows k d (numbered number d) within in
    small_keys number p n few (get_or rows k d)
    (subst (AreEntries p n) same (all k (numbered number d) (subst (λ m. k < m) (sym (length-map rows (numbered number))) within)))

pub small_columns : (n : ℕ) → n ≤ 8192 → (rows : List (List ℕ)) → All (AreRising n) rows → All AreSmall rows
small_columns n few rows all = λ k d within. small_numbers n few (slice_index_or rows k d) (all k d within)

pub small_part : (shape : Shape) → IsShape shape → (part : CcfPart) → IsPart shape part → IsSmallPart part
small_part shape is part fits = record {
  columns = small_numbers shape.columns is.columns part.columns fits.columns;
  q_rows = small_numbers shape.q_rows (omega (arith, is.q_rows)) part.q_rows fits.q_rows;
  t_rows = small_numbers shape.t_rows (omega (arith, is.t_rows)) part.t_rows fits.t_rows;
}

pub small_blocks : (shape : Shape) → IsShape shape → (blocks : List CcfBlock) →
    ((k : ℕ) (d : CcfBlock) → k < length blocks → IsBlock shape k (slice_index_or blocks k d)) → AreSmallBlocks blocks
small_blocks shape is blocks all = λ k d within. (small_part shape is (slice_index_or blocks k d).part (all k d within).part, (all k d within).lower.below)

-- lower blocks stand before place k
pub small_block : (k : ℕ) → k < 2 ^ 64 → (block : CcfBlock) → IsSmallPart block.part → All (λ number. number < k) block.lower → IsSmallBlock block
small_block k small block part below = record { part = part; lower = λ i d within. omega (arith, small, below i d within) }
