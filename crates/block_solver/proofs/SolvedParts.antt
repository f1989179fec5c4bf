-- The blocks of a form, solved from the last to the first.
use Rattle.std.proofs.Common.{◌≡◌, ℕ, zero, suc, replicate, ◌+◌, ◌-◌, ◌*◌, ◌%◌, ◌<◌, List, length, slice_index}
use Rattle.std.proofs.Common.{slice_index_or, inl, inr, refl, ap, sym, subst, ◌∙◌, arith}
use Rattle.std.proofs.lemmas.List.{get_or_default, length-replicate}
use Rattle.residue_theory.proofs.SumLaws.{nat_cases, sum_on-ext, sum_on-none}
use Rattle.residue_theory.specs.Sets.{everything}
use Rattle.cert_text.specs.Readings.{entry_at}
use Rattle.cert_text.specs.declared.part.CcfBlock.{CcfBlock}
use Rattle.block_solver.specs.Blocks.{BlockSystem, ChangesPart, FitBlocks, IsRegularPart, IsSolving, PartHolds, part_row}
use Rattle.block_solver.specs.Rows.{row_sum}
use Rattle.block_solver.proofs.PartTables.{part-rising}
use Rattle.block_solver.proofs.RisingLists.{rising-distinct}
use Rattle.block_solver.proofs.Splits.{row-split}

-- block k is solved, and x becomes y
module _ (p : ℕ) (s : BlockSystem) (n : ℕ) (blocks : List CcfBlock) (fit : FitBlocks s n blocks) (x y : List ℕ) (k : ℕ) (d : CcfBlock) (kl : k < length blocks)
    (solving : IsSolving p s n blocks x (k + 1)) (changed : ChangesPart (slice_index_or blocks k d).part x y)
    (regular : IsRegularPart p s (slice_index_or blocks k d).part) (holds : PartHolds p s (slice_index_or blocks k d).part y) where
  pub zero-at : (c : ℕ) → c < length (slice_index_or blocks k d).part.columns → slice_index x (slice_index (slice_index_or blocks k d).part.columns c) ≡ 0
  zero-at c cl = solving.zero k c d (omega arith) kl cl

  stays : (l : ℕ) (e : CcfBlock) → k < l → l < length blocks → PartHolds p s (slice_index_or blocks l e).part x →
      PartHolds p s (slice_index_or blocks l e).part y
  stays l e less ll held r rl =
      ap (λ v. v % p) (row-split (slice_index_or blocks k d).part.columns x y
      (rising-distinct (slice_index_or blocks k d).part.columns (fit.each k d kl).columns.rising) zero-at changed.others
      (part_row s (slice_index_or blocks l e).part r) (part-rising s n (slice_index_or blocks l e).part (fit.each l e ll) r rl)
      ∙ ap (λ v. row_sum (part_row s (slice_index_or blocks l e).part r) x + v)
      (sum_on-ext everything (length (slice_index_or blocks k d).part.columns)
      (λ c. slice_index y (slice_index (slice_index_or blocks k d).part.columns c) *
      entry_at (part_row s (slice_index_or blocks l e).part r) (slice_index (slice_index_or blocks k d).part.columns c)) (λ _. 0)
      (λ c cl _. ap (λ v. slice_index y (slice_index (slice_index_or blocks k d).part.columns c) * v) (fit.triangular k l r c d e less ll rl cl)
      ∙ nothing (slice_index y (slice_index (slice_index_or blocks k d).part.columns c)))
      ∙ sum_on-none everything (length (slice_index_or blocks k d).part.columns))
      ∙ plain (row_sum (part_row s (slice_index_or blocks l e).part r) x))
      ∙ held r rl
    where
      nothing : (v : ℕ) → v * 0 ≡ 0
      nothing v = omega arith

      plain : (v : ℕ) → v + 0 ≡ v
      plain v = omega arith

  pub solving-next : IsSolving p s n blocks y k
  solving-next = record {
    count = changed.count ∙ solving.count;
    zero = λ j c e jk jl cl. changed.others (slice_index (slice_index_or blocks j e).part.columns c) (fit.apart j k c e d jk kl cl)
        ∙ solving.zero j c e (omega (arith, jk)) jl cl;
    regular = λ l e kle ll. elim (nat_cases l k) [
      | inl q ↦ subst (λ i. IsRegularPart p s (slice_index_or blocks i e).part) (sym q) (here-regular e)
      | inr ne ↦ solving.regular l e (omega (arith, kle, ne)) ll
    ];
    holds = λ l e kle ll. elim (nat_cases l k) [
      | inl q ↦ subst (λ i. PartHolds p s (slice_index_or blocks i e).part y) (sym q) (here-holds e)
      | inr ne ↦ stays l e (omega (arith, kle, ne)) ll (solving.holds l e (omega (arith, kle, ne)) ll)
    ];
  }
    where
      one : (e : CcfBlock) → slice_index_or blocks k d ≡ slice_index_or blocks k e
      one e = get_or_default blocks k d e kl

      here-regular : (e : CcfBlock) → IsRegularPart p s (slice_index_or blocks k e).part
      here-regular e = subst (λ (b : CcfBlock). IsRegularPart p s b.part) (one e) regular

      here-holds : (e : CcfBlock) → PartHolds p s (slice_index_or blocks k e).part y
      here-holds e = subst (λ (b : CcfBlock). PartHolds p s b.part y) (one e) holds

pub zero-in : (n i : ℕ) → slice_index (replicate n 0) i ≡ 0
zero-in zero i = refl
zero-in (suc n) zero = refl
zero-in (suc n) (suc i) = zero-in n i

-- before any block is solved
pub solving-first : (p : ℕ) (s : BlockSystem) (n : ℕ) (blocks : List CcfBlock) (x : List ℕ) → x ≡ replicate n 0 → IsSolving p s n blocks x (length blocks)
solving-first p s n blocks x is = record {
  count = ap (λ (l : List ℕ). length l) is ∙ length-replicate n 0;
  zero = λ j c d _ _ _. ap (λ (l : List ℕ). slice_index l (slice_index (slice_index_or blocks j d).part.columns c)) is
      ∙ zero-in n (slice_index (slice_index_or blocks j d).part.columns c);
  regular = λ j d le less. absurd (omega (arith, le, less));
  holds = λ j d le less. absurd (omega (arith, le, less));
}
