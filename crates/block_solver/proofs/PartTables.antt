-- The table of a part and what is left of its right sides: what solving them tells of the part.
use Rattle.std.proofs.Common.{◌≡◌, ℕ, ◌+◌, ◌-◌, ◌%◌, ◌<◌, ◌≤◌, ◌≢◌, true, false, cond, ltb, List, [], length, map}
use Rattle.std.proofs.Common.{slice_index, slice_index_or, slice_set, inl, inr, ap, sym, subst, ◌∙◌, arith}
use Rattle.std.proofs.lemmas.Bool.Decides.{nat_tests}
use Rattle.std.proofs.lemmas.List.{get_or-set_other, get_or-set_same, length-map, length-set, map-set}
use Rattle.std.specs.List.Sorted.{IsStrictlyIncreasing}
use Rattle.residue_theory.proofs.SetLaws.{differ, lt_cases}
use Rattle.residue_theory.proofs.SumLaws.{nat_cases}
use Rattle.residue_theory.specs.Sets.{everything, has}
use Rattle.linear_algebra.specs.Columns.{IsIndependent}
use Rattle.linear_algebra_laws.proofs.Products.{independent-agree}
use Rattle.block_laws.specs.Systems.{IsSystemSolution}
use Rattle.dense_q.specs.Tables.{IsTableOf, Table, entry, height}
use Rattle.cert_text.specs.declared.part.CcfPart.{CcfPart}
use Rattle.block_solver.specs.Blocks.{BlockSystem, FitsSystem, IsRegularPart, LeavesPart, PartHolds, PutsNumbers, part_matrix, part_right, part_row}
use Rattle.block_solver.specs.Rows.{AreKeysRising}
use Rattle.block_solver.proofs.RisingLists.{rising-distinct}
use Rattle.block_solver.proofs.Splits.{has-place, row-solved}

-- ---- the rows of a part: the Q rows first
module _ (s : BlockSystem) (part : CcfPart) where
  before : (r : ℕ) → r < length part.q_rows → ltb r (length part.q_rows) ≡ true
  before r top = grind (arith, nat_tests)

  behind : (r : ℕ) → length part.q_rows ≤ r → ltb r (length part.q_rows) ≡ false
  behind r low = grind (arith, nat_tests)

  pub row-top : (r : ℕ) → r < length part.q_rows → part_row s part r ≡ slice_index_or s.p (slice_index part.q_rows r) []
  row-top r top = ap (λ b. cond b (slice_index_or s.p (slice_index part.q_rows r) [])
      (slice_index_or s.t (slice_index part.t_rows (r - length part.q_rows)) [])) (before r top)

  pub row-low : (r : ℕ) → length part.q_rows ≤ r → part_row s part r ≡ slice_index_or s.t (slice_index part.t_rows (r - length part.q_rows)) []
  row-low r low = ap (λ b. cond b (slice_index_or s.p (slice_index part.q_rows r) [])
      (slice_index_or s.t (slice_index part.t_rows (r - length part.q_rows)) [])) (behind r low)

  pub right-top : (r : ℕ) → r < length part.q_rows → part_right s part r ≡ slice_index s.p_right (slice_index part.q_rows r)
  right-top r top = ap (λ b. cond b (slice_index s.p_right (slice_index part.q_rows r))
      (slice_index s.t_right (slice_index part.t_rows (r - length part.q_rows)))) (before r top)

  pub right-low : (r : ℕ) → length part.q_rows ≤ r → part_right s part r ≡ slice_index s.t_right (slice_index part.t_rows (r - length part.q_rows))
  right-low r low = ap (λ b. cond b (slice_index s.p_right (slice_index part.q_rows r))
      (slice_index s.t_right (slice_index part.t_rows (r - length part.q_rows)))) (behind r low)

-- ---- one more number put
pub numbers-next : {T : Type 0} (number : T → ℕ) (columns old numbers : List ℕ) (xs : List T) (n : ℕ) (v : T) → IsStrictlyIncreasing columns →
    n < length columns → slice_index columns n < length xs → PutsNumbers columns old (map number xs) numbers n → number v ≡ slice_index numbers n →
    PutsNumbers columns old (map number (slice_set xs (slice_index columns n) v)) numbers (n + 1)
numbers-next number columns old numbers xs n v rising nl low puts is = record {
  count = length-map (slice_set xs (slice_index columns n) v) number ∙ length-set xs (slice_index columns n) v ∙ sym (length-map xs number) ∙ puts.count;
  put = λ c cl. elim (nat_cases c n) [
    | inl q ↦ subst (λ k. slice_index (map number (slice_set xs (slice_index columns n) v)) (slice_index columns k) ≡ slice_index numbers k) (sym q)
        (set-here ∙ is)
    | inr ne ↦ set-other (slice_index columns c)
        (λ e. ne (rising-distinct columns rising c n (omega (arith, cl, nl)) nl e)) ∙ puts.put c (omega (arith, cl, ne))
  ];
  others = λ j out. set-other j (λ e. differ (subst (λ k. has columns k ≡ false) e out) (has-place columns n nl)) ∙ puts.others j out;
}
  where
    set-here : slice_index (map number (slice_set xs (slice_index columns n) v)) (slice_index columns n) ≡ number v
    set-here = ap (λ ys. slice_index ys (slice_index columns n)) (map-set number xs (slice_index columns n) v)
        ∙ get_or-set_same (map number xs) (slice_index columns n) (number v) 0 (omega (arith, length-map xs number, low))

    set-other : (k : ℕ) → k ≢ slice_index columns n →
        slice_index (map number (slice_set xs (slice_index columns n) v)) k ≡ slice_index (map number xs) k
    set-other k ne = ap (λ ys. slice_index ys k) (map-set number xs (slice_index columns n) v)
        ∙ get_or-set_other (map number xs) (slice_index columns n) k (number v) 0 ne

-- ---- a row of the part has rising columns
pub part-rising : (s : BlockSystem) (n : ℕ) (part : CcfPart) → FitsSystem s n part → (r : ℕ) → r < length part.columns → AreKeysRising (part_row s part r)
part-rising s n part fits r rl = elim (lt_cases r (length part.q_rows)) [
  | inl top ↦ subst AreKeysRising (sym (row-top s part r top)) (fits.p_rising (slice_index part.q_rows r) [] (fits.q_rows r 0 top))
  | inr low ↦ subst AreKeysRising (sym (row-low s part r low))
      (fits.t_rising (slice_index part.t_rows (r - length part.q_rows)) [] (fits.t_rows (r - length part.q_rows) 0 (omega (arith, low, rl, fits.square))))
]

-- ---- the part is regular where its table is, and is solved where its table is
module _ (p : ℕ) (s : BlockSystem) (part : CcfPart) (table : Table)
    (is : IsTableOf (length part.columns) (length part.columns) (part_matrix s part) table) where
  pub part-regular : IsIndependent p (entry table) (height table) (height table) everything → IsRegularPart p s part
  part-regular ind = independent-agree p (length part.columns) (length part.columns) (entry table) (part_matrix s part) everything
      (λ r c rl cl. ap (λ v. v % p) (is.entries r c rl cl))
      (subst (λ k. IsIndependent p (entry table) k k everything) is.height_is ind)

  pub table-regular : IsRegularPart p s part → IsIndependent p (entry table) (height table) (height table) everything
  table-regular ind = subst (λ k. IsIndependent p (entry table) k k everything) (sym is.height_is)
      (independent-agree p (length part.columns) (length part.columns) (part_matrix s part) (entry table) everything
      (λ r c rl cl. ap (λ v. v % p) (sym (is.entries r c rl cl))) ind)

  pub part-solved : (n : ℕ) → FitsSystem s n part → (x y left numbers : List ℕ) → LeavesPart p s part x left →
      ((c : ℕ) → c < length part.columns → slice_index x (slice_index part.columns c) ≡ 0) →
      IsSystemSolution p (entry table) (height table) (height table) (slice_index numbers) (slice_index left) →
      PutsNumbers part.columns x y numbers (length part.columns) → PartHolds p s part y
  part-solved n fits x y left numbers leaves zeros solved puts r rl = row-solved part.columns x y
      (rising-distinct part.columns fits.columns.rising) zeros puts.others p (part_row s part r) (slice_index numbers) (entry table r)
      (slice_index left r) (part_right s part r) (part-rising s n part fits r rl) puts.put (λ c cl. is.entries r c rl cl)
      (solution r rl) (leaves.left r rl)
    where
      solution : IsSystemSolution p (entry table) (length part.columns) (length part.columns) (slice_index numbers) (slice_index left)
      solution = subst (λ k. IsSystemSolution p (entry table) k k (slice_index numbers) (slice_index left)) is.height_is solved
