-- In a block triangular form the structural ranks of the diagonal parts add up to at most the structural rank:
-- a symbol stands in one diagonal part alone, so values of all parts can be put together.
use Rattle.std.proofs.Common.{◌≡◌, ◌+◌, ◌-◌, ◌%◌, ◌<◌, ◌≤◌, ◌&&◌, ◌∙◌, ℕ, Bool, true, false, cond, eqb, ltb, leb, inl, inr, refl, ap, sym, subst, arith}
use Rattle.std.proofs.lemmas.Bool.Decides.{nat_tests}
use Rattle.std.proofs.Math.Nat.{zero-mod}
use Rattle.residue_theory.proofs.SetLaws.{choose, eqb_true, lt_cases}
use Rattle.residue_theory.proofs.SumLaws.{nat_cases}
use Rattle.residue_theory.specs.Residues.{IsPrime}
use Rattle.residue_theory.specs.Sets.{everything}
use Rattle.residue_theory.specs.Sums.{sum_below}
use Rattle.linear_algebra.specs.Columns.{IsRank}
use Rattle.linear_algebra.specs.Parts.{IsBlockTriangular, diagonal}
use Rattle.linear_algebra_laws.proofs.Entries.{above-low, above-top}
use Rattle.linear_algebra_laws.proofs.Kernels.{kernel_of-agree, rank_of-kernel}
use Rattle.linear_algebra_laws.proofs.Ranks.{rank_exists}
use Rattle.linear_algebra_laws.proofs.Triangular.{triangular-rank}
use Rattle.mixed_matrices.specs.Forms.{IsTriangular, Parts, diagonal_part, part_columns, part_rows}
use Rattle.mixed_matrices.specs.LayeredMatrices.{LayeredMatrix, layered_value}
use Rattle.mixed_matrices.specs.Models.{numbers}
use Rattle.mixed_matrices.specs.StructuralRanks.{IsLayeredRank}

module _ (p : ℕ) (prime : IsPrime p) (P : LayeredMatrix) (G : Parts) (tri : IsTriangular p P G) where
  -- the rank of diagonal part h
  abbrev pub part_rank : ℕ → ℕ
  part_rank h = cond (leb h G.blocks) (part_rows P G h) (part_columns P G h)

  early : (h : ℕ) → h ≤ G.blocks → leb h G.blocks ≡ true
  early h le = grind (arith, nat_tests)

  late : leb (G.blocks + 1) G.blocks ≡ false
  late = over G.blocks (G.blocks + 1) (omega arith)
    where
      over : (b c : ℕ) → b < c → leb c b ≡ false
      over b c l = grind (arith, nat_tests)

  pub early-rank : (h : ℕ) → h ≤ G.blocks → part_rank h ≡ part_rows P G h
  early-rank h le = ap (λ b. cond b (part_rows P G h) (part_columns P G h)) (early h le)

  pub late-rank : part_rank (G.blocks + 1) ≡ part_columns P G (G.blocks + 1)
  late-rank = ap (λ b. cond b (part_rows P G (G.blocks + 1)) (part_columns P G (G.blocks + 1))) late

  each-rank : (h : ℕ) → h < G.blocks + 2 → IsLayeredRank p (diagonal_part P G h) (part_rank h)
  each-rank h hl = elim (nat_cases h (G.blocks + 1)) [
    | inl q ↦ subst (λ k. IsLayeredRank p (diagonal_part P G k) (part_rank k)) (sym q)
        (subst (λ r. IsLayeredRank p (diagonal_part P G (G.blocks + 1)) r) (sym late-rank) tri.column_rank)
    | inr ne ↦ subst (λ r. IsLayeredRank p (diagonal_part P G h) r) (sym (early-rank h (omega arith))) (tri.row_rank h (omega arith))
  ]

  -- f gives the values of each part
  module _ (f : ℕ → ℕ → ℕ → ℕ)
      (ranked : (h : ℕ) → h < G.blocks + 2 → IsRank p (layered_value (diagonal_part P G h) (f h)) (P.q_rows + P.t_rows)
      P.columns everything (part_rank h)) where
    abbrev values : ℕ → ℕ → ℕ
    values i j = f (G.t_row i) i j

    abbrev row_part : ℕ → ℕ
    row_part i = cond (ltb i P.q_rows) (G.q_row i) (G.t_row (i - P.q_rows))

    row_part-top : (i : ℕ) → i < P.q_rows → row_part i ≡ G.q_row i
    row_part-top i l = top (ltb i P.q_rows) (let e : ltb i P.q_rows ≡ true = grind (arith, nat_tests) in e)
      where
        top : (b : Bool) → b ≡ true → cond b (G.q_row i) (G.t_row (i - P.q_rows)) ≡ G.q_row i
        top b e = ap (λ c. cond c (G.q_row i) (G.t_row (i - P.q_rows))) e

    row_part-low : (k : ℕ) → row_part (P.q_rows + k) ≡ G.t_row k
    row_part-low k = low (ltb (P.q_rows + k) P.q_rows) (P.q_rows + k - P.q_rows)
        (let g : P.q_rows ≤ P.q_rows + k = omega arith in grind (arith, nat_tests)) (omega arith)
      where
        low : (b : Bool) (i : ℕ) → b ≡ false → i ≡ k → cond b (G.q_row (P.q_rows + k)) (G.t_row i) ≡ G.t_row k
        low b i e q = ap (λ c. cond c (G.q_row (P.q_rows + k)) (G.t_row i)) e ∙ ap G.t_row q

    -- what holds at each Q row and at each T row holds at each row
    at_rows : (E : ℕ → Type 0) → ((i : ℕ) → i < P.q_rows → E i) → ((k : ℕ) → k < P.t_rows → E (P.q_rows + k)) → (i : ℕ) → i < P.q_rows + P.t_rows → E i
    at_rows E top low i il = elim (lt_cases i P.q_rows) [
      | inl less ↦ top i less
      | inr more ↦ subst E (let q : P.q_rows + (i - P.q_rows) ≡ i = omega arith in q)
          (low (i - P.q_rows) (omega arith))
    ]

    triangular : IsBlockTriangular p (layered_value P values) (P.q_rows + P.t_rows) P.columns row_part G.column
    triangular i j il jl less = at_rows (λ i. G.column j < row_part i → layered_value P values i j % p ≡ 0)
        (λ i l h. ap (λ s. s % p) (above-top P.q_rows P.q (numbers P.t values) i j l) ∙
        (tri.empty (G.q_row i) (G.column j) (subst (λ k. G.column j < k) (row_part-top i l) h)).q i j l jl refl refl)
        (λ k kl h. ap (λ s. s % p) (above-low P.q_rows P.q (numbers P.t values) k j)
        ∙ ap (λ b. cond b (values k j) 0 % p)
        ((tri.empty (G.t_row k) (G.column j) (subst (λ l. G.column j < l) (row_part-low k) h)).t k j kl jl refl
        refl) ∙ zero-mod p)
        i il less

    -- the diagonal part of the whole is the whole of the diagonal part
    diagonal-agrees : (h i j : ℕ) → i < P.q_rows + P.t_rows →
        layered_value (diagonal_part P G h) (f h) i j ≡ diagonal row_part G.column (layered_value P values) h i j
    diagonal-agrees h i j il = at_rows (λ i. layered_value (diagonal_part P G h) (f h) i j ≡ diagonal row_part G.column (layered_value P values) h i j)
        (λ i l. above-top P.q_rows (diagonal_part P G h).q (numbers (diagonal_part P G h).t (f h)) i j l
        ∙ ap (λ x. cond (eqb (G.q_row i) h && eqb (G.column j) h) x 0) (sym (above-top P.q_rows P.q (numbers P.t values) i j l))
        ∙ ap (λ k. cond (eqb k h && eqb (G.column j) h) (layered_value P values i j) 0) (sym (row_part-top i l)))
        (λ k _. above-low P.q_rows (diagonal_part P G h).q (numbers (diagonal_part P G h).t (f h)) k j
        ∙ t_entry (eqb (G.t_row k) h) (eqb (G.column j) h) (P.t k j) (f h k j) (values k j) (λ e. ap (λ g. f g k j) (sym (eqb_true (G.t_row k) h e)))
        ∙ ap (λ x. cond (eqb (G.t_row k) h && eqb (G.column j) h) x 0) (sym (above-low P.q_rows P.q (numbers P.t values) k j))
        ∙ ap (λ l. cond (eqb l h && eqb (G.column j) h) (layered_value P values (P.q_rows + k) j) 0) (sym (row_part-low k)))
        i il
      where
        t_entry : (a b t : Bool) (x y : ℕ) → (a ≡ true → x ≡ y) → cond (a && b && t) x 0 ≡ cond (a && b) (cond t y 0) 0
        t_entry true true t x y e = ap (λ z. cond t z 0) (e refl)
        t_entry true false t x y e = refl
        t_entry false b t x y e = refl

    ranks-below : (s : ℕ) → IsRank p (layered_value P values) (P.q_rows + P.t_rows) P.columns everything s → sum_below (G.blocks + 2) part_rank ≤ s
    ranks-below s S = triangular-rank p prime (P.q_rows + P.t_rows) P.columns (G.blocks + 2) (layered_value P values) row_part G.column
        (λ j jl. omega (arith, tri.columns j jl)) triangular part_rank
        (λ h hl. rank_of-kernel p (P.q_rows + P.t_rows) P.columns (layered_value (diagonal_part P G h) (f h))
        (diagonal row_part G.column (layered_value P values) h) everything (part_rank h)
        (kernel_of-agree p (P.q_rows + P.t_rows) P.columns (layered_value (diagonal_part P G h) (f h)) (diagonal row_part G.column (layered_value P values) h)
        (λ i j il jl. ap (λ x. x % p) (diagonal-agrees h i j il))) (ranked h hl))
        s S

    values-reach : (s : ℕ) × IsRank p (layered_value P values) (P.q_rows + P.t_rows) P.columns everything s × (sum_below (G.blocks + 2) part_rank ≤ s)
    values-reach = go (rank_exists p prime (layered_value P values) (P.q_rows + P.t_rows) P.columns everything)
      where
        go : (s : ℕ) × IsRank p (layered_value P values) (P.q_rows + P.t_rows) P.columns everything s → (s : ℕ) × IsRank p (layered_value P values)
            (P.q_rows + P.t_rows) P.columns everything s × (sum_below (G.blocks + 2) part_rank ≤ s)
        go (s, S) = (s, S, ranks-below s S)

  pub diagonal-ranks : (r : ℕ) → IsLayeredRank p P r → sum_below (G.blocks + 2) part_rank ≤ r
  diagonal-ranks r R = go (choose (G.blocks + 2) (ℕ → ℕ → ℕ) (λ _ _. 0)
      (λ h w. IsRank p (layered_value (diagonal_part P G h) w) (P.q_rows + P.t_rows) P.columns everything (part_rank h))
      (λ h hl. (each-rank h hl).reached))
    where
      go : (f : ℕ → ℕ → ℕ → ℕ) × ((h : ℕ) → h < G.blocks + 2 → IsRank p (layered_value (diagonal_part P G h) (f h)) (P.q_rows + P.t_rows) P.columns everything
          (part_rank h)) → sum_below (G.blocks + 2) part_rank ≤ r
      go (f, ranked) = let v : (s : ℕ) × IsRank p (layered_value P (values f ranked)) (P.q_rows + P.t_rows) P.columns everything s ×
          (sum_below (G.blocks + 2) part_rank ≤ s) = values-reach f ranked in
          omega (arith, v.2, R.greatest (values f ranked) v.0 v.1)
