-- Numbers of members, and the sizes of a layered matrix.
use Rattle.std.proofs.Common.{◌≡◌, ℕ, zero, suc, ◌+◌, ◌<◌, ◌≤◌, Bool, true, false, ◌&&◌, ◌||◌, not, cond, refl, arith}
use Rattle.residue_theory.specs.Sets.{both}
use Rattle.residue_theory.specs.Sums.{size_on}
use Rattle.residue_theory.proofs.SetLaws.{differ}
use Rattle.mixed_matrices.specs.LayeredMatrices.{LayeredMatrix}
use Rattle.mixed_matrices.specs.Layerings.{IsLayeredMatrixOf, Origins, gives_q, has_constant, has_symbol}
use Rattle.mixed_matrices.specs.Models.{MixedMatrix}

one_more : (b : Bool) (s n : ℕ) → s ≤ n → s + cond b 1 0 ≤ n + 1
one_more true s n few = omega (arith, few)
one_more false s n few = omega (arith, few)

pub size-within : (X : ℕ → Bool) (n : ℕ) → size_on X n ≤ n
size-within X zero = omega arith
size-within X (suc n) = let more : size_on X n + cond (X n) 1 0 ≤ n + 1 = one_more (X n) (size_on X n) n (size-within X n) in omega (arith, more)

cover_step : (a d : Bool) (x y z n : ℕ) → a || d ≡ true → x + y ≡ n + z → (x + cond a 1 0) + (y + cond d 1 0) ≡ (n + 1) + (z + cond (a && d) 1 0)
cover_step true true x y z n h e = omega (arith, e)
cover_step true false x y z n h e = omega (arith, e)
cover_step false true x y z n h e = omega (arith, e)
cover_step false false x y z n h e = absurd (differ refl h)

-- two sets that cover the numbers below n, and their common members
pub size-cover : (A D : ℕ → Bool) (n : ℕ) → ((j : ℕ) → j < n → A j || D j ≡ true) → size_on A n + size_on D n ≡ n + size_on (both A D) n
size-cover A D zero all = refl
size-cover A D (suc n) all =
    let step : (size_on A n + cond (A n) 1 0) + (size_on D n + cond (D n) 1 0) ≡ (n + 1) + (size_on (both A D) n + cond (A n && D n) 1 0) =
    cover_step (A n) (D n) (size_on A n) (size_on D n) (size_on (both A D) n) n (all n (omega arith)) (size-cover A D n (λ j jl. all j (omega (arith, jl)))) in
    omega (arith, step)

given : (c s : Bool) → (c || not s) || s ≡ true
given true true = refl
given true false = refl
given false true = refl
given false false = refl

-- each equation gives a Q row or a T row, and a split one both
pub rows-counted : (M : MixedMatrix) (L : LayeredMatrix) (O : Origins) → IsLayeredMatrixOf M L O → L.q_rows + L.t_rows ≡ M.rows + O.split
rows-counted M L O lay =
    let cover : size_on (gives_q M) M.rows + size_on (has_symbol M) M.rows ≡ M.rows + size_on (both (gives_q M) (has_symbol M)) M.rows =
    size-cover (gives_q M) (has_symbol M) M.rows (λ i _. given (has_constant M i) (has_symbol M i)) in
    omega (arith, cover, lay.q_rows.count, lay.t_rows.count, lay.auxiliary.count)

pub few-q_rows : (M : MixedMatrix) (L : LayeredMatrix) (O : Origins) → IsLayeredMatrixOf M L O → L.q_rows ≤ M.rows
few-q_rows M L O lay = omega (arith, size-within (gives_q M) M.rows, lay.q_rows.count)

pub few-t_rows : (M : MixedMatrix) (L : LayeredMatrix) (O : Origins) → IsLayeredMatrixOf M L O → L.t_rows ≤ M.rows
few-t_rows M L O lay = omega (arith, size-within (has_symbol M) M.rows, lay.t_rows.count)

pub few-split : (M : MixedMatrix) (L : LayeredMatrix) (O : Origins) → IsLayeredMatrixOf M L O → O.split ≤ M.rows
few-split M L O lay = omega (arith, size-within (both (gives_q M) (has_symbol M)) M.rows, lay.auxiliary.count)
