-- Models with new unknowns that have no entries.
use Rattle.std.proofs.Common.{◌≡◌, ℕ, zero, suc, ◌+◌, ◌-◌, ◌<◌, ◌≤◌, Bool, true, false, not, eqb, ◌||◌, ◌&&◌, refl, ap, sym, subst, ◌∙◌, arith}
use Rattle.residue_theory.specs.Residues.{IsPrime}
use Rattle.residue_theory.specs.Sets.{both, some_below}
use Rattle.residue_theory.proofs.SumLaws.{sum_on-same}
use Rattle.linear_algebra_laws.proofs.SkipLaws.{skip-first}
use Rattle.mixed_matrices.specs.LayeredMatrices.{LayeredMatrix, layered_value}
use Rattle.mixed_matrices.specs.Layerings.{AreMembers, IsLayeredMatrixOf, IsLayering, Origins, gives_q, has_constant, has_symbol}
use Rattle.mixed_matrices.specs.Models.{MixedMatrix}
use Rattle.mixed_matrices.specs.Removals.{without_equation, without_unknown}
use Rattle.mixed_matrices.specs.StructuralRanks.{IsLayeredRank}
use Rattle.mixed_pair_laws.proofs.PairRank.{greatest-unique}
use Rattle.mixed_pair_laws.proofs.SameEntries.{same-layers}
use Rattle.mixed_edit_laws.proofs.Removals.{column-rank}
use Rattle.mixed_edit_laws.specs.Changes.{IsAdded, IsChanged, IsRemoved, IsWider}
use Rattle.mixed_edit_laws.specs.Rests.{column_rest, rest, rest_origins}
use Rattle.mixed_edit_laws.proofs.Rests.{layered-rank, rest-layering, rest-near, same-layerings, unknown-layering, unknown-out}

-- ---- the same sets and models
members-as : (A B : ℕ → Bool) (n m : ℕ) (at : ℕ → ℕ) → ((i : ℕ) → i < n → A i ≡ B i) → AreMembers A n at m → AreMembers B n at m
members-as A B n m at same members = record {
  count = sym (sum_on-same A B n (λ _. 1) same) ∙ members.count;
  below = members.below;
  member = λ k kl. sym (same (at k) (members.below k kl)) ∙ members.member k kl;
  place = λ k kl. sym (sum_on-same A B (at k) (λ _. 1) (λ i il. same i (omega (arith, il, members.below k kl)))) ∙ members.place k kl;
}

-- M and K have the same entries
pub record IsSame (M K : MixedMatrix) : Type 0 where
  pub rows : M.rows ≡ K.rows
  pub columns : M.columns ≡ K.columns
  pub constant : (i j : ℕ) → i < M.rows → j < M.columns → M.constant i j ≡ K.constant i j
  pub symbol : (i j : ℕ) → i < M.rows → j < M.columns → M.symbol i j ≡ K.symbol i j

pub layering-as : (M K : MixedMatrix) (A B D E : ℕ → Bool) (L : LayeredMatrix) (O : Origins) → IsSame M K → ((i : ℕ) → i < M.rows → A i ≡ B i) →
    ((i : ℕ) → i < M.rows → D i ≡ E i) → IsLayering M A D L O → IsLayering K B E L O
layering-as M K A B D E L O same a d layering = record {
  constants = λ i j il jl h. sym (same.constant i j (row i il) (column j jl)) ∙ layering.constants i j (row i il) (column j jl) (a i (row i il) ∙ h);
  symbols = λ i j il jl h. sym (same.symbol i j (row i il) (column j jl)) ∙ layering.symbols i j (row i il) (column j jl) (d i (row i il) ∙ h);
  q_rows = subst (λ n. AreMembers B n O.of_q L.q_rows) same.rows (members-as A B M.rows L.q_rows O.of_q a layering.q_rows);
  t_rows = subst (λ n. AreMembers E n O.of_t L.t_rows) same.rows (members-as D E M.rows L.t_rows O.of_t d layering.t_rows);
  auxiliary = subst (λ n. AreMembers (both B E) n O.of_z O.split) same.rows
      (members-as (both A D) (both B E) M.rows O.split O.of_z (λ i il. cong (A i) (B i) (D i) (E i) (a i il) (d i il)) layering.auxiliary);
  columns = layering.columns ∙ ap (λ n. n + O.split) same.columns;
  q = λ i j il jl. layering.q i j il (column j jl) ∙ same.constant (O.of_q i) j (layering.q_rows.below i il) (column j jl);
  q_auxiliary = λ i k il kl. ap (λ n. L.q i (n + k)) (sym same.columns) ∙ layering.q_auxiliary i k il kl;
  t = λ i j il jl. layering.t i j il (column j jl) ∙ same.symbol (O.of_t i) j (layering.t_rows.below i il) (column j jl);
  t_auxiliary = λ i k il kl. ap (λ n. L.t i (n + k)) (sym same.columns) ∙ layering.t_auxiliary i k il kl;
}
  where
    row : (i : ℕ) → i < K.rows → i < M.rows
    row i il = omega (arith, il, same.rows)

    column : (j : ℕ) → j < K.columns → j < M.columns
    column j jl = omega (arith, jl, same.columns)

    cong : (x y z w : Bool) → x ≡ y → z ≡ w → x && z ≡ y && w
    cong x y z w e f = ap (λ b. b && z) e ∙ ap (λ b. y && b) f

-- ---- a set with members below n alone
some-wider : (n d : ℕ) (X Y : ℕ → Bool) → ((j : ℕ) → j < n → X j ≡ Y j) → ((j : ℕ) → n ≤ j → j < n + d → X j ≡ false) →
    some_below (n + d) X ≡ some_below n Y
some-wider n zero X Y same none = ap (λ m. some_below m X) (let q : n + zero ≡ n = omega arith in q) ∙ go n same
  where
    go : (m : ℕ) → ((j : ℕ) → j < m → X j ≡ Y j) → some_below m X ≡ some_below m Y
    go zero s = refl
    go (suc m) s = ap (λ b. b || X m) (go m (λ j jl. s j (omega arith))) ∙ ap (λ b. some_below m Y || b) (s m (omega arith))
some-wider n (suc d) X Y same none = ap (λ m. some_below m X) (let q : n + suc d ≡ suc (n + d) = omega arith in q)
    ∙ ap (λ b. some_below (n + d) X || b) (none (n + d) (omega arith) (omega arith))
    ∙ or_false (some_below (n + d) X)
    ∙ some-wider n d X Y same (λ j le l. none j le (omega arith))
  where
    or_false : (b : Bool) → b || false ≡ b
    or_false true = refl
    or_false false = refl

module _ (K M : MixedMatrix) (wide : IsWider K M) where
  some-same : (X Y : ℕ → Bool) → ((j : ℕ) → j < K.columns → X j ≡ Y j) → ((j : ℕ) → K.columns ≤ j → j < M.columns → X j ≡ false) →
      some_below M.columns X ≡ some_below K.columns Y
  some-same X Y same none = ap (λ n. some_below n X) (sym there)
      ∙ some-wider K.columns (M.columns - K.columns) X Y same (λ j le l. none j le (omega (arith, l, there)))
    where
      there : K.columns + (M.columns - K.columns) ≡ M.columns
      there = omega (arith, wide.columns)

  constant-same : (i : ℕ) → i < K.rows → has_constant M i ≡ has_constant K i
  constant-same i il = some-same (λ j. not (eqb (M.constant i j) 0)) (λ j. not (eqb (K.constant i j) 0))
      (λ j jl. ap (λ x. not (eqb x 0)) (wide.constant i j il jl))
      (λ j le jl. ap (λ x. not (eqb x 0)) (wide.no_constant i j il le jl))

  pub symbol-same : (i : ℕ) → i < K.rows → has_symbol M i ≡ has_symbol K i
  symbol-same i il = some-same (M.symbol i) (K.symbol i) (λ j jl. wide.symbol i j il jl) (λ j le jl. wide.no_symbol i j il le jl)

  pub q-same : (i : ℕ) → i < K.rows → gives_q M i ≡ gives_q K i
  q-same i il = ap (λ b. b || not (has_symbol M i)) (constant-same i il) ∙ ap (λ b. has_constant K i || not b) (symbol-same i il)

-- ---- one new unknown after another
module _ (p : ℕ) (prime : IsPrime p) where
  same-rank : (B L : LayeredMatrix) (K M : MixedMatrix) (A D : ℕ → Bool) (P O : Origins) (r s : ℕ) → IsLayering K A D B P → IsLayering M A D L O →
      IsSame M K → IsLayeredRank p B r → IsLayeredRank p L s → s ≡ r
  same-rank B L K M A D P O r s first second same R S = greatest-unique p (B.q_rows + B.t_rows) B.columns (layered_value B) s r
      (same-layers p L B (same-layerings p K A D L B O P (layering-as M K A A D D L O same (λ _ _. refl) (λ _ _. refl) second) first) s S) R

  -- the layering has the rows of A and D, whatever the number of unknowns
  wider-steps : (d : ℕ) (K M : MixedMatrix) (A D : ℕ → Bool) (B L : LayeredMatrix) (P O : Origins) (r s : ℕ) → IsWider K M → M.columns ≡ K.columns + d →
      IsLayering K A D B P → IsLayering M A D L O → IsLayeredRank p B r → IsLayeredRank p L s → s ≡ r
  wider-steps zero K M A D B L P O r s wide count first second R S = same-rank B L K M A D P O r s first second (record {
    rows = wide.rows;
    columns = omega (arith, count);
    constant = λ i j il jl. wide.constant i j (omega (arith, il, wide.rows)) (omega (arith, jl, count));
    symbol = λ i j il jl. wide.symbol i j (omega (arith, il, wide.rows)) (omega (arith, jl, count));
  }) R S
  wider-steps (suc d) K M A D B L P O r s wide count first second R S = go (layered-rank p prime (column_rest true u L))
      (λ t T. wider-steps d K (without_unknown u M) A D B (column_rest true u L) P O r t narrower fewer
      first (unknown-layering p M A D L O u second last no-constant no-symbol) R T)
    where
      u : ℕ
      u = K.columns + d

      last : M.columns ≡ u + 1
      last = omega (arith, count)

      no-constant : (i : ℕ) → i < M.rows → M.constant i u ≡ 0
      no-constant i il = wide.no_constant i u (omega (arith, il, wide.rows)) (omega arith) (omega (arith, last))

      no-symbol : (i : ℕ) → i < M.rows → M.symbol i u ≡ false
      no-symbol i il = wide.no_symbol i u (omega (arith, il, wide.rows)) (omega arith) (omega (arith, last))

      narrower : IsWider K (without_unknown u M)
      narrower = record {
        rows = wide.rows;
        columns = omega (arith, last);
        constant = λ i j il jl. ap (λ c. M.constant i c) (skip-first u j (omega (arith, jl))) ∙ wide.constant i j il jl;
        symbol = λ i j il jl. ap (λ c. M.symbol i c) (skip-first u j (omega (arith, jl))) ∙ wide.symbol i j il jl;
        no_constant = λ i j il le jl. ap (λ c. M.constant i c) (skip-first u j (omega (arith, jl, last)))
            ∙ wide.no_constant i j il le (omega (arith, jl, last));
        no_symbol = λ i j il le jl. ap (λ c. M.symbol i c) (skip-first u j (omega (arith, jl, last)))
            ∙ wide.no_symbol i j il le (omega (arith, jl, last));
      }

      fewer : M.columns - 1 ≡ K.columns + d
      fewer = omega (arith, last)

      go : (t : ℕ) × IsLayeredRank p (column_rest true u L) t → ((t : ℕ) → IsLayeredRank p (column_rest true u L) t → t ≡ r) → s ≡ r
      go (t, T) rest = sym (column-rank p prime L (column_rest true u L) u (unknown-out p M A D L O u second last no-constant no-symbol) s t S T) ∙ rest t T

  pub wider-rank : (K M : MixedMatrix) (B L : LayeredMatrix) (P O : Origins) (r s : ℕ) → IsWider K M → IsLayeredMatrixOf K B P → IsLayeredMatrixOf M L O →
      IsLayeredRank p B r → IsLayeredRank p L s → s ≡ r
  wider-rank K M B L P O r s wide first second R S = wider-steps (M.columns - K.columns) K M (gives_q K) (has_symbol K) B L P O r s wide
      (omega (arith, wide.columns)) first
      (layering-as M M (gives_q M) (gives_q K) (has_symbol M) (has_symbol K) L O
      (record { rows = refl; columns = refl; constant = λ i j _ _. refl; symbol = λ i j _ _. refl })
      (λ i il. q-same K M wide i (omega (arith, il, wide.rows))) (λ i il. symbol-same K M wide i (omega (arith, il, wide.rows))) second) R S

  -- ---- the three changes
  abbrev left : MixedMatrix → ℕ → LayeredMatrix → LayeredMatrix
  left M e L = rest M (gives_q M) (has_symbol M) e L

  left-layered : (M : MixedMatrix) (L : LayeredMatrix) (O : Origins) (e : ℕ) → IsLayeredMatrixOf M L O → e < M.rows →
      IsLayeredMatrixOf (without_equation e M) (left M e L) (rest_origins (gives_q M) (has_symbol M) e O)
  left-layered M L O e layering el = rest-layering M (gives_q M) (has_symbol M) L O e layering el

  near : (M : MixedMatrix) (L : LayeredMatrix) (O : Origins) (e : ℕ) → IsLayeredMatrixOf M L O → e < M.rows → (r s : ℕ) → IsLayeredRank p L r →
      IsLayeredRank p (left M e L) s → (s ≤ r) × (r ≤ s + 2)
  near M L O e layering el = rest-near p prime M (gives_q M) (has_symbol M) L O e layering el

  pub added : (M N : MixedMatrix) (L K : LayeredMatrix) (O P : Origins) (r s : ℕ) → IsAdded M N → IsLayeredMatrixOf M L O → IsLayeredMatrixOf N K P →
      IsLayeredRank p L r → IsLayeredRank p K s → s ≤ r + 2
  added M N L K O P r s change first second R S = go (layered-rank p prime (left N M.rows K))
    where
      el : M.rows < N.rows
      el = omega (arith, change.rows)

      go : (t : ℕ) × IsLayeredRank p (left N M.rows K) t → s ≤ r + 2
      go (t, T) = omega (
        arith,
        (near N K P M.rows second el s t S T).1,
        wider-rank M (without_equation M.rows N) L (left N M.rows K) O (rest_origins (gives_q N) (has_symbol N) M.rows P) r t change.others first
            (left-layered N K P M.rows second el) R T,
      )

  pub removed : (M N : MixedMatrix) (e : ℕ) (L K : LayeredMatrix) (O P : Origins) (r s : ℕ) → IsRemoved M N e →
      IsLayeredMatrixOf M L O → IsLayeredMatrixOf N K P →
      IsLayeredRank p L r → IsLayeredRank p K s → s ≤ r
  removed M N e L K O P r s change first second R S = go (layered-rank p prime (left M e L))
    where
      go : (t : ℕ) × IsLayeredRank p (left M e L) t → s ≤ r
      go (t, T) = omega (
        arith,
        (near M L O e first change.below r t R T).0,
        wider-rank (without_equation e M) N (left M e L) K (rest_origins (gives_q M) (has_symbol M) e O) P t s change.others
            (left-layered M L O e first change.below) second T S,
      )

  pub changed : (M N : MixedMatrix) (e : ℕ) (L K : LayeredMatrix) (O P : Origins) (r s : ℕ) → IsChanged M N e →
      IsLayeredMatrixOf M L O → IsLayeredMatrixOf N K P →
      IsLayeredRank p L r → IsLayeredRank p K s → s ≤ r + 2
  changed M N e L K O P r s change first second R S = go (layered-rank p prime (left M e L)) (layered-rank p prime (left N e K))
    where
      el : e < N.rows
      el = omega (arith, change.rows, change.below)

      go : (t : ℕ) × IsLayeredRank p (left M e L) t → (u : ℕ) × IsLayeredRank p (left N e K) u → s ≤ r + 2
      go (t, T) (u, U) = omega (
        arith,
        (near M L O e first change.below r t R T).0,
        (near N K P e second el s u S U).1,
        wider-rank (without_equation e M) (without_equation e N) (left M e L) (left N e K) (rest_origins (gives_q M) (has_symbol M) e O)
            (rest_origins (gives_q N) (has_symbol N) e P) t u change.others
            (left-layered M L O e first change.below) (left-layered N K P e second el) T U,
      )
