-- The greedy choice of equations along an order, and what it costs to leave the others out.
use Rattle.std.specs.Prelude.{ℕ, ◌≡◌, ◌≢◌, ◌<◌, ◌≤◌, ◌⊎◌, Bool, true, false, ◌&&◌, ◌||◌, not, eqb, leb, ltb}
use Rattle.residue_theory.specs.Sets.{IsWithin, both, with_one}
use Rattle.residue_theory.specs.Sums.{sum_on}
use Rattle.mixed_matrices.specs.Models.{MixedMatrix}
use Rattle.equation_matroid_laws.specs.EquationRanks.{AreIndependent, IsRankOf}

-- before d e says that d comes before e in a line of all numbers
pub record IsLine (before : ℕ → ℕ → Bool) : Type 0 where
  pub irreflexive : (e : ℕ) → before e e ≡ false
  pub transitive : (c d e : ℕ) → before c d ≡ true → before d e ≡ true → before c e ≡ true
  pub total : (d e : ℕ) → d ≢ e → (before d e ≡ true) ⊎ (before e d ≡ true)

-- the equations of X that come before e
abbrev pub earlier : (ℕ → ℕ → Bool) → (ℕ → Bool) → ℕ → ℕ → Bool
earlier before X e d = X d && before d e

-- P is where a line of the equations X begins: with each equation it holds those before it
pub record IsPrefix (n : ℕ) (before : ℕ → ℕ → Bool) (X P : ℕ → Bool) : Type 0 where
  pub inside : IsWithin n P X
  pub closed : (d e : ℕ) → d < n → e < n → X d ≡ true → before d e ≡ true → P e ≡ true → P d ≡ true

-- K is the greedy choice from X: an equation is kept where R of those before it is greater with it
pub record IsGreedyChoice (p : ℕ) (M : MixedMatrix) (before : ℕ → ℕ → Bool) (X K : ℕ → Bool) : Type 0 where
  pub inside : IsWithin M.rows K X
  pub kept : (e : ℕ) → e < M.rows → X e ≡ true →
      (r s : ℕ) × IsRankOf p M (earlier before X e) r × IsRankOf p M (with_one (earlier before X e) e) s
      × (K e ≡ ltb r s)

-- K is independent, and no other equation of X may join what is kept before it: what a loop along the line finds that
-- takes each equation which may join
pub record IsIndependentChoice (p : ℕ) (M : MixedMatrix) (before : ℕ → ℕ → Bool) (X K : ℕ → Bool) : Type 0 where
  pub independent : AreIndependent p M K
  pub passed_over : (e : ℕ) → e < M.rows → X e ≡ true → K e ≡ false →
      AreIndependent p M (with_one (both K (earlier before X e)) e) → ⊥

-- the order by rising number
abbrev pub by_number : ℕ → ℕ → Bool
by_number d e = ltb d e

-- the order by falling cost, and by rising number where the cost is the same
abbrev pub by_cost : (ℕ → ℕ) → ℕ → ℕ → Bool
by_cost cost d e = ltb (cost e) (cost d) || (eqb (cost e) (cost d) && ltb d e)

-- the equations that cost at least c
abbrev pub costing : (ℕ → ℕ) → ℕ → ℕ → Bool
costing cost c e = leb c (cost e)

-- the others
abbrev pub outside : (ℕ → Bool) → ℕ → Bool
outside X e = not (X e)

-- D is a repair: without the equations D the others are independent
abbrev pub IsRepair : ℕ → MixedMatrix → (ℕ → Bool) → Type 0
IsRepair p M D = AreIndependent p M (outside D)

-- and no repair costs less
pub record IsCheapestRepair (p : ℕ) (M : MixedMatrix) (cost : ℕ → ℕ) (D : ℕ → Bool) : Type 0 where
  pub repair : IsRepair p M D
  pub cheapest : (E : ℕ → Bool) → IsRepair p M E → sum_on D M.rows cost ≤ sum_on E M.rows cost
