-- Lists of the members of a set, by rising number.
use Rattle.std.proofs.Common.{◌≡◌, ℕ, ◌+◌, ◌-◌, ◌<◌, ◌≤◌, Bool, true, false, List, [], ◌∷◌, ◌++◌, length, get_or}
use Rattle.std.proofs.Common.{refl, sym, ap, subst, ◌∙◌, arith, ⊎_elim, add-one, length-append}
use Rattle.std.specs.List.Sorted.{IsStrictlyIncreasing}
use Rattle.std.proofs.lemmas.Bool.{cases_lt}
use Rattle.std.proofs.lemmas.List.{get_or_append_left}
use Rattle.std.proofs.Math.Seq.{get_or-append_seam}
use Rattle.residue_theory.specs.Sets.{everything, both}
use Rattle.residue_theory.specs.Sums.{size_on}
use Rattle.residue_theory.proofs.SumLaws.{size_on-within}
use Rattle.residue_theory.proofs.CountLaws.{size-everything, sum_on-join}
use Rattle.mixed_matrices.specs.Models.{MixedMatrix}
use Rattle.mixed_matrices.specs.Layerings.{gives_q, has_symbol}
use Rattle.mixed_layering.specs.Members.{AreListed, AreRows, AreEquations, AreSplit}

module _ (A : ℕ → Bool) (i : ℕ) (list : List ℕ) (listed : AreListed A i list) where
  -- a number that is no member is passed over
  pub listed-passed : A i ≡ false → AreListed A (i + 1) list
  listed-passed not_in = record {
    count = rw add-one (rw not_in (omega (arith, listed.count)));
    below = λ k at. omega (arith, listed.below k at);
    member = listed.member;
    place = listed.place;
  }

  -- what a fact of each item needs of the old ones and of the new one
  each_item : (P : ℕ → ℕ → Type 0) → ((k : ℕ) → k < length list → P k (get_or list k 0)) → P (length list) i →
      (k : ℕ) → k < length (list ++ i ∷ []) → P k (get_or (list ++ i ∷ []) k 0)
  each_item P old new k at = ⊎_elim
      (λ before. subst (P k) (sym (get_or_append_left list (i ∷ []) 0 k before)) (old k before))
      (λ last.
      let is_last : length list ≡ k = omega (arith, length-append list (i ∷ [])) in
      subst (λ m. P m (get_or (list ++ i ∷ []) m 0)) is_last (subst (P (length list)) (sym (get_or-append_seam list i [] 0)) new))
      (cases_lt k (length list))

  -- a member is put at the end
  pub listed-entered : A i ≡ true → AreListed A (i + 1) (list ++ i ∷ [])
  listed-entered is_in = record {
    count = rw add-one (rw is_in (omega (arith, listed.count, length-append list (i ∷ []))));
    below = each_item (λ k j. j < i + 1) (λ k at. omega (arith, listed.below k at)) (omega arith);
    member = each_item (λ k j. A j ≡ true) listed.member is_in;
    place = each_item (λ k j. size_on A j ≡ k) listed.place listed.count;
  }

-- members below a greater number are no fewer
size-rises : (A : ℕ → Bool) (a b : ℕ) → a ≤ b → size_on A a ≤ size_on A b
size-rises A a b le =
    let join = sum_on-join A a (b - a) (λ _. 1) in
    let whole : a + (b - a) ≡ b = omega (arith, le) in
    let is : size_on A b ≡ size_on A a + size_on (λ j. A (a + j)) (b - a) = ap (size_on A) (sym whole) ∙ join in
    omega (arith, is)

-- a list of members is no longer than the numbers, and rises
pub listed-few : (A : ℕ → Bool) (n : ℕ) (list : List ℕ) → AreListed A n list → length list ≤ n
listed-few A n list listed =
    let within = size_on-within everything A n (λ j at is. refl) in
    omega (arith, within, size-everything n, listed.count)

pub listed-rising : (A : ℕ → Bool) (n : ℕ) (list : List ℕ) → AreListed A n list → IsStrictlyIncreasing list
listed-rising A n list listed k at = ⊎_elim
    (λ less. less)
    (λ falls.
    let size = size-rises A (get_or list (k + 1) 0) (get_or list k 0) falls in
    absurd (omega (arith, size, listed.place k (omega arith), listed.place (k + 1) at)))
    (cases_lt (get_or list k 0) (get_or list (k + 1) 0))

-- the rows that the equations give
module _ (M : MixedMatrix) (n : ℕ) (of_q of_t of_z : List ℕ) (rows : AreRows M n of_q of_t of_z) (few : n ≤ 4096) where
  pub q_equations-are : AreEquations n of_q
  q_equations-are = record { few = omega (arith, few, listed-few (gives_q M) n of_q rows.constants); below = rows.constants.below }

  pub t_equations-are : AreEquations n of_t
  t_equations-are = record { few = omega (arith, few, listed-few (has_symbol M) n of_t rows.symbols); below = rows.symbols.below }

  pub split-are : AreSplit n of_z
  split-are = record {
    few = omega (
      arith,
      few,
      listed-few
          (both (gives_q M) (has_symbol M)) n of_z rows.split,
    );
    rising =
        listed-rising (both (gives_q M) (has_symbol M)) n of_z rows.split;
  }
