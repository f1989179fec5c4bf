-- Costs of two equations, and of at most sixteen.
use Rattle.std.proofs.Common.{◌≡◌, ℕ, zero, suc, ◌<◌, ◌≤◌, true, List, [], ◌∷◌, length, slice_index, nat_le, refl, sym, arith}
use Rattle.std.proofs.lemmas.Bool.Decides.{nat_tests}
use Rattle.std.specs.List.{list_all}
use Rattle.residue_theory.proofs.SetLaws.{both-first, both-second}
use Rattle.residue_theory.specs.Sets.{has}
use Rattle.sparse_t.proofs.ListLaws.{has-at}
use Rattle.repair_checker.specs.Costs.{AreCosts}

abbrev pub costs : List ℕ
costs = 3 ∷ 2 ∷ []

pub two-costs : (n : ℕ) → n ≡ 2 → AreCosts n costs
two-costs n two = record { count = sym two; small = small; few = (costs, omega arith, member) }
  where
    small : (e : ℕ) → slice_index costs e ≤ 999999999
    small zero = omega arith
    small (suc zero) = omega arith
    small (suc (suc e)) = omega arith

    member : (e : ℕ) → e < length costs → has costs (slice_index costs e) ≡ true
    member zero el = refl
    member (suc zero) el = refl
    member (suc (suc e)) el = absurd (omega (arith, el))

-- at most sixteen small costs
each-small : (costs : List ℕ) → list_all (λ cost. nat_le cost 999999999) costs ≡ true → (e : ℕ) → slice_index costs e ≤ 999999999
each-small [] small e = omega arith
each-small (cost ∷ costs) small zero = within cost (both-first (nat_le cost 999999999) (list_all (λ x. nat_le x 999999999) costs) small)
  where
    within : (x : ℕ) → nat_le x 999999999 ≡ true → x ≤ 999999999
    within x h = grind (arith, nat_tests)
each-small (cost ∷ costs) small (suc e) =
    each-small costs (both-second (nat_le cost 999999999) (list_all (λ x. nat_le x 999999999) costs) small) e

pub short-costs : (n : ℕ) (costs : List ℕ) → length costs ≡ n → length costs ≤ 16 → list_all (λ cost. nat_le cost 999999999) costs ≡ true → AreCosts n costs
short-costs n costs count short small = record {
  count = count;
  small = each-small costs small;
  few = (costs, short, λ e el. has-at costs e (slice_index costs e) el refl);
}
