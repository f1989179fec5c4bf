-- Costs that are sorted, each left once, and turned round: the levels.
use Rattle.std.proofs.Common.{◌≡◌, ℕ, ◌+◌, ◌-◌, ◌<◌, true, eqb, List, length, get_or, ap, sym, subst, arith}
use Rattle.std.proofs.Common.{reverse}
use Rattle.std.proofs.lemmas.Bool.Decides.{nat_tests}
use Rattle.std.proofs.lemmas.List.{get_or-reverse, get_or_default, length-reverse}
use Rattle.std.proofs.lemmas.List.Folds.{list_any_at}
use Rattle.std.proofs.lemmas.List.Kept.{Contains-dedup_nat, Contains-from_dedup}
use Rattle.std.proofs.lemmas.List.Sorted.{Contains-permutation, IsPermutation-reverse, IsPermutation-sym}
use Rattle.std.proofs.lemmas.Map.Keys.{IsStrictlyIncreasing-dedup}
use Rattle.std.specs.List.{Contains, dedup}
use Rattle.std.specs.List.Sorted.{IsPermutation, IsSorted, IsStrictlyIncreasing}
use Rattle.std.specs.Ordering.{nat_cmp}
use Rattle.residue_theory.specs.Sets.{has}
use Rattle.repair_checker.specs.Costs.{AreLevels}

has-of : (list : List ℕ) (x : ℕ) → Contains list x → has list x ≡ true
has-of list x (k, kl, is) = list_any_at (λ item. eqb item x) list k x kl same
  where
    same : eqb (get_or list k x) x ≡ true
    same = grind (arith, nat_tests)

is-in : (list : List ℕ) (k : ℕ) → k < length list → Contains list (get_or list k 0)
is-in list k kl = (k, kl, get_or_default list k (get_or list k 0) 0 kl)

turned-falls : (once : List ℕ) → IsStrictlyIncreasing once → (k : ℕ) → k + 1 < length (reverse once) →
    get_or (reverse once) (k + 1) 0 < get_or (reverse once) k 0
turned-falls once rising k kl =
    let long = length-reverse once in
    let low : length once - 1 - (k + 1) + 1 ≡ length once - 1 - k = omega (arith, kl, long) in
    let later = get_or-reverse once (k + 1) 0 (omega (arith, kl, long)) in
    let first = get_or-reverse once k 0 (omega (arith, kl, long)) in
    let less = rising (length once - 1 - (k + 1)) (omega (arith, kl, long)) in
    omega (arith, later, first, less, ap (λ i. get_or once i 0) low)

-- a rising list of the costs, turned round, is the levels
pub rising-levels : (costs once levels : List ℕ) → IsStrictlyIncreasing once → ((x : ℕ) → Contains costs x → Contains once x) →
    ((x : ℕ) → Contains once x → Contains costs x) → levels ≡ reverse once → AreLevels costs levels
rising-levels costs once levels rising there back levels_is = record {
  falling = subst (λ xs. (k : ℕ) → k + 1 < length xs → get_or xs (k + 1) 0 < get_or xs k 0) (sym levels_is) (turned-falls once rising);
  each = λ e el. has-of levels (get_or costs e 0) (to (get_or costs e 0) (is-in costs e el));
  some = λ k kl. has-of costs (get_or levels k 0) (from (get_or levels k 0) (is-in levels k kl));
}
  where
    turned : IsPermutation once levels
    turned = subst (IsPermutation once) (sym levels_is) (IsPermutation-reverse once)

    to : (x : ℕ) → Contains costs x → Contains levels x
    to x here = Contains-permutation once levels x turned (there x here)

    from : (x : ℕ) → Contains levels x → Contains costs x
    from x here = back x (Contains-permutation levels once x (IsPermutation-sym once levels turned) here)

-- costs that are sorted, each left once, and turned round are levels
pub turned-levels : (costs sorted once levels : List ℕ) → IsPermutation costs sorted → IsSorted nat_cmp sorted → once ≡ dedup eqb sorted →
    levels ≡ reverse once → AreLevels costs levels
turned-levels costs sorted once levels moved rises once_is levels_is = rising-levels costs once levels
    (subst IsStrictlyIncreasing (sym once_is) (IsStrictlyIncreasing-dedup sorted rises)) there back levels_is
  where
    there : (x : ℕ) → Contains costs x → Contains once x
    there x here = subst (λ xs. Contains xs x) (sym once_is) (Contains-dedup_nat sorted x (Contains-permutation costs sorted x moved here))

    back : (x : ℕ) → Contains once x → Contains costs x
    back x here = Contains-permutation sorted costs x (IsPermutation-sym costs sorted moved)
        (Contains-from_dedup eqb sorted x (subst (λ xs. Contains xs x) once_is here))
