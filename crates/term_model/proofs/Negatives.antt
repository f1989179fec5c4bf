-- What is less than 0 modulo p.
use Rattle.std.proofs.Common.{◌≡◌, ℕ, ◌+◌, ◌-◌, ◌%◌, ◌<◌, ◌⊎◌, inl, inr, sym, ap, ◌∙◌, arith, ⊎_elim}
use Rattle.std.proofs.Math.Nat.{mod-eq_of_lt, mod-eq-sub-mod, zero-mod}
use Rattle.std.proofs.lemmas.Bool.{cases_lt}

self_mod : (p : ℕ) → p % p ≡ 0
self_mod p = mod-eq-sub-mod {n = p} {m = p} (omega arith) ∙ ap (λ n. n % p) (omega arith) ∙ zero-mod p

-- a sum that p divides, of numbers below p
whole_or_none : (p s : ℕ) → s < p + p → s % p ≡ 0 → (s ≡ 0) ⊎ (s ≡ p)
whole_or_none p s small none = ⊎_elim
    (λ less. inl (sym (mod-eq_of_lt {n = s} {m = p} less) ∙ none))
    (λ more.
    let below : s - p < p = omega (arith, small, more) in
    let rest : s - p ≡ 0 = sym (mod-eq_of_lt {n = s - p} {m = p} below) ∙ sym (mod-eq-sub-mod {n = s} {m = p} more) ∙ none in
    inr (omega (arith, rest, more)))
    (cases_lt s p)

-- what is n less than 0
pub negative_is : (p n m : ℕ) → n < p → m < p → (n + m) % p ≡ 0 → m ≡ (p - n) % p
negative_is p n m below small none = ⊎_elim
    (λ zero.
    let here : m ≡ 0 = omega (arith, zero) in
    let whole : p - n ≡ p = omega (arith, zero) in
    here ∙ sym (self_mod p) ∙ ap (λ k. k % p) (sym whole))
    (λ whole.
    let some : p - n < p = omega (arith, whole, small) in
    let here : m ≡ p - n = omega (arith, whole) in
    here ∙ sym (mod-eq_of_lt {n = p - n} {m = p} some))
    (whole_or_none p (n + m) (omega (arith, below, small)) none)

-- one less than 0
pub minus_one_is : (p m : ℕ) → 2 < p → m < p → (1 + m) % p ≡ 0 → m ≡ p - 1
minus_one_is p m big small none =
    let some : p - 1 < p = omega (arith, big) in
    let one : 1 < p = omega (arith, big) in
    negative_is p 1 m one small none ∙ mod-eq_of_lt {n = p - 1} {m = p} some
