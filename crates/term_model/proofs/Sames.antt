-- Terms that say the same.
use Rattle.std.proofs.Common.{◌≡◌, ℕ, ◌+◌, ◌-◌, ◌%◌, ◌<◌, Bool, true, false, cond, ◌&&◌, ◌||◌, List, [], ◌∷◌, ◌++◌, refl, sym, ap, ◌∙◌, arith}
use Rattle.std.proofs.Math.Nat.{zero-mod, mod-eq-sub-mod}
use Rattle.term_model.specs.Terms.{Term, said_of, symbol_said, stands_at, constant}
use Rattle.term_model.proofs.Saying.{said_of-append, symbol_said-append}

-- two lists of terms say the same of each place
pub record AreSame (p : ℕ) (xs ys : List Term) : Type 0 where
  pub constants : (equation unknown : List ℕ) → said_of p xs equation unknown ≡ said_of p ys equation unknown
  pub symbols : (equation unknown : List ℕ) → symbol_said xs equation unknown ≡ symbol_said ys equation unknown

pub same : (p : ℕ) (xs : List Term) → AreSame p xs xs
same p xs = record { constants = λ equation unknown. refl; symbols = λ equation unknown. refl }

pub same-append : (p : ℕ) (xs ys zs ws : List Term) → AreSame p xs ys → AreSame p zs ws → AreSame p (xs ++ zs) (ys ++ ws)
same-append p xs ys zs ws first second = record {
  constants = λ equation unknown.
      said_of-append p xs zs equation unknown
      ∙ (λ t. (first.constants equation unknown t + second.constants equation unknown t) % p)
      ∙ sym (said_of-append p ys ws equation unknown);
  symbols = λ equation unknown.
      symbol_said-append xs zs equation unknown
      ∙ (λ t. first.symbols equation unknown t || second.symbols equation unknown t)
      ∙ sym (symbol_said-append ys ws equation unknown);
}

pub same-then : (p : ℕ) (xs ys zs : List Term) → AreSame p xs ys → AreSame p ys zs → AreSame p xs zs
same-then p xs ys zs first second = record {
  constants = λ equation unknown. first.constants equation unknown ∙ second.constants equation unknown;
  symbols = λ equation unknown. first.symbols equation unknown ∙ second.symbols equation unknown;
}

-- in any order
pub same-swap : (p : ℕ) (xs ys : List Term) → AreSame p (xs ++ ys) (ys ++ xs)
same-swap p xs ys = record {
  constants = λ equation unknown.
      said_of-append p xs ys equation unknown
      ∙ ap (λ n. n % p) (omega arith)
      ∙ sym (said_of-append p ys xs equation unknown);
  symbols = λ equation unknown.
      symbol_said-append xs ys equation unknown
      ∙ swap (symbol_said xs equation unknown) (symbol_said ys equation unknown)
      ∙ sym (symbol_said-append ys xs equation unknown);
}
  where
    swap : (a b : Bool) → (a || b) ≡ (b || a)
    swap true true = refl
    swap true false = refl
    swap false true = refl
    swap false false = refl

-- 1 and -1 at one place leave nothing
pub cancels : (p : ℕ) (e u : List ℕ) → 2 < p → AreSame p [] (constant e u 1 ∷ constant e u (p - 1) ∷ [])
cancels p e u big = record {
  constants = λ equation unknown. by (stands_at equation unknown (constant e u 1));
  symbols = λ equation unknown. none (stands_at equation unknown (constant e u 1));
}
  where
    by : (b : Bool) → 0 % p ≡ (0 + cond b 1 0 + cond b (p - 1) 0) % p
    by true = zero-mod p ∙ sym (mod-eq-sub-mod {n = p} {m = p} (omega arith) ∙ ap (λ n. n % p) (omega arith)
        ∙ zero-mod p) ∙ ap (λ n. n % p) (omega (arith, big))
    by false = refl

    none : (b : Bool) → false ≡ (b && false || (b && false || false))
    none true = refl
    none false = refl
