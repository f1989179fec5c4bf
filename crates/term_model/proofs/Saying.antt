-- What terms say of a place, as they grow.
use Rattle.std.proofs.Common.{◌≡◌, ℕ, ◌+◌, ◌%◌, ◌<◌, Bool, true, false, cond, ◌&&◌, ◌||◌, List, [], ◌∷◌, ◌++◌, refl, ap, ◌∙◌, arith}
use Rattle.std.specs.List.{sum_by, list_any}
use Rattle.std.proofs.lemmas.List.Sums.{sum_by-append, sum_by-cons}
use Rattle.std.proofs.lemmas.List.Folds.{list_any-append}
use Rattle.std.proofs.Math.Nat.{add-mod, zero-mod, mod-eq_of_lt}
use Rattle.term_model.specs.Putting.{IsFree}
use Rattle.term_model.specs.Terms.{Term, said_of, symbol_said, stands_at}

-- what a term has at a place
abbrev pub part_at : List ℕ → List ℕ → Term → ℕ
part_at equation unknown term = cond (stands_at equation unknown term) term.constant 0

-- what two lists of terms say is added
pub said_of-append : (p : ℕ) (xs ys : List Term) (equation unknown : List ℕ) →
    said_of p (xs ++ ys) equation unknown ≡ (said_of p xs equation unknown + said_of p ys equation unknown) % p
said_of-append p xs ys equation unknown =
    ap (λ n. n % p) (sum_by-append (part_at equation unknown) xs ys)
    ∙ add-mod (sum_by (part_at equation unknown) xs) (sum_by (part_at equation unknown) ys) p

pub symbol_said-append : (xs ys : List Term) (equation unknown : List ℕ) → symbol_said (xs ++ ys) equation unknown ≡
    (symbol_said xs equation unknown || symbol_said ys equation unknown)
symbol_said-append xs ys equation unknown = list_any-append (λ term. stands_at equation unknown term && term.symbol) xs ys

-- nothing is said where no term stands
free-sum : (terms : List Term) (equation unknown : List ℕ) → IsFree terms equation unknown → sum_by (part_at equation unknown) terms ≡ 0
free-sum [] equation unknown free = refl
free-sum (term ∷ terms) equation unknown free = by (stands_at equation unknown term) refl free (free-sum terms equation unknown)
  where
    by : (b : Bool) → stands_at equation unknown term ≡ b →
        (b || list_any (stands_at equation unknown) terms) ≡ false →
        (IsFree terms equation unknown → sum_by (part_at equation unknown) terms ≡ 0) →
        sum_by (part_at equation unknown) (term ∷ terms) ≡ 0
    by true e none more = let f : ⊥ = cc in absurd f
    by false e none more =
        let here : ◌≡◌ {A = ℕ} (part_at equation unknown term) 0 = ap (λ b. cond b term.constant 0) e in
        sum_by-cons (part_at equation unknown) term terms ∙ omega (arith, here, more none)

pub said_of-free : (p : ℕ) (terms : List Term) (equation unknown : List ℕ) → IsFree terms equation unknown → said_of p terms equation unknown ≡ 0
said_of-free p terms equation unknown free = ap (λ n. n % p) (free-sum terms equation unknown free) ∙ zero-mod p

pub symbol_said-free : (terms : List Term) (equation unknown : List ℕ) → IsFree terms equation unknown → symbol_said terms equation unknown ≡ false
symbol_said-free [] equation unknown free = refl
symbol_said-free (term ∷ terms) equation unknown free = by (stands_at equation unknown term) refl free (symbol_said-free terms equation unknown)
  where
    by : (b : Bool) → stands_at equation unknown term ≡ b →
        (b || list_any (stands_at equation unknown) terms) ≡ false →
        (IsFree terms equation unknown → symbol_said terms equation unknown ≡ false) →
        symbol_said (term ∷ terms) equation unknown ≡ false
    by true e none more = let f : ⊥ = cc in absurd f
    by false e none more = rw e (more none)

-- what one term says
pub said_of-one : (p : ℕ) (term : Term) (equation unknown : List ℕ) → term.constant < p → said_of p (term ∷ []) equation unknown ≡ part_at equation unknown term
said_of-one p term equation unknown below = by (stands_at equation unknown term) refl
  where
    by : (b : Bool) → stands_at equation unknown term ≡ b → said_of p (term ∷ []) equation unknown ≡ part_at equation unknown term
    by true e = rw e (mod-eq_of_lt {n = 0 + term.constant} {m = p} (omega (arith, below)) ∙ omega arith)
    by false e = rw e (zero-mod p)
