-- Models in which symbols are fixed: sets of places that are the same at symbols, and one more symbol.
use Rattle.std.proofs.Common.{◌≡◌, ℕ, ◌+◌, ◌%◌, ◌<◌, Bool, true, false, cond, not, ◌&&◌, refl, ap, sym, subst, ◌∙◌}
use Rattle.residue_theory.proofs.ResidueLaws.{agree-add}
use Rattle.residue_theory.proofs.SetLaws.{both_true, differ}
use Rattle.mixed_matrices.specs.Models.{AreSameModels, MixedMatrix}
use Rattle.value_list_laws.proofs.Places.{before-not_self}
use Rattle.value_list_laws.proofs.Runs.{in-order_next, put-fixed}
use Rattle.value_list_laws.specs.FixedSymbols.{IsSymbolPlace, PutsNumberAt, fixed, fixed_at, place}
use Rattle.value_list_laws.specs.ValueLists.{before}
use Rattle.value_lists.specs.Fixing.{IsFixedTo}

pub same-trans : (p : ℕ) (K L M : MixedMatrix) → AreSameModels p K L → AreSameModels p L M → AreSameModels p K M
same-trans p K L M a b = record {
  rows = a.rows ∙ b.rows;
  columns = a.columns ∙ b.columns;
  constants = λ i j il jl. a.constants i j il jl ∙ b.constants i j (subst (λ m. i < m) a.rows il) (subst (λ n. j < n) a.columns jl);
  symbols = λ i j il jl. a.symbols i j il jl ∙ b.symbols i j (subst (λ m. i < m) a.rows il) (subst (λ n. j < n) a.columns jl);
}

pub same-sym : (p : ℕ) (K L : MixedMatrix) → AreSameModels p K L → AreSameModels p L K
same-sym p K L a = record {
  rows = sym a.rows;
  columns = sym a.columns;
  constants = λ i j il jl. sym (a.constants i j (subst (λ m. i < m) (sym a.rows) il) (subst (λ n. j < n) (sym a.columns) jl));
  symbols = λ i j il jl. sym (a.symbols i j (subst (λ m. i < m) (sym a.rows) il) (subst (λ n. j < n) (sym a.columns) jl));
}

-- the same places and numbers at symbols
pub same-fixed : (p : ℕ) (M : MixedMatrix) (X Y : ℕ → ℕ → Bool) (u w : ℕ → ℕ → ℕ) → ((k l : ℕ) → IsSymbolPlace M k l → X k l ≡ Y k l) →
    ((k l : ℕ) → IsSymbolPlace M k l → X k l ≡ true → u k l ≡ w k l) → AreSameModels p (fixed X u M) (fixed Y w M)
same-fixed p M X Y u w places numbers = record {
  rows = refl;
  columns = refl;
  constants = λ k l kl ll. ap (λ x. x % p) (constant (M.symbol k l) (X k l) (Y k l) (M.constant k l) (u k l) (w k l)
      (λ s. places k l (kl, ll, s)) (λ s x. numbers k l (kl, ll, s) x));
  symbols = λ k l kl ll. symbol (M.symbol k l) (X k l) (Y k l) (λ s. places k l (kl, ll, s));
}
  where
    constant : (s x y : Bool) (c a b : ℕ) → (s ≡ true → x ≡ y) → (s ≡ true → x ≡ true → a ≡ b) → c + cond (x && s) a 0 ≡ c + cond (y && s) b 0
    constant true true true c a b same equal = ap (λ z. c + z) (equal refl refl)
    constant true false false c a b same equal = refl
    constant true true false c a b same equal = absurd (differ refl (sym (same refl)))
    constant true false true c a b same equal = absurd (differ refl (same refl))
    constant false true true c a b same equal = refl
    constant false true false c a b same equal = refl
    constant false false true c a b same equal = refl
    constant false false false c a b same equal = refl

    symbol : (s x y : Bool) → (s ≡ true → x ≡ y) → s && not x ≡ s && not y
    symbol true x y same = ap not (same refl)
    symbol false x y same = refl

-- the same model, with the same symbols fixed
fixed-again : (p : ℕ) (A B : MixedMatrix) (X : ℕ → ℕ → Bool) (c : ℕ → ℕ → ℕ) → AreSameModels p A B → AreSameModels p (fixed X c A) (fixed X c B)
fixed-again p A B X c same = record {
  rows = same.rows;
  columns = same.columns;
  constants = λ k l kl ll. agree-add p (A.constant k l) (B.constant k l) (cond (X k l && A.symbol k l) (c k l) 0) (cond (X k l && B.symbol k l) (c k l) 0)
      (same.constants k l kl ll) (ap (λ s. cond (X k l && s) (c k l) 0 % p) (same.symbols k l kl ll));
  symbols = λ k l kl ll. ap (λ s. s && not (X k l)) (same.symbols k l kl ll);
}

module _ (p : ℕ) (M : MixedMatrix) where
  -- no symbol stands between two places
  pub fixed-move : (v : ℕ → ℕ → ℕ) (i j k l : ℕ) (N : MixedMatrix) → ((a b : ℕ) → IsSymbolPlace M a b → before i j a b ≡ before k l a b) →
      IsFixedTo p M v i j N → IsFixedTo p M v k l N
  fixed-move v i j k l N places at = same-trans p N (fixed (before i j) v M) (fixed (before k l) v M) at
      (same-fixed p M (before i j) (before k l) v v places (λ _ _ _ _. refl))

  -- the same numbers at the symbols before
  pub fixed-numbers : (u v : ℕ → ℕ → ℕ) (i j : ℕ) (N : MixedMatrix) → ((a b : ℕ) → IsSymbolPlace M a b → before i j a b ≡ true → u a b ≡ v a b) →
      IsFixedTo p M u i j N → IsFixedTo p M v i j N
  fixed-numbers u v i j N numbers at = same-trans p N (fixed (before i j) u M) (fixed (before i j) v M) at
      (same-fixed p M (before i j) (before i j) u v (λ _ _ _. refl) numbers)

  module _ (v : ℕ → ℕ → ℕ) (i j : ℕ) (here : IsSymbolPlace M i j) (N : MixedMatrix) (at : IsFixedTo p M v i j N) where
    there : IsSymbolPlace N i j
    there = (
      subst (λ m. i < m) (sym at.rows) here.0,
      subst (λ n. j < n) (sym at.columns) here.1,
      at.symbols i j (subst (λ m. i < m) (sym at.rows) here.0) (subst (λ n. j < n) (sym at.columns) here.1)
          ∙ both_true (M.symbol i j) (not (before i j i j)) here.2 (ap not (before-not_self i j)),
    )

    -- a number is put in place of the symbol
    pub number-put : (c : ℕ) (P : MixedMatrix) → PutsNumberAt p N P i j c → AreSameModels p P (fixed_at i j c (fixed (before i j) v M))
    number-put c P puts = same-trans p P (fixed_at i j c N) (fixed_at i j c (fixed (before i j) v M)) (put-fixed p N P i j c there puts)
        (fixed-again p N (fixed (before i j) v M) (place i j) (λ _ _. c) at)

    pub fixed-place : (P : MixedMatrix) → PutsNumberAt p N P i j (v i j) → IsFixedTo p M v i (j + 1) P
    fixed-place P puts = same-trans p P (fixed_at i j (v i j) (fixed (before i j) v M)) (fixed (before i (j + 1)) v M)
        (number-put (v i j) P puts)
        (same-sym p (fixed (before i (j + 1)) v M) (fixed_at i j (v i j) (fixed (before i j) v M)) (in-order_next p M v i j))
