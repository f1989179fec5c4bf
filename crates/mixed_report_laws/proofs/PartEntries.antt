-- The entries of parts, over plain values.
use Rattle.std.proofs.Common.{◌≡◌, ℕ, Bool, true, false, cond, ◌&&◌, refl, arith}
use Rattle.residue_theory.proofs.SetLaws.{not_true}
use Rattle.residue_theory.proofs.SumLaws.{without-member}
use Rattle.residue_theory.specs.Sets.{everything, without}

pub part-zero : (s : Bool) (x : ℕ) → x ≡ 0 → cond s x 0 ≡ 0
part-zero true x q = q
part-zero false x q = refl

pub part-none : (s u x : Bool) → x ≡ false → s && u && x ≡ false
part-none s u x q = grind arith

-- a part of some rows and all columns
pub row-gone : (s : Bool) (x : ℕ) → s ≡ false → cond (s && true) x 0 ≡ 0
row-gone s x h = grind arith

pub row-kept : (s : Bool) (x : ℕ) → s ≡ true → cond (s && true) x 0 ≡ x
row-kept s x h = grind arith

pub symbol-gone : (s x : Bool) → s ≡ false → s && true && x ≡ false
symbol-gone s x h = grind arith

pub symbol-kept : (s x : Bool) → s ≡ true → s && true && x ≡ x
symbol-kept s x h = grind arith

pub without-no : (v x : ℕ) → x ≡ v → without everything v x ≡ false
without-no v x q = not_true (without everything v x) (λ w. (without-member everything v x w).1 q)
