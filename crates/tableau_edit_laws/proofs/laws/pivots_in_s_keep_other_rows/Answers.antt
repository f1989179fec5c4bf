use Rattle.std.proofs.Common.{ℕ, true, ◌≡◌, ◌≢◌, ◌+◌, ◌*◌, ◌%◌, ◌<◌, inl, inr, ap, sym, subst, refl, ◌∙◌, arith}
use Rattle.std.proofs.Math.Nat.{zero-mod}
use Rattle.residue_theory.proofs.ResidueLaws.{agree-add, vanishes-mul, vanishes_factor}
use Rattle.residue_theory.proofs.SumLaws.{nat_cases}
use Rattle.tableau_edit_laws.proofs.laws.pivots_in_s_keep_other_rows.Goals as goal

pub returns : goal.returns
returns h p prime m n P R k c B C row kl ck cleared base others = record {
  row_below = λ b bl bh. base.row_below b bl (others b bl bh).0;
  one = λ b bl bh. at b bl bh (row b) (base.row_below b bl (others b bl bh).0) (others b bl bh).1 ∙ base.one b bl (others b bl bh).0;
  zero = λ b i bl bh il ne. elim (nat_cases i k) [
    | inl q ↦ subst (λ i. R i b % p ≡ 0) (sym q) (at_k b bl bh)
    | inr apart ↦ at b bl bh i il apart ∙ base.zero b i bl (others b bl bh).0 il ne
  ];
  distinct = λ b d bl dl bh dh q. base.distinct b d bl dl (others b bl bh).0 (others d dl dh).0 q;
}
  where
    at_k : (b : ℕ) → b < n → C b ≡ true → R k b % p ≡ 0
    at_k b bl bh = vanishes_factor p prime (c k) (R k b) ck (sym (cleared.here b bl)
        ∙ base.zero b k bl (others b bl bh).0 kl (λ q. (others b bl bh).1 (sym q)))

    at : (b : ℕ) → b < n → C b ≡ true → (i : ℕ) → i < m → i ≢ k → R i b % p ≡ P i b % p
    at b bl bh i il apart = sym (ap (λ s. s % p) (let q : R i b + 0 ≡ R i b = omega arith in q))
        ∙ agree-add p (R i b) (R i b) 0 (c i * R k b) refl (zero-mod p ∙ sym (vanishes-mul p (c i) (R k b) (at_k b bl bh)))
        ∙ sym (cleared.others i b il bl apart)
