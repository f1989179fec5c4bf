-- Blocks, one after the other.
use Rattle.std.proofs.Common.{◌≡◌, ℕ, ◌+◌, ◌<◌, List, [], ◌∷◌, ◌++◌, length, get_or, inl, inr, sym, ◌∙◌, subst, arith}
use Rattle.std.proofs.lemmas.List.{get_or_append_left, get_or_push, length_push}
use Rattle.residue_theory.proofs.SumLaws.{nat_cases}

-- one block more, where each block k has P k
pub next-block : {A : Type 0} (P : ℕ → A → Type 0) (n : ℕ) (blocks : List A) (block : A) → length blocks ≡ n →
    ((j : ℕ) (d : A) → j < length blocks → P j (get_or blocks j d)) → P n block →
    (length (blocks ++ block ∷ []) ≡ n + 1)
    × ((j : ℕ) (d : A) → j < length (blocks ++ block ∷ []) → P j (get_or (blocks ++ block ∷ []) j d))
next-block P n blocks block count all next =
    let long : length (blocks ++ block ∷ []) ≡ length blocks + 1 = length_push blocks block in (
      omega (arith, long, count),
      λ j d low. elim (nat_cases j n) [
        | inl last ↦ subst (P j) (sym (get_or_push blocks block d j (count ∙ sym last)))
            (subst (λ k. P k block) (sym last) next)
        | inr other ↦
            let before : j < length blocks = omega (arith, long, count, low, other) in
            subst (P j) (sym (get_or_append_left blocks (block ∷ []) d j before)) (all j d before)
      ],
    )
