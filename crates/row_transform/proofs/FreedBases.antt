-- A base that loses the column of a row, if the row has one.
use Rattle.std.proofs.Common.{◌≡◌, ℕ, ◌<◌, ◌≢◌, true, false, inl, inr, refl, sym, subst, ap, ◌∙◌, Option, Some, None, IfSome, IfNone, IsNone}
use Rattle.residue_theory.proofs.SetLaws.{differ}
use Rattle.residue_theory.proofs.SumLaws.{nat_cases}
use Rattle.row_transform.specs.Bases.{BaseLists, is_base, base_row, IsBaseDropped}

pub freed-part : (told : Option ℕ) (b c : BaseLists) (n : ℕ) → IfNone told (c ≡ b) →
    IfSome told (λ v. IsBaseDropped n (is_base b) (base_row b) (is_base c) (base_row c) v) →
    (y : ℕ) → y < n → is_base c y ≡ true → (is_base b y ≡ true) × (base_row c y ≡ base_row b y)
freed-part None b c n none some y yl h = (ap (λ (z : BaseLists). is_base z y) (sym none) ∙ h, ap (λ (z : BaseLists). base_row z y) none)
freed-part (Some v) b c n none some y yl h = elim (nat_cases y v) [
  | inl q ↦ absurd (differ some.gone (subst (λ k. is_base c k ≡ true) q h))
  | inr ne ↦ (sym (some.others y yl ne) ∙ h, some.rows y yl ne)
]

pub freed-kept : (told : Option ℕ) (b c : BaseLists) (n : ℕ) → IfNone told (c ≡ b) →
    IfSome told (λ v. IsBaseDropped n (is_base b) (base_row b) (is_base c) (base_row c) v) →
    (y : ℕ) → y < n → told ≢ Some y → is_base c y ≡ is_base b y
freed-kept None b c n none some y yl ne = ap (λ (z : BaseLists). is_base z y) none
freed-kept (Some v) b c n none some y yl ne = some.others y yl (λ q. ne (ap (λ k. Some k) (sym q)))

pub freed-gone : (told : Option ℕ) (b c d : BaseLists) (n : ℕ) →
    IfSome told (λ v. IsBaseDropped n (is_base b) (base_row b) (is_base c) (base_row c) v) →
    ((y : ℕ) → is_base d y ≡ is_base c y) → IfSome told (λ v. is_base d v ≡ false)
freed-gone None b c d n some same = tt
freed-gone (Some v) b c d n some same = same v ∙ some.gone

pub none-bare : (told : Option ℕ) (b c : BaseLists) (n k : ℕ) → IfNone told (c ≡ b) → IsNone told →
    ((y : ℕ) → y < n → is_base c y ≡ true → base_row c y ≢ k) → (y : ℕ) → y < n → is_base b y ≡ true → base_row b y ≢ k
none-bare None b c n k none is bare = subst (λ (z : BaseLists). (y : ℕ) → y < n → is_base z y ≡ true → base_row z y ≢ k) none bare
none-bare (Some v) b c n k none is bare = absurd (wrong is)
  where
    wrong : true ≡ false → ⊥
    wrong h = cc

pub bare-none : (told : Option ℕ) (b : BaseLists) (n k : ℕ) → IfSome told (λ v. v < n) → IfSome told (λ v. is_base b v ≡ true) →
    IfSome told (λ v. base_row b v ≡ k) → ((y : ℕ) → y < n → is_base b y ≡ true → base_row b y ≢ k) → IsNone told
bare-none None b n k below member at bare = refl
bare-none (Some v) b n k below member at bare = absurd (bare v below member at)
