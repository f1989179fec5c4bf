-- Chains by their first step, and the rows of a table that is joined item by item.
use Rattle.std.proofs.Common.{◌≡◌, ℕ, zero, suc, ◌+◌, ◌<◌, ◌≤◌, ◌≢◌, Bool, true, false, ◌||◌, ◌⊎◌, inl, inr, List, length, refl, sym, subst, ◌∙◌, arith}
use Rattle.residue_theory.proofs.SumLaws.{nat_cases}
use Rattle.residue_theory.proofs.SetLaws.{differ, either_cases, either-first, either-second}
use Rattle.closed_sets.specs.Walks.{Walk, ReachesOn}
use Rattle.bit_table.specs.Bits.{IsBitSet, IsJoined}
use Rattle.part_rules.specs.Listed.{arc_in}
use Rattle.part_rules.specs.Tests.{TellsChains}
use Rattle.part_orders.specs.Orders.{AreLowerItems}
use Rattle.part_orders.proofs.ItemLaws.{left, right, arc_in-place, arc_in-is, left-below, right-below, stands-before}

-- k is m, or is reached from it
abbrev pub IsFrom : (ℕ → ℕ → Bool) → ℕ → ℕ → ℕ → Type 0
IsFrom arc b m k = (m ≡ k) ⊎ ReachesOn arc b m k

further : (arc : ℕ → ℕ → Bool) (b m z k : ℕ) → z < b → arc z k ≡ true → IsFrom arc b m z → ReachesOn arc b m k
further arc b m z k zl h (inl e) = (0, (z, zl, e, h))
further arc b m z k zl h (inr (j, w)) = (suc j, (z, zl, w, h))

first_of_walk : (arc : ℕ → ℕ → Bool) (b l k j : ℕ) → Walk arc b l k (suc j) → (m : ℕ) × (arc l m ≡ true) × IsFrom arc b m k
first_of_walk arc b l k zero (z, zl, e, h) = (k, subst (λ v. arc v k ≡ true) (sym e) h, inl refl)
first_of_walk arc b l k (suc j) (z, zl, w, h) =
    let r : (m : ℕ) × (arc l m ≡ true) × IsFrom arc b m z = first_of_walk arc b l z j w in
    (r.0, r.1, inr (further arc b r.0 z k zl h r.2))

-- a chain has a first step
pub first_step : (arc : ℕ → ℕ → Bool) (b l k : ℕ) → ReachesOn arc b l k → (m : ℕ) × (arc l m ≡ true) × IsFrom arc b m k
first_step arc b l k (j, w) = first_of_walk arc b l k j w

longer : (arc : ℕ → ℕ → Bool) (b l m k j : ℕ) → l < b → arc l m ≡ true → Walk arc b m k j → Walk arc b l k (suc j)
longer arc b l m k zero ll h e = (l, ll, refl, subst (λ v. arc l v ≡ true) e h)
longer arc b l m k (suc j) ll h (z, zl, w, a) = (z, zl, longer arc b l m z j ll h w, a)

-- and may be put together of it
pub from_step : (arc : ℕ → ℕ → Bool) (b l m k : ℕ) → l < b → arc l m ≡ true → IsFrom arc b m k → ReachesOn arc b l k
from_step arc b l m k ll h (inl e) = (0, longer arc b l m k 0 ll h e)
from_step arc b l m k ll h (inr (j, w)) = (suc j, longer arc b l m k (suc j) ll h w)

-- one of the first i items leads from l to k
abbrev pub LeadsBy : ℕ → List (ℕ × ℕ) → ℕ → ℕ → ℕ → Type 0
LeadsBy b lower i l k = (j : ℕ) × (j < i) × (left lower j ≡ l) × IsFrom (arc_in lower) b (right lower j) k

-- the rows tell where the first i items lead
pub record AreJoined (b : ℕ) (lower : List (ℕ × ℕ)) (bit : ℕ → ℕ → Bool) (i : ℕ) : Type 0 where
  pub sound : (l k : ℕ) → l < b → k < b → bit l k ≡ true → LeadsBy b lower i l k
  pub complete : (l k : ℕ) → l < b → k < b → LeadsBy b lower i l k → bit l k ≡ true

pub none_joined : (b : ℕ) (lower : List (ℕ × ℕ)) (bit : ℕ → ℕ → Bool) → ((x y : ℕ) → bit x y ≡ false) → AreJoined b lower bit 0
none_joined b lower bit none = record {
  sound = λ l k _ _ h. absurd (differ (none l k) h);
  complete = λ l k _ _ (j, jl, _, _). absurd (omega arith);
}

-- where all items of block m are among the first i, they lead where chains lead
leads_on : (b : ℕ) (lower : List (ℕ × ℕ)) (i m k : ℕ) → i ≤ length lower → m < b → LeadsBy b lower i m k → ReachesOn (arc_in lower) b m k
leads_on b lower i m k il ml (j, jl, e, f) = from_step (arc_in lower) b m (right lower j) k ml (arc_in-is lower j m (right lower j) (omega arith) e refl) f

leads_by : (b : ℕ) (lower : List (ℕ × ℕ)) (i m k : ℕ) → ((j : ℕ) → j < length lower → left lower j ≡ m → j < i) →
    ReachesOn (arc_in lower) b m k → LeadsBy b lower i m k
leads_by b lower i m k all chain =
    let s : (w : ℕ) × (arc_in lower m w ≡ true) × IsFrom (arc_in lower) b w k = first_step (arc_in lower) b m k chain in
    let p : (j : ℕ) × (j < length lower) × (left lower j ≡ m) × (right lower j ≡ s.0) = arc_in-place lower m s.0 s.1 in
    (p.0, all p.0 p.1 p.2, p.2, subst (λ v. IsFrom (arc_in lower) b v k) (sym p.3) s.2)

-- at the end
pub all_joined : (b : ℕ) (lower : List (ℕ × ℕ)) (bit : ℕ → ℕ → Bool) (i : ℕ) → i ≡ length lower → AreJoined b lower bit i → TellsChains (arc_in lower) b bit
all_joined b lower bit i e J l k ll kl = (
  (λ h. leads_on b lower i l k (omega arith) ll (J.sound l k ll kl h)),
  (λ chain. J.complete l k ll kl (leads_by b lower i l k (λ j jl _. omega arith) chain)),
)

more : (b : ℕ) (lower : List (ℕ × ℕ)) (i l k : ℕ) → LeadsBy b lower i l k → LeadsBy b lower (i + 1) l k
more b lower i l k (j, jl, e, f) = (j, omega arith, e, f)

less : (b : ℕ) (lower : List (ℕ × ℕ)) (i l k : ℕ) → LeadsBy b lower (i + 1) l k → LeadsBy b lower i l k
    ⊎ ((left lower i ≡ l) × IsFrom (arc_in lower) b (right lower i) k)
less b lower i l k (j, jl, e, f) = elim (nat_cases j i) [
  | inl q ↦ inr (subst (λ v. left lower v ≡ l) q e, subst (λ v. IsFrom (arc_in lower) b (right lower v) k) q f)
  | inr ne ↦ inl (j, omega arith, e, f)
]

-- one item more: its row is joined with that of the block that it names, and gets the bit of this
module _ (b : ℕ) (lower : List (ℕ × ℕ)) (t u v : ℕ → ℕ → Bool) (n i r m : ℕ) (L : AreLowerItems b lower) (il : i < length lower) (ne : n ≡ b)
    (re : left lower i ≡ r) (me : right lower i ≡ m) (J : IsJoined t u (t m) n r) (S : IsBitSet u v n r m) (before : AreJoined b lower t i) where
  rb : r < b
  rb = let h : left lower i < b = left-below b lower i L il in omega arith

  mr : m < r
  mr = let h : right lower i < left lower i = right-below b lower i L il in omega arith

  -- all items of m stand before
  all_before : (j : ℕ) → j < length lower → left lower j ≡ m → j < i
  all_before j jl e = stands-before b lower i j L jl (let h : m < r = mr in omega arith)

  other_row : (l k : ℕ) → k < b → l ≢ r → v l k ≡ t l k
  other_row l k kl nr = S.others l k (omega arith) nr ∙ J.others l k (omega arith) nr

  own_row : (k : ℕ) → k < b → k ≢ m → v r k ≡ (t r k || t m k)
  own_row k kl nm = S.row k (omega arith) nm ∙ J.here k (omega arith)

  by_item : (k : ℕ) → IsFrom (arc_in lower) b m k → LeadsBy b lower (i + 1) r k
  by_item k f = (i, omega arith, re, subst (λ w. IsFrom (arc_in lower) b w k) (sym me) f)

  sound : (l k : ℕ) → l < b → k < b → v l k ≡ true → LeadsBy b lower (i + 1) l k
  sound l k ll kl h = elim (nat_cases l r) [
    | inr nr ↦ more b lower i l k (before.sound l k ll kl (sym (other_row l k kl nr) ∙ h))
    | inl q ↦ subst (λ w. LeadsBy b lower (i + 1) w k) (sym q) (own (subst (λ w. v w k ≡ true) q h) (nat_cases k m))
  ]
    where
      own : v r k ≡ true → (k ≡ m) ⊎ (k ≢ m) → LeadsBy b lower (i + 1) r k
      own g (inl same) = by_item k (inl (sym same))
      own g (inr nm) = elim (either_cases (t r k) (t m k) (sym (own_row k kl nm) ∙ g)) [
        | inl old ↦ more b lower i r k (before.sound r k rb kl old)
        | inr new ↦ by_item k (inr
            (leads_on b lower i m k (omega arith) (let x : m < r = mr in let y : r < b = rb in omega arith)
            (before.sound m k (let x : m < r = mr in let y : r < b = rb in omega arith) kl new)))
      ]

  complete : (l k : ℕ) → l < b → k < b → LeadsBy b lower (i + 1) l k → v l k ≡ true
  complete l k ll kl w = elim (nat_cases l r) [
    | inr nr ↦ other_row l k kl nr ∙ before.complete l k ll kl (elim (less b lower i l k w) [ inl old ↦ old | inr new ↦ absurd (nr (sym new.0 ∙ re)) ])
    | inl q ↦ subst (λ x. v x k ≡ true) (sym q) (own (subst (λ x. LeadsBy b lower (i + 1) x k) q w) (nat_cases k m))
  ]
    where
      own : LeadsBy b lower (i + 1) r k → (k ≡ m) ⊎ (k ≢ m) → v r k ≡ true
      own g (inl same) = subst (λ x. v r x ≡ true) (sym same) S.here
      own g (inr nm) = own_row k kl nm ∙ elim (less b lower i r k g) [
        | inl old ↦ either-first (t r k) (t m k) (before.complete r k rb kl old)
        | inr new ↦ elim new.1 [
          | inl e ↦ absurd (nm (sym e ∙ me))
          | inr chain ↦ either-second (t r k) (t m k) (before.complete m k (let x : m < r = mr in let y : r < b = rb in omega arith) kl
              (leads_by b lower i m k all_before (subst (λ x. ReachesOn (arc_in lower) b x k) me chain)))
        ]
      ]

  pub join_item : AreJoined b lower v (i + 1)
  join_item = record { sound = sound; complete = complete }
