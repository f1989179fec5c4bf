-- A set whose members are told by a test is listed.
use Rattle.std.proofs.Common.{ℕ, zero, suc, ◌<◌, ◌⊎◌, List, []}
use Rattle.std.proofs.Common.{◌∷◌, ◌++◌, inl, inr, subst, add-one, arith}
use Rattle.solve_plan.specs.Marks.{AreMembersOf}
use Rattle.solve_plan.proofs.MemberLists.{members-none, members-put, members-skip}

pub record IsListed (n : ℕ) (A : ℕ → Type 0) : Type 0 where
  pub list : List ℕ
  pub are : AreMembersOf n A list

pub listed : (A : ℕ → Type 0) (n : ℕ) → ((i : ℕ) → i < n → A i ⊎ (A i → ⊥)) → IsListed n A
listed A zero decide = record { list = []; are = members-none A }
listed A (suc n) decide = go (listed A n (λ i il. decide i (omega (arith, il)))) (decide n (omega arith))
  where
    go : IsListed n A → A n ⊎ (A n → ⊥) → IsListed (suc n) A
    go before (inl is) = record {
      list = before.list ++ n ∷ [];
      are = subst (λ m. AreMembersOf m A (before.list ++ n ∷ [])) (add-one n) (members-put n A before.list before.are is);
    }
    go before (inr not_so) = record {
      list = before.list;
      are = subst (λ m. AreMembersOf m A before.list) (add-one n) (members-skip n A before.list before.are not_so);
    }
