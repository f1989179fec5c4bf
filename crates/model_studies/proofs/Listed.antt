-- Surplus equations with their conflict sets, listed one after another.
use Rattle.std.proofs.Common.{◌≡◌, ℕ, ◌+◌, ◌<◌, ◌≤◌, List, [], ◌∷◌, ◌++◌, length, map, get_or, refl, sym, subst, ◌∙◌, arith}
use Rattle.std.proofs.Common.{length-append, ◌⊎◌, inl, inr}
use Rattle.std.proofs.lemmas.List.{get_or_append_left, map-append}
use Rattle.std.proofs.Math.Seq.{get_or-append_seam}
use Rattle.residue_theory.proofs.SetLaws.{lt_cases}
use Rattle.mixed_matrices.specs.Models.{MixedMatrix}
use Rattle.mixed_matrices.specs.Removals.{IsSurplus}
use Rattle.solve_plan.specs.Marks.{AreMembersOf}
use Rattle.solve_plan.proofs.MemberLists.{members-none, members-put, members-skip}
use Rattle.equation_choice.specs.ConflictLists.{AreConflictLists, HasNoneWith, IsConflictList, IsFirstWith, set_at}
use Rattle.study_answers.specs.Conflicts.{AreConflictsOf}
use Rattle.model_studies.specs.Listing.{AddsConflict}
use Rattle.study_answers.specs.declared.conflicts.Conflict.{Conflict}

-- of the equations below e the surplus ones, each with its conflict set
pub record ListsBelow (p : ℕ) (M : MixedMatrix) (e : ℕ) (conflicts : List Conflict) : Type 0 where
  pub surplus : AreMembersOf e (IsSurplus p M) (map (λ conflict. conflict.equation) conflicts)
  pub sets : (k : ℕ) (d : Conflict) → k < length conflicts → IsConflictList p M (get_or conflicts k d).equation (get_or conflicts k d).set

-- whatever matrix of n equations has these conflict lists
abbrev pub ListsBelowOf : ℕ → List (List ℕ) → ℕ → List Conflict → Type 0
ListsBelowOf n sets e conflicts = (p : ℕ) (M : MixedMatrix) → M.rows ≡ n → AreConflictLists p M sets → ListsBelow p M e conflicts

module _ (n : ℕ) (lists : List (List ℕ)) where
  pub listed-none : ListsBelowOf n lists 0 []
  listed-none p M rows are = record { surplus = members-none (IsSurplus p M); sets = λ k d kl. absurd (omega (arith, kl)) }

  listed-skip : (e : ℕ) (conflicts : List Conflict) → e < n → HasNoneWith lists e → ListsBelowOf n lists e conflicts →
      ListsBelowOf n lists (e + 1) conflicts
  listed-skip e conflicts low none below p M rows are =
      let so_far : ListsBelow p M e conflicts = below p M rows are in
      record {
        surplus = members-skip e (IsSurplus p M) (map (λ conflict. conflict.equation) conflicts) so_far.surplus
            (are.none e (omega (arith, low, rows)) none);
        sets = so_far.sets;
      }

  listed-put : (e k : ℕ) (set : List ℕ) (conflicts : List Conflict) → e < n → IsFirstWith lists e k → set ≡ set_at lists k →
      ListsBelowOf n lists e conflicts → ListsBelowOf n lists (e + 1) (conflicts ++ record { equation = e; set = set } ∷ [])
  listed-put e k set conflicts low first is below p M rows are = record {
    surplus = subst (AreMembersOf (e + 1) (IsSurplus p M)) (sym (map-append (λ (conflict : Conflict). conflict.equation) conflicts (one ∷ [])))
        (members-put e (IsSurplus p M) (map (λ conflict. conflict.equation) conflicts) so_far.surplus here.surplus);
    sets = λ j d jl. by j d jl (lt_cases j (length conflicts));
  }
    where
      one : Conflict
      one = record { equation = e; set = set }

      so_far : ListsBelow p M e conflicts
      so_far = below p M rows are

      here : IsConflictList p M e set
      here = subst (IsConflictList p M e) (sym is) (are.some e k (omega (arith, low, rows)) first)

      by : (j : ℕ) (d : Conflict) → j < length (conflicts ++ one ∷ []) → (j < length conflicts) ⊎ (length conflicts ≤ j) →
          IsConflictList p M (get_or (conflicts ++ one ∷ []) j d).equation (get_or (conflicts ++ one ∷ []) j d).set
      by j d jl (inl less) = subst (λ (c : Conflict). IsConflictList p M c.equation c.set) (sym (get_or_append_left conflicts (one ∷ []) d j less))
          (so_far.sets j d less)
      by j d jl (inr more) =
          let last : j ≡ length conflicts = omega (arith, more, jl, length-append conflicts (one ∷ [])) in
          subst (λ i. IsConflictList p M (get_or (conflicts ++ one ∷ []) i d).equation (get_or (conflicts ++ one ∷ []) i d).set) (sym last)
          (subst (λ (c : Conflict). IsConflictList p M c.equation c.set) (sym (get_or-append_seam conflicts one [] d)) here)

  pub listed-on : (e : ℕ) (conflicts now : List Conflict) → e < n → AddsConflict lists e conflicts now → ListsBelowOf n lists e conflicts →
      ListsBelowOf n lists (e + 1) now
  listed-on e conflicts now low (inl (none, same)) below = subst (ListsBelowOf n lists (e + 1)) (sym same) (listed-skip e conflicts low none below)
  listed-on e conflicts now low (inr (k, first, same)) below =
      subst (ListsBelowOf n lists (e + 1)) (sym same) (listed-put e k (set_at lists k) conflicts low first refl below)

  pub listed-all : (e : ℕ) (conflicts : List Conflict) → e ≡ n → ListsBelowOf n lists e conflicts → (p : ℕ) (M : MixedMatrix) → M.rows ≡ n →
      AreConflictLists p M lists → AreConflictsOf p M conflicts
  listed-all e conflicts whole below p M rows are =
      let told : ListsBelow p M e conflicts = below p M rows are in
      record {
        surplus = subst (λ m. AreMembersOf m (IsSurplus p M) (map (λ conflict. conflict.equation) conflicts)) (whole ∙ sym rows) told.surplus;
        sets = told.sets;
      }
