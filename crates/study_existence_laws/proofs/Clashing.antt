-- Each model has its surplus equations with their conflict sets.
use Rattle.std.proofs.Common.{◌≡◌, ℕ, zero, suc, ◌<◌, true, List, [], ◌∷◌, eqb, length, map, slice_index_or, refl, ap, sym, subst, arith}
use Rattle.residue_theory.specs.Sets.{has}
use Rattle.residue_theory.proofs.SetLaws.{either-first, either-second, eqb_from}
use Rattle.mixed_matrices.specs.Models.{MixedMatrix}
use Rattle.mixed_matrices.specs.Removals.{IsSurplus}
use Rattle.solve_plan.specs.Marks.{AreMembersOf}
use Rattle.equation_choice.specs.ConflictLists.{IsConflictList}
use Rattle.existence_laws.specs.Telling.{HasReport}
use Rattle.existence_laws.proofs.Reporting.{has-report}
use Rattle.study_answers.specs.declared.conflicts.Conflict.{Conflict}
use Rattle.study_existence_laws.specs.HasConflicts.{EachModelHasConflicts, HasConflicts}
use Rattle.study_existence_laws.proofs.ConflictListed.{conflict-listed}

module _ (p : ℕ) (M : MixedMatrix) where
  -- each of these has its conflict set
  abbrev HaveSets : List Conflict → Type 0
  HaveSets conflicts = (k : ℕ) (d : Conflict) → k < length conflicts →
      IsConflictList p M (slice_index_or conflicts k d).equation (slice_index_or conflicts k d).set

  first-set : (first : Conflict) (rest : List Conflict) → IsConflictList p M first.equation first.set → HaveSets rest → HaveSets (first ∷ rest)
  first-set first rest is sets zero d kl = is
  first-set first rest is sets (suc k) d kl = sets k d (omega (arith, kl))

  -- these equations, each with its conflict set
  record AreListed (equations : List ℕ) : Type 0 where
    conflicts : List Conflict
    equations_are : map (λ conflict. conflict.equation) conflicts ≡ equations
    sets : HaveSets conflicts

  sets-listed : (equations : List ℕ) → ((e : ℕ) → has equations e ≡ true → (set : List ℕ) × IsConflictList p M e set) → AreListed equations
  sets-listed [] each = record { conflicts = []; equations_are = refl; sets = λ k d kl. absurd (omega (arith, kl)) }
  sets-listed (e ∷ equations) each = go (each e (either-first (eqb e e) (has equations e) (eqb_from e e refl)))
      (sets-listed equations (λ f h. each f (either-second (eqb e f) (has equations f) h)))
    where
      go : (set : List ℕ) × IsConflictList p M e set → AreListed equations → AreListed (e ∷ equations)
      go (set, is) rest = record {
        conflicts = record { equation = e; set = set } ∷ rest.conflicts;
        equations_are = ap (λ list. e ∷ list) rest.equations_are;
        sets = first-set (record { equation = e; set = set }) rest.conflicts is rest.sets;
      }

pub has-conflicts : EachModelHasConflicts
has-conflicts p prime big M = go (has-report p prime M)
  where
    told : (equations : List ℕ) → AreMembersOf M.rows (IsSurplus p M) equations → AreListed p M equations → HasConflicts p M
    told equations are listed = record {
      conflicts = listed.conflicts;
      are = record { surplus = subst (AreMembersOf M.rows (IsSurplus p M)) (sym listed.equations_are) are; sets = listed.sets };
    }

    go : HasReport p M → HasConflicts p M
    go report = told report.told.surplus report.is.surplus (sets-listed p M report.told.surplus
        (λ e h. let at = (report.is.surplus.exact e).0 h in conflict-listed p prime big M e at.0 at.1))
