-- The conflict set of a surplus equation, as a rising list.
use Rattle.std.proofs.Common.{◌≡◌, ℕ, ◌<◌, Bool, true, List, length, slice_index, sym, subst, ◌∙◌}
use Rattle.residue_theory.specs.Residues.{IsPrime}
use Rattle.residue_theory.specs.Sets.{everything, has, without}
use Rattle.part_arcs.proofs.FormLaws.{has-some}
use Rattle.mixed_matrices.specs.Models.{MixedMatrix}
use Rattle.mixed_matrices.specs.Removals.{IsSurplus}
use Rattle.equation_matroid_laws.specs.Conflicts.{IsConflictSet, IsSurplusAmong}
use Rattle.equation_matroid_laws.specs.GreedyChoices.{IsGreedyChoice, by_number}
use Rattle.equation_matroid_laws.proofs.ConflictSets.{circuit, minimal, one_conflict_set}
use Rattle.equation_matroid_laws.proofs.Repairs.{choice_exists}
use Rattle.equation_matroid_laws.proofs.WholeModels.{surplus-among}
use Rattle.equation_choice.specs.ConflictLists.{IsConflictList}
use Rattle.existence_laws.proofs.Lists.{members-are, members-has, members_of}

module _ (p : ℕ) (prime : IsPrime p) (big : 2 < p) (M : MixedMatrix) (e : ℕ) (el : e < M.rows) (surplus : IsSurplus p M e) where
  among : IsSurplusAmong p M everything e
  among = surplus-among p prime M e el surplus

  -- a set is the conflict set where its members below the number of equations are those of the conflict set
  same-conflict : (C D : ℕ → Bool) → ((x : ℕ) → x < M.rows → D x ≡ C x) → IsConflictSet p M e C → IsConflictSet p M e D
  same-conflict C D same conflict = go (choice_exists p prime M by_number (without everything e))
    where
      go : (B : ℕ → Bool) × IsGreedyChoice p M by_number (without everything e) B → IsConflictSet p M e D
      go (B, choice) = (circuit p prime M big e el among B D choice).1
          (λ x xl. let at = (circuit p prime M big e el among B C choice).0 conflict x xl in
          (λ h. at.0 (sym (same x xl) ∙ h), λ inside. same x xl ∙ at.1 inside))

  list-below : (C : ℕ → Bool) (x : ℕ) → has (members_of C M.rows) x ≡ true → x < M.rows
  list-below C x h = go (has-some (members_of C M.rows) x h)
    where
      go : (k : ℕ) × (k < length (members_of C M.rows)) × (slice_index (members_of C M.rows) k ≡ x) → x < M.rows
      go (k, kl, is) = subst (λ y. y < M.rows) is ((members-are C M.rows).rising.below k 0 kl)

  set-listed : (C : ℕ → Bool) → IsConflictSet p M e (has (members_of C M.rows)) → IsConflictList p M e (members_of C M.rows)
  set-listed C conflict = let (rank, parts) = minimal p prime M big e el among (has (members_of C M.rows)) conflict in record {
    surplus = surplus;
    rising = (members-are C M.rows).rising.rising;
    below = list-below C;
    conflict = conflict;
    rank = rank;
    parts = parts;
  }

  pub conflict-listed : (set : List ℕ) × IsConflictList p M e set
  conflict-listed = go (one_conflict_set p prime M big e el among)
    where
      go : (C : ℕ → Bool) × IsConflictSet p M e C × ((D : ℕ → Bool) → IsConflictSet p M e D → (x : ℕ) → x < M.rows → D x ≡ C x) →
          (set : List ℕ) × IsConflictList p M e set
      go (C, conflict, _) = (
        members_of C M.rows,
        set-listed C (same-conflict C (has (members_of C M.rows)) (λ x xl. members-has C M.rows x xl) conflict),
      )
