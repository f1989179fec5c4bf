-- What the report on a model keeps.
use Rattle.std.proofs.Common.{◌≤◌, ◌<◌, ℕ, List, length, get_or, arith}
use Rattle.std.specs.List.{All}
use Rattle.std.proofs.lemmas.List.{get_or_default}
use Rattle.residue_theory.specs.Residues.{IsPrime}
use Rattle.part_arcs.proofs.FormLaws.{some-has}
use Rattle.mixed_matrices.specs.Models.{MixedMatrix, value}
use Rattle.mixed_pair_laws.proofs.GreatestRanks.{greatest-size}
use Rattle.text_lengths.proofs.Lengths.{rising-few}
use Rattle.solve_plan.specs.Marks.{AreMembersOf}
use Rattle.solve_plan.specs.Reports.{IsReportOf}
use Rattle.solve_plan.specs.declared.told.Report.{Report}

members-within : (n : ℕ) (A : ℕ → Type 0) (list : List ℕ) → AreMembersOf n A list → All (λ i. i < n) list
members-within n A list are = λ k d kl. ((are.exact (get_or list k d)).0 (some-has list k (get_or list k d) kl (get_or_default list k 0 d kl))).0

members-few : (n : ℕ) (A : ℕ → Type 0) (list : List ℕ) → AreMembersOf n A list → length list ≤ n
members-few n A list are = rising-few n list are.rising (members-within n A list are)

module _ (p : ℕ) (M : MixedMatrix) (told : Report) (reports : IsReportOf p M told) where
  pub surplus-within : All (λ equation. equation < M.rows) told.surplus
  surplus-within = members-within M.rows _ told.surplus reports.surplus

  pub undetermined-within : All (λ unknown. unknown < M.columns) told.undetermined
  undetermined-within = members-within M.columns _ told.undetermined reports.undetermined

  pub surplus-few : length told.surplus ≤ M.rows
  surplus-few = members-few M.rows _ told.surplus reports.surplus

  pub undetermined-few : length told.undetermined ≤ M.columns
  undetermined-few = members-few M.columns _ told.undetermined reports.undetermined

  module _ (prime : IsPrime p) where
    rank-low : (told.rank ≤ M.rows) × (told.rank ≤ M.columns)
    rank-low = greatest-size p prime M.rows M.columns (value M) told.rank reports.rank

    pub rank-many : told.rank ≤ told.equations
    rank-many = omega (arith, rank-low.0, reports.equations)

    pub rank-few : told.rank ≤ told.unknowns
    rank-few = omega (arith, rank-low.1, reports.unknowns)
