-- How long the texts of studies are.
use Rattle.std.proofs.Common.{◌≡◌, ℕ, zero, suc, ◌*◌, ◌^◌, ◌<◌, ◌≤◌, Bool, List, length, map, get_or}
use Rattle.std.proofs.Common.{refl, sym, subst, ◌∙◌, arith, inl, inr, mul-le-mul, suc-mul}
use Rattle.std.specs.List.{All}
use Rattle.std.proofs.lemmas.List.{get_or-map, get_or_default, length-map}
use Rattle.residue_theory.specs.Residues.{IsPrime}
use Rattle.residue_theory.specs.Sets.{everything}
use Rattle.residue_theory.specs.Sums.{size_on, sum_below}
use Rattle.residue_theory.proofs.CountLaws.{size-everything}
use Rattle.residue_theory.proofs.SumLaws.{size_on-within}
use Rattle.mixed_layering_laws.specs.LayeredValues.{IsOneOrTwo}
use Rattle.mixed_matrices.specs.Models.{MixedMatrix, value}
use Rattle.mixed_matrices.specs.StructuralRanks.{IsStructuralRank}
use Rattle.mixed_pair_laws.proofs.GreatestRanks.{greatest-size}
use Rattle.mixed_model.specs.Layers.{Layers, layered_matrix_of}
use Rattle.mixed_model.specs.Models.{IsModel, MixedModel, mixed_matrix_of}
use Rattle.cert_text.specs.Readings.{parts_of}
use Rattle.part_arcs.proofs.FormLaws.{some-has}
use Rattle.value_list_laws.specs.ListedValues.{symbol_count}
use Rattle.text_lengths.proofs.Lengths.{rising-few}
use Rattle.text_lengths.proofs.TextLengths.{blocks-few}
use Rattle.study_answers.specs.Conflicts.{AreConflictsOf}
use Rattle.study_answers.specs.Solvings.{IsSolvingBy}
use Rattle.study_answers.specs.Values.{AreValuesOf}
use Rattle.study_answers.specs.declared.conflicts.Conflict.{Conflict}
use Rattle.study_answers.specs.declared.solving.Solving.{Solving}
use Rattle.study_answers.specs.declared.solving.Solving.TheVariants.{Open, Singular, Solution}
use Rattle.study_answers.specs.declared.values.ValueAt.{ValueAt}
use Rattle.study_answers.specs.declared.values.Values.{Values as Told}
use Rattle.study_texts.specs.ConflictTexts.{conflicts_text}
use Rattle.study_texts.specs.Rooms.{conflict_room, solution_room, values_room}
use Rattle.study_texts.specs.SolutionTexts.{solving_text}
use Rattle.study_texts.specs.ValueTexts.{values_text}
use Rattle.study_texts.proofs.Lengths.{conflicts-text-short, solving-text-short, values-text-short}
use Rattle.study_outputs.proofs.Ranges.{block-in, block-rises}

-- at most n in each of m rows
rows-few : (A : ℕ → ℕ → Bool) (m n : ℕ) → sum_below m (λ i. size_on (A i) n) ≤ m * n
rows-few A zero n = omega arith
rows-few A (suc m) n =
    rw (suc-mul m n) (omega (arith, rows-few A m n, size-everything n, size_on-within everything (A m) n (λ j jl h. refl)))

module _ (p : ℕ) (prime : IsPrime p) (model : MixedModel) (is : IsModel p model) (k n : ℕ) (small : k ≤ 4096)
    (equations : length model.equations ≤ k) (unknowns : length model.unknowns ≤ k) where
  abbrev M : MixedMatrix
  M = mixed_matrix_of model

  rank-low : (rank : ℕ) → IsStructuralRank p M rank → rank < 10000
  rank-low rank ranked = omega (arith, (greatest-size p prime M.rows M.columns (value M) rank ranked).0, equations, small)

  symbols-few : symbol_count M ≤ k * k
  symbols-few = omega (arith, rows-few M.symbol M.rows M.columns, mul-le-mul equations unknowns)

  -- ---- conflict sets
  pub conflicts-fit : (conflicts : List Conflict) → AreConflictsOf p M conflicts → length (conflicts_text model conflicts) ≤ conflict_room k
  conflicts-fit conflicts are = conflicts-text-short p model is k (omega (arith, small)) conflicts few sets
    where
      equation : Conflict → ℕ
      equation conflict = conflict.equation

      within : All (λ e. e < M.rows) (map equation conflicts)
      within = λ j d jl. ((are.surplus.exact (get_or (map equation conflicts) j d)).0
          (some-has (map equation conflicts) j (get_or (map equation conflicts) j d) jl (get_or_default (map equation conflicts) j 0 d jl))).0

      few : length conflicts ≤ k
      few = omega (arith, equations, length-map conflicts equation, rising-few M.rows (map equation conflicts) are.surplus.rising within)

      sets : All (λ conflict. length conflict.set ≤ k) conflicts
      sets = λ j d jl.
          let list = are.sets j d jl in
          let set : List ℕ = (get_or conflicts j d).set in
          omega (
            arith,
            equations,
            rising-few M.rows set list.rising
                (λ i e il. list.below (get_or set i e) (some-has set i (get_or set i e) il (get_or_default set i 0 e il))),
          )

  module _ {T : Type 0} (number : T → ℕ) (digits : ℕ) (some : 0 < digits) (below : p < 10 ^ digits) where
    -- ---- values
    pub values-fit : (told : Told T) → AreValuesOf number p M told → length (values_text number model told) ≤ values_room digits k
    values-fit told are = values-text-short number p digits some model is k told (rank-low told.rank are.rank) few ones
      where
        place : ValueAt T → ℕ
        place at = number at.value

        long : length told.values ≡ symbol_count M
        long = sym (length-map told.values place) ∙ are.first.reaching.length

        few : length told.values ≤ k * k
        few = omega (arith, long, symbols-few)

        low : (x : ℕ) → IsOneOrTwo x → x < 10 ^ digits
        low x (inl one) = omega (arith, one, below, prime.above_one)
        low x (inr two) = omega (arith, two, below, prime.above_one)

        ones : All (λ at. number at.value < 10 ^ digits) told.values
        ones = λ j d jl. low (place (get_or told.values j d))
            (subst IsOneOrTwo (get_or-map place told.values j d 0 jl) (are.first.reaching.small j (omega (arith, long, jl))))

    -- ---- solving
    pub solving-fits : (layers : Layers) → layers.q.width ≤ n → n ≤ 8192 → (values right : List ℕ) (solving : Solving T) →
        IsSolvingBy number p model layers values right solving → length (solving_text number model layers solving) ≤ solution_room digits k n
    solving-fits layers wide few values right (Open rank) solves =
        solving-text-short number p digits some model is layers k n (Open rank) (rank-low rank solves.0)
    solving-fits layers wide few values right (Singular block columns) solves =
        solving-text-short number p digits some model is layers k n (Singular block columns) (low, short)
      where
        blocks : length solves.ccf.blocks ≤ layers.q.width
        blocks = blocks-few p (layered_matrix_of layers) (parts_of solves.ccf) solves.right.right.canonical_listing.parts

        low : block < 10000
        low = omega (arith, solves.last.within, blocks, wide, few)

        short : length columns ≤ n
        short = omega (
          arith,
          wide,
          rising-few layers.q.width columns (block-rises p model layers _ block columns solves) (block-in p model layers _ block columns solves),
        )
    solving-fits layers wide few values right (Solution x) solves =
        solving-text-short number p digits some model is layers k n (Solution x) (short, small-numbers)
      where
        short : length x ≤ k
        short = omega (arith, solves.0.count, length-map x number, unknowns)

        small-numbers : All (λ v. number v < 10 ^ digits) x
        small-numbers = λ j d jl.
            let here : number (get_or x j d) < p =
            subst (λ v. v < p) (get_or-map number x j d (number d) jl) (solves.1 j (number d) (omega (arith, jl, length-map x number))) in
            omega (arith, here, below)
