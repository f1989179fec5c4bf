-- What a study tells names what is there.
use Rattle.std.proofs.Common.{◌≡◌, ℕ, ◌-◌, ◌<◌, List, [], length, map, get_or, slice_index_or, ap, sym, subst, ◌∙◌, arith}
use Rattle.std.specs.List.{All}
use Rattle.std.specs.List.Sorted.{IsStrictlyIncreasing}
use Rattle.std.proofs.lemmas.List.{get_or-map, get_or_default, length-map}
use Rattle.part_arcs.proofs.FormLaws.{some-has}
use Rattle.cert_text.specs.Ranges.{AreRising}
use Rattle.cert_text.specs.declared.kind.Kind.{Kind}
use Rattle.cert_text.specs.declared.part.CcfBlock.{CcfBlock}
use Rattle.command_line.specs.declared.command.Study.{Study}
use Rattle.mixed_model.specs.Layers.{Layers}
use Rattle.mixed_model.specs.Models.{MixedModel, mixed_matrix_of}
use Rattle.symbol_places.specs.Places.{IsSymbolAfter}
use Rattle.symbol_places.specs.declared.places.SymbolPlace.{SymbolPlace}
use Rattle.study_answers.specs.Conflicts.{AreConflictsOf}
use Rattle.study_answers.specs.Solvings.{IsSingularAt, IsSolvingBy}
use Rattle.study_answers.specs.Values.{AreValuesOf}
use Rattle.study_answers.specs.declared.conflicts.Conflict.{Conflict}
use Rattle.study_answers.specs.declared.solving.Solving.{Solving}
use Rattle.study_answers.specs.declared.solving.Solving.TheVariants.{Open, Singular, Solution}
use Rattle.study_answers.specs.declared.values.ValueAt.{ValueAt}
use Rattle.study_answers.specs.declared.values.Values.{Values as Told}
use Rattle.study_texts.specs.ConflictTexts.{IsConflictIn}
use Rattle.study_texts.specs.SolutionTexts.{IsSolvingIn}
use Rattle.study_texts.specs.ValueTexts.{IsPlaceIn}
use Rattle.study_outputs.specs.StudyOutputs.{IsStudiedFor, IsStudiedIn}
use Rattle.study_outputs.specs.declared.studied.Studied.{Studied}
use Rattle.study_outputs.specs.declared.studied.Studied.TheVariants.{Conflicts, Repaired, Solved, Values}

places-in : {T : Type 0} (number : T → ℕ) (p : ℕ) (model : MixedModel) (told : Told T) → AreValuesOf number p (mixed_matrix_of model) told →
    All (λ at. IsPlaceIn model at.place) told.values
places-in {T} number p model told are = λ k d kl.
    let place : ValueAt T → SymbolPlace = λ at. at.place in
    let here : IsSymbolAfter (mixed_matrix_of model) k (get_or (map place told.values) k (place d)) =
    are.places.each k (place d) (omega (arith, kl, length-map told.values place)) in
    let at : IsSymbolAfter (mixed_matrix_of model) k (place (get_or told.values k d)) =
    subst (IsSymbolAfter (mixed_matrix_of model) k) (get_or-map place told.values k d (place d) kl) here in
    (at.0.0, at.0.1)

module _ (p : ℕ) (model : MixedModel) (layers : Layers) (v : ℕ → ℕ → ℕ) (k : ℕ) (columns : List ℕ) (is : IsSingularAt p model layers v k columns) where
  d : CcfBlock
  d = record { part = is.ccf.first; lower = [] }

  rise : AreRising layers.q.width columns
  rise = subst (AreRising layers.q.width) (sym (is.columns_are d))
      (subst (λ n. AreRising n (slice_index_or is.ccf.blocks (k - 1) d).part.columns) is.right.right.shape.columns
      ((is.is.blocks (k - 1) d (omega (arith, is.last.some, is.last.within))).part).columns)

  pub block-in : All (λ column. column < layers.q.width) columns
  block-in = rise.below

  pub block-rises : IsStrictlyIncreasing columns
  block-rises = rise.rising

solving-in : {T : Type 0} (number : T → ℕ) (p : ℕ) (model : MixedModel) (layers : Layers) (values right : List ℕ) (solving : Solving T) →
    IsSolvingBy number p model layers values right solving → IsSolvingIn model layers solving
solving-in number p model layers values right (Open rank) is = tt
solving-in number p model layers values right (Singular k columns) is = block-in p model layers _ k columns is
solving-in number p model layers values right (Solution x) is = omega (arith, is.0.count, length-map x number)

conflicts-in : (p : ℕ) (model : MixedModel) (conflicts : List Conflict) → AreConflictsOf p (mixed_matrix_of model) conflicts →
    All (IsConflictIn (length model.equations)) conflicts
conflicts-in p model conflicts are = λ k d kl.
    let equation : Conflict → ℕ = λ conflict. conflict.equation in
    let here : ℕ = equation (get_or conflicts k d) in
    let listed = some-has (map equation conflicts) k here (omega (arith, kl, length-map conflicts equation))
    (get_or-map equation conflicts k d 0 kl) in
    let set : List ℕ = (get_or conflicts k d).set in (
      ((are.surplus.exact here).0 listed).0,
      λ j e jl. (are.sets k d kl).below (get_or set j e) (some-has set j (get_or set j e) jl (get_or_default set j 0 e jl)),
    )

pub studied-in : {T : Type 0} (number : T → ℕ) (p : ℕ) (study : Study) (kind : Kind) (input : List ℕ) (studied : Studied T) →
    IsStudiedFor number p study kind input studied → IsStudiedIn studied
studied-in number p study kind input (Values model told) (is, gives, are) = places-in number p model told are
studied-in number p study kind input (Solved model layers solving) (is, solved) =
    (solved.are, solving-in number p model layers solved.values solved.right solving solved.solves)
studied-in number p study kind input (Repaired model costs repair) (is, repaired) =
    let long : length costs ≡ length model.equations = ap length repaired.problem.costs_are ∙ length-map model.equations _ in
    (omega (arith, long), repaired.shown.kept.rising.rising)
studied-in number p study kind input (Conflicts model conflicts) (is, gives, are) = conflicts-in p model conflicts are
