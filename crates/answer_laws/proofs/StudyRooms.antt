-- What a study writes of an input fits in the room that its length gives.
use Rattle.std.proofs.Common.{ℕ, ◌+◌, ◌^◌, ◌<◌, ◌≤◌, List, length, length-append, ap, subst, sym, arith}
use Rattle.residue_theory.specs.Residues.{IsPrime}
use Rattle.cert_text.specs.declared.kind.Kind.{Kind}
use Rattle.cert_text.specs.declared.kind.Kind.TheVariants.{Flowsheet, Matrix, Netlist}
use Rattle.command_line.specs.declared.command.Study.{Study}
use Rattle.command_line.specs.declared.command.Study.TheVariants as studies
use Rattle.input_kinds.specs.Kinds.{GivesModel}
use Rattle.input_kinds.specs.NameCounts.{names_within}
use Rattle.input_kinds.proofs.ByKind.{is-model}
use Rattle.input_kinds.proofs.NamesByKind.{few-names}
use Rattle.mixed_model.specs.Models.{IsModel, MixedModel, mixed_matrix_of}
use Rattle.mixed_model.specs.Layers.{Layers, layered_matrix_of}
use Rattle.mixed_layering.specs.Layers.{origins_of}
use Rattle.study_answers.specs.Conflicts.{AreConflictsOf}
use Rattle.study_answers.specs.Values.{AreValuesOf}
use Rattle.study_answers.specs.declared.conflicts.Conflict.{Conflict}
use Rattle.study_answers.specs.declared.solving.Solving.{Solving}
use Rattle.study_answers.specs.declared.values.Values.{Values as Told}
use Rattle.problem_heads.specs.Heads.{head_of, model_text}
use Rattle.problem_heads.proofs.Parting.{text-whole}
use Rattle.study_texts.specs.ConflictTexts.{conflicts_text}
use Rattle.study_texts.specs.SolutionTexts.{solving_text}
use Rattle.study_texts.specs.ValueTexts.{values_text}
use Rattle.study_outputs.specs.StudyOutputs.{IsRepairedFor, IsSolvedFor, IsStudiedFor, studied_text}
use Rattle.study_outputs.specs.declared.studied.Studied.{Studied}
use Rattle.study_outputs.specs.declared.studied.Studied.TheVariants.{Conflicts, Repaired, Solved, Values}
use Rattle.cheapest_repairs.proofs.ProblemCosts.{problem-costs}
use Rattle.repair_checker.specs.declared.repair.Repair.{Repair}
use Rattle.repair_texts.specs.RepairTexts.{repair_text}
use Rattle.study_outputs.proofs.RepairLengths.{repair-fits}
use Rattle.study_outputs.proofs.Lengths.{conflicts-fit, solving-fits, values-fit}
use Rattle.answer_laws.specs.Rooms.{columns_within, places_within, study_room}
use Rattle.answer_laws.proofs.Narrow.{narrow}

-- a longer text may have as many names
names-more : (kind : Kind) (m n : ℕ) → m ≤ n → names_within kind m ≤ names_within kind n
names-more Matrix m n low = low
names-more Netlist m n low = low
names-more Flowsheet m n low = omega arith

-- the names of a model are no more than the places that a text of n bytes may have
record IsPlaced (kind : Kind) (n : ℕ) (model : MixedModel) : Type 0 where
  equations : length model.equations ≤ places_within kind n
  unknowns : length model.unknowns ≤ places_within kind n

placed : (p : ℕ) (kind : Kind) (text : List ℕ) (n : ℕ) → length text ≤ n → (model : MixedModel) → GivesModel p kind text model → IsPlaced kind n model
placed p kind text n short model gives =
    let few = few-names p kind text model gives in
    let is : IsModel p model = is-model p kind text model gives in
    let more = names-more kind (length text) n short in
    let e : length model.equations ≤ 4096 = (is.equations).few in
    let u : length model.unknowns ≤ 4096 = (is.unknowns).few in
    record { equations = omega (arith, few.0, more, e); unknowns = omega (arith, few.1, more, u) }

few-places : (kind : Kind) (n : ℕ) → places_within kind n ≤ 4096
few-places kind n = omega arith

columns-more : (kind : Kind) (m n : ℕ) → m ≤ n → columns_within kind m ≤ columns_within kind n
columns-more kind m n low = let more = names-more kind m n low in omega (arith, more)

places-both : (kind : Kind) (n e u : ℕ) → e ≤ places_within kind n → u ≤ places_within kind n → e + u ≤ columns_within kind n
places-both kind n e u equations unknowns = omega (arith, equations, unknowns)

columns-low : (kind : Kind) (n : ℕ) → columns_within kind n ≤ 8192
columns-low kind n = omega arith

behind-short : (text : List ℕ) → length (model_text text) ≤ length text
behind-short text = omega (arith, ap length (text-whole text), length-append (head_of text) (model_text text))

module _ {T : Type 0} (number : T → ℕ) (p most : ℕ) (prime : IsPrime p) (some : 0 < most) (below : p < 10 ^ most) (kind : Kind) (input : List ℕ) where
  values-within : (model : MixedModel) (told : Told T) → GivesModel p kind input model → AreValuesOf number p (mixed_matrix_of model) told →
      length (values_text number model told) ≤ study_room most studies.Values kind (length input)
  values-within model told gives are =
      let at = placed p kind input (length input) (omega arith) model gives in
      values-fit p prime model (is-model p kind input model gives) (places_within kind (length input)) 0 (few-places kind (length input))
      at.equations at.unknowns number most some below told are

  conflicts-within : (model : MixedModel) (conflicts : List Conflict) → GivesModel p kind input model → AreConflictsOf p (mixed_matrix_of model) conflicts →
      length (conflicts_text model conflicts) ≤ study_room most studies.Conflict kind (length input)
  conflicts-within model conflicts gives are =
      let at = placed p kind input (length input) (omega arith) model gives in
      conflicts-fit p prime model (is-model p kind input model gives) (places_within kind (length input)) 0 (few-places kind (length input))
      at.equations at.unknowns conflicts are

  solving-within : (model : MixedModel) (layers : Layers) (solving : Solving T) → IsSolvedFor number p kind input model layers solving →
      length (solving_text number model layers solving) ≤ study_room most studies.Solve kind (length input)
  solving-within model layers solving solved =
      let text = model_text input in
      let short = behind-short input in
      let at = placed p kind text (length input) short model solved.gives in
      let low = narrow p kind text model (layered_matrix_of layers) (origins_of layers solved.are.split) solved.gives solved.are.layered in
      let wide : layers.q.width ≤ columns_within kind (length input) = omega (arith, low.columns, columns-more kind (length text) (length input) short) in
      solving-fits p prime model (is-model p kind text model solved.gives) (places_within kind (length input)) (columns_within kind (length input))
      (few-places kind (length input)) at.equations at.unknowns number most some below layers wide (columns-low kind (length input))
      solved.values solved.right solving solved.solves

  repair-within : (model : MixedModel) (costs : List ℕ) (repair : Repair T) → IsRepairedFor p kind input model costs repair →
      length (repair_text model costs repair) ≤ study_room most studies.Repair kind (length input)
  repair-within model costs repair repaired =
      let text = model_text input in
      let at = placed p kind text (length input) (behind-short input) model repaired.gives in
      repair-fits p model (places_within kind (length input)) (columns_within kind (length input)) at.equations
      (places-both kind (length input) (length model.equations) (length model.unknowns) at.equations at.unknowns) most some below
      (is-model p kind text model repaired.gives) costs (problem-costs p input model costs repaired.problem) repair repaired.shown

  pub studied-fits : (study : Study) (studied : Studied T) → IsStudiedFor number p study kind input studied →
      length (studied_text number studied) ≤ study_room most study kind (length input)
  studied-fits study (Values model told) (is, gives, are) =
      subst (λ s. length (values_text number model told) ≤ study_room most s kind (length input)) (sym is) (values-within model told gives are)
  studied-fits study (Solved model layers solving) (is, solved) =
      subst (λ s. length (solving_text number model layers solving) ≤ study_room most s kind (length input)) (sym is)
      (solving-within model layers solving solved)
  studied-fits study (Repaired model costs repair) (is, repaired) =
      subst (λ s. length (repair_text model costs repair) ≤ study_room most s kind (length input)) (sym is) (repair-within model costs repair repaired)
  studied-fits study (Conflicts model conflicts) (is, gives, are) =
      subst (λ s. length (conflicts_text model conflicts) ≤ study_room most s kind (length input)) (sym is) (conflicts-within model conflicts gives are)
