-- The rows of a step, and the steps that are put one after the other.
use Rattle.std.proofs.Common.{◌≡◌, ℕ, ◌+◌, ◌-◌, ◌<◌, ◌≤◌, false, cond, List, [], ◌∷◌, ◌++◌, length, map, take, drop}
use Rattle.std.proofs.Common.{get_or, slice_index, slice_index_or, inl, inr, refl, ap, sym, subst, ◌∙◌, arith}
use Rattle.std.specs.List.{All}
use Rattle.std.proofs.lemmas.List.{append-nil, append_assoc, at_drop_more, get_or-map, get_or_append_left}
use Rattle.std.proofs.lemmas.List.{get_or_push, length-map, length_push, map-append, take_more}
use Rattle.residue_theory.proofs.SetLaws.{lt_cases}
use Rattle.cert_text.specs.Contents.{Contents, numbered, numbered_rows}
use Rattle.cert_text.specs.declared.part.CcfBlock.{CcfBlock}
use Rattle.cert_text.specs.declared.part.CcfPart.{CcfPart}
use Rattle.mixed_model.specs.Layers.{Layers}
use Rattle.solve_plan.specs.declared.steps.Step.{Step}
use Rattle.solve_plan.specs.declared.steps.StepPart.{StepPart}
use Rattle.solve_plan.specs.declared.steps.StepPart.TheVariants.{First, Block, Last}
use Rattle.solve_plan.specs.PlanSteps.{AddsSteps, AreStepsOf, IsStepOf, block_steps, is_bare, solved_parts, tail_steps, step_terms}

-- the numbers of terms are those of the entries
pub terms-numbers : {T : Type 0} (number : T → ℕ) (origins : List ℕ) (entries : List (ℕ × T)) →
    map (λ term. (number term.0, term.1)) (step_terms origins entries) ≡ step_terms origins (numbered number entries)
terms-numbers number origins [] = refl
terms-numbers number origins (entry ∷ entries) = ap (λ rest. (number entry.1, slice_index origins entry.0) ∷ rest) (terms-numbers number origins entries)

-- the entries of a row of values are those of the printed row
module _ {T : Type 0} (number : T → ℕ) (slice rows : List (List (ℕ × T))) (printed : List (List (ℕ × ℕ))) (same : slice ≡ rows)
    (told : numbered_rows number rows ≡ printed)
    (i : ℕ) (low : i < length printed) (entries row : List (ℕ × T)) (is : entries ≡ row) (at : row ≡ slice_index_or slice i row) where
  slice-low : i < length slice
  slice-low = subst (λ n. i < n) (sym (ap length told) ∙ length-map rows (numbered number) ∙ ap length (sym same)) low

  pub row-numbered : numbered number entries ≡ slice_index_or printed i []
  row-numbered = ap (numbered number) (is ∙ at) ∙ sym (get_or-map (numbered number) slice i row [] slice-low)
      ∙ ap (λ all. slice_index_or (numbered_rows number all) i []) same ∙ ap (λ all. slice_index_or all i []) told

  pub row-low : (n : ℕ) → All (All (λ (item : ℕ × T). item.0 < n)) slice → All (λ (item : ℕ × T). item.0 < n) entries
  row-low n all = subst (All (λ (item : ℕ × T). item.0 < n)) (sym (is ∙ at)) (all i row slice-low)

-- one more term, of the next entry
pub terms-more : {T : Type 0} (origins : List ℕ) (entries : List (ℕ × T)) (terms more : List (T × ℕ)) (k : ℕ) (entry : ℕ × T) (equation : ℕ) →
    more ≡ terms ++ (entry.1, equation) ∷ [] → terms ≡ step_terms origins (take k entries) → k < length entries → entry ≡ slice_index_or entries k entry →
    slice_index origins entry.0 ≡ equation → more ≡ step_terms origins (take (k + 1) entries)
terms-more origins entries terms more k entry equation pushed before low at same =
    pushed ∙ ap (λ start. start ++ (entry.1, equation) ∷ []) before
    ∙ ap (λ term. step_terms origins (take k entries) ++ term ∷ []) (ap (λ e. (entry.1, e)) (sym same) ∙ ap (λ e. (e.1, slice_index origins e.0)) at)
    ∙ sym (map-append (λ e. (e.1, slice_index origins e.0)) (take k entries) (slice_index_or entries k entry ∷ []))
    ∙ ap (step_terms origins) (sym (take_more entries k entry low))

-- one more item, whose image is that of the next of a list
pub mapped-more : {X Y Z : Type 0} (f : X → Z) (g : Y → Z) (old : List Z) (items more : List X) (item : X) (list : List Y) (k : ℕ) (next : Y) →
    more ≡ items ++ item ∷ [] → map f items ≡ old ++ map g (take k list) → k < length list → next ≡ slice_index_or list k next → f item ≡ g next →
    map f more ≡ old ++ map g (take (k + 1) list)
mapped-more f g old items more item list k next pushed before low at same =
    ap (map f) pushed ∙ map-append f items (item ∷ []) ∙ ap (λ start. start ++ f item ∷ []) before ∙ append_assoc old (map g (take k list)) (f item ∷ [])
    ∙ ap (λ rest. old ++ rest) (ap (λ z. map g (take k list) ++ z ∷ []) (same ∙ ap g at)
    ∙ sym (map-append g (take k list) (slice_index_or list k next ∷ [])) ∙ ap (map g) (sym (take_more list k next low)))

-- ---- steps put after others
module _ {T : Type 0} (number : T → ℕ) (layers : Layers) (c : Contents) where
  pub steps-none : AreStepsOf number layers c [] []
  steps-none = record { count = refl; each = λ k of step low. absurd (omega (arith, low)) }

  pub adds-none : (old : List (Step T)) → AddsSteps number layers c [] old old
  adds-none old parts are = subst (λ all. AreStepsOf number layers c all old) (sym (append-nil parts)) are

  pub adds-one : (of : StepPart × CcfPart) (step : Step T) (old : List (Step T)) → IsStepOf number layers c of step →
      AddsSteps number layers c (of ∷ []) old (old ++ step ∷ [])
  adds-one of step old is parts are = record {
    count = length_push old step ∙ ap (λ m. m + 1) are.count ∙ sym (length_push parts of);
    each = λ k d e low. elim (lt_cases k (length parts)) [
      | inl less ↦
          let one : get_or (parts ++ of ∷ []) k d ≡ get_or parts k d = get_or_append_left parts (of ∷ []) d k less in
          let two : get_or (old ++ step ∷ []) k e ≡ get_or old k e = get_or_append_left old (step ∷ []) e k (omega (arith, less, are.count)) in
          subst (λ x. IsStepOf number layers c x (get_or (old ++ step ∷ []) k e)) (sym one) (subst (IsStepOf number layers c (get_or parts k d))
          (sym two) (are.each k d e less))
      | inr more ↦
          let end : length parts ≡ k = omega (arith, more, low, length_push parts of) in
          let one : get_or (parts ++ of ∷ []) k d ≡ of = get_or_push parts of d k end in
          let two : get_or (old ++ step ∷ []) k e ≡ step = get_or_push old step e k (are.count ∙ end) in
          subst (λ x. IsStepOf number layers c x (get_or (old ++ step ∷ []) k e)) (sym one) (subst (IsStepOf number layers c of) (sym two) is)
    ];
  }

  pub adds-then : (one two : List (StepPart × CcfPart)) (old mid now : List (Step T)) → AddsSteps number layers c one old mid →
      AddsSteps number layers c two mid now →
      AddsSteps number layers c (one ++ two) old now
  adds-then one two old mid now first second parts are = subst (λ all. AreStepsOf number layers c all now) (append_assoc parts one two) (second
      (parts ++ one) (first parts are))

  -- the block before those that are put
  pub adds-block : (blocks slice : List CcfBlock) (k j : ℕ) (block : CcfBlock) (step : Step T) (old now more : List (Step T)) → slice ≡ blocks →
      0 < k → k ≤ length slice → j ≡ k - 1 →
      IsStepOf number layers c (Block j, (slice_index_or slice j block).part) step → more ≡ now ++ step ∷ [] →
      AddsSteps number layers c (block_steps k (drop k blocks)) old now → AddsSteps number layers c (block_steps j (drop j blocks)) old more
  adds-block blocks slice k j block step old now more same some few next is pushed before =
      let low : j < length blocks = subst (λ (list : List CcfBlock). j < length list) same (omega (arith, some, few, next)) in
      let item : StepPart × CcfPart = (Block j, (get_or blocks j block).part) in
      let whole : block_steps j (drop j blocks) ≡ block_steps k (drop k blocks) ++ item ∷ [] =
      at_drop_more (block_steps j) blocks j block low ∙ ap (λ i. block_steps i (drop i blocks) ++ item ∷ []) (let q : j + 1 ≡ k = omega
      (arith, some, next) in q) in
      let here : IsStepOf number layers c item step = subst (λ (list : List CcfBlock). IsStepOf number layers c (
        Block j,
        (get_or list j block).part,
      ) step) same is in
      subst (AddsSteps number layers c (block_steps j (drop j blocks)) old) (sym pushed)
      (subst (λ items. AddsSteps number layers c items old (now ++ step ∷ [])) (sym whole)
      (adds-then (block_steps k (drop k blocks)) (item ∷ []) old now (now ++ step ∷ []) before (adds-one item step now here)))

  -- a tail that is not bare
  pub adds-tail : (name : StepPart) (tail : CcfPart) (step : Step T) (old more : List (Step T)) → is_bare tail ≡ false →
      IsStepOf number layers c (name, tail) step →
      more ≡ old ++ step ∷ [] → AddsSteps number layers c (tail_steps name tail) old more
  adds-tail name tail step old more some is pushed = subst (AddsSteps number layers c (tail_steps name tail) old) (sym pushed)
      (subst (λ b. AddsSteps number layers c (cond b [] ((name, tail) ∷ [])) old (old ++ step ∷ [])) (sym some) (adds-one (name, tail) step old is))

  -- the steps of both tails and of the blocks
  pub steps-solved : (last first : CcfPart) (none one two three steps : List (Step T)) → last ≡ c.last → first ≡ c.first → none ≡ [] →
      AddsSteps number layers c (tail_steps Last last) none one → AddsSteps number layers c (block_steps 0 c.blocks) one two →
      AddsSteps number layers c (tail_steps First first) two three → steps ≡ three → AreStepsOf number layers c (solved_parts c) steps
  steps-solved last first none one two three steps is_last is_first empty a b d made =
      let start : AreStepsOf number layers c [] none = subst (AreStepsOf number layers c []) (sym empty) steps-none in
      let all : AreStepsOf number layers c (tail_steps Last last ++ block_steps 0 c.blocks ++ tail_steps First first) three =
      d (tail_steps Last last ++ block_steps 0 c.blocks) (b (tail_steps Last last) (a [] start)) in
      subst (AreStepsOf number layers c (solved_parts c)) (sym made)
      (subst (λ part. AreStepsOf number layers c (tail_steps Last part ++ block_steps 0 c.blocks ++ tail_steps First c.first) three) is_last
      (subst (λ part. AreStepsOf number layers c (tail_steps Last last ++ block_steps 0 c.blocks ++ tail_steps First part) three) is_first all))
