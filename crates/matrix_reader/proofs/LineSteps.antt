-- One line read: an equation line item by item, an `unknown` line name by name.
use Rattle.std.proofs.Common.{◌≡◌, ℕ, ◌+◌, ◌<◌, true, false, cond, List, [], ◌∷◌, ◌++◌, length, map, codes, position}
use Rattle.std.proofs.Common.{Option, Some, None, Result, Ok, Err, refl, sym, ap, subst, ◌∙◌, arith, lt-ltb, le-ltb}
use Rattle.std.proofs.Common.{⊎_elim, length-append, append_assoc}
use Rattle.std.specs.Prelude.{OnOk, IfErr}
use Rattle.std.specs.Str.{bytes_eq}
use Rattle.std.proofs.lemmas.Bool.{cases_lt, cases_eq}
use Rattle.std.proofs.lemmas.List.{append-nil, get_or_append_left, get_or_push, get_or_past}
use Rattle.refusals.specs.declared.Why.{Why}
use Rattle.mixed_model.specs.Names.{see, has_name}
use Rattle.mixed_model.specs.Models.{MixedModel, IsModel, with_unknown}
use Rattle.mixed_model.proofs.NameLaws.{has_name-Some, has_name-None}
use Rattle.matrix_reader.specs.EquationLists.{equation_of, equations_in, names_in, unknowns_in}
use Rattle.matrix_reader.specs.Models.{IsModelOf, LinesGive}
use Rattle.matrix_reader.specs.Rules.{each_rule, name_rule, room_rule, equation_rule, item_rule, unknown_rule, equation_line_rule, unknown_line_rule}
use Rattle.line_reader.specs.Answers.{AnswersRule}
use Rattle.refusals.specs.Faults.{OnBroken}
use Rattle.matrix_reader.specs.ReaderStates.{IsRead, IsWithinLine, SeenFrom, UnseenFrom, AddsEquation, so_far}
use Rattle.refusals.specs.declared.fault.Fault.{Fault}
use Rattle.refusals.specs.declared.fault.Fault.TheVariants.{Broken, NoMemory}
use Rattle.matrix_reader.proofs.LineForms.{name_seen, no_equation, LinesGive-blank, lines_name_only}
use Rattle.matrix_reader.proofs.ModelSteps.{IsModelOf-unknown}
use Rattle.line_reader.proofs.Faults.{answers_same, answers_fault_same}
use Rattle.line_reader.proofs.Rules.{first_broken, first_kept}
use Rattle.matrix_reader.proofs.RuleSteps.{each_more, each_broken}

-- the words of tokens
abbrev pub words : List (ℕ × List ℕ) → List (List ℕ)
words tokens = map (λ token. token.1) tokens

-- within an equation line, after some of its items
pub record ItemsSoFar (p : ℕ) (before : List (List (List ℕ))) (name : List ℕ) (all seen left : List (List ℕ))
    (line : ℕ) (model : MixedModel) (lines : List ℕ) : Type 0 where
  pub within : IsWithinLine p before (so_far name seen) line model lines
  pub rule : each_rule (item_rule p before) (so_far name []) all ≡ each_rule (item_rule p before) (so_far name seen) left

pub ItemsSoFar-more : (p : ℕ) (before : List (List (List ℕ))) (name : List ℕ) (all seen left : List (List ℕ))
    (item : List ℕ) (line : ℕ) (old new : MixedModel) (lines new_lines : List ℕ) → ItemsSoFar p before name all seen
    (item ∷ left) line old lines
    → item_rule p before (so_far name seen) item ≡ None →
    IsWithinLine p before (so_far name (seen ++ item ∷ [])) line new new_lines →
    ItemsSoFar p before name all (seen ++ item ∷ []) left line new new_lines
ItemsSoFar-more p before name all seen left item line old new lines new_lines progress kept after = record {
  within = after;
  rule = each_more (item_rule p before) (so_far name []) (so_far name seen) all left item progress.rule kept;
}

pub ItemsSoFar-broken : (p : ℕ) (before : List (List (List ℕ))) (name : List ℕ) (all seen left : List (List ℕ))
    (item : List ℕ) (line : ℕ) (old : MixedModel) (lines : List ℕ) → ItemsSoFar p before name all seen
    (item ∷ left) line old lines
    → (Left Right : Type 0) (fault : Fault) → AnswersRule (item_rule p before (so_far name seen) item) Left
    (Err fault) → AnswersRule (each_rule (item_rule p before) (so_far name []) all) Right (Err fault)
ItemsSoFar-broken p before name all seen left item line old lines progress Left Right fault answer =
    answers_fault_same (item_rule p before (so_far name seen) item) (each_rule (item_rule p before) (so_far name []) all) Left Right fault
    (λ why broken. each_broken (item_rule p before) (so_far name []) (so_far name seen) all left item why progress.rule broken) answer

pub ItemsSoFar-all : (p : ℕ) (before : List (List (List ℕ))) (name : List ℕ) (all seen : List (List ℕ)) (line : ℕ)
    (model : MixedModel) (lines : List ℕ) → all ≡ seen ++ [] → ItemsSoFar p before name all seen [] line model lines
    → (each_rule (item_rule p before) (so_far name []) all ≡ None) × IsWithinLine p before (so_far name all) line model lines
ItemsSoFar-all p before name all seen line model lines whole progress =
    (progress.rule, subst (λ items. IsWithinLine p before (so_far name items) line model lines) (sym (whole ∙ append-nil seen)) progress.within)

-- within an `unknown` line, after some names and some more
pub record NamesSoFar (p : ℕ) (before : List (List (List ℕ))) (names all seen left : List (List ℕ)) (line : ℕ)
    (model : MixedModel) (lines : List ℕ) : Type 0 where
  pub read : IsRead p (before ++ (codes "unknown" ∷ names ++ seen) ∷ []) (line + 1) model lines
  pub rule : each_rule (unknown_rule before) (codes "unknown" ∷ names) all ≡ each_rule (unknown_rule before) (codes "unknown" ∷ names ++ seen) left

pub NamesSoFar-none : (p : ℕ) (before : List (List (List ℕ))) (names all : List (List ℕ)) (line : ℕ)
    (model : MixedModel) (lines : List ℕ) → IsRead p (before ++ (codes "unknown" ∷ names) ∷ [])
    (line + 1) model lines → NamesSoFar p before names all [] all line model lines
NamesSoFar-none p before names all line model lines read = record {
  read = subst (λ mine. IsRead p (before ++ (codes "unknown" ∷ mine) ∷ []) (line + 1) model lines) (sym (append-nil names)) read;
  rule = ap (λ mine. each_rule (unknown_rule before) (codes "unknown" ∷ mine) all) (sym (append-nil names));
}

pub NamesSoFar-more : (p : ℕ) (before : List (List (List ℕ))) (names all seen left : List (List ℕ)) (name : List ℕ)
    (line : ℕ) (old new : MixedModel) (lines new_lines : List ℕ) → NamesSoFar p before names all seen
    (name ∷ left) line old lines
    → unknown_rule before (codes "unknown" ∷ names ++ seen) name ≡ None →
    IsRead p (before ++ (codes "unknown" ∷ (names ++ seen) ++ name ∷ []) ∷ []) (line + 1) new new_lines →
    NamesSoFar p before names all (seen ++ name ∷ []) left line new new_lines
NamesSoFar-more p before names all seen left name line old new lines new_lines progress kept after =
    let joined = append_assoc names seen (name ∷ []) in
    record {
      read = subst (λ mine. IsRead p (before ++ (codes "unknown" ∷ mine) ∷ []) (line + 1) new new_lines) joined after;
      rule = each_more (unknown_rule before) (codes "unknown" ∷ names) (codes "unknown" ∷ names ++ seen) all left name progress.rule kept
          ∙ ap (λ mine. each_rule (unknown_rule before) (codes "unknown" ∷ mine) left) joined;
    }

pub NamesSoFar-broken : (p : ℕ) (before : List (List (List ℕ))) (names all seen left : List (List ℕ))
    (name : List ℕ) (line : ℕ) (old : MixedModel) (lines : List ℕ) → NamesSoFar p before names all seen
    (name ∷ left) line old lines
    → (Left Right : Type 0) (fault : Fault) → AnswersRule
    (unknown_rule before (codes "unknown" ∷ names ++ seen) name) Left (Err fault) →
    AnswersRule (each_rule (unknown_rule before) (codes "unknown" ∷ names) all) Right (Err fault)
NamesSoFar-broken p before names all seen left name line old lines progress Left Right fault answer =
    answers_fault_same (unknown_rule before (codes "unknown" ∷ names ++ seen) name)
    (each_rule (unknown_rule before) (codes "unknown" ∷ names) all) Left Right fault
    (λ why broken. each_broken (unknown_rule before) (codes "unknown" ∷ names) (codes "unknown" ∷ names ++ seen) all left name why progress.rule broken) answer

pub NamesSoFar-all : (p : ℕ) (before : List (List (List ℕ))) (names all seen : List (List ℕ)) (line : ℕ)
    (model : MixedModel) (lines : List ℕ) → all ≡ seen ++ [] → NamesSoFar p before names all seen [] line model lines
    → (each_rule (unknown_rule before) (codes "unknown" ∷ names) all ≡ None) × IsRead p (before ++ (codes "unknown" ∷ names ++ all) ∷ []) (line + 1) model lines
NamesSoFar-all p before names all seen line model lines whole progress = (
  progress.rule,
  subst (λ mine. IsRead p (before ++ (codes "unknown" ∷ names ++ mine) ∷ [])
      (line + 1) model lines) (sym (whole ∙ append-nil seen)) progress.read,
)

-- a line that gives nothing
pub IsRead-blank : (p : ℕ) (before : List (List (List ℕ))) (line_words : List (List ℕ)) (line : ℕ)
    (model : MixedModel) (lines : List ℕ) → equation_of line_words ≡ [] → names_in line_words ≡ [] →
    IsRead p before line model lines → IsRead p (before ++ line_words ∷ []) (line + 1) model lines
IsRead-blank p before line_words line model lines no_equation no_name read = record {
  gives = LinesGive-blank p before line_words model no_equation no_name read.gives;
  lengths = read.lengths;
  earlier = λ j. omega (arith, read.earlier j);
}

-- one name more of an `unknown` line
module _ (p : ℕ) (before : List (List (List ℕ))) (names : List (List ℕ)) (name : List ℕ) (line : ℕ)
    (old : MixedModel) (old_lines : List ℕ) (read : IsRead p (before ++ (codes "unknown" ∷ names) ∷ [])
    (line + 1) old old_lines) where
  given : (new : MixedModel) → IsModel p new → new.equations ≡ old.equations → new.rows ≡ old.rows →
      new.unknowns ≡ see old.unknowns name → LinesGive p (before ++ (codes "unknown" ∷ names ++ name ∷ []) ∷ []) new
  given new is equations rows seen =
      let lines = before ++ (codes "unknown" ∷ names) ∷ [] in
      subst (λ list. IsModelOf p list (unknowns_in (before ++ (codes "unknown" ∷ names ++ name ∷ []) ∷ [])) new)
      (no_equation before names ∙ sym (no_equation before (names ++ name ∷ [])))
      (subst (λ unknowns. IsModelOf p (equations_in lines) unknowns new) (sym (name_seen before names name))
      (IsModelOf-unknown p (equations_in lines) (unknowns_in lines) name old new read.gives (lines_name_only lines) seen is equations rows))

  pub record Sees (new : MixedModel) (new_lines : List ℕ) : Type 0 where
    pub kept : room_rule (unknowns_in (before ++ (codes "unknown" ∷ names) ∷ [])) name ≡ None
    pub after : IsRead p (before ++ (codes "unknown" ∷ names ++ name ∷ []) ∷ []) (line + 1) new new_lines

  sees_known : has_name old.unknowns name ≡ true → Sees old old_lines
  sees_known there = record {
    kept = ap (λ unknowns. room_rule unknowns name) (sym read.gives.unknowns_are) ∙ rw there refl;
    after = record {
      gives = given old read.gives.is_model refl refl
          (sym (ap (λ b. cond b old.unknowns (old.unknowns ++ name ∷ [])) there));
      lengths = read.lengths;
      earlier =
          read.earlier;
    };
  }

  sees_new : has_name old.unknowns name ≡ false → length old.unknowns < 4096 → IsModel p (with_unknown old name) →
      Sees (with_unknown old name) (old_lines ++ line ∷ [])
  sees_new absent room is = record {
    kept = ap (λ unknowns. room_rule unknowns name) (sym read.gives.unknowns_are) ∙ rw (absent, lt-ltb (length old.unknowns) 4096 room) refl;
    after = record {
      gives = given (with_unknown old name) is refl refl (sym (ap (λ b. cond b old.unknowns (old.unknowns ++ name ∷ [])) absent));
      lengths = length-append old_lines (line ∷ []) ∙ ap (λ n. n + 1) read.lengths ∙ sym (length-append old.unknowns (name ∷ []));
      earlier = λ m. ⊎_elim
          (λ less. omega (arith, get_or_append_left old_lines (line ∷ []) 0 m less, read.earlier m))
          (λ more. ⊎_elim
          (λ last. omega (arith, get_or_push old_lines line 0 m (sym last)))
          (λ past. omega (arith, get_or_past (old_lines ++ line ∷ []) m 0 (omega (arith, length-append old_lines (line ∷ [])))))
          (cases_eq m (length old_lines)))
          (cases_lt m (length old_lines));
    };
  }

  sees : (new : MixedModel) (new_lines : List ℕ) → SeenFrom p (position (bytes_eq name) old.unknowns) line old new old_lines new_lines name → Sees new new_lines
  sees new new_lines seen = by (position (bytes_eq name) old.unknowns) refl seen
    where
      by : (o : Option ℕ) → position (bytes_eq name) old.unknowns ≡ o → SeenFrom p o line old new old_lines new_lines name → Sees new new_lines
      by (Some k) e s = subst (λ model. Sees model new_lines) (sym s.0) (subst (λ lines. Sees old lines) (sym s.1)
          (sees_known (has_name-Some old.unknowns name k e).2))
      by None e s =
          subst (λ model. Sees model new_lines) (sym s.1)
          (subst (λ lines. Sees (with_unknown old name) lines) (sym s.3) (sees_new (has_name-None old.unknowns name e) s.0 (subst (IsModel p) s.1 s.2)))

  unseen_rule : (why : Why) → UnseenFrom (position (bytes_eq name) old.unknowns) old why →
      room_rule (unknowns_in (before ++ (codes "unknown" ∷ names) ∷ [])) name ≡ Some why
  unseen_rule why told = by (position (bytes_eq name) old.unknowns) refl told
    where
      by : (o : Option ℕ) → position (bytes_eq name) old.unknowns ≡ o → UnseenFrom o old why →
          room_rule (unknowns_in (before ++ (codes "unknown" ∷ names) ∷ [])) name ≡ Some why
      by (Some k) e f = absurd f
      by None e (same, full) =
          ap (λ unknowns. room_rule unknowns name) (sym read.gives.unknowns_are)
          ∙ rw (same, has_name-None old.unknowns name e, le-ltb (length old.unknowns) 4096 full) refl

  -- what seeing a name answers, from where it stood
  pub sees_answer : (new : MixedModel) (new_lines : List ℕ) (result : Result (Unit {0}) Fault) → name_rule name ≡ None
      → OnOk result (SeenFrom p (position (bytes_eq name) old.unknowns) line old new old_lines new_lines name)
      → IfErr result (λ fault. OnBroken fault (UnseenFrom (position (bytes_eq name) old.unknowns) old))
      → AnswersRule (unknown_rule before (codes "unknown" ∷ names) name)
      (IsRead p (before ++ (codes "unknown" ∷ names ++ name ∷ []) ∷ []) (line + 1) new new_lines) result
  sees_answer new new_lines (Ok done) right seen unseen =
      let all = sees new new_lines seen in
      (first_kept (name_rule name) _ right ∙ all.kept, all.after)
  sees_answer new new_lines (Err (Broken why)) right seen unseen = first_kept (name_rule name) _ right ∙ unseen_rule why unseen
  sees_answer new new_lines (Err NoMemory) right seen unseen = tt

-- an equation line, from its name and its items
pub equation_answer : (p : ℕ) (before : List (List (List ℕ))) (all items : List (List ℕ)) (name : List ℕ) (line : ℕ)
    (new : MixedModel) (new_lines : List ℕ) (result : Result (Unit {0}) Fault) → all ≡ name ∷ items →
    equation_rule before name ≡ None
    → AnswersRule (each_rule (item_rule p before) (so_far name []) items) (IsWithinLine p before (so_far name items) line new new_lines) result
    → AnswersRule (equation_line_rule p before all) (IsRead p (before ++ (codes "eq" ∷ all) ∷ []) (line + 1) new new_lines) result
equation_answer p before all items name line new new_lines result split kept answer =
    subst (λ line_words. AnswersRule (equation_line_rule p before line_words)
    (IsRead p (before ++ (codes "eq" ∷ line_words) ∷ []) (line + 1) new new_lines) result) (sym split)
    (answers_same (each_rule (item_rule p before) (so_far name []) items)
    (equation_line_rule p before (name ∷ items)) (IsWithinLine p before (so_far name items) line new new_lines)
    (IsRead p (before ++ so_far name items ∷ []) (line + 1) new new_lines) result
    (first_kept (equation_rule before name) (each_rule (item_rule p before) (so_far name []) items) kept) (λ within. within.read) answer)

pub equation_fault : (p : ℕ) (before : List (List (List ℕ))) (all items : List (List ℕ)) (name : List ℕ) (line : ℕ)
    (old new : MixedModel) (lines : List ℕ) (fault : Fault) (Left : Type 0) → all ≡ name ∷ items →
    IsRead p before line old lines
    → AddsEquation p line old new lines name (Err fault) → AnswersRule (equation_line_rule p before all) Left (Err fault)
equation_fault p before all items name line old new lines (Broken why) Left split read added =
    ap (equation_line_rule p before) split ∙ first_broken (equation_rule before name)
    (each_rule (item_rule p before) (so_far name []) items) why (added before read)
equation_fault p before all items name line old new lines NoMemory Left split read added = tt

-- an `unknown` line, from its first name and the others
pub unknowns_answer : (p : ℕ) (before : List (List (List ℕ))) (all more : List (List ℕ)) (name : List ℕ) (line : ℕ)
    (new : MixedModel) (new_lines : List ℕ) (result : Result (Unit {0}) Fault) → all ≡ name ∷ more →
    unknown_rule before (codes "unknown" ∷ []) name ≡ None
    → AnswersRule (each_rule (unknown_rule before) (codes "unknown" ∷ name ∷ []) more)
    (IsRead p (before ++ (codes "unknown" ∷ name ∷ more) ∷ []) (line + 1) new new_lines) result
    → AnswersRule (unknown_line_rule before all) (IsRead p (before ++ (codes "unknown" ∷ all) ∷ []) (line + 1) new new_lines) result
unknowns_answer p before all more name line new new_lines result split kept answer =
    subst (λ line_words. AnswersRule (unknown_line_rule before line_words)
    (IsRead p (before ++ (codes "unknown" ∷ line_words) ∷ []) (line + 1) new new_lines) result) (sym split)
    (answers_same (each_rule (unknown_rule before) (codes "unknown" ∷ name ∷ []) more)
    (unknown_line_rule before (name ∷ more)) (IsRead p (before ++ (codes "unknown" ∷ name ∷ more) ∷ [])
    (line + 1) new new_lines) (IsRead p (before ++ (codes "unknown" ∷ name ∷ more) ∷ [])
    (line + 1) new new_lines) result
    (first_kept (unknown_rule before (codes "unknown" ∷ []) name)
    (each_rule (unknown_rule before) (codes "unknown" ∷ name ∷ []) more) kept) (λ read. read) answer)

pub unknowns_broken : (before : List (List (List ℕ))) (all more : List (List ℕ)) (name : List ℕ) (Left Right : Type 0) (fault : Fault) → all ≡ name ∷ more
    → AnswersRule (unknown_rule before (codes "unknown" ∷ []) name) Left (Err fault) → AnswersRule (unknown_line_rule before all) Right (Err fault)
unknowns_broken before all more name Left Right fault split answer =
    answers_fault_same (unknown_rule before (codes "unknown" ∷ []) name) (unknown_line_rule before all) Left Right fault
    (λ why broken. ap (unknown_line_rule before) split
    ∙ first_broken (unknown_rule before (codes "unknown" ∷ []) name)
    (each_rule (unknown_rule before) (codes "unknown" ∷ name ∷ []) more) why broken) answer

-- an `unknown` line begins with no name
pub IsRead-unknown : (p : ℕ) (before : List (List (List ℕ))) (line : ℕ) (model : MixedModel) (lines : List ℕ) →
    IsRead p before line model lines → IsRead p (before ++ (codes "unknown" ∷ []) ∷ []) (line + 1) model lines
IsRead-unknown p before line model lines read = IsRead-blank p before (codes "unknown" ∷ []) line model lines refl refl read
