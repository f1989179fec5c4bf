-- One item read: what it leaves, and why it is not read.
use Rattle.std.proofs.Common.{◌≡◌, ℕ, ◌<◌, Bool, true, false, cond, not, ◌&&◌, ◌||◌, List, [], ◌∷◌, ◌++◌, length, map}
use Rattle.std.proofs.Common.{get_or, position, Option, Some, None, Err, unwrap_or, refl, sym, ap, subst, ◌∙◌, arith}
use Rattle.std.proofs.Common.{eqb, eqb-true}
use Rattle.std.specs.Str.{bytes_eq}
use Rattle.refusals.specs.declared.Why.{Why}
use Rattle.mixed_model.specs.declared.errors.AddError.{AddError}
use Rattle.mixed_model.specs.declared.errors.AddError.TheVariants.{NoMemory as OutOfMemory}
use Rattle.mixed_model.specs.Names.{has_name}
use Rattle.mixed_model.specs.Models.{MixedModel, IsModel, constant_of, constant_at, symbol_of}
use Rattle.matrix_reader.specs.Items.{unknown_of, item_constant, item_symbol}
use Rattle.matrix_reader.specs.EquationLists.{equations_in, unknowns_in}
use Rattle.mixed_model.specs.Faults.{fault_of}
use Rattle.matrix_reader.specs.Models.{IsModelOf, LinesGive}
use Rattle.matrix_reader.specs.Rules.{term_rule, place_rule, item_rule}
use Rattle.line_reader.specs.Answers.{AnswersRule}
use Rattle.matrix_reader.specs.ReaderStates.{IsWithinLine, UnmarkedFrom, PutsValue, so_far}
use Rattle.matrix_reader.proofs.LineForms.{equation_last, item_seen, lines_name_only}
use Rattle.matrix_reader.proofs.MarkLaws.{Marks, marked_rule, unmarked_rule}
use Rattle.line_reader.proofs.Rules.{first_kept}
use Rattle.matrix_reader.proofs.ModelSteps.{NamesOnly, IsModelOf-item, constant_of-fresh, symbol_of-fresh}

-- what stands at a place, where it is this one
at_place : {A : Type 0} (stands : ℕ → ℕ → A) (i k j c : ℕ) → (eqb i k && eqb j c) ≡ true → stands k c ≡ stands i j
at_place stands i k j c here = by (eqb i k) refl (eqb j c) refl here
  where
    by : (a : Bool) → eqb i k ≡ a → (b : Bool) → eqb j c ≡ b → (a && b) ≡ true → stands k c ≡ stands i j
    by true p true q e = ap (λ n. stands n c) (sym (eqb-true i k p)) ∙ ap (stands i) (sym (eqb-true j c q))
    by true p false q e = let f : ⊥ = cc in absurd f
    by false p b q e = let f : ⊥ = cc in absurd f

-- a constant put where none was, unless it is 0
constant_there : (constant : ℕ) (here : Bool) (was : Option ℕ) → (here ≡ true → was ≡ None) →
    unwrap_or (cond (not (eqb constant 0) && here) (Some constant) was) 0 ≡ cond here constant (unwrap_or was 0)
constant_there constant here was fresh = by (eqb constant 0) refl here fresh
  where
    by : (none : Bool) → eqb constant 0 ≡ none → (here : Bool) → (here ≡ true → was ≡ None) →
        unwrap_or (cond (not none && here) (Some constant) was) 0 ≡ cond here constant (unwrap_or was 0)
    by true e true fresh = ap (λ o. unwrap_or o 0) (fresh refl) ∙ sym (eqb-true constant 0 e)
    by true e false fresh = refl
    by false e true fresh = refl
    by false e false fresh = refl

-- and a symbol where it is one
symbol_there : (symbol here was : Bool) → (here ≡ true → was ≡ false) → (symbol && here || was) ≡ cond here symbol was
symbol_there true true was fresh = refl
symbol_there true false was fresh = refl
symbol_there false true was fresh = fresh refl
symbol_there false false was fresh = refl

module _ (p : ℕ) (before : List (List (List ℕ))) (name : List ℕ) (items : List (List ℕ)) (line : ℕ)
    (old : MixedModel) (old_lines : List ℕ) (item : List ℕ)
    (at_line : IsWithinLine p before (so_far name items) line old old_lines) where
  -- an item whose unknown can't be marked
  pub unmarked_item : (why : Why) → term_rule p item ≡ None →
      UnmarkedFrom (position (bytes_eq (unknown_of item)) old.unknowns) line old old_lines why →
      item_rule p before (so_far name items) item ≡ Some why
  unmarked_item why kept told =
      first_kept (term_rule p item) (place_rule before (so_far name items) (unknown_of item)) kept
      ∙ unmarked_rule p before name items line old old_lines item at_line why told

  gives_last : IsModelOf p (equations_in before ++ record { name = name; items = items } ∷ []) (unknowns_in (before ++ so_far name items ∷ [])) old
  gives_last = subst (λ list. IsModelOf p list (unknowns_in (before ++ so_far name items ∷ [])) old) (equation_last before name items) at_line.read.gives

  only_last : NamesOnly (equations_in before ++ record { name = name; items = items } ∷ []) (unknowns_in (before ++ so_far name items ∷ []))
  only_last = subst (λ list. NamesOnly list (unknowns_in (before ++ so_far name items ∷ [])))
      (equation_last before name items) (lines_name_only (before ++ so_far name items ∷ []))

  module _ (new : MixedModel) (new_lines : List ℕ) (j : ℕ) (marks : Marks p before name items line old new new_lines item j) where
    -- a marked item keeps its rule
    pub marked_item : term_rule p item ≡ None → item_rule p before (so_far name items) item ≡ None
    marked_item kept =
        first_kept (term_rule p item) (place_rule before (so_far name items) (unknown_of item)) kept
        ∙ marked_rule p before name items line old old_lines item at_line new new_lines j marks

    constants_stay : (i c : ℕ) → constant_of new i c ≡ constant_of old i c
    constants_stay i c = ap (λ rows. constant_of (record { equations = old.equations; unknowns = old.unknowns; rows = rows }) i c) marks.rows

    symbols_stay : (i c : ℕ) → symbol_of new i c ≡ symbol_of old i c
    symbols_stay i c = ap (λ rows. symbol_of (record { equations = old.equations; unknowns = old.unknowns; rows = rows }) i c) marks.rows

    -- nothing stands at its place
    pub no_constant : constant_of new (length (equations_in before)) j ≡ None
    no_constant = constants_stay (length (equations_in before)) j
        ∙ constant_of-fresh p (equations_in before)
        (unknowns_in (before ++ so_far name items ∷ [])) name items item old new j gives_last only_last marks.fresh
        marks.is_model marks.equations marks.unknowns marks.within marks.place

    pub no_symbol : symbol_of new (length (equations_in before)) j ≡ false
    no_symbol = symbols_stay (length (equations_in before)) j
        ∙ symbol_of-fresh p (equations_in before) (unknowns_in
        (before ++ so_far name items ∷ [])) name items item old new j gives_last only_last marks.fresh marks.is_model
        marks.equations marks.unknowns marks.within marks.place

    grown : (last : MixedModel) → IsModel p last → last.equations ≡ new.equations → last.unknowns ≡ new.unknowns
        → ((i c : ℕ) → constant_at last i c ≡ cond (eqb (length (equations_in before)) i && eqb j c) (item_constant p item) (constant_at old i c))
        → ((i c : ℕ) → symbol_of last i c ≡ cond (eqb (length (equations_in before)) i && eqb j c) (item_symbol item) (symbol_of old i c))
        → IsWithinLine p before (so_far name (items ++ item ∷ [])) line last new_lines
    grown last is equations unknowns constants symbols =
        let gives : LinesGive p (before ++ so_far name (items ++ item ∷ []) ∷ []) last =
        subst (λ list. IsModelOf p list (unknowns_in (before ++ so_far name (items ++ item ∷ []) ∷ [])) last)
        (sym (equation_last before name (items ++ item ∷ [])))
        (subst (λ names. IsModelOf p (equations_in before ++ record {
          name = name;
          items =
              items ++ item ∷ [];
        } ∷ []) names last) (sym (item_seen before name items item))
        (IsModelOf-item p (equations_in before) (unknowns_in
        (before ++ so_far name items ∷ [])) name items item old last j gives_last only_last marks.fresh is
        (equations ∙ marks.equations) (unknowns ∙ marks.unknowns)
        (subst (λ names. j < length names) (sym unknowns) marks.within) (ap (λ names. get_or names j []) unknowns ∙ marks.place) constants symbols)) in
        record {
          read = record { gives = gives; lengths = marks.lengths ∙ ap length (sym unknowns); earlier = marks.earlier };
          marks = λ k within. marks.marks k (omega (arith, ap length unknowns))
              ∙ ap (λ names. has_name (map unknown_of (items ++ item ∷ [])) (get_or names k [])) (sym unknowns);
        }

    -- an item whose value is put at its place
    pub grown_by_value : (last : MixedModel) → PutsValue p new last (length (equations_in before)) j
        (item_constant p item) (item_symbol item) →
        IsWithinLine p before (so_far name (items ++ item ∷ [])) line last new_lines
    grown_by_value last puts = grown last (puts.is_model marks.is_model) puts.equations puts.unknowns
        (λ i c. ap (λ o. unwrap_or o 0) (puts.constants i c)
        ∙ constant_there (item_constant p item) (eqb (length (equations_in before)) i && eqb j c) (constant_of new i c)
        (λ here. at_place (constant_of new) (length (equations_in before)) i j c here ∙ no_constant)
        ∙ ap (λ o. cond (eqb (length (equations_in before)) i && eqb j c) (item_constant p item) (unwrap_or o 0)) (constants_stay i c))
        (λ i c. puts.symbols i c
        ∙ symbol_there (item_symbol item) (eqb (length (equations_in before)) i && eqb j c) (symbol_of new i c)
        (λ here. at_place (symbol_of new) (length (equations_in before)) i j c here ∙ no_symbol)
        ∙ ap (cond (eqb (length (equations_in before)) i && eqb j c) (item_symbol item)) (symbols_stay i c))

    -- putting it is refused for want of memory alone
    pub put_refused : (error : AddError) (rule : Option Why) (Left : Type 0) →
        (constant_of new (length (equations_in before)) j ≡ None →
        symbol_of new (length (equations_in before)) j ≡ false → error ≡ OutOfMemory) →
        AnswersRule rule Left (Err (fault_of error))
    put_refused error rule Left told = subst (λ e. AnswersRule rule Left (Err (fault_of e))) (sym (told no_constant no_symbol)) tt
