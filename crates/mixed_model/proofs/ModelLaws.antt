-- What one changed row leaves of a model.
use Rattle.std.proofs.Common.{◌≡◌, ◌≢◌, ℕ, ◌<◌, Bool, true, false, cond, ◌&&◌, ◌||◌, List, [], ◌∷◌, ◌++◌, ◌+◌, length}
use Rattle.std.proofs.Common.{length-append, map, get_or, set, Some, refl, sym, ap, subst, ◌∙◌, arith, eqb, eqb-true}
use Rattle.std.proofs.Common.{get_or-set_same, get_or-set_other, length-set, Vec, Option, None, unwrap_or, ⊎_elim}
use Rattle.std.proofs.Common.{◌≤◌}
use Rattle.std.specs.Prelude.{All}
use Rattle.std.specs.List.{remove}
use Rattle.std.proofs.lemmas.Bool.{cases_lt, eqb-false}
use Rattle.std.proofs.Math.Seq.{map-set_same}
use Rattle.std.proofs.lemmas.List.{get_or-map, get_or_past, length-map, map-append, map-set, ext_get_or}
use Rattle.std.proofs.lemmas.List.Edits.{length-remove}
use Rattle.std.proofs.lemmas.List.Elements.{All-push, All-set}
use Rattle.mixed_model.proofs.RowLaws.{entry_in-None, entry_in-filled, same_rows}
use Rattle.mixed_model.specs.Entries.{RowEntry}
use Rattle.mixed_model.specs.Names.{IsNameList}
use Rattle.mixed_model.specs.Rows.{IsNotEmpty, IsRow, AreColumnsBelow, entry_in, PutsConstant, PutsSymbol, SetsColumn, ChangesRow}
use Rattle.mixed_model.specs.Rows.{constant_in, symbol_in, constant_at_place, symbol_at_place}
use Rattle.mixed_model.specs.Models.{MixedModel, IsModel, PutsAt, PutsSymbolAt, SetsPlace, constant_at, constant_of, row_of, symbol_of, equation_removed}
use Rattle.mixed_model.proofs.NameLaws.{IsNameList-remove}
use Rattle.mixed_model.proofs.ListLaws.{All-remove, map-remove}

-- rows that are vectors
pub rows_are_rows : {A : Type 0} (p : ℕ) (rows : List (Vec RowEntry A)) (columns : ℕ) →
    All (λ row. IsRow p row × AreColumnsBelow columns row) (map (λ row. row.items) rows) →
    All (λ row. IsRow p row.items) rows
rows_are_rows p rows columns all k d at =
    let within : k < length (map (λ row. row.items) rows) = omega (arith, length-map rows (λ row. row.items)) in
    subst (IsRow p) (get_or-map (λ row. row.items) rows k d [] at) (all k [] within).0

-- a model whose row i is changed to a row
IsModel-changed : (p : ℕ) (model : MixedModel) (rows : List (List RowEntry)) (i : ℕ) (Change : List RowEntry →
    List RowEntry → Type 0) → IsModel p model → i < length model.equations →
    (changes : ChangesRow Change i model.rows rows) → IsRow p changes.row →
    (AreColumnsBelow (length model.unknowns) (get_or model.rows i []) → AreColumnsBelow (length model.unknowns) changes.row) →
    IsModel p (record { equations = model.equations; unknowns = model.unknowns; rows = rows })
IsModel-changed p model rows i Change is equation changes row within =
    let at = is.rows i [] (omega (arith, is.one_row_each)) in
    record {
      equations = is.equations;
      unknowns = is.unknowns;
      one_row_each = ap length changes.rows ∙ length-set model.rows i changes.row ∙ is.one_row_each;
      rows = subst (All (λ row. IsRow p row × AreColumnsBelow (length model.unknowns) row)) (sym changes.rows)
          (All-set (λ row. IsRow p row × AreColumnsBelow (length model.unknowns) row) model.rows i changes.row (row, within at.1) is.rows);
    }

-- a model with one more equation, and nothing in its row
pub IsModel-with_row : {A : Type 0} (p : ℕ) (equations more_equations unknowns : List (List ℕ)) (rows more : List (Vec RowEntry A)) (row : Vec RowEntry A) →
    IsModel p (record { equations = equations; unknowns = unknowns; rows = map (λ row. row.items) rows }) →
    IsNameList more_equations → length more_equations ≡ length equations + 1 →
    more ≡ rows ++ row ∷ [] → row.items ≡ [] → IsModel p (record { equations = more_equations; unknowns = unknowns; rows = map (λ row. row.items) more })
IsModel-with_row {A} p equations more_equations unknowns rows more row is names count pushed empty = record {
  equations = names;
  unknowns = is.unknowns;
  one_row_each = ap length whole ∙ length-append (map (λ row. row.items) rows) ([] ∷ []) ∙ ap (λ n. n + 1) is.one_row_each ∙ sym count;
  rows = subst (All (λ row. IsRow p row × AreColumnsBelow (length unknowns) row)) (sym whole)
      (All-push (λ row. IsRow p row × AreColumnsBelow (length unknowns) row) (map (λ row. row.items) rows) [] is.rows (tt, λ k d short. absurd (omega arith)));
}
  where
    whole : map (λ (row : Vec RowEntry A). row.items) more ≡ map (λ (row : Vec RowEntry A). row.items) rows ++ [] ∷ []
    whole =
        ap (λ rs. map (λ (row : Vec RowEntry A). row.items) rs) pushed ∙ map-append (λ (row : Vec RowEntry A). row.items) rows (row ∷ [])
        ∙ ap (λ items. map (λ (row : Vec RowEntry A). row.items) rows ++ items ∷ []) empty

-- what is told of the places of each row, after one row is changed
told_after : {A : Type 0} (tells : List RowEntry → ℕ → A) (rows : List (List RowEntry)) (i : ℕ)
    (row : List RowEntry) (told : ℕ → A → A) → i < length rows →
    ((c : ℕ) → tells row c ≡ told c (tells (get_or rows i []) c)) → (k c : ℕ) →
    tells (get_or (set rows i row) k []) c ≡ cond (eqb i k) (told c (tells (get_or rows k []) c))
    (tells (get_or rows k []) c)
told_after tells rows i row told within there k c = by (eqb i k) refl
  where
    by : (b : Bool) → eqb i k ≡ b → tells (get_or (set rows i row) k []) c ≡ cond b (told c (tells (get_or rows k []) c)) (tells (get_or rows k []) c)
    by true e =
        let same = eqb-true i k e in
        subst (λ m. tells (get_or (set rows i row) m []) c ≡ told c (tells (get_or rows m []) c)) same
        (ap (λ row. tells row c) (get_or-set_same rows i row [] within) ∙ there c)
    by false e =
        let other : k ≢ i = λ same. eqb-false i k e (sym same) in
        ap (λ row. tells row c) (get_or-set_other rows i k row [] other)

module _ (p : ℕ) (model : MixedModel) (rows : List (List RowEntry)) (i j : ℕ) (is : IsModel p model)
    (equation : i < length model.equations) (unknown : j < length model.unknowns) where
  -- the model with these rows
  abbrev put : MixedModel
  put = record { equations = model.equations; unknowns = model.unknowns; rows = rows }

  within : i < length model.rows
  within = omega (arith, is.one_row_each)

  both_tests : {A : Type 0} (a b : Bool) (x y : A) → cond a (cond b x y) y ≡ cond (a && b) x y
  both_tests true b x y = refl
  both_tests false b x y = refl

  or_tests : (a b c : Bool) → cond a (b || c) c ≡ (a && b || c)
  or_tests true b c = refl
  or_tests false b c = refl

  unchanged : {A : Type 0} (a : Bool) (x : A) → cond a x x ≡ x
  unchanged true x = refl
  unchanged false x = refl

  pub IsModel-put : (constant : ℕ) → ChangesRow (PutsConstant p j constant) i model.rows rows → IsModel p put
  IsModel-put constant puts =
      IsModel-changed p model rows i (PutsConstant p j constant) is equation puts puts.change.row (puts.change.within (length model.unknowns) unknown)

  pub PutsAt-put : (constant : ℕ) → ChangesRow (PutsConstant p j constant) i model.rows rows → PutsAt model put i j constant
  PutsAt-put constant puts = record {
    equations = refl;
    unknowns = refl;
    constants = λ k c.
        ap (λ rs. constant_in (get_or rs k []) c) puts.rows
        ∙ told_after constant_in model.rows i puts.row (λ c old. cond (eqb j c) (Some constant) old) within puts.change.constants k c
        ∙ both_tests (eqb i k) (eqb j c) (Some constant) (constant_in (get_or model.rows k []) c);
    symbols = λ k c.
        ap (λ rs. symbol_in (get_or rs k []) c) puts.rows
        ∙ told_after symbol_in model.rows i puts.row (λ c old. old) within puts.change.symbols k c
        ∙ unchanged (eqb i k) (symbol_in (get_or model.rows k []) c);
  }

  pub IsModel-put_symbol : ChangesRow (PutsSymbol p j) i model.rows rows → IsModel p put
  IsModel-put_symbol puts =
      IsModel-changed p model rows i (PutsSymbol p j) is equation puts puts.change.row (puts.change.within (length model.unknowns) unknown)

  pub PutsSymbolAt-put : ChangesRow (PutsSymbol p j) i model.rows rows → PutsSymbolAt model put i j
  PutsSymbolAt-put puts = record {
    equations = refl;
    unknowns = refl;
    constants = λ k c.
        ap (λ rs. constant_in (get_or rs k []) c) puts.rows
        ∙ told_after constant_in model.rows i puts.row (λ c old. old) within puts.change.constants k c
        ∙ unchanged (eqb i k) (constant_in (get_or model.rows k []) c);
    symbols = λ k c.
        ap (λ rs. symbol_in (get_or rs k []) c) puts.rows
        ∙ told_after symbol_in model.rows i puts.row (λ c old. eqb j c || old) within puts.change.symbols k c
        ∙ or_tests (eqb i k) (eqb j c) (symbol_in (get_or model.rows k []) c);
  }

  pub IsModel-set : (constant : Option ℕ) (symbol : Bool) → ChangesRow (SetsColumn p j constant symbol) i model.rows rows → IsModel p put
  IsModel-set constant symbol sets =
      IsModel-changed p model rows i (SetsColumn p j constant symbol) is equation sets sets.change.row (sets.change.within (length model.unknowns) unknown)

  pub SetsPlace-set : (constant : Option ℕ) (symbol : Bool) → ChangesRow (SetsColumn p j constant symbol) i model.rows rows →
      SetsPlace model put i j constant symbol
  SetsPlace-set constant symbol sets = record {
    equations = refl;
    unknowns = refl;
    constants = λ k c.
        ap (λ rs. constant_in (get_or rs k []) c) sets.rows
        ∙ told_after constant_in model.rows i sets.row (λ c old. cond (eqb j c) constant old) within sets.change.constants k c
        ∙ both_tests (eqb i k) (eqb j c) constant (constant_in (get_or model.rows k []) c);
    symbols = λ k c.
        ap (λ rs. symbol_in (get_or rs k []) c) sets.rows
        ∙ told_after symbol_in model.rows i sets.row (λ c old. cond (eqb j c) symbol old) within sets.change.symbols k c
        ∙ both_tests (eqb i k) (eqb j c) symbol (symbol_in (get_or model.rows k []) c);
  }

-- a model without one of its equations
pub IsModel-equation_removed : (p : ℕ) (model : MixedModel) (i : ℕ) → IsModel p model → i < length model.equations → IsModel p (equation_removed model i)
IsModel-equation_removed p model i is within =
    let at : i < length model.rows = omega (arith, within, is.one_row_each) in
    record {
      equations = IsNameList-remove model.equations i is.equations within;
      unknowns = is.unknowns;
      one_row_each = omega (arith, is.one_row_each, length-remove model.equations i within, length-remove model.rows i at);
      rows = All-remove (λ row. IsRow p row × AreColumnsBelow (length model.unknowns) row) model.rows i at is.rows;
    }

-- and its data
pub model_without : {A : Type 0} (equations left unknowns : List (List ℕ)) (rows rest : List (Vec RowEntry A)) (i : ℕ) →
    left ≡ remove equations i → rest ≡ remove rows i →
    equation_removed (record { equations = equations; unknowns = unknowns; rows = map (λ row. row.items) rows }) i
    ≡ record { equations = left; unknowns = unknowns; rows = map (λ row. row.items) rest }
model_without {A} equations left unknowns rows rest i names others =
    λ k. record { equations = sym names k; unknowns = unknowns; rows = same k }
  where
    same : remove (map (λ (row : Vec RowEntry A). row.items) rows) i ≡ map (λ (row : Vec RowEntry A). row.items) rest
    same = sym (ap (map (λ (row : Vec RowEntry A). row.items)) others ∙ map-remove (λ (row : Vec RowEntry A). row.items) rows i)

-- one of several vectors is changed
pub ChangesRow-set : {A : Type 0} (Change : List RowEntry → List RowEntry → Type 0) (rows : List (Vec RowEntry A))
    (i : ℕ) (old new : Vec RowEntry A) → i < length rows → old ≡ get_or rows i old → Change old.items new.items →
    ChangesRow Change i (map (λ row. row.items) rows) (map (λ row. row.items) (set rows i new))
ChangesRow-set Change rows i old new within is change = record {
  row = new.items;
  change = subst (λ row. Change row new.items) (ap (λ row. row.items) is ∙ sym (get_or-map (λ row. row.items) rows i old [] within)) change;
  rows = map-set (λ row. row.items) rows i new;
}

-- or keeps its items
pub rows_kept : {A : Type 0} (rows : List (Vec RowEntry A)) (i : ℕ) (old new : Vec RowEntry A) →
    old ≡ get_or rows i old → new.items ≡ old.items → map (λ row. row.items) (set rows i new) ≡ map
    (λ row. row.items) rows
rows_kept rows i old new is same = map-set_same (λ row. row.items) rows i new old (same ∙ ap (λ row. row.items) is)

-- nothing stands at a column past the unknowns
pub beyond_unknowns : (columns : ℕ) (row : List RowEntry) (j : ℕ) → AreColumnsBelow columns row → columns ≤ j → (constant_in row j ≡ None) ×
    (symbol_in row j ≡ false)
beyond_unknowns columns row j within beyond =
    let none = entry_in-None row j (λ k d at same. omega (arith, within k d at, same)) in
    (ap constant_at_place none, ap symbol_at_place none)

-- models with the same names, constants and symbols are the same
pub same_models : (p : ℕ) (a b : MixedModel) → IsModel p a → IsModel p b → a.equations ≡ b.equations →
    a.unknowns ≡ b.unknowns → ((i j : ℕ) → i < length a.equations → j < length a.unknowns →
    constant_of a i j ≡ constant_of b i j) → ((i j : ℕ) → i < length a.equations → j < length a.unknowns →
    symbol_of a i j ≡ symbol_of b i j) → a ≡ b
same_models p a b is_a is_b equations unknowns constants symbols = λ i. record { equations = equations i; unknowns = unknowns i; rows = rows i }
  where
    rows : a.rows ≡ b.rows
    rows = ext_get_or [] a.rows b.rows (is_a.one_row_each ∙ ap length equations ∙ sym is_b.one_row_each) (λ k at.
        let here = is_a.rows k [] at in
        let there = is_b.rows k [] (omega (arith, is_a.one_row_each, is_b.one_row_each, ap length equations)) in
        let past : (j : ℕ) → length a.unknowns ≤ j → length b.unknowns ≤ j = λ j beyond. omega (arith, ap length unknowns) in
        let equation : k < length a.equations = omega (arith, is_a.one_row_each) in
        same_rows p (get_or a.rows k []) (get_or b.rows k []) here.0 there.0
        (λ j. ⊎_elim
        (λ within. constants k j equation within)
        (λ beyond.
        (beyond_unknowns (length a.unknowns) (get_or a.rows k []) j here.1 beyond).0
        ∙ sym (beyond_unknowns (length b.unknowns) (get_or b.rows k []) j there.1 (past j beyond)).0)
        (cases_lt j (length a.unknowns)))
        (λ j. ⊎_elim
        (λ within. symbols k j equation within)
        (λ beyond.
        (beyond_unknowns (length a.unknowns) (get_or a.rows k []) j here.1 beyond).1
        ∙ sym (beyond_unknowns (length b.unknowns) (get_or b.rows k []) j there.1 (past j beyond)).1)
        (cases_lt j (length a.unknowns))))

-- a constant that is 0 is none
no_zero : (p : ℕ) (entry : RowEntry) → IsNotEmpty p entry → unwrap_or entry.constant 0 ≡ 0 → entry.constant ≡ None
no_zero p entry filled zero_there = by entry.constant refl
  where
    by : (found : Option ℕ) → entry.constant ≡ found → entry.constant ≡ None
    by None e = e
    by (Some constant) e =
        let same : constant ≡ 0 = sym (ap (λ o. unwrap_or o 0) e) ∙ zero_there in
        absurd (omega (arith, filled.positive constant e, same))

pub constant_of-None : (p : ℕ) (model : MixedModel) → IsModel p model → (i j : ℕ) → constant_at model i j ≡ 0 → constant_of model i j ≡ None
constant_of-None p model is i j zero_there = by (entry_in (row_of model i) j) refl
  where
    by : (found : Option RowEntry) → entry_in (row_of model i) j ≡ found → constant_of model i j ≡ None
    by None e = ap constant_at_place e
    by (Some entry) e = ⊎_elim
        (λ within.
        let filled = entry_in-filled p 0 (row_of model i) (is.rows i [] within).0 j entry e in
        ap constant_at_place e ∙ no_zero p entry filled (sym (ap (λ o. unwrap_or (constant_at_place o) 0) e) ∙ zero_there))
        (λ past. ap (λ row. constant_in row j) (get_or_past model.rows i [] past))
        (cases_lt i (length model.rows))

-- constants are the same where they are, 0 for none
pub same_constant : (p : ℕ) (a b : MixedModel) → IsModel p a → IsModel p b → (i j : ℕ) →
    constant_at a i j ≡ constant_at b i j → constant_of a i j ≡ constant_of b i j
same_constant p a b is_a is_b i j same = by (constant_of a i j) refl (constant_of b i j) refl
  where
    by : (x : Option ℕ) → constant_of a i j ≡ x → (y : Option ℕ) → constant_of b i j ≡ y → constant_of a i j ≡ constant_of b i j
    by None e y f = e ∙ sym (constant_of-None p b is_b i j (sym same ∙ ap (λ o. unwrap_or o 0) e))
    by (Some x) e None f = constant_of-None p a is_a i j (same ∙ ap (λ o. unwrap_or o 0) f) ∙ sym f
    by (Some x) e (Some y) f = e ∙ ap Some (sym (ap (λ o. unwrap_or o 0) e) ∙ same ∙ ap (λ o. unwrap_or o 0) f) ∙ sym f

-- models with the same names, and the same constants and symbols, are the same
pub models_told : (p : ℕ) (a b : MixedModel) → IsModel p a → IsModel p b → a.equations ≡ b.equations →
    a.unknowns ≡ b.unknowns → ((i j : ℕ) → i < length a.equations → j < length a.unknowns →
    constant_at a i j ≡ constant_at b i j) → ((i j : ℕ) → i < length a.equations → j < length a.unknowns →
    symbol_of a i j ≡ symbol_of b i j) → a ≡ b
models_told p a b is_a is_b equations unknowns constants symbols =
    same_models p a b is_a is_b equations unknowns (λ i j at col. same_constant p a b is_a is_b i j (constants i j at col)) symbols
