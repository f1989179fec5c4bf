-- How the model of some equations and unknowns grows: by an equation, by an unknown, and by an item of the last
-- equation.
use Rattle.std.proofs.Common.{◌≡◌, ◌≢◌, ℕ, ◌<◌, ◌≤◌, Bool, true, false, cond, ◌&&◌, List, [], ◌∷◌, ◌++◌, length, map}
use Rattle.std.proofs.Common.{get_or, None, unwrap_or, refl, sym, ap, subst, ◌∙◌, arith, eqb, eqb-true, ⊎_elim}
use Rattle.std.proofs.Common.{length-append}
use Rattle.std.specs.Str.{bytes_eq}
use Rattle.std.proofs.lemmas.Bool.{cases_lt, eqb-false}
use Rattle.std.proofs.lemmas.List.{map-append, get_or_append_left, get_or_push, length-map}
use Rattle.mixed_model.specs.Names.{see, has_name}
use Rattle.mixed_model.specs.Models.{MixedModel, IsModel, row_of, constant_of, constant_at, symbol_of, with_equation}
use Rattle.mixed_model.specs.Rows.{constant_in, symbol_in}
use Rattle.mixed_model.proofs.ModelLaws.{constant_of-None}
use Rattle.mixed_model.proofs.NameLaws.{names_apart}
use Rattle.term_model.proofs.Growing.{entry-beyond}
use Rattle.matrix_reader.specs.Items.{unknown_of, item_constant, item_symbol}
use Rattle.matrix_reader.specs.EquationLists.{Equation}
use Rattle.matrix_reader.specs.Models.{IsModelOf, items_at}
use Rattle.matrix_reader.proofs.SaidLaws.{Reading, constants, symbols, items_at-before, items_at-last}

-- the items of equations name unknowns of this list alone
pub NamesOnly : List Equation → List (List ℕ) → Type 0
NamesOnly list unknowns = (i : ℕ) (unknown : List ℕ) → has_name unknowns unknown ≡ false → has_name (map unknown_of (items_at list i)) unknown ≡ false

pub NamesOnly-from : (list : List Equation) (unknowns : List (List ℕ)) →
    ((i : ℕ) (unknown : List ℕ) → has_name unknowns unknown ≡ false →
    has_name (map unknown_of (items_at list i)) unknown ≡ false) → NamesOnly list unknowns
unfolding NamesOnly
NamesOnly-from list unknowns only = only

pub NamesOnly-at : (list : List Equation) (unknowns : List (List ℕ)) → NamesOnly list unknowns →
    (i : ℕ) (unknown : List ℕ) → has_name unknowns unknown ≡ false →
    has_name (map unknown_of (items_at list i)) unknown ≡ false
unfolding NamesOnly
NamesOnly-at list unknowns only = only

-- each place tells what the equation's items say of the unknown
abbrev pub PlacesAre : {A : Type 0} → Reading A → List Equation → MixedModel → Type 0
PlacesAre reading list model = (i j : ℕ) → i < length list → j < length model.unknowns
    → reading.tells (row_of model i) j ≡ reading.says (items_at list i) (get_or model.unknowns j [])

-- a new equation, without items
places-equation : {A : Type 0} (reading : Reading A) (list : List Equation) (model : MixedModel) (name : List ℕ) →
    length model.rows ≡ length list → PlacesAre reading list model →
    PlacesAre reading (list ++ record { name = name; items = [] } ∷ []) (with_equation model name)
places-equation reading list model name counted places i j at col = ⊎_elim
    (λ before.
    ap (λ row. reading.tells row j) (get_or_append_left model.rows ([] ∷ []) [] i (omega (arith, counted)))
    ∙ places i j before col
    ∙ ap (λ items. reading.says items (get_or model.unknowns j [])) (sym (items_at-before list (record { name = name; items = [] }) i before)))
    (λ last.
    let is_last : length list ≡ i = omega (arith, length-append list (record { name = name; items = [] } ∷ [])) in
    ap (λ row. reading.tells row j) (get_or_push model.rows [] [] i (counted ∙ is_last))
    ∙ reading.empty [] j refl
    ∙ sym (reading.absent [] (get_or model.unknowns j []) refl)
    ∙ ap (λ items. reading.says items (get_or model.unknowns j [])) (sym (items_at-last list (record { name = name; items = [] }) i is_last)))
    (cases_lt i (length list))

pub IsModelOf-equation : (p : ℕ) (list : List Equation) (unknowns : List (List ℕ)) (model : MixedModel)
    (name : List ℕ) → IsModelOf p list unknowns model → IsModel p (with_equation model name) →
    IsModelOf p (list ++ record { name = name; items = [] } ∷ []) unknowns (with_equation model name)
IsModelOf-equation p list unknowns model name gives is = record {
  is_model = is;
  equations_are = ap (λ names. names ++ name ∷ []) gives.equations_are ∙ sym (map-append (λ e. e.name) list (record { name = name; items = [] } ∷ []));
  unknowns_are = gives.unknowns_are;
  constants_are = places-equation (constants p) list model name rows_counted gives.constants_are;
  symbols_are = places-equation symbols list model name rows_counted gives.symbols_are;
}
  where
    rows_counted : length model.rows ≡ length list
    rows_counted = gives.is_model.one_row_each ∙ ap length gives.equations_are ∙ length-map list (λ (e : Equation). e.name)

-- a name is seen by a model
module _ (p : ℕ) (list : List Equation) (unknowns : List (List ℕ)) (name : List ℕ) (old new : MixedModel)
    (gives : IsModelOf p list unknowns old)
    (only : NamesOnly list unknowns)
    (seen : new.unknowns ≡ see old.unknowns name) where
  -- a column that was there before is the same
  stays : (c : ℕ) → c < length old.unknowns → get_or new.unknowns c [] ≡ get_or old.unknowns c []
  stays c before = ap (λ names. get_or names c []) seen ∙ by (has_name old.unknowns name)
    where
      by : (b : Bool) → get_or (cond b old.unknowns (old.unknowns ++ name ∷ [])) c [] ≡ get_or old.unknowns c []
      by true = refl
      by false = get_or_append_left old.unknowns (name ∷ []) [] c before

  -- the old model tells of each unknown what the items say, of the new one too
  said_before : {A : Type 0} (reading : Reading A) → PlacesAre reading list old → (i c : ℕ) → i < length list →
      c < length new.unknowns → reading.tells (row_of old i) c ≡ reading.says (items_at list i)
      (get_or new.unknowns c [])
  said_before reading places i c at col = ⊎_elim
      (λ before. places i c at before ∙ ap (reading.says (items_at list i)) (sym (stays c before)))
      (λ beyond. reading.empty (row_of old i) c (entry-beyond p old gives.is_model i c beyond) ∙ sym (by (has_name old.unknowns name) refl beyond))
      (cases_lt c (length old.unknowns))
    where
      by : (b : Bool) → has_name old.unknowns name ≡ b → length old.unknowns ≤ c → reading.says (items_at list i) (get_or new.unknowns c []) ≡ reading.nothing
      by true e beyond =
          let same : new.unknowns ≡ old.unknowns = seen ∙ ap (λ b. cond b old.unknowns (old.unknowns ++ name ∷ [])) e in
          absurd (omega (arith, ap length same))
      by false e beyond =
          let more : new.unknowns ≡ old.unknowns ++ name ∷ [] = seen ∙ ap (λ b. cond b old.unknowns (old.unknowns ++ name ∷ [])) e in
          let last : length old.unknowns ≡ c = omega (arith, ap length more, length-append old.unknowns (name ∷ [])) in
          let unseen : has_name unknowns name ≡ false = subst (λ names. has_name names name ≡ false) gives.unknowns_are e in
          ap (reading.says (items_at list i)) (ap (λ names. get_or names c []) more ∙ get_or_push old.unknowns name [] c last)
          ∙ reading.absent (items_at list i) name (NamesOnly-at list unknowns only i name unseen)

  -- an unknown, and nothing else
  pub IsModelOf-unknown : IsModel p new → new.equations ≡ old.equations → new.rows ≡ old.rows → IsModelOf p list (see unknowns name) new
  IsModelOf-unknown is equations rows = record {
    is_model = is;
    equations_are = equations ∙ gives.equations_are;
    unknowns_are = seen ∙ ap (λ names. see names name) gives.unknowns_are;
    constants_are = λ i c at col. ap (λ all. unwrap_or (constant_in (get_or all i []) c) 0) rows ∙ said_before (constants p) gives.constants_are i c at col;
    symbols_are = λ i c at col. ap (λ all. symbol_in (get_or all i []) c) rows ∙ said_before symbols gives.symbols_are i c at col;
  }

module _ (p : ℕ) (list : List Equation) (unknowns : List (List ℕ)) (name : List ℕ) (items : List (List ℕ)) (item : List ℕ) (old new : MixedModel) (j : ℕ)
    (gives : IsModelOf p (list ++ record { name = name; items = items } ∷ []) unknowns old)
    (only : NamesOnly (list ++ record { name = name; items = items } ∷ []) unknowns)
    (fresh : has_name (map unknown_of items) (unknown_of item) ≡ false)
    (is : IsModel p new)
    (equations : new.equations ≡ old.equations)
    (seen : new.unknowns ≡ see old.unknowns (unknown_of item))
    (within : j < length new.unknowns)
    (place : get_or new.unknowns j [] ≡ unknown_of item) where
  abbrev so_far : Equation
  so_far = record { name = name; items = items }

  abbrev with_item : Equation
  with_item = record { name = name; items = items ++ item ∷ [] }

  -- before the item
  said_now : {A : Type 0} (reading : Reading A) → PlacesAre reading (list ++ so_far ∷ []) old → (i c : ℕ) →
      i < length (list ++ so_far ∷ []) → c < length new.unknowns → reading.tells (row_of old i) c ≡ reading.says
      (items_at (list ++ so_far ∷ []) i) (get_or new.unknowns c [])
  said_now reading places i c at col = said_before p (list ++ so_far ∷ []) unknowns (unknown_of item) old new gives only seen reading places i c at col

  -- after the item, where what it gives stands at its place
  said_after : {A : Type 0} (reading : Reading A) → PlacesAre reading (list ++ so_far ∷ []) old → (i c : ℕ) →
      i < length (list ++ so_far ∷ []) → c < length new.unknowns
      → cond (eqb (length list) i && eqb j c) (reading.gives item) (reading.tells (row_of old i) c) ≡ reading.says
      (items_at (list ++ with_item ∷ []) i) (get_or new.unknowns c [])
  said_after reading places i c at col = by (eqb (length list) i) refl (eqb j c) refl
    where
      by : (a : Bool) → eqb (length list) i ≡ a → (b : Bool) → eqb j c ≡ b → cond (eqb (length list) i && eqb j c)
          (reading.gives item) (reading.tells (row_of old i) c) ≡ reading.says (items_at (list ++ with_item ∷ []) i)
          (get_or new.unknowns c [])
      by false p b q =
          let other : i < length list = omega (arith, eqb-false (length list) i p, length-append list (so_far ∷ [])) in
          rw p (said_now reading places i c at col ∙ ap (λ said. reading.says said (get_or new.unknowns c []))
          (items_at-before list so_far i other ∙ sym (items_at-before list with_item i other)))
      by true p true q =
          let last : length list ≡ i = eqb-true (length list) i p in
          let here : get_or new.unknowns c [] ≡ unknown_of item = subst (λ k. get_or new.unknowns k [] ≡ unknown_of item) (eqb-true j c q) place in
          rw (p, q) (sym
          (ap (λ said. reading.says said (get_or new.unknowns c [])) (items_at-last list with_item i last)
          ∙ ap (reading.says (items ++ item ∷ [])) here
          ∙ reading.named items item fresh))
      by true p false q =
          let last : length list ≡ i = eqb-true (length list) i p in
          let differs : c ≢ j = λ same. eqb-false j c q (sym same) in
          let apart : bytes_eq (get_or new.unknowns c []) (unknown_of item) ≡ false =
          subst (λ unknown. bytes_eq (get_or new.unknowns c []) unknown ≡ false) place (names_apart new.unknowns c j is.unknowns.distinct differs col within) in
          rw (p, q)
          (said_now reading places i c at col
          ∙ ap (λ said. reading.says said (get_or new.unknowns c [])) (items_at-last list so_far i last)
          ∙ sym (ap (λ said. reading.says said (get_or new.unknowns c [])) (items_at-last list with_item i last)
          ∙ reading.other items item (get_or new.unknowns c []) apart))

  -- the place of the item after it
  after_item : {A : Type 0} (reading : Reading A) → PlacesAre reading (list ++ so_far ∷ []) old
      → ((i c : ℕ) → reading.tells (row_of new i) c ≡ cond (eqb (length list) i && eqb j c) (reading.gives item) (reading.tells (row_of old i) c))
      → PlacesAre reading (list ++ with_item ∷ []) new
  after_item reading places told i c at col =
      let here : i < length (list ++ so_far ∷ []) = omega (arith, length-append list (so_far ∷ []), length-append list (with_item ∷ [])) in
      told i c ∙ said_after reading places i c here col

  -- an item whose constant and symbol stand at its place
  pub IsModelOf-item : ((i c : ℕ) → constant_at new i c ≡ cond (eqb (length list) i && eqb j c) (item_constant p item) (constant_at old i c))
      → ((i c : ℕ) → symbol_of new i c ≡ cond (eqb (length list) i && eqb j c) (item_symbol item) (symbol_of old i c))
      → IsModelOf p (list ++ with_item ∷ []) (see unknowns (unknown_of item)) new
  IsModelOf-item constants_now symbols_now = record {
    is_model = is;
    equations_are = equations ∙ gives.equations_are ∙ map-append (λ e. e.name) list (so_far ∷ []) ∙ sym (map-append (λ e. e.name) list (with_item ∷ []));
    unknowns_are = seen ∙ ap (λ names. see names (unknown_of item)) gives.unknowns_are;
    constants_are = after_item (constants p) gives.constants_are constants_now;
    symbols_are = after_item symbols gives.symbols_are symbols_now;
  }

  -- nothing stands at the place before
  tells_nothing : {A : Type 0} (reading : Reading A) → PlacesAre reading (list ++ so_far ∷ []) old →
      reading.tells (row_of old (length list)) j ≡ reading.nothing
  tells_nothing reading places =
      said_now reading places (length list) j (omega (arith, length-append list (so_far ∷ []))) within
      ∙ ap (λ said. reading.says said (get_or new.unknowns j [])) (items_at-last list so_far (length list) refl)
      ∙ ap (reading.says items) place
      ∙ reading.absent items (unknown_of item) fresh

  pub constant_of-fresh : constant_of old (length list) j ≡ None
  constant_of-fresh = constant_of-None p old gives.is_model (length list) j (tells_nothing (constants p) gives.constants_are)

  pub symbol_of-fresh : symbol_of old (length list) j ≡ false
  symbol_of-fresh = tells_nothing symbols gives.symbols_are
