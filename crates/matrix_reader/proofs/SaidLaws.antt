-- What the items of a line say of an unknown.
use Rattle.std.proofs.Common.{◌≡◌, ℕ, zero, suc, ◌+◌, ◌<◌, Bool, true, false, cond, ◌&&◌, ◌||◌, List, [], ◌∷◌, ◌++◌}
use Rattle.std.proofs.Common.{length, map, fold, get_or, codes, None, unwrap_or, refl, sym, ap, ◌∙◌, arith}
use Rattle.std.specs.List.{flat_map}
use Rattle.std.specs.Str.{bytes_eq}
use Rattle.std.proofs.lemmas.List.{map-append, get_or_append_left, get_or_push, length-map}
use Rattle.std.proofs.lemmas.List.Folds.{list_any-append}
use Rattle.std.proofs.lemmas.List.Sums.{sum_by-append}
use Rattle.std.proofs.lemmas.Slice.Eq.{bytes_eq-Decides}
use Rattle.mixed_model.specs.Entries.{RowEntry}
use Rattle.mixed_model.specs.Names.{has_name}
use Rattle.mixed_model.specs.Rows.{entry_in, constant_at_place, symbol_at_place, constant_in, symbol_in}
use Rattle.matrix_reader.specs.Items.{unknown_of, item_constant, item_symbol}
use Rattle.matrix_reader.specs.EquationLists.{Equation, equations_in, names_in, unknowns_in}
use Rattle.matrix_reader.specs.Models.{said_of, symbol_said, items_at}
use Rattle.matrix_reader.proofs.SeenLaws.{has_name-unseen}

-- one item more
pub said_of-push : (p : ℕ) (items : List (List ℕ)) (item unknown : List ℕ) →
    said_of p (items ++ item ∷ []) unknown ≡ said_of p items unknown + cond (bytes_eq unknown (unknown_of item))
    (item_constant p item) 0
said_of-push p items item unknown =
    sum_by-append (λ other. cond (bytes_eq unknown (unknown_of other)) (item_constant p other) 0) items (item ∷ [])
    ∙ ap (λ n. said_of p items unknown + n) (omega arith)

-- nothing is said of an unknown that no item names
pub said_of-absent : (p : ℕ) (items : List (List ℕ)) (unknown : List ℕ) → has_name (map unknown_of items) unknown ≡ false → said_of p items unknown ≡ 0
said_of-absent p items unknown absent = from items 0 absent
  where
    from : (items : List (List ℕ)) (n : ℕ) → has_name (map unknown_of items) unknown ≡ false →
        fold (λ a item. a + cond (bytes_eq unknown (unknown_of item)) (item_constant p item) 0) n items ≡ n
    from [] n absent = refl
    from (item ∷ items) n absent = by (bytes_eq unknown (unknown_of item)) refl absent (λ m rest. from items m rest)
      where
        by : (b : Bool) → bytes_eq unknown (unknown_of item) ≡ b →
            (b || has_name (map unknown_of items) unknown) ≡ false →
            ((m : ℕ) → has_name (map unknown_of items) unknown ≡ false →
            fold (λ a item. a + cond (bytes_eq unknown (unknown_of item)) (item_constant p item) 0) m items ≡ m) →
            fold (λ a item. a + cond (bytes_eq unknown (unknown_of item)) (item_constant p item) 0) n
            (item ∷ items) ≡ n
        by true e none more = let f : ⊥ = cc in absurd f
        by false e none more = rw e (more (n + 0) none ∙ omega arith)

-- one item more, and a symbol
pub symbol_said-push : (items : List (List ℕ)) (item unknown : List ℕ) → symbol_said (items ++ item ∷ []) unknown ≡
    (symbol_said items unknown || (bytes_eq unknown (unknown_of item) && item_symbol item || false))
symbol_said-push items item unknown = list_any-append (λ other. bytes_eq unknown (unknown_of other) && item_symbol other) items (item ∷ [])

pub symbol_said-absent : (items : List (List ℕ)) (unknown : List ℕ) → has_name (map unknown_of items) unknown ≡ false → symbol_said items unknown ≡ false
symbol_said-absent [] unknown absent = refl
symbol_said-absent (item ∷ items) unknown absent = by (bytes_eq unknown (unknown_of item)) refl absent (λ rest. symbol_said-absent items unknown rest)
  where
    by : (b : Bool) → bytes_eq unknown (unknown_of item) ≡ b → (b || has_name (map unknown_of items) unknown) ≡ false →
        (has_name (map unknown_of items) unknown ≡ false → symbol_said items unknown ≡ false) →
        symbol_said (item ∷ items) unknown ≡ false
    by true e none more = let f : ⊥ = cc in absurd f
    by false e none more = rw e (more none)

-- What a row tells of its columns, and items say of unknowns: nothing where no item names one, and what an item gives
-- where that is the first to name it.
pub record Reading (A : Type 0) : Type 0 where
  pub tells : List RowEntry → ℕ → A
  pub says : List (List ℕ) → List ℕ → A
  pub gives : List ℕ → A
  pub nothing : A
  pub empty : (row : List RowEntry) (j : ℕ) → entry_in row j ≡ None → tells row j ≡ nothing
  pub absent : (items : List (List ℕ)) (unknown : List ℕ) → has_name (map unknown_of items) unknown ≡ false → says items unknown ≡ nothing
  pub named : (items : List (List ℕ)) (item : List ℕ) → has_name (map unknown_of items) (unknown_of item) ≡ false →
      says (items ++ item ∷ []) (unknown_of item) ≡ gives item
  pub other : (items : List (List ℕ)) (item unknown : List ℕ) → bytes_eq unknown (unknown_of item) ≡ false →
      says (items ++ item ∷ []) unknown ≡ says items unknown

pub same_name : (item : List ℕ) → bytes_eq (unknown_of item) (unknown_of item) ≡ true
same_name item = (bytes_eq-Decides (unknown_of item) (unknown_of item)).1 refl

abbrev pub constants : (p : ℕ) → Reading ℕ
constants p = record {
  tells = λ row j. unwrap_or (constant_in row j) 0;
  says = said_of p;
  gives = item_constant p;
  nothing = 0;
  empty = λ row j none. ap (λ o. unwrap_or (constant_at_place o) 0) none;
  absent = said_of-absent p;
  named = λ items item fresh.
      said_of-push p items item (unknown_of item)
      ∙ rw (same_name item) (ap (λ n. n + item_constant p item) (said_of-absent p items (unknown_of item) fresh) ∙ omega arith);
  other = λ items item unknown apart. said_of-push p items item unknown ∙ rw apart (omega arith);
}

pub or_nothing : (a : Bool) → (a || false) ≡ a
or_nothing true = refl
or_nothing false = refl

abbrev pub symbols : Reading Bool
symbols = record {
  tells = symbol_in;
  says = symbol_said;
  gives = item_symbol;
  nothing = false;
  empty = λ row j none. ap symbol_at_place none;
  absent = symbol_said-absent;
  named = λ items item fresh.
      symbol_said-push items item (unknown_of item)
      ∙ rw (symbol_said-absent items (unknown_of item) fresh, same_name item) (or_nothing (item_symbol item));
  other = λ items item unknown apart. symbol_said-push items item unknown ∙ rw apart (or_nothing (symbol_said items unknown));
}

-- the items of the equations before, and of the last one
pub items_at-before : (list : List Equation) (equation : Equation) (i : ℕ) → i < length list → items_at (list ++ equation ∷ []) i ≡ items_at list i
items_at-before list equation i before =
    ap (λ all. get_or all i []) (map-append (λ e. e.items) list (equation ∷ []))
    ∙ get_or_append_left (map (λ e. e.items) list) (equation.items ∷ []) [] i (omega (arith, length-map list (λ (e : Equation). e.items)))

pub items_at-last : (list : List Equation) (equation : Equation) (i : ℕ) → length list ≡ i → items_at (list ++ equation ∷ []) i ≡ equation.items
items_at-last list equation i last =
    ap (λ all. get_or all i []) (map-append (λ e. e.items) list (equation ∷ []))
    ∙ get_or_push (map (λ e. e.items) list) equation.items [] i (length-map list (λ (e : Equation). e.items) ∙ last)

-- a name that stands in none of the lines is named by no item
NamesNowhere : List (List (List ℕ)) → List ℕ → Type 0
NamesNowhere lines unknown = (i : ℕ) → has_name (map unknown_of (items_at (equations_in lines) i)) unknown ≡ false

names_nowhere-eq : (name : List ℕ) (items : List (List ℕ)) (lines : List (List (List ℕ))) (unknown : List ℕ) →
    has_name (map unknown_of items) unknown ≡ false → NamesNowhere lines unknown → (i : ℕ) →
    has_name (map unknown_of (items_at (record {
      name = name;
      items =
          items;
    } ∷ equations_in lines) i)) unknown ≡ false
unfolding NamesNowhere
names_nowhere-eq name items lines unknown none rest zero = none
names_nowhere-eq name items lines unknown none rest (suc i) = rest i

or_false-first : (a b : Bool) → (a || b) ≡ false → a ≡ false
or_false-first true b e = e
or_false-first false b e = refl

or_false-second : (a b : Bool) → (a || b) ≡ false → b ≡ false
or_false-second true b e = let f : ⊥ = cc in absurd f
or_false-second false b e = e

names_nowhere-line : (words : List (List ℕ)) (lines : List (List (List ℕ))) (unknown : List ℕ) →
    has_name (names_in words) unknown ≡ false → NamesNowhere lines unknown → NamesNowhere (words ∷ lines) unknown
unfolding NamesNowhere
names_nowhere-line [] lines unknown none rest = rest
names_nowhere-line (word ∷ []) lines unknown none rest = rest
names_nowhere-line (word ∷ name ∷ items) lines unknown none rest = by (bytes_eq word (codes "eq")) refl none
  where
    by : (b : Bool) → bytes_eq word (codes "eq") ≡ b → has_name (names_in (word ∷ name ∷ items)) unknown ≡ false →
        (i : ℕ) → has_name (map unknown_of (items_at
        (equations_in ((word ∷ name ∷ items) ∷ lines)) i)) unknown ≡ false
    by true e h i = rw e (names_nowhere-eq name items lines unknown (rw e at h) rest i)
    by false e h i = rw e (rest i)

names_nowhere : (lines : List (List (List ℕ))) (unknown : List ℕ) → has_name (flat_map names_in lines) unknown ≡ false → NamesNowhere lines unknown
unfolding NamesNowhere
names_nowhere [] unknown none = λ i. refl
names_nowhere (words ∷ lines) unknown none =
    let both = sym (list_any-append (bytes_eq unknown) (names_in words) (flat_map names_in lines)) ∙ none in
    names_nowhere-line words lines unknown (or_false-first (has_name (names_in words) unknown) _ both)
    (names_nowhere lines unknown (or_false-second (has_name (names_in words) unknown) _ both))

pub absent-unseen : (lines : List (List (List ℕ))) (unknown : List ℕ) (i : ℕ) →
    has_name (unknowns_in lines) unknown ≡ false → has_name
    (map unknown_of (items_at (equations_in lines) i)) unknown ≡ false
unfolding NamesNowhere
absent-unseen lines unknown i unseen = names_nowhere lines unknown (has_name-unseen [] (flat_map names_in lines) unknown unseen) i
