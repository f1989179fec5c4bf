-- The model with an equation more.
use Rattle.std.proofs.Common.{◌≡◌, ℕ, ◌+◌, ◌<◌, ◌≤◌, ◌⊎◌, Bool, true, false, cond, nat_eq, nat_lt, List, [], ◌∷◌, ◌++◌, length, map, fold, get_or}
use Rattle.std.proofs.Common.{Option, None, unwrap_or, codes, inl, inr, refl, ap, sym, subst, ◌∙◌, arith, length-append, le-ltb, lt-ltb, eq-eqb, ne_eqb}
use Rattle.std.specs.Option.{option_or}
use Rattle.residue_theory.specs.Residues.{IsPrime}
use Rattle.line_reader.proofs.Deciding.{both_kept}
use Rattle.mixed_model.specs.Models.{IsModel, MixedModel, constant_of, symbol_of}
use Rattle.mixed_model.specs.Names.{IsNameList, see}
use Rattle.matrix_reader.specs.Items.{unknown_of, unless_zero}
use Rattle.matrix_reader.specs.Models.{said_of, symbol_said}
use Rattle.matrix_reader.specs.Rules.{name_rule, new_equation_rule}
use Rattle.model_edits.specs.Commands.{edit_rule, items_rule}
use Rattle.model_edits.specs.Edits.{HasEquationMore}
use Rattle.desk_existence_laws.specs.Laws.{HasEdit}
use Rattle.desk_existence_laws.proofs.KeptNames.{AreSound, items-sound, new-kept, seen-more}
use Rattle.desk_existence_laws.proofs.PlacedModels.{HasPlaces, IsValue, bare-past, no_value, places_made, residue-value, value-of, value-told}

-- what stood there in the rows before the last, what is said there in the last one, and nothing elsewhere
abbrev of_row : {A : Type 0} → Bool → Bool → Bool → A → A → A → A
of_row before last within old said nothing = cond before old (cond last (cond within said nothing) nothing)

before-last : {A : Type 0} (before last within : Bool) (old said nothing : A) → before ≡ true → of_row before last within old said nothing ≡ old
before-last true last within old said nothing e = refl
before-last false last within old said nothing e = absurd cc

at-last : {A : Type 0} (before last within : Bool) (old said nothing : A) → before ≡ false → last ≡ true → within ≡ true →
    of_row before last within old said nothing ≡ said
at-last false true true old said nothing e f g = refl
at-last true last within old said nothing e f g = absurd cc
at-last false false within old said nothing e f g = absurd cc
at-last false true false old said nothing e f g = absurd cc

behind-last : {A : Type 0} (before last within : Bool) (old said nothing : A) → old ≡ nothing → last ≡ false →
    of_row before last within old said nothing ≡ nothing
behind-last true last within old said nothing e f = e
behind-last false false within old said nothing e f = refl
behind-last false true within old said nothing e f = absurd cc

beside-last : {A : Type 0} (before last within : Bool) (old said nothing : A) → old ≡ nothing → within ≡ false →
    of_row before last within old said nothing ≡ nothing
beside-last true last within old said nothing e f = e
beside-last false false within old said nothing e f = refl
beside-last false true false old said nothing e f = refl
beside-last false true true old said nothing e f = absurd cc

row-value : (p : ℕ) (before last within : Bool) (old said : Option ℕ) → IsValue p old → IsValue p said → IsValue p (of_row before last within old said None)
row-value p true last within old said one two = one
row-value p false true true old said one two = two
row-value p false true false old said one two = no_value p
row-value p false false within old said one two = no_value p

module _ (p : ℕ) (prime : IsPrime p) (old : MixedModel) (is : IsModel p old) (name : List ℕ) (items : List (List ℕ)) where
  abbrev equations : List (List ℕ)
  equations = old.equations ++ name ∷ []

  abbrev unknowns : List (List ℕ)
  unknowns = fold see old.unknowns (map unknown_of items)

  abbrev m : ℕ
  m = length old.equations

  abbrev n : ℕ
  n = length unknowns

  -- what the items say of unknown j
  abbrev constant_said : ℕ → Option ℕ
  constant_said j = unless_zero (said_of p items (get_or unknowns j []))

  abbrev symbol_there : ℕ → Bool
  symbol_there j = symbol_said items (get_or unknowns j [])

  abbrev constant : ℕ → ℕ → Option ℕ
  constant i j = of_row (nat_lt i m) (nat_eq m i) (nat_lt j n) (constant_of old i j) (constant_said j) None

  abbrev symbol : ℕ → ℕ → Bool
  symbol i j = of_row (nat_lt i m) (nat_eq m i) (nat_lt j n) (symbol_of old i j) (symbol_there j) false

  module _ (sound : AreSound p old items) where
    values : (i j : ℕ) → IsValue p (constant i j)
    values i j = row-value p (nat_lt i m) (nat_eq m i) (nat_lt j n) (constant_of old i j) (constant_said j)
        (value-of p old is i j) (residue-value p (said_of p items (get_or unknowns j [])) (sound.said (get_or unknowns j [])))

    wider : length old.unknowns ≤ n
    wider = seen-more old.unknowns (map unknown_of items)

    nothing : (i j : ℕ) → (length equations ≤ i) ⊎ (n ≤ j) → (constant i j ≡ None) × (symbol i j ≡ false)
    nothing i j (inl past) =
        let behind : length old.equations + 1 ≤ i = omega (arith, past, length-append old.equations (name ∷ [])) in
        let bare = bare-past p old is i j (inl (omega (arith, behind))) in
        let other : nat_eq m i ≡ false = ne_eqb m i (λ same. omega (arith, same, behind)) in (
          behind-last (nat_lt i m) (nat_eq m i) (nat_lt j n) (constant_of old i j) (constant_said j) None bare.0 other,
          behind-last (nat_lt i m) (nat_eq m i) (nat_lt j n) (symbol_of old i j) (symbol_there j) false bare.1 other,
        )
    nothing i j (inr past) =
        let bare = bare-past p old is i j (inr (omega (arith, past, wider))) in
        let beside : nat_lt j n ≡ false = le-ltb j n past in (
          beside-last (nat_lt i m) (nat_eq m i) (nat_lt j n) (constant_of old i j) (constant_said j) None bare.0 beside,
          beside-last (nat_lt i m) (nat_eq m i) (nat_lt j n) (symbol_of old i j) (symbol_there j) false bare.1 beside,
        )

    module _ (new : MixedModel) (has : HasPlaces p equations unknowns constant symbol new) where
      here : (j : ℕ) → j < length new.unknowns → j < n
      here j jl = subst (λ (names : List (List ℕ)). j < length names) has.unknowns_are jl

      last-constant : (j : ℕ) → j < n → constant m j ≡ constant_said j
      last-constant j jl = at-last (nat_lt m m) (nat_eq m m) (nat_lt j n) (constant_of old m j) (constant_said j) None
          (le-ltb m m (omega arith)) (eq-eqb m m refl) (lt-ltb j n jl)

      last-symbol : (j : ℕ) → j < n → symbol m j ≡ symbol_there j
      last-symbol j jl = at-last (nat_lt m m) (nat_eq m m) (nat_lt j n) (symbol_of old m j) (symbol_there j) false
          (le-ltb m m (omega arith)) (eq-eqb m m refl) (lt-ltb j n jl)

      has-more : HasEquationMore p old new name items
      has-more = record {
        equations = has.equations_are;
        unknowns = has.unknowns_are;
        kept_constants = λ i j il. has.constants_are i j
            ∙ before-last (nat_lt i m) (nat_eq m i) (nat_lt j n) (constant_of old i j) (constant_said j) None (lt-ltb i m il);
        kept_symbols = λ i j il. has.symbols_are i j
            ∙ before-last (nat_lt i m) (nat_eq m i) (nat_lt j n) (symbol_of old i j) (symbol_there j) false (lt-ltb i m il);
        constants = λ j jl. ap (λ o. unwrap_or o 0) (has.constants_are m j ∙ last-constant j (here j jl))
            ∙ value-told (said_of p items (get_or unknowns j [])) ∙ ap (λ (all : List (List ℕ)). said_of p items (get_or all j [])) (sym has.unknowns_are);
        symbols = λ j jl. has.symbols_are m j ∙ last-symbol j (here j jl)
            ∙ ap (λ (all : List (List ℕ)). symbol_said items (get_or all j [])) (sym has.unknowns_are);
      }

    added : IsNameList equations → HasEdit p (codes "add") (name ∷ items) old
    added named = from (places_made p equations unknowns constant symbol (omega (arith, prime.above_one)) named sound.unknowns values nothing)
      where
        from : (new : MixedModel) × HasPlaces p equations unknowns constant symbol new → HasEdit p (codes "add") (name ∷ items) old
        from (new, has) = record { new = new; edit = inl (refl, has-more new has); is_model = has.is_model }

  pub add-edit : edit_rule p (codes "add") old (name ∷ items) ≡ None → HasEdit p (codes "add") (name ∷ items) old
  add-edit kept =
      let first = both_kept (name_rule name) (option_or (new_equation_rule old.equations name) (items_rule p old items)) kept in
      let second = both_kept (new_equation_rule old.equations name) (items_rule p old items) first.1 in
      added (items-sound p prime old is.unknowns items second.1) (new-kept old.equations name is.equations first.0 second.0)
