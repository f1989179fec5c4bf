-- A model of each size with what stands at each place, where a constant may be none.
use Rattle.std.proofs.Common.{◌≡◌, ℕ, ◌<◌, ◌≤◌, ◌⊎◌, ◌&&◌, Bool, true, false, cond, nat_eq, List, [], length}
use Rattle.std.proofs.Common.{Option, Some, None, unwrap_or, inl, inr, refl, ap, sym, subst, ◌∙◌, arith, eqb-true, ne_eqb}
use Rattle.std.proofs.lemmas.Bool.{cases_lt, eqb-false}
use Rattle.std.proofs.lemmas.List.{get_or_past}
use Rattle.mixed_model.specs.Entries.{RowEntry}
use Rattle.mixed_model.specs.Models.{IsModel, MixedModel, SetsPlace, constant_at, constant_of, row_of, symbol_of}
use Rattle.mixed_model.specs.Names.{IsNameList}
use Rattle.mixed_model.specs.Rows.{constant_at_place, constant_in, entry_in, symbol_in}
use Rattle.mixed_model.proofs.Making.{Has, model_made}
use Rattle.mixed_model.proofs.ModelLaws.{beyond_unknowns, constant_of-None}
use Rattle.mixed_model.proofs.RowLaws.{entry_in-filled}
use Rattle.matrix_reader.specs.Items.{unless_zero}

-- a constant of a model: none, or a residue modulo p other than 0
pub record IsValue (p : ℕ) (o : Option ℕ) : Type 0 where
  pub positive : (constant : ℕ) → o ≡ Some constant → 0 < constant
  pub residue : (constant : ℕ) → o ≡ Some constant → constant < p

pub no_value : (p : ℕ) → IsValue p None
no_value p = record {
  positive = λ c e. let f : ◌≡◌ {A = Option ℕ} None (Some c) = e in absurd cc;
  residue = λ c e. let f : ◌≡◌ {A = Option ℕ} None (Some c) = e in absurd cc;
}

pub residue-value : (p n : ℕ) → n < p → IsValue p (unless_zero n)
residue-value p n small = by (nat_eq n 0) refl
  where
    by : (b : Bool) → nat_eq n 0 ≡ b → IsValue p (cond b None (Some n))
    by true e = no_value p
    by false e = record {
      positive = λ c f. let same : n ≡ c = ap (λ o. unwrap_or o 0) f in
          let other : n ≡ 0 → ⊥ = eqb-false n 0 e in omega (arith, same, other);
      residue = λ c f. let same : n ≡ c = ap (λ o. unwrap_or o 0) f in omega (arith, same, small);
    }

pub value-told : (n : ℕ) → unwrap_or (unless_zero n) 0 ≡ n
value-told n = by (nat_eq n 0) refl
  where
    by : (b : Bool) → nat_eq n 0 ≡ b → unwrap_or (cond b None (Some n)) 0 ≡ n
    by true e = sym (eqb-true n 0 e)
    by false e = refl

value-small : (p : ℕ) (o : Option ℕ) → 0 < p → IsValue p o → unwrap_or o 0 < p
value-small p None above value = above
value-small p (Some c) above value = value.residue c refl

-- ---- what stands in a model
module _ (p : ℕ) (model : MixedModel) (is : IsModel p model) (i j : ℕ) where
  pub value-of : IsValue p (constant_of model i j)
  value-of = by (entry_in (row_of model i) j) refl
    where
      by : (found : Option RowEntry) → entry_in (row_of model i) j ≡ found → IsValue p (constant_of model i j)
      by None e = subst (λ o. IsValue p (constant_at_place o)) (sym e) (no_value p)
      by (Some entry) e = elim (cases_lt i (length model.rows)) [
        | inl within ↦
            let filled = entry_in-filled p 0 (row_of model i) (is.rows i [] within).0 j entry e in
            subst (λ o. IsValue p (constant_at_place o)) (sym e) (record { positive = filled.positive; residue = filled.residue })
        | inr past ↦
            let none : row_of model i ≡ [] = get_or_past model.rows i [] past in
            subst (λ row. IsValue p (constant_in row j)) (sym none) (no_value p)
      ]

  -- past its equations and its unknowns nothing does
  pub bare-past : (length model.equations ≤ i) ⊎ (length model.unknowns ≤ j) → (constant_of model i j ≡ None) × (symbol_of model i j ≡ false)
  bare-past out = elim (cases_lt i (length model.rows)) [
    | inl within ↦ beyond_unknowns (length model.unknowns) (row_of model i) j (is.rows i [] within).1 (beyond within out)
    | inr past ↦
        let none : row_of model i ≡ [] = get_or_past model.rows i [] past in
        (ap (λ row. constant_in row j) none, ap (λ row. symbol_in row j) none)
  ]
    where
      beyond : i < length model.rows → (length model.equations ≤ i) ⊎ (length model.unknowns ≤ j) → length model.unknowns ≤ j
      beyond within (inl past) = absurd (omega (arith, within, past, is.one_row_each))
      beyond within (inr past) = past

  -- a constant is told by its value
  constant-told : (o : Option ℕ) → IsValue p o → constant_at model i j ≡ unwrap_or o 0 → constant_of model i j ≡ o
  constant-told None value same = constant_of-None p model is i j same
  constant-told (Some c) value same = by (constant_of model i j) refl
    where
      by : (o : Option ℕ) → constant_of model i j ≡ o → constant_of model i j ≡ Some c
      by None e = absurd (omega (arith, value.positive c refl, same, ap (λ x. unwrap_or x 0) e))
      by (Some d) e = e ∙ ap Some (sym (ap (λ x. unwrap_or x 0) e) ∙ same)

-- ---- models with these names, and this at each place
pub record HasPlaces (p : ℕ) (equations unknowns : List (List ℕ)) (constant : ℕ → ℕ → Option ℕ) (symbol : ℕ → ℕ → Bool) (model : MixedModel) : Type 0
  where
    pub is_model : IsModel p model
    pub equations_are : model.equations ≡ equations
    pub unknowns_are : model.unknowns ≡ unknowns
    pub constants_are : (i j : ℕ) → constant_of model i j ≡ constant i j
    pub symbols_are : (i j : ℕ) → symbol_of model i j ≡ symbol i j

within-or : (m n i j : ℕ) → ((i < m) × (j < n)) ⊎ ((m ≤ i) ⊎ (n ≤ j))
within-or m n i j = by (cases_lt i m) (cases_lt j n)
  where
    by : (i < m) ⊎ (m ≤ i) → (j < n) ⊎ (n ≤ j) → ((i < m) × (j < n)) ⊎ ((m ≤ i) ⊎ (n ≤ j))
    by (inl low) (inl less) = inl (low, less)
    by (inl low) (inr past) = inr (inr past)
    by (inr past) other = inr (inl past)

module _ (p : ℕ) (equations unknowns : List (List ℕ)) (constant : ℕ → ℕ → Option ℕ) (symbol : ℕ → ℕ → Bool) (above : 0 < p)
    (rows_named : IsNameList equations) (columns_named : IsNameList unknowns) (values : (i j : ℕ) → IsValue p (constant i j))
    (none : (i j : ℕ) → (length equations ≤ i) ⊎ (length unknowns ≤ j) → (constant i j ≡ None) × (symbol i j ≡ false)) where
  module _ (model : MixedModel) (has : Has p equations unknowns (λ i j. unwrap_or (constant i j) 0) symbol model) where
    out-of : (i j : ℕ) → (length equations ≤ i) ⊎ (length unknowns ≤ j) → (length model.equations ≤ i) ⊎ (length model.unknowns ≤ j)
    out-of i j (inl past) = inl (subst (λ (names : List (List ℕ)). length names ≤ i) (sym has.equations_are) past)
    out-of i j (inr past) = inr (subst (λ (names : List (List ℕ)). length names ≤ j) (sym has.unknowns_are) past)

    constants : (i j : ℕ) → constant_of model i j ≡ constant i j
    constants i j = elim (within-or (length equations) (length unknowns) i j) [
      | inl within ↦ constant-told p model has.is_model i j (constant i j) (values i j) (has.constants_are i j within.0 within.1)
      | inr out ↦ (bare-past p model has.is_model i j (out-of i j out)).0 ∙ sym (none i j out).0
    ]

    symbols : (i j : ℕ) → symbol_of model i j ≡ symbol i j
    symbols i j = elim (within-or (length equations) (length unknowns) i j) [
      | inl within ↦ has.symbols_are i j within.0 within.1
      | inr out ↦ (bare-past p model has.is_model i j (out-of i j out)).1 ∙ sym (none i j out).1
    ]

  pub places_made : (model : MixedModel) × HasPlaces p equations unknowns constant symbol model
  places_made = from (model_made p equations unknowns (λ i j. unwrap_or (constant i j) 0) symbol rows_named columns_named
      (λ i j il jl. value-small p (constant i j) above (values i j)))
    where
      from : (model : MixedModel) × Has p equations unknowns (λ i j. unwrap_or (constant i j) 0) symbol model →
          (model : MixedModel) × HasPlaces p equations unknowns constant symbol model
      from (model, has) = (
        model,
        record {
          is_model = has.is_model;
          equations_are = has.equations_are;
          unknowns_are = has.unknowns_are;
          constants_are = constants model has;
          symbols_are = symbols model has;
        },
      )

-- ---- one place is set
second-fails : (a b : Bool) → b ≡ false → (a && b) ≡ false
second-fails true b e = e
second-fails false b e = refl

-- the model after a place is set
pub record HasSet (p : ℕ) (old : MixedModel) (i j : ℕ) (constant : Option ℕ) (symbol : Bool) : Type 0 where
  pub new : MixedModel
  pub is_model : IsModel p new
  pub sets : SetsPlace old new i j constant symbol

module _ (p : ℕ) (above : 0 < p) (old : MixedModel) (is : IsModel p old) (i j : ℕ) (il : i < length old.equations) (jl : j < length old.unknowns)
    (constant : Option ℕ) (symbol : Bool) (value : IsValue p constant) where
  abbrev here : ℕ → ℕ → Bool
  here k c = nat_eq i k && nat_eq j c

  not-here : (k c : ℕ) → (length old.equations ≤ k) ⊎ (length old.unknowns ≤ c) → here k c ≡ false
  not-here k c (inl past) = ap (λ b. b && nat_eq j c) (ne_eqb i k (λ same. omega (arith, same, il, past)))
  not-here k c (inr past) = second-fails (nat_eq i k) (nat_eq j c) (ne_eqb j c (λ same. omega (arith, same, jl, past)))

  value-either : (b : Bool) (o : Option ℕ) → IsValue p o → IsValue p (cond b constant o)
  value-either true o other = value
  value-either false o other = other

  pub place_set : HasSet p old i j constant symbol
  place_set = from (places_made p old.equations old.unknowns (λ k c. cond (here k c) constant (constant_of old k c))
      (λ k c. cond (here k c) symbol (symbol_of old k c)) above is.equations is.unknowns
      (λ k c. value-either (here k c) (constant_of old k c) (value-of p old is k c))
      (λ k c out. (
        ap (λ b. cond b constant (constant_of old k c)) (not-here k c out) ∙ (bare-past p old is k c out).0,
        ap (λ b. cond b symbol (symbol_of old k c)) (not-here k c out) ∙ (bare-past p old is k c out).1,
      )))
    where
      from : (new : MixedModel) × HasPlaces p old.equations old.unknowns (λ k c. cond (here k c) constant (constant_of old k c))
          (λ k c. cond (here k c) symbol (symbol_of old k c)) new → HasSet p old i j constant symbol
      from (new, has) = record {
        new = new;
        is_model = has.is_model;
        sets = record {
          equations = has.equations_are;
          unknowns = has.unknowns_are;
          constants = has.constants_are;
          symbols = has.symbols_are;
        };
      }
