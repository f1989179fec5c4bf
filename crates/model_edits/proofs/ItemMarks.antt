-- One item more that is put into an equation, and its mark.
use Rattle.std.proofs.Common.{◌≡◌, ◌≢◌, ◌<◌, ◌&&◌, ◌||◌, ◌∙◌, ◌∷◌, ◌++◌, ℕ, Bool, true, false, cond}
use Rattle.std.proofs.Common.{List, [], length, map, fold, Result, Ok, Err, get_or, set, inl, inr, Option, Some, None, unwrap_or}
use Rattle.std.proofs.Common.{refl, sym, ap, subst, arith, eqb, eq-eqb, eqb-true}
use Rattle.std.proofs.Common.{get_or-set_same, get_or-set_other, length-set, replicate}
use Rattle.std.specs.Str.{bytes_eq}
use Rattle.std.proofs.lemmas.Bool.{cases_eq, cases_lt, eqb-false}
use Rattle.std.proofs.lemmas.List.{get_or-replicate, get_or_past, length-replicate, map-append}
use Rattle.std.proofs.lemmas.List.Folds.{list_any-append}
use Rattle.std.proofs.lemmas.List.Sums.{fold-append}
use Rattle.std.proofs.lemmas.Slice.Eq.{bytes_eq-Decides}
use Rattle.refusals.specs.declared.Why.{Why}
use Rattle.refusals.specs.declared.Why.TheVariants.{Twice, TooMany}
use Rattle.line_reader.proofs.Rules.{first_kept}
use Rattle.mixed_model.specs.declared.errors.AddError.{AddError}
use Rattle.mixed_model.specs.Models.{IsModel, MixedModel, SetsPlace, constant_of, row_of, symbol_of, with_seen_unknown}
use Rattle.mixed_model.specs.Names.{has_name, see, seeing}
use Rattle.mixed_model.specs.Rows.{constant_in, symbol_in}
use Rattle.mixed_model.proofs.NameLaws.{names_apart}
use Rattle.matrix_reader.specs.Items.{item_constant, item_symbol, unknown_of, unless_zero}
use Rattle.matrix_reader.specs.Rules.{each_rule, room_rule, term_rule}
use Rattle.matrix_reader.proofs.RuleSteps.{each_more}
use Rattle.matrix_reader.proofs.SaidLaws.{Reading, constants, symbols}
use Rattle.matrix_reader.proofs.SeenLaws.{has_name-unseen}
use Rattle.matrix_reader.proofs.ValueLaws.{or_zero}
use Rattle.model_edit_laws.specs.Edits.{IsEditedAt}
use Rattle.model_edit_laws.proofs.Edits.{edited_again, set_place, unedited}
use Rattle.model_edits.specs.Commands.{added_item_rule, items_rule}
use Rattle.model_edits.specs.Marks.{IsUnmarked, MarksItems, SaysItems}
use Rattle.model_edits.proofs.SeenLaws.{IsSeen, IsSeen-from, no_room, unseen}

-- an equation with nothing in it, and no mark
pub SaysItems-none : (p : ℕ) (model : MixedModel) (i : ℕ) → row_of model i ≡ [] → SaysItems p model model i []
SaysItems-none p model i empty = record {
  equations = refl;
  unknowns = refl;
  constants = λ j below. ap (λ row. unwrap_or (constant_in row j) 0) empty;
  symbols = λ j below. ap (λ row. symbol_in row j) empty;
  edited = unedited model i;
}

pub none_marked : (n j : ℕ) → get_or (replicate n false) j false ≡ false
none_marked n j = elim (cases_lt j n) [
  | inl below ↦ get_or-replicate n j false false below
  | inr past ↦ get_or_past (replicate n false) j false (omega (arith, past, length-replicate n false))
]

pub MarksItems-none : (marks : List Bool) (unknowns : List (List ℕ)) → length marks ≡ 4096 →
    ((j : ℕ) → get_or marks j false ≡ false) → MarksItems marks unknowns []
MarksItems-none marks unknowns columns none = record {
  columns = columns;
  named = λ j below. none j;
  others = λ j past. none j;
}

-- a name among those of one item more
named_more : (items : List (List ℕ)) (item name : List ℕ) → has_name (map unknown_of (items ++ item ∷ [])) name ≡
    (has_name (map unknown_of items) name || (bytes_eq name (unknown_of item) || false))
named_more items item name =
    ap (λ names. has_name names name) (map-append unknown_of items (item ∷ []))
    ∙ list_any-append (bytes_eq name) (map unknown_of items) (unknown_of item ∷ [])

named_here : (items : List (List ℕ)) (item name : List ℕ) → bytes_eq name (unknown_of item) ≡ true →
    has_name (map unknown_of (items ++ item ∷ [])) name ≡ true
named_here items item name same = named_more items item name ∙ rw same (by (has_name (map unknown_of items) name))
  where
    by : (b : Bool) → (b || true) ≡ true
    by true = refl
    by false = refl

named_before : (items : List (List ℕ)) (item name : List ℕ) → bytes_eq name (unknown_of item) ≡ false →
    has_name (map unknown_of (items ++ item ∷ [])) name ≡ has_name (map unknown_of items) name
named_before items item name apart = named_more items item name ∙ rw apart (by (has_name (map unknown_of items) name))
  where
    by : (b : Bool) → (b || false) ≡ b
    by true = refl
    by false = refl

-- what is set at a place of equation i stands there
constant_there : (i constant : ℕ) (here : Bool) (was : Option ℕ) →
    unwrap_or (cond (eqb i i && here) (unless_zero constant) was) 0 ≡ cond here constant (unwrap_or was 0)
constant_there i constant true was = rw (eq-eqb i i refl) (or_zero constant)
constant_there i constant false was = rw (eq-eqb i i refl) refl

symbol_there : (i : ℕ) (symbol here was : Bool) → cond (eqb i i && here) symbol was ≡ cond here symbol was
symbol_there i symbol here was = ap (λ b. cond (b && here) symbol was) (eq-eqb i i refl)

module _ (p : ℕ) (start old : MixedModel) (i : ℕ) (earlier : List (List ℕ)) (marks : List Bool) (item : List ℕ)
    (says : SaysItems p start old i earlier) (marked : MarksItems marks old.unknowns earlier) where
  -- an unknown that is not there stands in no earlier item
  fresh_new : has_name old.unknowns (unknown_of item) ≡ false → has_name (map unknown_of earlier) (unknown_of item) ≡ false
  fresh_new absent =
      has_name-unseen start.unknowns (map unknown_of earlier) (unknown_of item)
      (subst (λ names. has_name names (unknown_of item) ≡ false) says.unknowns absent)

  -- nor does one that is not marked
  fresh : (j : ℕ) → IsSeen old.unknowns (unknown_of item) j → get_or marks j false ≡ false →
      has_name (map unknown_of earlier) (unknown_of item) ≡ false
  fresh j seen unmarked = elim (cases_lt j (length old.unknowns)) [
    | inl below ↦ ap (has_name (map unknown_of earlier)) (sym (seen.known below)) ∙ sym (marked.named j below) ∙ unmarked
    | inr past ↦ fresh_new (seen.absent past)
  ]

  -- so its item keeps the rule
  pub kept : (j : ℕ) → seeing old.unknowns (unknown_of item) ≡ Ok j → get_or marks j false ≡ false → term_rule p item ≡ None →
      added_item_rule p start earlier item ≡ None
  kept j answer unmarked term =
      let seen = IsSeen-from old.unknowns (unknown_of item) j answer in
      first_kept (term_rule p item) _ term
      ∙ ap (λ b. cond b (Some Twice) (room_rule (fold see start.unknowns (map unknown_of earlier)) (unknown_of item))) (fresh j seen unmarked)
      ∙ ap (λ names. room_rule names (unknown_of item)) (sym says.unknowns)
      ∙ ap (λ b. cond b None (Some TooMany)) seen.room

  -- and the item of one that can't be marked breaks it
  pub broken : (why : Why) → term_rule p item ≡ None → IsUnmarked (seeing old.unknowns (unknown_of item)) marks why →
      added_item_rule p start earlier item ≡ Some why
  broken why term told = first_kept (term_rule p item) _ term ∙ by (seeing old.unknowns (unknown_of item)) refl told
    where
      by : (r : Result ℕ AddError) → seeing old.unknowns (unknown_of item) ≡ r → IsUnmarked r marks why →
          cond (has_name (map unknown_of earlier) (unknown_of item)) (Some Twice)
          (room_rule (fold see start.unknowns (map unknown_of earlier)) (unknown_of item)) ≡ Some why
      by (Ok j) e (same, stood) = elim (cases_lt j (length old.unknowns)) [
        | inl below ↦
            let seen = IsSeen-from old.unknowns (unknown_of item) j e in
            let twice : has_name (map unknown_of earlier) (unknown_of item) ≡ true =
            ap (has_name (map unknown_of earlier)) (sym (seen.known below)) ∙ sym (marked.named j below) ∙ stood in
            rw (same, twice) refl
        | inr past ↦ let f : ⊥ = cc (marked.others j past) in absurd f
      ]
      by (Err error) e told =
          let no = unseen old.unknowns (unknown_of item) error e in
          ap (λ b. cond b (Some Twice) (room_rule (fold see start.unknowns (map unknown_of earlier)) (unknown_of item))) (fresh_new no.1)
          ∙ ap (λ names. room_rule names (unknown_of item)) (sym says.unknowns)
          ∙ no_room old.unknowns (unknown_of item) error why e told

  module _ (j : ℕ) (new : MixedModel) (seen : IsSeen old.unknowns (unknown_of item) j) (unmarked : get_or marks j false ≡ false) (is : IsModel p new)
      (put : SetsPlace (with_seen_unknown old (unknown_of item)) new i j (unless_zero (item_constant p item)) (item_symbol item)) where
    within : j < length new.unknowns
    within = subst (λ (names : List (List ℕ)). j < length names) (sym put.unknowns) seen.within

    place : get_or new.unknowns j [] ≡ unknown_of item
    place = ap (λ names. get_or names j []) put.unknowns ∙ seen.place

    -- each other column was there
    other_stands : (c : ℕ) → c < length new.unknowns → c ≢ j → (c < length old.unknowns) × (get_or new.unknowns c [] ≡ get_or old.unknowns c [])
    other_stands c below other =
        let before = seen.below c (subst (λ (names : List (List ℕ)). c < length names) put.unknowns below) other in
        (before, ap (λ names. get_or names c []) put.unknowns ∙ seen.stays c before)

    apart : (c : ℕ) → c < length new.unknowns → c ≢ j → bytes_eq (get_or new.unknowns c []) (unknown_of item) ≡ false
    apart c below other = subst (λ unknown. bytes_eq (get_or new.unknowns c []) unknown ≡ false) place
        (names_apart new.unknowns c j is.unknowns.distinct other below within)

    -- each column tells what the items say of its unknown
    said : {A : Type 0} (reading : Reading A)
        → ((c : ℕ) → reading.tells (row_of new i) c ≡ cond (eqb j c) (reading.gives item) (reading.tells (row_of old i) c))
        → ((c : ℕ) → c < length old.unknowns → reading.tells (row_of old i) c ≡ reading.says earlier (get_or old.unknowns c []))
        → (c : ℕ) → c < length new.unknowns → reading.tells (row_of new i) c ≡ reading.says (earlier ++ item ∷ []) (get_or new.unknowns c [])
    said reading told before c below = by (eqb j c) refl
      where
        by : (b : Bool) → eqb j c ≡ b → reading.tells (row_of new i) c ≡ reading.says (earlier ++ item ∷ []) (get_or new.unknowns c [])
        by true e =
            let here : get_or new.unknowns c [] ≡ unknown_of item = subst (λ k. get_or new.unknowns k [] ≡ unknown_of item) (eqb-true j c e) place in
            told c
            ∙ ap (λ b. cond b (reading.gives item) (reading.tells (row_of old i) c)) e
            ∙ sym (ap (reading.says (earlier ++ item ∷ [])) here ∙ reading.named earlier item (fresh j seen unmarked))
        by false e =
            let other : c ≢ j = λ same. eqb-false j c e (sym same) in
            let stands = other_stands c below other in
            told c
            ∙ ap (λ b. cond b (reading.gives item) (reading.tells (row_of old i) c)) e
            ∙ before c stands.0
            ∙ ap (reading.says earlier) (sym stands.1)
            ∙ sym (reading.other earlier item (get_or new.unknowns c []) (apart c below other))

    grown : IsEditedAt old (with_seen_unknown old (unknown_of item)) i
    grown = record {
      equations = refl;
      unknowns = seen.more;
      constants = λ k c other. refl;
      symbols = λ k c other. refl;
    }

    pub SaysItems-more : SaysItems p start new i (earlier ++ item ∷ [])
    SaysItems-more = record {
      equations = put.equations ∙ says.equations;
      unknowns = put.unknowns
          ∙ ap (λ names. see names (unknown_of item)) says.unknowns
          ∙ sym (ap (fold see start.unknowns) (map-append unknown_of earlier (item ∷ []))
          ∙ fold-append see start.unknowns (map unknown_of earlier) (unknown_of item ∷ []));
      constants = said (constants p)
          (λ c. ap (λ o. unwrap_or o 0) (put.constants i c) ∙ constant_there i (item_constant p item) (eqb j c) (constant_of old i c))
          says.constants;
      symbols = said symbols
          (λ c. put.symbols i c ∙ symbol_there i (item_symbol item) (eqb j c) (symbol_of old i c))
          says.symbols;
      edited = edited_again start old new i says.edited
          (edited_again old (with_seen_unknown old (unknown_of item)) new i grown
          (set_place (with_seen_unknown old (unknown_of item)) new i j (unless_zero (item_constant p item)) (item_symbol item) put));
    }

    pub MarksItems-more : MarksItems (set marks j true) new.unknowns (earlier ++ item ∷ [])
    MarksItems-more = record {
      columns = length-set marks j true ∙ marked.columns;
      named = λ c below. elim (cases_eq c j) [
        | inl same ↦
            subst (λ k. get_or (set marks j true) k false ≡ has_name (map unknown_of (earlier ++ item ∷ [])) (get_or new.unknowns k [])) (sym same)
            (get_or-set_same marks j true false (omega (arith, within, is.unknowns.few, marked.columns))
            ∙ sym (named_here earlier item (get_or new.unknowns j []) ((bytes_eq-Decides (get_or new.unknowns j []) (unknown_of item)).1 place)))
        | inr other ↦
            let stands = other_stands c below other in
            get_or-set_other marks j c true false other
            ∙ marked.named c stands.0
            ∙ ap (has_name (map unknown_of earlier)) (sym stands.1)
            ∙ sym (named_before earlier item (get_or new.unknowns c []) (apart c below other))
      ];
      others = λ c past.
          let count = ap (λ (names : List (List ℕ)). length names) put.unknowns in
          get_or-set_other marks j c true false (λ same. omega (arith, same, past, within))
          ∙ marked.others c (omega (arith, past, seen.more, count));
    }

-- all items so far are put, and the others are left
pub record ItemsSoFar (p : ℕ) (start new : MixedModel) (i : ℕ) (marks : List Bool) (all done left : List (List ℕ)) : Type 0 where
  pub says : SaysItems p start new i done
  pub marked : MarksItems marks new.unknowns done
  pub rule : items_rule p start all ≡ each_rule (added_item_rule p start) done left

pub ItemsSoFar-none : (p : ℕ) (model : MixedModel) (i : ℕ) (marks : List Bool) (all : List (List ℕ)) → row_of model i ≡ [] →
    length marks ≡ 4096 → ((j : ℕ) → get_or marks j false ≡ false) → ItemsSoFar p model model i marks all [] all
ItemsSoFar-none p model i marks all empty columns none = record {
  says = SaysItems-none p model i empty;
  marked = MarksItems-none marks model.unknowns columns none;
  rule = refl;
}

pub ItemsSoFar-more : (p : ℕ) (start old new : MixedModel) (i : ℕ) (marks new_marks : List Bool) (all done left : List (List ℕ)) (item : List ℕ) →
    ItemsSoFar p start old i marks all done (item ∷ left) → added_item_rule p start done item ≡ None →
    SaysItems p start new i (done ++ item ∷ []) → MarksItems new_marks new.unknowns (done ++ item ∷ []) →
    ItemsSoFar p start new i new_marks all (done ++ item ∷ []) left
ItemsSoFar-more p start old new i marks new_marks all done left item so_far kept says marked = record {
  says = says;
  marked = marked;
  rule = each_more (added_item_rule p start) [] done all left item so_far.rule kept;
}
