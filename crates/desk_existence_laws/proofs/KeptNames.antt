-- What names and items that keep their rules give: names that are found or seen, and lists of names.
use Rattle.std.proofs.Common.{◌≡◌, ℕ, ◌+◌, ◌<◌, ◌≤◌, ◌||◌, Bool, true, false, cond, List, [], ◌∷◌, ◌++◌, length, map, fold, position}
use Rattle.std.proofs.Common.{Option, Some, None, Result, Ok, Err, refl, sym, ap, subst, ◌∙◌, arith, ltb, append_assoc, length-append}
use Rattle.std.specs.Option.{option_or}
use Rattle.std.specs.Result.{result_unwrap_or}
use Rattle.std.specs.Str.{bytes_eq}
use Rattle.std.proofs.lemmas.Bool.{ltb-true}
use Rattle.std.proofs.lemmas.List.{append-nil, map-append}
use Rattle.std.proofs.lemmas.List.Sums.{fold-append}
use Rattle.std.proofs.lemmas.Slice.Eq.{bytes_eq-Decides}
use Rattle.refusals.specs.declared.Why.{Why}
use Rattle.refusals.specs.declared.Why.TheVariants.{BadName, BadShape, TooMany, Twice, Undeclared}
use Rattle.residue_theory.specs.Residues.{IsPrime}
use Rattle.line_lexer.specs.Names.{is_name}
use Rattle.line_lexer.specs.Numbers.{number_of}
use Rattle.line_lexer.proofs.ResidueBounds.{number-below}
use Rattle.line_reader.proofs.Deciding.{both_kept, forbidden, wanted}
use Rattle.mixed_model.specs.Models.{MixedModel}
use Rattle.mixed_model.specs.Names.{IsNameList, has_name, place_or_end, see, seeing}
use Rattle.mixed_model.proofs.NameLaws.{IsNameList-push, appending-Ok, has_name-None, see-new, see-there, seeing-found}
use Rattle.term_model.proofs.Labels.{name_is_label}
use Rattle.matrix_reader.specs.Items.{has_equals_sign, is_symbol, item_constant, number_text, unknown_of, value_of}
use Rattle.matrix_reader.specs.Models.{said_of}
use Rattle.matrix_reader.specs.Rules.{each_rule, name_rule, new_equation_rule, room_rule, term_rule, value_rule}
use Rattle.matrix_reader.proofs.SaidLaws.{said_of-absent, said_of-push}
use Rattle.model_edits.specs.Commands.{added_item_rule, items_rule, there_rule, unless_kept}

-- ---- a name among some
-- a name that is there is found
pub found : (names : List (List ℕ)) (name : List ℕ) → there_rule names name ≡ None → (k : ℕ) × (position (bytes_eq name) names ≡ Some k)
found names name kept = by (position (bytes_eq name) names) refl
  where
    there : has_name names name ≡ true
    there = wanted (has_name names name) Undeclared (both_kept (name_rule name) (unless_kept (has_name names name) Undeclared) kept).1

    by : (o : Option ℕ) → position (bytes_eq name) names ≡ o → (k : ℕ) × (position (bytes_eq name) names ≡ Some k)
    by (Some k) e = (k, e)
    by None e = let both : true ≡ false = sym there ∙ has_name-None names name e in absurd cc

room-kept : (b : Bool) (n : ℕ) → cond (b || ltb n 4096) None (Some TooMany) ≡ None → b ≡ false → n < 4096
room-kept true n kept none = absurd cc
room-kept false n kept none = ltb-true n 4096 (wanted (ltb n 4096) TooMany kept)

-- a name for which there is room is seen
pub seen-at : (names : List (List ℕ)) (name : List ℕ) → room_rule names name ≡ None → (k : ℕ) × (seeing names name ≡ Ok k)
seen-at names name room = by (position (bytes_eq name) names) refl
  where
    by : (o : Option ℕ) → position (bytes_eq name) names ≡ o → (k : ℕ) × (seeing names name ≡ Ok k)
    by (Some k) e = (k, seeing-found names name k e)
    by None e = (
      length names,
      ap (place_or_end names) e ∙ appending-Ok names (room-kept (has_name names name) (length names) room (has_name-None names name e)),
    )

pub see-kept : (names : List (List ℕ)) (name : List ℕ) → IsNameList names → name_rule name ≡ None → room_rule names name ≡ None → IsNameList (see names name)
see-kept names name all named room = by (has_name names name) refl
  where
    by : (b : Bool) → has_name names name ≡ b → IsNameList (see names name)
    by true e = subst IsNameList (sym (see-there names name e)) all
    by false e = subst IsNameList (sym (see-new names name e)) (IsNameList-push names name all (name_is_label name (wanted (is_name name) BadName named)) e
        (room-kept (has_name names name) (length names) room e))

-- one that is new is put last
pub new-kept : (names : List (List ℕ)) (name : List ℕ) → IsNameList names → name_rule name ≡ None → new_equation_rule names name ≡ None →
    IsNameList (names ++ name ∷ [])
new-kept names name all named kept =
    let new = forbidden (has_name names name) Twice (cond (ltb (length names) 4096) None (Some TooMany)) kept in
    IsNameList-push names name all (name_is_label name (wanted (is_name name) BadName named)) new.0
    (ltb-true (length names) 4096 (wanted (ltb (length names) 4096) TooMany new.1))

see-more : (names : List (List ℕ)) (name : List ℕ) → length names ≤ length (see names name)
see-more names name = by (has_name names name) refl
  where
    by : (b : Bool) → has_name names name ≡ b → length names ≤ length (see names name)
    by true e = subst (λ (all : List (List ℕ)). length names ≤ length all) (sym (see-there names name e)) (omega arith)
    by false e = subst (λ (all : List (List ℕ)). length names ≤ length all) (sym (see-new names name e))
        (omega (arith, length-append names (name ∷ [])))

pub seen-more : (names more : List (List ℕ)) → length names ≤ length (fold see names more)
seen-more names [] = omega arith
seen-more names (name ∷ more) =
    let one : length names ≤ length (see names name) = see-more names name in
    let rest : length (see names name) ≤ length (fold see (see names name) more) = seen-more (see names name) more in
    omega (arith, one, rest)

-- ---- items
-- the unknown of an item that keeps its rule has a name
pub item-named : (p : ℕ) (item : List ℕ) → term_rule p item ≡ None → name_rule (unknown_of item) ≡ None
item-named p item kept = by (has_equals_sign item) kept
  where
    by : (b : Bool) → cond b (option_or (name_rule (unknown_of item)) (value_rule p (value_of item))) (Some BadShape) ≡ None →
        name_rule (unknown_of item) ≡ None
    by true e = (both_kept (name_rule (unknown_of item)) (value_rule p (value_of item)) e).0
    by false e = absurd cc

-- its constant is a residue
pub constant-below : (p : ℕ) → IsPrime p → (item : List ℕ) → item_constant p item < p
constant-below p prime item = alone (is_symbol (value_of item))
  where
    read : (result : Result ℕ Why) → number_of p (number_text (value_of item)) ≡ result → result_unwrap_or result 0 < p
    read (Ok n) e = number-below p prime (number_text (value_of item)) n e
    read (Err why) e = omega (arith, prime.above_one)

    alone : (b : Bool) → cond b 0 (result_unwrap_or (number_of p (number_text (value_of item))) 0) < p
    alone true = omega (arith, prime.above_one)
    alone false = read (number_of p (number_text (value_of item))) refl

-- an item that stands alone
pub one-item : (p : ℕ) (model : MixedModel) (item : List ℕ) → items_rule p model (item ∷ []) ≡ None →
    (term_rule p item ≡ None) × (room_rule model.unknowns (unknown_of item) ≡ None)
one-item p model item kept =
    both_kept (term_rule p item) (room_rule model.unknowns (unknown_of item)) (both_kept (added_item_rule p model [] item) None kept).0

-- what holds of no words more, and of each word more that keeps its rule, holds of all words that keep theirs
each-kept : (rule : List (List ℕ) → List ℕ → Option Why) (Holds : List (List ℕ) → Type 0) →
    ((seen : List (List ℕ)) (word : List ℕ) → Holds seen → rule seen word ≡ None → Holds (seen ++ word ∷ [])) →
    (seen words : List (List ℕ)) → Holds seen → each_rule rule seen words ≡ None → Holds (seen ++ words)
each-kept rule Holds step seen [] holds kept = subst Holds (sym (append-nil seen)) holds
each-kept rule Holds step seen (word ∷ words) holds kept =
    let both = both_kept (rule seen word) (each_rule rule (seen ++ word ∷ []) words) kept in
    subst Holds (append_assoc seen (word ∷ []) words)
    (each-kept rule Holds step (seen ++ word ∷ []) words (step seen word holds both.0) both.1)

-- the unknowns of some items are seen, and what they say of one is a residue
pub record AreSound (p : ℕ) (old : MixedModel) (items : List (List ℕ)) : Type 0 where
  pub unknowns : IsNameList (fold see old.unknowns (map unknown_of items))
  pub said : (unknown : List ℕ) → said_of p items unknown < p

module _ (p : ℕ) (prime : IsPrime p) (old : MixedModel) (named : IsNameList old.unknowns) where
  -- what is said with one item more, of an unknown that no item before it names
  said-more : (seen : List (List ℕ)) (item : List ℕ) → ((unknown : List ℕ) → said_of p seen unknown < p) →
      has_name (map unknown_of seen) (unknown_of item) ≡ false → (unknown : List ℕ) → said_of p (seen ++ item ∷ []) unknown < p
  said-more seen item said fresh unknown = by (bytes_eq unknown (unknown_of item)) refl
    where
      by : (b : Bool) → bytes_eq unknown (unknown_of item) ≡ b → said_of p (seen ++ item ∷ []) unknown < p
      by false e = omega (arith, said_of-push p seen item unknown ∙ ap (λ b. said_of p seen unknown + cond b (item_constant p item) 0) e, said unknown)
      by true e =
          let same : unknown ≡ unknown_of item = (bytes_eq-Decides unknown (unknown_of item)).0 e in
          let nothing : said_of p seen unknown ≡ 0 = said_of-absent p seen unknown (ap (has_name (map unknown_of seen)) same ∙ fresh) in
          omega (
            arith,
            said_of-push p seen item unknown ∙ ap (λ b. said_of p seen unknown + cond b (item_constant p item) 0) e,
            nothing,
            constant-below p prime item,
          )

  item-seen : (seen : List (List ℕ)) (item : List ℕ) →
      fold see old.unknowns (map unknown_of (seen ++ item ∷ [])) ≡ see (fold see old.unknowns (map unknown_of seen)) (unknown_of item)
  item-seen seen item = ap (fold see old.unknowns) (map-append unknown_of seen (item ∷ []))
      ∙ fold-append see old.unknowns (map unknown_of seen) (unknown_of item ∷ [])

  one-more : (seen : List (List ℕ)) (item : List ℕ) → AreSound p old seen → added_item_rule p old seen item ≡ None → AreSound p old (seen ++ item ∷ [])
  one-more seen item sound kept =
      let names = fold see old.unknowns (map unknown_of seen) in
      let room = room_rule names (unknown_of item) in
      let both = both_kept (term_rule p item) (cond (has_name (map unknown_of seen) (unknown_of item)) (Some Twice) room) kept in
      let place = forbidden (has_name (map unknown_of seen) (unknown_of item)) Twice room both.1 in
      record {
        unknowns = subst IsNameList (sym (item-seen seen item)) (see-kept names (unknown_of item) sound.unknowns (item-named p item both.0) place.1);
        said = said-more seen item sound.said place.0;
      }

  pub items-sound : (items : List (List ℕ)) → items_rule p old items ≡ None → AreSound p old items
  items-sound items kept = each-kept (added_item_rule p old) (AreSound p old) one-more [] items
      (record { unknowns = named; said = λ unknown. omega (arith, prime.above_one) }) kept
