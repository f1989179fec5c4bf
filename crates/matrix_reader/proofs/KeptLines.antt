-- What lines that keep the rules give: lists of names, and constants that are residues.
use Rattle.std.proofs.Common.{◌≡◌, ℕ, ◌+◌, ◌<◌, Bool, true, false, cond, List, [], ◌∷◌, ◌++◌, length, map, codes}
use Rattle.std.proofs.Common.{Option, Some, None, Result, Ok, Err, refl, sym, ap, subst, ◌∙◌, arith, inl, inr, ltb}
use Rattle.std.proofs.Common.{append_assoc, length-append, ◌||◌}
use Rattle.std.specs.Option.{option_or}
use Rattle.std.specs.Result.{result_unwrap_or}
use Rattle.std.specs.Str.{bytes_eq}
use Rattle.std.proofs.lemmas.Bool.{cases_lt, ltb-true}
use Rattle.std.proofs.lemmas.List.{append-nil, map-append}
use Rattle.std.proofs.lemmas.Slice.Eq.{bytes_eq-Decides}
use Rattle.refusals.specs.declared.Why.{Why}
use Rattle.refusals.specs.declared.Why.TheVariants.{BadName, BadShape, BadWord, TooMany, Twice}
use Rattle.residue_theory.specs.Residues.{IsPrime}
use Rattle.line_lexer.specs.Names.{is_name}
use Rattle.line_lexer.specs.Numbers.{number_of}
use Rattle.line_lexer.proofs.ResidueBounds.{number-below}
use Rattle.line_reader.proofs.Deciding.{both_kept, forbidden, wanted}
use Rattle.mixed_model.specs.Names.{IsNameList, has_name, see}
use Rattle.mixed_model.proofs.NameLaws.{IsNameList-push, IsNameList-see, no_names, see-there}
use Rattle.term_model.proofs.Labels.{name_is_label}
use Rattle.matrix_reader.specs.Items.{has_equals_sign, is_symbol, item_constant, number_text, unknown_of, value_of}
use Rattle.matrix_reader.specs.EquationLists.{Equation, equation_names, equations_in, unknowns_in}
use Rattle.matrix_reader.specs.Models.{items_at, said_of}
use Rattle.matrix_reader.specs.ReaderStates.{so_far}
use Rattle.matrix_reader.specs.Rules.{each_rule, equation_line_rule, equation_rule, item_rule, name_rule, new_equation_rule}
use Rattle.matrix_reader.specs.Rules.{place_rule, room_rule, term_rule, unknown_line_rule, unknown_rule, value_rule, words_rule}
use Rattle.matrix_reader.proofs.LineForms.{equation_last, item_seen, name_seen, no_equation}
use Rattle.matrix_reader.proofs.SaidLaws.{items_at-before, items_at-last, said_of-absent, said_of-push}
use Rattle.matrix_reader.proofs.SeenLaws.{equations_in-push, unknowns_in-push}

-- what holds of no words more, and of each word more that keeps its rule, holds of all words that keep theirs
each_kept : (rule : List (List ℕ) → List ℕ → Option Why) (front : List (List ℕ)) (Holds : List (List ℕ) → Type 0) →
    ((seen : List (List ℕ)) (word : List ℕ) → Holds seen → rule (front ++ seen) word ≡ None → Holds (seen ++ word ∷ [])) →
    (seen words : List (List ℕ)) → Holds seen → each_rule rule (front ++ seen) words ≡ None → Holds (seen ++ words)
each_kept rule front Holds step seen [] holds kept = subst Holds (sym (append-nil seen)) holds
each_kept rule front Holds step seen (word ∷ words) holds kept =
    let both = both_kept (rule (front ++ seen) word) (each_rule rule ((front ++ seen) ++ word ∷ []) words) kept in
    subst Holds (append_assoc seen (word ∷ []) words)
    (each_kept rule front Holds step (seen ++ word ∷ []) words (step seen word holds both.0)
    (ap (λ earlier. each_rule rule earlier words) (sym (append_assoc front seen (word ∷ []))) ∙ both.1))

-- a name for which there is room is seen
name_kept : (name : List ℕ) → name_rule name ≡ None → is_name name ≡ true
name_kept name kept = wanted (is_name name) BadName kept

room_kept : (b : Bool) (n : ℕ) → cond (b || ltb n 4096) None (Some TooMany) ≡ None → b ≡ false → n < 4096
room_kept true n kept none = absurd cc
room_kept false n kept none = ltb-true n 4096 (wanted (ltb n 4096) TooMany kept)

see_kept : (names : List (List ℕ)) (name : List ℕ) → IsNameList names → name_rule name ≡ None → room_rule names name ≡ None → IsNameList (see names name)
see_kept names name all named room = by (has_name names name) refl
  where
    by : (b : Bool) → has_name names name ≡ b → IsNameList (see names name)
    by true e = subst IsNameList (sym (see-there names name e)) all
    by false e = IsNameList-see names name all (name_is_label name (name_kept name named)) (room_kept (has_name names name) (length names) room e)

-- the unknown of an item that keeps its rule has a name
item_named : (p : ℕ) (item : List ℕ) → term_rule p item ≡ None → name_rule (unknown_of item) ≡ None
item_named p item kept = by (has_equals_sign item) kept
  where
    by : (b : Bool) → cond b (option_or (name_rule (unknown_of item)) (value_rule p (value_of item))) (Some BadShape) ≡ None →
        name_rule (unknown_of item) ≡ None
    by true e = (both_kept (name_rule (unknown_of item)) (value_rule p (value_of item)) e).0
    by false e = absurd cc

-- a constant is a residue
constant_below : (p : ℕ) → IsPrime p → (item : List ℕ) → item_constant p item < p
constant_below p prime item = alone (is_symbol (value_of item))
  where
    read : (result : Result ℕ Why) → number_of p (number_text (value_of item)) ≡ result → result_unwrap_or result 0 < p
    read (Ok n) e = number-below p prime (number_text (value_of item)) n e
    read (Err why) e = omega (arith, prime.above_one)

    alone : (b : Bool) → cond b 0 (result_unwrap_or (number_of p (number_text (value_of item))) 0) < p
    alone true = omega (arith, prime.above_one)
    alone false = read (number_of p (number_text (value_of item))) refl

-- what lines give
pub record AreSound (p : ℕ) (lines : List (List (List ℕ))) : Type 0 where
  pub equations : IsNameList (equation_names lines)
  pub unknowns : IsNameList (unknowns_in lines)
  pub constants : (i : ℕ) (unknown : List ℕ) → i < length (equations_in lines) → said_of p (items_at (equations_in lines) i) unknown < p

pub none_sound : (p : ℕ) → AreSound p []
none_sound p = record { equations = no_names; unknowns = no_names; constants = λ i unknown at. absurd (omega arith) }

-- lines that name the same equations, with as good unknowns
same_equations : (p : ℕ) (before after : List (List (List ℕ))) → AreSound p before → equations_in after ≡ equations_in before →
    IsNameList (unknowns_in after) → AreSound p after
same_equations p before after sound same unknowns = record {
  equations = subst (λ list. IsNameList (map (λ (equation : Equation). equation.name) list)) (sym same) sound.equations;
  unknowns = unknowns;
  constants = subst (λ list. (i : ℕ) (unknown : List ℕ) → i < length list → said_of p (items_at list i) unknown < p) (sym same) sound.constants;
}

-- an `unknown` line
module _ (p : ℕ) (before : List (List (List ℕ))) (sound : AreSound p before) where
  UnknownsNamed : List (List ℕ) → Type 0
  UnknownsNamed seen = IsNameList (unknowns_in (before ++ (codes "unknown" ∷ seen) ∷ []))

  one_unknown : (seen : List (List ℕ)) (name : List ℕ) → UnknownsNamed seen → unknown_rule before (codes "unknown" ∷ seen) name ≡ None →
      UnknownsNamed (seen ++ name ∷ [])
  unfolding UnknownsNamed
  one_unknown seen name named kept =
      let names = unknowns_in (before ++ (codes "unknown" ∷ seen) ∷ []) in
      let both = both_kept (name_rule name) (room_rule names name) kept in
      subst IsNameList (sym (name_seen before seen name)) (see_kept names name named both.0 both.1)

  no_unknown : UnknownsNamed []
  unfolding UnknownsNamed
  no_unknown = subst IsNameList (sym (unknowns_in-push before (codes "unknown" ∷ []))) sound.unknowns

  all_unknowns : (names : List (List ℕ)) → each_rule (unknown_rule before) (codes "unknown" ∷ []) names ≡ None →
      IsNameList (unknowns_in (before ++ (codes "unknown" ∷ names) ∷ []))
  unfolding UnknownsNamed
  all_unknowns names kept = each_kept (unknown_rule before) (codes "unknown" ∷ []) UnknownsNamed one_unknown [] names no_unknown kept

  unknown_line : (names : List (List ℕ)) → unknown_line_rule before names ≡ None → AreSound p (before ++ (codes "unknown" ∷ names) ∷ [])
  unknown_line [] kept = absurd cc
  unknown_line (name ∷ names) kept =
      same_equations p before (before ++ (codes "unknown" ∷ name ∷ names) ∷ []) sound (no_equation before (name ∷ names)) (all_unknowns (name ∷ names) kept)

  -- an equation line, item by item
  record ItemsSound (name : List ℕ) (seen : List (List ℕ)) : Type 0 where
    pub unknowns : IsNameList (unknowns_in (before ++ so_far name seen ∷ []))
    pub said : (unknown : List ℕ) → said_of p seen unknown < p

  module _ (prime : IsPrime p) (name : List ℕ) where
    -- what is said with one item more, of an unknown that no item before it names
    said_more : (seen : List (List ℕ)) (item : List ℕ) → ((unknown : List ℕ) → said_of p seen unknown < p) →
        has_name (map unknown_of seen) (unknown_of item) ≡ false → (unknown : List ℕ) → said_of p (seen ++ item ∷ []) unknown < p
    said_more seen item said fresh unknown = by (bytes_eq unknown (unknown_of item)) refl
      where
        by : (b : Bool) → bytes_eq unknown (unknown_of item) ≡ b → said_of p (seen ++ item ∷ []) unknown < p
        by false e = omega (arith, said_of-push p seen item unknown ∙ ap (λ b. said_of p seen unknown + cond b (item_constant p item) 0) e, said unknown)
        by true e =
            let same : unknown ≡ unknown_of item = (bytes_eq-Decides unknown (unknown_of item)).0 e in
            let nothing : said_of p seen unknown ≡ 0 = said_of-absent p seen unknown (ap (has_name (map unknown_of seen)) same ∙ fresh) in
            omega (
              arith,
              said_of-push p seen item unknown ∙ ap (λ b. said_of p seen unknown + cond b (item_constant p item) 0) e,
              nothing,
              constant_below p prime item,
            )

    one_item : (seen : List (List ℕ)) (item : List ℕ) → ItemsSound name seen → item_rule p before (so_far name seen) item ≡ None →
        ItemsSound name (seen ++ item ∷ [])
    one_item seen item sound_so_far kept =
        let names = unknowns_in (before ++ so_far name seen ∷ []) in
        let both = both_kept (term_rule p item) (place_rule before (so_far name seen) (unknown_of item)) kept in
        let place = forbidden (has_name (map unknown_of seen) (unknown_of item)) Twice (room_rule names (unknown_of item)) both.1 in
        record {
          unknowns = subst IsNameList (sym (item_seen before name seen item))
              (see_kept names (unknown_of item) sound_so_far.unknowns (item_named p item both.0) place.1);
          said = said_more seen item sound_so_far.said place.0;
        }

    no_item : ItemsSound name []
    no_item = record {
      unknowns = subst IsNameList (sym (unknowns_in-push before (so_far name []))) sound.unknowns;
      said = λ unknown. omega (arith, prime.above_one);
    }

    all_items : (items : List (List ℕ)) → each_rule (item_rule p before) (codes "eq" ∷ name ∷ []) items ≡ None → ItemsSound name items
    all_items items kept = each_kept (item_rule p before) (codes "eq" ∷ name ∷ []) (ItemsSound name) one_item [] items no_item kept

    with_equation : (items : List (List ℕ)) → equation_rule before name ≡ None → ItemsSound name items → AreSound p (before ++ so_far name items ∷ [])
    with_equation items kept items_sound =
        let equation : Equation = record { name = name; items = items } in
        let list = equations_in before in
        let names = equation_names before in
        let both = both_kept (name_rule name) (new_equation_rule names name) kept in
        let new = forbidden (has_name names name) Twice (cond (ltb (length names) 4096) None (Some TooMany)) both.1 in
        record {
          equations = subst (λ all. IsNameList (map (λ (equation : Equation). equation.name) all)) (sym (equation_last before name items))
              (subst IsNameList (sym (map-append (λ (equation : Equation). equation.name) list (equation ∷ [])))
              (IsNameList-push names name sound.equations (name_is_label name (name_kept name both.0)) new.0
              (ltb-true (length names) 4096 (wanted (ltb (length names) 4096) TooMany new.1))));
          unknowns = items_sound.unknowns;
          constants = subst (λ all. (i : ℕ) (unknown : List ℕ) → i < length all → said_of p (items_at all i) unknown < p)
              (sym (equation_last before name items))
              (λ i unknown at. elim (cases_lt i (length list)) [
                | inl low ↦ subst (λ items. said_of p items unknown < p) (sym (items_at-before list equation i low)) (sound.constants i unknown low)
                | inr high ↦ subst (λ items. said_of p items unknown < p)
                    (sym (items_at-last list equation i (omega (arith, at, high, length-append list (equation ∷ []))))) (items_sound.said unknown)
              ]);
        }

    equation_line : (words : List (List ℕ)) → equation_line_rule p before (name ∷ words) ≡ None → AreSound p (before ++ (codes "eq" ∷ name ∷ words) ∷ [])
    equation_line words kept =
        let both = both_kept (equation_rule before name) (each_rule (item_rule p before) (codes "eq" ∷ name ∷ []) words) kept in
        with_equation words both.0 (all_items words both.1)

-- A line more that keeps the rule of words.
pub one_line : (p : ℕ) → IsPrime p → (before : List (List (List ℕ))) (words : List (List ℕ)) → AreSound p before →
    words_rule p before words ≡ None → AreSound p (before ++ words ∷ [])
one_line p prime before [] sound kept =
    same_equations p before (before ++ [] ∷ []) sound (equations_in-push before [] ∙ append-nil (equations_in before))
    (subst IsNameList (sym (unknowns_in-push before [])) sound.unknowns)
one_line p prime before (word ∷ words) sound kept = by (bytes_eq word (codes "eq")) refl (bytes_eq word (codes "unknown")) refl kept
  where
    equation : (words : List (List ℕ)) → equation_line_rule p before words ≡ None → AreSound p (before ++ (codes "eq" ∷ words) ∷ [])
    equation [] kept = absurd cc
    equation (name ∷ items) kept = equation_line p before sound prime name items kept

    by : (a : Bool) → bytes_eq word (codes "eq") ≡ a → (b : Bool) → bytes_eq word (codes "unknown") ≡ b →
        cond a (equation_line_rule p before words) (cond b (unknown_line_rule before words) (Some BadWord)) ≡ None →
        AreSound p (before ++ (word ∷ words) ∷ [])
    by true e b f told =
        subst (λ first. AreSound p (before ++ (first ∷ words) ∷ [])) (sym ((bytes_eq-Decides word (codes "eq")).0 e)) (equation words told)
    by false e true f told =
        subst (λ first. AreSound p (before ++ (first ∷ words) ∷ [])) (sym ((bytes_eq-Decides word (codes "unknown")).0 f))
        (unknown_line p before sound words told)
    by false e false f told = absurd cc
