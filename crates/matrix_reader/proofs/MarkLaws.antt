-- Unknowns that are found, marked and added.
use Rattle.std.proofs.Common.{◌≡◌, ◌≢◌, ℕ, ◌+◌, ◌<◌, Bool, true, false, cond, ◌||◌, List, [], ◌∷◌, ◌++◌, length, map}
use Rattle.std.proofs.Common.{set, get_or, position, Option, Some, None, Ok, Err, refl, sym, ap, subst, ◌∙◌, arith}
use Rattle.std.proofs.Common.{eqb, eq-eqb, ne_eqb, ltb, ltb-true, lt-ltb, le-ltb, ⊎_elim, length-append, length-set}
use Rattle.std.proofs.Common.{get_or-set_same, get_or-set_other}
use Rattle.std.specs.Str.{bytes_eq}
use Rattle.std.proofs.lemmas.Bool.{cases_lt, cases_eq, false_from_ne_true}
use Rattle.std.proofs.lemmas.List.{map-append, get_or_append_left, get_or_push, get_or_past}
use Rattle.std.proofs.lemmas.List.Folds.{list_any-append, list_any_at}
use Rattle.std.proofs.lemmas.Slice.Eq.{bytes_eq-Decides}
use Rattle.refusals.specs.declared.Why.{Why}
use Rattle.refusals.specs.declared.Why.TheVariants.{Twice as StandsTwice, TooMany as IsFull}
use Rattle.mixed_model.specs.declared.errors.AddError.TheVariants.{TooMany}
use Rattle.mixed_model.specs.Names.{see, has_name, seeing, place_or_end}
use Rattle.mixed_model.specs.Models.{MixedModel, IsModel, with_unknown, with_seen_unknown}
use Rattle.mixed_model.proofs.NameLaws.{has_name-Some, has_name-None, names_apart}
use Rattle.matrix_reader.specs.Items.{unknown_of}
use Rattle.matrix_reader.specs.EquationLists.{equations_in, unknowns_in}
use Rattle.matrix_reader.specs.Rules.{place_rule, room_rule}
use Rattle.matrix_reader.specs.ReaderStates.{IsWithinLine, MarkedFrom, UnmarkedFrom, SeenFrom, so_far}
use Rattle.matrix_reader.specs.Models.{items_at}
use Rattle.matrix_reader.proofs.SaidLaws.{items_at-last, absent-unseen}
use Rattle.matrix_reader.proofs.LineForms.{equation_last}

-- an unknown that was found or added: by where it stood
abbrev pub FoundOrAdded : Option ℕ → MixedModel → MixedModel → List ℕ → ℕ → Type 0
FoundOrAdded (Some k) old new unknown j = (j ≡ k) × (k < length old.unknowns) × (new ≡ old)
FoundOrAdded None old new unknown j = (j ≡ length old.unknowns) × (length old.unknowns < 4096) × (new ≡ with_unknown old unknown)

pub FoundOrAdded-from : (old new : MixedModel) (unknown : List ℕ) (j : ℕ) → seeing old.unknowns unknown ≡ Ok j →
    new ≡ with_seen_unknown old unknown → FoundOrAdded (position (bytes_eq unknown) old.unknowns) old new unknown j
FoundOrAdded-from old new unknown j answer seen = by (position (bytes_eq unknown) old.unknowns) refl answer
  where
    last : (b : Bool) → ltb (length old.unknowns) 4096 ≡ b → has_name old.unknowns unknown ≡ false →
        cond b (Ok (length old.unknowns)) (Err TooMany) ≡ Ok j → FoundOrAdded None old new unknown j
    last true room absent e =
        let same : length old.unknowns ≡ j = cc in (
          sym same,
          ltb-true (length old.unknowns) 4096 room,
          seen
              ∙ ap (λ b. record old { unknowns = cond b old.unknowns (old.unknowns ++ unknown ∷ []) }) absent,
        )
    last false room absent e = let f : ⊥ = cc in absurd f

    by : (o : Option ℕ) → position (bytes_eq unknown) old.unknowns ≡ o → place_or_end old.unknowns o ≡ Ok j → FoundOrAdded o old new unknown j
    by (Some k) e a =
        let at = has_name-Some old.unknowns unknown k e in
        let same : k ≡ j = cc in
        (sym same, at.0, seen ∙ ap (λ b. record old { unknowns = cond b old.unknowns (old.unknowns ++ unknown ∷ []) }) at.2)
    by None e a = last (ltb (length old.unknowns) 4096) refl (has_name-None old.unknowns unknown e) a

-- how many unknowns there are then
pub one_more : (o : Option ℕ) (old new : MixedModel) (unknown : List ℕ) (j : ℕ) → FoundOrAdded o old new unknown j →
    j ≡ length old.unknowns → length new.unknowns ≡ length old.unknowns + 1
one_more (Some k) old new unknown j found last = absurd (omega (arith, found.0, found.1, last))
one_more None old new unknown j found last = ap (λ model. length model.unknowns) found.2 ∙ length-append old.unknowns (unknown ∷ [])

pub no_more : (o : Option ℕ) (old new : MixedModel) (unknown : List ℕ) (j : ℕ) → FoundOrAdded o old new unknown j →
    j ≢ length old.unknowns → length new.unknowns ≡ length old.unknowns
no_more (Some k) old new unknown j found known = ap (λ model. length model.unknowns) found.2
no_more None old new unknown j found known = absurd (known found.0)

pub known_within : (o : Option ℕ) (old new : MixedModel) (unknown : List ℕ) (j : ℕ) →
    FoundOrAdded o old new unknown j → j ≢ length old.unknowns → j < length old.unknowns
known_within (Some k) old new unknown j found known = omega (arith, found.0, found.1)
known_within None old new unknown j found known = absurd (known found.0)

-- one past the last column is that of a new unknown, which may stand anywhere
pub marked_new : (p : ℕ) (o : Option ℕ) (old new : MixedModel) (unknown : List ℕ) (j line : ℕ)
    (lines new_lines : List ℕ) → FoundOrAdded o old new unknown j → IsModel p new → j ≡ length old.unknowns →
    new_lines ≡ lines ++ line ∷ [] → MarkedFrom p o line old new lines new_lines unknown j
marked_new p (Some k) old new unknown j line lines new_lines found is last pushed = absurd (omega (arith, found.0, found.1, last))
marked_new p None old new unknown j line lines new_lines found is last pushed = (found.0, found.1, found.2, is, pushed)

pub seen_new : (p : ℕ) (o : Option ℕ) (old new : MixedModel) (unknown : List ℕ) (j line : ℕ)
    (lines new_lines : List ℕ) → FoundOrAdded o old new unknown j → IsModel p new → j ≡ length old.unknowns →
    new_lines ≡ lines ++ line ∷ [] → SeenFrom p o line old new lines new_lines unknown
seen_new p (Some k) old new unknown j line lines new_lines found is last pushed = absurd (omega (arith, found.0, found.1, last))
seen_new p None old new unknown j line lines new_lines found is last pushed = (found.1, found.2, is, pushed)

-- an earlier column is that of a known one, which may not have stood in the line
pub marked_known : (p : ℕ) (o : Option ℕ) (old new : MixedModel) (unknown : List ℕ) (j line : ℕ)
    (lines new_lines : List ℕ) → FoundOrAdded o old new unknown j → j ≢ length old.unknowns →
    new_lines ≡ set lines j line → get_or lines j 0 ≢ line → MarkedFrom p o line old new lines new_lines unknown j
marked_known p (Some k) old new unknown j line lines new_lines found known marked elsewhere =
    (found.0, found.2, subst (λ i. new_lines ≡ set lines i line) found.0 marked, subst (λ i. get_or lines i 0 ≢ line) found.0 elsewhere)
marked_known p None old new unknown j line lines new_lines found known marked elsewhere = absurd (known found.0)

pub seen_known : (p : ℕ) (o : Option ℕ) (old new : MixedModel) (unknown : List ℕ) (j line : ℕ) (lines : List ℕ) →
    FoundOrAdded o old new unknown j → j ≢ length old.unknowns → SeenFrom p o line old new lines lines unknown
seen_known p (Some k) old new unknown j line lines found known = (found.2, refl)
seen_known p None old new unknown j line lines found known = absurd (known found.0)

-- what is known after an unknown is marked
pub record Marks (p : ℕ) (before : List (List (List ℕ))) (name : List ℕ) (items : List (List ℕ)) (line : ℕ)
    (old new : MixedModel) (new_lines : List ℕ) (item : List ℕ) (j : ℕ) : Type 0 where
  pub fresh : has_name (map unknown_of items) (unknown_of item) ≡ false
  pub room : (has_name old.unknowns (unknown_of item) || ltb (length old.unknowns) 4096) ≡ true
  pub is_model : IsModel p new
  pub equations : new.equations ≡ old.equations
  pub rows : new.rows ≡ old.rows
  pub unknowns : new.unknowns ≡ see old.unknowns (unknown_of item)
  pub within : j < length new.unknowns
  pub place : get_or new.unknowns j [] ≡ unknown_of item
  pub lengths : length new_lines ≡ length new.unknowns
  pub earlier : (k : ℕ) → get_or new_lines k 0 < line + 1
  pub marks : (k : ℕ) → k < length new.unknowns → eqb (get_or new_lines k 0) line ≡ has_name (map unknown_of (items ++ item ∷ [])) (get_or new.unknowns k [])

-- a name among those of one item more
has_name-push : (items : List (List ℕ)) (item name : List ℕ) → has_name (map unknown_of (items ++ item ∷ [])) name ≡
    (has_name (map unknown_of items) name || (bytes_eq name (unknown_of item) || false))
has_name-push items item name =
    ap (λ names. has_name names name) (map-append unknown_of items (item ∷ []))
    ∙ list_any-append (bytes_eq name) (map unknown_of items) (unknown_of item ∷ [])

bytes_eq-false : (name other : List ℕ) → name ≢ other → bytes_eq name other ≡ false
bytes_eq-false name other differs = false_from_ne_true (bytes_eq name other) (λ same. differs ((bytes_eq-Decides name other).0 same))

has_name-push_same : (items : List (List ℕ)) (item name : List ℕ) → name ≡ unknown_of item → has_name (map unknown_of (items ++ item ∷ [])) name ≡ true
has_name-push_same items item name same = has_name-push items item name
    ∙ rw ((bytes_eq-Decides name (unknown_of item)).1 same) (by (has_name (map unknown_of items) name))
  where
    by : (b : Bool) → (b || true) ≡ true
    by true = refl
    by false = refl

has_name-push_other : (items : List (List ℕ)) (item name : List ℕ) → name ≢ unknown_of item →
    has_name (map unknown_of (items ++ item ∷ [])) name ≡ has_name (map unknown_of items) name
has_name-push_other items item name differs = has_name-push items item name
    ∙ rw (bytes_eq-false name (unknown_of item) differs) (by (has_name (map unknown_of items) name))
  where
    by : (b : Bool) → (b || false) ≡ b
    by true = refl
    by false = refl

module _ (p : ℕ) (before : List (List (List ℕ))) (name : List ℕ) (items : List (List ℕ)) (line : ℕ)
    (old : MixedModel) (old_lines : List ℕ) (item : List ℕ)
    (at_line : IsWithinLine p before (so_far name items) line old old_lines) where
  -- an unknown that is not there stands in no item of the line
  fresh_new : has_name old.unknowns (unknown_of item) ≡ false → has_name (map unknown_of items) (unknown_of item) ≡ false
  fresh_new absent =
      let all = before ++ so_far name items ∷ [] in
      let unseen : has_name (unknowns_in all) (unknown_of item) ≡ false =
      subst (λ names. has_name names (unknown_of item) ≡ false) at_line.read.gives.unknowns_are absent in
      ap (λ mine. has_name (map unknown_of mine) (unknown_of item))
      (sym (ap (λ list. items_at list (length (equations_in before))) (equation_last before name items)
      ∙ items_at-last (equations_in before) (record { name = name; items = items })
      (length (equations_in before)) refl))
      ∙ absent-unseen all (unknown_of item) (length (equations_in before)) unseen

  -- an unknown that was there
  marks_known : (k : ℕ) → position (bytes_eq (unknown_of item)) old.unknowns ≡ Some k → get_or old_lines k 0 ≢ line →
      Marks p before name items line old old (set old_lines k line) item k
  marks_known k found elsewhere =
      let at = has_name-Some old.unknowns (unknown_of item) k found in
      let counted : k < length old_lines = omega (arith, at.0, at_line.read.lengths) in
      record {
        fresh = ap (has_name (map unknown_of items)) (sym at.1) ∙ sym (at_line.marks k at.0) ∙ ne_eqb (get_or old_lines k 0) line elsewhere;
        room = rw at.2 refl;
        is_model = at_line.read.gives.is_model;
        equations = refl;
        rows = refl;
        unknowns = sym (ap (λ b. cond b old.unknowns (old.unknowns ++ unknown_of item ∷ [])) at.2);
        within = at.0;
        place = at.1;
        lengths = length-set old_lines k line ∙ at_line.read.lengths;
        earlier = λ m. ⊎_elim
            (λ same. subst (λ i. get_or (set old_lines k line) i 0 < line + 1) (sym same) (omega (arith, get_or-set_same old_lines k line 0 counted)))
            (λ other. omega (arith, get_or-set_other old_lines k m line 0 other, at_line.read.earlier m))
            (cases_eq m k);
        marks = λ m within. ⊎_elim
            (λ same. subst (λ i. eqb (get_or (set old_lines k line) i 0) line ≡ has_name
            (map unknown_of (items ++ item ∷ [])) (get_or old.unknowns i [])) (sym same)
            (eq-eqb (get_or (set old_lines k line) k 0) line (get_or-set_same old_lines k line 0 counted)
            ∙ sym (has_name-push_same items item (get_or old.unknowns k []) at.1)))
            (λ other.
            let differs : get_or old.unknowns m [] ≢ unknown_of item = λ same.
            let apart = names_apart old.unknowns m k at_line.read.gives.is_model.unknowns.distinct other within at.0 in
            let equal : bytes_eq (get_or old.unknowns m []) (get_or old.unknowns k []) ≡ true =
            (bytes_eq-Decides (get_or old.unknowns m []) (get_or old.unknowns k [])).1 (same ∙ sym at.1) in
            let f : ⊥ = cc in f in
            ap (λ n. eqb n line) (get_or-set_other old_lines k m line 0 other) ∙ at_line.marks m within
            ∙ sym (has_name-push_other items item (get_or old.unknowns m []) differs))
            (cases_eq m k);
      }

  -- a new unknown
  marks_new : position (bytes_eq (unknown_of item)) old.unknowns ≡ None → length old.unknowns < 4096 →
      IsModel p (with_unknown old (unknown_of item)) → Marks p before name items line old
      (with_unknown old (unknown_of item)) (old_lines ++ line ∷ []) item (length old.unknowns)
  marks_new none room is =
      let absent = has_name-None old.unknowns (unknown_of item) none in
      record {
        fresh = fresh_new absent;
        room = rw (absent, lt-ltb (length old.unknowns) 4096 room) refl;
        is_model = is;
        equations = refl;
        rows = refl;
        unknowns = sym (ap (λ b. cond b old.unknowns (old.unknowns ++ unknown_of item ∷ [])) absent);
        within = omega (arith, length-append old.unknowns (unknown_of item ∷ []));
        place = get_or_push old.unknowns (unknown_of item) [] (length old.unknowns) refl;
        lengths = length-append old_lines (line ∷ []) ∙ ap (λ n. n + 1) at_line.read.lengths ∙ sym (length-append old.unknowns (unknown_of item ∷ []));
        earlier = λ m. ⊎_elim
            (λ less. omega (arith, get_or_append_left old_lines (line ∷ []) 0 m less, at_line.read.earlier m))
            (λ more. ⊎_elim
            (λ last. omega (arith, get_or_push old_lines line 0 m (sym last)))
            (λ past. omega (arith, get_or_past (old_lines ++ line ∷ []) m 0 (omega (arith, length-append old_lines (line ∷ [])))))
            (cases_eq m (length old_lines)))
            (cases_lt m (length old_lines));
        marks = λ m within. ⊎_elim
            (λ less.
            let differs : get_or old.unknowns m [] ≢ unknown_of item = λ same.
            let there : has_name old.unknowns (unknown_of item) ≡ true =
            list_any_at (bytes_eq (unknown_of item)) old.unknowns m [] less
            ((bytes_eq-Decides (unknown_of item) (get_or old.unknowns m [])).1 (sym same)) in
            let f : ⊥ = cc in f in
            ap (λ n. eqb n line) (get_or_append_left old_lines (line ∷ []) 0 m (omega (arith, at_line.read.lengths)))
            ∙ at_line.marks m less
            ∙ sym (ap (has_name (map unknown_of (items ++ item ∷ [])))
            (get_or_append_left old.unknowns (unknown_of item ∷ []) [] m less) ∙ has_name-push_other items item
            (get_or old.unknowns m []) differs))
            (λ more.
            let last : length old.unknowns ≡ m = omega (arith, length-append old.unknowns (unknown_of item ∷ [])) in
            eq-eqb (get_or (old_lines ++ line ∷ []) m 0) line (get_or_push old_lines line 0 m (at_line.read.lengths ∙ last))
            ∙ sym (has_name-push_same items item (get_or (old.unknowns ++ unknown_of item ∷ []) m []) (get_or_push old.unknowns (unknown_of item) [] m last)))
            (cases_lt m (length old.unknowns));
      }

  pub Marks-from_mark : (new : MixedModel) (new_lines : List ℕ) (j : ℕ) →
      MarkedFrom p (position (bytes_eq (unknown_of item)) old.unknowns) line old new old_lines new_lines
      (unknown_of item) j → Marks p before name items line old new new_lines item j
  Marks-from_mark new new_lines j marked = by (position (bytes_eq (unknown_of item)) old.unknowns) refl marked
    where
      by : (o : Option ℕ) → position (bytes_eq (unknown_of item)) old.unknowns ≡ o →
          MarkedFrom p o line old new old_lines new_lines (unknown_of item) j →
          Marks p before name items line old new new_lines item j
      by (Some k) e m =
          subst (λ i. Marks p before name items line old new new_lines item i) (sym m.0)
          (subst (λ n. Marks p before name items line old n new_lines item k) (sym m.1)
          (subst (λ lines. Marks p before name items line old old lines item k) (sym m.2) (marks_known k e m.3)))
      by None e m =
          subst (λ i. Marks p before name items line old new new_lines item i) (sym m.0)
          (subst (λ n. Marks p before name items line old n new_lines item (length old.unknowns)) (sym m.2)
          (subst (λ lines. Marks p before name items line old (with_unknown old (unknown_of item)) lines item
          (length old.unknowns)) (sym m.4) (marks_new e m.1 (subst (IsModel p) m.2 m.3))))

  -- a marked item keeps the rule of its place
  pub marked_rule : (new : MixedModel) (new_lines : List ℕ) (j : ℕ) →
      Marks p before name items line old new new_lines item j → place_rule before (so_far name items)
      (unknown_of item) ≡ None
  marked_rule new new_lines j marks =
      ap (λ b. cond b (Some StandsTwice) (room_rule (unknowns_in (before ++ so_far name items ∷ [])) (unknown_of item))) marks.fresh
      ∙ ap (λ names. room_rule names (unknown_of item)) (sym at_line.read.gives.unknowns_are)
      ∙ ap (λ b. cond b None (Some IsFull)) marks.room

  -- and one that can't be marked breaks it
  pub unmarked_rule : (why : Why) → UnmarkedFrom (position
      (bytes_eq (unknown_of item)) old.unknowns) line old old_lines why → place_rule before (so_far name items)
      (unknown_of item) ≡ Some why
  unmarked_rule why told = by (position (bytes_eq (unknown_of item)) old.unknowns) refl told
    where
      by : (o : Option ℕ) → position (bytes_eq (unknown_of item)) old.unknowns ≡ o →
          UnmarkedFrom o line old old_lines why → place_rule before (so_far name items) (unknown_of item) ≡ Some why
      by (Some k) e (same, stood) =
          let at = has_name-Some old.unknowns (unknown_of item) k e in
          let twice : has_name (map unknown_of items) (unknown_of item) ≡ true =
          ap (has_name (map unknown_of items)) (sym at.1) ∙ sym (at_line.marks k at.0) ∙ eq-eqb (get_or old_lines k 0) line stood in
          rw (same, twice) refl
      by None e (same, full) =
          let absent = has_name-None old.unknowns (unknown_of item) e in
          ap (λ b. cond b (Some StandsTwice) (room_rule (unknowns_in (before ++ so_far name items ∷ [])) (unknown_of item))) (fresh_new absent)
          ∙ ap (λ names. room_rule names (unknown_of item)) (sym at_line.read.gives.unknowns_are)
          ∙ rw (same, absent, le-ltb (length old.unknowns) 4096 full) refl
