-- Lists of names, and a name that is added to one.
use Rattle.std.proofs.Common.{◌≡◌, ◌≢◌, ℕ, ◌+◌, ◌<◌, ◌≤◌, nat_eq, ⊎_elim, Bool, IsTrue, true, false, not, ◌||◌, cond}
use Rattle.std.proofs.Common.{List, [], ◌∷◌, ◌++◌, length, map, position, get_or, Result, Ok, Err, Some, None, refl}
use Rattle.std.proofs.Common.{sym, ap, subst, ◌∙◌, arith, ltb, ltb-false, lt-ltb, le-ltb, length-append}
use Rattle.std.specs.List.{IsDistinct, list_any, position_or_len, remove}
use Rattle.std.proofs.lemmas.List.Folds.{list_any_at, list_any_none}
use Rattle.std.proofs.lemmas.List.Quantifiers.{position-Some}
use Rattle.std.proofs.lemmas.List.Sums.{fails_before_first, prefix_len-le-length}
use Rattle.std.proofs.lemmas.Slice.Eq.{bytes_eq-Decides}
use Rattle.std.specs.Str.{bytes_eq}
use Rattle.std.specs.Cmp.Lexicographic.{nat_list_eq_equiv}
use Rattle.std.proofs.lemmas.List.{length-map, map-append}
use Rattle.std.specs.String.{string_bytes, string_eq}
use Rattle.std.specs.declared.string.String.{String}
use Rattle.indexmap.specs.IndexSet.{insert_key}
use Rattle.std.proofs.lemmas.List.Edits.{length-remove}
use Rattle.std.proofs.lemmas.List.Elements.{All-push}
use Rattle.std.proofs.lemmas.Map.Keys.{IsDistinct-push, apart_from_distinct}
use Rattle.std.proofs.lemmas.Bool.{cases_lt, eqb-true, eqb-false, false_from_ne_true}
use Rattle.mixed_model.specs.declared.errors.AddError.TheVariants.{Twice, TooMany}
use Rattle.mixed_model.specs.Names.{is_label, IsNameList, has_name, see, appending, adding, seeing, place_or_end, AnswersAdd}
use Rattle.mixed_model.specs.declared.errors.AddError.{AddError}
use Rattle.mixed_model.proofs.ListLaws.{All-remove, IsDistinct-remove}

pub list_any_map : {X Y : Type 0} (test : Y → Bool) (f : X → Y) (xs : List X) → list_any test (map f xs) ≡ list_any (λ x. test (f x)) xs
list_any_map test f [] = refl
list_any_map test f (x ∷ xs) = ap (λ b. test (f x) || b) (list_any_map test f xs)

position_or_len_map : {X Y : Type 0} (test : Y → Bool) (f : X → Y) (xs : List X) → position_or_len test (map f xs) ≡ position_or_len (λ x. test (f x)) xs
position_or_len_map test f [] = refl
position_or_len_map test f (x ∷ xs) = ap (λ n. cond (not (test (f x))) (1 + n) 0) (position_or_len_map test f xs)

pub position_map : {X Y : Type 0} (test : Y → Bool) (f : X → Y) (xs : List X) → position test (map f xs) ≡ position (λ x. test (f x)) xs
position_map test f xs =
    let same = position_or_len_map test f xs in
    let long : length (map f xs) ≡ length xs = length-map xs f in
    λ i. cond (ltb (same i) (long i)) (Some (same i)) None

-- where a name is found, and what that says
pub has_name-Some : (names : List (List ℕ)) (name : List ℕ) (k : ℕ) → position (bytes_eq name) names ≡ Some k →
    (k < length names) × (get_or names k [] ≡ name) × (has_name names name ≡ true)
has_name-Some names name k found =
    let at = position-Some (bytes_eq name) names k [] found in
    (at.0, sym ((bytes_eq-Decides name (get_or names k [])).0 at.1), list_any_at (bytes_eq name) names k [] at.0 at.1)

-- no place is found where the first one that passes is past the end
no_place : {X : Type 0} (test : X → Bool) (xs : List X) → position test xs ≡ None → position_or_len test xs ≡ length xs
no_place test xs none = by (ltb (position_or_len test xs) (length xs)) refl
  where
    by : (b : Bool) → ltb (position_or_len test xs) (length xs) ≡ b → position_or_len test xs ≡ length xs
    by true e = let f : ⊥ = cc in absurd f
    by false e = omega (arith, ltb-false (position_or_len test xs) (length xs) e, prefix_len-le-length (λ x. not (test x)) xs)

pub has_name-None : (names : List (List ℕ)) (name : List ℕ) → position (bytes_eq name) names ≡ None → has_name names name ≡ false
has_name-None names name none =
    let whole = no_place (bytes_eq name) names none in
    list_any_none (bytes_eq name) names (λ k d at. fails_before_first (bytes_eq name) names k d (omega arith))

pub appending-TooMany : (names : List (List ℕ)) → 4096 ≤ length names → appending names ≡ Err TooMany
appending-TooMany names full = rw (le-ltb (length names) 4096 full) refl

pub appending-Ok : (names : List (List ℕ)) → length names < 4096 → appending names ≡ Ok (length names)
appending-Ok names room = rw (lt-ltb (length names) 4096 room) refl

pub ruleset appending_laws = (appending-TooMany, appending-Ok)

pub adding-Twice : (names : List (List ℕ)) (name : List ℕ) → has_name names name ≡ true → adding names name ≡ Err Twice
adding-Twice names name there = rw there refl

pub adding-new : (names : List (List ℕ)) (name : List ℕ) → has_name names name ≡ false → (result : Result ℕ AddError) →
    AnswersAdd result (appending names) → AnswersAdd result (adding names name)
adding-new names name new result answer = rw new answer

pub ruleset adding_laws = (adding-Twice, adding-new)

pub seeing-found : (names : List (List ℕ)) (name : List ℕ) (place : ℕ) → position (bytes_eq name) names ≡ Some place → seeing names name ≡ Ok place
seeing-found names name place found = ap (place_or_end names) found

pub seeing-new : (names : List (List ℕ)) (name : List ℕ) → position (bytes_eq name) names ≡ None →
    (result : Result ℕ AddError) → AnswersAdd result (appending names) → AnswersAdd result (seeing names name)
seeing-new names name none result answer = subst (λ found. AnswersAdd result (place_or_end names found)) (sym none) answer

pub see-found : (names : List (List ℕ)) (name : List ℕ) (place : ℕ) → position (bytes_eq name) names ≡ Some place → names ≡ see names name
see-found names name place found = rw (has_name-Some names name place found).2 refl

pub see-there : (names : List (List ℕ)) (name : List ℕ) → has_name names name ≡ true → see names name ≡ names
see-there names name there = rw there refl

pub see-new : (names : List (List ℕ)) (name : List ℕ) → has_name names name ≡ false → see names name ≡ names ++ name ∷ []
see-new names name new = rw new refl

pub ruleset seeing_laws = (seeing-found, seeing-new, see-found, see-new, has_name-None)

pub no_names : IsNameList []
unfolding IsDistinct
no_names = record { labels = λ k d short. absurd (omega arith); few = omega arith; distinct = tt }

pub IsNameList-push : (names : List (List ℕ)) (name : List ℕ) → IsNameList names → IsTrue (is_label name) →
    has_name names name ≡ false → length names < 4096 → IsNameList (names ++ name ∷ [])
IsNameList-push names name all label new room = record {
  labels = All-push (λ name. IsTrue (is_label name)) names name all.labels label;
  few = omega (arith, length-append names (name ∷ []));
  distinct = IsDistinct-push nat_list_eq_equiv names name all.distinct new;
}

pub IsNameList-see : (names : List (List ℕ)) (name : List ℕ) → IsNameList names → IsTrue (is_label name) →
    length names < 4096 → IsNameList (see names name)
IsNameList-see names name all label room = by (has_name names name) refl
  where
    by : (b : Bool) → has_name names name ≡ b → IsNameList (see names name)
    by true e = subst IsNameList (sym (see-there names name e)) all
    by false e = subst IsNameList (sym (see-new names name e)) (IsNameList-push names name all label e room)

-- names of which one is taken out
pub IsNameList-remove : (names : List (List ℕ)) (i : ℕ) → IsNameList names → i < length names → IsNameList (remove names i)
IsNameList-remove names i all within = record {
  labels = All-remove (λ name. IsTrue (is_label name)) names i within all.labels;
  few = omega (arith, all.few, length-remove names i within);
  distinct = IsDistinct-remove bytes_eq names i within all.distinct;
}

-- whether a text is among some is told by their bytes
pub text_is_there : {A : Type 0} (keys : List (String A)) (text : String A) (name : List ℕ) →
    string_bytes text ≡ name → list_any (string_eq text) keys ≡ has_name (map string_bytes keys) name
text_is_there keys text name bytes =
    ap (λ t. list_any (λ key. bytes_eq t (string_bytes key)) keys) bytes ∙ sym (list_any_map (bytes_eq name) string_bytes keys)

-- a text goes last, unless it is there
pub map-insert_key : {A : Type 0} (keys : List (String A)) (text : String A) (name : List ℕ) →
    string_bytes text ≡ name → map string_bytes (insert_key string_eq keys text) ≡ see (map string_bytes keys) name
map-insert_key keys text name bytes = by (has_name names name) refl
  where
    names : List (List ℕ)
    names = map string_bytes keys

    by : (b : Bool) → has_name names name ≡ b → map string_bytes (insert_key string_eq keys text) ≡ see names name
    by true e =
        ap (λ there. map string_bytes (cond there keys (keys ++ text ∷ []))) (text_is_there keys text name bytes ∙ e)
        ∙ sym (see-there names name e)
    by false e =
        ap (λ there. map string_bytes (cond there keys (keys ++ text ∷ []))) (text_is_there keys text name bytes ∙ e)
        ∙ map-append string_bytes keys (text ∷ [])
        ∙ ap (λ t. names ++ t ∷ []) bytes
        ∙ sym (see-new names name e)

-- a name is itself
pub bytes_eq-refl : (name : List ℕ) → bytes_eq name name ≡ true
bytes_eq-refl name = (bytes_eq-Decides name name).1 refl

-- names at different places differ
pub names_apart : (names : List (List ℕ)) (i j : ℕ) → IsDistinct bytes_eq names → i ≢ j → i < length names →
    j < length names → bytes_eq (get_or names i []) (get_or names j []) ≡ false
names_apart names i j distinct differs here there = ⊎_elim
    (λ less. apart_from_distinct bytes_eq names i j [] distinct less there)
    (λ more.
    let apart = apart_from_distinct bytes_eq names j i [] distinct (omega arith) here in
    false_from_ne_true (bytes_eq (get_or names i []) (get_or names j [])) (λ same.
    let e : get_or names i [] ≡ get_or names j [] = (bytes_eq-Decides (get_or names i []) (get_or names j [])).0 same in
    let back : bytes_eq (get_or names j []) (get_or names i []) ≡ true = (bytes_eq-Decides (get_or names j []) (get_or names i [])).1 (sym e) in
    let f : ⊥ = cc in f))
    (cases_lt i j)

-- a name stands at one place of names that differ
pub stands_once : (names : List (List ℕ)) (name : List ℕ) (i k : ℕ) → IsDistinct bytes_eq names → i < length names →
    k < length names → get_or names i [] ≡ name → bytes_eq (get_or names k []) name ≡ nat_eq i k
stands_once names name i k distinct within also here = by (nat_eq i k) refl
  where
    by : (b : Bool) → nat_eq i k ≡ b → bytes_eq (get_or names k []) name ≡ b
    by true e = (bytes_eq-Decides (get_or names k []) name).1 (ap (λ n. get_or names n []) (sym (eqb-true i k e)) ∙ here)
    by false e = ap (bytes_eq (get_or names k [])) (sym here) ∙ names_apart names k i distinct (λ same. eqb-false i k e (sym same)) also within
