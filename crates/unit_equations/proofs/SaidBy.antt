-- Each model is said by some terms: those of its entries.
use Rattle.std.proofs.Common.{◌≡◌, ℕ, zero, suc, ◌+◌, ◌%◌, ◌<◌, Bool, true, false, cond, ◌&&◌, ◌||◌, Option, Some}
use Rattle.std.proofs.Common.{None, List, [], ◌∷◌, ◌++◌, All, filter, length, get_or, map, nat_eq, unwrap_or, refl}
use Rattle.std.proofs.Common.{sym, ap, subst, ◌∙◌, arith, append-nil, ne_eqb}
use Rattle.std.specs.List.{AllByRecursion, IsDistinct, list_any, sum_by}
use Rattle.std.specs.Str.{bytes_eq}
use Rattle.std.proofs.Math.Nat.{mod-eq_of_lt, zero-mod}
use Rattle.std.proofs.lemmas.Bool.{eqb-true}
use Rattle.std.proofs.lemmas.List.{get_or_default}
use Rattle.std.proofs.lemmas.List.Elements.{filter-append}
use Rattle.std.proofs.lemmas.List.Folds.{list_any_at}
use Rattle.std.proofs.lemmas.List.Sums.{sum_by-cons}
use Rattle.mixed_model.specs.Entries.{RowEntry}
use Rattle.mixed_model.specs.Models.{MixedModel, IsModel, row_of}
use Rattle.mixed_model.specs.Names.{has_name}
use Rattle.mixed_model.specs.Rows.{IsNotEmpty, IsRow, AreColumnsBelow, RisesFrom, constant_at_place, entry_in, symbol_at_place}
use Rattle.mixed_model.proofs.NameLaws.{bytes_eq-refl, stands_once}
use Rattle.mixed_model.proofs.RowLaws.{entry_in-filled}
use Rattle.term_model.specs.Putting.{IsPlaced, Says}
use Rattle.term_model.specs.Terms.{Term, stands_at, symbol_said}
use Rattle.term_model.proofs.Clearing.{bytes_eq-sym}
use Rattle.term_model.proofs.Lists.{Differ, all-append, all_at, at_all, distinct-differ}
use Rattle.term_model.proofs.Saying.{part_at}

-- the term of an entry
abbrev entry_term : List ℕ → List (List ℕ) → RowEntry → Term
entry_term name unknowns entry = record {
  equation = name;
  unknown = get_or unknowns entry.column [];
  constant = unwrap_or entry.constant 0;
  symbol = entry.symbol;
}

-- what stands at a place
abbrev at_place : List ℕ → List (List ℕ) → Option RowEntry → List Term
at_place name unknowns None = []
at_place name unknowns (Some entry) = entry_term name unknowns entry ∷ []

-- the terms of each row
abbrev terms_by : List (List ℕ) → List (List ℕ) → List (List RowEntry) → List Term
terms_by [] unknowns rows = []
terms_by (name ∷ names) unknowns [] = []
terms_by (name ∷ names) unknowns (row ∷ rows) = map (entry_term name unknowns) row ++ terms_by names unknowns rows

-- what terms say of a place, those that stand there say
sum-filter : (terms : List Term) (equation unknown : List ℕ) → sum_by (part_at equation unknown) terms ≡ sum_by
    (λ term. term.constant) (filter (stands_at equation unknown) terms)
sum-filter [] equation unknown = refl
sum-filter (term ∷ terms) equation unknown = by (stands_at equation unknown term) refl (sum-filter terms equation unknown)
  where
    standing : List Term
    standing = filter (stands_at equation unknown) terms

    by : (b : Bool) → stands_at equation unknown term ≡ b → sum_by (part_at equation unknown) terms ≡ sum_by
        (λ term. term.constant) (filter (stands_at equation unknown) terms)
        → sum_by (part_at equation unknown) (term ∷ terms) ≡ sum_by (λ term. term.constant) (filter (stands_at equation unknown) (term ∷ terms))
    by true e more =
        let here : part_at equation unknown term ≡ term.constant = ap (λ b. cond b term.constant 0) e in
        sum_by-cons (part_at equation unknown) term terms
        ∙ (λ t. here t + more t)
        ∙ sym (sum_by-cons (λ (term : Term). term.constant) term (filter (stands_at equation unknown) terms))
        ∙ sym (ap (λ b. sum_by (λ (term : Term). term.constant)
        (cond b (term ∷ filter (stands_at equation unknown) terms)
        (filter (stands_at equation unknown) terms))) e)
    by false e more =
        let here : ◌≡◌ {A = ℕ} (part_at equation unknown term) 0 = ap (λ b. cond b term.constant 0) e in
        sum_by-cons (part_at equation unknown) term terms
        ∙ omega (arith, here)
        ∙ more
        ∙ sym (ap (λ b. sum_by (λ (term : Term). term.constant)
        (cond b (term ∷ filter (stands_at equation unknown) terms)
        (filter (stands_at equation unknown) terms))) e)

any-filter : (terms : List Term) (equation unknown : List ℕ) → symbol_said terms equation unknown ≡ list_any
    (λ term. term.symbol) (filter (stands_at equation unknown) terms)
any-filter [] equation unknown = refl
any-filter (term ∷ terms) equation unknown = by (stands_at equation unknown term) refl (any-filter terms equation unknown)
  where
    by : (b : Bool) → stands_at equation unknown term ≡ b → symbol_said terms equation unknown ≡ list_any
        (λ term. term.symbol) (filter (stands_at equation unknown) terms)
        → symbol_said (term ∷ terms) equation unknown ≡ list_any (λ term. term.symbol) (filter (stands_at equation unknown) (term ∷ terms))
    by true e more =
        ap (λ b. (b && term.symbol) || symbol_said terms equation unknown) e
        ∙ ap (λ b. term.symbol || b) more
        ∙ sym (ap (λ b. list_any (λ (term : Term). term.symbol)
        (cond b (term ∷ filter (stands_at equation unknown) terms)
        (filter (stands_at equation unknown) terms))) e)
    by false e more =
        ap (λ b. (b && term.symbol) || symbol_said terms equation unknown) e
        ∙ more
        ∙ sym (ap (λ b. list_any (λ (term : Term). term.symbol)
        (cond b (term ∷ filter (stands_at equation unknown) terms)
        (filter (stands_at equation unknown) terms))) e)

-- a row has nothing in another equation
other-row : (equation unknown name : List ℕ) (unknowns : List (List ℕ)) (row : List RowEntry) →
    bytes_eq equation name ≡ false → filter (stands_at equation unknown) (map (entry_term name unknowns) row) ≡ []
other-row equation unknown name unknowns [] other = refl
other-row equation unknown name unknowns (entry ∷ row) other =
    let rest = filter (stands_at equation unknown) (map (entry_term name unknowns) row) in
    ap (λ b. cond (b && bytes_eq unknown (get_or unknowns entry.column [])) (entry_term name unknowns entry ∷ rest) rest) other
    ∙ other-row equation unknown name unknowns row other

other-rows : (equation unknown : List ℕ) (names unknowns : List (List ℕ)) (rows : List (List RowEntry)) →
    has_name names equation ≡ false → filter (stands_at equation unknown) (terms_by names unknowns rows) ≡ []
other-rows equation unknown [] unknowns rows none = refl
other-rows equation unknown (name ∷ names) unknowns [] none = refl
other-rows equation unknown (name ∷ names) unknowns (row ∷ rows) none = by (bytes_eq equation name) refl none (other-rows equation unknown names unknowns rows)
  where
    by : (b : Bool) → bytes_eq equation name ≡ b → (b || has_name names equation) ≡ false →
        (has_name names equation ≡ false → filter (stands_at equation unknown) (terms_by names unknowns rows) ≡ [])
        → filter (stands_at equation unknown) (terms_by (name ∷ names) unknowns (row ∷ rows)) ≡ []
    by true e none more = let f : ⊥ = cc in absurd f
    by false e none more =
        filter-append (stands_at equation unknown) (map (entry_term name unknowns) row) (terms_by names unknowns rows)
        ∙ (λ t. other-row equation unknown name unknowns row e t ++ more none t)

-- a row has nothing at a column before its first
none-before : (p first : ℕ) (row : List RowEntry) (j : ℕ) → RisesFrom p first row → j < first → entry_in row j ≡ None
none-before p first [] j rises before = refl
none-before p first (entry ∷ row) j rises before =
    rw (ne_eqb entry.column j (omega (arith, rises.0, before))) (none-before p (entry.column + 1) row j rises.2 (omega (arith, rises.0, before)))

-- and in its own equation what stands at the column of the unknown
own-row : (p first : ℕ) (name : List ℕ) (unknowns : List (List ℕ)) (j : ℕ) (row : List RowEntry) →
    IsDistinct bytes_eq unknowns → j < length unknowns → RisesFrom p first row →
    AllByRecursion (λ (entry : RowEntry). entry.column < length unknowns) row
    → filter (stands_at name (get_or unknowns j [])) (map (entry_term name unknowns) row) ≡ at_place name unknowns (entry_in row j)
own-row p first name unknowns j [] distinct within rises inside = refl
own-row p first name unknowns j (entry ∷ row) distinct within rises inside =
    by (nat_eq entry.column j) refl (own-row p (entry.column + 1) name unknowns j row distinct within rises.2 inside.1)
  where
    by : (b : Bool) → nat_eq entry.column j ≡ b → filter (stands_at name (get_or unknowns j []))
        (map (entry_term name unknowns) row) ≡ at_place name unknowns (entry_in row j)
        → filter (stands_at name (get_or unknowns j [])) (map (entry_term name unknowns) (entry ∷ row)) ≡ at_place name unknowns (entry_in (entry ∷ row) j)
    by b e more = ap (λ b. cond b (entry_term name unknowns entry ∷ rest) rest) (stands ∙ e) ∙ last b e
        ∙ sym (ap (λ b. at_place name unknowns (cond b (Some entry) (entry_in row j))) e)
      where
        rest : List Term
        rest = filter (stands_at name (get_or unknowns j [])) (map (entry_term name unknowns) row)

        stands : stands_at name (get_or unknowns j []) (entry_term name unknowns entry) ≡ nat_eq entry.column j
        stands = (λ t. bytes_eq-refl name t && stands_once unknowns (get_or unknowns entry.column []) entry.column j distinct inside.0 within refl t)

        last : (b : Bool) → nat_eq entry.column j ≡ b →
            cond b (entry_term name unknowns entry ∷ rest) rest ≡ at_place name unknowns
            (cond b (Some entry) (entry_in row j))
        last true e = ap (λ found. entry_term name unknowns entry ∷ found)
            (more ∙ ap (at_place name unknowns) (none-before p (entry.column + 1) row j rises.2
            (omega (arith, eqb-true entry.column j e))))
        last false e = more

-- a name that is not among some is none of them
absent-at : (names : List (List ℕ)) (name : List ℕ) (i : ℕ) → has_name names name ≡ false → i < length names → bytes_eq (get_or names i []) name ≡ false
absent-at names name i none at = bytes_eq-sym name (get_or names i []) (by (bytes_eq name (get_or names i [])) refl)
  where
    by : (b : Bool) → bytes_eq name (get_or names i []) ≡ b → bytes_eq name (get_or names i []) ≡ false
    by false e = e
    by true e = let both : true ≡ false = sym (list_any_at (bytes_eq name) names i [] at e) ∙ none in let f : ⊥ = cc in absurd f

each-row : (p : ℕ) (names unknowns : List (List ℕ)) (rows : List (List RowEntry)) (i j : ℕ) → Differ names →
    IsDistinct bytes_eq unknowns → length rows ≡ length names → i < length names → j < length unknowns
    → AllByRecursion (λ row. IsRow p row × AreColumnsBelow (length unknowns) row) rows
    → filter (stands_at (get_or names i []) (get_or unknowns j [])) (terms_by names unknowns rows) ≡ at_place
    (get_or names i []) unknowns (entry_in (get_or rows i []) j)
each-row p [] unknowns rows i j differ distinct long at col all = absurd (omega (arith, at))
each-row p (name ∷ names) unknowns [] i j differ distinct long at col all = absurd (omega (arith, long))
each-row p (name ∷ names) unknowns (row ∷ rows) zero j differ distinct long at col all =
    filter-append (stands_at name (get_or unknowns j [])) (map (entry_term name unknowns) row) (terms_by names unknowns rows)
    ∙ (λ t. own-row p 0 name unknowns j row distinct col all.0.0 (at_all (λ (entry : RowEntry). entry.column < length unknowns) row all.0.1) t
    ++ other-rows name (get_or unknowns j []) names unknowns rows differ.0 t)
    ∙ append-nil (at_place name unknowns (entry_in row j))
each-row p (name ∷ names) unknowns (row ∷ rows) (suc i) j differ distinct long at col all =
    filter-append (stands_at (get_or names i []) (get_or unknowns j [])) (map (entry_term name unknowns) row) (terms_by names unknowns rows)
    ∙ (λ t. other-row (get_or names i []) (get_or unknowns j []) name unknowns row (absent-at names name i differ.0 (omega (arith, at))) t
    ++ each-row p names unknowns rows i j differ.1 distinct (omega (arith, long)) (omega (arith, at)) col all.1 t)

-- the terms stand at names that are there
there-at : (names : List (List ℕ)) (i : ℕ) → i < length names → has_name names (get_or names i []) ≡ true
there-at names i at = list_any_at (bytes_eq (get_or names i [])) names i [] at (bytes_eq-refl (get_or names i []))

placed-row : (equations unknowns : List (List ℕ)) (name : List ℕ) (row : List RowEntry) →
    has_name equations name ≡ true → AllByRecursion (λ (entry : RowEntry). entry.column < length unknowns) row
    → AllByRecursion (IsPlaced equations unknowns) (map (entry_term name unknowns) row)
placed-row equations unknowns name [] there inside = tt
placed-row equations unknowns name (entry ∷ row) there inside =
    (record { equation = there; unknown = there-at unknowns entry.column inside.0 }, placed-row equations unknowns name row there inside.1)

placed-rows : (p : ℕ) (equations names unknowns : List (List ℕ)) (rows : List (List RowEntry)) → AllByRecursion (λ name. has_name equations name ≡ true) names
    → AllByRecursion (λ row. IsRow p row × AreColumnsBelow (length unknowns) row) rows → AllByRecursion (IsPlaced equations unknowns)
    (terms_by names unknowns rows)
placed-rows p equations [] unknowns rows there all = tt
placed-rows p equations (name ∷ names) unknowns [] there all = tt
placed-rows p equations (name ∷ names) unknowns (row ∷ rows) there all =
    all-append (IsPlaced equations unknowns) (map (entry_term name unknowns) row) (terms_by names unknowns rows)
    (placed-row equations unknowns name row there.0 (at_all (λ (entry : RowEntry). entry.column < length unknowns) row all.0.1))
    (placed-rows p equations names unknowns rows there.1 all.1)

-- what stands at a place is said there
constant-said : (p : ℕ) (name : List ℕ) (unknowns : List (List ℕ)) (found : Option RowEntry) → ((entry : RowEntry) → found ≡ Some entry → IsNotEmpty p entry)
    → unwrap_or (constant_at_place found) 0 ≡ sum_by (λ term. term.constant) (at_place name unknowns found) % p
constant-said p name unknowns None filled = sym (zero-mod p)
constant-said p name unknowns (Some entry) filled = by entry.constant refl
  where
    by : (constant : Option ℕ) → entry.constant ≡ constant → unwrap_or entry.constant 0 ≡ (0 + unwrap_or entry.constant 0) % p
    by None e = rw e (sym (zero-mod p))
    by (Some constant) e =
        rw e (sym (mod-eq_of_lt {n = 0 + constant} {m = p} (omega (arith, (filled entry refl).residue constant e)) ∙ omega arith))

symbol-said : (name : List ℕ) (unknowns : List (List ℕ)) (found : Option RowEntry) →
    symbol_at_place found ≡ list_any (λ term. term.symbol) (at_place name unknowns found)
symbol-said name unknowns None = refl
symbol-said name unknowns (Some entry) = by entry.symbol
  where
    by : (b : Bool) → b ≡ (b || false)
    by true = refl
    by false = refl

-- The terms of a model's entries say it.
pub said_by : (p : ℕ) (model : MixedModel) → IsModel p model → (terms : List Term) × Says p terms model × All (IsPlaced model.equations model.unknowns) terms
said_by p model is = (
  terms,
  record {
    constants = λ i j row col.
        constant-said p (get_or model.equations i []) model.unknowns (entry_in (row_of model i) j)
        (λ entry found. entry_in-filled p 0 (row_of model i)
        (is.rows i [] (omega (arith, row, is.one_row_each))).0 j entry found)
        ∙ ap (λ found. sum_by (λ (term : Term). term.constant) found % p) (sym (at i j row col))
        ∙ ap (λ n. n % p) (sym (sum-filter terms (get_or model.equations i []) (get_or model.unknowns j [])));
    symbols = λ i j row col.
        symbol-said (get_or model.equations i []) model.unknowns (entry_in (row_of model i) j)
        ∙ ap (list_any (λ (term : Term). term.symbol)) (sym (at i j row col))
        ∙ sym (any-filter terms (get_or model.equations i []) (get_or model.unknowns j []));
  },
  all_at (IsPlaced model.equations model.unknowns) terms (placed-rows p model.equations model.equations model.unknowns model.rows
      (at_all (λ name. has_name model.equations name ≡ true) model.equations
      (λ k d at. subst (λ name. has_name model.equations name ≡ true) (get_or_default model.equations k [] d at)
      (there-at model.equations k at)))
      all_rows),
)
  where
    terms : List Term
    terms = terms_by model.equations model.unknowns model.rows

    all_rows : AllByRecursion (λ row. IsRow p row × AreColumnsBelow (length model.unknowns) row) model.rows
    all_rows = at_all (λ row. IsRow p row × AreColumnsBelow (length model.unknowns) row) model.rows is.rows

    at : (i j : ℕ) → i < length model.equations → j < length model.unknowns
        → filter (stands_at (get_or model.equations i []) (get_or model.unknowns j []))
        (terms_by model.equations model.unknowns model.rows) ≡ at_place
        (get_or model.equations i []) model.unknowns (entry_in (row_of model i) j)
    at i j row col = each-row p model.equations model.unknowns model.rows i j
        (distinct-differ model.equations is.equations.distinct) is.unknowns.distinct is.one_row_each row col all_rows
