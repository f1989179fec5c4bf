-- What rules that are kept say of what they give.
use Rattle.std.proofs.Common.{◌≡◌, ℕ, Bool, true, false, not, List, [], ◌∷◌, ◌++◌, Result, Ok, Err, refl, sym, ap, subst, ◌∙◌, append_assoc}
use Rattle.std.specs.List.{AllByRecursion}
use Rattle.std.proofs.lemmas.List.{append-nil}
use Rattle.refusals.specs.declared.Why.{Why}
use Rattle.refusals.specs.declared.Why.TheVariants.{BadName, Twice, Undeclared}
use Rattle.line_lexer.specs.Names.{is_short_name}
use Rattle.mixed_model.specs.Names.{has_name}
use Rattle.toml.specs.Data.{Data}
use Rattle.term_model.proofs.Lists.{all-append, Differ, differ-last}
use Rattle.document_values.specs.Chains.{◌>>=◌, keeping}
use Rattle.document_values.specs.Values.{declared_name, declared_names, each, new_name, text_of}

-- what keeps a rule goes on
pub then : {A B E : Type 0} (first : Result A E) (next : A → Result B E) (value : A) → first ≡ Ok value → (first >>= next) ≡ next value
then first next value kept = ap (λ given. given >>= next) kept

-- what breaks it is the answer
pub broken : {A B E : Type 0} (first : Result A E) (next : A → Result B E) (why : E) → first ≡ Err why → (first >>= next) ≡ Err why
broken first next why breaks = ap (λ given. given >>= next) breaks

-- a chain that gives something
pub chain-Ok : {A B E : Type 0} (first : Result A E) (next : A → Result B E) (value : B) →
    (first >>= next) ≡ Ok value → (a : A) × (first ≡ Ok a) × (next a ≡ Ok value)
chain-Ok (Ok a) next value kept = (a, refl, kept)
chain-Ok (Err e) next value kept = let f : ⊥ = cc in absurd f

pub keeping-Ok : {A : Type 0} (test : Bool) (why : Why) (value given : A) → keeping test why value ≡ Ok given → (test ≡ true) × (value ≡ given)
keeping-Ok true why value given kept = let told : value ≡ given = cc in (refl, told)
keeping-Ok false why value given kept = let f : ⊥ = cc in absurd f

not-true : (b : Bool) → not b ≡ true → b ≡ false
not-true false e = refl
not-true true e = let f : ⊥ = cc in absurd f

-- a new name
pub new_name-Ok : (names : List (List ℕ)) (datum : Data) (name : List ℕ) → new_name names datum ≡ Ok name →
    (is_short_name name ≡ true) × (has_name names name ≡ false)
new_name-Ok names datum name kept =
    let (second, first, last) = chain-Ok (text_of datum >>= (λ name. keeping (is_short_name name) BadName name))
    (λ name. keeping (not (has_name names name)) Twice name) name kept in
    let (text, told, good) = chain-Ok (text_of datum) (λ name. keeping (is_short_name name) BadName name) second first in
    let short = keeping-Ok (is_short_name text) BadName text second good in
    let new = keeping-Ok (not (has_name names second)) Twice second name last in (
      sym (ap is_short_name (short.1 ∙ new.1)) ∙ short.0,
      sym (ap (has_name names) new.1) ∙ not-true (has_name names second) new.0,
    )

-- a declared one
pub declared_name-Ok : (declared before : List (List ℕ)) (datum : Data) (name : List ℕ) →
    declared_name declared before datum ≡ Ok name → (has_name declared name ≡ true) × (has_name before name ≡ false)
declared_name-Ok declared before datum name kept =
    let (second, first, last) = chain-Ok (text_of datum >>=
    (λ name. keeping (has_name declared name) Undeclared name))
    (λ name. keeping (not (has_name before name)) Twice name) name kept in
    let (text, told, good) = chain-Ok (text_of datum) (λ name. keeping (has_name declared name) Undeclared name) second first in
    let there = keeping-Ok (has_name declared text) Undeclared text second good in
    let new = keeping-Ok (not (has_name before second)) Twice second name last in (
      sym (ap (has_name declared) (there.1 ∙ new.1)) ∙ there.0,
      sym (ap (has_name before) new.1) ∙ not-true (has_name before second) new.0,
    )

-- declared names, one after another
declared-found : (declared before found : List (List ℕ)) (items : List Data) (names : List (List ℕ)) →
    each (λ found. declared_name declared (before ++ found)) found items ≡ Ok names
    → AllByRecursion (λ name. has_name declared name ≡ true) found → Differ (before ++ found) →
    AllByRecursion (λ name. has_name declared name ≡ true) names × Differ (before ++ names)
declared-found declared before found [] names kept there differ =
    let same : found ≡ names = cc in
    (subst (AllByRecursion (λ name. has_name declared name ≡ true)) same there, subst (λ names. Differ (before ++ names)) same differ)
declared-found declared before found (datum ∷ items) names kept there differ =
    let (name, first, last) = chain-Ok (declared_name declared (before ++ found) datum)
    (λ name. each (λ found. declared_name declared (before ++ found)) (found ++ name ∷ []) items) names kept in
    let is = declared_name-Ok declared (before ++ found) datum name first in
    declared-found declared before (found ++ name ∷ []) items names last
    (all-append (λ name. has_name declared name ≡ true) found (name ∷ []) there (is.0, tt))
    (subst Differ (append_assoc before found (name ∷ [])) (differ-last (before ++ found) name differ is.1))

pub declared_names-Ok : (declared before : List (List ℕ)) (items : List Data) (names : List (List ℕ)) → Differ before →
    declared_names declared before items ≡ Ok names
    → AllByRecursion (λ name. has_name declared name ≡ true) names × Differ (before ++ names)
declared_names-Ok declared before items names differ kept =
    declared-found declared before [] items names kept tt (subst Differ (sym (append-nil before)) differ)
