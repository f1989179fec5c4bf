-- Lists of names, as they are read.
use Rattle.std.proofs.Common.{◌≡◌, ℕ, ◌+◌, ◌<◌, List, [], ◌∷◌, ◌++◌, length, map, drop, get_or, Result, Ok, Err, sym, ap, subst, ◌∙◌, length-append}
use Rattle.std.specs.Result.{IsErrAnd}
use Rattle.std.proofs.lemmas.List.{drop_more}
use Rattle.refusals.specs.declared.ReadModel.{ReadModel}
use Rattle.refusals.specs.declared.ReadModel.TheVariants.{Refused, NoMemory}
use Rattle.refusals.specs.declared.Refused.{Refused as Refusal}
use Rattle.toml.specs.Data.{Data}
use Rattle.toml.specs.View.{view}
use Rattle.toml.specs.declared.value.Value.{Value}
use Rattle.document_values.specs.Answers.{AddsName, OnRefused, Reads}
use Rattle.document_values.specs.Chains.{◌>>=◌}
use Rattle.document_values.specs.Values.{each}
use Rattle.document_values.proofs.Inversion.{broken, then}

-- the items from a place on
pub items-left : (items : List Value) (k : ℕ) (item : Value) → k < length items → item ≡ get_or items k item →
    map view (drop k items) ≡ view item ∷ map view (drop (k + 1) items)
items-left items k item within is = ap (map view) (drop_more items k item within) ∙ ap (λ value. view value ∷ map view (drop (k + 1) items)) (sym is)

-- a call that fails as another did
pub reads-fail : {V T : Type 0} (see : V → T) (result : Result V ReadModel) (wanted : Result T Refusal)
    (error : ReadModel) → IsErrAnd result (λ given. given ≡ error) →
    OnRefused error (λ refused. wanted ≡ Err refused) → Reads see result wanted
reads-fail see (Ok value) wanted error failed told = absurd failed
reads-fail see (Err given) wanted (Refused refused) failed told = subst (λ error. Reads see (Err error) wanted) (sym failed) told
reads-fail see (Err given) wanted NoMemory failed told = subst (λ error. Reads see (Err error) wanted) (sym failed) tt

-- names that are read one by one
module _ (one : List (List ℕ) → Data → Result (List ℕ) Refusal) (all : Result (List (List ℕ)) Refusal)
    (found : List (List ℕ)) (items rest : List Data) (datum : Data)
    (read : all ≡ each one found items) (left : items ≡ datum ∷ rest) where
  from-here : all ≡ (one found datum >>= (λ name. each one (found ++ name ∷ []) rest))
  from-here = read ∙ ap (each one found) left

  -- after one that is refused
  pub refused-here : (old new : List (List ℕ)) (result : Result (Unit {0}) ReadModel) (error : ReadModel) →
      result ≡ Err error → AddsName old new result (one found datum) → OnRefused error (λ refused. all ≡ Err refused)
  refused-here old new result error was answer = by error (subst (λ result. AddsName old new result (one found datum)) was answer)
    where
      by : (error : ReadModel) → AddsName old new (Err error) (one found datum) → OnRefused error (λ refused. all ≡ Err refused)
      by (Refused refused) told = from-here ∙ broken (one found datum) (λ name. each one (found ++ name ∷ []) rest) refused told
      by NoMemory told = tt

  -- after one that is put last
  pub read-more : (new : List (List ℕ)) (result : Result (Unit {0}) ReadModel) → result ≡ Ok tt →
      AddsName found new result (one found datum) → (all ≡ each one new rest) × (length new ≡ length found + 1)
  read-more new result was answer =
      let (name, kept, added) = subst (λ result. AddsName found new result (one found datum)) was answer in (
        from-here ∙ then (one found datum) (λ name. each one (found ++ name ∷ []) rest) name kept ∙ ap (λ names. each one names rest) (sym added),
        ap length added ∙ length-append found (name ∷ []),
      )
