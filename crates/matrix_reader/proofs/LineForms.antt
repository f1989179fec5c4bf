-- What the lines give with an equation line that has one more item, or an `unknown` line with one more name.
use Rattle.std.proofs.Common.{◌≡◌, ℕ, List, [], ◌∷◌, ◌++◌, map, fold, codes, sym, ap, subst, ◌∙◌}
use Rattle.std.proofs.lemmas.List.{map-append, append-nil}
use Rattle.std.proofs.lemmas.List.Sums.{fold-append}
use Rattle.mixed_model.specs.Models.{MixedModel}
use Rattle.matrix_reader.specs.Items.{unknown_of}
use Rattle.mixed_model.specs.Names.{see}
use Rattle.matrix_reader.specs.EquationLists.{equation_of, equations_in, names_in, unknowns_in}
use Rattle.matrix_reader.specs.Models.{IsModelOf, LinesGive}
use Rattle.matrix_reader.specs.ReaderStates.{so_far}
use Rattle.matrix_reader.proofs.ModelSteps.{NamesOnly, NamesOnly-from}
use Rattle.matrix_reader.proofs.SaidLaws.{absent-unseen}
use Rattle.matrix_reader.proofs.SeenLaws.{equations_in-push, unknowns_in-push}

-- the equations of lines with an equation line
pub equation_last : (before : List (List (List ℕ))) (name : List ℕ) (items : List (List ℕ)) →
    equations_in (before ++ so_far name items ∷ []) ≡ equations_in before ++ record {
      name = name;
      items =
          items;
    } ∷ []
equation_last before name items = equations_in-push before (so_far name items)

-- one item more names one unknown more
pub item_seen : (before : List (List (List ℕ))) (name : List ℕ) (items : List (List ℕ)) (item : List ℕ) →
    unknowns_in (before ++ so_far name (items ++ item ∷ []) ∷ []) ≡ see
    (unknowns_in (before ++ so_far name items ∷ [])) (unknown_of item)
item_seen before name items item =
    unknowns_in-push before (so_far name (items ++ item ∷ []))
    ∙ ap (fold see (unknowns_in before)) (map-append unknown_of items (item ∷ []))
    ∙ fold-append see (unknowns_in before) (map unknown_of items) (unknown_of item ∷ [])
    ∙ ap (λ seen. see seen (unknown_of item)) (sym (unknowns_in-push before (so_far name items)))

-- and so does one name more
pub name_seen : (before : List (List (List ℕ))) (names : List (List ℕ)) (name : List ℕ) →
    unknowns_in (before ++ (codes "unknown" ∷ names ++ name ∷ []) ∷ []) ≡ see
    (unknowns_in (before ++ (codes "unknown" ∷ names) ∷ [])) name
name_seen before names name =
    unknowns_in-push before (codes "unknown" ∷ names ++ name ∷ [])
    ∙ fold-append see (unknowns_in before) names (name ∷ [])
    ∙ ap (λ seen. see seen name) (sym (unknowns_in-push before (codes "unknown" ∷ names)))

-- an `unknown` line gives no equation
pub no_equation : (before : List (List (List ℕ))) (names : List (List ℕ)) → equations_in (before ++ (codes "unknown" ∷ names) ∷ []) ≡ equations_in before
no_equation before [] = equations_in-push before (codes "unknown" ∷ []) ∙ append-nil (equations_in before)
no_equation before (name ∷ names) = equations_in-push before (codes "unknown" ∷ name ∷ names) ∙ append-nil (equations_in before)

-- a line that gives no equation and names no unknown
pub LinesGive-blank : (p : ℕ) (before : List (List (List ℕ))) (words : List (List ℕ)) (model : MixedModel) →
    equation_of words ≡ [] → names_in words ≡ [] → LinesGive p before model → LinesGive p (before ++ words ∷ []) model
LinesGive-blank p before words model no_equation no_name gives =
    subst (λ list. IsModelOf p list (unknowns_in (before ++ words ∷ [])) model)
    (sym (equations_in-push before words ∙ ap (λ more. equations_in before ++ more) no_equation ∙ append-nil (equations_in before)))
    (subst (λ unknowns. IsModelOf p (equations_in before) unknowns model)
    (sym (unknowns_in-push before words ∙ ap (fold see (unknowns_in before)) no_name))
    gives)

-- the items of lines name unknowns of the lines alone
pub lines_name_only : (lines : List (List (List ℕ))) → NamesOnly (equations_in lines) (unknowns_in lines)
lines_name_only lines = NamesOnly-from (equations_in lines) (unknowns_in lines) (λ i unknown unseen. absent-unseen lines unknown i unseen)
