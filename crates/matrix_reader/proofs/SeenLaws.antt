-- Names in the order in which they first stand.
use Rattle.std.proofs.Common.{◌≡◌, ℕ, Bool, true, false, List, [], ◌∷◌, ◌++◌, fold, refl, sym, ap, ◌∙◌}
use Rattle.std.specs.List.{flat_map}
use Rattle.std.proofs.lemmas.List.{append-nil}
use Rattle.std.proofs.lemmas.List.Concat.{flat_map-append}
use Rattle.std.proofs.lemmas.List.Sums.{fold-append}
use Rattle.mixed_model.specs.Names.{see, has_name}
use Rattle.term_model.proofs.NamesAmong.{seen-there}
use Rattle.matrix_reader.specs.EquationLists.{equation_of, equations_in, names_in, unknowns_in}

-- the equations and the unknowns of one more line
pub equations_in-push : (lines : List (List (List ℕ))) (words : List (List ℕ)) → equations_in (lines ++ words ∷ []) ≡ equations_in lines ++ equation_of words
equations_in-push lines words = flat_map-append equation_of lines (words ∷ []) ∙ ap (λ more. equations_in lines ++ more) (append-nil (equation_of words))

pub unknowns_in-push : (lines : List (List (List ℕ))) (words : List (List ℕ)) →
    unknowns_in (lines ++ words ∷ []) ≡ fold see (unknowns_in lines) (names_in words)
unknowns_in-push lines words =
    ap (fold see []) (flat_map-append names_in lines (words ∷ []) ∙ ap (λ names. flat_map names_in lines ++ names) (append-nil (names_in words)))
    ∙ fold-append see [] (flat_map names_in lines) (names_in words)

-- a name that is not seen is none of the names
pub has_name-unseen : (seen names : List (List ℕ)) (name : List ℕ) → has_name (fold see seen names) name ≡ false → has_name names name ≡ false
has_name-unseen seen names name unseen = by (has_name names name) refl
  where
    by : (b : Bool) → has_name names name ≡ b → has_name names name ≡ false
    by false e = e
    by true e =
        let both : true ≡ false = sym (seen-there seen names name e) ∙ unseen in
        let f : ⊥ = cc in absurd f
