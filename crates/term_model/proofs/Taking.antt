-- Terms that are put one by one.
use Rattle.std.proofs.Common.{◌≡◌, ℕ, ◌+◌, ◌<◌, List, [], ◌∷◌, ◌++◌, length, take, drop, get_or, sym, ap, subst, ◌∙◌, append_assoc, append-nil}
use Rattle.std.proofs.lemmas.List.{take_more, drop_more}
use Rattle.mixed_model.specs.Models.{MixedModel}
use Rattle.term_model.specs.Putting.{AreFree, Says, PutsTerms}
use Rattle.term_model.specs.Terms.{Term}

-- what is left once the first terms are put
pub record PutsSoFar (p : ℕ) (old now : MixedModel) (terms : List Term) (i : ℕ) : Type 0 where
  pub says : (before : List Term) → Says p before old → AreFree before terms → Says p (before ++ take i terms) now
  pub free : (before : List Term) → AreFree before terms → AreFree (before ++ take i terms) (drop i terms)

pub begins : (p : ℕ) (old : MixedModel) (terms : List Term) → PutsSoFar p old old terms 0
begins p old terms = record {
  says = λ before says free. subst (λ all. Says p all old) (sym (append-nil before)) says;
  free = λ before free. subst (λ all. AreFree all terms) (sym (append-nil before)) free;
}

module _ (p : ℕ) (old now : MixedModel) (terms : List Term) (i : ℕ) (term : Term) (within : i < length terms)
    (is : term ≡ get_or terms i term) (so_far : PutsSoFar p old now terms i) where
  longer : (before : List Term) → before ++ take i terms ++ term ∷ [] ≡ before ++ take (i + 1) terms
  longer before = append_assoc before (take i terms) (term ∷ []) ∙ ap (λ taken. before ++ taken)
      (ap (λ last. take i terms ++ last ∷ []) is ∙ sym (take_more terms i term within))

  next_free : (before : List Term) → AreFree before terms → AreFree (before ++ take i terms) (term ∷ drop (i + 1) terms)
  next_free before free = subst (AreFree (before ++ take i terms)) (drop_more terms i term within
      ∙ ap (λ first. first ∷ drop (i + 1) terms) (sym is)) (so_far.free before free)

  pub goes_on : (new : MixedModel) → PutsTerms p now new (term ∷ []) → PutsSoFar p old new terms (i + 1)
  goes_on new put = record {
    says = λ before says free. subst (λ all. Says p all new) (longer before)
        (put (before ++ take i terms) (so_far.says before says free) ((next_free before free).0, tt));
    free = λ before free. subst (λ all. AreFree all (drop (i + 1) terms)) (longer before) (next_free before free).1;
  }
