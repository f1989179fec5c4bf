-- Names that are added one by one.
use Rattle.std.proofs.Common.{◌≡◌, ℕ, ◌+◌, ◌<◌, false, IsTrue, List, [], ◌∷◌, ◌++◌, length, map, take, get_or, Result}
use Rattle.std.proofs.Common.{Ok, Err, String, cond, refl, sym, ap, subst, ◌∙◌, arith}
use Rattle.std.specs.List.{IsDistinct}
use Rattle.std.specs.Str.{bytes_eq}
use Rattle.std.specs.String.{string_bytes}
use Rattle.std.proofs.lemmas.List.{take_more, length-take-le, get_or-take, get_or-map, get_or_default}
use Rattle.std.proofs.lemmas.List.Folds.{list_any_none}
use Rattle.mixed_model.specs.Names.{IsNameList, is_label, has_name, adding, appending, AnswersAdd}
use Rattle.mixed_model.proofs.NameLaws.{appending-Ok, names_apart}
use Rattle.mixed_model.specs.declared.errors.AddError.{AddError}
use Rattle.mixed_model.specs.declared.errors.AddError.TheVariants.{Twice, TooMany, NoMemory}

-- the next of some names that differ is none of those before it
pub new_among : (names : List (List ℕ)) (i : ℕ) (name : List ℕ) → IsDistinct bytes_eq names → i < length names →
    get_or names i [] ≡ name → has_name (take i names) name ≡ false
new_among names i name distinct within is = list_any_none (bytes_eq name) (take i names) (λ k d kl.
    let below : k < i = omega (arith, kl, length-take-le i names (omega arith)) in
    let other : get_or (take i names) k d ≡ get_or names k [] = get_or-take i names k d below ∙ get_or_default names k d [] (omega arith) in
    subst (λ n. bytes_eq n (get_or (take i names) k d) ≡ false) is
    (subst (λ n. bytes_eq (get_or names i []) n ≡ false) (sym other)
    (names_apart names i k distinct (λ same. omega (arith, same, below)) within (omega arith))))

-- the next of some names that differ is new
module _ (names : List (List ℕ)) (i : ℕ) (name : List ℕ) (list : IsNameList names) (within : i < length names) (is : get_or names i [] ≡ name) where
  pub label : IsTrue (is_label name)
  label = subst (λ n. IsTrue (is_label n)) is (list.labels i [] within)

  room : length (take i names) < 4096
  room = omega (arith, length-take-le i names (omega arith), list.few)

  pub added : adding (take i names) name ≡ Ok (length (take i names))
  added = ap (λ b. cond b (Err Twice) (appending (take i names))) (new_among names i name list.distinct within is) ∙ appending-Ok (take i names) room

  pub refused : (error : AddError) → AnswersAdd {T = ℕ} (Err error) (adding (take i names) name) → error ≡ NoMemory
  refused Twice told = let both : ◌≡◌ {A = Result ℕ AddError} (Ok (length (take i names))) (Err Twice) = sym added ∙ told in let f : ⊥ = cc in absurd f
  refused TooMany told = let both : ◌≡◌ {A = Result ℕ AddError} (Ok (length (take i names))) (Err TooMany) = sym added ∙ told in let f : ⊥ = cc in absurd f
  refused NoMemory told = refl

  pub longer : take i names ++ name ∷ [] ≡ take (i + 1) names
  longer = ap (λ n. take i names ++ n ∷ []) (sym is) ∙ sym (take_more names i [] within)

-- the name that is added next
pub text_at : {A : Type 0} (texts : List (String A)) (i : ℕ) (text : String A) (name : List ℕ) → i < length texts →
    text ≡ get_or texts i text → name ≡ string_bytes text → get_or (map string_bytes texts) i [] ≡ name
text_at texts i text name within is read = get_or-map string_bytes texts i text [] within ∙ ap string_bytes (sym is) ∙ sym read
