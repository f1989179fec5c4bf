-- Names of a letter and a number: each is new, and may stand in a model.
use Rattle.std.proofs.Common.{◌≡◌, ℕ, ◌+◌, ◌<◌, ◌≤◌, ◌^◌, zero, suc, Bool, true, false, not, ◌&&◌, ◌||◌, cond, IsTrue, List, [], ◌∷◌, ◌++◌}
use Rattle.std.proofs.Common.{length, nat_eq, Result, Ok, Err, refl, sym, ap, ◌∙◌, arith, add-one, length-append, leb}
use Rattle.std.specs.Char.{digit_value}
use Rattle.std.specs.Fmt.{decimal}
use Rattle.std.specs.List.{list_all}
use Rattle.std.specs.Str.{bytes_eq}
use Rattle.std.specs.Str.Parse.{AllDigits}
use Rattle.std.proofs.lemmas.Bool.{false_from_ne_true, le-leb}
use Rattle.std.proofs.lemmas.Bool.Decides.{nat_tests}
use Rattle.std.proofs.lemmas.Fmt.{decimal_injective, decimal_is_IsNumeral, length-decimal-le}
use Rattle.std.proofs.lemmas.List.Folds.{list_any-append}
use Rattle.std.proofs.lemmas.Slice.Eq.{bytes_eq-Decides}
use Rattle.mixed_model.specs.declared.errors.AddError.{AddError}
use Rattle.mixed_model.specs.declared.errors.AddError.TheVariants.{Twice, TooMany, NoMemory}
use Rattle.mixed_model.specs.Names.{is_label, has_name, adding, appending, AnswersAdd}
use Rattle.mixed_model.proofs.NameLaws.{appending-Ok}
use Rattle.made_models.specs.MadeModels.{numbered_names}

-- no space and no tab
abbrev is_solid : ℕ → Bool
is_solid byte = not (nat_eq byte 32 || nat_eq byte 9)

digit-solid : (byte : ℕ) → digit_value byte < 10 → is_solid byte ≡ true
digit-solid byte h = grind (arith, nat_tests)

digits-solid : (bytes : List ℕ) → AllDigits 10 bytes → list_all is_solid bytes ≡ true
digits-solid [] all = refl
digits-solid (byte ∷ bytes) all = rw (digit-solid byte all.0) (digits-solid bytes all.1)

-- a letter and a number are a name
pub numbered-label : (letter k : ℕ) → is_solid letter ≡ true → k < 2 ^ 64 → IsTrue (is_label (letter ∷ decimal k))
numbered-label letter k solid small =
    let name = letter ∷ decimal k in
    let long : length (decimal k) ≤ 20 = length-decimal-le 20 k (omega arith) (omega (arith, small)) small in
    let some : leb 1 (length name) ≡ true = le-leb 1 (length name) (omega arith) in
    let few : leb (length name) 96 ≡ true = le-leb (length name) 96 (omega (arith, long)) in
    let all : list_all is_solid name ≡ true = rw solid (digits-solid (decimal k) (decimal_is_IsNumeral k small).0.1) in
    (λ t. some t && few t && all t)

pub numbered_names-length : (letter n : ℕ) → length (numbered_names letter n) ≡ n
numbered_names-length letter zero = refl
numbered_names-length letter (suc n) =
    omega (arith, length-append (numbered_names letter n) ((letter ∷ decimal (n + 1)) ∷ []), numbered_names-length letter n)

pub numbered_names-more : (letter n : ℕ) → numbered_names letter n ++ (letter ∷ decimal (n + 1)) ∷ [] ≡ numbered_names letter (n + 1)
numbered_names-more letter n = sym (ap (numbered_names letter) (add-one n))

-- a later number is told from those before it
pub numbered_names-new : (letter n k : ℕ) → n ≤ k → k + 1 < 2 ^ 64 → has_name (numbered_names letter n) (letter ∷ decimal (k + 1)) ≡ false
numbered_names-new letter zero k later small = refl
numbered_names-new letter (suc n) k later small =
    list_any-append (bytes_eq name) (numbered_names letter n) (last ∷ [])
    ∙ (λ t. numbered_names-new letter n k (omega arith) small t || (differs t || false))
  where
    name : List ℕ
    name = letter ∷ decimal (k + 1)

    last : List ℕ
    last = letter ∷ decimal (n + 1)

    differs : bytes_eq name last ≡ false
    differs = false_from_ne_true (bytes_eq name last) (λ same.
        let equal : name ≡ last = (bytes_eq-Decides name last).0 same in
        let digits : decimal (k + 1) ≡ decimal (n + 1) = cc in
        let numbers : k + 1 ≡ n + 1 = decimal_injective (k + 1) (n + 1) small (omega arith) digits in
        omega (arith, numbers))

-- so it can be added, and memory alone may be wanting
pub numbered-added : (letter n : ℕ) → n < 4096 → (error : AddError) →
    AnswersAdd {T = ℕ} (Err error) (adding (numbered_names letter n) (letter ∷ decimal (n + 1))) → error ≡ NoMemory
numbered-added letter n room = refused
  where
    names : List (List ℕ)
    names = numbered_names letter n

    name : List ℕ
    name = letter ∷ decimal (n + 1)

    added : adding names name ≡ Ok (length names)
    added =
        ap (λ b. cond b (Err Twice) (appending names)) (numbered_names-new letter n n (omega arith) (omega arith))
        ∙ appending-Ok names (omega (arith, numbered_names-length letter n))

    refused : (error : AddError) → AnswersAdd {T = ℕ} (Err error) (adding names name) → error ≡ NoMemory
    refused Twice told =
        let both : ◌≡◌ {A = Result ℕ AddError} (Ok (length names)) (Err Twice) = sym added ∙ told in
        let f : ⊥ = cc in absurd f
    refused TooMany told =
        let both : ◌≡◌ {A = Result ℕ AddError} (Ok (length names)) (Err TooMany) = sym added ∙ told in
        let f : ⊥ = cc in absurd f
    refused NoMemory told = refl
