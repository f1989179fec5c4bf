-- Lines that are a comment as a whole.
use Rattle.std.proofs.Common.{◌≡◌, ℕ, ◌-◌, ◌==◌, Bool, true, false, ◌&&◌, List, [], ◌∷◌, ◌++◌, length, take, drop}
use Rattle.std.proofs.Common.{cond, slice_index, Option, Some, None, ◌⊎◌, inl, inr, refl, sym, ap, ◌∙◌}
use Rattle.std.specs.List.{list_all}
use Rattle.std.specs.Str.Lines.{strip_carriage_return}
use Rattle.std.proofs.lemmas.List.{take-append-drop}
use Rattle.line_lexer.specs.Tokens.{is_blank, uncommented}
use Rattle.line_reader.specs.LineRules.{is_remark}

pub remark-none : (remark : Option ℕ) → is_remark remark [] ≡ false
remark-none None = refl
remark-none (Some sign) = refl

-- behind a blank
remark-blank : (remark : Option ℕ) (byte : ℕ) (line : List ℕ) → is_blank byte ≡ true → is_remark remark (byte ∷ line) ≡ is_remark remark line
remark-blank None byte line blank = refl
remark-blank (Some sign) byte line blank = rw blank refl

-- behind any other byte it does not matter what comes
remark-other : (remark : Option ℕ) (byte : ℕ) (line more : List ℕ) → is_blank byte ≡ false → is_remark remark (byte ∷ line) ≡ is_remark remark (byte ∷ more)
remark-other None byte line more other = refl
remark-other (Some sign) byte line more other = rw other refl

and_true : (b : Bool) → (b && true) ≡ b
and_true true = refl
and_true false = refl

pub and_false : (b : Bool) → (b && false) ≡ false
and_false true = refl
and_false false = refl

-- a line that goes on
pub remark-append : (remark : Option ℕ) (front back : List ℕ) → is_remark remark front ≡ false →
    is_remark remark (front ++ back) ≡ (is_remark remark back && list_all is_blank front)
remark-append remark [] back none = sym (and_true (is_remark remark back))
remark-append remark (byte ∷ front) back none = by (is_blank byte) refl (λ rest. remark-append remark front back rest)
  where
    by : (b : Bool) → is_blank byte ≡ b → (is_remark remark front ≡ false → is_remark remark (front ++ back) ≡
        (is_remark remark back && list_all is_blank front)) → is_remark remark ((byte ∷ front) ++ back) ≡
        (is_remark remark back && (b && list_all is_blank front))
    by true blank more = remark-blank remark byte (front ++ back) blank ∙ more (sym (remark-blank remark byte front blank) ∙ none)
    by false other more = remark-other remark byte (front ++ back) front other ∙ none ∙ sym (and_false (is_remark remark back))

pub remark-more : (remark : Option ℕ) (front back : List ℕ) → is_remark remark front ≡ true → is_remark remark (front ++ back) ≡ true
remark-more remark [] back some = let both : false ≡ true = sym (remark-none remark) ∙ some in absurd cc
remark-more remark (byte ∷ front) back some = by (is_blank byte) refl (λ rest. remark-more remark front back rest)
  where
    by : (b : Bool) → is_blank byte ≡ b → (is_remark remark front ≡ true → is_remark remark (front ++ back) ≡ true) →
        is_remark remark ((byte ∷ front) ++ back) ≡ true
    by true blank more = remark-blank remark byte (front ++ back) blank ∙ more (sym (remark-blank remark byte front blank) ∙ some)
    by false other more = remark-other remark byte (front ++ back) front other ∙ some

-- a line that ends earlier is a comment as a whole too, or has only blanks
remark-front : (remark : Option ℕ) (front back : List ℕ) → is_remark remark (front ++ back) ≡ true →
    (is_remark remark front ≡ true) ⊎ (list_all is_blank front ≡ true)
remark-front remark [] back some = inr refl
remark-front remark (byte ∷ front) back some = by (is_blank byte) refl (λ rest. remark-front remark front back rest)
  where
    by : (b : Bool) → is_blank byte ≡ b → (is_remark remark (front ++ back) ≡ true → (is_remark remark front ≡ true) ⊎ (list_all is_blank front ≡ true))
        → (is_remark remark (byte ∷ front) ≡ true) ⊎ ((b && list_all is_blank front) ≡ true)
    by true blank more = elim (more (sym (remark-blank remark byte (front ++ back) blank) ∙ some)) [
      | inl here ↦ inl (remark-blank remark byte front blank ∙ here)
      | inr blanks ↦ inr blanks
    ]
    by false other more = inl (remark-other remark byte front (front ++ back) other ∙ some)

-- and it is none where the line is none
front-plain : (remark : Option ℕ) (line front back : List ℕ) → front ++ back ≡ line → is_remark remark line ≡ false → is_remark remark front ≡ false
front-plain remark line front back whole none = by (is_remark remark front) refl
  where
    by : (b : Bool) → is_remark remark front ≡ b → is_remark remark front ≡ false
    by true some = let both : true ≡ false = sym (remark-more remark front back some) ∙ ap (is_remark remark) whole ∙ none in absurd cc
    by false here = here

take-plain : (remark : Option ℕ) (n : ℕ) (line : List ℕ) → is_remark remark line ≡ false → is_remark remark (take n line) ≡ false
take-plain remark n line none = front-plain remark line (take n line) (drop n line) (take-append-drop n line) none

pub uncommented-plain : (remark : Option ℕ) (line : List ℕ) → is_remark remark line ≡ false → is_remark remark (uncommented line) ≡ false
uncommented-plain remark line none = take-plain remark _ line none

-- without a carriage return at its end
pub stripped-plain : (remark : Option ℕ) (line : List ℕ) → is_remark remark line ≡ false → is_remark remark (strip_carriage_return line) ≡ false
stripped-plain remark [] none = none
stripped-plain remark (byte ∷ line) none = by (slice_index (byte ∷ line) (length (byte ∷ line) - 1) == 13)
  where
    by : (b : Bool) → is_remark remark (cond b (take (length (byte ∷ line) - 1) (byte ∷ line)) (byte ∷ line)) ≡ false
    by true = take-plain remark (length (byte ∷ line) - 1) (byte ∷ line) none
    by false = none

pub stripped-remark : (remark : Option ℕ) (line : List ℕ) → is_remark remark line ≡ true →
    (is_remark remark (strip_carriage_return line) ≡ true) ⊎ (list_all is_blank (strip_carriage_return line) ≡ true)
stripped-remark remark [] some = inr refl
stripped-remark remark (byte ∷ line) some = by (slice_index (byte ∷ line) (length (byte ∷ line) - 1) == 13)
  where
    front : List ℕ
    front = take (length (byte ∷ line) - 1) (byte ∷ line)

    by : (b : Bool) → (is_remark remark (cond b front (byte ∷ line)) ≡ true) ⊎ (list_all is_blank (cond b front (byte ∷ line)) ≡ true)
    by true = remark-front remark front (drop (length (byte ∷ line) - 1) (byte ∷ line))
        (ap (is_remark remark) (take-append-drop (length (byte ∷ line) - 1) (byte ∷ line)) ∙ some)
    by false = inl some
