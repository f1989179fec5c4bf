-- A text at the front of bytes.
use Rattle.std.specs.Prelude.{MatchOption, nat_eq}
use Rattle.std.specs.Borrow.{Bor}
use Rattle.std.proofs.lemmas.Slice.Eq.{strip_prefix_is}
use Rattle.std.proofs.lemmas.Bool.Decides.{Decides-eqb}
use Rattle.std.specs.Cmp.Lexicographic.{pointwise}
use Rattle.std.proofs.Common.{◌+◌, take, ◌≡◌, ◌≢◌, ℕ, Bool, true, false, cond, List, [], ◌∷◌, ◌++◌, length, drop}
use Rattle.std.proofs.Common.{Option, Some, None, Result, Ok, Err, refl, sym, ap, ◌∙◌, eqb, eqb-true, eq-eqb}
use Rattle.std.specs.Prelude.{◌&&◌}
use Rattle.cert_reader.specs.Fronts.{begins_with, text_at}

pub and_both : (a b : Bool) → (a && b) ≡ true → (a ≡ true) × (b ≡ true)
and_both true true e = (refl, refl)
and_both true false e = absurd cc
and_both false b e = absurd cc

pub begins-is : (text bytes : List ℕ) → begins_with text bytes ≡ true → bytes ≡ text ++ drop (length text) bytes
begins-is [] bytes e = refl
begins-is (x ∷ xs) [] e = absurd cc
begins-is (x ∷ xs) (y ∷ ys) e =
    let both = and_both (eqb x y) (begins_with xs ys) e in
    ap (λ z. z ∷ ys) (sym (eqb-true x y both.0)) ∙ ap (λ zs. x ∷ zs) (begins-is xs ys both.1)

pub begins-again : (text rest : List ℕ) → begins_with text (text ++ rest) ≡ true
begins-again [] rest = refl
begins-again (x ∷ xs) rest = rw (eq-eqb x x refl, begins-again xs rest) refl

pub drop-again : (text rest : List ℕ) → drop (length text) (text ++ rest) ≡ rest
drop-again [] rest = refl
drop-again (x ∷ xs) rest = drop-again xs rest

pub text_again : (text : List ℕ) (line : ℕ) (rest : List ℕ) → text_at text line (text ++ rest) ≡ Ok (tt, rest)
unfolding text_at
text_again text line rest = rw (begins-again text rest, drop-again text rest) refl

pub text_takes : (text : List ℕ) (line : ℕ) (bytes : List ℕ) (x : Unit {0} × List ℕ) → text_at text line bytes ≡ Ok x → bytes ≡ text ++ x.1
unfolding text_at
text_takes text line bytes x e = by (begins_with text bytes) refl e
  where
    by : (b : Bool) → begins_with text bytes ≡ b → cond {A = Result (Unit {0} × List ℕ) ℕ} b
        (Ok (tt, drop (length text) bytes)) (Err line) ≡ Ok x → bytes ≡ text ++ x.1
    by true begins e = let same : drop (length text) bytes ≡ x.1 = cc in begins-is text bytes begins ∙ ap (λ zs. text ++ zs) same
    by false begins e = let f : ⊥ = cc in absurd f

pub text_fails : (text : List ℕ) (line : ℕ) (bytes : List ℕ) (l : ℕ) → text_at text line bytes ≡ Err l → l ≡ line
unfolding text_at
text_fails text line bytes l e = by (begins_with text bytes) e
  where
    by : (b : Bool) → cond {A = Result (Unit {0} × List ℕ) ℕ} b (Ok (tt, drop (length text) bytes)) (Err line) ≡ Err l → l ≡ line
    by true e = let f : ⊥ = cc in absurd f
    by false e = cc

-- what does not begin with the text
pub text_none : (text : List ℕ) (line : ℕ) (bytes : List ℕ) → ((rest : List ℕ) → bytes ≢ text ++ rest) → text_at text line bytes ≡ Err line
unfolding text_at
text_none text line bytes none = by (begins_with text bytes) refl
  where
    by : (b : Bool) → begins_with text bytes ≡ b → cond {A = Result (Unit {0} × List ℕ) ℕ} b (Ok (tt, drop (length text) bytes)) (Err line) ≡ Err line
    by true begins = absurd (none (drop (length text) bytes) (begins-is text bytes begins))
    by false begins = refl

-- what `strip_prefix` says
pub text_found : (text bytes : List ℕ) (line : ℕ) (rest : List ℕ) →
    (pointwise nat_eq (take (length text) bytes) text ≡ true) × (rest ≡ drop (length text) bytes)
    × (length rest + length text ≡ length bytes) → text_at text line bytes ≡ Ok (tt, rest)
text_found text bytes line rest h =
    let whole : bytes ≡ text ++ rest = strip_prefix_is Decides-eqb bytes text (Some (record { ref_ptr = (0, 0); now = rest })) h in
    ap (text_at text line) whole ∙ text_again text line rest

pub text_missed : (text bytes : List ℕ) (line : ℕ) → pointwise nat_eq (take (length text) bytes) text ≡ false → text_at text line bytes ≡ Err line
text_missed text bytes line h = text_none text line bytes (strip_prefix_is Decides-eqb bytes text None h)

pub stripped : (text bytes : List ℕ) (r : Option (Bor (List ℕ))) →
    MatchOption r (pointwise nat_eq (take (length text) bytes) text ≡ false)
    (λ x. (pointwise nat_eq (take (length text) bytes) text ≡ true) × (x.now ≡ drop (length text) bytes)
    × (length x.now + length text ≡ length bytes)) →
    MatchOption r (begins_with text bytes ≡ false) (λ x. (begins_with text bytes ≡ true) × (x.now ≡ drop (length text) bytes))
stripped text bytes None h = none (begins_with text bytes) refl (strip_prefix_is Decides-eqb bytes text None h)
  where
    none : (b : Bool) → begins_with text bytes ≡ b → ((rest : List ℕ) → bytes ≢ text ++ rest) → begins_with text bytes ≡ false
    none true begins other = absurd (other (drop (length text) bytes) (begins-is text bytes begins))
    none false begins other = begins
stripped text bytes (Some x) h =
    let whole : bytes ≡ text ++ x.now = strip_prefix_is Decides-eqb bytes text (Some x) h in
    (ap (begins_with text) whole ∙ begins-again text x.now, h.1)
