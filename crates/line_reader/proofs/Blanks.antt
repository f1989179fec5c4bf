-- Lines of blanks: nothing is read of them.
use Rattle.std.proofs.Common.{◌≡◌, ℕ, ◌+◌, Bool, true, false, ◌||◌, ◌&&◌, List, [], ◌∷◌, ◌++◌, nat_eq, refl, sym, ap, subst, ◌∙◌}
use Rattle.std.specs.List.{list_all, list_any}
use Rattle.std.proofs.lemmas.Bool.{eqb-true}
use Rattle.std.proofs.lemmas.List.Folds.{list_all-append}
use Rattle.line_lexer.specs.Tokens.{is_blank, is_comment_sign, is_text_byte, tokens_from}

and_true : (a b : Bool) → b ≡ true → (a && (b && true)) ≡ a
and_true true b here = rw here refl
and_true false b here = refl

and_false : (a b : Bool) → b ≡ false → (a && (b && true)) ≡ false
and_false true b here = rw here refl
and_false false b here = refl

-- whether all bytes are blanks, by the last one
pub blanks-last : (line front : List ℕ) (last : ℕ) → line ≡ front ++ last ∷ [] → is_blank last ≡ true → list_all is_blank front ≡ list_all is_blank line
blanks-last line front last whole blank =
    sym (ap (list_all is_blank) whole ∙ list_all-append is_blank front (last ∷ []) ∙ and_true (list_all is_blank front) (is_blank last) blank)

pub blanks-broken : (line front : List ℕ) (last : ℕ) → line ≡ front ++ last ∷ [] → is_blank last ≡ false → list_all is_blank line ≡ false
blanks-broken line front last whole other =
    ap (list_all is_blank) whole ∙ list_all-append is_blank front (last ∷ []) ∙ and_false (list_all is_blank front) (is_blank last) other

pub and_first : (a b : Bool) → (a && b) ≡ true → a ≡ true
and_first true b e = refl
and_first false b e = let f : ⊥ = cc in absurd f

pub and_second : (a b : Bool) → (a && b) ≡ true → b ≡ true
and_second true b e = e
and_second false b e = let f : ⊥ = cc in absurd f

-- a blank is no comment sign, and may stand in a line
blank-plain : (byte : ℕ) → is_blank byte ≡ true → (is_comment_sign byte ≡ false) × (is_text_byte byte ≡ true)
blank-plain byte blank = by (nat_eq byte 32) (nat_eq byte 9) refl refl blank
  where
    by : (space tab : Bool) → nat_eq byte 32 ≡ space → nat_eq byte 9 ≡ tab → (space || tab) ≡ true → (is_comment_sign byte ≡ false) × (is_text_byte byte ≡ true)
    by true tab space_is tab_is e = subst (λ b. (is_comment_sign b ≡ false) × (is_text_byte b ≡ true)) (sym (eqb-true byte 32 space_is)) (refl, refl)
    by false true space_is tab_is e = subst (λ b. (is_comment_sign b ≡ false) × (is_text_byte b ≡ true)) (sym (eqb-true byte 9 tab_is)) (refl, refl)
    by false false space_is tab_is e = let f : ⊥ = cc in absurd f

pub blanks-uncommented : (line : List ℕ) → list_all is_blank line ≡ true → list_any is_comment_sign line ≡ false
blanks-uncommented [] blank = refl
blanks-uncommented (byte ∷ line) blank =
    let here = (blank-plain byte (and_first (is_blank byte) (list_all is_blank line) blank)).0 in
    let rest = blanks-uncommented line (and_second (is_blank byte) (list_all is_blank line) blank) in
    rw (here, rest) refl

pub blanks-text : (line : List ℕ) → list_all is_blank line ≡ true → list_all is_text_byte line ≡ true
blanks-text [] blank = refl
blanks-text (byte ∷ line) blank =
    let here = (blank-plain byte (and_first (is_blank byte) (list_all is_blank line) blank)).1 in
    let rest = blanks-text line (and_second (is_blank byte) (list_all is_blank line) blank) in
    rw (here, rest) refl

pub blanks-tokens : (i : ℕ) (line : List ℕ) → list_all is_blank line ≡ true → tokens_from i line ≡ []
blanks-tokens i [] blank = refl
blanks-tokens i (byte ∷ line) blank =
    let here = and_first (is_blank byte) (list_all is_blank line) blank in
    let rest = blanks-tokens (i + 1) line (and_second (is_blank byte) (list_all is_blank line) blank) in
    rw here rest
