-- Names of parts between points, and the parts of such a name.
use Rattle.std.proofs.Common.{◌≡◌, ℕ, suc, ◌+◌, arith, Bool, true, false, cond, not, ◌&&◌, List, [], ◌∷◌, ◌++◌, take}
use Rattle.std.proofs.Common.{drop, codes, refl, sym, ap, ◌∙◌, append_assoc}
use Rattle.std.specs.List.{after_first, before_first, list_all, position_or_len}
use Rattle.line_lexer.specs.Numbers.{is_point}
use Rattle.term_model.specs.Terms.{dotted}

-- no byte is a point
abbrev pub is_dotless : List ℕ → Bool
is_dotless text = list_all (λ byte. not (is_point byte)) text

dotless-parts : (byte : ℕ) (bytes : List ℕ) → is_dotless (byte ∷ bytes) ≡ true → (is_point byte ≡ false) × (is_dotless bytes ≡ true)
dotless-parts byte bytes h = by (is_point byte) refl h
  where
    by : (b : Bool) → is_point byte ≡ b → (not b && is_dotless bytes) ≡ true → (is_point byte ≡ false) × (is_dotless bytes ≡ true)
    by true e none = let f : ⊥ = cc in absurd f
    by false e rest = (e, rest)

first-more : (byte : ℕ) (bytes : List ℕ) → is_point byte ≡ false → position_or_len is_point (byte ∷ bytes) ≡ suc (position_or_len is_point bytes)
first-more byte bytes e = ap (λ b. cond (not b) (1 + position_or_len is_point bytes) 0) e ∙ omega arith

-- what stands before the first point, and after it
pub before-dotted : (word rest : List ℕ) → is_dotless word ≡ true → before_first is_point (dotted word rest) ≡ word
before-dotted [] rest h = refl
before-dotted (byte ∷ word) rest h =
    let parts = dotless-parts byte word h in
    ap (λ n. take n (dotted (byte ∷ word) rest)) (first-more byte (dotted word rest) parts.0)
    ∙ ap (λ text. byte ∷ text) (before-dotted word rest parts.1)

pub after-dotted : (word rest : List ℕ) → is_dotless word ≡ true → after_first is_point (dotted word rest) ≡ rest
after-dotted [] rest h = refl
after-dotted (byte ∷ word) rest h =
    let parts = dotless-parts byte word h in
    ap (λ n. drop n (dotted (byte ∷ word) rest)) (one-more (first-more byte (dotted word rest) parts.0))
    ∙ after-dotted word rest parts.1
  where
    one-more : position_or_len is_point (dotted (byte ∷ word) rest) ≡ suc
        (position_or_len is_point (dotted word rest)) →
        position_or_len is_point (dotted (byte ∷ word) rest) + 1 ≡ suc
        (position_or_len is_point (dotted word rest) + 1)
    one-more e = omega (arith, e)

pub before-dotless : (word : List ℕ) → is_dotless word ≡ true → before_first is_point word ≡ word
before-dotless [] h = refl
before-dotless (byte ∷ word) h =
    let parts = dotless-parts byte word h in
    ap (λ n. take n (byte ∷ word)) (first-more byte word parts.0)
    ∙ ap (λ text. byte ∷ text) (before-dotless word parts.1)

-- names of two parts are the same where the parts are
pub same-parts : (a b x y : List ℕ) → is_dotless a ≡ true → is_dotless b ≡ true → dotted a x ≡ dotted b y → (a ≡ b) × (x ≡ y)
same-parts a b x y left right same = (
  sym (before-dotted a x left) ∙ ap (before_first is_point) same ∙ before-dotted b y right,
  sym (after-dotted a x left) ∙ ap (after_first is_point) same ∙ after-dotted b y right,
)

pub dotted-assoc : (a b c : List ℕ) → dotted (dotted a b) c ≡ dotted a (dotted b c)
dotted-assoc a b c =
    ap (λ text. text ++ c) (append_assoc (a ++ codes ".") b (codes "."))
    ∙ append_assoc (a ++ codes ".") (b ++ codes ".") c

-- the word, the unit and what follows it, of a name
abbrev pub word_of : List ℕ → List ℕ
word_of name = before_first is_point name

abbrev pub unit_of : List ℕ → List ℕ
unit_of name = before_first is_point (after_first is_point name)

abbrev pub behind_unit : List ℕ → List ℕ
behind_unit name = after_first is_point (after_first is_point name)

abbrev pub component_of : List ℕ → List ℕ
component_of name = before_first is_point (behind_unit name)

-- the parts of word.unit, and of word.unit.rest
pub unit_of-own : (word unit : List ℕ) → is_dotless word ≡ true → is_dotless unit ≡ true → unit_of (dotted word unit) ≡ unit
unit_of-own word unit w u = ap (before_first is_point) (after-dotted word unit w) ∙ before-dotless unit u

pub unit_of-longer : (word unit rest : List ℕ) → is_dotless word ≡ true → is_dotless unit ≡ true → unit_of (dotted word (dotted unit rest)) ≡ unit
unit_of-longer word unit rest w u = ap (before_first is_point) (after-dotted word (dotted unit rest) w) ∙ before-dotted unit rest u

pub behind-longer : (word unit rest : List ℕ) → is_dotless word ≡ true → is_dotless unit ≡ true → behind_unit (dotted word (dotted unit rest)) ≡ rest
behind-longer word unit rest w u = ap (after_first is_point) (after-dotted word (dotted unit rest) w) ∙ after-dotted unit rest u
