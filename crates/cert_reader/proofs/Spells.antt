-- Reading and the text that is read: exactly what is written so is read.
use Rattle.std.proofs.lemmas.List.{append-nil}
use Rattle.std.proofs.Common.{Bool, true, false, cond, ◌≡◌, ℕ, ◌^◌, ◌<◌, ◌≤◌, List, [], ◌++◌, Result, Ok, Err, refl}
use Rattle.std.proofs.Common.{sym, ap, subst, ◌∙◌, append_assoc, ◌⊎◌, inl, inr}
use Rattle.std.specs.Prelude.{decimal}
use Rattle.cert_reader.specs.Fronts.{◌>>=◌, text_at, number_at}
use Rattle.cert_reader.proofs.Texts.{text_takes, text_again, text_fails}
use Rattle.cert_reader.proofs.Numbers.{EndsNumber, number_takes, number_again, number_fails}

-- A reader takes the texts of the values that fit, where what follows ends them, and no others; and it fails in its
-- line
-- alone.
pub record Spells {A : Type 0} (Ends : List ℕ → Type 0) (Fits : A → Type 0) (text : A → List ℕ) (read : ℕ → List ℕ → Result (A × List ℕ) ℕ) : Type 0 where
  pub takes : (line : ℕ) (bytes : List ℕ) (x : A × List ℕ) → read line bytes ≡ Ok x → (bytes ≡ text x.0 ++ x.1) × Fits x.0
  pub again : (line : ℕ) (a : A) (rest : List ℕ) → Fits a → Ends rest → read line (text a ++ rest) ≡ Ok (a, rest)
  pub fails : (line : ℕ) (bytes : List ℕ) (l : ℕ) → read line bytes ≡ Err l → l ≡ line

-- whatever follows
abbrev pub Any : List ℕ → Type 0
Any rest = Unit {0}

pub bind_ok : {A B : Type 0} (r : Result A ℕ) (f : A → Result B ℕ) (y : B) → (r >>= f) ≡ Ok y → (x : A) × (r ≡ Ok x) × (f x ≡ Ok y)
bind_ok (Ok x) f y e = (x, refl, e)
bind_ok (Err d) f y e = absurd cc

abbrev FailsAs : {A B : Type 0} → Result A ℕ → (A → Result B ℕ) → ℕ → Type 0
FailsAs {A} (Ok x) f l = f x ≡ Err l
FailsAs (Err d) f l = d ≡ l

pub bind_err : {A B : Type 0} (r : Result A ℕ) (f : A → Result B ℕ) (l : ℕ) → (r >>= f) ≡ Err l → (r ≡ Err l) ⊎ ((x : A) × (r ≡ Ok x) × (f x ≡ Err l))
bind_err (Ok x) f l e = inr (x, refl, e)
bind_err (Err d) f l e = inl (let same : d ≡ l = cc in ap (λ k. Err k) same)

-- one reading after another
pub Spells-then : {A B : Type 0} {EA EB : List ℕ → Type 0} {FA : A → Type 0} {FB : A → B → Type 0} {FC : B →
    Type 0} {ta : A → List ℕ} {tb : A → B → List ℕ} {tc : B → List ℕ}
    (p : ℕ → List ℕ → Result (A × List ℕ) ℕ) (q : A → ℕ → List ℕ → Result (B × List ℕ) ℕ) →
    Spells EA FA ta p → ((a : A) → FA a → Spells EB (FB a) (tb a) (q a)) →
    ((b : B) → FC b → (a : A) × FA a × FB a b × (tc b ≡ ta a ++ tb a b)) →
    ((a : A) (b : B) → FA a → FB a b → FC b × (tc b ≡ ta a ++ tb a b)) →
    ((a : A) (b : B) (rest : List ℕ) → FA a → FB a b → EB rest → EA (tb a b ++ rest)) →
    Spells EB FC tc (λ line bytes. p line bytes >>= λ x. q x.0 line x.1)
Spells-then {A} {B} {EA} {EB} {FA} {FB} {FC} {ta} {tb} {tc} p q first second apart joined ends = record {
  takes = λ line bytes y e.
      let x = bind_ok (p line bytes) (λ x. q x.0 line x.1) y e in
      let one = first.takes line bytes x.0 x.1 in
      let two = (second x.0.0 one.1).takes line x.0.1 y x.2 in
      let both = joined x.0.0 y.0 one.1 two.1 in
      (one.0 ∙ ap (λ zs. ta x.0.0 ++ zs) two.0 ∙ sym (append_assoc (ta x.0.0) (tb x.0.0 y.0) y.1) ∙ ap (λ zs. zs ++ y.1) (sym both.1), both.0);
  again = λ line b rest fits ending.
      let parts = apart b fits in
      let regrouped : tc b ++ rest ≡ ta parts.0 ++ (tb parts.0 b ++ rest) = ap (λ zs. zs ++ rest) parts.3 ∙ append_assoc (ta parts.0) (tb parts.0 b) rest in
      let one : p line (tc b ++ rest) ≡ Ok (parts.0, tb parts.0 b ++ rest) = ap (p line) regrouped
      ∙ first.again line parts.0 (tb parts.0 b ++ rest) parts.1 (ends parts.0 b rest parts.1 parts.2 ending) in
      ap (λ r. r >>= λ x. q x.0 line x.1) one ∙ (second parts.0 parts.1).again line b rest parts.2 ending;
  fails = λ line bytes l e. elim (bind_err (p line bytes) (λ x. q x.0 line x.1) l e) [
    | inl here ↦ first.fails line bytes l here
    | inr x ↦ (second x.0.0 (first.takes line bytes x.0 x.1).1).fails line x.0.1 l x.2
  ];
}

-- nothing more
pub Spells-done : {A : Type 0} (a : A) → Spells Any (λ b. b ≡ a) (λ b. []) (λ line bytes. Ok (a, bytes))
Spells-done {A} a = record {
  takes = λ line bytes x e.
      let same : (a, bytes) ≡ x = cc in
      (ap (λ y. y.1) same, sym (ap (λ y. y.0) same));
  again = λ line b rest fits ending. ap (λ c. Ok (c, rest)) (sym fits);
  fails = λ line bytes l e. let f : ⊥ = cc in absurd f;
}

pub Spells-text : (text : List ℕ) → Spells Any (λ u. Unit {0}) (λ u. text) (text_at text)
Spells-text text = record {
  takes = λ line bytes x e. (text_takes text line bytes x e, tt);
  again = λ line a rest fits ending. text_again text line rest;
  fails = λ line bytes l e. text_fails text line bytes l e;
}

pub Spells-number : (limit : ℕ) → limit < 10 ^ 10 → Spells EndsNumber (λ n. n ≤ limit) (λ n. decimal n) (number_at limit)
Spells-number limit narrow = record {
  takes = λ line bytes x e. number_takes limit line bytes x e;
  again = λ line n rest fits ending. number_again limit line n rest narrow fits ending;
  fails = λ line bytes l e. number_fails limit line bytes l e;
}

pub guard_ok : {A : Type 0} (b : Bool) (d : ℕ) (x y : A) → cond {A = Result A ℕ} b (Ok x) (Err d) ≡ Ok y → (b ≡ true) × (x ≡ y)
guard_ok true d x y e = (refl, cc)
guard_ok false d x y e = absurd cc

guard_err : {A : Type 0} (b : Bool) (d l : ℕ) (x : A) → cond {A = Result A ℕ} b (Ok x) (Err d) ≡ Err l → l ≡ d
guard_err true d l x e = absurd cc
guard_err false d l x e = cc

-- values that pass a test, seen otherwise
pub Spells-where : {A B : Type 0} {E : List ℕ → Type 0} {F : A → Type 0} {G : B → Type 0} {t : A → List ℕ} (p : ℕ →
    List ℕ → Result (A × List ℕ) ℕ) (test : A → Bool) (f : A → B) (g : B → A) →
    Spells E F t p → ((a : A) → F a → test a ≡ true → G (f a) × (g (f a) ≡ a)) → ((b : B) → G b → F (g b) × (test (g b) ≡ true) × (f (g b) ≡ b)) →
    Spells E G (λ b. t (g b)) (λ line bytes. p line bytes >>= λ x. cond (test x.0) (Ok (f x.0, x.1)) (Err line))
Spells-where {A} {B} {E} {F} {G} {t} p test f g spells there back = record {
  takes = λ line bytes y e.
      let x = bind_ok (p line bytes) (λ x. cond (test x.0) (Ok (f x.0, x.1)) (Err line)) y e in
      let guard = guard_ok (test x.0.0) line (f x.0.0, x.0.1) y x.2 in
      let one = spells.takes line bytes x.0 x.1 in
      let fits = there x.0.0 one.1 guard.0 in
      subst (λ (z : B × List ℕ). (bytes ≡ t (g z.0) ++ z.1) × G z.0) guard.1 (one.0 ∙ ap (λ a. t a ++ x.0.1) (sym fits.1), fits.0);
  again = λ line b rest fits ending.
      let here = back b fits in
      ap (λ r. r >>= λ x. cond (test x.0) (Ok (f x.0, x.1)) (Err line)) (spells.again line (g b) rest here.0 ending)
      ∙ ap (λ c. cond {A = Result (B × List ℕ) ℕ} c (Ok (f (g b), rest)) (Err line)) here.1
      ∙ ap (λ c. Ok (c, rest)) here.2;
  fails = λ line bytes l e. elim (bind_err (p line bytes) (λ x. cond (test x.0) (Ok (f x.0, x.1)) (Err line)) l e) [
    | inl here ↦ spells.fails line bytes l here
    | inr x ↦ guard_err (test x.0.0) line l (f x.0.0, x.0.1) x.2
  ];
}

-- behind a text
pub Spells-behind : {B : Type 0} {E : List ℕ → Type 0} {F : B → Type 0} {t : B → List ℕ} (text : List ℕ) (q : ℕ →
    List ℕ → Result (B × List ℕ) ℕ) → Spells E F t q →
    Spells E F (λ b. text ++ t b) (λ line bytes. text_at text line bytes >>= λ x. q line x.1)
Spells-behind {B} {E} {F} {t} text q spells =
    Spells-then {FA = λ u. Unit {0}} {FB = λ u. F} {ta = λ u. text} {tb = λ u. t} (text_at text) (λ u. q) (Spells-text text) (λ u fits. spells)
    (λ b fits. (tt, tt, fits, refl)) (λ u b one two. (two, refl)) (λ u b rest one two ending. tt)

-- before a text
pub Spells-before : {A : Type 0} {E : List ℕ → Type 0} {F : A → Type 0} {t : A → List ℕ} (text : List ℕ) (p : ℕ →
    List ℕ → Result (A × List ℕ) ℕ) → Spells E F t p → ((rest : List ℕ) → E (text ++ rest)) →
    Spells Any F (λ a. t a ++ text) (λ line bytes. p line bytes >>= λ x. text_at text line x.1 >>= λ y. Ok (x.0, y.1))
Spells-before {A} {E} {F} {t} text p spells ends =
    Spells-then {FA = F} {FB = λ a b. b ≡ a} {FC = F} {ta = t} {tb = λ a b. text ++ []} p
    (λ a line bytes. text_at text line bytes >>= λ y. Ok (a, y.1)) spells
    (λ a fits. Spells-behind text (λ line bytes. Ok (a, bytes)) (Spells-done a))
    (λ b fits. (b, fits, refl, ap (λ ws. t b ++ ws) (sym (append-nil text))))
    (λ a b one two. (
      subst F (sym two) one,
      (let e : t b ++ text ≡ t a ++ (text ++ []) = ap (λ c. t c ++ text) two
          ∙ ap (λ ws. t a ++ ws) (sym (append-nil text)) in e),
    ))
    (λ a b rest one two ending. subst E (ap (λ ws. ws ++ rest) (sym (append-nil text))) (ends rest))
