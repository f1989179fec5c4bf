-- What a try leaves of a model in the making.
use Rattle.std.proofs.Common.{◌≡◌, ◌≢◌, ℕ, ◌+◌, ◌-◌, ◌*◌, ◌/◌, ◌%◌, ◌<◌, ◌≤◌, zero, suc, min, Bool, true, false, not, ◌&&◌, ◌||◌, cond}
use Rattle.std.proofs.Common.{Option, Some, None, is_some, refl, sym, ap, subst, ◌∙◌, arith, eqb, eqb-true, le-ltb, add-one}
use Rattle.std.specs.Option.{option_and_then, option_map_or, option_or}
use Rattle.std.proofs.Math.Nat.{min-eq_right}
use Rattle.std.proofs.lemmas.Bool.{eqb-false}
use Rattle.mixed_model.specs.Models.{MixedModel, PutsAt, constant_of, symbol_of}
use Rattle.made_models.specs.Draws.{next, draw}
use Rattle.made_models.specs.MadeModels.{constant_for, drawn_column, drawn_number, first_number, is_symbol_number, IsMade}
use Rattle.made_models.specs.Tries.{IsTried, TriesEntry, is_taken, last_after, tries_at}

-- the next draw
pub draws-on : (n k : ℕ) → next (last_after n k) ≡ draw n k
draws-on n zero = refl
draws-on n (suc k) = refl

pub draws-twice : (n k : ℕ) → next (next (last_after n k)) ≡ draw n (k + 1)
draws-twice n k = ap next (draws-on n k) ∙ ap (draw n) (sym (add-one k))

pub draws-after : (n k : ℕ) → next (next (last_after n k)) ≡ last_after n (k + 2)
draws-after n k = ap next (draws-on n k) ∙ ap (last_after n) more
  where
    more : suc (suc k) ≡ k + 2
    more = omega arith

-- a constant at a place where nothing stands
module _
    (i j number constant : ℕ) (old new : MixedModel) (free : is_taken old i j ≡ false) (small : number % 4 ≤ 1)
    (is : constant ≡ number / 4 % 65520 + 1) (puts : PutsAt old new i j constant) where
  no_symbol : is_symbol_number number ≡ false
  no_symbol = le-ltb 1 (number % 4) small

  for_number : constant_for number ≡ Some constant
  for_number = ap (λ b. cond b None (Some (number / 4 % 65520 + 1))) no_symbol ∙ ap Some (sym is)

  pub constant-entry : TriesEntry i j number old new
  constant-entry = record {
    equations = puts.equations;
    unknowns = puts.unknowns;
    constants = λ k c. puts.constants k c ∙ constants k c (eqb i k) refl (eqb j c) refl;
    symbols = λ k c. puts.symbols k c ∙ symbols k c (eqb i k) refl (eqb j c) refl;
  }
    where
      here : (k c : ℕ) → eqb i k ≡ true → eqb j c ≡ true → is_taken old k c ≡ false
      here k c p q = ap (λ m. is_taken old m c) (sym (eqb-true i k p)) ∙ ap (is_taken old i) (sym (eqb-true j c q)) ∙ free

      constants : (k c : ℕ) (a : Bool) → eqb i k ≡ a → (b : Bool) → eqb j c ≡ b →
          cond (a && b) (Some constant) (constant_of old k c) ≡ cond (a && b && not (is_taken old k c)) (constant_for number) (constant_of old k c)
      constants k c false p b q = refl
      constants k c true p false q = refl
      constants k c true p true q =
          sym for_number ∙ sym (ap (λ t. cond (not t) (constant_for number) (constant_of old k c)) (here k c p q))

      -- where nothing stands there is no symbol
      alone : (o : Option ℕ) (b : Bool) → (is_some o || b) ≡ false → b ≡ false
      alone o false f = refl
      alone None true f = f
      alone (Some x) true f = f

      symbols : (k c : ℕ) (a : Bool) → eqb i k ≡ a → (b : Bool) → eqb j c ≡ b →
          symbol_of old k c ≡ cond (a && b && not (is_taken old k c)) (is_symbol_number number) (symbol_of old k c)
      symbols k c false p b q = refl
      symbols k c true p false q = refl
      symbols k c true p true q =
          alone (constant_of old k c) (symbol_of old k c) (here k c p q)
          ∙ sym no_symbol
          ∙ sym (ap (λ t. cond (not t) (is_symbol_number number) (symbol_of old k c)) (here k c p q))

-- a place is taken where one of the tries before drew it
entry-taken : (found : Option ℕ) → (is_some (option_and_then constant_for found) || option_map_or is_symbol_number found false) ≡ is_some found
entry-taken None = refl
entry-taken (Some number) = by (is_symbol_number number)
  where
    by : (b : Bool) → (is_some (cond b None (Some (number / 4 % 65520 + 1))) || b) ≡ true
    by true = refl
    by false = refl

-- what an entry of a kind is after one try more
one_more : {A : Type 0} (told : Option ℕ → A) (number : ℕ) (found : Option ℕ) (b : Bool) →
    cond (b && not (is_some found)) (told (Some number)) (told found) ≡ told (option_or found (cond b (Some number) None))
one_more told number None true = refl
one_more told number None false = refl
one_more told number (Some x) true = refl
one_more told number (Some x) false = refl

-- how many tries are at an equation
tries-before : (i t : ℕ) → t ≤ 3 → tries_at (3 * i + t) i ≡ t
tries-before i t few = ap (min 3) left ∙ min-eq_right few
  where
    left : (3 * i + t) - 3 * i ≡ t
    left = omega arith

tries-elsewhere : (i t k : ℕ) → t < 3 → k ≢ i → tries_at (3 * i + (t + 1)) k ≡ tries_at (3 * i + t) k
tries-elsewhere i t k few other = omega (arith, other)

or_none : (found : Option ℕ) → option_or found None ≡ found
or_none None = refl
or_none (Some number) = refl

-- one try more
module _
    (n i t : ℕ) (few : t < 3) (old new : MixedModel)
    (tried : IsTried n (3 * i + t) old) (tries : TriesEntry i (drawn_column n i t) (drawn_number n i t) old new) where
  abbrev number : ℕ
  number = drawn_number n i t

  -- whether it is at this place
  abbrev is_here : ℕ → ℕ → Bool
  is_here k c = eqb i k && eqb (drawn_column n i t) c

  -- the first number at a place before it, and after it
  abbrev before : ℕ → ℕ → Option ℕ
  before k c = first_number n k c (tries_at (3 * i + t) k)

  abbrev after : ℕ → ℕ → Option ℕ
  after k c = first_number n k c (tries_at (3 * i + (t + 1)) k)

  more : tries_at (3 * i + (t + 1)) i ≡ suc t
  more = ap (λ m. tries_at (3 * i + m) i) (add-one t) ∙ tries-before i (suc t) few

  after-is : (k c : ℕ) → after k c ≡ option_or (before k c) (cond (is_here k c) (Some number) None)
  after-is k c = by (eqb i k) refl
    where
      by : (b : Bool) → eqb i k ≡ b → after k c ≡ option_or (before k c) (cond (b && eqb (drawn_column n i t) c) (Some number) None)
      by false e =
          ap (first_number n k c) (tries-elsewhere i t k few (λ same. eqb-false i k e (sym same))) ∙ sym (or_none (before k c))
      by true e = subst
          (λ m. after m c ≡ option_or (before m c) (cond (eqb (drawn_column n i t) c) (Some number) None)) (eqb-true i k e)
          (ap (first_number n i c) more
          ∙ ap (λ m. option_or (first_number n i c m) (cond (eqb (drawn_column n i t) c) (Some number) None)) (sym (tries-before i t (omega (arith, few)))))

  taken : (k c : ℕ) → is_taken old k c ≡ is_some (before k c)
  taken k c = (λ s. is_some (tried.constants k c s) || tried.symbols k c s) ∙ entry-taken (before k c)

  kind : {A : Type 0} (told : Option ℕ → A) (k c : ℕ) (was : A) → was ≡ told (before k c) →
      cond (is_here k c && not (is_taken old k c)) (told (Some number)) was ≡ told (after k c)
  kind told k c was is =
      (λ s. cond (is_here k c && not (taken k c s)) (told (Some number)) (is s))
      ∙ one_more told number (before k c) (is_here k c)
      ∙ ap told (sym (after-is k c))

  pub one-try-more : IsTried n (3 * i + (t + 1)) new
  one-try-more = record {
    equations = tries.equations ∙ tried.equations;
    unknowns = tries.unknowns ∙ tried.unknowns;
    constants = λ k c.
        tries.constants k c ∙ kind (option_and_then constant_for) k c (constant_of old k c) (tried.constants k c);
    symbols = λ k c.
        tries.symbols k c
        ∙ kind (λ found. option_map_or is_symbol_number found false) k c (symbol_of old k c) (tried.symbols k c);
  }

-- after the last one the model is made
pub tried-made : (n : ℕ) (model : MixedModel) → IsTried n (3 * n) model → IsMade n model
tried-made n model tried = record {
  equations = tried.equations;
  unknowns = tried.unknowns;
  constants = λ i j row column. tried.constants i j ∙ ap (λ m. option_and_then constant_for (first_number n i j m)) (all i row);
  symbols = λ i j row column. tried.symbols i j ∙ ap (λ m. option_map_or is_symbol_number (first_number n i j m) false) (all i row);
}
  where
    all : (i : ℕ) → i < n → tries_at (3 * n) i ≡ 3
    all i row = omega (arith, row)

-- a try by the next two draws
pub drawn-after : (n i t last : ℕ) → last ≡ last_after n (6 * i + 2 * t) →
    next (next last) ≡ last_after n (6 * i + 2 * (t + 1))
drawn-after n i t last at = ap (λ x. next (next x)) at ∙ draws-after n (6 * i + 2 * t) ∙ ap (last_after n) more
  where
    more : 6 * i + 2 * t + 2 ≡ 6 * i + 2 * (t + 1)
    more = omega arith

pub drawn-try : (n i t last after : ℕ) (old new : MixedModel) → t < 3 → last ≡ last_after n (6 * i + 2 * t) →
    after ≡ next (next last) → IsTried n (3 * i + t) old → TriesEntry i (next last % n) after old new → IsTried n (3 * i + (t + 1)) new
drawn-try n i t last after old new few at drawn tried tries = one-try-more n i t few old new tried
    (subst (λ column. TriesEntry i column (drawn_number n i t) old new) column
    (subst (λ number. TriesEntry i (next last % n) number old new) number tries))
  where
    column : next last % n ≡ drawn_column n i t
    column = ap (λ x. x % n) (ap next at ∙ draws-on n (6 * i + 2 * t))

    number : after ≡ drawn_number n i t
    number = drawn ∙ ap (λ x. next (next x)) at ∙ draws-twice n (6 * i + 2 * t)
