-- A term put at its place in a model.
use Rattle.std.proofs.Common.{◌≡◌, ℕ, ◌+◌, ◌%◌, ◌<◌, Bool, true, false, cond, ◌&&◌, ◌||◌, List, [], ◌∷◌, ◌++◌, length}
use Rattle.std.proofs.Common.{get_or, nat_eq, Some, None, unwrap_or, is_some, Result, Ok, Err, IfErr, refl, sym, ap}
use Rattle.std.proofs.Common.{subst, ◌∙◌, arith}
use Rattle.std.proofs.Math.Nat.{mod-eq_of_lt, mod-mod}
use Rattle.std.proofs.lemmas.Bool.{eqb-true}
use Rattle.mixed_model.specs.Models.{MixedModel, IsModel, PutsAt, PutsSymbolAt, constant_of, constant_at, symbol_of, row_of}
use Rattle.mixed_model.specs.Names.{AnswersAdd}
use Rattle.mixed_model.specs.Rows.{putting, putting_symbol}
use Rattle.mixed_model.specs.declared.errors.AddError.{AddError}
use Rattle.mixed_model.specs.declared.errors.AddError.TheVariants.{Twice, TooMany, NoMemory}
use Rattle.term_model.specs.Putting.{IsFree, IsPlaceOf, Says, PutsTerms, LacksRoom}
use Rattle.term_model.specs.Terms.{Term, said_of, symbol_said, stands_at}
use Rattle.term_model.proofs.Saying.{said_of-append, said_of-free, said_of-one, symbol_said-append, symbol_said-free}
use Rattle.mixed_model.proofs.ModelLaws.{constant_of-None}
use Rattle.mixed_model.proofs.NameLaws.{stands_once}

-- what is put at the place of equation i and unknown j
module _ (p : ℕ) (old : MixedModel) (i j : ℕ) (term : Term) (is : IsModel p old)
    (row : i < length old.equations) (col : j < length old.unknowns)
    (at_equation : get_or old.equations i [] ≡ term.equation) (at_unknown : get_or old.unknowns j [] ≡ term.unknown) where
  -- the place of a term is told by its numbers
  stands : (k l : ℕ) → k < length old.equations → l < length old.unknowns → stands_at (get_or old.equations k [])
      (get_or old.unknowns l []) term ≡ (nat_eq i k && nat_eq j l)
  stands k l rk cl =
      (λ t. stands_once old.equations term.equation i k is.equations.distinct row rk at_equation t
      && stands_once old.unknowns term.unknown j l is.unknowns.distinct col cl at_unknown t)

  -- where terms leave the place free, nothing stands there
  module _ (before : List Term) (says : Says p before old) (free : IsFree before term.equation term.unknown) where
    free_here : (k l : ℕ) → (nat_eq i k && nat_eq j l) ≡ true → k < length old.equations → l < length old.unknowns →
        IsFree before (get_or old.equations k []) (get_or old.unknowns l [])
    free_here k l here rk cl = by (nat_eq i k) refl (nat_eq j l) refl here
      where
        by : (a : Bool) → nat_eq i k ≡ a → (b : Bool) → nat_eq j l ≡ b → (a && b) ≡ true → IsFree before (get_or old.equations k []) (get_or old.unknowns l [])
        by false e b f none = let g : ⊥ = cc in absurd g
        by true e false f none = let g : ⊥ = cc in absurd g
        by true e true f both =
            subst (λ name. IsFree before name (get_or old.unknowns l [])) (sym at_equation ∙ ap (λ n. get_or old.equations n []) (eqb-true i k e))
            (subst (IsFree before term.equation) (sym at_unknown ∙ ap (λ n. get_or old.unknowns n []) (eqb-true j l f)) free)

    no_constant : constant_at old i j ≡ 0
    no_constant = says.constants i j row col ∙ said_of-free p before _ _
        (subst (λ name. IsFree before name (get_or old.unknowns j [])) (sym at_equation)
        (subst (IsFree before term.equation) (sym at_unknown) free))

    pub nothing_there : constant_of old i j ≡ None
    nothing_there = constant_of-None p old is i j no_constant

    pub no_symbol_there : symbol_of old i j ≡ false
    no_symbol_there = says.symbols i j row col ∙ symbol_said-free before _ _
        (subst (λ name. IsFree before name (get_or old.unknowns j [])) (sym at_equation)
        (subst (IsFree before term.equation) (sym at_unknown) free))

    -- what stands at each place once the term is put at its own
    module _ (new : MixedModel) (below : term.constant < p)
        (equations : new.equations ≡ old.equations) (unknowns : new.unknowns ≡ old.unknowns)
        (constants : (k l : ℕ) → k < length old.equations → l < length old.unknowns →
        constant_at new k l ≡ cond (nat_eq i k && nat_eq j l) term.constant (constant_at old k l))
        (symbols : (k l : ℕ) → k < length old.equations → l < length old.unknowns →
        symbol_of new k l ≡ ((nat_eq i k && nat_eq j l) && term.symbol || symbol_of old k l)) where
      constant_says : (k l : ℕ) → k < length old.equations → l < length old.unknowns →
          constant_at new k l ≡ said_of p (before ++ term ∷ []) (get_or old.equations k []) (get_or old.unknowns l [])
      constant_says k l rk cl =
          constants k l rk cl
          ∙ by (nat_eq i k && nat_eq j l) refl
          ∙ sym (said_of-append p before (term ∷ []) (get_or old.equations k []) (get_or old.unknowns l []))
        where
          place : List ℕ → List ℕ → ℕ
          place equation unknown = (said_of p before equation unknown + said_of p (term ∷ []) equation unknown) % p

          by : (b : Bool) → (nat_eq i k && nat_eq j l) ≡ b → cond (nat_eq i k && nat_eq j l) term.constant
              (constant_at old k l) ≡ place (get_or old.equations k []) (get_or old.unknowns l [])
          by true e =
              let here : said_of p (term ∷ []) (get_or old.equations k []) (get_or old.unknowns l []) ≡ term.constant =
              said_of-one p term _ _ below ∙ ap (λ b. cond b term.constant 0) (stands k l rk cl ∙ e) in
              let none : said_of p before (get_or old.equations k []) (get_or old.unknowns l []) ≡ 0 = said_of-free p before _ _ (free_here k l e rk cl) in
              ap (λ b. cond b term.constant (constant_at old k l)) e
              ∙ sym (mod-eq_of_lt {n = term.constant} {m = p} below)
              ∙ ap (λ n. n % p) (omega (arith, here, none))
          by false e =
              let here : said_of p (term ∷ []) (get_or old.equations k []) (get_or old.unknowns l []) ≡ 0 =
              said_of-one p term _ _ below ∙ ap (λ b. cond b term.constant 0) (stands k l rk cl ∙ e) in
              ap (λ b. cond b term.constant (constant_at old k l)) e
              ∙ says.constants k l rk cl
              ∙ sym (mod-mod _ p)
              ∙ ap (λ n. n % p) (omega (arith, here))

      symbol_says : (k l : ℕ) → k < length old.equations → l < length old.unknowns → symbol_of new k l ≡ symbol_said
          (before ++ term ∷ []) (get_or old.equations k []) (get_or old.unknowns l [])
      symbol_says k l rk cl =
          symbols k l rk cl
          ∙ swap ((nat_eq i k && nat_eq j l) && term.symbol) (symbol_of old k l)
          ∙ (λ t. says.symbols k l rk cl t || ((sym (stands k l rk cl) t && term.symbol) || false))
          ∙ sym (symbol_said-append before (term ∷ []) (get_or old.equations k []) (get_or old.unknowns l []))
        where
          swap : (a b : Bool) → (a || b) ≡ (b || (a || false))
          swap true true = refl
          swap true false = refl
          swap false true = refl
          swap false false = refl

      pub says_more : Says p (before ++ term ∷ []) new
      says_more = record {
        constants = λ k l rk cl.
            constant_says k l (omega (arith, ap length equations, rk)) (omega (arith, ap length unknowns, cl))
            ∙ (λ t. said_of p (before ++ term ∷ []) (get_or (sym equations t) k []) (get_or (sym unknowns t) l []));
        symbols = λ k l rk cl.
            symbol_says k l (omega (arith, ap length equations, rk)) (omega (arith, ap length unknowns, cl))
            ∙ (λ t. symbol_said (before ++ term ∷ []) (get_or (sym equations t) k []) (get_or (sym unknowns t) l []));
      }

-- a constant that is put
pub constant_put : (p : ℕ) (old new : MixedModel) (i j c : ℕ) (term : Term) → IsModel p old →
    IsPlaceOf old term.equation term.unknown i j → term.constant ≡ c → term.symbol ≡ false → c < p →
    PutsAt old new i j c → PutsTerms p old new (term ∷ [])
constant_put p old new i j c term is place constant symbol below puts before says free =
    says_more p old i j term is place.row place.column place.equation_is place.unknown_is before says free.0 new
    (subst (λ n. n < p) (sym constant) below) puts.equations puts.unknowns
    (λ k l rk cl. ap (λ o. unwrap_or o 0) (puts.constants k l) ∙ chosen (nat_eq i k && nat_eq j l) k l)
    (λ k l rk cl. puts.symbols k l ∙ same (nat_eq i k && nat_eq j l) (symbol_of old k l))
  where
    chosen : (b : Bool) (k l : ℕ) → unwrap_or (cond b (Some c) (constant_of old k l)) 0 ≡ cond b term.constant (constant_at old k l)
    chosen true k l = sym constant
    chosen false k l = refl

    same : (b old_symbol : Bool) → old_symbol ≡ (b && term.symbol || old_symbol)
    same true old_symbol = ap (λ s. s || old_symbol) (sym symbol)
    same false old_symbol = refl

-- a symbol that is put
pub symbol_put : (p : ℕ) (old new : MixedModel) (i j : ℕ) (term : Term) → IsModel p old →
    IsPlaceOf old term.equation term.unknown i j → term.constant ≡ 0 → term.symbol ≡ true → 0 < p →
    PutsSymbolAt old new i j → PutsTerms p old new (term ∷ [])
symbol_put p old new i j term is place constant symbol some puts before says free =
    says_more p old i j term is place.row place.column place.equation_is place.unknown_is before says free.0 new
    (subst (λ n. n < p) (sym constant) some) puts.equations puts.unknowns
    (λ k l rk cl. ap (λ o. unwrap_or o 0) (puts.constants k l) ∙ by k l rk cl (nat_eq i k) refl (nat_eq j l) refl)
    (λ k l rk cl. puts.symbols k l ∙ same (nat_eq i k && nat_eq j l) (symbol_of old k l))
  where
    none : constant_at old i j ≡ 0
    none = ap (λ o. unwrap_or o 0) (nothing_there p old i j term is place.row place.column place.equation_is place.unknown_is before says free.0)

    by : (k l : ℕ) → k < length old.equations → l < length old.unknowns → (a : Bool) → nat_eq i k ≡ a → (b : Bool) →
        nat_eq j l ≡ b → constant_at old k l ≡ cond (nat_eq i k && nat_eq j l) term.constant (constant_at old k l)
    by k l rk cl false e b f = (λ t. cond (sym e t && nat_eq j l) term.constant (constant_at old k l))
    by k l rk cl true e false f = (λ t. cond (sym e t && sym f t) term.constant (constant_at old k l))
    by k l rk cl true e true f =
        (λ t. constant_at old (sym (eqb-true i k e) t) (sym (eqb-true j l f) t))
        ∙ none ∙ sym constant
        ∙ (λ t. cond (sym e t && sym f t) term.constant (constant_at old k l))

    same : (b old_symbol : Bool) → (b || old_symbol) ≡ (b && term.symbol || old_symbol)
    same true old_symbol = ap (λ s. s || old_symbol) (sym symbol)
    same false old_symbol = refl

-- where nothing stands, memory alone is wanting
pub constant_refused : (p : ℕ) (old : MixedModel) (i j : ℕ) (term : Term) (result : Result (Unit {0}) AddError) →
    IsModel p old → IsPlaceOf old term.equation term.unknown i j → AnswersAdd result (putting (row_of old i) j) →
    IfErr result (LacksRoom p old (term ∷ []))
constant_refused p old i j term (Ok done) is place answer = tt
constant_refused p old i j term (Err error) is place answer = λ before says free.
    let none : is_some (constant_of old i j) ≡ false =
    ap is_some (nothing_there p old i j term is place.row place.column place.equation_is place.unknown_is before says free.0) in
    by error answer (ap (λ b. cond b (Err Twice) (Ok tt)) none)
  where
    by : (error : AddError) → AnswersAdd {T = Unit {0}} (Err error) (putting (row_of old i) j) → putting (row_of old i) j ≡ Ok tt → error ≡ NoMemory
    by Twice told kept = let both : ◌≡◌ {A = Result (Unit {0}) AddError} (Ok tt) (Err Twice) = sym kept ∙ told in let f : ⊥ = cc in absurd f
    by TooMany told kept = let both : ◌≡◌ {A = Result (Unit {0}) AddError} (Ok tt) (Err TooMany) = sym kept ∙ told in let f : ⊥ = cc in absurd f
    by NoMemory told kept = refl

pub symbol_refused : (p : ℕ) (old : MixedModel) (i j : ℕ) (term : Term) (result : Result (Unit {0}) AddError) →
    IsModel p old → IsPlaceOf old term.equation term.unknown i j →
    AnswersAdd result (putting_symbol (row_of old i) j) → IfErr result (LacksRoom p old (term ∷ []))
symbol_refused p old i j term (Ok done) is place answer = tt
symbol_refused p old i j term (Err error) is place answer = λ before says free.
    let none : symbol_of old i j ≡ false = no_symbol_there p old i j term is place.row place.column place.equation_is place.unknown_is before says free.0 in
    by error answer (ap (λ b. cond b (Err Twice) (Ok tt)) none)
  where
    by : (error : AddError) → AnswersAdd {T = Unit {0}} (Err error) (putting_symbol (row_of old i) j) →
        putting_symbol (row_of old i) j ≡ Ok tt → error ≡ NoMemory
    by Twice told kept = let both : ◌≡◌ {A = Result (Unit {0}) AddError} (Ok tt) (Err Twice) = sym kept ∙ told in let f : ⊥ = cc in absurd f
    by TooMany told kept = let both : ◌≡◌ {A = Result (Unit {0}) AddError} (Ok tt) (Err TooMany) = sym kept ∙ told in let f : ⊥ = cc in absurd f
    by NoMemory told kept = refl
