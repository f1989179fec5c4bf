-- Items, one after the other.
use Rattle.std.proofs.Common.{◌≡◌, ℕ, zero, suc, ◌+◌, ◌<◌, ◌≤◌, Bool, true, false, cond, List, [], ◌∷◌, ◌++◌, length}
use Rattle.std.proofs.Common.{Result, Ok, Err, refl, sym, ap, subst, ◌∙◌, append_assoc, length-append, arith, inl}
use Rattle.std.proofs.Common.{inr}
use Rattle.cert_reader.specs.Fronts.{◌>>=◌}
use Rattle.cert_reader.specs.Items.{items_at}
use Rattle.cert_reader.proofs.Spells.{Spells, bind_ok, bind_err}

-- each item fits from where the one before has ended
abbrev pub RiseFrom : {A : Type 0} → (ℕ → A → Type 0) → (A → ℕ) → ℕ → List A → Type 0
RiseFrom fits after low [] = Unit {0}
RiseFrom fits after low (a ∷ zs) = fits low a × RiseFrom fits after (after a) zs

-- what an item is, and the text of items
pub record AreItems {A : Type 0} (goes_on : List ℕ → Bool) (after : A → ℕ) (item : ℕ → ℕ → List ℕ →
    Result (A × List ℕ) ℕ) (ends : List ℕ → Type 0) (fits : ℕ → A → Type 0) (text : A → List ℕ) (texts : List A →
    List ℕ) : Type 0 where
  pub spells : (low : ℕ) → Spells ends (fits low) text (item low)
  pub goes : (low : ℕ) (a : A) (rest : List ℕ) → fits low a → goes_on (text a ++ rest) ≡ true
  pub ending : (low : ℕ) (a : A) (rest : List ℕ) → fits low a → ends (text a ++ rest)
  pub some : (a : A) → 0 < length (text a)
  pub none : texts [] ≡ []
  pub more : (a : A) (zs : List A) → texts (a ∷ zs) ≡ text a ++ texts zs

pub items_take : {A : Type 0} (goes_on : List ℕ → Bool) (after : A → ℕ) (item : ℕ → ℕ → List ℕ →
    Result (A × List ℕ) ℕ) (ends : List ℕ → Type 0) (fits : ℕ → A → Type 0) (text : A → List ℕ) (texts : List A →
    List ℕ) →
    AreItems goes_on after item ends fits text texts → (most low line : ℕ) (bytes : List ℕ) (x : List A × List ℕ) →
    items_at goes_on after item most low line bytes ≡ Ok x → (bytes ≡ texts x.0 ++ x.1)
    × RiseFrom fits after low x.0
unfolding items_at
items_take {A} goes_on after item ends fits text texts are zero low line bytes x e =
    let same : ([], bytes) ≡ x = cc in
    subst (λ (y : List A × List ℕ). (bytes ≡ texts y.0 ++ y.1) × RiseFrom fits after low y.0) same (ap (λ ws. ws ++ bytes) (sym are.none), tt)
items_take {A} goes_on after item ends fits text texts are (suc most) low line bytes x e =
    by (goes_on bytes) (items_take goes_on after item ends fits text texts are most) e
  where
    by : (b : Bool) → ((low line : ℕ) (bytes : List ℕ) (x : List A × List ℕ) →
        items_at goes_on after item most low line bytes ≡ Ok x → (bytes ≡ texts x.0 ++ x.1)
        × RiseFrom fits after low x.0) →
        cond {A = Result (List A × List ℕ) ℕ} b (item low line bytes >>= λ x. items_at goes_on after item most
        (after x.0) line x.1 >>= λ xs. Ok (x.0 ∷ xs.0, xs.1)) (Ok ([], bytes)) ≡ Ok x →
        (bytes ≡ texts x.0 ++ x.1) × RiseFrom fits after low x.0
    by true others e =
        let a = bind_ok (item low line bytes) (λ x. items_at goes_on after item most (after x.0) line x.1 >>= λ xs. Ok (x.0 ∷ xs.0, xs.1)) x e in
        let b = bind_ok (items_at goes_on after item most (after a.0.0) line a.0.1) (λ xs. Ok (a.0.0 ∷ xs.0, xs.1)) x a.2 in
        let one = (are.spells low).takes line bytes a.0 a.1 in
        let two = others (after a.0.0) line a.0.1 b.0 b.1 in
        let same : (a.0.0 ∷ b.0.0, b.0.1) ≡ x = (let made : (a.0.0 ∷ b.0.0, b.0.1) ≡ x = cc in made) in
        let whole : bytes ≡ texts (a.0.0 ∷ b.0.0) ++ b.0.1 = one.0 ∙ ap (λ ws. text a.0.0 ++ ws) two.0
        ∙ sym (append_assoc (text a.0.0) (texts b.0.0) b.0.1)
        ∙ ap (λ ws. ws ++ b.0.1) (sym (are.more a.0.0 b.0.0)) in
        subst (λ (y : List A × List ℕ). (bytes ≡ texts y.0 ++ y.1) × RiseFrom fits after low y.0) same (whole, (one.1, two.1))
    by false others e =
        let same : ([], bytes) ≡ x = cc in
        subst (λ (y : List A × List ℕ). (bytes ≡ texts y.0 ++ y.1) × RiseFrom fits after low y.0) same (ap (λ ws. ws ++ bytes) (sym are.none), tt)

pub items_fail : {A : Type 0} (goes_on : List ℕ → Bool) (after : A → ℕ) (item : ℕ → ℕ → List ℕ →
    Result (A × List ℕ) ℕ) (ends : List ℕ → Type 0) (fits : ℕ → A → Type 0) (text : A → List ℕ) (texts : List A →
    List ℕ) →
    AreItems goes_on after item ends fits text texts → (most low line : ℕ) (bytes : List ℕ) (l : ℕ) →
    items_at goes_on after item most low line bytes ≡ Err l → l ≡ line
unfolding items_at
items_fail {A} goes_on after item ends fits text texts are zero low line bytes l e = let f : ⊥ = cc in absurd f
items_fail {A} goes_on after item ends fits text texts are (suc most) low line bytes l e =
    by (goes_on bytes) (items_fail goes_on after item ends fits text texts are most) e
  where
    by : (b : Bool) → ((low line : ℕ) (bytes : List ℕ) (l : ℕ) → items_at goes_on after item most low line bytes ≡ Err l → l ≡ line) →
        cond {A = Result (List A × List ℕ) ℕ} b (item low line bytes >>= λ x. items_at goes_on after item most
        (after x.0) line x.1 >>= λ xs. Ok (x.0 ∷ xs.0, xs.1)) (Ok ([], bytes)) ≡ Err l → l ≡ line
    by true others e = elim (bind_err (item low line bytes) (λ x. items_at goes_on after item most (after x.0) line x.1 >>= λ xs. Ok (x.0 ∷ xs.0, xs.1)) l e) [
      | inl here ↦ (are.spells low).fails line bytes l here
      | inr a ↦ elim (bind_err (items_at goes_on after item most (after a.0.0) line a.0.1) (λ xs. Ok (a.0.0 ∷ xs.0, xs.1)) l a.2) [
        | inl later ↦ others (after a.0.0) line a.0.1 l later
        | inr b ↦ (let f : ⊥ = (let g : Ok (a.0.0 ∷ b.0.0, b.0.1) ≡ Err l = b.2 in cc) in absurd f)
      ]
    ]
    by false others e = let f : ⊥ = cc in absurd f

pub items_again : {A : Type 0} (goes_on : List ℕ → Bool) (after : A → ℕ) (item : ℕ → ℕ → List ℕ →
    Result (A × List ℕ) ℕ) (ends : List ℕ → Type 0) (fits : ℕ → A → Type 0) (text : A → List ℕ) (texts : List A →
    List ℕ) →
    AreItems goes_on after item ends fits text texts → (most low line : ℕ) (zs : List A) (rest : List ℕ) →
    RiseFrom fits after low zs → goes_on rest ≡ false → ends rest → length (texts zs ++ rest) ≤ most →
    items_at goes_on after item most low line (texts zs ++ rest) ≡ Ok (zs, rest)
unfolding items_at
items_again {A} goes_on after item ends fits text texts are zero low line [] rest rise stop ending long = ap (λ ws. Ok ([], ws ++ rest)) are.none
items_again {A} goes_on after item ends fits text texts are zero low line (a ∷ zs) rest rise stop ending long =
    let regrouped : length (texts (a ∷ zs) ++ rest) ≡ length (text a) + length (texts zs ++ rest) =
    ap length (ap (λ ws. ws ++ rest) (are.more a zs) ∙ append_assoc (text a) (texts zs) rest)
    ∙ length-append (text a) (texts zs ++ rest) in
    absurd (omega (arith, regrouped, are.some a, long))
items_again {A} goes_on after item ends fits text texts are (suc most) low line [] rest rise stop ending long =
    let empty : texts [] ++ rest ≡ rest = ap (λ ws. ws ++ rest) are.none in
    ap (items_at goes_on after item (suc most) low line) empty ∙ rw stop refl
items_again {A} goes_on after item ends fits text texts are (suc most) low line (a ∷ zs) rest rise stop ending long =
    let whole : texts (a ∷ zs) ++ rest ≡ text a ++ (texts zs ++ rest) = ap (λ ws. ws ++ rest) (are.more a zs) ∙ append_assoc (text a) (texts zs) rest in
    let regrouped : length (texts (a ∷ zs) ++ rest) ≡ length (text a) + length (texts zs ++ rest) = ap length whole
    ∙ length-append (text a) (texts zs ++ rest) in
    let first : item low line (text a ++ (texts zs ++ rest)) ≡ Ok (a, texts zs ++ rest) =
    (are.spells low).again line a (texts zs ++ rest) rise.0 (follows zs rise.1) in
    let others = items_again goes_on after item ends fits text texts are most
    (after a) line zs rest rise.1 stop ending (omega (arith, regrouped, are.some a, long)) in
    ap (items_at goes_on after item (suc most) low line) whole ∙ rw (are.goes low a (texts zs ++ rest) rise.0, first, others) refl
  where
    follows : (zs : List A) → RiseFrom fits after (after a) zs → ends (texts zs ++ rest)
    follows [] rise = subst (λ ws. ends (ws ++ rest)) (sym are.none) ending
    follows (b ∷ bs) rise = subst ends (sym (ap (λ ws. ws ++ rest) (are.more b bs)
        ∙ append_assoc (text b) (texts bs) rest)) (are.ending (after a) b (texts bs ++ rest) rise.0)

-- what ends items
pub record EndsItems (goes_on : List ℕ → Bool) (ends : List ℕ → Type 0) (rest : List ℕ) : Type 0 where
  pub no_item : goes_on rest ≡ false
  pub ended : ends rest

pub Spells-items : {A : Type 0} (goes_on : List ℕ → Bool) (after : A → ℕ) (item : ℕ → ℕ → List ℕ →
    Result (A × List ℕ) ℕ) (ends : List ℕ → Type 0) (fits : ℕ → A → Type 0) (text : A → List ℕ) (texts : List A →
    List ℕ) →
    AreItems goes_on after item ends fits text texts → Spells (EndsItems goes_on ends) (RiseFrom fits after 0) texts
    (λ line bytes. items_at goes_on after item (length bytes) 0 line bytes)
Spells-items goes_on after item ends fits text texts are = record {
  takes = λ line bytes x e. items_take goes_on after item ends fits text texts are (length bytes) 0 line bytes x e;
  again = λ line zs rest rise ending. items_again goes_on after item ends fits text texts are
      (length (texts zs ++ rest)) 0 line zs rest rise ending.no_item ending.ended (omega arith);
  fails = λ line bytes l e. items_fail goes_on after item ends fits text texts are (length bytes) 0 line bytes l e;
}
