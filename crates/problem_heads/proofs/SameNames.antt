-- Names without blanks are told by the text of them.
use Rattle.std.proofs.Common.{◌≡◌, ◌≢◌, ℕ, suc, Bool, true, false, not, ◌&&◌, List, [], ◌∷◌, ◌++◌, All, nat_eq, refl, sym, ap, ◌∙◌, arith}
use Rattle.std.specs.List.{list_all}
use Rattle.std.proofs.lemmas.Slice.Eq.{bytes_eq-Decides}
use Rattle.problem_heads.specs.HeadNumbers.{HasNoBlank, are_same_names, spaced_names}

and-first : (a b : Bool) → (a && b) ≡ true → a ≡ true
and-first true b e = refl
and-first false b e = absurd cc

and-second : (a b : Bool) → (a && b) ≡ true → b ≡ true
and-second true b e = e
and-second false b e = absurd cc

-- the first blank of both is behind the first name
same-first : (name other rest more : List ℕ) → HasNoBlank name → HasNoBlank other → name ++ 32 ∷ rest ≡ other ++ 32 ∷ more →
    (name ≡ other) × (rest ≡ more)
same-first [] [] rest more clean also same = (refl, let e : rest ≡ more = cc in e)
same-first [] (byte ∷ other) rest more clean also same =
    let e : 32 ≡ byte = cc in
    let solid = and-first (not (nat_eq byte 32)) (list_all (λ byte. not (nat_eq byte 32)) other) also in
    let blank : not (nat_eq 32 32) ≡ true = ap (λ b. not (nat_eq b 32)) e ∙ solid in
    let f : false ≡ true = blank in absurd cc
same-first (byte ∷ name) [] rest more clean also same =
    let e : byte ≡ 32 = cc in
    let solid = and-first (not (nat_eq byte 32)) (list_all (λ byte. not (nat_eq byte 32)) name) clean in
    let blank : not (nat_eq 32 32) ≡ true = ap (λ b. not (nat_eq b 32)) (sym e) ∙ solid in
    let f : false ≡ true = blank in absurd cc
same-first (byte ∷ name) (next ∷ other) rest more clean also same =
    let e : byte ≡ next = cc in
    let tail : name ++ 32 ∷ rest ≡ other ++ 32 ∷ more = cc in
    let below = same-first name other rest more
    (and-second (not (nat_eq byte 32)) (list_all (λ byte. not (nat_eq byte 32)) name) clean)
    (and-second (not (nat_eq next 32)) (list_all (λ byte. not (nat_eq byte 32)) other) also) tail in
    ((λ i. e i ∷ below.0 i), below.1)

all-first : {X : Type 0} (P : X → Type 0) (x : X) (xs : List X) → All P (x ∷ xs) → P x
all-first P x xs all = all 0 x (omega arith)

all-rest : {X : Type 0} (P : X → Type 0) (x : X) (xs : List X) → All P (x ∷ xs) → All P xs
all-rest P x xs all = λ k d short. all (suc k) d (omega (arith, short))

some-name : (name rest : List ℕ) → [] ≢ name ++ 32 ∷ rest
some-name [] rest = λ same. cc
some-name (byte ∷ name) rest = λ same. cc

same-spaced : (names others : List (List ℕ)) → All HasNoBlank names → All HasNoBlank others → spaced_names names ≡ spaced_names others → names ≡ others
same-spaced [] [] clean also same = refl
same-spaced [] (other ∷ others) clean also same = absurd (some-name other (spaced_names others) same)
same-spaced (name ∷ names) [] clean also same = absurd (some-name name (spaced_names names) (sym same))
same-spaced (name ∷ names) (other ∷ others) clean also same =
    let first = same-first name other (spaced_names names) (spaced_names others) (all-first HasNoBlank name names clean)
    (all-first HasNoBlank other others also) same in
    let rest = same-spaced names others (all-rest HasNoBlank name names clean) (all-rest HasNoBlank other others also) first.1 in
    λ i. first.0 i ∷ rest i

pub same-names : (names others : List (List ℕ)) → All HasNoBlank names → All HasNoBlank others → are_same_names names others ≡ true → names ≡ others
same-names names others clean also same =
    same-spaced names others clean also ((bytes_eq-Decides (spaced_names names) (spaced_names others)).0 same)
