-- The lines of a certificate.
use Rattle.std.proofs.Common.{◌≡◌, ℕ, ◌+◌, ◌^◌, ◌<◌, ◌≤◌, Bool, true, false, cond, eqb, List, [], ◌∷◌, ◌++◌, length}
use Rattle.std.proofs.Common.{take, drop, Result, Ok, Err, refl, sym, ap, subst, ◌∙◌, append_assoc, length-append, ◌⊎◌, inl, inr}
use Rattle.std.proofs.Common.{arith, le-leb, eqb-true, eq-eqb}
use Rattle.std.specs.Prelude.{decimal, codes, nat_lt, nat_le}
use Rattle.std.specs.Fmt.{digits}
use Rattle.std.specs.List.Sorted.{IsStrictlyIncreasing}
use Rattle.std.proofs.lemmas.List.{take-append-drop, take_at, drop_at, length-take, map-id}
use Rattle.std.proofs.lemmas.Bool.Decides.{nat_tests}
use Rattle.limits.specs.Limits.{column_limit, equation_limit}
use Rattle.residue_field.specs.Modulus.{modulus_of}
use Rattle.residue_field.specs.declared.field_name.FieldName.TheVariants.{Large, Small}
use Rattle.cert_text.specs.Texts.{spaced, item, lettered, pairs_text, entries_text, numbers_text, letters_text}
use Rattle.cert_text.specs.Texts.{head_text, entries_line, columns_line, part_text, tail_line, block_line, kind_text}
use Rattle.cert_text.specs.Texts.{shape_text}
use Rattle.cert_text.specs.Ranges.{IsShape, AreRising, ArePairs, AreEntries, IsPart, IsBlock}
use Rattle.cert_text.specs.declared.kind.Kind.{Kind}
use Rattle.cert_text.specs.declared.kind.Kind.TheVariants.{Matrix, Netlist, Flowsheet}
use Rattle.cert_text.specs.declared.shape.Shape.{Shape}
use Rattle.cert_text.specs.declared.version.Version.{Version}
use Rattle.cert_text.specs.declared.version.Version.TheVariants.{One, Two}
use Rattle.cert_reader.specs.Fronts.{◌>>=◌, text_at, number_at, begins_with}
use Rattle.cert_reader.specs.Items.{goes_on, numbers_at, letters_at, pairs_at, entries_at, marked_at, pair_at, entry_at}
use Rattle.cert_reader.specs.LineReading.{either_at, version_at, field_line_at, kind_at, count_at, bytes_at, echo_at, spaced_at, both_at, before_at}
use Rattle.cert_reader.specs.LineReading.{line_at, exact_at, head_at, sizes_at, shape_at, pairs_line_at}
use Rattle.cert_reader.specs.LineReading.{entries_line_at, columns_line_at, part_at, tail_at, block_at}
use Rattle.cert_reader.proofs.Texts.{begins-is, begins-again, drop-again}
use Rattle.cert_reader.proofs.Numbers.{EndsNumber}
use Rattle.cert_reader.proofs.Spells.{Spells, Any, Spells-then, Spells-where, Spells-behind, Spells-before, Spells-number, Spells-text}
use Rattle.cert_reader.proofs.Items.{RiseFrom, EndsItems, Spells-items}
use Rattle.cert_reader.proofs.Rising.{Above, rising-from, rising-to}
use Rattle.cert_reader.proofs.ItemKinds.{ltb-true, from-ltb, are-numbers, are-letters, are-pairs, are-entries}

-- the line of the version, and that of the field
abbrev pub version_line : Version → List ℕ
version_line One = codes "mixed-certificate 1\n"
version_line Two = codes "mixed-certificate 2\n"

abbrev pub field_line : ℕ → List ℕ
field_line modulus = codes "field" ++ (spaced modulus ++ codes "\n")

-- the same values
pub Spells-same : {A : Type 0} {E : List ℕ → Type 0} {F G : A → Type 0} {t : A → List ℕ} (p : ℕ → List ℕ →
    Result (A × List ℕ) ℕ) → Spells E F t p → ((a : A) → F a → G a) → ((a : A) → G a → F a) → Spells E G t p
Spells-same p spells there back = record {
  takes = λ line bytes x e. (let t = spells.takes line bytes x e in (t.0, there x.0 t.1));
  again = λ line a rest fits ending. spells.again line a rest (back a fits) ending;
  fails = spells.fails;
}

rises-to : (n : ℕ) (xs : List ℕ) → RiseFrom (Above (λ i. i) (λ i. i < n)) (λ i. i + 1) 0 xs → AreRising n xs
rises-to n xs rise = (let h = rising-from (λ i. i) (λ i. i < n) 0 xs rise in record { rising = subst IsStrictlyIncreasing (map-id xs) h.0; below = h.1 })

rises-back : (n : ℕ) (xs : List ℕ) → AreRising n xs → RiseFrom (Above (λ i. i) (λ i. i < n)) (λ i. i + 1) 0 xs
rises-back n xs are = rising-to (λ i. i) (λ i. i < n) 0 xs (subst IsStrictlyIncreasing (sym (map-id xs)) are.rising) are.below (λ some. omega arith)

pub Spells-numbers : (n : ℕ) → n < 10 ^ 10 → Spells (EndsItems goes_on EndsNumber) (AreRising n) numbers_text (numbers_at n)
Spells-numbers n narrow = Spells-same (numbers_at n)
    (Spells-items goes_on (λ i. i + 1) (marked_at (codes " ") n) EndsNumber (Above (λ i. i) (λ i. i < n))
    (λ i. spaced (i + 1)) numbers_text (are-numbers n narrow)) (rises-to n) (rises-back n)

pub Spells-letters : (letter n : ℕ) → n < 10 ^ 10 →
    Spells (EndsItems (λ bytes. begins_with (32 ∷ letter ∷ []) bytes) EndsNumber) (AreRising n)
    (letters_text letter) (letters_at (32 ∷ letter ∷ []) n)
Spells-letters letter n narrow = Spells-same (letters_at (32 ∷ letter ∷ []) n)
    (Spells-items (λ bytes. begins_with (32 ∷ letter ∷ []) bytes) (λ i. i + 1)
    (marked_at (32 ∷ letter ∷ []) n) EndsNumber (Above (λ i. i) (λ i. i < n)) (λ i. lettered letter (i + 1))
    (letters_text letter) (are-letters letter n narrow)) (rises-to n) (rises-back n)

pub Spells-pairs : (m n : ℕ) → m < 10 ^ 10 → n < 10 ^ 10 → Spells (EndsItems goes_on EndsNumber) (ArePairs m n) pairs_text (pairs_at m n)
Spells-pairs m n small narrow = Spells-same (pairs_at m n) (Spells-items goes_on (λ p. p.0 + 1)
    (pair_at m n) EndsNumber (Above (λ p. p.0) (λ p. (p.0 < m) × (p.1 < n)))
    (λ p. item (p.0 + 1) (p.1 + 1)) pairs_text (are-pairs m n small narrow))
    (λ ps rise. (let h = rising-from (λ p. p.0) (λ p. (p.0 < m) × (p.1 < n)) 0 ps rise in record { rising = h.0; within = h.1 }))
    (λ ps are. rising-to (λ p. p.0) (λ p. (p.0 < m) × (p.1 < n)) 0 ps are.rising are.within (λ some. omega arith))

pub Spells-entries : (modulus n : ℕ) → modulus < 2 ^ 32 → n < 10 ^ 10 → Spells (EndsItems goes_on EndsNumber)
    (AreEntries modulus n) entries_text (entries_at modulus n)
Spells-entries modulus n small narrow = Spells-same (entries_at modulus n) (Spells-items goes_on (λ p. p.0 + 1)
    (entry_at modulus n) EndsNumber (Above (λ p. p.0) (λ p. (p.0 < n) × (0 < p.1) × (p.1 < modulus)))
    (λ p. item (p.0 + 1) p.1) entries_text (are-entries modulus n small narrow))
    (λ ps rise. (let h = rising-from (λ p. p.0) (λ p. (p.0 < n) × (0 < p.1) × (p.1 < modulus)) 0 ps rise in record { rising = h.0; within = h.1 }))
    (λ ps are. rising-to (λ p. p.0) (λ p. (p.0 < n) × (0 < p.1) × (p.1 < modulus)) 0 ps are.rising are.within (λ some. omega arith))

-- ---- the head

-- one of two texts of which the second does not begin with the first
Spells-either : {A : Type 0} (text : A → List ℕ) (a b : A) → ((rest : List ℕ) → begins_with (text a) (text b ++ rest) ≡ false) →
    Spells Any (λ x. (x ≡ a) ⊎ (x ≡ b)) text (either_at (text a) a (text b) b)
Spells-either {A} text a b apart = record {
  takes = λ line bytes x e. took line bytes x (begins_with (text a) bytes) (begins_with (text b) bytes) refl refl e;
  again = λ line x rest fits ending. elim fits [
    | inl first ↦ subst (λ y. read line (text y ++ rest) ≡ Ok (y, rest)) (sym first) (again-first line rest)
    | inr second ↦ subst (λ y. read line (text y ++ rest) ≡ Ok (y, rest)) (sym second) (again-second line rest)
  ];
  fails = λ line bytes l e. failed line bytes l (begins_with (text a) bytes) (begins_with (text b) bytes) e;
}
  where
    read : ℕ → List ℕ → Result (A × List ℕ) ℕ
    read = either_at (text a) a (text b) b

    by : Bool → Bool → ℕ → List ℕ → Result (A × List ℕ) ℕ
    by first second line bytes =
        cond first (Ok (a, drop (length (text a)) bytes)) (cond second (Ok (b, drop (length (text b)) bytes)) (Err line))

    again-first : (line : ℕ) (rest : List ℕ) → by (begins_with (text a) (text a ++ rest)) (begins_with (text b) (text a ++ rest)) line
        (text a ++ rest) ≡ Ok (a, rest)
    again-first line rest =
        ap (λ first. by first (begins_with (text b) (text a ++ rest)) line (text a ++ rest)) (begins-again (text a) rest)
        ∙ ap (λ left. Ok (a, left)) (drop-again (text a) rest)

    again-second : (line : ℕ) (rest : List ℕ) → by (begins_with (text a) (text b ++ rest)) (begins_with (text b) (text b ++ rest)) line
        (text b ++ rest) ≡ Ok (b, rest)
    again-second line rest =
        (λ i. by (apart rest i) (begins-again (text b) rest i) line (text b ++ rest))
        ∙ ap (λ left. Ok (b, left)) (drop-again (text b) rest)

    took : (line : ℕ) (bytes : List ℕ) (x : A × List ℕ) (first second : Bool) → begins_with (text a) bytes ≡ first →
        begins_with (text b) bytes ≡ second → by first second line bytes ≡ Ok x →
        (bytes ≡ text x.0 ++ x.1) × ((x.0 ≡ a) ⊎ (x.0 ≡ b))
    took line bytes x true second begins other e = (let same : (a, drop (length (text a)) bytes) ≡ x = cc in
        subst (λ (y : A × List ℕ). (bytes ≡ text y.0 ++ y.1) × ((y.0 ≡ a) ⊎ (y.0 ≡ b))) same
        (begins-is (text a) bytes begins, inl refl))
    took line bytes x false true other begins e = (let same : (b, drop (length (text b)) bytes) ≡ x = cc in
        subst (λ (y : A × List ℕ). (bytes ≡ text y.0 ++ y.1) × ((y.0 ≡ a) ⊎ (y.0 ≡ b))) same
        (begins-is (text b) bytes begins, inr refl))
    took line bytes x false false first second e = (let f : ⊥ = cc in absurd f)

    failed : (line : ℕ) (bytes : List ℕ) (l : ℕ) (first second : Bool) → by first second line bytes ≡ Err l → l ≡ line
    failed line bytes l true second e = (let f : ⊥ = cc in absurd f)
    failed line bytes l false true e = (let f : ⊥ = cc in absurd f)
    failed line bytes l false false e = cc

pub Spells-version : Spells Any (λ version. Unit {0}) version_line version_at
unfolding version_at
Spells-version = Spells-same version_at (Spells-either version_line One Two (λ rest. refl)) (λ version fits. tt) (λ version fits. either version)
  where
    either : (version : Version) → (version ≡ One) ⊎ (version ≡ Two)
    either One = inl refl
    either Two = inr refl

pub Spells-field_line : Spells Any (λ modulus. (modulus ≡ modulus_of Small) ⊎ (modulus ≡ modulus_of Large)) field_line field_line_at
unfolding field_line_at digits
Spells-field_line = Spells-either field_line (modulus_of Small) (modulus_of Large) (λ rest. refl)

pub Spells-kind : Spells Any (λ kind. Unit {0}) (λ kind. codes "kind " ++ (kind_text kind ++ codes "\n")) kind_at
unfolding kind_at
Spells-kind = record {
  takes = λ line bytes x e. (took line bytes x e, tt);
  again = λ line kind rest fits ending. again kind line rest;
  fails = λ line bytes l e. failed (begins_with (codes "kind matrix\n") bytes)
      (begins_with (codes "kind netlist\n") bytes) (begins_with (codes "kind flowsheet\n") bytes) line bytes l e;
}
  where
    again : (kind : Kind) (line : ℕ) (rest : List ℕ) → kind_at line ((codes "kind " ++ (kind_text kind ++ codes "\n")) ++ rest) ≡ Ok (kind, rest)
    again Matrix line rest = refl
    again Netlist line rest = refl
    again Flowsheet line rest = refl

    failed : (a b c : Bool) (line : ℕ) (bytes : List ℕ) (l : ℕ) → cond {A = Result (Kind × List ℕ) ℕ} a
        (Ok (Matrix, drop 12 bytes)) (cond b (Ok (Netlist, drop 13 bytes)) (cond c (Ok (Flowsheet, drop 15 bytes))
        (Err line))) ≡ Err l → l ≡ line
    failed true b c line bytes l e = let f : ⊥ = cc in absurd f
    failed false true c line bytes l e = let f : ⊥ = cc in absurd f
    failed false false true line bytes l e = let f : ⊥ = cc in absurd f
    failed false false false line bytes l e = cc

    by : (line : ℕ) (bytes : List ℕ) (x : Kind × List ℕ) (a b c : Bool) →
        begins_with (codes "kind matrix\n") bytes ≡ a → begins_with (codes "kind netlist\n") bytes ≡ b →
        begins_with (codes "kind flowsheet\n") bytes ≡ c →
        cond {A = Result (Kind × List ℕ) ℕ} a (Ok (Matrix, drop 12 bytes)) (cond b (Ok (Netlist, drop 13 bytes))
        (cond c (Ok (Flowsheet, drop 15 bytes)) (Err line))) ≡ Ok x →
        bytes ≡ (codes "kind " ++ (kind_text x.0 ++ codes "\n")) ++ x.1
    by line bytes x true b c first second third e = (let same : (Matrix, drop 12 bytes) ≡ x = cc in
        subst (λ (y : Kind × List ℕ). bytes ≡ (codes "kind " ++ (kind_text y.0 ++ codes "\n")) ++ y.1) same
        (begins-is (codes "kind matrix\n") bytes first))
    by line bytes x false true c first second third e = (let same : (Netlist, drop 13 bytes) ≡ x = cc in
        subst (λ (y : Kind × List ℕ). bytes ≡ (codes "kind " ++ (kind_text y.0 ++ codes "\n")) ++ y.1) same
        (begins-is (codes "kind netlist\n") bytes second))
    by line bytes x false false true first second third e = (let same : (Flowsheet, drop 15 bytes) ≡ x = cc in
        subst (λ (y : Kind × List ℕ). bytes ≡ (codes "kind " ++ (kind_text y.0 ++ codes "\n")) ++ y.1) same
        (begins-is (codes "kind flowsheet\n") bytes third))
    by line bytes x false false false first second third e = let f : ⊥ = cc in absurd f

    took : (line : ℕ) (bytes : List ℕ) (x : Kind × List ℕ) → kind_at line bytes ≡ Ok x → bytes ≡ (codes "kind " ++ (kind_text x.0 ++ codes "\n")) ++ x.1
    took line bytes x e = by line bytes x (begins_with (codes "kind matrix\n") bytes)
        (begins_with (codes "kind netlist\n") bytes) (begins_with (codes "kind flowsheet\n") bytes) refl refl refl e

pub Spells-count : (word : List ℕ) (limit : ℕ) → limit < 10 ^ 10 → Spells Any (λ n. n ≤ limit) (λ n. word ++ (decimal n ++ codes "\n")) (count_at word limit)
unfolding count_at
Spells-count word limit narrow = Spells-behind word (λ line bytes. number_at limit line bytes >>= λ number. text_at
    (codes "\n") line number.1 >>= λ feed. Ok (number.0, feed.1)) (Spells-before (codes "\n") (number_at limit)
    (Spells-number limit narrow) (λ rest. refl))

Spells-bytes : (count : ℕ) → Spells Any (λ echo. length echo ≡ count) (λ echo. echo) (bytes_at count)
unfolding bytes_at
Spells-bytes count = record {
  takes = λ line bytes x e. took (nat_le count (length bytes)) line bytes x refl e;
  again = λ line echo rest fits ending.
      let enough : nat_le count (length (echo ++ rest)) ≡ true = le-leb count (length (echo ++ rest)) (omega (arith, fits, length-append echo rest)) in
      rw (enough, take_at echo rest count fits, drop_at echo rest count fits) refl;
  fails = λ line bytes l e. failed (nat_le count (length bytes)) line bytes l e;
}
  where
    took : (b : Bool) (line : ℕ) (bytes : List ℕ) (x : List ℕ × List ℕ) → nat_le count (length bytes) ≡ b →
        cond {A = Result (List ℕ × List ℕ) ℕ} b (Ok (take count bytes, drop count bytes)) (Err line) ≡ Ok x →
        (bytes ≡ x.0 ++ x.1) × (length x.0 ≡ count)
    took true line bytes x enough e =
        let same : (take count bytes, drop count bytes) ≡ x = cc in
        let long : count ≤ length bytes = grind (arith, nat_tests) in
        subst (λ (y : List ℕ × List ℕ). (bytes ≡ y.0 ++ y.1) × (length y.0 ≡ count)) same
        (sym (take-append-drop count bytes), omega (arith, length-take count bytes))
    took false line bytes x enough e = let f : ⊥ = cc in absurd f

    failed : (b : Bool) (line : ℕ) (bytes : List ℕ) (l : ℕ) → cond {A = Result (List ℕ × List ℕ) ℕ} b
        (Ok (take count bytes, drop count bytes)) (Err line) ≡ Err l → l ≡ line
    failed true line bytes l e = let f : ⊥ = cc in absurd f
    failed false line bytes l e = cc

pub Spells-echo : (count : ℕ) → Spells Any (λ echo. length echo ≡ count) (λ echo. echo ++ codes "\n") (echo_at count)
unfolding echo_at
Spells-echo count = Spells-before (codes "\n") (bytes_at count) (Spells-bytes count) (λ rest. tt)

pub Spells-spaced : (limit : ℕ) → limit < 10 ^ 10 → Spells EndsNumber (λ n. n ≤ limit) spaced (spaced_at limit)
unfolding spaced_at
Spells-spaced limit narrow = Spells-behind (codes " ") (number_at limit) (Spells-number limit narrow)

-- where less may follow
pub Spells-narrow : {A : Type 0} {E D : List ℕ → Type 0} {F : A → Type 0} {t : A → List ℕ} {p : ℕ → List ℕ →
    Result (A × List ℕ) ℕ} → Spells E F t p → ((rest : List ℕ) → D rest → E rest) → Spells D F t p
Spells-narrow spells less = record {
  takes = spells.takes;
  again =
      λ line a rest fits ending. spells.again line a rest fits (less rest ending);
  fails = spells.fails;
}

-- the same texts
pub Spells-retold : {A : Type 0} {E : List ℕ → Type 0} {F : A → Type 0} {t u : A → List ℕ} {p : ℕ → List ℕ →
    Result (A × List ℕ) ℕ} → Spells E F t p → ((a : A) → t a ≡ u a) → Spells E F u p
Spells-retold {A} {E} {F} {t} {u} {p} spells same = record {
  takes = λ line bytes x e. (let h = spells.takes line bytes x e in (h.0 ∙ ap (λ ws. ws ++ x.1) (same x.0), h.1));
  again = λ line a rest fits ending. ap (λ ws. p line (ws ++ rest)) (sym (same a)) ∙ spells.again line a rest fits ending;
  fails = spells.fails;
}

six : (w a b c d e f : List ℕ) → w ++ ((a ++ (b ++ (c ++ (d ++ e)))) ++ f) ≡ w ++ a ++ b ++ c ++ d ++ e ++ f
six w a b c d e f = simp append_assoc

three : (a b c : List ℕ) → a ++ (b ++ c) ≡ a ++ b ++ c
three a b c = sym (append_assoc a b c)

five : (h p b l f : List ℕ) → h ++ (((p ++ b) ++ l) ++ f) ≡ h ++ p ++ b ++ l ++ f
five h p b l f = simp append_assoc

four : (a b c d : List ℕ) → (a ++ b) ++ (c ++ d) ≡ a ++ b ++ c ++ d
four a b c d = sym (append_assoc (a ++ b) c d)

-- ---- lines of several parts

pub Spells-both : {A B : Type 0} {EA EB : List ℕ → Type 0} {FA : A → Type 0} {FB : B → Type 0} {ta : A →
    List ℕ} {tb : B → List ℕ} (p : ℕ → List ℕ → Result (A × List ℕ) ℕ) (q : ℕ → List ℕ → Result (B × List ℕ) ℕ) →
    Spells EA FA ta p → Spells EB FB tb q → ((b : B) (rest : List ℕ) → FB b → EB rest → EA (tb b ++ rest)) →
    Spells EB (λ (x : A × B). FA x.0 × FB x.1) (λ x. ta x.0 ++ tb x.1) (both_at p q)
Spells-both {A} {B} {EA} {EB} {FA} {FB} {ta} {tb} p q one two ends =
    Spells-then {FB = λ a (x : A × B). (x.0 ≡ a) × FB x.1} {FC = λ (x : A × B). FA x.0 × FB x.1} {tb =
    λ a x. tb x.1} {tc = λ x. ta x.0 ++ tb x.1} p (λ a line bytes. q line bytes >>= λ y. Ok ((a, y.0), y.1)) one
    (λ a fits. Spells-where {G = λ (x : A × B). (x.0 ≡ a) × FB x.1} q (λ b. true) (λ b. (a, b)) (λ x. x.1) two
    (λ b fit test. ((refl, fit), refl)) (λ x fit. (fit.1, refl, ap (λ c. (c, x.1)) (sym fit.0))))
    (λ x fits. (x.0, fits.0, (refl, fits.1), refl))
    (λ a x first second. ((subst FA (sym second.0) first, second.1), ap (λ c. ta c ++ tb x.1) second.0))
    (λ a x rest first second ending. ends x.1 rest second.1 ending)

pub Spells-line : {A : Type 0} {E : List ℕ → Type 0} {F : A → Type 0} {t : A → List ℕ} (word : List ℕ) (p : ℕ →
    List ℕ → Result (A × List ℕ) ℕ) → Spells E F t p → ((rest : List ℕ) → E (10 ∷ rest)) →
    Spells Any F (λ a. word ++ (t a ++ codes "\n")) (line_at word p)
Spells-line word p spells ends = Spells-behind word (before_at p (codes "\n")) (Spells-before (codes "\n") p spells ends)

list-ends : (rest : List ℕ) → EndsItems goes_on EndsNumber (10 ∷ rest)
list-ends rest = record { no_item = refl; ended = refl }

pub Spells-shape : Spells Any IsShape shape_text shape_at
unfolding shape_at
Spells-shape = Spells-retold (Spells-where {G = IsShape} (line_at (codes "shape") sizes_at) (λ x. true)
    (λ x. record { equations = x.0; unknowns = x.1.0; q_rows = x.1.1.0; t_rows = x.1.1.1.0; columns = x.1.1.1.1 })
    (λ s. (s.equations, (s.unknowns, (s.q_rows, (s.t_rows, s.columns)))))
    (Spells-line (codes "shape") sizes_at
    (Spells-both (spaced_at equation_limit) (both_at (spaced_at equation_limit)
    (both_at (spaced_at equation_limit) (both_at (spaced_at equation_limit) (spaced_at column_limit))))
    (Spells-spaced equation_limit (omega arith))
    (Spells-both (spaced_at equation_limit) (both_at (spaced_at equation_limit)
    (both_at (spaced_at equation_limit) (spaced_at column_limit))) (Spells-spaced equation_limit (omega arith))
    (Spells-both (spaced_at equation_limit) (both_at (spaced_at equation_limit) (spaced_at column_limit)) (Spells-spaced equation_limit (omega arith))
    (Spells-both (spaced_at equation_limit) (spaced_at column_limit) (Spells-spaced equation_limit (omega arith))
    (Spells-spaced column_limit (omega arith)) (λ b rest fit ending. refl))
    (λ b rest fit ending. refl)) (λ b rest fit ending. refl)) (λ b rest fit ending. refl)) (λ rest. refl))
    (λ x fits test. (record { equations = fits.0; unknowns = fits.1.0; q_rows = fits.1.1.0; t_rows = fits.1.1.1.0; columns = fits.1.1.1.1 }, refl))
    (λ s fits. ((fits.equations, (fits.unknowns, (fits.q_rows, (fits.t_rows, fits.columns)))), refl, refl)))
    (λ s. six (codes "shape") (spaced s.equations) (spaced s.unknowns) (spaced s.q_rows) (spaced s.t_rows) (spaced s.columns) (codes "\n"))

pub Spells-pairs_line : (word : List ℕ) (m n : ℕ) → m < 10 ^ 10 → n < 10 ^ 10 →
    Spells Any (ArePairs m n) (λ ps. word ++ (pairs_text ps ++ codes "\n")) (pairs_line_at word m n)
unfolding pairs_line_at
Spells-pairs_line word m n small narrow = Spells-line word (pairs_at m n) (Spells-pairs m n small narrow) list-ends

pub Spells-entries_line : (modulus : ℕ) (word : List ℕ) (n number : ℕ) → modulus < 2 ^ 32 → n < 10 ^ 10 →
    Spells Any (AreEntries modulus n) (entries_line word number) (entries_line_at modulus word n number)
unfolding entries_line_at
Spells-entries_line modulus word n number small narrow =
    Spells-retold (Spells-line (head_text word number) (entries_at modulus n)
    (Spells-entries modulus n small narrow) list-ends) (λ es. three (head_text word number) (entries_text es)
    (codes "\n"))

pub Spells-columns_line : (word : List ℕ) (n number : ℕ) → n < 10 ^ 10 → Spells Any (AreRising n) (columns_line word number) (columns_line_at word n number)
unfolding columns_line_at
Spells-columns_line word n number narrow = Spells-retold (Spells-line (head_text word number) (numbers_at n)
    (Spells-numbers n narrow) list-ends) (λ cs. three (head_text word number) (numbers_text cs) (codes "\n"))

-- ---- parts

-- no row of a part follows
pub record EndsPart (rest : List ℕ) : Type 0 where
  pub no_q : begins_with (codes " q") rest ≡ false
  pub no_t : begins_with (codes " t") rest ≡ false
  pub ended : EndsNumber rest

t-ends : (ts : List ℕ) (rest : List ℕ) → EndsPart rest → EndsItems (λ bytes. begins_with (codes " q") bytes) EndsNumber (letters_text 116 ts ++ rest)
t-ends [] rest ends = record { no_item = ends.no_q; ended = ends.ended }
t-ends (t ∷ ts) rest ends = record { no_item = refl; ended = refl }

pub Spells-part : (shape : Shape) → IsShape shape → Spells EndsPart (IsPart shape) part_text (part_at shape)
unfolding part_at
Spells-part shape is = Spells-retold (Spells-where {G = IsPart shape}
    (both_at (before_at (numbers_at shape.columns) (codes " |")) (both_at (letters_at (codes " q") shape.q_rows)
    (letters_at (codes " t") shape.t_rows))) (λ x. true)
    (λ x. record { columns = x.0; q_rows = x.1.0; t_rows = x.1.1 }) (λ part. (part.columns, (part.q_rows, part.t_rows)))
    (Spells-both (before_at (numbers_at shape.columns) (codes " |")) (both_at (letters_at (codes " q") shape.q_rows) (letters_at (codes " t") shape.t_rows))
    (Spells-before (codes " |") (numbers_at shape.columns)
    (Spells-numbers shape.columns (omega (arith, is.columns))) (λ rest. record { no_item = refl; ended = refl }))
    (Spells-both {EB = EndsPart} (letters_at (codes " q") shape.q_rows) (letters_at (codes " t") shape.t_rows)
    (Spells-letters 113 shape.q_rows (omega (arith, is.q_rows)))
    (Spells-narrow (Spells-letters 116 shape.t_rows (omega (arith, is.t_rows))) (λ rest ends. record { no_item = ends.no_t; ended = ends.ended }))
    (λ ts rest fits ends. t-ends ts rest ends))
    (λ x rest fits ends. tt))
    (λ x fits test. (record { columns = fits.0; q_rows = fits.1.0; t_rows = fits.1.1 }, refl))
    (λ part fits. ((fits.columns, (fits.q_rows, fits.t_rows)), refl, refl)))
    (λ part. four (numbers_text part.columns) (codes " |") (letters_text 113 part.q_rows) (letters_text 116 part.t_rows))

pub Spells-tail : (word : List ℕ) (shape : Shape) → IsShape shape → Spells Any (IsPart shape) (tail_line word) (tail_at word shape)
unfolding tail_at
Spells-tail word shape is = Spells-retold (Spells-line word (part_at shape) (Spells-part shape is)
    (λ rest. record { no_q = refl; no_t = refl; ended = refl })) (λ part. three word (part_text part) (codes "\n"))

pub Spells-block : (shape : Shape) (k : ℕ) → IsShape shape → k < 10 ^ 10 → Spells Any (IsBlock shape k) (block_line (k + 1)) (block_at shape k)
unfolding block_at
Spells-block shape k is small = Spells-retold (Spells-where {G = IsBlock shape k}
    (line_at (head_text (codes "block") (k + 1)) (both_at (before_at (part_at shape) (codes " |")) (numbers_at k))) (λ x. nat_lt 0 (length x.0.columns))
    (λ x. record { part = x.0; lower = x.1 }) (λ block. (block.part, block.lower))
    (Spells-line (head_text (codes "block") (k + 1)) (both_at (before_at (part_at shape) (codes " |")) (numbers_at k))
    (Spells-both (before_at (part_at shape) (codes " |")) (numbers_at k)
    (Spells-before (codes " |") (part_at shape) (Spells-part shape is) (λ rest. record { no_q = refl; no_t = refl; ended = refl }))
    (Spells-numbers k small) (λ x rest fits ends. tt)) list-ends)
    (λ x fits test. (record { part = fits.0; some = from-ltb 0 (length x.0.columns) test; lower = fits.1 }, refl))
    (λ block fits. ((fits.part, fits.lower), ltb-true 0 (length block.part.columns) fits.some, refl)))
    (λ block. five (head_text (codes "block") (k + 1)) (part_text block.part) (codes " |") (numbers_text block.lower) (codes "\n"))

-- two readers of the same texts read alike
readers_agree : {A : Type 0} {F : A → Type 0} {t : A → List ℕ} (p q : ℕ → List ℕ → Result (A × List ℕ) ℕ) →
    Spells Any F t p → Spells Any F t q → (line : ℕ) (bytes : List ℕ) → p line bytes ≡ q line bytes
readers_agree {A} {F} {t} p q one two line bytes = by (p line bytes) (q line bytes) refl refl
  where
    by : (r s : Result (A × List ℕ) ℕ) → p line bytes ≡ r → q line bytes ≡ s → r ≡ s
    by (Ok x) s e f =
        let h = one.takes line bytes x e in
        sym (two.again line x.0 x.1 h.1 tt) ∙ ap (q line) (sym h.0) ∙ f
    by (Err l) (Ok y) e f =
        let h = two.takes line bytes y f in
        sym e ∙ ap (p line) h.0 ∙ one.again line y.0 y.1 h.1 tt
    by (Err l) (Err m) e f = ap (λ k. Err k) (one.fails line bytes l e ∙ sym (two.fails line bytes m f))

Spells-exact : (number : ℕ) → number < 10 ^ 10 → Spells EndsNumber (λ u. Unit {0}) (λ u. spaced number) (exact_at number)
unfolding exact_at
Spells-exact number small = Spells-where {A = ℕ} {B = Unit {0}} {F = λ n. n ≤ number} {G = λ u. Unit {0}} {t =
    spaced} (spaced_at number) (λ n. eqb n number) (λ n. tt) (λ u. number) (Spells-spaced number small)
    (λ n fits test. (tt, sym (eqb-true n number test))) (λ u fits. (omega arith, eq-eqb number number refl, refl))

Spells-head : (word : List ℕ) (number : ℕ) → number < 10 ^ 10 → Spells Any (λ u. Unit {0}) (λ u. head_text word number) (head_at word number)
unfolding head_at
Spells-head word number small = Spells-retold (Spells-behind word (before_at (exact_at number) (codes ":"))
    (Spells-before (codes ":") (exact_at number) (Spells-exact number small) (λ rest. refl)))
    (λ u. three word (spaced number) (codes ":"))

pub head_is : (word : List ℕ) (number line : ℕ) (bytes : List ℕ) → number < 10 ^ 10 →
    head_at word number line bytes ≡ text_at (head_text word number) line bytes
head_is word number line bytes small = readers_agree (head_at word number) (text_at (head_text word number))
    (Spells-head word number small) (Spells-text (head_text word number)) line bytes
