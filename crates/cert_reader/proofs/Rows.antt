-- Rows of one kind, one line each.
use Rattle.std.proofs.Common.{◌≡◌, ℕ, zero, suc, ◌+◌, ◌≤◌, List, [], ◌∷◌, ◌++◌, length, take, drop, Result, Ok, refl, sym, ap, subst, ◌∙◌, arith}
use Rattle.std.specs.List.{concat, AllByRecursion}
use Rattle.cert_reader.specs.Fronts.{◌>>=◌}
use Rattle.cert_reader.specs.CertLines.{row_lines}
use Rattle.cert_reader.specs.CertReading.{rows_at}
use Rattle.cert_reader.proofs.Spells.{Spells, Any}
use Rattle.cert_reader.proofs.Lines.{Reads, Reads-then, Reads-map, Reads-line, Reads-nothing}

-- the same values with the same lines
pub Reads-same : {A : Type 0} {O E : List ℕ → Type 0} {F G : A → Type 0} {l m : A → List (List ℕ)} {p : ℕ → List ℕ →
    Result (A × List ℕ) ℕ} → Reads O E F l p → ((a : A) → F a → G a × (l a ≡ m a)) → ((a : A) → G a → F a) →
    Reads O E G m p
Reads-same {A} {O} {E} {F} {G} {l} {m} {p} reads there back = record {
  takes = λ line bytes x of e. (let h = reads.takes line bytes x of e in (h.0 ∙ ap (λ ls. concat ls ++ x.1) (there x.0 h.1).1, (there x.0 h.1).0, h.2));
  again = λ line a rest of fits ending.
      let same : concat (m a) ++ rest ≡ concat (l a) ++ rest = ap (λ ls. concat ls ++ rest) (sym (there a (back a fits)).1) in
      ap (p line) same ∙ reads.again line a rest (subst O same of) (back a fits) ending;
  stops = λ line a rest of fits ending.
      let same : concat (m a) ++ rest ≡ concat (l a) ++ rest = ap (λ ls. concat ls ++ rest) (sym (there a (back a fits)).1) in
      let s = reads.stops line a rest (subst O same of) (back a fits) ending in
      (s.0, ap (p line) same ∙ s.1);
  fails = λ line bytes k of e. (let h = reads.fails line bytes k of e in (
    h.0,
    h.1,
    record {
      these = (let t = there h.2.these.0 h.2.these.1 in (
        h.2.these.0,
        t.0,
        subst (λ ls. h.0 ≤ length ls) t.1 h.2.these.2,
        h.2.these.3,
        h.2.these.4
            ∙ ap (λ ls. concat (take h.0 ls) ++ h.2.these.3) t.1,
      ));
      no_more = λ has. (let f = back has.0 has.1 in let t = there has.0 f in
          h.2.no_more (
            has.0,
            f,
            subst (λ ls. h.0 + 1 ≤ length ls) (sym t.1) has.2,
            has.3,
            has.4
                ∙ ap (λ ls. concat (take (h.0 + 1) ls) ++ has.3) (sym t.1),
          ));
    },
  ));
}

-- of fewer bytes
pub Reads-of : {A : Type 0} {O P E : List ℕ → Type 0} {F : A → Type 0} {l : A → List (List ℕ)} {p : ℕ → List ℕ →
    Result (A × List ℕ) ℕ} → Reads O E F l p → ((bytes : List ℕ) → P bytes → O bytes) → Reads P E F l p
Reads-of reads fewer = record {
  takes = λ line bytes x of e. reads.takes line bytes x (fewer bytes of) e;
  again = λ line a rest of fits ending. reads.again line a rest (fewer _ of) fits ending;
  stops = λ line a rest of fits ending. reads.stops line a rest (fewer _ of) fits ending;
  fails = λ line bytes k of e. reads.fails line bytes k (fewer bytes of) e;
}

-- so many rows that fit
abbrev pub AreRows : {A : Type 0} → (A → Type 0) → ℕ → List A → Type 0
AreRows F zero [] = Unit {0}
AreRows F zero (x ∷ xs) = ⊥
AreRows F (suc count) [] = ⊥
AreRows F (suc count) (x ∷ xs) = F x × AreRows F count xs

-- the first of them is x
abbrev StartsWith : {A : Type 0} → (A → Type 0) → ℕ → A → List A → Type 0
StartsWith F count a [] = ⊥
StartsWith F count a (x ∷ xs) = (x ≡ a) × AreRows F count xs

pub rows-some : {A : Type 0} (F : A → Type 0) (count : ℕ) (a : A) → F a → (xs : List A) × AreRows F count xs
rows-some F zero a fits = ([], tt)
rows-some F (suc count) a fits = (let others = rows-some F count a fits in (a ∷ others.0, (fits, others.1)))

pub Reads-rows : {A : Type 0} {F : A → Type 0} (text : ℕ → A → List ℕ) (row : ℕ → ℕ → List ℕ →
    Result (A × List ℕ) ℕ) (a : A) → F a → ((number : ℕ) → Spells Any F (text number) (row number)) →
    (count number : ℕ) → Reads Any Any (AreRows F count) (row_lines text number) (rows_at row count number)
unfolding rows_at
Reads-rows {A} {F} text row a fits spells zero number = Reads-same (Reads-nothing [])
    (λ xs e. (subst (AreRows F 0) (sym e) tt, ap (row_lines text number) (sym e))) (λ xs are. none xs are)
  where
    none : (xs : List A) → AreRows F 0 xs → xs ≡ []
    none [] are = refl
    none (x ∷ xs) are = absurd are
Reads-rows {A} {F} text row a fits spells (suc count) number =
    Reads-then {FB = StartsWith F count} {FC = AreRows F (suc count)} {lb = λ x xs. row_lines text (number + 1)
    (drop 1 xs)} {lc = row_lines text number} 1 (row number)
    (λ x line bytes. rows_at row count (number + 1) line bytes >>= λ xs. Ok (x ∷ xs.0, xs.1))
    (Reads-line (row number) a fits (spells number))
    (λ x fit. Reads-map {G = StartsWith F count x} (rows_at row count (number + 1)) (λ xs. x ∷ xs) (λ xs. drop 1 xs)
    (Reads-rows text row a fits spells count (number + 1)) (λ xs are. ((refl, are), refl))
    (λ xs are. back x xs are))
    (record {
      count = λ x fit. refl;
      some = λ x fit. (let others = rows-some F count a fits in (x ∷ others.0, (refl, others.1)));
      apart = λ xs are. parts xs are;
      joined = λ x xs one two. whole x xs one two;
    }) (λ x rest fit of. tt)
  where
    back : (x : A) (xs : List A) → StartsWith F count x xs → AreRows F count (drop 1 xs) × (x ∷ drop 1 xs ≡ xs)
    back x [] are = absurd are
    back x (y ∷ ys) are = (are.1, ap (λ z. z ∷ ys) (sym are.0))

    parts : (xs : List A) → AreRows F (suc count) xs → (x : A) × F x × StartsWith F count x xs
        × (row_lines text number xs ≡ (text number x ∷ []) ++ row_lines text (number + 1) (drop 1 xs))
    parts [] are = absurd are
    parts (y ∷ ys) are = (y, are.0, (refl, are.1), refl)

    whole : (x : A) (xs : List A) → F x → StartsWith F count x xs → AreRows F (suc count) xs
        × (row_lines text number xs ≡ (text number x ∷ []) ++ row_lines text (number + 1) (drop 1 xs))
    whole x [] one two = absurd two
    whole x (y ∷ ys) one two = ((subst F (sym two.0) one, two.1), ap (λ z. text number z ∷ row_lines text (number + 1) ys) two.0)

-- by count and each
pub rows-to : {A : Type 0} (F : A → Type 0) (count : ℕ) (xs : List A) → AreRows F count xs → (length xs ≡ count) × AllByRecursion F xs
rows-to F zero [] are = (refl, tt)
rows-to F zero (x ∷ xs) are = absurd are
rows-to F (suc count) [] are = absurd are
rows-to F (suc count) (x ∷ xs) are = (let h = rows-to F count xs are.1 in (ap suc h.0, (are.0, h.1)))

pub rows-from : {A : Type 0} (F : A → Type 0) (count : ℕ) (xs : List A) → length xs ≡ count → AllByRecursion F xs → AreRows F count xs
rows-from F zero [] long all = tt
rows-from F zero (x ∷ xs) long all = absurd (omega arith)
rows-from F (suc count) [] long all = absurd (omega arith)
rows-from F (suc count) (x ∷ xs) long all = (all.0, rows-from F count xs (omega arith) all.1)

pub row_lines-count : {A : Type 0} (text : ℕ → A → List ℕ) (number : ℕ) (xs : List A) → length (row_lines text number xs) ≡ length xs
row_lines-count text number [] = refl
row_lines-count text number (x ∷ xs) = ap suc (row_lines-count text (number + 1) xs)
