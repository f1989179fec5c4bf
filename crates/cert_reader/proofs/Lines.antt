-- Reading line by line: exactly what is written so is read, and else the first line that is refused is told.
use Rattle.std.proofs.Common.{◌≡◌, ℕ, zero, suc, ◌+◌, ◌≤◌, List, [], ◌∷◌, ◌++◌, length, take, drop, Result, Ok, Err}
use Rattle.std.proofs.Common.{refl, sym, ap, subst, ◌∙◌, append_assoc, length-append, arith, ◌⊎◌, inl, inr, Bool}
use Rattle.std.proofs.Common.{true, false, cond}
use Rattle.std.specs.List.{concat}
use Rattle.std.proofs.lemmas.List.Folds.{concat-append}
use Rattle.std.proofs.lemmas.List.{append-nil, take-append-le, take-append-drop}
use Rattle.std.proofs.Math.Seq.{take-append-add}
use Rattle.cert_reader.specs.Fronts.{◌>>=◌}
use Rattle.cert_reader.specs.Lines.{HasLines, HasJust}
use Rattle.cert_reader.proofs.Spells.{Spells, Any, bind_ok, bind_err}

-- A reader of such bytes takes the lines of the values that fit, where what follows ends them, and no others; where
-- what
-- follows does not end them it fails; and where it fails it tells how many lines were right.
pub record Reads {A : Type 0} (Of Ends : List ℕ → Type 0) (Fits : A → Type 0) (lines : A → List (List ℕ)) (read : ℕ →
    List ℕ → Result (A × List ℕ) ℕ) : Type 0 where
  pub takes : (line : ℕ) (bytes : List ℕ) (x : A × List ℕ) → Of bytes → read line bytes ≡ Ok x → (bytes ≡ concat (lines x.0) ++ x.1) × Fits x.0 × Ends x.1
  pub again : (line : ℕ) (a : A) (rest : List ℕ) → Of (concat (lines a) ++ rest) → Fits a → Ends rest → read line (concat (lines a) ++ rest) ≡ Ok (a, rest)
  pub stops : (line : ℕ) (a : A) (rest : List ℕ) → Of (concat (lines a) ++ rest) → Fits a → (Ends rest → ⊥) → (l : ℕ)
      × (read line (concat (lines a) ++ rest) ≡ Err l)
  pub fails : (line : ℕ) (bytes : List ℕ) (l : ℕ) → Of bytes → read line bytes ≡ Err l → (before : ℕ) × (l ≡ line + before) × HasJust Fits lines before bytes

-- lists of lines

-- the text of all lines of one part and of some of the next
pub joined-past : (n m : ℕ) (xs ys : List (List ℕ)) (rest : List ℕ) → length xs ≡ n →
    concat (take (n + m) (xs ++ ys)) ++ rest ≡ concat xs ++ (concat (take m ys) ++ rest)
joined-past n m xs ys rest long =
    ap (λ k. concat (take (k + m) (xs ++ ys)) ++ rest) (sym long)
    ∙ ap (λ ls. concat ls ++ rest) (take-append-add xs ys m)
    ∙ ap (λ ws. ws ++ rest) (concat-append xs (take m ys))
    ∙ append_assoc (concat xs) (concat (take m ys)) rest

-- one line

pub Reads-line : {A : Type 0} {Fits : A → Type 0} {text : A → List ℕ} (read : ℕ → List ℕ → Result (A × List ℕ) ℕ) →
    (a : A) → Fits a → Spells Any Fits text read → Reads Any Any Fits (λ a. text a ∷ []) read
Reads-line {A} {Fits} {text} read some fit spells = record {
  takes = λ line bytes x _ e. (let t = spells.takes line bytes x e in (t.0 ∙ ap (λ ws. ws ++ x.1) (sym (append-nil (text x.0))), t.1, tt));
  again = λ line a rest _ fits ends. ap (λ ws. read line (ws ++ rest)) (append-nil (text a)) ∙ spells.again line a rest fits tt;
  stops = λ line a rest _ fits ending. absurd (ending tt);
  fails = λ line bytes l _ e. (
    0,
    spells.fails line bytes l e ∙ (let n : line ≡ line + 0 = omega arith in n),
    record {
      these = (some, fit, omega arith, bytes, refl);
      no_more = λ has.
          let good : read line bytes ≡ Ok (has.0, has.3) =
          ap (read line) (has.4 ∙ ap (λ ws. ws ++ has.3) (append-nil (text has.0)))
          ∙ spells.again line has.0 has.3 has.1 tt in
          absurd cc;
    },
  );
}

-- one part after another, of which the first has a known number of lines

apart_lines : (n j : ℕ) → (suc j ≤ n) ⊎ (n ≤ j)
apart_lines zero j = inr (omega arith)
apart_lines (suc n) zero = inl (omega arith)
apart_lines (suc n) (suc j) = elim (apart_lines n j) [
  | inl less ↦ inl (omega arith)
  | inr more ↦ inr (omega arith)
]

pub record Follows {A B : Type 0} (n : ℕ) (FA : A → Type 0) (FB : A → B → Type 0) (FC : B → Type 0) (la : A →
    List (List ℕ)) (lb : A → B → List (List ℕ)) (lc : B → List (List ℕ)) : Type 0 where
  pub count : (a : A) → FA a → length (la a) ≡ n
  pub some : (a : A) → FA a → (b : B) × FB a b
  pub apart : (b : B) → FC b → (a : A) × FA a × FB a b × (lc b ≡ la a ++ lb a b)
  pub joined : (a : A) (b : B) → FA a → FB a b → FC b × (lc b ≡ la a ++ lb a b)

take-all : {X : Type 0} (xs : List X) → take (length xs) xs ≡ xs
take-all [] = refl
take-all (x ∷ xs) = ap (λ zs. x ∷ zs) (take-all xs)

abbrev done : {A : Type 0} → A → Result A ℕ
done x = Ok x

pub ok_is : {A : Type 0} (x y : A) → done x ≡ done y → x ≡ y
ok_is x y e = cc

-- some lines of the first part alone
in-first : (j : ℕ) (bytes : List ℕ) (ls xs ys : List (List ℕ)) (rest : List ℕ) → ls ≡ xs ++ ys → j ≤ length xs →
    bytes ≡ concat (take j ls) ++ rest → bytes ≡ concat (take j xs) ++ rest
in-first j bytes ls xs ys rest parts short whole = whole ∙ ap (λ zs. concat (take j zs) ++ rest) parts
    ∙ ap (λ zs. concat zs ++ rest) (take-append-le j xs ys short)

of-first : (j : ℕ) (bytes : List ℕ) (ls xs ys : List (List ℕ)) (rest : List ℕ) → ls ≡ xs ++ ys → j ≤ length xs →
    bytes ≡ concat (take j xs) ++ rest → bytes ≡ concat (take j ls) ++ rest
of-first j bytes ls xs ys rest parts short whole = whole ∙ ap (λ zs. concat zs ++ rest)
    (sym (take-append-le j xs ys short)) ∙ ap (λ zs. concat (take j zs) ++ rest) (sym parts)

longer : (ls xs ys : List (List ℕ)) → ls ≡ xs ++ ys → length ls ≡ length xs + length ys
longer ls xs ys parts = ap length parts ∙ length-append xs ys

-- a fault in the first part
first-fails : {A B : Type 0} {FA : A → Type 0} {FB : A → B → Type 0} {FC : B → Type 0} {la : A →
    List (List ℕ)} {lb : A → B → List (List ℕ)} {lc : B → List (List ℕ)} (n : ℕ)
    (p : ℕ → List ℕ → Result (A × List ℕ) ℕ) → Reads Any Any FA la p → Follows n FA FB FC la lb lc →
    (line : ℕ) (bytes : List ℕ) (l before : ℕ) → p line bytes ≡ Err l → HasJust FA la before bytes → HasJust FC lc before bytes
first-fails {A} {B} {FA} {FB} {FC} {la} {lb} {lc} n p first follows line bytes l before failed just = record {
  these =
      let a = just.these.0 in
      let b = follows.some a just.these.1 in
      let c = follows.joined a b.0 just.these.1 b.1 in (
        b.0,
        c.0,
        omega (
          arith,
          just.these.2,
          longer (lc b.0) (la a)
              (lb a b.0) c.1,
        ),
        just.these.3,
        of-first before bytes (lc b.0) (la a)
            (lb a b.0) just.these.3 c.1 just.these.2 just.these.4,
      );
  no_more = λ has.
      let parts = follows.apart has.0 has.1 in
      let long = follows.count parts.0 parts.1 in
      elim (apart_lines n before) [
        | inl less ↦ just.no_more (
          parts.0,
          parts.1,
          omega (arith, less, long),
          has.3,
          in-first (before + 1) bytes
              (lc has.0) (la parts.0) (lb parts.0 has.0) has.3 parts.3 (omega (arith, less, long)) has.4,
        )
        | inr more ↦ (
            let a = just.these.0 in
            let all : before ≡ length (la a) = omega (arith, more, just.these.2, follows.count a just.these.1) in
            let whole : bytes ≡ concat (la a) ++ just.these.3 = just.these.4
            ∙ ap (λ k. concat (take k (la a)) ++ just.these.3) all ∙ ap (λ zs. concat zs ++ just.these.3)
            (take-all (la a)) in
            let good : p line bytes ≡ Ok (a, just.these.3) = ap (p line) whole ∙ first.again line a just.these.3 tt just.these.1 tt in
            let f : ⊥ = cc in f)
      ];
}

-- a fault behind it
second-fails : {A B : Type 0} {FA : A → Type 0} {FB : A → B → Type 0} {FC : B → Type 0} {la : A →
    List (List ℕ)} {lb : A → B → List (List ℕ)} {lc : B → List (List ℕ)} (n : ℕ)
    (p : ℕ → List ℕ → Result (A × List ℕ) ℕ) → Reads Any Any FA la p → Follows n FA FB FC la lb lc →
    (line : ℕ) (bytes : List ℕ) (a : A) (left : List ℕ) (before : ℕ) → p line bytes ≡ Ok (a, left) →
    HasJust (FB a) (lb a) before left → HasJust FC lc (n + before) bytes
second-fails {A} {B} {FA} {FB} {FC} {la} {lb} {lc} n p first follows line bytes a left before read just = record {
  these =
      let one = first.takes line bytes (a, left) tt read in
      let b = just.these.0 in
      let c = follows.joined a b one.1 just.these.1 in
      let long = follows.count a one.1 in (
        b,
        c.0,
        omega (arith, just.these.2, long, longer (lc b) (la a) (lb a b) c.1),
        just.these.3,
        one.0 ∙ ap (λ ws. concat (la a) ++ ws) just.these.4
            ∙ sym (joined-past n before (la a) (lb a b) just.these.3 long)
            ∙ ap (λ ls. concat (take (n + before) ls) ++ just.these.3) (sym c.1),
      );
  no_more = λ has.
      let parts = follows.apart has.0 has.1 in
      let long = follows.count parts.0 parts.1 in
      let count : n + before + 1 ≡ n + (before + 1) = omega arith in
      let whole : bytes ≡ concat (la parts.0) ++ (concat (take (before + 1) (lb parts.0 has.0)) ++ has.3) =
      has.4 ∙ ap (λ k. concat (take k (lc has.0)) ++ has.3) count
      ∙ ap (λ ls. concat (take (n + (before + 1)) ls) ++ has.3) parts.3
      ∙ joined-past n (before + 1) (la parts.0) (lb parts.0 has.0) has.3 long in
      let again : p line bytes ≡ Ok (parts.0, concat (take (before + 1) (lb parts.0 has.0)) ++ has.3) =
      ap (p line) whole ∙ first.again line parts.0
      (concat (take (before + 1) (lb parts.0 has.0)) ++ has.3) tt parts.1 tt in
      let same : (parts.0, concat (take (before + 1) (lb parts.0 has.0)) ++ has.3) ≡ (a, left) =
      ok_is (parts.0, concat (take (before + 1) (lb parts.0 has.0)) ++ has.3) (a, left) (sym again ∙ read) in
      just.no_more (subst (λ (y : A × List ℕ). HasLines (FB y.0) (lb y.0) (before + 1) y.1) same
      (has.0, parts.2, omega (arith, has.2, long, longer (lc has.0) (la parts.0) (lb parts.0 has.0) parts.3), has.3, refl));
}

pub Reads-then : {A B : Type 0} {OC OB EB : List ℕ → Type 0} {FA : A → Type 0} {FB : A → B → Type 0} {FC : B →
    Type 0} {la : A → List (List ℕ)} {lb : A → B → List (List ℕ)} {lc : B → List (List ℕ)} (n : ℕ)
    (p : ℕ → List ℕ → Result (A × List ℕ) ℕ) (q : A → ℕ → List ℕ → Result (B × List ℕ) ℕ) →
    Reads Any Any FA la p → ((a : A) → FA a → Reads OB EB (FB a) (lb a) (q a)) → Follows n FA FB FC la lb lc →
    ((a : A) (rest : List ℕ) → FA a → OC (concat (la a) ++ rest) → OB rest) →
    Reads OC EB FC lc (λ line bytes. p line bytes >>= λ x. q x.0 (line + n) x.1)
Reads-then {A} {B} {OC} {OB} {EB} {FA} {FB} {FC} {la} {lb} {lc} n p q first second follows left = record {
  takes = λ line bytes y of e.
      let x = bind_ok (p line bytes) (λ x. q x.0 (line + n) x.1) y e in
      let one = first.takes line bytes x.0 tt x.1 in
      let two = (second x.0.0 one.1).takes (line + n) x.0.1 y (left x.0.0 x.0.1 one.1 (subst OC one.0 of)) x.2 in
      let both = follows.joined x.0.0 y.0 one.1 two.1 in (
        one.0 ∙ ap (λ ws. concat (la x.0.0) ++ ws) two.0
            ∙ sym (append_assoc (concat (la x.0.0)) (concat (lb x.0.0 y.0)) y.1)
            ∙ ap (λ ws. ws ++ y.1) (sym (ap concat both.1 ∙ concat-append (la x.0.0) (lb x.0.0 y.0))),
        both.0,
        two.2,
      );
  again = λ line b rest of fits ending. (let t = onwards line b rest of fits in t.4 ∙ (second t.0 t.1).again (line + n) b rest t.3 t.2 ending);
  stops = λ line b rest of fits ending. (let t = onwards line b rest of fits in let s = (second t.0 t.1).stops
      (line + n) b rest t.3 t.2 ending in (s.0, t.4 ∙ s.1));
  fails = λ line bytes l of e. elim (bind_err (p line bytes) (λ x. q x.0 (line + n) x.1) l e) [
    | inl here ↦ (let f = first.fails line bytes l tt here in (f.0, f.1, first-fails n p first follows line bytes l f.0 here f.2))
    | inr x ↦ (
        let one = first.takes line bytes x.0 tt x.1 in
        let f = (second x.0.0 one.1).fails (line + n) x.0.1 l (left x.0.0 x.0.1 one.1 (subst OC one.0 of)) x.2 in
        (n + f.0, f.1 ∙ (let k : line + n + f.0 ≡ line + (n + f.0) = omega arith in k), second-fails n p first follows line bytes x.0.0 x.0.1 f.0 x.1 f.2))
  ];
}
  where
    -- what is left behind the first part, and that it is read next
    onwards : (line : ℕ) (b : B) (rest : List ℕ) → OC (concat (lc b) ++ rest) → FC b →
        (a : A) × FA a × FB a b × OB (concat (lb a b) ++ rest)
        × ((p line (concat (lc b) ++ rest) >>= λ x. q x.0 (line + n) x.1) ≡ q a (line + n)
        (concat (lb a b) ++ rest))
    onwards line b rest of fits =
        let parts = follows.apart b fits in
        let regrouped : concat (lc b) ++ rest ≡ concat (la parts.0) ++ (concat (lb parts.0 b) ++ rest) =
        ap (λ ws. ws ++ rest) (ap concat parts.3 ∙ concat-append (la parts.0) (lb parts.0 b))
        ∙ append_assoc (concat (la parts.0)) (concat (lb parts.0 b)) rest in
        let one : p line (concat (lc b) ++ rest) ≡ Ok (parts.0, concat (lb parts.0 b) ++ rest) =
        ap (p line) regrouped ∙ first.again line parts.0 (concat (lb parts.0 b) ++ rest) tt parts.1 tt in
        (parts.0, parts.1, parts.2, left parts.0 (concat (lb parts.0 b) ++ rest) parts.1 (subst OC regrouped of), ap (λ r. r >>= λ x. q x.0 (line + n) x.1) one)

-- values seen otherwise
pub Reads-map : {A B : Type 0} {O E : List ℕ → Type 0} {F : A → Type 0} {G : B → Type 0} {l : A → List (List ℕ)}
    (p : ℕ → List ℕ → Result (A × List ℕ) ℕ) (f : A → B) (g : B → A) →
    Reads O E F l p → ((a : A) → F a → G (f a) × (g (f a) ≡ a)) → ((b : B) → G b → F (g b) × (f (g b) ≡ b)) →
    Reads O E G (λ b. l (g b)) (λ line bytes. p line bytes >>= λ x. Ok (f x.0, x.1))
Reads-map {A} {B} {O} {E} {F} {G} {l} p f g reads there back = record {
  takes = λ line bytes y of e.
      let x = bind_ok (p line bytes) (λ x. Ok (f x.0, x.1)) y e in
      let one = reads.takes line bytes x.0 of x.1 in
      let fits = there x.0.0 one.1 in
      subst (λ (z : B × List ℕ). (bytes ≡ concat (l (g z.0)) ++ z.1) × G z.0 × E z.1) (ok_is (f x.0.0, x.0.1) y x.2)
      (one.0 ∙ ap (λ a. concat (l a) ++ x.0.1) (sym fits.1), fits.0, one.2);
  again = λ line b rest of fits ending.
      ap (λ r. r >>= λ x. Ok (f x.0, x.1)) (reads.again line (g b) rest of (back b fits).0 ending) ∙ ap (λ c. Ok (c, rest)) (back b fits).1;
  stops = λ line b rest of fits ending. (let s = reads.stops line (g b) rest of (back b fits).0 ending in (s.0, ap (λ r. r >>= λ x. Ok (f x.0, x.1)) s.1));
  fails = λ line bytes k of e. elim (bind_err (p line bytes) (λ x. Ok (f x.0, x.1)) k e) [
    | inl here ↦ (
        let h = reads.fails line bytes k of here in (
          h.0,
          h.1,
          record {
            these =
                let a = h.2.these.0 in
                let fits = there a h.2.these.1 in
                subst (λ c. (G (f a) → (h.0 ≤ length (l c)) → (bytes ≡ concat (take h.0 (l c)) ++ h.2.these.3) → HasLines G (λ b. l (g b)) h.0 bytes)) fits.1
                (λ fit long whole. (f a, fit, long, h.2.these.3, whole)) fits.0 h.2.these.2 h.2.these.4;
            no_more = λ has. h.2.no_more (g has.0, (back has.0 has.1).0, has.2, has.3, has.4);
          },
        ))
    | inr x ↦ (let f : ⊥ = cc in absurd f)
  ];
}

-- pairs of what is read first and what is read then
pub Reads-pair : {A B : Type 0} {OC OB EB : List ℕ → Type 0} {FA : A → Type 0} {FB : A → B → Type 0} {la : A →
    List (List ℕ)} {lb : A → B → List (List ℕ)} (n : ℕ)
    (p : ℕ → List ℕ → Result (A × List ℕ) ℕ) (q : A → ℕ → List ℕ → Result (B × List ℕ) ℕ) →
    Reads Any Any FA la p → ((a : A) → FA a → Reads OB EB (FB a) (lb a) (q a)) → ((a : A) → FA a → length (la a) ≡ n) → ((a : A) → FA a → (b : B) × FB a b) →
    ((a : A) (rest : List ℕ) → FA a → OC (concat (la a) ++ rest) → OB rest) →
    Reads OC EB (λ (x : A × B). FA x.0 × FB x.0 x.1) (λ x. la x.0 ++ lb x.0 x.1)
    (λ line bytes. p line bytes >>= λ x. q x.0 (line + n) x.1 >>= λ y. Ok ((x.0, y.0), y.1))
Reads-pair {A} {B} {OC} {OB} {EB} {FA} {FB} {la} {lb} n p q first second count some left =
    Reads-then {FB = λ a (x : A × B). (x.0 ≡ a) × FB x.0 x.1} {FC = λ (x : A × B). FA x.0 × FB x.0 x.1} {lb =
    λ a x. lb a x.1} {lc = λ x. la x.0 ++ lb x.0 x.1} n p (λ a line bytes. q a line bytes >>= λ y. Ok
    ((a, y.0), y.1)) first
    (λ a fits. Reads-map {G = λ (x : A × B). (x.0 ≡ a) × FB x.0 x.1} (q a) (λ b. (a, b)) (λ x. x.1) (second a fits)
    (λ b fit. ((refl, fit), refl)) (λ x fit. (subst (λ c. FB c x.1) fit.0 fit.1, ap (λ c. (c, x.1)) (sym fit.0))))
    (record {
      count = count;
      some = λ a fits. (let b = some a fits in ((a, b.0), (refl, b.1)));
      apart = λ x fits. (x.0, fits.0, (refl, fits.1), refl);
      joined = λ a x one two. ((subst FA (sym two.0) one, two.1), ap (λ c. la c ++ lb c x.1) two.0);
    }) left

-- nothing
pub Reads-nothing : {A : Type 0} (a : A) → Reads Any Any (λ b. b ≡ a) (λ b. []) (λ line bytes. Ok (a, bytes))
Reads-nothing {A} a = record {
  takes = λ line bytes x of e. (let same : (a, bytes) ≡ x = ok_is (a, bytes) x e in (ap (λ y. y.1) same, sym (ap (λ y. y.0) same), tt));
  again = λ line b rest of fits ending. ap (λ c. Ok (c, rest)) (sym fits);
  stops = λ line b rest of fits ending. absurd (ending tt);
  fails = λ line bytes l of e. (let f : ⊥ = cc in absurd f);
}

-- a test of the bytes tells b wherever they begin with the first line of a
abbrev pub Tells : {A : Type 0} → (A → List (List ℕ)) → (List ℕ → Bool) → Bool → A → Type 0
Tells l test b a = (first : List ℕ) × (others : List (List ℕ)) × (l a ≡ first ∷ others) × ((rest : List ℕ) → test (first ++ rest) ≡ b)

-- and of any value that fits
abbrev pub FirstTells : {A : Type 0} → (A → Type 0) → (A → List (List ℕ)) → (List ℕ → Bool) → Bool → Type 0
FirstTells {A} F l test b = (a : A) → F a → Tells l test b a

told-some : (test : List ℕ → Bool) (b : Bool) (ls : List (List ℕ)) (first : List ℕ) (others : List (List ℕ)) →
    ls ≡ first ∷ others → ((rest : List ℕ) → test (first ++ rest) ≡ b) → (n : ℕ) (rest : List ℕ) →
    test (concat (take (n + 1) ls) ++ rest) ≡ b
told-some test b ls first others parts tells n rest =
    ap (λ zs. test (concat (take (n + 1) zs) ++ rest)) parts
    ∙ ap (λ k. test (concat (take k (first ∷ others)) ++ rest)) (let e : n + 1 ≡ suc n = omega arith in e)
    ∙ ap test (append_assoc first (concat (take n others)) rest) ∙ tells (concat (take n others) ++ rest)

told-all : (test : List ℕ → Bool) (b : Bool) (ls : List (List ℕ)) (first : List ℕ) (others : List (List ℕ)) →
    ls ≡ first ∷ others → ((rest : List ℕ) → test (first ++ rest) ≡ b) → (rest : List ℕ) →
    test (concat ls ++ rest) ≡ b
told-all test b ls first others parts tells rest =
    ap (λ zs. test (concat zs ++ rest)) parts ∙ ap test (append_assoc first (concat others) rest) ∙ tells (concat others ++ rest)

differ : {X : Type 0} (b : Bool) → b ≡ true → b ≡ false → X
differ true e f = absurd cc
differ false e f = absurd cc

abbrev done_err : {A : Type 0} → ℕ → Result (A × List ℕ) ℕ
done_err l = Err l

err_is : {A : Type 0} (j k : ℕ) → done_err {A = A} j ≡ done_err k → j ≡ k
err_is j k e = cc

-- one of two, told apart by how the first line begins
pub Reads-choice : {A : Type 0} {O E : List ℕ → Type 0} {F G : A → Type 0} {l : A → List (List ℕ)} (test : List ℕ →
    Bool) (p q : ℕ → List ℕ → Result (A × List ℕ) ℕ) →
    Reads O E F l p → Reads O E G l q → FirstTells F l test true → FirstTells G l test false →
    Reads O E (λ a. F a ⊎ G a) l (λ line bytes. cond (test bytes) (p line bytes) (q line bytes))
Reads-choice {A} {O} {E} {F} {G} {l} test p q one two left right = record {
  takes = λ line bytes x of e. takes_by (test bytes) line bytes x of e;
  again = λ line a rest of fits ending. elim fits [
    | inl f ↦ (told line a rest true (left a f) ∙ one.again line a rest of f ending)
    | inr g ↦ (told line a rest false (right a g) ∙ two.again line a rest of g ending)
  ];
  stops = λ line a rest of fits ending. elim fits [
    | inl f ↦ (let s = one.stops line a rest of f ending in (s.0, told line a rest true (left a f) ∙ s.1))
    | inr g ↦ (let s = two.stops line a rest of g ending in (s.0, told line a rest false (right a g) ∙ s.1))
  ];
  fails = λ line bytes k of e. fails_by (test bytes) line bytes k refl of e;
}
  where
    told : (line : ℕ) (a : A) (rest : List ℕ) (b : Bool) → Tells l test b a →
        cond (test (concat (l a) ++ rest)) (p line (concat (l a) ++ rest)) (q line (concat (l a) ++ rest)) ≡ cond b
        (p line (concat (l a) ++ rest)) (q line (concat (l a) ++ rest))
    told line a rest b t = ap (λ c. cond c (p line (concat (l a) ++ rest)) (q line (concat (l a) ++ rest))) (told-all test b (l a) t.0 t.1 t.2 t.3 rest)

    takes_by : (b : Bool) (line : ℕ) (bytes : List ℕ) (x : A × List ℕ) → O bytes →
        cond b (p line bytes) (q line bytes) ≡ Ok x → (bytes ≡ concat (l x.0) ++ x.1) × (F x.0 ⊎ G x.0) × E x.1
    takes_by true line bytes x of e = (let t = one.takes line bytes x of e in (t.0, inl t.1, t.2))
    takes_by false line bytes x of e = (let t = two.takes line bytes x of e in (t.0, inr t.1, t.2))

    only_left : (bytes : List ℕ) (n : ℕ) → test bytes ≡ true → HasLines (λ a. F a ⊎ G a) l (n + 1) bytes → HasLines F l (n + 1) bytes
    only_left bytes n tells has = elim has.1 [
      | inl f ↦ (has.0, f, has.2, has.3, has.4)
      | inr g ↦ (let t = right has.0 g in differ (test bytes) tells (ap test has.4 ∙ told-some test false (l has.0) t.0 t.1 t.2 t.3 n has.3))
    ]

    only_right : (bytes : List ℕ) (n : ℕ) → test bytes ≡ false → HasLines (λ a. F a ⊎ G a) l (n + 1) bytes → HasLines G l (n + 1) bytes
    only_right bytes n tells has = elim has.1 [
      | inl f ↦ (let t = left has.0 f in differ (test bytes) (ap test has.4 ∙ told-some test true (l has.0) t.0 t.1 t.2 t.3 n has.3) tells)
      | inr g ↦ (has.0, g, has.2, has.3, has.4)
    ]

    fails_by : (b : Bool) (line : ℕ) (bytes : List ℕ) (k : ℕ) → test bytes ≡ b → O bytes →
        cond b (p line bytes) (q line bytes) ≡ Err k → (before : ℕ) × (k ≡ line + before)
        × HasJust (λ a. F a ⊎ G a) l before bytes
    fails_by true line bytes k tells of e = (let t = one.fails line bytes k of e in (
      t.0,
      t.1,
      record {
        these = (t.2.these.0, inl t.2.these.1, t.2.these.2, t.2.these.3, t.2.these.4);
        no_more = λ has. t.2.no_more (only_left bytes t.0 tells has);
      },
    ))
    fails_by false line bytes k tells of e = (let t = two.fails line bytes k of e in (
      t.0,
      t.1,
      record {
        these = (t.2.these.0, inr t.2.these.1, t.2.these.2, t.2.these.3, t.2.these.4);
        no_more = λ has. t.2.no_more (only_right bytes t.0 tells has);
      },
    ))

-- and where there is no value of the first kind
pub Reads-choice-none : {A : Type 0} {O E : List ℕ → Type 0} {G : A → Type 0} {l : A → List (List ℕ)} (test : List ℕ →
    Bool) (p q : ℕ → List ℕ → Result (A × List ℕ) ℕ) →
    ((line : ℕ) (bytes : List ℕ) → p line bytes ≡ Err line) → Reads O E G l q → FirstTells G l test false → (a : A) →
    G a → Reads O E G l (λ line bytes. cond (test bytes) (p line bytes) (q line bytes))
Reads-choice-none {A} {O} {E} {G} {l} test p q never two right a fit = record {
  takes = λ line bytes x of e. takes_by (test bytes) line bytes x of e;
  again = λ line a rest of fits ending. told line a rest fits ∙ two.again line a rest of fits ending;
  stops = λ line a rest of fits ending. (let s = two.stops line a rest of fits ending in (s.0, told line a rest fits ∙ s.1));
  fails = λ line bytes k of e. fails_by (test bytes) line bytes k refl of e;
}
  where
    told : (line : ℕ) (a : A) (rest : List ℕ) → G a → cond (test (concat (l a) ++ rest))
        (p line (concat (l a) ++ rest)) (q line (concat (l a) ++ rest)) ≡ q line (concat (l a) ++ rest)
    told line a rest fits = (let t = right a fits in
        ap (λ c. cond c (p line (concat (l a) ++ rest)) (q line (concat (l a) ++ rest)))
        (told-all test false (l a) t.0 t.1 t.2 t.3 rest))

    takes_by : (b : Bool) (line : ℕ) (bytes : List ℕ) (x : A × List ℕ) → O bytes →
        cond b (p line bytes) (q line bytes) ≡ Ok x → (bytes ≡ concat (l x.0) ++ x.1) × G x.0 × E x.1
    takes_by true line bytes x of e = (let f : ⊥ = (let g : Err line ≡ Ok x = sym (never line bytes) ∙ e in cc) in absurd f)
    takes_by false line bytes x of e = two.takes line bytes x of e

    fails_by : (b : Bool) (line : ℕ) (bytes : List ℕ) (k : ℕ) → test bytes ≡ b → O bytes →
        cond b (p line bytes) (q line bytes) ≡ Err k → (before : ℕ) × (k ≡ line + before) × HasJust G l before bytes
    fails_by true line bytes k tells of e =
        let same : done_err {A = A} line ≡ done_err k = sym (never line bytes) ∙ e in (
          0,
          omega (arith, err_is {A = A} line k same),
          record {
            these = (a, fit, omega arith, bytes, refl);
            no_more = λ has. (let t = right has.0 has.1 in differ (test bytes) tells (ap test has.4 ∙ told-some test false (l has.0) t.0 t.1 t.2 t.3 0 has.3));
          },
        )
    fails_by false line bytes k tells of e = two.fails line bytes k of e

-- ---- one line

fewer : {A : Type 0} (F : A → Type 0) (l : A → List (List ℕ)) (bytes : List ℕ) (m n : ℕ) → m ≤ n → HasLines F l n bytes → HasLines F l m bytes
fewer F l bytes m n less has =
    let ls : List (List ℕ) = l has.0 in
    let cut : take m (take n ls) ≡ take m ls = cut_twice m n ls less in
    let parts : take n ls ≡ take m ls ++ drop m (take n ls) = sym (take-append-drop m (take n ls)) ∙ ap (λ zs. zs ++ drop m (take n ls)) cut in (
      has.0,
      has.1,
      omega (arith, less, has.2),
      concat (drop m (take n ls)) ++ has.3,
      has.4 ∙ ap (λ zs. concat zs ++ has.3) parts ∙ ap (λ ws. ws ++ has.3)
          (concat-append (take m ls) (drop m (take n ls))) ∙ append_assoc (concat (take m ls))
          (concat (drop m (take n ls))) has.3,
    )
  where
    cut_twice : (m n : ℕ) (xs : List (List ℕ)) → m ≤ n → take m (take n xs) ≡ take m xs
    cut_twice zero n xs less = refl
    cut_twice (suc m) zero xs less = absurd (omega arith)
    cut_twice (suc m) (suc n) [] less = refl
    cut_twice (suc m) (suc n) (x ∷ xs) less = ap (λ zs. x ∷ zs) (cut_twice m n xs (omega arith))

pub one_refused : {A : Type 0} (F : A → Type 0) (l : A → List (List ℕ)) (text : List ℕ) (j k m n : ℕ) → j ≡ m + 1 →
    k ≡ n + 1 → HasJust F l m text → HasJust F l n text → j ≡ k
one_refused F l text j k m n e f one two = elim (apart_lines m n) [
  | inl less ↦ absurd (two.no_more (fewer F l text (n + 1) m (omega (arith, less)) one.these))
  | inr more ↦ elim (apart_lines n m) [
    | inl less ↦ absurd (one.no_more (fewer F l text (m + 1) n (omega (arith, less)) two.these))
    | inr same ↦ omega (arith, e, f, more, same)
  ]
]
