-- What the rank of a model tells in which symbols are fixed: the next values of the first list.
use Rattle.std.proofs.Common.{◌≡◌, ◌≢◌, ℕ, ◌+◌, ◌%◌, ◌<◌, ◌≤◌, Bool, true, false, cond, not, ◌&&◌, eqb, inl, inr, List, [], ◌∷◌, ◌++◌, refl, ap, sym, subst}
use Rattle.std.proofs.Common.{◌∙◌, add-zero, arith}
use Rattle.std.proofs.lemmas.Bool.Decides.{nat_tests}
use Rattle.residue_theory.proofs.SetLaws.{both_true, differ, not_true}
use Rattle.residue_theory.specs.Residues.{IsPrime}
use Rattle.mixed_matrices.specs.Models.{AreSameModels, MixedMatrix, value}
use Rattle.mixed_matrices.specs.StructuralRanks.{IsStructuralRank}
use Rattle.mixed_pair_laws.proofs.PairRank.{greatest-unique}
use Rattle.mixed_pair_laws.proofs.SameEntries.{same-model}
use Rattle.mixed_model.specs.Models.{MixedModel, mixed_matrix_of}
use Rattle.value_list_laws.proofs.Listed.{first-moved, to-answer}
use Rattle.value_list_laws.proofs.Lists.{first-greedy, one-first}
use Rattle.value_list_laws.proofs.Places.{before-cases, before-row, none-before}
use Rattle.value_list_laws.proofs.Runs.{run-to}
use Rattle.value_list_laws.specs.FixedSymbols.{IsSymbolPlace, KeepsRank, PutsNumberAt, fixed}
use Rattle.value_list_laws.specs.ListedValues.{IsFirstReachingList, symbol_count, symbols_before, values_of}
use Rattle.value_list_laws.specs.ValueLists.{IsFirstList, before, run, with_one_next, with_ones_next}
use Rattle.value_lists.specs.Fixing.{AreSymbolColumns, FixesAt, FixesOnes, IsFixedTo, IsOneIn}
use Rattle.value_lists.specs.Listing.{GoesOn, IsListOfOnes, IsListedTo, IsListedAndFixed, ListsOnes}
use Rattle.value_lists.proofs.FixedSets.{fixed-numbers, fixed-place, number-put, same-sym, same-trans}
use Rattle.value_lists.proofs.Steps.{listed-place}

-- ones in row i, and v elsewhere
abbrev ones_at : ℕ → (ℕ → ℕ → ℕ) → ℕ → ℕ → ℕ
ones_at i v a b = cond (eqb a i) 1 (v a b)

module _ (p : ℕ) (prime : IsPrime p) (M : MixedMatrix) (rank : ℕ) (R : IsStructuralRank p M rank) where
  -- a model that is N has the rank of M exactly where N keeps it
  keeps-from : (K N : MixedMatrix) → AreSameModels p K N → IsStructuralRank p K rank → KeepsRank p M N
  keeps-from K N same S = (rank, R, same-model p K N same rank S)

  keeps-to : (K N : MixedMatrix) → AreSameModels p K N → KeepsRank p M N → IsStructuralRank p K rank
  keeps-to K N same (r, RM, RN) = same-model p N K (same-sym p K N same) rank
      (subst (IsStructuralRank p N) (greatest-unique p M.rows M.columns (value M) r rank RM R) RN)

  module _ (i j : ℕ) (here : IsSymbolPlace M i j) (old : MixedModel) (values : List ℕ) where
    next-is : (v : ℕ → ℕ → ℕ) → IsFixedTo p M v i j (mixed_matrix_of old) → (one : MixedModel) → FixesAt p old one i j 1 →
        AreSameModels p (mixed_matrix_of one) (with_one_next M v i j)
    next-is v at one puts = number-put p M v i j here (mixed_matrix_of old) at 1 (mixed_matrix_of one) puts.puts

    goes-with : (v : ℕ → ℕ → ℕ) → IsListedAndFixed p M v i j old values → (new : MixedModel) (x : ℕ) → v i j ≡ x → FixesAt p old new i j x →
        IsListedAndFixed p M v i (j + 1) new (values ++ x ∷ [])
    goes-with v listing new x is puts = record {
      fixed = fixed-place p M v i j here (mixed_matrix_of old) listing.fixed (mixed_matrix_of new)
          (subst (λ c. PutsNumberAt p (mixed_matrix_of old) (mixed_matrix_of new) i j c) (sym is) puts.puts);
      listed = listed-place M v i j here values x is listing.listed;
    }

    -- a 1 keeps the rank
    pub one-goes : (one : MixedModel) → FixesAt p old one i j 1 → IsStructuralRank p (mixed_matrix_of one) rank →
        GoesOn p M i j i (j + 1) old one values (values ++ 1 ∷ [])
    one-goes one puts S v V listing = goes-with v listing one 1
        (((first-greedy p prime M v V).one i j here).1
        (keeps-from (mixed_matrix_of one) (with_one_next M v i j) (next-is v listing.fixed one puts) S)) puts

    -- it does not
    pub two-goes : (one two : MixedModel) → FixesAt p old one i j 1 → (IsStructuralRank p (mixed_matrix_of one) rank → ⊥) → FixesAt p old two i j 2 →
        GoesOn p M i j i (j + 1) old two values (values ++ 2 ∷ [])
    two-goes one two tried falls puts v V listing = goes-with v listing two 2 (elim (V.list i j here) [
      | inl is_one ↦ absurd (falls (keeps-to (mixed_matrix_of one) (with_one_next M v i j) (next-is v listing.fixed one tried)
          (((first-greedy p prime M v V).one i j here).0 is_one)))
      | inr is_two ↦ is_two
    ]) puts

    -- the same of what a try leaves: 1 is kept, and listed last
    pub one-answer : (start one held : MixedModel) (now : List ℕ) (first number : ℕ) → start ≡ old → FixesAt p start one i j first → first ≡ 1 →
        IsStructuralRank p (mixed_matrix_of one) rank → held ≡ one → now ≡ values ++ number ∷ [] → number ≡ 1 → GoesOn p M i j i (j + 1) old held values now
    one-answer start one held now first number same puts is reaches follows pushed last =
        subst (λ list. GoesOn p M i j i (j + 1) old held values list) (sym (pushed ∙ ap (λ n. values ++ n ∷ []) last))
        (subst (λ (m : MixedModel). GoesOn p M i j i (j + 1) old m values (values ++ 1 ∷ [])) (sym follows)
        (one-goes one (subst (λ (m : MixedModel). FixesAt p m one i j 1) same (subst (λ n. FixesAt p start one i j n) is puts)) reaches))

    -- and 2, where 1 lowered the rank
    pub two-answer : (start again one two held : MixedModel) (now : List ℕ) (first number : ℕ) → start ≡ old → FixesAt p start one i j first → first ≡ 1 →
        (IsStructuralRank p (mixed_matrix_of one) rank → ⊥) → again ≡ old → FixesAt p again two i j number → number ≡ 2 → held ≡ two →
        now ≡ values ++ number ∷ [] → GoesOn p M i j i (j + 1) old held values now
    two-answer start again one two held now first number same tried is falls back puts last follows pushed =
        subst (λ list. GoesOn p M i j i (j + 1) old held values list) (sym (pushed ∙ ap (λ n. values ++ n ∷ []) last))
        (subst (λ (m : MixedModel). GoesOn p M i j i (j + 1) old m values (values ++ 2 ∷ [])) (sym follows)
        (two-goes one two (subst (λ (m : MixedModel). FixesAt p m one i j 1) same (subst (λ n. FixesAt p start one i j n) is tried)) falls
        (subst (λ (m : MixedModel). FixesAt p m two i j 2) back (subst (λ n. FixesAt p again two i j n) last puts))))

  -- ---- ones from row i on and before row k
  module _ (v u : ℕ → ℕ → ℕ) (i k : ℕ) (le : i ≤ k)
      (old_ones : (a b : ℕ) → IsSymbolPlace M a b → before i 0 a b ≡ true → u a b ≡ v a b)
      (new_ones : (a b : ℕ) → IsSymbolPlace M a b → before i 0 a b ≡ false → u a b ≡ 1) where
    within : (a b : ℕ) → before i 0 a b ≡ true → before k 0 a b ≡ true
    within a b h = elim (before-cases i 0 a b h) [
      | inl low ↦ before-row k 0 a b (omega (arith, low, le))
      | inr same ↦ absurd (omega (arith, same.1))
    ]

    ones-same : AreSameModels p (fixed (before k 0) u M) (with_ones_next M v i 0 k 0)
    ones-same = record {
      rows = refl;
      columns = refl;
      constants = λ a b al bl. ap (λ x. x % p) (constant (M.symbol a b) (before i 0 a b) (before k 0 a b) (M.constant a b) (u a b) (v a b)
          (within a b) (λ s x. old_ones a b (al, bl, s) x) (λ s x. new_ones a b (al, bl, s) x));
      symbols = λ a b _ _. symbol (M.symbol a b) (before i 0 a b) (before k 0 a b) (within a b);
    }
      where
        constant : (s x y : Bool) (c a b : ℕ) → (x ≡ true → y ≡ true) → (s ≡ true → x ≡ true → a ≡ b) → (s ≡ true → x ≡ false → a ≡ 1) →
            c + cond (y && s) a 0 ≡ c + cond (x && s) b 0 + cond (y && not x && (s && not x)) 1 0
        constant true true true c a b in_it first then = omega (arith, first refl refl)
        constant true true false c a b in_it first then = absurd (differ refl (in_it refl))
        constant true false true c a b in_it first then = omega (arith, then refl refl)
        constant true false false c a b in_it first then = omega arith
        constant false true true c a b in_it first then = omega arith
        constant false true false c a b in_it first then = absurd (differ refl (in_it refl))
        constant false false true c a b in_it first then = omega arith
        constant false false false c a b in_it first then = omega arith

        symbol : (s x y : Bool) → (x ≡ true → y ≡ true) → s && not y ≡ s && not x && not (y && not x)
        symbol true true true in_it = refl
        symbol true true false in_it = absurd (differ refl (in_it refl))
        symbol true false true in_it = refl
        symbol true false false in_it = refl
        symbol false true true in_it = refl
        symbol false true false in_it = refl
        symbol false false true in_it = refl
        symbol false false false in_it = refl

    pub run-of-ones : IsFirstList p M v → (N : MixedMatrix) → IsFixedTo p M u k 0 N → IsStructuralRank p N rank →
        (a b : ℕ) → IsSymbolPlace M a b → run i 0 k 0 a b ≡ true → v a b ≡ 1
    run-of-ones V N at S = run-to p prime M v V i 0 k 0
        (keeps-from N (with_ones_next M v i 0 k 0) (same-trans p N (fixed (before k 0) u M) (with_ones_next M v i 0 k 0) at ones-same) S)

  -- ---- ones in all places of a row keep the rank
  pub ones-go : (i : ℕ) → i < M.rows → (columns : List ℕ) → AreSymbolColumns M i columns → (old ones : MixedModel) (values now : List ℕ) →
      FixesOnes p old ones i columns → IsStructuralRank p (mixed_matrix_of ones) rank → ListsOnes columns values now →
      GoesOn p M i 0 (i + 1) 0 old ones values now
  ones-go i il columns are old ones values now puts S lists v V listing = record {
    fixed = puts.fixes M v il are one_in listing.fixed;
    listed = lists M v i il are one_in listing.listed;
  }
    where
      u-here : (a b : ℕ) → a ≡ i → ones_at i v a b ≡ 1
      u-here a b q = ap (λ t. cond t 1 (v a b)) same
        where
          same : eqb a i ≡ true
          same = grind (arith, nat_tests, q)

      u-else : (a b : ℕ) → a ≢ i → ones_at i v a b ≡ v a b
      u-else a b ne = ap (λ t. cond t 1 (v a b)) other
        where
          other : eqb a i ≡ false
          other = grind (arith, nat_tests, ne)

      early : (a b : ℕ) → before i 0 a b ≡ true → a ≢ i
      early a b h q = elim (before-cases i 0 a b h) [
        | inl low ↦ omega (arith, low, q)
        | inr same ↦ omega (arith, same.1)
      ]

      u-fixed : IsFixedTo p M (ones_at i v) (i + 1) 0 (mixed_matrix_of ones)
      u-fixed = puts.fixes M (ones_at i v) il are (λ j _. u-here i j refl)
          (fixed-numbers p M v (ones_at i v) i 0 (mixed_matrix_of old) (λ a b _ h. sym (u-else a b (early a b h))) listing.fixed)

      one_in : IsOneIn M i v
      one_in j here = run-of-ones v (λ a b. cond (before i 0 a b) (v a b) 1) i (i + 1) (omega arith) (λ a b _ h. ap (λ t. cond t (v a b) 1) h)
          (λ a b _ h. ap (λ t. cond t (v a b) 1) h) V (mixed_matrix_of ones)
          (fixed-numbers p M (ones_at i v) (λ a b. cond (before i 0 a b) (v a b) 1) (i + 1) 0 (mixed_matrix_of ones) agree u-fixed) S i j here in_run
        where
          in_run : run i 0 (i + 1) 0 i j ≡ true
          in_run = grind (arith, nat_tests)

          agree : (a b : ℕ) → IsSymbolPlace M a b → before (i + 1) 0 a b ≡ true → ones_at i v a b ≡ cond (before i 0 a b) (v a b) 1
          agree a b there h = by (before i 0 a b) refl
            where
              last : before i 0 a b ≡ false → a ≡ i
              last no_more = elim (before-cases (i + 1) 0 a b h) [
                | inl low ↦ at_last low
                | inr same ↦ absurd (omega (arith, same.1))
              ]
                where
                  at_last : a < i + 1 → a ≡ i
                  at_last low = grind (arith, nat_tests, no_more, low)

              by : (t : Bool) → before i 0 a b ≡ t → ones_at i v a b ≡ cond (before i 0 a b) (v a b) 1
              by true e = u-else a b (early a b e) ∙ ap (λ t. cond t (v a b) 1) (sym e)
              by false e = u-here a b (last e) ∙ ap (λ t. cond t (v a b) 1) (sym e)

-- ---- the whole list
module _ (p : ℕ) (prime : IsPrime p) (M : MixedMatrix) (v : ℕ → ℕ → ℕ) (V : IsFirstList p M v) (list : List ℕ) where
  all-before : (a b : ℕ) → IsSymbolPlace M a b → before M.rows 0 a b ≡ true
  all-before a b here = before-row M.rows 0 a b here.0

  pub answered : IsListedTo M v M.rows 0 list → IsFirstReachingList p M list
  answered listed = to-answer p prime M list (listed.count ∙ whole)
      (first-moved p prime M v (values_of M list) (λ a b here. sym (listed.each a b here (all-before a b here))) V)
    where
      whole : symbols_before M M.rows 0 ≡ symbol_count M
      whole = add-zero (symbol_count M)

-- ones everywhere keep the rank
pub ones-answered : (p : ℕ) → IsPrime p → (M : MixedMatrix) (rank : ℕ) → IsStructuralRank p M rank → (N : MixedMatrix) →
    IsFixedTo p M (λ _ _. 1) M.rows 0 N → IsStructuralRank p N rank → (list : List ℕ) → IsListOfOnes M list → IsFirstReachingList p M list
ones-answered p prime M rank R N at S list ones = with_first (one-first p prime M)
  where
    with_first : (v : ℕ → ℕ → ℕ) × IsFirstList p M v × ((u : ℕ → ℕ → ℕ) → IsFirstList p M u → (i j : ℕ) → IsSymbolPlace M i j → u i j ≡ v i j) →
        IsFirstReachingList p M list
    with_first (v, V, _) = answered p prime M v V list (ones v (λ i j here. run-of-ones p prime M rank R v (λ _ _. 1) 0 M.rows (omega arith)
        (λ a b _ h. absurd (none-before a b h)) (λ _ _ _ _. refl) V N at S i j here (in_run i j here)))
      where
        in_run : (i j : ℕ) → IsSymbolPlace M i j → run 0 0 M.rows 0 i j ≡ true
        in_run i j here = both_true (before M.rows 0 i j) (not (before 0 0 i j)) (before-row M.rows 0 i j here.0)
            (ap not (not_true (before 0 0 i j) (none-before i j)))

-- and whatever list was found by edits
pub listed-answered : (p : ℕ) → IsPrime p → (M : MixedMatrix) (list : List ℕ) → ((v : ℕ → ℕ → ℕ) → IsFirstList p M v → IsListedTo M v M.rows 0 list) →
    IsFirstReachingList p M list
listed-answered p prime M list listed = with_first (one-first p prime M)
  where
    with_first : (v : ℕ → ℕ → ℕ) × IsFirstList p M v × ((u : ℕ → ℕ → ℕ) → IsFirstList p M u → (i j : ℕ) → IsSymbolPlace M i j → u i j ≡ v i j) →
        IsFirstReachingList p M list
    with_first (v, V, _) = answered p prime M v V list (listed v V)
