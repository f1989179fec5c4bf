-- A kept inverse tells of each place: a closed set of rows shows that 1 lowers the rank, or a path that it keeps it.
use Rattle.std.proofs.Common.{◌≡◌, ℕ, zero, suc, ◌+◌, ◌*◌, ◌%◌, ◌<◌, ◌≢◌, Bool, true, false, eqb, not, ◌&&◌, ◌⊎◌, inl}
use Rattle.std.proofs.Common.{inr, refl, ap, sym, subst, arith}
use Rattle.residue_theory.proofs.ResidueLaws.{one_non_zero, vanishes-mul, vanishes-rest, vanishes_by}
use Rattle.residue_theory.proofs.SetLaws.{both-first, both-second, both_true, differ, eqb_false, eqb_from, eqb_true}
use Rattle.residue_theory.proofs.SetLaws.{not_true, some_below-found, some_below-holds, zero_cases}
use Rattle.residue_theory.proofs.SumLaws.{member-without, nat_cases, without-member, without-same}
use Rattle.residue_theory.specs.Residues.{IsPrime}
use Rattle.residue_theory.specs.Sets.{only, some_below, without}
use Rattle.linear_algebra.specs.Products.{IsInverse}
use Rattle.closed_sets.proofs.Hulls.{reached, reached-follows, reached-holds, reached-set}
use Rattle.closed_sets.specs.Walks.{FromSome, Walk}
use Rattle.mixed_matrices.specs.Models.{MixedMatrix, value}
use Rattle.value_list_laws.proofs.Runs.{not_false}
use Rattle.value_list_laws.specs.FixedSymbols.{IsSymbolPlace, place}
use Rattle.value_list_laws.specs.KeptInverses.{ShowsALowering}
use Rattle.value_list_laws.specs.Paths.{HasPath}

module _ (p : ℕ) (prime : IsPrime p) (M : MixedMatrix) (square : M.rows ≡ M.columns) (i j : ℕ) (here : IsSymbolPlace M i j)
    (w G : ℕ → ℕ → ℕ) (inv : IsInverse p M.columns (value M w) G) (d : ℕ) (to_one : (w i j + d) % p ≡ 1 % p) (tie : (1 + d * G j i) % p ≡ 0) where
  -- row y has another symbol, from whose column G leads to row x
  leading : ℕ → ℕ → Bool
  leading x y = some_below M.columns (λ b. M.symbol y b && (not (place i j y b) && not (eqb (G b x % p) 0)))

  record Leads (x y : ℕ) : Type 0 where
    b : ℕ
    below : b < M.columns
    symbol : M.symbol y b ≡ true
    beside : place i j y b ≡ false
    lead : G b x % p ≢ 0

  leads-of : (x y : ℕ) → leading x y ≡ true → Leads x y
  unfolding leading
  leads-of x y h = go (some_below-found M.columns (λ b. M.symbol y b && (not (place i j y b) && not (eqb (G b x % p) 0))) h)
    where
      go : (b : ℕ) × (b < M.columns) × (M.symbol y b && (not (place i j y b) && not (eqb (G b x % p) 0)) ≡ true) → Leads x y
      go (b, bl, k) = record {
        b = b;
        below = bl;
        symbol = both-first (M.symbol y b) (not (place i j y b) && not (eqb (G b x % p) 0)) k;
        beside = not_false (place i j y b) (both-first (not (place i j y b)) (not (eqb (G b x % p) 0)) rest);
        lead = eqb_false (G b x % p) 0 (not_false (eqb (G b x % p) 0) (both-second (not (place i j y b)) (not (eqb (G b x % p) 0)) rest));
      }
        where
          rest : not (place i j y b) && not (eqb (G b x % p) 0) ≡ true
          rest = both-second (M.symbol y b) (not (place i j y b) && not (eqb (G b x % p) 0)) k

  unequal : (x : ℕ) → x ≢ 0 → not (eqb x 0) ≡ true
  unequal x ne = ap not (not_true (eqb x 0) (λ h. ne (eqb_true x 0 h)))

  to-leads : (x y b : ℕ) → IsSymbolPlace M y b → place i j y b ≡ false → G b x % p ≢ 0 → leading x y ≡ true
  unfolding leading
  to-leads x y b at beside ne = some_below-holds M.columns (λ b. M.symbol y b && (not (place i j y b) && not (eqb (G b x % p) 0))) b at.1
      (both_true (M.symbol y b) (not (place i j y b) && not (eqb (G b x % p) 0)) at.2
      (both_true (not (place i j y b)) (not (eqb (G b x % p) 0)) (ap not beside) (unequal (G b x % p) ne)))

  row-below : (c : ℕ) → c < M.columns → c < M.rows
  row-below c l = omega (arith, square)

  i-below : i < M.columns
  i-below = omega (arith, here.0, square)

  -- a walk from row i to row c, read backwards, is a path to row i
  path_of : (k c u : ℕ) → c < M.columns → Walk leading M.columns i c k → G u c % p ≢ 0 → HasPath p M G i j k u
  path_of zero c u cl walk lead = subst (λ x. G u x % p ≢ 0) (sym walk) lead
  path_of (suc k) c u cl (z, zl, walk, arc) lead = go (leads-of z c arc) (λ b ne. path_of k z b zl walk ne)
    where
      go : Leads z c → ((b : ℕ) → G b z % p ≢ 0 → HasPath p M G i j k b) → HasPath p M G i j (suc k) u
      go L rest = (c, L.b, (row-below c cl, L.below, L.symbol), L.beside, lead, rest L.b L.lead)

  from_i : ℕ → Bool
  from_i = reached leading M.columns (only i)

  holds-i : from_i i ≡ true
  unfolding from_i
  holds-i = reached-holds leading M.columns (only i) i i-below (eqb_from i i refl)

  follows : (x y : ℕ) → x < M.columns → y < M.columns → from_i x ≡ true → leading x y ≡ true → from_i y ≡ true
  unfolding from_i
  follows = reached-follows leading M.columns (only i)

  walked : (c : ℕ) → c < M.columns → from_i c ≡ true → (k : ℕ) × Walk leading M.columns i c k
  unfolding from_i
  walked c cl h = go ((reached-set leading M.columns (only i) c cl).0 h)
    where
      go : FromSome leading M.columns (only i) c → (k : ℕ) × Walk leading M.columns i c k
      go (s, sl, sh, (k, walk)) = (k, subst (λ x. Walk leading M.columns x c k) (eqb_true s i sh) walk)

  first-lead : G j i % p ≢ 0
  first-lead z = one_non_zero p prime 1 refl (vanishes-rest p (d * G j i) 1 (vanishes_by p (d * G j i + 1) (1 + d * G j i) (omega arith) tie)
      (vanishes-mul p d (G j i) z))

  abbrev Back : Type 0
  Back = (s : ℕ) × (0 < s) × HasPath p M G i j s j

  -- from the place a row is met that leads to row i
  met : ℕ → Bool
  met c = from_i c && (not (eqb c i) && not (eqb (G j c % p) 0))

  met-path : (c : ℕ) → c < M.columns → met c ≡ true → Back
  unfolding met
  met-path c cl h = go (walked c cl (both-first (from_i c) (not (eqb c i) && not (eqb (G j c % p) 0)) h))
    where
      rest : not (eqb c i) && not (eqb (G j c % p) 0) ≡ true
      rest = both-second (from_i c) (not (eqb c i) && not (eqb (G j c % p) 0)) h

      other : c ≢ i
      other = eqb_false c i (not_false (eqb c i) (both-first (not (eqb c i)) (not (eqb (G j c % p) 0)) rest))

      lead : G j c % p ≢ 0
      lead = eqb_false (G j c % p) 0 (not_false (eqb (G j c % p) 0) (both-second (not (eqb c i)) (not (eqb (G j c % p) 0)) rest))

      go : (k : ℕ) × Walk leading M.columns i c k → Back
      go (zero, walk) = absurd (other (sym walk))
      go (suc k, walk) = (suc k, omega arith, path_of (suc k) c j cl walk lead)

  met-from : (c : ℕ) → from_i c ≡ true → c ≢ i → G j c % p ≢ 0 → met c ≡ true
  unfolding met
  met-from c h ne lead = both_true (from_i c) (not (eqb c i) && not (eqb (G j c % p) 0)) h
      (both_true (not (eqb c i)) (not (eqb (G j c % p) 0)) (ap not (not_true (eqb c i) (λ q. ne (eqb_true c i q)))) (unequal (G j c % p) lead))

  -- row i has another symbol that leads to row i
  turned : ℕ → Bool
  turned x = from_i x && leading x i

  turned-path : (x : ℕ) → x < M.columns → turned x ≡ true → Back
  unfolding turned
  turned-path x xl h = go (walked x xl (both-first (from_i x) (leading x i) h)) (leads-of x i (both-second (from_i x) (leading x i) h))
    where
      go : (k : ℕ) × Walk leading M.columns i x k → Leads x i → Back
      go (k, walk) L = (suc k, omega arith, (i, L.b, (here.0, L.below, L.symbol), L.beside, first-lead, path_of k x L.b xl walk L.lead))

  turned-from : (x : ℕ) → from_i x ≡ true → leading x i ≡ true → turned x ≡ true
  unfolding turned
  turned-from x h l = both_true (from_i x) (leading x i) h l

  closed-rows : some_below M.columns met ≡ false → some_below M.columns turned ≡ false → ShowsALowering p M w G i j d (without from_i i)
  closed-rows none_met none_turned = record {
    inverse = inv;
    change = to_one;
    singular = tie;
    outside = without-same from_i i;
    apart = λ c cl h. apart c cl (without-member from_i i c h).0 (without-member from_i i c h).1 (zero_cases (G j c % p));
    none = λ a b at out beside. kept i i-below holds-i a b at out beside (zero_cases (G b i % p));
    closed = λ a b at out beside c cl h. kept c cl (without-member from_i i c h).0 a b at out beside (zero_cases (G b c % p));
  }
    where
      apart : (c : ℕ) → c < M.columns → from_i c ≡ true → c ≢ i → (G j c % p ≡ 0) ⊎ (G j c % p ≢ 0) → G j c % p ≡ 0
      apart c cl h ne (inl z) = z
      apart c cl h ne (inr lead) = absurd (differ none_met (some_below-holds M.columns met c cl (met-from c h ne lead)))

      kept : (x : ℕ) → x < M.columns → from_i x ≡ true → (a b : ℕ) → IsSymbolPlace M a b → without from_i i a ≡ false → place i j a b ≡ false →
          (G b x % p ≡ 0) ⊎ (G b x % p ≢ 0) → G b x % p ≡ 0
      kept x xl h a b at out beside (inl z) = z
      kept x xl h a b at out beside (inr lead) = elim (nat_cases a i) [
        | inl q ↦ absurd (differ none_turned (some_below-holds M.columns turned x xl
            (turned-from x h (subst (λ y. leading x y ≡ true) q (to-leads x a b at beside lead)))))
        | inr ne ↦ absurd (differ out (member-without from_i i a
            (follows x a xl (omega (arith, at.0, square)) h (to-leads x a b at beside lead)) ne))
      ]

  pub told : ((A : ℕ → Bool) × ShowsALowering p M w G i j d A) ⊎ ((s : ℕ) × (0 < s) × HasPath p M G i j s j)
  told = go (some_below M.columns met) refl (some_below M.columns turned) refl
    where
      go : (a : Bool) → some_below M.columns met ≡ a → (b : Bool) → some_below M.columns turned ≡ b →
          ((A : ℕ → Bool) × ShowsALowering p M w G i j d A) ⊎ ((s : ℕ) × (0 < s) × HasPath p M G i j s j)
      go true e b f = let m : (c : ℕ) × (c < M.columns) × (met c ≡ true) = some_below-found M.columns met e in inr (met-path m.0 m.1 m.2)
      go false e true f = let m : (c : ℕ) × (c < M.columns) × (turned c ≡ true) = some_below-found M.columns turned f in inr (turned-path m.0 m.1 m.2)
      go false e false f = inl (without from_i i, closed-rows e f)
