-- The greedy list is the first of the value lists that reach the rank.
use Rattle.std.proofs.Common.{◌≡◌, ℕ, suc, ◌%◌, ◌<◌, Bool, true, false, cond, not, ◌⊎◌, inl, inr, refl, ap, sym, subst}
use Rattle.std.proofs.Common.{◌∙◌, arith}
use Rattle.residue_theory.proofs.SetLaws.{both_true, differ, lt_cases}
use Rattle.residue_theory.proofs.SumLaws.{nat_cases}
use Rattle.residue_theory.specs.Residues.{IsPrime}
use Rattle.linear_algebra.specs.Parts.{with_entry}
use Rattle.linear_algebra_laws.proofs.Entries.{with_entry-there}
use Rattle.mixed_matrices.specs.Models.{MixedMatrix, value}
use Rattle.mixed_matrices.specs.StructuralRanks.{IsStructuralRank}
use Rattle.mixed_pair_laws.proofs.GreatestRanks.{mixed-rank_exists}
use Rattle.mixed_pair_laws.proofs.PairRank.{greatest-unique}
use Rattle.mixed_layering_laws.specs.LayeredValues.{IsOneOrTwo}
use Rattle.value_list_laws.proofs.FixedRanks.{at-place, fixed-back, fixed-forth, fixed-with, merged, merged-has}
use Rattle.value_list_laws.proofs.FixedRanks.{place-there, reaches-one_or_two, same-reaches, with-fixed}
use Rattle.value_list_laws.proofs.FixedRanks.{with_entry-else}
use Rattle.value_list_laws.proofs.Places.{before-next, before-not_self, before-row, before-trans, before-turn}
use Rattle.value_list_laws.proofs.Places.{each_place, none-before, walk}
use Rattle.value_list_laws.specs.FixedSymbols.{HaveNumbersAt, IsRankWith, IsSymbolPlace, KeepsRank, ReachesRank, fixed}
use Rattle.value_list_laws.specs.FixedSymbols.{place}
use Rattle.value_list_laws.specs.ValueLists.{ComesBefore, IsFirstList, IsGreedyList, IsValueList, before, with_one_next}

-- the place itself is not before
pub not_place : (i j k l : ℕ) → before i j k l ≡ true → place i j k l ≡ false
not_place i j k l h = go (place i j k l) refl
  where
    go : (b : Bool) → place i j k l ≡ b → place i j k l ≡ false
    go false e = e
    go true e = absurd (differ (at-place (λ x y. before i j x y ≡ false) i j k l e (before-not_self i j)) h)

module _ (p : ℕ) (prime : IsPrime p) (M : MixedMatrix) where
  abbrev Keeps : (ℕ → ℕ → ℕ) → ℕ → ℕ → Type 0
  Keeps v i j = KeepsRank p M (with_one_next M v i j)

  -- u and v are the same at the symbols before (i, j)
  abbrev SameBefore : (ℕ → ℕ → ℕ) → (ℕ → ℕ → ℕ) → ℕ → ℕ → Type 0
  SameBefore u v i j = (k l : ℕ) → IsSymbolPlace M k l → before i j k l ≡ true → u k l ≡ v k l

  -- ---- 1 keeps the rank at (i, j) exactly where a witness has 1 there
  pub next-to : (v : ℕ → ℕ → ℕ) (i j : ℕ) → IsSymbolPlace M i j → Keeps v i j →
      (w : ℕ → ℕ → ℕ) × (w i j % p ≡ 1 % p) × HaveNumbersAt p M (before i j) v w × ReachesRank p M w
  next-to v i j here (r, R, F) = go (fixed-with p (fixed (before i j) v M) (place i j) (λ _ _. 1) r F)
    where
      go : IsRankWith p (fixed (before i j) v M) (place i j) (λ _ _. 1) r →
          (w : ℕ → ℕ → ℕ) × (w i j % p ≡ 1 % p) × HaveNumbersAt p M (before i j) v w × ReachesRank p M w
      go W = (
        merged (before i j) v W.reached.0,
        ap (λ b. cond b (v i j) (W.reached.0 i j) % p) (before-not_self i j)
            ∙ W.reached.1 i j (here.0, here.1, both_true (M.symbol i j) (not (before i j i j)) here.2 (ap not (before-not_self i j))) (place-there i j),
        merged-has p M (before i j) v W.reached.0,
        (r, R, fixed-back p M (before i j) v W.reached.0 r W.reached.2),
      )

  pub next-from : (v w : ℕ → ℕ → ℕ) (i j : ℕ) → w i j % p ≡ 1 % p → HaveNumbersAt p M (before i j) v w → ReachesRank p M w → Keeps v i j
  next-from v w i j one has (r, R, K) = (
    r,
    R,
    with-fixed p (fixed (before i j) v M) (place i j) (λ _ _. 1) r (record {
      reached = (
        w,
        (λ k l _ h. at-place (λ x y. w x y % p ≡ 1 % p) i j k l h one),
        fixed-forth p M (before i j) v w r has K,
      );
      greatest = λ u s _ S. R.greatest (merged (before i j) v u) s (fixed-back p M (before i j) v u s S);
    }),
  )

  -- only the numbers before matter
  pub agree-next : (u v : ℕ → ℕ → ℕ) (i j : ℕ) → IsSymbolPlace M i j → SameBefore u v i j → Keeps u i j → Keeps v i j
  agree-next u v i j here same keeps = go (next-to u i j here keeps)
    where
      go : (w : ℕ → ℕ → ℕ) × (w i j % p ≡ 1 % p) × HaveNumbersAt p M (before i j) u w × ReachesRank p M w → Keeps v i j
      go (w, one, has, reaches) = next-from v w i j one (λ k l at h. has k l at h ∙ ap (λ x. x % p) (same k l at h)) reaches

  keeps-decided : (v : ℕ → ℕ → ℕ) (i j : ℕ) → Keeps v i j ⊎ (Keeps v i j → ⊥)
  keeps-decided v i j = go (mixed-rank_exists p prime M) (mixed-rank_exists p prime (with_one_next M v i j))
    where
      go : (r : ℕ) × IsStructuralRank p M r → (s : ℕ) × IsStructuralRank p (with_one_next M v i j) s → Keeps v i j ⊎ (Keeps v i j → ⊥)
      go (r, R) (s, S) = elim (nat_cases s r) [
        | inl q ↦ inl (r, R, subst (λ k. IsStructuralRank p (with_one_next M v i j) k) q S)
        | inr ne ↦ inr (λ (t, T, F). ne (greatest-unique p M.rows M.columns (value (with_one_next M v i j)) s t S F
            ∙ greatest-unique p M.rows M.columns (value M) t r T R))
      ]

  -- ---- a value list that reaches the rank is the first where at none of its twos 1 would keep it
  pub twos-first : (v : ℕ → ℕ → ℕ) → IsValueList M v → ReachesRank p M v →
      ((i j : ℕ) → IsSymbolPlace M i j → v i j ≡ 2 → Keeps v i j → ⊥) → IsFirstList p M v
  twos-first v small reaches twos = record { list = small; reaches = reaches; first = none }
    where
      none : (u : ℕ → ℕ → ℕ) → IsValueList M u → ReachesRank p M u → ComesBefore M u v → ⊥
      none u list reached (i, j, here, lower, same) = twos i j here (two (u i j) (v i j) (list i j here) (small i j here) lower)
          (next-from v u i j (ap (λ x. x % p) (one (u i j) (v i j) (list i j here) (small i j here) lower))
          (λ k l at h. ap (λ x. x % p) (same k l at h)) reached)
        where
          two : (x y : ℕ) → IsOneOrTwo x → IsOneOrTwo y → x < y → y ≡ 2
          two x y (inl a) (inl b) l = absurd (omega arith)
          two x y (inl a) (inr b) l = b
          two x y (inr a) (inl b) l = absurd (omega arith)
          two x y (inr a) (inr b) l = b

          one : (x y : ℕ) → IsOneOrTwo x → IsOneOrTwo y → x < y → x ≡ 1
          one x y (inl a) h l = a
          one x y (inr a) (inl b) l = absurd (omega arith)
          one x y (inr a) (inr b) l = absurd (omega arith)

  -- ---- there is a greedy list: values that reach the rank, decided from place to place
  record Decided (v : ℕ → ℕ → ℕ) (i j : ℕ) : Type 0 where
    small : IsOneOrTwo (v i j)
    to : v i j ≡ 1 → Keeps v i j
    from : Keeps v i j → v i j ≡ 1

  record DecidedTo (R C : ℕ) : Type 0 where
    v : ℕ → ℕ → ℕ
    reaches : ReachesRank p M v
    decided : (i j : ℕ) → IsSymbolPlace M i j → before R C i j ≡ true → Decided v i j

  carried : (u v : ℕ → ℕ → ℕ) (R C : ℕ) → SameBefore u v R C → (i j : ℕ) → IsSymbolPlace M i j → before R C i j ≡ true → Decided u i j → Decided v i j
  carried u v R C same i j here h D = record {
    small = subst IsOneOrTwo (same i j here h) D.small;
    to = λ e. agree-next u v i j here earlier (D.to (same i j here h ∙ e));
    from = λ keeps. sym (same i j here h) ∙ D.from (agree-next v u i j here (λ k l at g. sym (earlier k l at g)) keeps);
  }
    where
      earlier : SameBefore u v i j
      earlier k l at g = same k l at (before-trans R C i j k l h g)

  start : DecidedTo 0 0
  start = go (mixed-rank_exists p prime M)
    where
      go : (r : ℕ) × IsStructuralRank p M r → DecidedTo 0 0
      go (r, R) = record { v = R.reached.0; reaches = (r, R, R.reached.1); decided = λ i j _ h. absurd (none-before i j h) }

  module _ (R C : ℕ) (rl : R < M.rows) (cl : C < M.columns) (D : DecidedTo R C) where
    -- values that keep what is decided, and decide the place
    decide : IsSymbolPlace M R C → (v : ℕ → ℕ → ℕ) → ReachesRank p M v → SameBefore D.v v R C → Decided v R C → DecidedTo R (suc C)
    decide here v reaches same new = record {
      v = v;
      reaches = reaches;
      decided = λ i j at h. elim (before-next R C i j h) [
        | inl earlier ↦ carried D.v v R C same i j at earlier (D.decided i j at earlier)
        | inr q ↦ subst (λ x. Decided v x j) (sym q.0) (subst (λ y. Decided v R y) (sym q.1) new)
      ];
    }

    one : IsSymbolPlace M R C → Keeps D.v R C → DecidedTo R (suc C)
    one here keeps = go (next-to D.v R C here keeps)
      where
        go : (w : ℕ → ℕ → ℕ) × (w R C % p ≡ 1 % p) × HaveNumbersAt p M (before R C) D.v w × ReachesRank p M w → DecidedTo R (suc C)
        go (w, is_one, has, reaches) = decide here (merged (before R C) D.v (with_entry w R C 1))
            (same-reaches p M w (merged (before R C) D.v (with_entry w R C 1)) at_symbols reaches) kept (record {
              small = inl there;
              to = λ _. agree-next D.v (merged (before R C) D.v (with_entry w R C 1)) R C here kept keeps;
              from = λ _. there;
            })
          where
            kept : SameBefore D.v (merged (before R C) D.v (with_entry w R C 1)) R C
            kept k l _ h = sym (ap (λ b. cond b (D.v k l) (with_entry w R C 1 k l)) h)

            there : merged (before R C) D.v (with_entry w R C 1) R C ≡ 1
            there = ap (λ b. cond b (D.v R C) (with_entry w R C 1 R C)) (before-not_self R C) ∙ with_entry-there w R C 1

            at_symbols : (i j : ℕ) → IsSymbolPlace M i j → w i j % p ≡ merged (before R C) D.v (with_entry w R C 1) i j % p
            at_symbols i j at = chosen (before R C i j) refl
              where
                placed : (b : Bool) → place R C i j ≡ b → w i j % p ≡ cond b 1 (w i j) % p
                placed true e = at-place (λ x y. w x y % p ≡ 1 % p) R C i j e is_one
                placed false e = refl

                chosen : (b : Bool) → before R C i j ≡ b → w i j % p ≡ cond b (D.v i j) (with_entry w R C 1 i j) % p
                chosen true e = has i j at e
                chosen false e = placed (place R C i j) refl

    two : IsSymbolPlace M R C → (Keeps D.v R C → ⊥) → DecidedTo R (suc C)
    two here never = go (reaches-one_or_two p M prime R C here D.v D.reaches)
      where
        kept : (x : ℕ) → SameBefore D.v (with_entry D.v R C x) R C
        kept x k l _ h = sym (with_entry-else D.v R C x k l (not_place R C k l h))

        go : (x : ℕ) × IsOneOrTwo x × ReachesRank p M (with_entry D.v R C x) → DecidedTo R (suc C)
        go (x, small, reaches) = elim small [
          | inl e ↦ absurd (never (next-from D.v (with_entry D.v R C x) R C (ap (λ y. y % p) (with_entry-there D.v R C x ∙ e))
              (λ k l at h. ap (λ y. y % p) (sym (kept x k l at h))) reaches))
          | inr e ↦ decide here (with_entry D.v R C x) reaches (kept x) (record {
            small = inr (with_entry-there D.v R C x ∙ e);
            to = λ q. absurd (apart (with_entry D.v R C x R C) q (with_entry-there D.v R C x ∙ e));
            from = λ keeps. absurd (never (agree-next (with_entry D.v R C x) D.v R C here (λ k l at h. sym (kept x k l at h)) keeps));
          })
        ]
          where
            apart : (y : ℕ) → y ≡ 1 → y ≡ 2 → ⊥
            apart y a b = omega arith

    next : DecidedTo R (suc C)
    next = go (M.symbol R C) refl
      where
        go : (b : Bool) → M.symbol R C ≡ b → DecidedTo R (suc C)
        go true s = elim (keeps-decided D.v R C) [ inl keeps ↦ one (rl, cl, s) keeps | inr never ↦ two (rl, cl, s) never ]
        go false s = record {
          v = D.v;
          reaches = D.reaches;
          decided = λ i j at h. elim (before-next R C i j h) [
            | inl earlier ↦ D.decided i j at earlier
            | inr q ↦ absurd (differ s (subst (λ x. M.symbol x C ≡ true) q.0 (subst (λ y. M.symbol i y ≡ true) q.1 at.2)))
          ];
        }

  turn : (R : ℕ) → R < M.rows → DecidedTo R M.columns → DecidedTo (suc R) 0
  turn R rl D = record { v = D.v; reaches = D.reaches; decided = λ i j at h. D.decided i j at (before-turn M.columns R i j at.1 h) }

  pub greedy_exists : (v : ℕ → ℕ → ℕ) × IsGreedyList p M v × ReachesRank p M v
  greedy_exists = go (walk M.rows M.columns DecidedTo start next turn)
    where
      go : DecidedTo M.rows 0 → (v : ℕ → ℕ → ℕ) × IsGreedyList p M v × ReachesRank p M v
      go D = (
        D.v,
        record {
          list = λ i j at. (D.decided i j at (before-row M.rows 0 i j at.0)).small;
          one = λ i j at. ((D.decided i j at (before-row M.rows 0 i j at.0)).to, (D.decided i j at (before-row M.rows 0 i j at.0)).from);
        },
        D.reaches,
      )

  -- ---- two greedy lists are the same
  pub greedy-same : (u v : ℕ → ℕ → ℕ) → IsGreedyList p M u → IsGreedyList p M v → (i j : ℕ) → IsSymbolPlace M i j → u i j ≡ v i j
  greedy-same u v U V i j at = each_place M.rows M.columns (λ i j. M.symbol i j ≡ true → u i j ≡ v i j) step i j at.0 at.1 at.2
    where
      step : (i j : ℕ) → i < M.rows → j < M.columns →
          ((k l : ℕ) → k < M.rows → l < M.columns → before i j k l ≡ true → M.symbol k l ≡ true → u k l ≡ v k l) →
          M.symbol i j ≡ true → u i j ≡ v i j
      step i j il jl ih s = elim (U.list i j (il, jl, s)) [
        | inl e ↦ e ∙ sym ((V.one i j (il, jl, s)).1 (agree-next u v i j (il, jl, s) same ((U.one i j (il, jl, s)).0 e)))
        | inr e ↦ elim (V.list i j (il, jl, s)) [
          | inl f ↦ (U.one i j (il, jl, s)).1 (agree-next v u i j (il, jl, s) (λ k l at h. sym (same k l at h)) ((V.one i j (il, jl, s)).0 f)) ∙ sym f
          | inr f ↦ e ∙ sym f
        ]
      ]
        where
          same : SameBefore u v i j
          same k l at h = ih k l at.0 at.1 h at.2

  -- ---- and so are two first lists
  pub first-same : (u v : ℕ → ℕ → ℕ) → IsFirstList p M u → IsFirstList p M v → (i j : ℕ) → IsSymbolPlace M i j → u i j ≡ v i j
  first-same u v U V i j at = each_place M.rows M.columns (λ i j. M.symbol i j ≡ true → u i j ≡ v i j) step i j at.0 at.1 at.2
    where
      step : (i j : ℕ) → i < M.rows → j < M.columns →
          ((k l : ℕ) → k < M.rows → l < M.columns → before i j k l ≡ true → M.symbol k l ≡ true → u k l ≡ v k l) →
          M.symbol i j ≡ true → u i j ≡ v i j
      step i j il jl ih s = elim (lt_cases (u i j) (v i j)) [
        | inl lower ↦ absurd (V.first u U.list U.reaches (i, j, (il, jl, s), lower, λ k l at h. ih k l at.0 at.1 h at.2))
        | inr more ↦ elim (lt_cases (v i j) (u i j)) [
          | inl lower ↦ absurd (U.first v V.list V.reaches (i, j, (il, jl, s), lower, λ k l at h. sym (ih k l at.0 at.1 h at.2)))
          | inr less ↦ omega arith
        ]
      ]

  -- ---- the greedy list is the first
  pub greedy-first : (v : ℕ → ℕ → ℕ) → IsGreedyList p M v → IsFirstList p M v
  greedy-first v V = go greedy_exists
    where
      go : (u : ℕ → ℕ → ℕ) × IsGreedyList p M u × ReachesRank p M u → IsFirstList p M v
      go (u, U, reaches) = twos-first v V.list
          (same-reaches p M u v (λ i j at. ap (λ x. x % p) (greedy-same u v U V i j at)) reaches)
          (λ i j at e keeps. apart (v i j) ((V.one i j at).1 keeps) e)
        where
          apart : (y : ℕ) → y ≡ 1 → y ≡ 2 → ⊥
          apart y a b = omega arith

  pub first-greedy : (v : ℕ → ℕ → ℕ) → IsFirstList p M v → IsGreedyList p M v
  first-greedy v V = go greedy_exists
    where
      go : (u : ℕ → ℕ → ℕ) × IsGreedyList p M u × ReachesRank p M u → IsGreedyList p M v
      go (u, U, _) = record {
        list = V.list;
        one = λ i j at. (
          (λ e. agree-next u v i j at (λ k l there _. same k l there) ((U.one i j at).0 (same i j at ∙ e))),
          (λ keeps. sym (same i j at) ∙ (U.one i j at).1 (agree-next v u i j at (λ k l there _. sym (same k l there)) keeps)),
        );
      }
        where
          same : (i j : ℕ) → IsSymbolPlace M i j → u i j ≡ v i j
          same = first-same u v (greedy-first u U) V

  pub one-first : (v : ℕ → ℕ → ℕ) × IsFirstList p M v × ((u : ℕ → ℕ → ℕ) → IsFirstList p M u → (i j : ℕ) → IsSymbolPlace M i j → u i j ≡ v i j)
  one-first = go greedy_exists
    where
      go : (u : ℕ → ℕ → ℕ) × IsGreedyList p M u × ReachesRank p M u →
          (v : ℕ → ℕ → ℕ) × IsFirstList p M v × ((u : ℕ → ℕ → ℕ) → IsFirstList p M u → (i j : ℕ) → IsSymbolPlace M i j → u i j ≡ v i j)
      go (v, V, _) = (v, greedy-first v V, λ u U. first-same u v U (greedy-first v V))
