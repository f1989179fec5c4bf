-- The greedy choice along a line, in a matroid: at each step it is a largest independent set.
use Rattle.std.proofs.Common.{◌≡◌, ℕ, zero, suc, ◌<◌, ◌≤◌, ◌≢◌, Bool, true, false, ltb, ◌⊎◌, inl, inr, refl, sym, subst}
use Rattle.std.proofs.Common.{◌∙◌, arith}
use Rattle.std.proofs.lemmas.Bool.Decides.{nat_tests}
use Rattle.residue_theory.proofs.CountLaws.{size-without}
use Rattle.residue_theory.proofs.SetLaws.{both_true, both-first, both-second, differ, not_true, with_one-member}
use Rattle.residue_theory.proofs.SetLaws.{with_one-new, with_one-other}
use Rattle.residue_theory.proofs.SumLaws.{member-without, nat_cases, size_on-within, without-member}
use Rattle.residue_theory.specs.Sets.{IsWithin, both, with_one, without}
use Rattle.residue_theory.specs.Sums.{size_on}
use Rattle.equation_matroid_laws.proofs.Matroids.{IsLargest, Matroid, largest-monotone, largest-same, largest-unique}
use Rattle.equation_matroid_laws.proofs.Matroids.{size-grown, size-shrunk, within-grown}
use Rattle.equation_matroid_laws.specs.GreedyChoices.{IsLine, IsPrefix, earlier}

-- K is the greedy choice from X along the line
pub record Choice (n : ℕ) (Free : (ℕ → Bool) → Type 0) (before : ℕ → ℕ → Bool) (X K : ℕ → Bool) : Type 0 where
  pub inside : IsWithin n K X
  pub kept : (e : ℕ) → e < n → X e ≡ true →
      (r s : ℕ) × IsLargest n Free (earlier before X e) r × IsLargest n Free (with_one (earlier before X e) e) s × (K e ≡ ltb r s)

not_less : (r s : ℕ) → ltb r s ≡ false → s ≤ r
not_less r s h = grind (arith, nat_tests)

less : (r s : ℕ) → ltb r s ≡ true → r < s
less r s h = grind (arith, nat_tests)

module _ (before : ℕ → ℕ → Bool) (line : IsLine before) where
  -- the last member of P below k
  abbrev Last : (ℕ → Bool) → ℕ → Type 0
  Last P k = (e : ℕ) × (e < k) × (P e ≡ true) × ((d : ℕ) → d < k → P d ≡ true → d ≢ e → before d e ≡ true)

  last_of : (P : ℕ → Bool) (k : ℕ) → ((j : ℕ) → j < k → P j ≡ false) ⊎ Last P k
  last_of P zero = inl (λ j l. absurd (omega arith))
  last_of P (suc k) = go (P k) refl (last_of P k)
    where
      go : (b : Bool) → P k ≡ b → ((j : ℕ) → j < k → P j ≡ false) ⊎ Last P k → ((j : ℕ) → j < suc k → P j ≡ false) ⊎ Last P (suc k)
      go false e (inl none) = inl (λ j l. elim (nat_cases j k) [ inl q ↦ subst (λ i. P i ≡ false) (sym q) e | inr ne ↦ none j (omega arith) ])
      go false e (inr (f, l, h, later)) = inr (
        f,
        omega arith,
        h,
        λ d dl dh ne. elim (nat_cases d k) [
          | inl q ↦ absurd (differ e (subst (λ i. P i ≡ true) q dh))
          | inr other ↦ later d (omega arith) dh ne
        ],
      )
      go true e (inl none) = inr (k, omega arith, e, λ d dl dh ne. absurd (differ (none d (omega arith)) dh))
      go true e (inr (f, l, h, later)) = elim (line.total f k (λ q. absurd (omega arith))) [
        | inr first ↦ inr (
          f,
          omega arith,
          h,
          λ d dl dh ne. elim (nat_cases d k) [
            | inl q ↦ subst (λ i. before i f ≡ true) (sym q) first
            | inr other ↦ later d (omega arith) dh ne
          ],
        )
        | inl second ↦ inr (
          k,
          omega arith,
          e,
          λ d dl dh ne. elim (nat_cases d f) [
            | inl q ↦ subst (λ i. before i k ≡ true) (sym q) second
            | inr other ↦ line.transitive d f k (later d (omega arith) dh other) second
          ],
        )
      ]

  module _ (n : ℕ) (Free : (ℕ → Bool) → Type 0) (T : Matroid n Free) (X K : ℕ → Bool) (choice : Choice n Free before X K) where
    abbrev Reached : (ℕ → Bool) → Type 0
    Reached P = Free (both K P) × IsLargest n Free P (size_on (both K P) n)

    none-reached : (P : ℕ → Bool) → ((j : ℕ) → j < n → P j ≡ false) → Reached P
    none-reached P none = (
      free,
      record {
        reached = (both K P, (λ j _ h. both-second (K j) (P j) h), free, refl);
        greatest = λ Y within _. size_on-within (both K P) Y n (λ j l h. absurd (differ (none j l) (within j l h)));
      },
    )
      where
        free : Free (both K P)
        free = T.within (both K P) (λ _. false) (λ j l h. absurd (differ (none j l) (both-second (K j) (P j) h))) T.empty

    -- ---- one more, the last
    module _ (P : ℕ → Bool) (start : IsPrefix n before X P) (last : Last P n) where
      shorter : IsPrefix n before X (without P last.0)
      shorter = record {
        inside = λ j l h. start.inside j l (without-member P last.0 j h).0;
        closed = λ d f dl fl xd first h. member-without P last.0 d (start.closed d f dl fl xd first (without-member P last.0 f h).0)
            (λ q. differ (line.irreflexive last.0) (line.transitive last.0 f last.0 (subst (λ i. before i f ≡ true) q first)
            (last.3 f fl (without-member P last.0 f h).0 (without-member P last.0 f h).1)));
      }

      to_earlier : IsWithin n (without P last.0) (earlier before X last.0)
      to_earlier d dl h = let w : (P d ≡ true) × (d ≢ last.0) = without-member P last.0 d h in
          both_true (X d) (before d last.0) (start.inside d dl w.0) (last.3 d dl w.0 w.1)

      of_earlier : IsWithin n (earlier before X last.0) (without P last.0)
      of_earlier d dl h = member-without P last.0 d
          (start.closed d last.0 dl last.1 (both-first (X d) (before d last.0) h) (both-second (X d) (before d last.0) h) last.2)
          (λ q. differ (line.irreflexive last.0) (subst (λ i. before i last.0 ≡ true) q (both-second (X d) (before d last.0) h)))

      to_whole : IsWithin n (with_one (earlier before X last.0) last.0) P
      to_whole = within-grown n (earlier before X last.0) P last.0 (λ d dl h. (without-member P last.0 d (of_earlier d dl h)).0) last.2

      of_whole : IsWithin n P (with_one (earlier before X last.0) last.0)
      of_whole d dl h = elim (nat_cases d last.0) [
        | inl q ↦ subst (λ i. with_one (earlier before X last.0) last.0 i ≡ true) (sym q) (with_one-new (earlier before X last.0) last.0)
        | inr ne ↦ with_one-member (earlier before X last.0) last.0 d (to_earlier d dl (member-without P last.0 d h ne))
      ]

      one_more : Reached (without P last.0) → Reached P
      one_more (free, largest) = go (choice.kept last.0 last.1 (start.inside last.0 last.1 last.2))
        where
          go : (r s : ℕ) × IsLargest n Free (earlier before X last.0) r × IsLargest n Free (with_one (earlier before X last.0) last.0) s
              × (K last.0 ≡ ltb r s) → Reached P
          go (r, s, R, S, q) = at (K last.0) refl
            where
              whole : IsLargest n Free P s
              whole = largest-same n Free (with_one (earlier before X last.0) last.0) P s to_whole of_whole S

              same_r : size_on (both K (without P last.0)) n ≡ r
              same_r = largest-unique n Free (without P last.0) (size_on (both K (without P last.0)) n) r largest
                  (largest-same n Free (earlier before X last.0) (without P last.0) r of_earlier to_earlier R)

              smaller : IsWithin n (both K (without P last.0)) (both K P)
              smaller j l h = both_true (K j) (P j) (both-first (K j) (without P last.0 j) h)
                  (without-member P last.0 j (both-second (K j) (without P last.0 j) h)).0

              others : (j : ℕ) → both K P j ≡ true → j ≢ last.0 → both K (without P last.0) j ≡ true
              others j h ne = both_true (K j) (without P last.0 j) (both-first (K j) (P j) h)
                  (member-without P last.0 j (both-second (K j) (P j) h) ne)

              -- the last is not kept
              passed : K last.0 ≡ false → Reached P
              passed out = (T.within (both K P) (both K (without P last.0)) back free, subst (λ k. IsLargest n Free P k) size whole)
                where
                  back : IsWithin n (both K P) (both K (without P last.0))
                  back j l h = others j h (λ q. differ out (subst (λ i. K i ≡ true) q (both-first (K j) (P j) h)))

                  size : s ≡ size_on (both K P) n
                  size = omega (
                    arith,
                    same_r,
                    not_less r s (sym q ∙ out),
                    largest-monotone n Free (without P last.0) P (size_on (both K (without P last.0)) n) s
                        (λ j l h. (without-member P last.0 j h).0) largest whole,
                    size_on-within (both K P) (both K (without P last.0)) n smaller,
                    size_on-within (both K (without P last.0)) (both K P) n back,
                  )

              -- the last is kept
              taken : K last.0 ≡ true → Reached P
              taken in_K = joined (T.exchange (both K (without P last.0)) whole.reached.0 free whole.reached.2
                  (omega (arith, same_r, whole.reached.3, less r s (sym q ∙ in_K))))
                where
                  joined : (y : ℕ) × (y < n) × (whole.reached.0 y ≡ true) × (both K (without P last.0) y ≡ false) × Free
                      (with_one (both K (without P last.0)) y) → Reached P
                  joined (y, yl, yh, out, grown) = elim (nat_cases y last.0) [
                    | inr ne ↦ absurd (omega (
                      arith,
                      size-grown n (both K (without P last.0)) y yl out,
                      largest.greatest
                          (with_one (both K (without P last.0)) y)
                          (within-grown n (both K (without P last.0)) (without P last.0) y (λ j _ h. both-second (K j) (without P last.0 j) h)
                          (member-without P last.0 y (whole.reached.1 y yl yh) ne)) grown,
                    ))
                    | inl q ↦ shown (subst (λ i. Free (with_one (both K (without P last.0)) i)) q grown)
                  ]
                    where
                      shown : Free (with_one (both K (without P last.0)) last.0) → Reached P
                      shown with_last = (free_all, subst (λ k. IsLargest n Free P k) size whole)
                        where
                          free_all : Free (both K P)
                          free_all = T.within (both K P) (with_one (both K (without P last.0)) last.0) (λ j _ h. elim (nat_cases j last.0) [
                            | inl q ↦ subst (λ i. with_one (both K (without P last.0)) last.0 i ≡ true) (sym q)
                                (with_one-new (both K (without P last.0)) last.0)
                            | inr ne ↦ with_one-member (both K (without P last.0)) last.0 j (others j h ne)
                          ]) with_last

                          last_out : both K (without P last.0) last.0 ≡ false
                          last_out = not_true (both K (without P last.0) last.0)
                              (λ h. (without-member P last.0 last.0 (both-second (K last.0) (without P last.0 last.0) h)).1 refl)

                          size : s ≡ size_on (both K P) n
                          size = omega (
                            arith,
                            same_r,
                            whole.reached.3,
                            size-without whole.reached.0 n last.0 last.1,
                            largest.greatest (without whole.reached.0 last.0)
                                (λ j l h. member-without P last.0 j (whole.reached.1 j l (without-member whole.reached.0 last.0 j h).0)
                                (without-member whole.reached.0 last.0 j h).1)
                                (T.within (without whole.reached.0 last.0) whole.reached.0 (λ j _ h. (without-member whole.reached.0 last.0 j h).0)
                                whole.reached.2),
                            size-grown n (both K (without P last.0)) last.0 last.1 last_out,
                            size_on-within (both K P) (with_one (both K (without P last.0)) last.0) n
                                (within-grown n (both K (without P last.0)) (both K P) last.0 smaller (both_true (K last.0) (P last.0) in_K last.2)),
                            whole.greatest (both K P) (λ j _ h. both-second (K j) (P j) h) free_all,
                          )

              at : (b : Bool) → K last.0 ≡ b → Reached P
              at false e = passed e
              at true e = taken e

    prefix_within : (fuel : ℕ) (P : ℕ → Bool) → IsPrefix n before X P → size_on P n ≤ fuel → Reached P
    prefix_within zero P start le = elim (last_of P n) [
      | inl none ↦ none-reached P none
      | inr last ↦ absurd (omega (arith, size-shrunk n P last.0 last.1 last.2))
    ]
    prefix_within (suc fuel) P start le = elim (last_of P n) [
      | inl none ↦ none-reached P none
      | inr last ↦ one_more P start last (prefix_within fuel (without P last.0) (shorter P start last)
          (omega (arith, size-shrunk n P last.0 last.1 last.2)))
    ]

    -- what is kept of the beginning of the line is a largest independent subset of it
    pub prefix-reached : (P : ℕ → Bool) → IsPrefix n before X P → Free (both K P) × IsLargest n Free P (size_on (both K P) n)
    prefix-reached P start = prefix_within (size_on P n) P start (omega arith)

    pub whole-prefix : IsPrefix n before X X
    whole-prefix = record { inside = λ j _ h. h; closed = λ d f dl fl xd first h. xd }

    -- the choice is independent
    pub choice-free : Free K
    choice-free = T.within K (both K X) (λ j l h. both_true (K j) (X j) h (choice.inside j l h)) (prefix-reached X whole-prefix).0

    -- and what is not kept may not join what was kept before it
    pub passed-over : (y : ℕ) → y < n → X y ≡ true → K y ≡ false → Free (with_one (both K (earlier before X y)) y) → ⊥
    passed-over y yl xy out free = go (prefix-reached (with_one (earlier before X y) y) start)
      where
        start : IsPrefix n before X (with_one (earlier before X y) y)
        start = record {
          inside = within-grown n (earlier before X y) X y (λ j _ h. both-first (X j) (before j y) h) xy;
          closed = λ d f dl fl xd first h. with_one-member (earlier before X y) y d (both_true (X d) (before d y) xd (elim (nat_cases f y) [
            | inl q ↦ subst (λ i. before d i ≡ true) q first
            | inr ne ↦ line.transitive d f y first (both-second (X f) (before f y) (with_one-other (earlier before X y) y f h ne))
          ]));
        }

        y_out : both K (earlier before X y) y ≡ false
        y_out = not_true (both K (earlier before X y) y) (λ h. differ out (both-first (K y) (earlier before X y y) h))

        go : Free (both K (with_one (earlier before X y) y)) × IsLargest n Free (with_one (earlier before X y) y)
            (size_on (both K (with_one (earlier before X y) y)) n) → ⊥
        go (_, largest) = omega (
          arith,
          size-grown n (both K (earlier before X y)) y yl y_out,
          largest.greatest (with_one (both K (earlier before X y)) y)
              (within-grown n (both K (earlier before X y)) (with_one (earlier before X y) y) y
              (λ j _ h. with_one-member (earlier before X y) y j (both-second (K j) (earlier before X y j) h)) (with_one-new (earlier before X y) y)) free,
          size_on-within (both K (earlier before X y)) (both K (with_one (earlier before X y) y)) n
              (λ j l h. both_true (K j) (earlier before X y j) (both-first (K j) (with_one (earlier before X y) y j) h)
              (with_one-other (earlier before X y) y j (both-second (K j) (with_one (earlier before X y) y j) h)
              (λ q. differ out (subst (λ i. K i ≡ true) q (both-first (K j) (with_one (earlier before X y) y j) h))))),
        )
