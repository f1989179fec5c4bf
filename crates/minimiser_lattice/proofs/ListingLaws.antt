-- The listing of components is the listing of the blocks.
use Rattle.std.proofs.Common.{◌≡◌, ◌≢◌, ℕ, suc, ◌+◌, ◌<◌, ◌≤◌, Bool, true, false, cond, ◌||◌, ◌&&◌, not, nat_eq, ◌⊎◌}
use Rattle.std.proofs.Common.{inl, inr, refl, ap, sym, subst, ◌∙◌, arith}
use Rattle.residue_theory.proofs.SumLaws.{nat_cases}
use Rattle.residue_theory.proofs.SetLaws.{differ, either_cases, either-first, either-second, eqb_from, eqb_true}
use Rattle.closed_sets.specs.Tables.{Tells, IsReadyIn, IsBlockPut}
use Rattle.closed_sets.specs.Blocks.{IsListing}
use Rattle.closed_sets.proofs.SetLaws.{test_cases, size_on-less}
use Rattle.closed_sets.proofs.Listings.{Started, started-none}
use Rattle.closed_sets.proofs.TableLaws.{started-same, table-next, table-done}
use Rattle.minimiser_lattice.specs.Paths.{IsNumbering}
use Rattle.minimiser_lattice.specs.Components.{leads_in}
use Rattle.minimiser_lattice.specs.Standings.{IsFreeToStand, IsWaiting, in_middle, is_listed}
use Rattle.minimiser_lattice.specs.Listings.{AllWait, HasPlaces, HasStandings, reached_table}
use Rattle.minimiser_lattice.specs.declared.standing.Standing.{Standing}
use Rattle.minimiser_lattice.specs.declared.standing.Standing.TheVariants.{Tail, Waiting, Listed}
use Rattle.minimiser_lattice.proofs.PathLaws.{size_misses}

pub leads-same : (strict : ℕ → ℕ → Bool) (k l : ℕ) → k ≡ l → leads_in strict k l ≡ true
leads-same strict k l q = either-first (nat_eq k l) (strict k l) (eqb_from k l q)

pub leads-strict : (strict : ℕ → ℕ → Bool) (k l : ℕ) → strict k l ≡ true → leads_in strict k l ≡ true
leads-strict strict k l h = either-second (nat_eq k l) (strict k l) h

pub leads-cases : (strict : ℕ → ℕ → Bool) (k l : ℕ) → leads_in strict k l ≡ true → (k ≡ l) ⊎ (strict k l ≡ true)
leads-cases strict k l h = elim (either_cases (nat_eq k l) (strict k l) h) [ inl q ↦ inl (eqb_true k l q) | inr s ↦ inr s ]

pub listed_from : (s : Standing) → in_middle s ≡ true → s ≢ Waiting → is_listed s ≡ true
listed_from Tail m never = absurd (differ refl m)
listed_from Waiting m never = absurd (never refl)
listed_from Listed m never = refl

pub waiting_from : (s : Standing) → in_middle s ≡ true → is_listed s ≡ false → s ≡ Waiting
waiting_from Tail m f = absurd (differ refl m)
waiting_from Waiting m f = refl
waiting_from Listed m f = absurd (differ f refl)

pub first_middle : (m : Bool) (s : Standing) → s ≡ cond m Waiting Tail → in_middle s ≡ m
first_middle true s e = ap in_middle e
first_middle false s e = ap in_middle e

pub first_listed : (m : Bool) (s : Standing) → s ≡ cond m Waiting Tail → is_listed s ≡ false
first_listed true s e = ap is_listed e
first_listed false s e = ap is_listed e

module _ (n : ℕ) (number : ℕ → ℕ) (count : ℕ) (strict : ℕ → ℕ → Bool) (N : IsNumbering n number count strict) where
  -- what is no greater in the order, and no less, is the same
  pub leads-both : (x y : ℕ) → x < n → y < n → reached_table strict number x y ≡ true → reached_table strict number y x ≡ true → number x ≡ number y
  leads-both x y xl yl h e = go (leads-cases strict (number x) (number y) h) (leads-cases strict (number y) (number x) e)
    where
      go : (number x ≡ number y) ⊎ (strict (number x) (number y) ≡ true) → (number y ≡ number x) ⊎ (strict (number y) (number x) ≡ true) → number x ≡ number y
      go (inl q) _ = q
      go (inr s) (inl q) = sym q
      go (inr s) (inr t) = absurd
          (omega (
            arith,
            N.fits,
            N.below x xl,
            N.below y yl,
            N.falls (number x) (number y) (N.below x xl) (omega (arith, N.fits, N.below y yl)) s,
            N.falls (number y) (number x) (N.below y yl) (omega (arith, N.fits, N.below x xl)) t,
          ))

  -- of each place, whether its component is listed
  abbrev listed_in : (ℕ → Standing) → ℕ → Bool
  listed_in standing x = is_listed (standing (number x))

  module _ (middle : ℕ → Bool) (standing : ℕ → Standing) where
    module _ (middles : (k : ℕ) → k < count → in_middle (standing k) ≡ middle k) where
      pub ready-in : (r : ℕ) → r < n → IsFreeToStand strict standing (number r) →
          IsReadyIn n (reached_table strict number) (λ x. middle (number x)) (listed_in standing) r
      ready-in r rl R = record {
        member = sym (middles (number r) (N.below r rl)) ∙ ap in_middle R.0;
        waiting = ap is_listed R.0;
        none_lower = λ y yl m h never. elim (leads-cases strict (number r) (number y) h) [
          | inl q ↦ absurd (differ never (leads-same strict (number y) (number r) (sym q)))
          | inr s ↦ listed_from (standing (number y)) (middles (number y) (N.below y yl) ∙ m)
              (R.1 (number y) (N.falls (number r) (number y) (N.below r rl) (omega (arith, N.fits, N.below y yl)) s) s)
        ];
      }

      pub ready-at : (r : ℕ) → r < n → IsReadyIn n (reached_table strict number) (λ x. middle (number x))
          (listed_in standing) r → IsFreeToStand strict standing (number r)
      ready-at r rl R = (
        waiting_from (standing (number r)) (middles (number r) (N.below r rl) ∙ R.member) R.waiting,
        λ l less s w. at l less s w (N.member l (omega (arith, N.below r rl))),
      )
        where
          at : (l : ℕ) → l < number r → strict (number r) l ≡ true → IsWaiting standing l →
              ((y : ℕ) × (y < n) × (number y ≡ l)) → ⊥
          at l less s w (y, yl, q) = differ (ap is_listed waits) (R.none_lower y yl
              (sym (middles (number y) (N.below y yl)) ∙ ap in_middle waits)
              (leads-strict strict (number r) (number y) (subst (λ v. strict (number r) v ≡ true) (sym q) s))
              (never (test_cases (leads_in strict (number y) (number r)))))
            where
              waits : standing (number y) ≡ Waiting
              waits = ap standing q ∙ w

              never : (leads_in strict (number y) (number r) ≡ true) ⊎ (leads_in strict (number y) (number r) ≡ false) →
                  leads_in strict (number y) (number r) ≡ false
              never (inr f) = f
              never (inl t) = elim (leads-cases strict (number y) (number r) t) [
                | inl e ↦ absurd (omega arith)
                | inr e ↦ absurd (omega (
                  arith,
                  N.falls (number y) (number r) (N.below y yl)
                      (omega (arith, N.fits, N.below r rl)) e,
                ))
              ]

    module _ (more : ℕ → Standing) (rank now : ℕ → ℕ) (r blocks : ℕ) (rl : r < n) (waits : IsWaiting standing (number r))
        (put : more (number r) ≡ Listed) (put_others : (l : ℕ) → l ≢ number r → more l ≡ standing l)
        (here : now (number r) ≡ blocks) (others : (l : ℕ) → l ≢ number r → now l ≡ rank l) where
      apart : (l : ℕ) → is_listed (standing l) ≡ true → l ≢ number r
      apart l h q = differ (ap is_listed (ap standing q ∙ waits)) h

      still : (l : ℕ) → is_listed (standing l) ≡ true → is_listed (more l) ≡ true
      still l h = ap is_listed (put_others l (apart l h)) ∙ h

      -- what waits now waited before
      pub waited : (l : ℕ) → IsWaiting more l → IsWaiting standing l
      waited l w = elim (nat_cases l (number r)) [
        | inl q ↦ absurd (differ (ap is_listed w) (ap is_listed (ap more q ∙ put)))
        | inr ne ↦ sym (put_others l ne) ∙ w
      ]

      pub block-put : IsBlockPut n (reached_table strict number) r blocks (listed_in standing)
          (listed_in more) (λ x. rank (number x)) (λ x. now (number x))
      block-put = record {
        kept = λ y yl h. still (number y) h;
        kept_number = λ y yl h. others (number y) (apart (number y) h);
        put = λ y yl h e. ap is_listed (ap more (sym (leads-both r y rl yl h e)) ∙ put);
        number = λ y yl w h. ap now (is y w h) ∙ here;
        only = λ y yl w h. (
          leads-same strict (number r) (number y) (sym (is y w h)),
          leads-same strict (number y) (number r) (is y w h),
        );
      }
        where
          is : (y : ℕ) → listed_in standing y ≡ false → listed_in more y ≡ true → number y ≡ number r
          is y w h = elim (nat_cases (number y) (number r)) [
            | inl q ↦ q
            | inr ne ↦ absurd (differ w (ap is_listed (sym (put_others (number y) ne)) ∙ h))
          ]

      pub places-next : (listed to : ℕ → ℕ) → HasStandings count middle standing listed blocks →
          HasPlaces count middle rank listed blocks → to blocks ≡ number r →
          ((j : ℕ) → j ≢ blocks → to j ≡ listed j) → HasPlaces count middle now to (blocks + 1)
      places-next listed to S H new same = record {
        below = λ j l. elim (nat_cases j blocks) [
          | inl q ↦ omega (arith, ap to q, new, N.below r rl)
          | inr ne ↦ omega (arith, same j ne, H.below j (omega arith))
        ];
        of_middle = λ j l. elim (nat_cases j blocks) [
          | inl q ↦ ap middle (ap to q ∙ new) ∙ (sym (S.middles (number r) (N.below r rl)) ∙ ap in_middle waits)
          | inr ne ↦ ap middle (same j ne) ∙ H.of_middle j (omega arith)
        ];
        ranks = λ j l. elim (nat_cases j blocks) [
          | inl q ↦ ap now (ap to q ∙ new) ∙ (here ∙ sym q)
          | inr ne ↦ ap now (same j ne)
              ∙ (others (listed j) (apart (listed j) (ap is_listed (S.still_listed j (omega arith))))
              ∙ H.ranks j (omega arith))
        ];
      }

      pub standings-next : (listed to : ℕ → ℕ) → HasStandings count middle standing listed blocks →
          to blocks ≡ number r → ((j : ℕ) → j ≢ blocks → to j ≡ listed j) →
          HasStandings count middle more to (blocks + 1)
      standings-next listed to S new same = record {
        middles = λ k l. elim (nat_cases k (number r)) [
          | inl q ↦ ap in_middle (ap more q ∙ put) ∙ (sym (ap in_middle (ap standing q ∙ waits)) ∙ S.middles k l)
          | inr ne ↦ ap in_middle (put_others k ne) ∙ S.middles k l
        ];
        still_listed = λ j l. elim (nat_cases j blocks) [
          | inl q ↦ ap more (ap to q ∙ new) ∙ put
          | inr ne ↦ ap more (same j ne)
              ∙ (put_others (listed j) (apart (listed j) (ap is_listed (S.still_listed j (omega arith))))
              ∙ S.still_listed j (omega arith))
        ];
        room = omega (
          arith,
          S.room,
          size_on-less (λ k. is_listed (more k)) (λ k. is_listed (standing k)) count (number r) (λ l _ h. still l h)
              (N.below r rl) (ap is_listed put) (ap is_listed waits),
        );
      }

    -- one block more
    pub list-next : (arc : ℕ → ℕ → Bool) (starts ends : ℕ → Bool) →
        Tells arc n starts ends (reached_table strict number) (λ x. middle (number x)) →
        (middles : (k : ℕ) → k < count → in_middle (standing k) ≡ middle k) →
        (more : ℕ → Standing) (rank now : ℕ → ℕ) (r blocks : ℕ) → r < n →
        IsFreeToStand strict standing (number r) → ((j : ℕ) → j < r → IsFreeToStand strict standing (number j) → ⊥) →
        more (number r) ≡ Listed → ((l : ℕ) → l ≢ number r → more l ≡ standing l) →
        now (number r) ≡ blocks → ((l : ℕ) → l ≢ number r → now l ≡ rank l) →
        Started arc n starts ends blocks (listed_in standing) (λ x. rank (number x)) →
        Started arc n starts ends (blocks + 1) (listed_in more) (λ x. now (number x))
    list-next arc starts ends D middles more rank now r blocks rl R least put put_others here others S =
        rw Rattle.std.proofs.Common.add-one
        (table-next arc n starts ends (reached_table strict number) (λ x. middle (number x)) D blocks r
        (listed_in standing) (listed_in more) (λ x. rank (number x)) (λ x. now (number x)) S rl
        (ready-in middles r rl R) (λ j l Q. least j l (ready-at middles j (omega arith) Q))
        (block-put more rank now r blocks rl R.0 put put_others here others))

    pub list-done : (arc : ℕ → ℕ → Bool) (starts ends : ℕ → Bool) →
        Tells arc n starts ends (reached_table strict number) (λ x. middle (number x)) → (rank : ℕ → ℕ) (blocks : ℕ) →
        (middles : (k : ℕ) → k < count → in_middle (standing k) ≡ middle k) →
        ((j : ℕ) → j < n → IsFreeToStand strict standing (number j) → ⊥) →
        Started arc n starts ends blocks (listed_in standing) (λ x. rank (number x)) →
        IsListing arc n starts ends (λ x. rank (number x)) blocks
    list-done arc starts ends D rank blocks middles none S =
        table-done arc n starts ends (reached_table strict number) (λ x. middle (number x)) D blocks (listed_in standing)
        (λ x. rank (number x)) S (λ x l Q. none x l (ready-at middles x l Q))

    module _ (wait : AllWait count middle standing) where
      pub list-first : (arc : ℕ → ℕ → Bool) (starts ends : ℕ → Bool) (rank : ℕ → ℕ) (blocks : ℕ) → blocks ≡ 0 →
          Started arc n starts ends blocks (listed_in standing) (λ x. rank (number x))
      list-first arc starts ends rank blocks e =
          subst (λ v. Started arc n starts ends v (listed_in standing) (λ x. rank (number x))) (sym e)
          (started-same arc n starts ends 0 (λ _. false) (listed_in standing) (λ _. 0) (λ x. rank (number x))
          (started-none arc n starts ends)
          (λ y l. first_listed (middle (number y)) (standing (number y)) (wait (number y) (N.below y l)))
          (λ y l h. absurd (differ refl h)))

      pub standings-first : (listed : ℕ → ℕ) (blocks : ℕ) → blocks ≡ 0 → HasStandings count middle standing listed blocks
      standings-first listed blocks e = record {
        middles = λ k l. first_middle (middle k) (standing k) (wait k l);
        still_listed = λ j l. absurd (omega arith);
        room = omega arith;
      }

    pub standings-fit : (listed : ℕ → ℕ) (blocks k : ℕ) → HasStandings count middle standing listed blocks →
        k < count → IsWaiting standing k → blocks < count
    standings-fit listed blocks k S l w =
        omega (arith, S.room, size_misses (λ j. is_listed (standing j)) count k l (ap is_listed w))

pub places-first : (count : ℕ) (middle : ℕ → Bool) (rank listed : ℕ → ℕ) (blocks : ℕ) → blocks ≡ 0 →
    HasPlaces count middle rank listed blocks
places-first count middle rank listed blocks e = record {
  below = λ j l. absurd (omega arith);
  of_middle = λ j l. absurd (omega arith);
  ranks = λ j l. absurd (omega arith);
}
