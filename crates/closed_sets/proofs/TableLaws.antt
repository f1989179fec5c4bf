-- A listing that is made from a table of reachability.
use Rattle.std.proofs.Common.{◌≡◌, ℕ, suc, ◌<◌, ◌≢◌, Bool, true, false, ◌⊎◌, inl, inr, sym, subst, ◌∙◌, refl, arith}
use Rattle.residue_theory.specs.Sums.{size_on}
use Rattle.closed_sets.specs.Walks.{Reaches, FromSome}
use Rattle.closed_sets.specs.Closed.{IsMiddle, IsReachedSet}
use Rattle.closed_sets.specs.Blocks.{IsListing}
use Rattle.closed_sets.specs.Tables.{Tells, IsReadyIn, IsBlockPut}
use Rattle.residue_theory.proofs.SumLaws.{nat_cases}
use Rattle.residue_theory.proofs.SetLaws.{differ}
use Rattle.closed_sets.proofs.SetLaws.{test_cases, size_on-less}
use Rattle.closed_sets.proofs.Listings.{Started, IsReady, placed_with, block_with, started-next, started-all, waiting_or_all}
use Rattle.closed_sets.proofs.Listings.{find_ready, kinds, kept, put, number_of-before, number_of-now}
use Rattle.closed_sets.proofs.Hulls.{reaches}

module _ (arc : ℕ → ℕ → Bool) (n : ℕ) (starts ends : ℕ → Bool) where
  -- Started speaks of the places below n alone
  pub started-same : (k : ℕ) (placed more : ℕ → Bool) (block now : ℕ → ℕ) → Started arc n starts ends k placed block →
      ((y : ℕ) → y < n → more y ≡ placed y) → ((y : ℕ) → y < n → placed y ≡ true → now y ≡ block y) → Started arc n starts ends k more now
  started-same k placed more block now S same number = record {
    middle = λ x l h. S.middle x l (was x l h);
    below_k = λ x l h. omega (arith, S.below_k x l (was x l h), number x l (was x l h));
    each = λ j l. let e = S.each j l in (e.0, e.1, same e.0 e.1 ∙ e.2, number e.0 e.1 e.2 ∙ e.3);
    shared = λ x y xl yl hx hy e. S.shared x y xl yl (was x xl hx) (was y yl hy) (sym (number x xl (was x xl hx)) ∙ (e ∙ number y yl (was y yl hy)));
    joined = λ x y xl yl hx hy m. number x xl (was x xl hx) ∙ (S.joined x y xl yl (was x xl hx) (was y yl hy) m ∙ sym (number y yl (was y yl hy)));
    down = λ x y xl hx my r. let d = S.down x y xl (was x xl hx) my r in (same y my.0 ∙ d.0, omega (arith, d.1, number x xl (was x xl hx), number y my.0 d.0));
    least = λ x j mx l after lower. found (S.least x j mx l (λ h. let a = after (same x mx.0 ∙ h) in omega (arith, a, number x mx.0 h))
        (λ y my r. elim (lower y my r) [ inl (h, less) ↦ inl (was y my.0 h, omega (arith, less, number y my.0 (was y my.0 h))) | inr m ↦ inr m ]));
  }
    where
      was : (y : ℕ) → y < n → more y ≡ true → placed y ≡ true
      was y l h = sym (same y l) ∙ h

      found : {x j : ℕ} → ((z : ℕ) × (z < x) × (z < n) × (placed z ≡ true) × (block z ≡ j)) → (z : ℕ) × (z < x) × (z < n) × (more z ≡ true) × (now z ≡ j)
      found (z, zx, zl, h, e) = (z, zx, zl, same z zl ∙ h, number z zl h ∙ e)

  module _ (T : ℕ → ℕ → Bool) (M : ℕ → Bool) (D : Tells arc n starts ends T M) where
    ready-from : (placed : ℕ → Bool) (x : ℕ) → x < n → IsReadyIn n T M placed x → IsReady arc n starts ends placed x
    ready-from placed x l R = record {
      middle = D.middle x l R.member;
      waiting = R.waiting;
      none_lower = λ y yl low. differ low.waiting
          (R.none_lower y yl (D.in_middle y low.middle) (D.reached x y l yl low.along)
          (never (T y x) refl yl low.never_back));
    }
      where
        never : {y : ℕ} → (b : Bool) → T y x ≡ b → y < n → (Reaches arc n y x → ⊥) → T y x ≡ false
        never {y} true e yl none = absurd (none (D.reaches y x yl l e))
        never {y} false e yl none = e

    ready-to : (placed : ℕ → Bool) (x : ℕ) → x < n → IsReady arc n starts ends placed x → IsReadyIn n T M placed x
    ready-to placed x l R = record {
      member = D.in_middle x R.middle;
      waiting = R.waiting;
      none_lower = λ y yl m xy yx. at y yl m xy yx (test_cases (placed y));
    }
      where
        at : (y : ℕ) → y < n → M y ≡ true → T x y ≡ true → T y x ≡ false → (placed y ≡ true) ⊎ (placed y ≡ false) → placed y ≡ true
        at y yl m xy yx (inl t) = t
        at y yl m xy yx (inr w) = absurd
            (R.none_lower y yl (record {
              middle = D.middle y yl m;
              along = D.reaches x y l yl xy;
              never_back =
                  λ r. differ yx (D.reached y x yl l r);
              waiting = w;
            }))

    -- one block more
    pub table-next : (k r : ℕ) (placed more : ℕ → Bool) (block now : ℕ → ℕ) → Started arc n starts ends k placed block → r < n → IsReadyIn n T M placed r →
        ((j : ℕ) → j < r → IsReadyIn n T M placed j → ⊥) → IsBlockPut n T r k placed more block now → Started arc n starts ends (suc k) more now
    table-next k r placed more block now S rl R before P =
        started-same (suc k) (placed_with arc n starts ends placed r) more (block_with arc n starts ends placed block k) now
        (started-next arc n starts ends k placed block S r rl (ready-from placed r rl R) (λ j l q. before j l (ready-to placed j (omega arith) q)))
        same_set same_number
      where
        with_r : (y : ℕ) → y < n → placed_with arc n starts ends placed r y ≡ true → more y ≡ true
        with_r y l h = elim (kinds arc n starts ends placed r y rl l h) [
          | inl p ↦ P.kept y l p
          | inr (f, m) ↦ P.put y l (D.reached r y rl l m.0) (D.reached y r l rl m.1)
        ]

        at_more : (y : ℕ) → y < n → more y ≡ true → (placed y ≡ true) ⊎ (placed y ≡ false) → placed_with arc n starts ends placed r y ≡ true
        at_more y l h (inl t) = kept arc n starts ends placed r y t
        at_more y l h (inr w) = let t = P.only y l w h in put arc n starts ends placed r y rl l (D.reaches r y rl l t.0, D.reaches y r l rl t.1)

        both : (y : ℕ) → y < n → (a b : Bool) → more y ≡ a → placed_with arc n starts ends placed r y ≡ b → more y ≡ placed_with arc n starts ends placed r y
        both y l true b e f = e ∙ sym (at_more y l e (test_cases (placed y)))
        both y l false true e f = absurd (differ e (with_r y l f))
        both y l false false e f = e ∙ sym f

        same_set : (y : ℕ) → y < n → more y ≡ placed_with arc n starts ends placed r y
        same_set y l = both y l (more y) (placed_with arc n starts ends placed r y) refl refl

        same_number : (y : ℕ) → y < n → placed_with arc n starts ends placed r y ≡ true → now y ≡ block_with arc n starts ends placed block k y
        same_number y l h = elim (test_cases (placed y)) [
          | inl t ↦ P.kept_number y l t ∙ sym (number_of-before arc n starts ends placed block k y t)
          | inr w ↦ P.number y l w (with_r y l h) ∙ sym (number_of-now arc n starts ends placed block k y w)
        ]

    -- where none is ready, the listing is whole
    pub table-done : (k : ℕ) (placed : ℕ → Bool) (block : ℕ → ℕ) → Started arc n starts ends k placed block →
        ((x : ℕ) → x < n → IsReadyIn n T M placed x → ⊥) → IsListing arc n starts ends block k
    table-done k placed block S none = go (waiting_or_all arc n starts ends placed)
      where
        go : ((x : ℕ) × (x < n) × IsMiddle arc n starts ends x × (placed x ≡ false))
            ⊎ ((x : ℕ) → IsMiddle arc n starts ends x → placed x ≡ true) → IsListing arc n starts ends block k
        go (inr all) = started-all arc n starts ends k placed block S all
        go (inl (x, l, m, w)) = let f = find_ready arc n starts ends placed (suc (size_on (reaches arc n x) n)) x m w
            (omega arith) in absurd (none f.0 f.1 (ready-to placed f.0 f.1 f.2))

-- a block that is put has a place that waited
pub block-grows : (n : ℕ) (T : ℕ → ℕ → Bool) (r k : ℕ) (placed more : ℕ → Bool) (block now : ℕ → ℕ) →
    IsBlockPut n T r k placed more block now → r < n → placed r ≡ false → T r r ≡ true →
    size_on placed n < size_on more n
block-grows n T r k placed more block now P l w t = size_on-less more placed n r P.kept l (P.put r l t t) w

-- what is reached from the one place x
pub single-reached : (arc : ℕ → ℕ → Bool) (n : ℕ) (S R : ℕ → Bool) (x : ℕ) → IsReachedSet arc n S R → x < n → S x ≡ true → ((j : ℕ) → j ≢ x → S j ≡ false) →
    (y : ℕ) → y < n → (R y ≡ true → Reaches arc n x y) × (Reaches arc n x y → R y ≡ true)
single-reached arc n S R x set xl at_x others y yl = ((λ h. go ((set y yl).0 h)), λ r. (set y yl).1 (x, xl, at_x, r))
  where
    go : FromSome arc n S y → Reaches arc n x y
    go (s, sl, h, r) = elim (nat_cases s x) [ inl q ↦ subst (λ v. Reaches arc n v y) q r | inr ne ↦ absurd (differ (others s ne) h) ]

-- the middle, from the table and what is reached from a start
pub middle-tells : (arc : ℕ → ℕ → Bool) (n : ℕ) (starts ends : ℕ → Bool) (T : ℕ → ℕ → Bool) (F M : ℕ → Bool) →
    ((x y : ℕ) → x < n → y < n → (T x y ≡ true → Reaches arc n x y) × (Reaches arc n x y → T x y ≡ true)) → IsReachedSet arc n starts F →
    ((x : ℕ) → x < n → M x ≡ true → (F x ≡ false) × ((e : ℕ) → e < n → ends e ≡ true → T x e ≡ false)) →
    ((x : ℕ) → x < n → F x ≡ false → ((e : ℕ) → e < n → ends e ≡ true → T x e ≡ false) → M x ≡ true) → Tells arc n starts ends T M
middle-tells arc n starts ends T F M table first tells made = record {
  reaches = λ x y xl yl. (table x y xl yl).0;
  reached = λ x y xl yl. (table x y xl yl).1;
  middle = λ x l h. let m = tells x l h in (l, (λ f. differ m.0 ((first x l).1 f)), λ (e, el, eh, r). differ (m.1 e el eh) ((table x e l el).1 r));
  in_middle = λ x m. made x m.0 (not_first x m (F x) refl) (λ e el eh. no_end x m e el eh (T x e) refl);
}
  where
    not_first : (x : ℕ) → IsMiddle arc n starts ends x → (b : Bool) → F x ≡ b → F x ≡ false
    not_first x m true e = absurd (m.1 ((first x m.0).0 e))
    not_first x m false e = e

    no_end : (x : ℕ) → IsMiddle arc n starts ends x → (e : ℕ) → e < n → ends e ≡ true → (b : Bool) → T x e ≡ b → T x e ≡ false
    no_end x m e el eh true t = absurd (m.2 (e, el, eh, (table x e m.0 el).0 t))
    no_end x m e el eh false t = t
