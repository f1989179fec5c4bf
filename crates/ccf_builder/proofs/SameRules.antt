-- Rules of printed parts, carried over to arcs, starts, ends and parts that are the same at all places.
use Rattle.std.proofs.Common.{◌≡◌, ℕ, zero, suc, ◌<◌, ◌⊎◌, inl, inr, Bool, true, sym, ◌∙◌, subst}
use Rattle.closed_sets.specs.Blocks.{IsBelow}
use Rattle.closed_sets.specs.Closed.{IsMiddle, NoEndReached}
use Rattle.closed_sets.specs.Rules.{InBlock, KeepsPlaceRules}
use Rattle.closed_sets.specs.Walks.{Walk, Reaches, ReachesOn, FromSome, ToSome}

pub same-walk : (arc brc : ℕ → ℕ → Bool) (n : ℕ) → ((x y : ℕ) → x < n → y < n → arc x y ≡ brc x y) → (k x y : ℕ) → y < n → Walk arc n x y k → Walk brc n x y k
same-walk arc brc n same zero x y yl e = e
same-walk arc brc n same (suc k) x y yl (z, zl, w, h) = (z, zl, same-walk arc brc n same k x z zl w, sym (same z y zl yl) ∙ h)

pub same-reaches : (arc brc : ℕ → ℕ → Bool) (n : ℕ) → ((x y : ℕ) → x < n → y < n → arc x y ≡ brc x y) → (x y : ℕ) →
    y < n → Reaches arc n x y → Reaches brc n x y
same-reaches arc brc n same x y yl (k, w) = (k, same-walk arc brc n same k x y yl w)

pub same-reaches_on : (arc brc : ℕ → ℕ → Bool) (n : ℕ) → ((x y : ℕ) → x < n → y < n → arc x y ≡ brc x y) → (x y : ℕ) →
    y < n → ReachesOn arc n x y → ReachesOn brc n x y
same-reaches_on arc brc n same x y yl (k, w) = (k, same-walk arc brc n same (suc k) x y yl w)

pub same-from : (arc brc : ℕ → ℕ → Bool) (n : ℕ) (S T : ℕ → Bool) → ((x y : ℕ) → x < n → y < n → arc x y ≡ brc x y) → ((x : ℕ) → x < n → S x ≡ T x) →
    (x : ℕ) → x < n → FromSome arc n S x → FromSome brc n T x
same-from arc brc n S T same starts x xl (s, sl, h, r) = (s, sl, sym (starts s sl) ∙ h, same-reaches arc brc n same s x xl r)

pub same-to : (arc brc : ℕ → ℕ → Bool) (n : ℕ) (E G : ℕ → Bool) → ((x y : ℕ) → x < n → y < n → arc x y ≡ brc x y) → ((x : ℕ) → x < n → E x ≡ G x) →
    (x : ℕ) → ToSome arc n E x → ToSome brc n G x
same-to arc brc n E G same ends x (e, el, h, r) = (e, el, sym (ends e el) ∙ h, same-reaches arc brc n same x e el r)

-- no end is reached from a start
pub same-clear : (arc brc : ℕ → ℕ → Bool) (n : ℕ) (S T E G : ℕ → Bool) → ((x y : ℕ) → x < n → y < n → arc x y ≡ brc x y) →
    ((x : ℕ) → x < n → S x ≡ T x) → ((x : ℕ) → x < n → E x ≡ G x) → NoEndReached arc n S E → NoEndReached brc n T G
same-clear arc brc n S T E G same starts ends clear e el h from =
    clear e el (ends e el ∙ h) (same-from brc arc n T S (λ x y xl yl. sym (same x y xl yl)) (λ x xl. sym (starts x xl)) e el from)

-- below and the listing, over the same arcs
module _ (arc brc : ℕ → ℕ → Bool) (n : ℕ) (S T E G : ℕ → Bool) (same : (x y : ℕ) → x < n → y < n → arc x y ≡ brc x y)
    (starts : (x : ℕ) → x < n → S x ≡ T x) (ends : (x : ℕ) → x < n → E x ≡ G x) where
  back : (x y : ℕ) → x < n → y < n → brc x y ≡ arc x y
  back x y xl yl = sym (same x y xl yl)

  starts_back : (x : ℕ) → x < n → T x ≡ S x
  starts_back x xl = sym (starts x xl)

  ends_back : (x : ℕ) → x < n → G x ≡ E x
  ends_back x xl = sym (ends x xl)

  middle-back : (x : ℕ) → IsMiddle brc n T G x → IsMiddle arc n S E x
  middle-back x (xl, no_start, no_end) = (
    xl,
    λ from. no_start
        (same-from arc brc n S T same starts x xl from),
    λ to. no_end (same-to arc brc n E G same ends x to),
  )

  module _ (block clock : ℕ → ℕ) (b : ℕ) (below : ℕ → ℕ → Bool) (blocks : (x : ℕ) → IsMiddle arc n S E x → block x ≡ clock x) where
    pub same-below : IsBelow arc n S E block b below → IsBelow brc n T G clock b below
    same-below is = record {
      apart = is.apart;
      tells = λ x y mx my h.
          let bx = blocks x (middle-back x mx) in
          let by = blocks y (middle-back y my) in
          same-reaches arc brc n same x y my.0 (is.tells x y (middle-back x mx) (middle-back y my)
          (subst (λ k. below k (block x) ≡ true) (sym by) (subst (λ k. below (clock y) k ≡ true) (sym bx) h)));
      made = λ x y mx my r apart.
          let bx = blocks x (middle-back x mx) in
          let by = blocks y (middle-back y my) in
          subst (λ k. below k (clock x) ≡ true) by (subst (λ k. below (block y) k ≡ true) bx
          (is.made x y (middle-back x mx) (middle-back y my) (same-reaches brc arc n back x y my.0 r) (λ e. apart (sym by ∙ e ∙ bx))));
    }

  module _ (F H L K : ℕ → Bool) (block clock : ℕ → ℕ) (b : ℕ) (lower mower : ℕ → ℕ → Bool)
      (first : (x : ℕ) → x < n → F x ≡ H x) (last : (x : ℕ) → x < n → L x ≡ K x) (blocks : (x : ℕ) → InBlock n F L x → block x ≡ clock x)
      (lists : (l k : ℕ) → l < b → k < b → lower l k ≡ mower l k) (falls : (k l : ℕ) → mower l k ≡ true → k < l) where
    in_block : (x : ℕ) → InBlock n F L x → InBlock n H K x
    in_block x is = record { below = is.below; not_first = sym (first x is.below) ∙ is.not_first; not_last = sym (last x is.below) ∙ is.not_last }

    in_back : (x : ℕ) → InBlock n H K x → InBlock n F L x
    in_back x is = record { below = is.below; not_first = first x is.below ∙ is.not_first; not_last = last x is.below ∙ is.not_last }

    at : (x : ℕ) → InBlock n H K x → block x ≡ clock x
    at x is = blocks x (in_back x is)

    module _ (rules : KeepsPlaceRules arc n S E F L block b lower) where
      leads : (x y : ℕ) → InBlock n H K x → y < n → brc x y ≡ true →
          (H y ≡ true) ⊎ (InBlock n H K y × ((clock y ≡ clock x) ⊎ ReachesOn mower b (clock x) (clock y)))
      leads x y is yl h = elim (rules.down.block_leads x y (in_back x is) yl (same x y is.below yl ∙ h)) [
        | inl in_first ↦ inl (sym (first y yl) ∙ in_first)
        | inr (other, inl equal) ↦ inr (in_block y other, inl (sym (blocks y other) ∙ equal ∙ at x is))
        | inr (other, inr chain) ↦ inr (
          in_block y other,
          inr (
              subst (λ k. ReachesOn mower b k (clock y)) (at x is) (subst (λ k. ReachesOn mower b (block x) k) (blocks y other)
              (same-reaches_on lower mower b lists (block x) (block y) (rules.number y other) chain))),
        )
      ]

      least : (x k : ℕ) → InBlock n H K x → k < clock x →
          ((y : ℕ) → InBlock n H K y → Reaches brc n x y → (clock y < k) ⊎ (clock y ≡ clock x)) →
          (z : ℕ) × (z < x) × InBlock n H K z × (clock z ≡ k)
      least x k is low all =
          let found = rules.least x k (in_back x is) (subst (λ c. k < c) (sym (at x is)) low)
          (λ y other r. elim (all y (in_block y other) (same-reaches arc brc n same x y other.below r)) [
            | inl before ↦ inl (subst (λ c. c < k) (sym (blocks y other)) before)
            | inr equal ↦ inr (blocks y other ∙ equal ∙ sym (at x is))
          ]) in
          (found.0, found.1, in_block found.0 found.2, sym (blocks found.0 found.2) ∙ found.3)

      pub same-rules : KeepsPlaceRules brc n T G H K clock b mower
      same-rules = record {
        apart = λ x xl f l. rules.apart x xl (first x xl ∙ f) (last x xl ∙ l);
        down = record {
          starts_first = λ x xl h. sym (first x xl) ∙ rules.down.starts_first x xl (starts x xl ∙ h);
          ends_last = λ x xl h. sym (last x xl) ∙ rules.down.ends_last x xl (ends x xl ∙ h);
          first_leads = λ x y xl yl f h. sym (first y yl) ∙ rules.down.first_leads x y xl yl (first x xl ∙ f) (same x y xl yl ∙ h);
          block_leads = leads;
        };
        reasons = record {
          first_from = λ x xl f. same-from arc brc n S T same starts x xl (rules.reasons.first_from x xl (first x xl ∙ f));
          last_to = λ x xl l. same-to arc brc n E G same ends x (rules.reasons.last_to x xl (last x xl ∙ l));
          block_mutual = λ x y mx my e.
              let both = rules.reasons.block_mutual x y (in_back x mx) (in_back y my) (at x mx ∙ e ∙ sym (at y my)) in
              (same-reaches arc brc n same x y my.below both.0, same-reaches arc brc n same y x mx.below both.1);
        };
        number = λ x is. subst (λ k. k < b) (at x is) (rules.number x (in_back x is));
        member = λ k kl. let found = rules.member k kl in (found.0, in_block found.0 found.1, sym (blocks found.0 found.1) ∙ found.2);
        falling = falls;
        least = least;
      }
