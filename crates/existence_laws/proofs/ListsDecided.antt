-- Whether lower lists and the listing of blocks are right is decided, where the rules before are kept.
use Rattle.std.proofs.Common.{◌≡◌, ℕ, ◌+◌, ◌<◌, ◌⊎◌, Bool, true, false, inl, inr, refl, arith}
use Rattle.residue_theory.proofs.SetLaws.{choose, differ, lt_cases}
use Rattle.closed_sets.specs.Walks.{ReachesOn}
use Rattle.closed_sets.proofs.SetLaws.{least_of}
use Rattle.part_rules.specs.Laws.{AreFalling}
use Rattle.part_rules.specs.Parts.{AreNumbered}
use Rattle.closed_sets.specs.Rules.{PlacesHaveLowerLists, PlacesHaveReasons, PlacesLeadDown}
use Rattle.part_rules.specs.Tests.{AreCovers, AreFirstPlaces, ArcsAreDown, IsLeastFirst, TellsChains}
use Rattle.part_rules.proofs.Lists.{covers-lists, lists-covers, lists-least}
use Rattle.part_rules.proofs.Numbering.{down-numbers}
use Rattle.existence_laws.proofs.Deciding.{Decided, both, each_number, each_pair, equal, holds, implied, less, moved, reached_on, refuted, some_number}

-- the test of a decided fact
test_of : (A : Type 0) → Decided A → Bool
test_of A (inl a) = true
test_of A (inr none) = false

test-tells : (A : Type 0) (d : Decided A) → test_of A d ≡ true → A
unfolding test_of
test-tells A (inl a) h = a
test-tells A (inr none) h = absurd (differ refl h)

test-made : (A : Type 0) (d : Decided A) → A → test_of A d ≡ true
unfolding test_of
test-made A (inl a) is = refl
test-made A (inr none) is = absurd (none is)

-- the chains of lists, as a test
chained : (ℕ → ℕ → Bool) → ℕ → ℕ → ℕ → Bool
chained lower b l k = test_of (ReachesOn lower b l k) (reached_on lower b l k)

chains-told : (lower : ℕ → ℕ → Bool) (b : ℕ) → TellsChains lower b (chained lower b)
unfolding chained
chains-told lower b l k lb kb = (test-tells (ReachesOn lower b l k) (reached_on lower b l k), test-made (ReachesOn lower b l k) (reached_on lower b l k))

module _ (n b : ℕ) (F L : ℕ → Bool) (block part : ℕ → ℕ) (N : AreNumbered n b F L block part) where
  -- x is the first place of block k
  abbrev IsHead : ℕ → ℕ → Type 0
  IsHead k x = (x < n) × (part x ≡ k + 2) × ((y : ℕ) → y < n → part y ≡ k + 2 → x < y + 1)

  head-exists : (k : ℕ) → k < b → (x : ℕ) × IsHead k x
  head-exists k kb = go (least_of (λ x. part x ≡ k + 2) n (λ x _. equal (part x) (k + 2)))
    where
      go : ((x : ℕ) × (x < n) × (part x ≡ k + 2) × ((y : ℕ) → y < x → part y ≡ k + 2 → ⊥)) ⊎ ((x : ℕ) → x < n → part x ≡ k + 2 → ⊥) → (x : ℕ) × IsHead k x
      go (inl (x, xl, at, before)) = (x, (xl, at, λ y yl there. elim (lt_cases y x) [ inl low ↦ absurd (before y low there) | inr high ↦ omega (arith, high) ]))
      go (inr none) = let m = N.member k kb in absurd (none m.0 m.1 m.2)

  heads-exist : (head : ℕ → ℕ) × AreFirstPlaces n part b head
  heads-exist = go (choose b ℕ 0 IsHead head-exists)
    where
      go : (head : ℕ → ℕ) × ((k : ℕ) → k < b → IsHead k (head k)) → (head : ℕ → ℕ) × AreFirstPlaces n part b head
      go (head, each) = (
        head,
        record {
          heads = λ k kb. ((each k kb).0, (each k kb).1);
          least = λ k x kb xl at. (each k kb).2 x xl at;
        },
      )

  module _ (arc : ℕ → ℕ → Bool) (starts ends : ℕ → Bool) (lower : ℕ → ℕ → Bool) (falling : AreFalling lower) where
    -- an arc leads from block l to block k
    abbrev Crosses : ℕ → ℕ → Type 0
    Crosses k l = (x y : ℕ) × (x < n) × (y < n) × (part x ≡ l + 2) × (part y ≡ k + 2) × (arc x y ≡ true)

    crosses : (k l : ℕ) → Decided (Crosses k l)
    crosses k l = moved ((x : ℕ) × (x < n) × From x) (Crosses k l)
        (λ h. let m : From h.0 = h.2 in (h.0, m.0, h.1, m.1, m.2.0, m.2.1.0, m.2.1.1)) (λ (x, y, xl, yl, px, py, a). (x, xl, (y, yl, (px, (py, a)))))
        (some_number n From (λ x xl. some_number n (Along x) (λ y yl. both (part x ≡ l + 2) ((part y ≡ k + 2) × (arc x y ≡ true)) (equal (part x) (l + 2))
        (both (part y ≡ k + 2) (arc x y ≡ true) (equal (part y) (k + 2)) (holds (arc x y))))))
      where
        Along : ℕ → ℕ → Type 0
        Along x y = (part x ≡ l + 2) × ((part y ≡ k + 2) × (arc x y ≡ true))

        From : ℕ → Type 0
        From x = (y : ℕ) × (y < n) × Along x y

    abbrev Between : ℕ → Type 0
    Between l = (k m : ℕ) → k < b → m < b → lower l k ≡ true → lower l m ≡ true → ReachesOn lower b m k → ⊥

    between : (l : ℕ) → Decided (Between l)
    between l = each_pair b b (λ k m. lower l k ≡ true → lower l m ≡ true → ReachesOn lower b m k → ⊥)
        (λ k m kb mb. implied (lower l k ≡ true) (lower l m ≡ true → ReachesOn lower b m k → ⊥) (holds (lower l k))
        (λ _. implied (lower l m ≡ true) (ReachesOn lower b m k → ⊥) (holds (lower l m)) (λ _. refuted (ReachesOn lower b m k) (reached_on lower b m k))))

    under : (k l : ℕ) → l < b → lower l k ≡ true → k < b
    under k l lb h = let low : k < l = falling k l h in omega (arith, low, lb)

    abbrev Direct : Type 0
    Direct = (k l : ℕ) → k < b → l < b → lower l k ≡ true → Crosses k l

    abbrev NoneBetween : Type 0
    NoneBetween = (l : ℕ) → l < b → Between l

    covers : Decided (AreCovers arc n part b lower)
    covers = moved (Direct × NoneBetween) (AreCovers arc n part b lower)
        (λ h. record {
          direct = λ k l lb low. h.0 k l (under k l lb low) lb low;
          none_between = λ k m l lb low other. h.1 l lb k m (under k l lb low) (under m l lb other) low other;
        })
        (λ C. (λ k l kb lb low. C.direct k l lb low, λ l lb k m kb mb low other. C.none_between k m l lb low other))
        (both Direct NoneBetween (each_pair b b (λ k l. lower l k ≡ true → Crosses k l)
        (λ k l kb lb. implied (lower l k ≡ true) (Crosses k l) (holds (lower l k)) (λ _. crosses k l)))
        (each_number b Between (λ l lb. between l)))

    -- all of the list of block l stand before block k
    abbrev Ready : ℕ → ℕ → Type 0
    Ready k l = (m : ℕ) → m < b → lower l m ≡ true → m < k

    ready : (k l : ℕ) → Decided (Ready k l)
    ready k l = each_number b (λ m. lower l m ≡ true → m < k) (λ m mb. implied (lower l m ≡ true) (m < k) (holds (lower l m)) (λ _. less m k))

    least-first : (head : ℕ → ℕ) → Decided (IsLeastFirst b lower head)
    least-first head = moved ((k l : ℕ) → k < b → l < b → k < l → Ready k l → head k < head l) (IsLeastFirst b lower head)
        (λ h k l low lb all. h k l (omega (arith, low, lb)) lb low (λ m mb in_list. all m in_list))
        (λ h k l kb lb low all. h k l low lb (λ m in_list. all m (under m l lb in_list) in_list))
        (each_pair b b (λ k l. k < l → Ready k l → head k < head l) (λ k l kb lb. implied (k < l) (Ready k l → head k < head l) (less k l)
        (λ _. implied (Ready k l) (head k < head l) (ready k l) (λ _. less (head k) (head l)))))

    pub lists : PlacesLeadDown arc n starts ends F L block b lower →
        PlacesHaveReasons arc n starts ends F L block → Decided (PlacesHaveLowerLists arc n starts ends F L block b lower)
    lists down reasons = go heads-exist
      where
        numbers : ArcsAreDown arc n starts ends part b lower
        numbers = down-numbers n b F L block part N arc starts ends lower down

        go : (head : ℕ → ℕ) × AreFirstPlaces n part b head → Decided (PlacesHaveLowerLists arc n starts ends F L block b lower)
        go (head, first) = moved (AreCovers arc n part b lower × IsLeastFirst b lower head) (PlacesHaveLowerLists arc n starts ends F L block b lower)
            (λ t. covers-lists arc n starts ends F L block part b lower N falling numbers reasons t.0 head first t.1 (chained lower b) (chains-told lower b))
            (λ R. (
              lists-covers arc n starts ends F L block part b lower N falling numbers reasons R,
              lists-least arc n starts ends F L block part b lower N falling numbers reasons R head first,
            ))
            (both (AreCovers arc n part b lower) (IsLeastFirst b lower head) covers (least-first head))
