-- The laws of closed sets.
use Rattle.std.specs.Prelude.{ℕ, ◌-◌, ◌<◌, ◌≡◌, ◌⊎◌, ◌↔◌, Bool, true}
use Rattle.residue_theory.specs.Sets.{IsWithin, nothing, only}
use Rattle.closed_sets.specs.Walks.{Reaches, ReachesOn, FromSome, ToSome, Mutual}
use Rattle.closed_sets.specs.Closed.{IsClosed, NoEndReached, IsReachedSet, IsMiddle}
use Rattle.closed_sets.specs.Blocks.{IsListing, IsIdeal, IsBelow, AreParts}
use Rattle.closed_sets.specs.Orders.{IsOrder, IsCover}
use Rattle.closed_sets.specs.Rules.{KeepsPlaceRules}
use Rattle.closed_sets.specs.Examples.{example_arc, example_pair, example_block}

abbrev pub EveryClosedSetHolds : (ℕ → ℕ → Bool) → ℕ → (ℕ → Bool) → (ℕ → Bool) → ℕ → Type 0
EveryClosedSetHolds arc n starts ends y = (X : ℕ → Bool) → IsClosed arc n starts ends X → X y ≡ true

abbrev pub NoClosedSetHolds : (ℕ → ℕ → Bool) → ℕ → (ℕ → Bool) → (ℕ → Bool) → ℕ → Type 0
NoClosedSetHolds arc n starts ends y = (X : ℕ → Bool) → IsClosed arc n starts ends X → X y ≡ true → ⊥

-- each closed set that holds y holds x
abbrev pub HoldsWith : (ℕ → ℕ → Bool) → ℕ → (ℕ → Bool) → (ℕ → Bool) → ℕ → ℕ → Type 0
HoldsWith arc n starts ends y x = (X : ℕ → Bool) → IsClosed arc n starts ends X → X y ≡ true → X x ≡ true

-- each closed set holds both or neither
abbrev pub HoldsTogether : (ℕ → ℕ → Bool) → ℕ → (ℕ → Bool) → (ℕ → Bool) → ℕ → ℕ → Type 0
HoldsTogether arc n starts ends x y = (X : ℕ → Bool) → IsClosed arc n starts ends X → X x ≡ X y

-- what is reached from a set is a set
abbrev pub ReachedPlacesAreASet : Type 0
ReachedPlacesAreASet = (arc : ℕ → ℕ → Bool) (n : ℕ) (S : ℕ → Bool) → (X : ℕ → Bool) × IsReachedSet arc n S X

-- where no end is reached, what is reached from the starts is the least closed set
abbrev pub ReachedSetIsLeast : Type 0
ReachedSetIsLeast = (arc : ℕ → ℕ → Bool) (n : ℕ) (starts ends : ℕ → Bool) → NoEndReached arc n starts ends →
    (X : ℕ → Bool) → IsReachedSet arc n starts X →
    IsClosed arc n starts ends X × ((Y : ℕ → Bool) → IsClosed arc n starts ends Y → IsWithin n X Y)

-- what every closed set holds, what none holds, what is held with a place, and what is held together
abbrev pub ClosedSetsAreTold : Type 0
ClosedSetsAreTold = (arc : ℕ → ℕ → Bool) (n : ℕ) (starts ends : ℕ → Bool) → NoEndReached arc n starts ends →
    ((y : ℕ) → y < n → (EveryClosedSetHolds arc n starts ends y ↔ FromSome arc n starts y))
    × ((y : ℕ) → y < n → (NoClosedSetHolds arc n starts ends y ↔ ToSome arc n ends y))
    × ((y x : ℕ) → y < n → x < n → (ToSome arc n ends y → ⊥) →
    (HoldsWith arc n starts ends y x ↔ (Reaches arc n y x ⊎ FromSome arc n starts x)))
    × ((x y : ℕ) → IsMiddle arc n starts ends x → IsMiddle arc n starts ends y →
    (HoldsTogether arc n starts ends x y ↔ Mutual arc n x y))

abbrev pub ClosedSetsAreIdeals : Type 0
ClosedSetsAreIdeals = (arc : ℕ → ℕ → Bool) (n : ℕ) (starts ends : ℕ → Bool) → NoEndReached arc n starts ends →
    (block : ℕ → ℕ) (b : ℕ) → IsListing arc n starts ends block b →
    (X : ℕ → Bool) → (IsClosed arc n starts ends X ↔ ((B : ℕ → Bool) × IsIdeal arc n starts ends block X B))

abbrev pub ThereIsOneListing : Type 0
ThereIsOneListing = (arc : ℕ → ℕ → Bool) (n : ℕ) (starts ends : ℕ → Bool) →
    ((b : ℕ) × (block : ℕ → ℕ) × IsListing arc n starts ends block b)
    × ((f g : ℕ → ℕ) (b c : ℕ) → IsListing arc n starts ends f b → IsListing arc n starts ends g c → (b ≡ c)
    × ((x : ℕ) → IsMiddle arc n starts ends x → f x ≡ g x))

abbrev pub BelowIsAnOrder : Type 0
BelowIsAnOrder = (arc : ℕ → ℕ → Bool) (n : ℕ) (starts ends : ℕ → Bool) (block : ℕ → ℕ) (b : ℕ) (below : ℕ → ℕ → Bool) →
    IsListing arc n starts ends block b → IsBelow arc n starts ends block b below → IsOrder below b

abbrev pub CoversGenerate : Type 0
CoversGenerate = (below : ℕ → ℕ → Bool) (b : ℕ) (covers : ℕ → ℕ → Bool) → IsOrder below b → IsCover below b covers →
    (k l : ℕ) → k < b → l < b → (below k l ≡ true ↔ ReachesOn covers b l k)

-- parts that keep the rules are those of the arcs
abbrev pub RulesMakeParts : Type 0
RulesMakeParts = (arc : ℕ → ℕ → Bool) (n : ℕ) (starts ends F L : ℕ → Bool) (block : ℕ → ℕ) (b : ℕ)
    (lower : ℕ → ℕ → Bool) →
    KeepsPlaceRules arc n starts ends F L block b lower → NoEndReached arc n starts ends
    × AreParts arc n starts ends F L block b

-- the parts of the arcs, with the covers of their order, keep the rules
abbrev pub PartsKeepRules : Type 0
PartsKeepRules = (arc : ℕ → ℕ → Bool) (n : ℕ) (starts ends F L : ℕ → Bool) (block : ℕ → ℕ) (b : ℕ)
    (below covers : ℕ → ℕ → Bool) →
    NoEndReached arc n starts ends → AreParts arc n starts ends F L block b → IsBelow arc n starts ends block b below →
    IsCover below b covers → ((k l : ℕ) → covers l k ≡ true → (k < b) × (l < b)) →
    KeepsPlaceRules arc n starts ends F L block b covers

-- of the three places, 0 and 1 are a closed set and 2 is none
abbrev pub ExampleOfClosed : Type 0
ExampleOfClosed = IsClosed example_arc 3 nothing nothing example_pair
    × (IsClosed example_arc 3 nothing nothing (only 2) → ⊥)

-- 2 reaches 0, and 0 does not reach 2
abbrev pub ExampleOfReaching : Type 0
ExampleOfReaching = Reaches example_arc 3 2 0 × (Reaches example_arc 3 0 2 → ⊥)

-- the two blocks are listed lowest first, and not the other way round
abbrev pub ExampleOfListing : Type 0
ExampleOfListing = IsListing example_arc 3 nothing nothing example_block 2
    × (IsListing example_arc 3 nothing nothing (λ x. 1 - example_block x) 2 → ⊥)
