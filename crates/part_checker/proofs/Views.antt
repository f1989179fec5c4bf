-- What is tested of slices, said of the lists that they show.
use Rattle.std.proofs.Common.{◌≡◌, ℕ, ◌↔◌, Bool, List, length, slice_index, subst}
use Rattle.part_rules.specs.Listed.{arc_in, inner, marked}
use Rattle.part_rules.specs.Tests.{ArcsAreDown, AreCovers, IsLeastFirst}
use Rattle.part_search.specs.Searched.{IsSearched}

pub down-as : (arcs list : List (ℕ × ℕ)) (starts free ends stops : List Bool) (n : ℕ) (part : ℕ → ℕ) (b m : ℕ)
    (lower : ℕ → ℕ → Bool) → arcs ≡ list → starts ≡ free → ends ≡ stops → b ≡ m →
    ArcsAreDown (arc_in arcs) n (marked starts) (marked ends) part b lower ↔ ArcsAreDown (arc_in list) n (marked free) (marked stops) part m lower
down-as arcs list starts free ends stops n part b m lower same first second count =
    subst (λ l. ArcsAreDown (arc_in arcs) n (marked starts) (marked ends) part b lower ↔ ArcsAreDown (arc_in l) n
    (marked free) (marked stops) part m lower) same
    (subst (λ f. ArcsAreDown (arc_in arcs) n (marked starts) (marked ends) part b lower ↔ ArcsAreDown
    (arc_in arcs) n (marked f) (marked stops) part m lower) first
    (subst (λ s. ArcsAreDown (arc_in arcs) n (marked starts) (marked ends) part b lower ↔ ArcsAreDown
    (arc_in arcs) n (marked starts) (marked s) part m lower) second
    (subst (λ k. ArcsAreDown (arc_in arcs) n (marked starts) (marked ends) part b lower ↔ ArcsAreDown
    (arc_in arcs) n (marked starts) (marked ends) part k lower) count (λ h. h, λ h. h))))

pub searched-as : (arcs list : List (ℕ × ℕ)) (starts free ends stops : List Bool) (n : ℕ) (part : ℕ → ℕ)
    (heads places : List ℕ) (b : ℕ) (answer : Bool) → arcs ≡ list → starts ≡ free → ends ≡ stops → heads ≡ places →
    length heads ≡ b →
    IsSearched (inner (arc_in arcs) part) n (marked starts) (marked ends) part (length heads)
    (slice_index heads) answer → IsSearched (inner (arc_in list) part) n (marked free) (marked stops) part b
    (slice_index places) answer
searched-as arcs list starts free ends stops n part heads places b answer same first second seen count S =
    subst (λ l. IsSearched (inner (arc_in l) part) n (marked free) (marked stops) part b (slice_index places) answer) same
    (subst (λ f. IsSearched (inner (arc_in arcs) part) n (marked f) (marked stops) part b (slice_index places) answer) first
    (subst (λ s. IsSearched (inner (arc_in arcs) part) n (marked starts) (marked s) part b (slice_index places) answer) second
    (subst (λ h. IsSearched (inner (arc_in arcs) part) n (marked starts) (marked ends) part b (slice_index h) answer) seen
    (subst (λ k. IsSearched (inner (arc_in arcs) part) n (marked starts) (marked ends) part k (slice_index heads) answer) count S))))

pub first-as : (lower items : List (ℕ × ℕ)) (heads places : List ℕ) (b : ℕ) → lower ≡ items → heads ≡ places → length heads ≡ b →
    IsLeastFirst (length heads) (arc_in lower) (slice_index heads) ↔ IsLeastFirst b (arc_in items) (slice_index places)
first-as lower items heads places b same seen count =
    subst (λ l. IsLeastFirst (length heads) (arc_in lower) (slice_index heads) ↔ IsLeastFirst b (arc_in l) (slice_index places)) same
    (subst (λ h. IsLeastFirst (length heads) (arc_in lower) (slice_index heads) ↔ IsLeastFirst b (arc_in lower) (slice_index h)) seen
    (subst (λ k. IsLeastFirst (length heads) (arc_in lower) (slice_index heads) ↔ IsLeastFirst k (arc_in lower) (slice_index heads)) count (λ h. h, λ h. h)))

pub covers-as : (arcs list : List (ℕ × ℕ)) (n : ℕ) (part : ℕ → ℕ) (b m : ℕ) (lower items : List (ℕ × ℕ)) → arcs ≡ list → b ≡ m → lower ≡ items →
    AreCovers (arc_in arcs) n part b (arc_in lower) ↔ AreCovers (arc_in list) n part m (arc_in items)
covers-as arcs list n part b m lower items same count seen =
    subst (λ l. AreCovers (arc_in arcs) n part b (arc_in lower) ↔ AreCovers (arc_in l) n part m (arc_in items)) same
    (subst (λ i. AreCovers (arc_in arcs) n part b (arc_in lower) ↔ AreCovers (arc_in arcs) n part m (arc_in i)) seen
    (subst (λ k. AreCovers (arc_in arcs) n part b (arc_in lower) ↔ AreCovers (arc_in arcs) n part k (arc_in lower)) count (λ h. h, λ h. h)))
