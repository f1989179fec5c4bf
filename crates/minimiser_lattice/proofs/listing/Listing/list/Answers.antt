use Rattle.std.proofs.Common.{◌≡◌, ◌≢◌, ◌+◌, ◌<◌, ℕ, Bool, true, get_or, refl, ap, sym, subst, ◌∙◌, arith}
use Rattle.closed_sets.specs.Tables.{Tells}
use Rattle.closed_sets.proofs.Listings.{Started}
use Rattle.closed_sets.proofs.SetLaws.{size_on-bound}
use Rattle.bit_table.specs.Bits.{bit_in}
use Rattle.bit_table.proofs.BitLaws.{item_is}
use Rattle.minimiser_lattice.specs.Components.{component_number, component_places}
use Rattle.minimiser_lattice.specs.Standings.{IsFreeToStand, IsWaiting, is_listed, standing_in}
use Rattle.minimiser_lattice.specs.Ready.{AreApartIn}
use Rattle.minimiser_lattice.specs.Listings.{HasPlaces, HasStandings, IsOpenedListing, middle_of, standing_of, reached_table}
use Rattle.minimiser_lattice.specs.declared.components.Components.{Components}
use Rattle.minimiser_lattice.specs.declared.listing.Listing.{Listing}
use Rattle.minimiser_lattice.specs.declared.ready.Ready.{Ready}
use Rattle.minimiser_lattice.specs.declared.standing.Standing.TheVariants.{Listed}
use Rattle.minimiser_lattice.proofs.ListingLaws.{list-first, list-next, list-done, places-first, places-next, standings-first, standings-next, standings-fit}
use Rattle.minimiser_lattice.proofs.listing.Listing.list.Goals as goal

-- what holds at each turn
abbrev Holds : Components → Listing → Listing → Type 0
Holds cs old v = record {
  opened : IsOpenedListing v (component_places cs);
  kept : v ≡ record old {
    standing = v.standing;
    ready = v.ready;
    rank = v.rank;
    listed = v.listed;
    blocks = v.blocks;
  };
  apart : AreApartIn cs (standing_of v) (λ _. ⊥) v.ready;
  standings : HasStandings cs.count (middle_of old) (standing_of v) (λ j. get_or v.listed.items j 0) v.blocks;
  has : HasPlaces cs.count (middle_of old) (λ k. get_or v.rank.items k 0) (λ j. get_or v.listed.items j 0) v.blocks;
  started : (arc : ℕ → ℕ → Bool) (starts ends : ℕ → Bool) →
      Tells arc (component_places cs) starts ends (reached_table (bit_in cs.strict) (component_number cs)) (λ x. middle_of old (component_number cs x)) →
      Started arc (component_places cs) starts ends v.blocks (λ x. is_listed (standing_of v (component_number cs x)))
      (λ x. get_or v.rank.items (component_number cs x) 0);
}

pub loop-place-init : goal.loop-place-init
loop-place-init c =
    let cs = c.args.components.now in
    let old = c.args.self.now in
    let O = c.requires.opened in
    record {
      opened = record {
        first = O.first;
        last = O.last;
        standing = O.standing;
        ready = c.begin.ensures.room;
        rank = O.rank;
        listed = O.listed;
      };
      kept = refl;
      apart = subst (λ v. AreApartIn cs (standing_in v) (λ _. ⊥) c.begin.new.self) c.deref.ensures.value c.begin.ensures;
      standings = standings-first (component_places cs) (component_number cs) cs.count (bit_in cs.strict) c.requires.numbering
          (middle_of old) (standing_of old) c.requires.wait (λ j. get_or old.listed.items j 0) old.blocks c.requires.blocks;
      has = places-first cs.count (middle_of old) (λ k. get_or old.rank.items k 0) (λ j. get_or old.listed.items j 0)
          old.blocks c.requires.blocks;
      started = λ arc starts ends D. list-first (component_places cs) (component_number cs) cs.count (bit_in cs.strict)
          c.requires.numbering (middle_of old) (standing_of old) c.requires.wait arc starts ends
          (λ k. get_or old.rank.items k 0) old.blocks c.requires.blocks;
    }

pub put-requires-clause-listed : goal.put-requires-clause-listed
put-requires-clause-listed c =
    let cs = c.args.components.now in
    let N = c.requires.numbering in
    let I = c.loop-place.invariant in
    let s = c.loop-place.self in
    let place = c.in-Some.place in
    omega (
      arith,
      I.opened.listed,
      N.fits,
      standings-fit (component_places cs) (component_number cs) cs.count (bit_in cs.strict) N (middle_of c.args.self.now)
          (standing_of s) (λ j. get_or s.listed.items j 0) s.blocks (component_number cs place) I.standings
          (N.below place c.in-Some.ensures.below)
          (subst (λ v. IsWaiting (standing_in v) (component_number cs place)) c.deref-in-loop-place.ensures.value c.in-Some.ensures.ready.0),
    )

pub release-requires-clause-apart : goal.release-requires-clause-apart
release-requires-clause-apart c =
    let cs = c.args.components.now in
    let u = c.take.new.self in
    let t = c.put.new.self in
    let P = c.put.ensures in
    let k = c.index-k.result.now in
    let place = c.in-Some.place in
    let is : component_number cs place ≡ k = item_is cs.number.items place k
    (omega (arith, c.requires.stored.number, c.in-Some.ensures.below)) c.index-k.ensures in
    let apart = c.in-Some.ensures.apart (standing_of t) (ap (standing_of t) is ∙ P.standing)
    (λ l ne. P.standing_others l (λ q. ne (q ∙ sym is))
    ∙ ap (λ v. standing_in v l) (sym c.deref-in-loop-place.ensures.value)) in
    subst (λ v. AreApartIn cs (standing_in v) (λ j. bit_in t.ready.waits k j ≡ true) t.ready) (sym c.deref-in-Some.ensures.value)
    (subst (λ (r : Ready). AreApartIn cs (standing_of t) (λ j. bit_in r.waits k j ≡ true) r)
    (sym (ap (λ (v : Listing). v.ready) P.kept))
    (subst (λ v. AreApartIn cs (standing_of t) (λ j. bit_in u.waits v j ≡ true) u) is apart))

pub loop-place-smaller : goal.loop-place-smaller
loop-place-smaller c =
    let cs = c.args.components.now in
    let N = c.requires.numbering in
    let I = c.loop-place.invariant in
    let s = c.loop-place.self in
    let place = c.in-Some.place in
    omega (
      arith,
      ap (λ (v : Listing). v.blocks) c.put.ensures.kept,
      standings-fit (component_places cs) (component_number cs) cs.count (bit_in cs.strict) N (middle_of c.args.self.now)
          (standing_of s) (λ j. get_or s.listed.items j 0) s.blocks (component_number cs place) I.standings
          (N.below place c.in-Some.ensures.below)
          (subst (λ v. IsWaiting (standing_in v) (component_number cs place)) c.deref-in-loop-place.ensures.value c.in-Some.ensures.ready.0),
    )

pub loop-place-preserved : goal.loop-place-preserved
loop-place-preserved c =
    let cs = c.args.components.now in
    let N = c.requires.numbering in
    let I = c.loop-place.invariant in
    let old = c.args.self.now in
    let s = c.loop-place.self in
    let t = c.put.new.self in
    let z = c.release.new.self in
    let P = c.put.ensures in
    let D = c.deref-in-loop-place.ensures in
    let k = c.index-k.result.now in
    let place = c.in-Some.place in
    let small = c.in-Some.ensures.below in
    let is : component_number cs place ≡ k = item_is cs.number.items place k
    (omega (arith, c.requires.stored.number, small)) c.index-k.ensures in
    let ready = subst (λ v. IsFreeToStand (bit_in cs.strict) (standing_in v) (component_number cs place)) D.value c.in-Some.ensures.ready in
    let least = subst (λ v. (j : ℕ) → j < place → IsFreeToStand (bit_in cs.strict) (standing_in v) (component_number cs j) → ⊥) D.value
    c.in-Some.ensures.least in
    let more_blocks : t.blocks ≡ s.blocks + 1 = ap (λ (v : Listing). v.blocks) P.kept in
    let put : standing_of t (component_number cs place) ≡ Listed = ap (standing_of t) is ∙ P.standing in
    let put_others : (l : ℕ) → l ≢ component_number cs place → standing_of t l ≡ standing_of s l =
    λ l ne. P.standing_others l (λ q. ne (q ∙ sym is)) in
    let here : get_or t.rank.items (component_number cs place) 0 ≡ s.blocks = ap (λ v. get_or t.rank.items v 0) is ∙ P.rank in
    let others : (l : ℕ) → l ≢ component_number cs place → get_or t.rank.items l 0 ≡ get_or s.rank.items l 0 =
    λ l ne. P.rank_others l (λ q. ne (q ∙ sym is)) in
    let new : get_or t.listed.items s.blocks 0 ≡ component_number cs place = P.listed ∙ sym is in
    let same : (j : ℕ) → j ≢ s.blocks → get_or t.listed.items j 0 ≡ get_or s.listed.items j 0 =
    λ j ne. P.listed_others j ne in
    let first : t.first ≡ old.first = ap (λ (v : Listing). v.first) P.kept ∙ ap (λ (v : Listing). v.first) I.kept in
    let last : t.last ≡ old.last = ap (λ (v : Listing). v.last) P.kept ∙ ap (λ (v : Listing). v.last) I.kept in
    record {
      opened = record {
        first = ap (λ (v : Listing). v.first.len) P.kept ∙ I.opened.first;
        last = ap (λ (v : Listing). v.last.len) P.kept ∙ I.opened.last;
        standing = P.lengths.0 ∙ I.opened.standing;
        ready = c.release.ensures.room;
        rank = P.lengths.1 ∙ I.opened.rank;
        listed = P.lengths.2 ∙ I.opened.listed;
      };
      kept = ap (λ f. record t { first = f; ready = z }) first ∙ ap (λ l. record t { first = old.first; last = l; ready = z }) last;
      apart = subst (λ v. AreApartIn cs (standing_in v) (λ _. ⊥) z) c.deref-in-Some.ensures.value c.release.ensures;
      standings = subst (λ v. HasStandings cs.count (middle_of old) (standing_of t) (λ j. get_or t.listed.items j 0) v)
          (sym more_blocks)
          (standings-next (component_places cs) (component_number cs) cs.count (bit_in cs.strict) N (middle_of old)
          (standing_of s) (standing_of t) (λ l. get_or s.rank.items l 0) (λ l. get_or t.rank.items l 0) place s.blocks
          small ready.0 put put_others here others (λ j. get_or s.listed.items j 0)
          (λ j. get_or t.listed.items j 0) I.standings new same);
      has = subst (λ v. HasPlaces cs.count (middle_of old) (λ l. get_or t.rank.items l 0)
          (λ j. get_or t.listed.items j 0) v) (sym more_blocks)
          (places-next (component_places cs) (component_number cs) cs.count (bit_in cs.strict) N (middle_of old)
          (standing_of s) (standing_of t) (λ l. get_or s.rank.items l 0) (λ l. get_or t.rank.items l 0) place s.blocks
          small ready.0 put put_others here others (λ j. get_or s.listed.items j 0)
          (λ j. get_or t.listed.items j 0) I.standings I.has new same);
      started = λ arc starts ends D. subst
          (λ v. Started arc (component_places cs) starts ends v
          (λ x. is_listed (standing_of t (component_number cs x))) (λ x. get_or t.rank.items (component_number cs x) 0))
          (sym more_blocks)
          (list-next (component_places cs) (component_number cs) cs.count (bit_in cs.strict) N (middle_of old)
          (standing_of s) arc starts ends D I.standings.middles (standing_of t) (λ l. get_or s.rank.items l 0)
          (λ l. get_or t.rank.items l 0) place s.blocks small ready least put put_others here others
          (I.started arc starts ends D));
    }

pub returns-clause-listing : goal.returns-clause-listing
returns-clause-listing c =
    let cs = c.args.components.now in
    let I = c.loop-place.invariant in
    let s = c.loop-place.self in
    λ arc starts ends D. list-done (component_places cs) (component_number cs) cs.count (bit_in cs.strict) c.requires.numbering
    (middle_of c.args.self.now) (standing_of s) arc starts ends D (λ l. get_or s.rank.items l 0) s.blocks
    I.standings.middles
    (subst (λ v. (j : ℕ) → j < component_places cs → IsFreeToStand (bit_in cs.strict) (standing_in v) (component_number cs j) → ⊥)
    c.deref-in-loop-place.ensures.value c.in_default.ensures.none)
    (I.started arc starts ends D)

pub returns-clause-fits : goal.returns-clause-fits
returns-clause-fits c = omega (
  arith,
  c.loop-place.invariant.standings.room,
  size_on-bound (λ k. is_listed (standing_of c.loop-place.self k)) c.args.components.now.count,
  c.requires.numbering.fits,
)
