-- The loop of searches.
use Rattle.std.proofs.Common.{◌≡◌, ◌+◌, ◌*◌, ◌<◌, ◌≤◌, ℕ, inl, inr, refl, ap, sym, subst, ◌∙◌, arith}
use Rattle.std.proofs.lemmas.Nat.{mul-le}
use Rattle.residue_theory.specs.Sets.{IsWithin, either, everything}
use Rattle.residue_theory.specs.Sums.{size_on}
use Rattle.residue_theory.proofs.CountLaws.{size-either, size-everything}
use Rattle.residue_theory.proofs.SumLaws.{size_on-within}
use Rattle.closed_sets.proofs.SetLaws.{size_on-bound}
use Rattle.bipartite_matching.specs.Matchings.{Matching}
use Rattle.row_transform.specs.Tableaus.{TableauState}
use Rattle.mixed_matrices.specs.Tableaus.{HasTableau}
use Rattle.exchange_graph.specs.Counts.{counted_on}
use Rattle.exchange_graph.specs.Results.{Found, vain_of}
use Rattle.mixed_matrices.specs.LayeredMatrices.{LayeredMatrix}
use Rattle.independent_matching.specs.Engines.{AreOpenedEntries, AreFewLooks, AreFewPivots, AreFewSteps, AreLooksOfSearch, AreLooksOfSearches, ArePivotsMade}
use Rattle.independent_matching.specs.Engines.{HasGrown, HasRun, HasStayed, Standing, layers}
use Rattle.independent_matching.specs.Sides.{is_matched, layers_of, size_of, tableau_of_pair}
use Rattle.independent_matching.proofs.MadeLaws.{more-made, none-made}

pub size-bound : (p : ℕ) (S : TableauState) (M : Matching) → HasTableau p (layers_of S M) (tableau_of_pair S M) → size_of S M ≤ S.columns
size-bound p S M tableau = omega (
  arith,
  size-either S.base (is_matched M) S.columns tableau.apart,
  size_on-within everything (either S.base (is_matched M)) S.columns (λ j l h. refl),
  size-everything S.columns,
)

pub base-bound : (S : TableauState) (M : Matching) → size_on S.base S.columns ≤ size_of S M
base-bound S M = omega arith

-- a search that succeeds
pub run-going : (n u v base k start before after : ℕ) → before + k ≤ start + u * n + u * u →
    after ≤ before + n + base + 1 → base ≤ u → v ≡ u + 1 → after + k ≤ start + v * n + v * v
run-going n u v base k start before after h s b e = subst (λ w. after + k ≤ start + w * n + w * w) (sym e) (omega (arith, h, s, b))

-- the last one
pub run-count : (n s u v start before after : ℕ) → before + (s * n + s * s) ≤ start + u * n + u * u → after ≤ before + n → v ≡ u → AreFewSteps n s v start after
run-count n s u v start before after h l e = subst (λ w. AreFewSteps n s w start after) (sym e) (omega (arith, h, l))

-- the pivots up to now are as many as the square of a size at most: they can be counted
pub pivots-bound : (n k : ℕ) → k ≤ n * n → n ≤ 8192 → k ≤ 8192 * 8192
pivots-bound n k h l = omega (arith, h, mul-le n n 8192 8192 l l)

-- and stay so when the pair grows
pub pivots-more : (u v k more after : ℕ) → k ≤ u * u → after ≤ k + more → more ≤ u + 1 → v ≡ u + 1 → after ≤ v * v
pivots-more u v k more after h a m e = subst (λ w. after ≤ w * w) (sym e) (omega (arith, h, a, m))

-- the looks up to now can be counted
pub looks-bound : (size n left k : ℕ) → k ≤ size * n + left → left ≤ n → size ≤ 8192 → n ≤ 8192 → k ≤ 8192 * 8192 + 8192
looks-bound size n left k h few s l = omega (arith, h, few, mul-le size n 8192 8192 s l)

-- and stay so when the pair grows
pub looks-more : (u v n left now k more after : ℕ) → k ≤ u * n + left → after ≡ k + more → more ≤ n → v ≡ u + 1 →
    left ≤ now → after ≤ v * n + now
looks-more u v n left now k more after h a m e grown =
    subst (λ w. after ≤ w * n + now) (sym e) (omega (arith, h, a, m, grown))

-- a search that succeeds takes few pivots and few looks
pub pivots-going : (s u v base start before after : ℕ) → before + s * s ≤ start + u * u → after ≤ before + base + 1 →
    base ≤ u → v ≡ u + 1 → after + s * s ≤ start + v * v
pivots-going s u v base start before after h a b e = subst (λ w. after + s * s ≤ start + w * w) (sym e) (omega (arith, h, a, b))

pub looks-going : (n s u v first left now start before after : ℕ) → AreFewLooks n s u first left start before →
    after ≤ before + n → v ≡ u + 1 → left ≤ now → AreFewLooks n s v first now start after
looks-going n s u v first left now start before after h a e grown =
    subst (λ w. AreFewLooks n s w first now start after) (sym e) (omega (arith, h, a, grown))

-- the looks up to now: what is counted on from them is counted on from the first ones
pub AreLooksSoFar : Found → Found → ℕ → ℕ → Type 0
AreLooksSoFar found now before after = (k : ℕ) × (after ≡ before + k) × ((more : ℕ) → counted_on now.all_looks more ≡ counted_on found.all_looks (k + more))

pub looks-none : (found : Found) (before : ℕ) → AreLooksSoFar found found before before
unfolding AreLooksSoFar
looks-none found before = (0, omega arith, λ more. omega arith)

pub looks-search : (found now next : Found) (before between after : ℕ) → AreLooksSoFar found now before between →
    AreLooksOfSearch now next between after → AreLooksSoFar found next before after
unfolding AreLooksSoFar
looks-search found now next before between after (k, e, h) (inl (same, none)) =
    (k, omega (arith, none, e), λ more. ap (λ (f : Found). counted_on f.all_looks more) same ∙ h more)
looks-search found now next before between after (k, e, h) (inr (all, some)) =
    (k + next.looks, omega (arith, some, e), λ more. omega (arith, all, h (next.looks + more)))

pub looks-last : (found now next : Found) (before between after : ℕ) → AreLooksSoFar found now before between →
    next.all_looks ≡ counted_on now.all_looks next.looks → after ≡ between + next.looks →
    AreLooksOfSearches found next before after
unfolding AreLooksSoFar
looks-last found now next before between after (k, e, h) all some =
    (k + next.looks, omega (arith, e, some), all ∙ h next.looks)

-- while a pair grows: `made` searches, one for each column that it gained and one that comes next
pub record IsGrowing (A : Type 0) (state : A → TableauState) (count : A → ℕ) (p : ℕ) (old now : Standing A)
    (made before after : ℕ) : Type 0 where
  pub same : (q : ℕ → ℕ → ℕ) → layers q (state now.tableau) now.matching ≡ layers q (state old.tableau) old.matching
  pub entries : (q : ℕ → ℕ → ℕ) → AreOpenedEntries p (state old.tableau) q → AreOpenedEntries p (state now.tableau) q
  pub steps : after + (size_of (state old.tableau) old.matching * (state old.tableau).columns
      + size_of (state old.tableau) old.matching * size_of (state old.tableau) old.matching)
      ≤ before + size_of (state now.tableau) now.matching * (state old.tableau).columns
      + size_of (state now.tableau) now.matching * size_of (state now.tableau) now.matching
  pub told : after + (old.pivots + old.looks) ≡ before + (now.pivots + now.looks)
  pub few_pivots : AreFewPivots (size_of (state old.tableau) old.matching) (size_of (state now.tableau) now.matching)
      old.pivots now.pivots
  pub pivots : ArePivotsMade (count old.tableau) (count now.tableau) old.pivots now.pivots
  pub few_looks : AreFewLooks (state old.tableau).columns (size_of (state old.tableau) old.matching)
      (size_of (state now.tableau) now.matching) (size_on (vain_of old.found) (state old.tableau).columns)
      (size_on (vain_of now.found) (state old.tableau).columns) old.looks now.looks
  pub kept : IsWithin (state old.tableau).columns (vain_of old.found) (vain_of now.found)
  pub looked : AreLooksSoFar old.found now.found old.looks now.looks
  pub searched : made + size_of (state old.tableau) old.matching ≡ size_of (state now.tableau) now.matching + 1

module _ (A : Type 0) (state : A → TableauState) (count : A → ℕ) (p : ℕ) (old : Standing A) where
  abbrev N : ℕ
  N = (state old.tableau).columns

  abbrev s : ℕ
  s = size_of (state old.tableau) old.matching

  abbrev size : Standing A → ℕ
  size e = size_of (state e.tableau) e.matching

  -- how many columns are left out
  abbrev vain : Standing A → ℕ
  vain e = size_on (vain_of e.found) N

  pub growing-start : (k : ℕ) → IsGrowing A state count p old old 1 k k
  growing-start k = record {
    same = λ q. refl;
    entries = λ q h. h;
    steps = omega arith;
    told = refl;
    few_pivots = omega arith;
    pivots = none-made (count old.tableau) old.pivots;
    few_looks = omega arith;
    kept = λ j l h. h;
    looked = looks-none old.found old.looks;
    searched = omega arith;
  }

  -- an improvement of a pair that has grown
  module _ (now next : Standing A) (made before between after : ℕ) (G : IsGrowing A state count p old now made before between)
      (same : (q : ℕ → ℕ → ℕ) → layers q (state next.tableau) next.matching ≡ layers q (state now.tableau) now.matching)
      (entries : (q : ℕ → ℕ → ℕ) → AreOpenedEntries p (state now.tableau) q → AreOpenedEntries p (state next.tableau) q) where
    abbrev base : ℕ
    base = size_on (state now.tableau).base (state now.tableau).columns

    columns : (state now.tableau).columns ≡ N
    columns = ap (λ (L : LayeredMatrix). L.columns) (G.same (state old.tableau).q)

    kept-on : IsWithin (state now.tableau).columns (vain_of now.found) (vain_of next.found) →
        IsWithin N (vain_of old.found) (vain_of next.found)
    kept-on kept j l h = kept j (subst (λ n. j < n) (sym columns) l) (G.kept j l h)

    vain-more : IsWithin (state now.tableau).columns (vain_of now.found) (vain_of next.found) → vain now ≤ vain next
    vain-more kept = size_on-within (vain_of next.found) (vain_of now.found) N
        (λ j l h. kept j (subst (λ n. j < n) (sym columns) l) h)

    pub growing-more : HasGrown A state count now next between after → IsGrowing A state count p old next (made + 1) before after
    growing-more H = record {
      same = λ q. same q ∙ G.same q;
      entries = λ q h. entries q (G.entries q h);
      steps = run-going N (size now) (size next) base (s * N + s * s) before between after G.steps
          (omega (arith, H.told, H.few_pivots, H.few_looks, columns)) (base-bound (state now.tableau) now.matching) H.size;
      told = omega (arith, H.told, G.told);
      few_pivots = pivots-going s (size now) (size next) base old.pivots now.pivots next.pivots G.few_pivots
          H.few_pivots (base-bound (state now.tableau) now.matching) H.size;
      pivots = more-made (count old.tableau) (count now.tableau) (count next.tableau) old.pivots now.pivots next.pivots
          G.pivots H.made;
      few_looks = looks-going N s (size now) (size next) (vain old) (vain now) (vain next) old.looks now.looks next.looks
          G.few_looks (omega (arith, H.few_looks, columns)) H.size (vain-more H.kept);
      kept = kept-on H.kept;
      looked = looks-search old.found now.found next.found old.looks now.looks next.looks G.looked H.searched;
      searched = omega (arith, G.searched, H.size);
    }

    pub growing-last : HasStayed A state p now next between after →
        HasRun A state count p old (record next { searches = made }) before after
    growing-last H = record {
      same = λ q. same q ∙ G.same q;
      entries = λ q h. entries q (G.entries q h);
      solved = H.solved;
      kept = kept-on H.kept;
      steps = run-count N s (size now) (size next) before between after G.steps
          (omega (arith, H.told, looks, size_on-bound (vain_of next.found) N)) stays;
      told = omega (arith, H.told, H.pivots, G.told);
      few_pivots = subst (λ w. AreFewPivots s w old.pivots next.pivots) (sym stays)
          (subst (λ k. AreFewPivots s (size now) old.pivots k) (sym H.pivots) G.few_pivots);
      made = subst (λ t. ArePivotsMade (count old.tableau) (count t) old.pivots next.pivots) (sym H.tableau)
          (subst (λ k. ArePivotsMade (count old.tableau) (count now.tableau) old.pivots k) (sym H.pivots) G.pivots);
      few_looks = subst (λ w. AreFewLooks N s w (vain old) (vain next) old.looks next.looks) (sym stays)
          (omega (arith, looks, G.few_looks));
      looked = looks-last old.found now.found next.found old.looks now.looks next.looks G.looked H.all_looks H.looked;
      searches = omega (arith, G.searched, stays);
    }
      where
        looks : next.looks + vain now ≡ now.looks + vain next
        looks = subst (λ n. next.looks + size_on (vain_of now.found) n ≡ now.looks + size_on (vain_of next.found) n) columns
            H.looks

        stays : size next ≡ size now
        stays = ap (λ t. size_of (state t) next.matching) H.tableau ∙ ap (λ m. size_of (state now.tableau) m) H.matching
