-- For each number the first list that holds it: a table that is filled from the last list on.
use Rattle.std.proofs.Common.{◌≡◌, ℕ, ◌+◌, ◌<◌, ◌≤◌, ◌⊎◌, Bool, true, false, cond, inl, inr, List, length, Option, Some, None, refl, ap, sym, subst, ◌∙◌, arith}
use Rattle.std.proofs.Common.{◌≢◌, slice_index, slice_set}
use Rattle.std.proofs.lemmas.List.{get_or-set_other, get_or-set_same, length-set}
use Rattle.residue_theory.proofs.SetLaws.{differ}
use Rattle.sparse_t.proofs.ListLaws.{has-at, has-member}
use Rattle.residue_theory.proofs.SumLaws.{nat_cases}
use Rattle.residue_theory.specs.Sets.{has}
use Rattle.equation_choice.proofs.EquationPlaces.{no-place}
use Rattle.equation_choice.specs.ConflictLists.{TellsFirst, set_at}
use Rattle.equation_choice.specs.Places.{place_at}

-- the same of the lists from `from` on
pub record TellsFrom (sets : List (List ℕ)) (from : ℕ) (first : List (Option ℕ)) : Type 0 where
  pub above : (e k : ℕ) → place_at first e ≡ Some k → from ≤ k
  pub below : (e k : ℕ) → place_at first e ≡ Some k → k < length sets
  pub holds : (e k : ℕ) → place_at first e ≡ Some k → has (set_at sets k) e ≡ true
  pub least : (e k : ℕ) → place_at first e ≡ Some k → (j : ℕ) → from ≤ j → j < k → has (set_at sets j) e ≡ false
  pub none : (e : ℕ) → place_at first e ≡ None → (j : ℕ) → from ≤ j → j < length sets → has (set_at sets j) e ≡ false

number : Option ℕ → ℕ
number (Some k) = k
number None = 0

-- of no list
pub tells-none : (sets : List (List ℕ)) (from : ℕ) (first : List (Option ℕ)) → length sets ≤ from → ((e : ℕ) → place_at first e ≡ None) →
    TellsFrom sets from first
tells-none sets from first end empty = record {
  above = λ e k h. absurd (no-place k (place_at first e) (empty e) h);
  below = λ e k h. absurd (no-place k (place_at first e) (empty e) h);
  holds = λ e k h. absurd (no-place k (place_at first e) (empty e) h);
  least = λ e k h. absurd (no-place k (place_at first e) (empty e) h);
  none = λ e h j low high. absurd (omega (arith, end, low, high));
}

-- of a list more
module _ (sets : List (List ℕ)) (k : ℕ) (kl : k < length sets) (old now : List (Option ℕ)) (T : TellsFrom sets (k + 1) old)
    (put : (e : ℕ) → place_at now e ≡ cond (has (set_at sets k) e) (Some k) (place_at old e)) where
  held : (e : ℕ) → has (set_at sets k) e ≡ true → place_at now e ≡ Some k
  held e h = put e ∙ ap (λ b. cond b (Some k) (place_at old e)) h

  kept : (e : ℕ) → has (set_at sets k) e ≡ false → place_at now e ≡ place_at old e
  kept e h = put e ∙ ap (λ b. cond b (Some k) (place_at old e)) h

  either : (e : ℕ) → (has (set_at sets k) e ≡ true) ⊎ (has (set_at sets k) e ≡ false)
  either e = by (has (set_at sets k) e) refl
    where
      by : (b : Bool) → has (set_at sets k) e ≡ b → (has (set_at sets k) e ≡ true) ⊎ (has (set_at sets k) e ≡ false)
      by true h = inl h
      by false h = inr h

  same : (e m : ℕ) → has (set_at sets k) e ≡ true → place_at now e ≡ Some m → m ≡ k
  unfolding number
  same e m h is = ap number (sym is ∙ held e h)

  before : (e m : ℕ) → has (set_at sets k) e ≡ false → place_at now e ≡ Some m → place_at old e ≡ Some m
  before e m h is = sym (kept e h) ∙ is

  pub tells-more : TellsFrom sets k now
  tells-more = record {
    above = λ e m is. elim (either e) [
      | inl h ↦ omega (arith, same e m h is)
      | inr h ↦ omega (arith, T.above e m (before e m h is))
    ];
    below = λ e m is. elim (either e) [
      | inl h ↦ omega (arith, same e m h is, kl)
      | inr h ↦ T.below e m (before e m h is)
    ];
    holds = λ e m is. elim (either e) [
      | inl h ↦ subst (λ n. has (set_at sets n) e ≡ true) (sym (same e m h is)) h
      | inr h ↦ T.holds e m (before e m h is)
    ];
    least = λ e m is j low less. elim (either e) [
      | inl h ↦ absurd (omega (arith, same e m h is, low, less))
      | inr h ↦ elim (nat_cases j k) [
        | inl q ↦ subst (λ n. has (set_at sets n) e ≡ false) (sym q) h
        | inr ne ↦ T.least e m (before e m h is) j (omega (arith, low, ne)) less
      ]
    ];
    none = λ e is j low high. elim (either e) [
      | inl h ↦ absurd (no-place k (place_at now e) is (held e h))
      | inr h ↦ elim (nat_cases j k) [
        | inl q ↦ subst (λ n. has (set_at sets n) e ≡ false) (sym q) h
        | inr ne ↦ T.none e (sym (kept e h) ∙ is) j (omega (arith, low, ne)) high
      ]
    ];
  }

-- and of all
pub tells-all : (sets : List (List ℕ)) (first : List (Option ℕ)) → TellsFrom sets 0 first → TellsFirst sets first
tells-all sets first T = record {
  some = λ e k h. record {
    below = T.below e k h;
    holds = T.holds e k h;
    first = λ j less. T.least e k h j (omega arith) less;
  };
  none = λ e h k kl. T.none e h k (omega arith) kl;
}

-- of a list the first n numbers have k now
pub record HasPut (set : List ℕ) (k n : ℕ) (old now : List (Option ℕ)) : Type 0 where
  pub count : length now ≡ length old
  pub put : (i : ℕ) → i < n → place_at now (slice_index set i) ≡ Some k
  pub kept : (e : ℕ) → ((i : ℕ) → i < n → slice_index set i ≢ e) → place_at now e ≡ place_at old e

pub put-none : (set : List ℕ) (k : ℕ) (old : List (Option ℕ)) → HasPut set k 0 old old
put-none set k old = record { count = refl; put = λ i less. absurd (omega (arith, less)); kept = λ e _. refl }

pub put-one : (set : List ℕ) (k n : ℕ) (old now : List (Option ℕ)) (x : ℕ) → slice_index set n ≡ x → x < length now → HasPut set k n old now →
    HasPut set k (n + 1) old (slice_set now x (Some k))
put-one set k n old now x at low P = record {
  count = length-set now x (Some k) ∙ P.count;
  put = λ i less. elim (nat_cases (slice_index set i) x) [
    | inl q ↦ subst (λ y. place_at (slice_set now x (Some k)) y ≡ Some k) (sym q) (get_or-set_same now x (Some k) None low)
    | inr ne ↦ get_or-set_other now x (slice_index set i) (Some k) None ne ∙ P.put i (earlier i less ne)
  ];
  kept = λ e out. get_or-set_other now x e (Some k) None (λ q. out n (omega arith) (at ∙ sym q)) ∙ P.kept e (λ i less. out i (omega (arith, less)));
}
  where
    earlier : (i : ℕ) → i < n + 1 → slice_index set i ≢ x → i < n
    earlier i less ne = elim (nat_cases i n) [
      | inl q ↦ absurd (ne (ap (slice_index set) q ∙ at))
      | inr other ↦ omega (arith, less, other)
    ]

pub put-all : (set : List ℕ) (k n : ℕ) (old now : List (Option ℕ)) → n ≡ length set → HasPut set k n old now → (e : ℕ) →
    place_at now e ≡ cond (has set e) (Some k) (place_at old e)
put-all set k n old now end P e = by (has set e) refl
  where
    by : (b : Bool) → has set e ≡ b → place_at now e ≡ cond b (Some k) (place_at old e)
    by true h = let (i, low, is) = has-member set e h in
        subst (λ x. place_at now x ≡ Some k) is (P.put i (omega (arith, low, end)))
    by false h = P.kept e (λ i less is. differ h (has-at set i e (omega (arith, less, end)) is))
