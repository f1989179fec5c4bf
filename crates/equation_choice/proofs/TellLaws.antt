-- Equations that are told by rows, as marks, and the circuit that they are.
use Rattle.std.proofs.Common.{◌≡◌, ◌≢◌, ℕ, ◌+◌, ◌-◌, ◌%◌, ◌<◌, ◌≤◌, Bool, true, false, not, eqb, ◌⊎◌, ◌↔◌, inl, inr}
use Rattle.std.proofs.Common.{Some, None, List, length, slice_index, slice_set, refl, ap, sym, subst, ◌∙◌, arith}
use Rattle.std.proofs.Math.Nat.{mod-eq_of_lt, zero-mod}
use Rattle.std.proofs.lemmas.Bool.Decides.{nat_tests}
use Rattle.std.proofs.lemmas.List.{get_or-set_other, get_or-set_same, get_or_past, length-set}
use Rattle.residue_theory.proofs.SetLaws.{differ, lt_cases}
use Rattle.residue_theory.proofs.SumLaws.{nat_cases}
use Rattle.residue_theory.specs.Ranges.{IsLeast, HasNone}
use Rattle.mixed_model.specs.Layers.{Layers}
use Rattle.bipartite_matching.specs.Matchings.{Matching}
use Rattle.exchange_graph.specs.Marks.{members_of}
use Rattle.row_transform.specs.Tableaus.{TableauState, has_entry_of}
use Rattle.row_transform.specs.declared.tableau.Which.TheVariants.{S}
use Rattle.independent_matching.specs.Sides.{layers_of, tableau_of_pair}
use Rattle.equation_choice.specs.Pairs.{place_held}
use Rattle.equation_choice.specs.Told.{AddsMarks, IsToldByColumn, IsToldByReached, IsToldByRow}

pub adds-none : (A : ℕ → Type 0) (old : List Bool) → ((x : ℕ) → A x → ⊥) → AddsMarks A old old
adds-none A old none = record {
  count = refl;
  tells = λ x. (λ h. inl h, λ h. elim h [ inl old ↦ old | inr new ↦ absurd (none x new) ]);
}

pub adds-same : (A B : ℕ → Type 0) (old now : List Bool) → ((x : ℕ) → A x → B x) → ((x : ℕ) → B x → A x) → AddsMarks A old now → AddsMarks B old now
adds-same A B old now there back adds = record {
  count = adds.count;
  tells = λ x. (
    λ h. elim ((adds.tells x).0 h) [ inl was ↦ inl was | inr new ↦ inr (there x new) ],
    λ h. elim h [ inl was ↦ (adds.tells x).1 (inl was) | inr new ↦ (adds.tells x).1 (inr (back x new)) ],
  );
}

pub adds-both : (A B : ℕ → Type 0) (old mid now : List Bool) → AddsMarks A old mid → AddsMarks B mid now → AddsMarks (λ x. A x ⊎ B x) old now
adds-both A B old mid now first second = record {
  count = second.count ∙ first.count;
  tells = λ x. (
    λ h. elim ((second.tells x).0 h) [
      | inl was ↦ elim ((first.tells x).0 was) [ inl old ↦ inl old | inr a ↦ inr (inl a) ]
      | inr b ↦ inr (inr b)
    ],
    λ h. elim h [
      | inl old ↦ (second.tells x).1 (inl ((first.tells x).1 (inl old)))
      | inr new ↦ elim new [
        | inl a ↦ (second.tells x).1 (inl ((first.tells x).1 (inr a)))
        | inr b ↦ (second.tells x).1 (inr b)
      ]
    ],
  );
}

pub adds-one : (old : List Bool) (e : ℕ) → e < length old → AddsMarks (λ x. x ≡ e) old (slice_set old e true)
adds-one old e l = record {
  count = length-set old e true;
  tells = λ x. (
    λ h. elim (nat_cases x e) [
      | inl q ↦ inr q
      | inr ne ↦ inl (sym (get_or-set_other old e x true false ne) ∙ h)
    ],
    λ h. elim (nat_cases x e) [
      | inl q ↦ subst (λ y. members_of (slice_set old e true) y ≡ true) (sym q) (get_or-set_same old e true false l)
      | inr ne ↦ elim h [
        | inl was ↦ get_or-set_other old e x true false ne ∙ was
        | inr q ↦ absurd (ne q)
      ]
    ],
  );
}

-- ---- the entries of S in a row, up to one of them
module _ (p : ℕ) (l : Layers) (T : TableauState) (symbols : List Bool) (row : ℕ) where
  -- told by an entry before the given place
  abbrev pub ToldBefore : ℕ → ℕ → Type 0
  ToldBefore at x = (k : ℕ) × (k < at) × (k < T.rows) × (T.s row k % p ≢ 0) × (slice_index l.q_origins k ≡ x) × (members_of symbols x ≡ false)

  pub told-start : (old : List Bool) → AddsMarks (ToldBefore 0) old old
  told-start old = adds-none (ToldBefore 0) old (λ x h. absurd (omega (arith, h.1)))

  nonzero_tells : (n : ℕ) → not (eqb n 0) ≡ true → n ≢ 0
  nonzero_tells n h = grind (arith, nat_tests)

  zero_tells : (n : ℕ) → not (eqb n 0) ≡ false → n ≡ 0
  zero_tells n h = grind (arith, nat_tests)

  module _ (at k : ℕ) (least : IsLeast (has_entry_of S T row) at T.rows k) (v : ℕ) (same : v ≡ T.s row k) (low : v < p)
      (equation : ℕ) (is : slice_index l.q_origins k ≡ equation) (old mid : List Bool) (before : AddsMarks (ToldBefore at) old mid) where
    entry : T.s row k % p ≢ 0
    entry z = nonzero_tells (T.s row k) least.holds (sym (mod-eq_of_lt (subst (λ n. n < p) same low)) ∙ z)

    none-between : (j : ℕ) → at ≤ j → j < k → T.s row j % p ≢ 0 → ⊥
    none-between j g less ne = ne (ap (λ n. n % p) (zero_tells (T.s row j) (least.none_before j g less)) ∙ zero-mod p)

    later : (x : ℕ) → ToldBefore at x → ToldBefore (k + 1) x
    later x h = (h.0, omega (arith, h.1, least.from_on), h.2, h.3, h.4, h.5)

    cases : (x : ℕ) → ToldBefore (k + 1) x → ToldBefore at x ⊎ ((x ≡ equation) × (members_of symbols x ≡ false))
    cases x (j, jl, jr, ne, o, off) = elim (nat_cases j k) [
      | inl q ↦ inr (sym o ∙ ap (slice_index l.q_origins) q ∙ is, off)
      | inr other ↦ elim (lt_cases j at) [
        | inl early ↦ inl (j, early, jr, ne, o, off)
        | inr late ↦ absurd (none-between j late (omega (arith, jl, other)) ne)
      ]
    ]

    -- it has no symbols, and is marked
    pub told-marked : members_of symbols equation ≡ false → equation < length mid → AddsMarks (ToldBefore (k + 1)) old (slice_set mid equation true)
    told-marked off el = adds-same (λ x. ToldBefore at x ⊎ (x ≡ equation)) (ToldBefore (k + 1)) old (slice_set mid equation true)
        (λ x h. elim h [
          | inl was ↦ later x was
          | inr q ↦ (k, omega arith, least.before_end, entry, is ∙ sym q, subst (λ y. members_of symbols y ≡ false) (sym q) off)
        ])
        (λ x h. elim (cases x h) [ inl was ↦ inl was | inr (q, _) ↦ inr q ])
        (adds-both (ToldBefore at) (λ x. x ≡ equation) old mid (slice_set mid equation true) before (adds-one mid equation el))

    -- or it has
    pub told-passed : members_of symbols equation ≡ true → AddsMarks (ToldBefore (k + 1)) old mid
    told-passed on = adds-same (ToldBefore at) (ToldBefore (k + 1)) old mid later
        (λ x h. elim (cases x h) [
          | inl was ↦ was
          | inr (q, off) ↦ absurd (differ (subst (λ y. members_of symbols y ≡ false) q off) on)
        ]) before

  pub told-all : row < T.rows → (at : ℕ) → HasNone (has_entry_of S T row) at T.rows → (old now : List Bool) → AddsMarks (ToldBefore at) old now →
      AddsMarks (IsToldByRow p l T symbols row) old now
  told-all rl at none old now adds = adds-same (ToldBefore at) (IsToldByRow p l T symbols row) old now
      (λ x (k, kl, kr, ne, o, off). inl (rl, k, kr, ne, o, off))
      (λ x h. elim h [
        | inl (_, k, kr, ne, o, off) ↦ elim (lt_cases k at) [
          | inl early ↦ (k, early, kr, ne, o, off)
          | inr late ↦ absurd (ne (ap (λ n. n % p) (zero_tells (T.s row k) (none k late kr)) ∙ zero-mod p))
        ]
        | inr (g, _) ↦ absurd (omega (arith, rl, g))
      ]) adds

  -- the equation of a T row
  pub told-t : T.rows ≤ row → (equation : ℕ) → slice_index l.t_origins (row - T.rows) ≡ equation → (old : List Bool) → equation < length old →
      AddsMarks (IsToldByRow p l T symbols row) old (slice_set old equation true)
  told-t g equation is old el = adds-same (λ x. x ≡ equation) (IsToldByRow p l T symbols row) old (slice_set old equation true)
      (λ x q. inr (g, is ∙ sym q))
      (λ x h. elim h [
        | inl at ↦ absurd (omega (arith, at.0, g))
        | inr (_, o) ↦ sym o ∙ is
      ]) (adds-one old equation el)

-- ---- column by column
module _ (p : ℕ) (l : Layers) (T : TableauState) (M : Matching) (symbols : List Bool) (X : ℕ → Bool) where
  pub reached-start : (old : List Bool) → AddsMarks (IsToldByReached p l T M symbols X 0) old old
  reached-start old = adds-none (IsToldByReached p l T M symbols X 0) old (λ x h. absurd (omega (arith, h.1)))

  pub reached-more : (n : ℕ) (old mid now : List Bool) → AddsMarks (IsToldByReached p l T M symbols X n) old mid →
      AddsMarks (IsToldByColumn p l T M symbols X n) mid now → AddsMarks (IsToldByReached p l T M symbols X (n + 1)) old now
  reached-more n old mid now first second = adds-same (λ x. IsToldByReached p l T M symbols X n x ⊎ IsToldByColumn p l T M symbols X n x)
      (IsToldByReached p l T M symbols X (n + 1)) old now
      (λ x h. elim h [
        | inl at ↦ (at.0, omega (arith, at.1), at.2)
        | inr at ↦ (n, omega arith, at)
      ])
      (λ x h. elim (nat_cases h.0 n) [
        | inl q ↦ inr (subst (λ k. IsToldByColumn p l T M symbols X k x) q h.2)
        | inr ne ↦ inl (h.0, omega (arith, h.1, ne), h.2)
      ])
      (adds-both (IsToldByReached p l T M symbols X n) (IsToldByColumn p l T M symbols X n) old mid now first second)

  -- a column that is not reached, or has no row, tells none
  pub column-not_reached : (y : ℕ) → X y ≡ false → (old : List Bool) → AddsMarks (IsToldByColumn p l T M symbols X y) old old
  column-not_reached y off old = adds-none (IsToldByColumn p l T M symbols X y) old (λ x h. differ off h.1)

  pub column-free : (y : ℕ) → place_held (layers_of T M) (tableau_of_pair T M) y ≡ None → (old : List Bool) →
      AddsMarks (IsToldByColumn p l T M symbols X y) old old
  column-free y free old = adds-none (IsToldByColumn p l T M symbols X y) old (λ x h. no-row h.0 (sym free ∙ h.2))
    where
      no-row : (r : ℕ) → None ≡ Some r → ⊥
      no-row r e = cc

  pub column-row : (y row : ℕ) → X y ≡ true → place_held (layers_of T M) (tableau_of_pair T M) y ≡ Some row → (old now : List Bool) →
      AddsMarks (IsToldByRow p l T symbols row) old now → AddsMarks (IsToldByColumn p l T M symbols X y) old now
  column-row y row on held old now adds = adds-same (IsToldByRow p l T symbols row) (IsToldByColumn p l T M symbols X y) old now
      (λ x at. (row, on, held, at))
      (λ x h. subst (λ k. IsToldByRow p l T symbols k x) (same h.0 (sym h.2 ∙ held)) h.3) adds
    where
      same : (r : ℕ) → Some r ≡ Some row → r ≡ row
      same r e = cc

-- ---- one number alone is marked
pub only-marked : (e : ℕ) (marks : List Bool) → e < length marks → ((y : ℕ) → y < length marks → members_of marks y ≡ eqb y e) →
    (x : ℕ) → (members_of marks x ≡ true) ↔ (x ≡ e)
only-marked e marks el told x = (there, back)
  where
    eqb-tells : (a b : ℕ) → eqb a b ≡ true → a ≡ b
    eqb-tells a b h = grind (arith, nat_tests)

    eqb-holds : (a b : ℕ) → a ≡ b → eqb a b ≡ true
    eqb-holds a b h = grind (arith, nat_tests)

    there : members_of marks x ≡ true → x ≡ e
    there h = elim (lt_cases x (length marks)) [
      | inl l ↦ eqb-tells x e (sym (told x l) ∙ h)
      | inr g ↦ absurd (differ (get_or_past marks x false g) h)
    ]

    back : x ≡ e → members_of marks x ≡ true
    back q = told x (subst (λ n. n < length marks) (sym q) el) ∙ eqb-holds x e q

-- the marks of a try, from its three parts
pub try-marked : (A B C : ℕ → Type 0) (first mid last : List Bool) → ((x : ℕ) → (members_of first x ≡ true) ↔ A x) → AddsMarks B first mid →
    AddsMarks C mid last → (x : ℕ) → (members_of last x ≡ true) ↔ (A x ⊎ (B x ⊎ C x))
try-marked A B C first mid last only one more x = (
  λ h. elim ((more.tells x).0 h) [
    | inl was ↦ elim ((one.tells x).0 was) [ inl old ↦ inl ((only x).0 old) | inr b ↦ inr (inl b) ]
    | inr c ↦ inr (inr c)
  ],
  λ h. elim h [
    | inl a ↦ (more.tells x).1 (inl ((one.tells x).1 (inl ((only x).1 a))))
    | inr at ↦ elim at [
      | inl b ↦ (more.tells x).1 (inl ((one.tells x).1 (inr b)))
      | inr c ↦ (more.tells x).1 (inr c)
    ]
  ],
)
