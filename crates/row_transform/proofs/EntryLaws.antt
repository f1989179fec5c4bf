-- The rows that are listed for the columns of a matrix: while they are listed, and after a pivot.
use Rattle.std.proofs.Common.{◌≡◌, ℕ, ◌+◌, ◌%◌, ◌<◌, ◌≤◌, ◌≢◌, ◌||◌, Bool, true, false, eqb, not, ◌⊎◌, inl, inr, refl, sym}
use Rattle.std.proofs.Common.{subst, ap, ◌∙◌, arith, Option, Some, None, IfSome, IfNone}
use Rattle.std.proofs.Math.Nat.{zero-mod}
use Rattle.std.proofs.lemmas.Bool.Decides.{nat_tests}
use Rattle.residue_theory.specs.Ranges.{HasNone, IsLeast}
use Rattle.residue_theory.proofs.SetLaws.{lt_cases}
use Rattle.residue_theory.proofs.SumLaws.{nat_cases}
use Rattle.linear_algebra.specs.RowOperations.{IsPivoted}
use Rattle.bit_table.specs.Bits.{Bits, bit_in, IsBitSet, IsJoined}
use Rattle.row_table.specs.Reductions.{ZeroRowsStay}
use Rattle.row_transform.specs.Tableaus.{IsCandidate}
use Rattle.row_transform.specs.Entries.{HasSizeOf, AreRowsListed, AreEntriesListed, IsSpread, IsReadyForPivot}

-- ---- what the value of an entry tells of it
pub is_entry : (n x : ℕ) → n ≢ 0 → n ≡ x → not (eqb x 0) ≡ true
is_entry n x ne e = grind (arith, nat_tests)

pub no_entry : (n x : ℕ) → n ≡ 0 → n ≡ x → not (eqb x 0) ≡ false
no_entry n x z e = grind (arith, nat_tests)

pub zero_of : (x : ℕ) → not (eqb x 0) ≡ false → x ≡ 0
zero_of x e = grind (arith, nat_tests)

pub some_of : (x : ℕ) → not (eqb x 0) ≡ true → x ≢ 0
some_of x e = grind (arith, nat_tests)

-- ---- the rows of a matrix
-- a bit that is set stays so while another one is set
pub set-keeps : (b c : ℕ → ℕ → Bool) (n x y : ℕ) → IsBitSet b c n x y → (i j : ℕ) → j < n → b i j ≡ true → c i j ≡ true
set-keeps b c n x y bit i j jl h = elim (nat_cases i x) [
  | inl q ↦ elim (nat_cases j y) [
    | inl s ↦ subst (λ k. c k j ≡ true) (sym q) (subst (λ k. c x k ≡ true) (sym s) bit.here)
    | inr ne ↦ ap (λ k. c k j) q ∙ bit.row j jl ne ∙ ap (λ k. b k j) (sym q) ∙ h
  ]
  | inr ne ↦ bit.others i j jl ne ∙ h
]

-- what is told of more bits of a row is told of fewer
pub bit_set-within : (b c : ℕ → ℕ → Bool) (m n x y : ℕ) → m ≤ n → IsBitSet b c n x y → IsBitSet b c m x y
bit_set-within b c m n x y le bit = record {
  here = bit.here;
  row = λ j jl ne. bit.row j (omega arith) ne;
  others = λ i j jl ne. bit.others i j (omega arith) ne;
}

pub joined-within : (b c : ℕ → ℕ → Bool) (row : ℕ → Bool) (m n x : ℕ) → m ≤ n → IsJoined b c row n x → IsJoined b c row m x
joined-within b c row m n x le join = record {
  here = λ j jl. join.here j (omega arith);
  others = λ i j jl ne. join.others i j (omega arith) ne;
}

-- row r of a is listed for its columns before k; nothing that was listed in b is gone
pub record IsRowListedTo (m : ℕ) (a : ℕ → ℕ → ℕ) (b c : ℕ → ℕ → Bool) (r k : ℕ) : Type 0 where
  pub listed : (j : ℕ) → j < k → a r j ≢ 0 → c j r ≡ true
  pub kept : (i j : ℕ) → i < m → b j i ≡ true → c j i ≡ true

module _ (m w : ℕ) (a : ℕ → ℕ → ℕ) (b c : ℕ → ℕ → Bool) (r k : ℕ) (so_far : IsRowListedTo m a b c r k) where
  pub row_listed-all : HasNone (λ j. not (eqb (a r j) 0)) k w → (j : ℕ) → j < w → a r j ≢ 0 → c j r ≡ true
  row_listed-all none j jl ne = elim (lt_cases j k) [
    | inl before ↦ so_far.listed j before ne
    | inr ge ↦ absurd (ne (zero_of (a r j) (none j ge jl)))
  ]

pub row_listed-next : (m w : ℕ) (a : ℕ → ℕ → ℕ) (b c d : ℕ → ℕ → Bool) (r k y : ℕ) → IsRowListedTo m a b c r k →
    r < m → IsLeast (λ j. not (eqb (a r j) 0)) k w y → IsBitSet c d m y r → IsRowListedTo m a b d r (y + 1)
row_listed-next m w a b c d r k y so_far rl least bit = record {
  listed = λ j less ne. elim (nat_cases j y) [
    | inl q ↦ subst (λ x. d x r ≡ true) (sym q) bit.here
    | inr other ↦ set-keeps c d m y r bit j r rl
        (row_listed-all m y a b c r k so_far least.none_before j (omega arith) ne)
  ];
  kept = λ i j il h. set-keeps c d m y r bit j i il (so_far.kept i j il h);
}

-- an entry that is not zero modulo p is a number that is not zero
pub listed-entries : (p m n : ℕ) (a : ℕ → ℕ → ℕ) (b : Bits) → AreRowsListed m n (λ i j. a i j ≢ 0) b →
    AreEntriesListed p m n a b
listed-entries p m n a b all = record {
  size = all.size;
  listed = λ i j il jl ne. all.listed i j il jl (λ z. ne (ap (λ x. x % p) z ∙ zero-mod p));
}

-- ---- the loop of a pivot
-- of a pivot of a at row r and column v the columns before k are filled
pub record IsSpreadTo (m : ℕ) (a : ℕ → ℕ → ℕ) (b c : ℕ → ℕ → Bool) (r v k : ℕ) : Type 0 where
  pub joined : (i j : ℕ) → i < m → j < k → j ≢ v → a r j ≢ 0 → b v i ≡ true → c j i ≡ true
  pub kept : (i j : ℕ) → i < m → b j i ≡ true → c j i ≡ true
  pub column : (i : ℕ) → i < m → c v i ≡ b v i

module _ (m : ℕ) (a : ℕ → ℕ → ℕ) (b c : ℕ → ℕ → Bool) (r v k : ℕ) (so_far : IsSpreadTo m a b c r v k) where
  -- row r has nothing in the columns from k on and before y
  pub spread-past : (y : ℕ) → HasNone (λ j. not (eqb (a r j) 0)) k y → IsSpreadTo m a b c r v y
  spread-past y none = record {
    joined = λ i j il less jv ne h. elim (lt_cases j k) [
      | inl before ↦ so_far.joined i j il before jv ne h
      | inr ge ↦ absurd (ne (zero_of (a r j) (none j ge less)))
    ];
    kept = so_far.kept;
    column = so_far.column;
  }

  -- column k is v, or has no entry in row r
  pub spread-skip : (k ≡ v) ⊎ (a r k ≡ 0) → IsSpreadTo m a b c r v (k + 1)
  spread-skip why = record {
    joined = λ i j il less jv ne h. elim (nat_cases j k) [
      | inl q ↦ elim why [
        | inl s ↦ absurd (jv (q ∙ s))
        | inr z ↦ absurd (ne (ap (λ x. a r x) q ∙ z))
      ]
      | inr other ↦ so_far.joined i j il (omega arith) jv ne h
    ];
    kept = so_far.kept;
    column = so_far.column;
  }

  pub spread-join : (d : ℕ → ℕ → Bool) → k ≢ v → IsJoined c d (c v) m k → IsSpreadTo m a b d r v (k + 1)
  spread-join d apart join = record {
    joined = λ i j il less jv ne h. elim (nat_cases j k) [
      | inl q ↦ subst (λ x. d x i ≡ true) (sym q) (join.here i il ∙ right (c k i) (c v i) (so_far.column i il ∙ h))
      | inr other ↦ stays i j il (so_far.joined i j il (omega arith) jv ne h)
    ];
    kept = λ i j il h. stays i j il (so_far.kept i j il h);
    column = λ i il. join.others v i il (λ q. apart (sym q)) ∙ so_far.column i il;
  }
    where
      right : (x z : Bool) → z ≡ true → (x || z) ≡ true
      right x z e = grind (arith, nat_tests)

      left : (x z : Bool) → x ≡ true → (x || z) ≡ true
      left x z e = grind (arith, nat_tests)

      stays : (i j : ℕ) → i < m → c j i ≡ true → d j i ≡ true
      stays i j il h = elim (nat_cases j k) [
        | inl q ↦ subst (λ x. d x i ≡ true) (sym q) (join.here i il
            ∙ left (c k i) (c v i) (subst (λ x. c x i ≡ true) q h))
        | inr other ↦ join.others j i il other ∙ h
      ]

  pub spread-done : (n : ℕ) → n ≤ k → IsSpread m n a b c r v
  spread-done n le = record {
    kept = so_far.kept;
    joined = λ i j il jl ne some h. so_far.joined i j il (omega arith) ne some h;
    column = so_far.column;
  }

pub spread-closed : (m w : ℕ) (a : ℕ → ℕ → ℕ) (b c d : ℕ → ℕ → Bool) (r v : ℕ) → IsSpread m w a b c r v →
    d v r ≡ true → ((i j : ℕ) → i < m → j ≢ v → d j i ≡ c j i) → IsReadyForPivot m w a b d r v
spread-closed m w a b c d r v S here others = record {
  here = here;
  kept = λ i j il jl ne h. others i j il ne ∙ S.kept i j il h;
  joined = λ i j il jl ne some h. others i j il ne ∙ S.joined i j il jl ne some h;
}

-- ---- after a pivot
module _ (p m n : ℕ) (old now : ℕ → ℕ → ℕ) (b c : Bits) (r v : ℕ) (listed : AreEntriesListed p m n old b)
    (ready : IsReadyForPivot m n old (bit_in b) (bit_in c) r v) (pivoted : IsPivoted p m n old now r v)
    (stay : ZeroRowsStay p m n old now r v) where
  in_column : (i : ℕ) → i < m → now i v % p ≢ 0 → bit_in c v i ≡ true
  in_column i il ne = elim (nat_cases i r) [
    | inl q ↦ subst (λ x. bit_in c v x ≡ true) (sym q) ready.here
    | inr other ↦ absurd (ne (pivoted.zero i il other))
  ]

  elsewhere : (i j : ℕ) → v < n → i < m → j < n → j ≢ v → now i j % p ≢ 0 → bit_in c j i ≡ true
  elsewhere i j vl il jl apart ne = elim (nat_cases (old r j % p) 0) [
    | inl z ↦ ready.kept i j il jl apart (listed.listed i j il jl (λ w. ne (pivoted.keeps j jl z i il ∙ w)))
    | inr some ↦ elim (nat_cases i r) [
      | inl q ↦ ready.kept i j il jl apart (listed.listed i j il jl (subst (λ x. old x j % p ≢ 0) (sym q) some))
      | inr other ↦ elim (nat_cases (old i v % p) 0) [
        | inl z ↦ ready.kept i j il jl apart (listed.listed i j il jl (λ w. ne (stay i j il jl other z ∙ w)))
        | inr gains ↦ ready.joined i j il jl apart (λ z. some (ap (λ y. y % p) z ∙ zero-mod p))
            (listed.listed i v il vl gains)
      ]
    ]
  ]

  pub pivot-listed : v < n → HasSizeOf m n c → AreEntriesListed p m n now c
  pivot-listed vl size = record {
    size = size;
    listed = λ i j il jl ne. elim (nat_cases j v) [
      | inl q ↦ subst (λ x. bit_in c x i ≡ true) (sym q) (in_column i il (subst (λ x. now i x % p ≢ 0) q ne))
      | inr apart ↦ elsewhere i j vl il jl apart ne
    ];
  }

-- ---- the next entry of a column
pub none-joined : (test : ℕ → Bool) (from at row : ℕ) → HasNone test from at → HasNone test at row →
    HasNone test from row
none-joined test from at row before between i ge less = elim (lt_cases i at) [
  | inl l ↦ before i ge l
  | inr g ↦ between i g less
]

pub none-next : (test : ℕ → Bool) (from row : ℕ) → HasNone test from row → test row ≡ false →
    HasNone test from (row + 1)
none-next test from row before none i ge less = elim (nat_cases i row) [
  | inl q ↦ ap test q ∙ none
  | inr ne ↦ before i ge (omega arith)
]

-- a test that holds of listed rows alone holds of none where none is listed
module _ (test set : ℕ → Bool) (m : ℕ) (listed : (i : ℕ) → i < m → test i ≡ true → set i ≡ true) where
  pub none-listed : (from row : ℕ) → row ≤ m → HasNone set from row → HasNone test from row
  none-listed from row le none i ge less =
      no (test i) (λ holds. differ (sym (none i ge less) ∙ listed i (omega arith) holds))
    where
      differ : false ≡ true → ⊥
      differ e = cc

      no : (b : Bool) → (b ≡ true → ⊥) → b ≡ false
      no true wrong = absurd (wrong refl)
      no false wrong = refl

  -- what the first that is listed of n rows, if there is one, tells of the test
  pub if_none-listed : (from n : ℕ) → n ≡ m → (o : Option ℕ) → IfNone o (HasNone set from n) → IfNone o (HasNone test from m)
  if_none-listed from n e None h = λ i ge less.
      none-listed from n (omega (arith, e)) h i ge (omega (arith, e, less))
  if_none-listed from n e (Some r) h = tt

  pub if_candidate-listed : (from n : ℕ) → n ≡ m → (o : Option ℕ) → IfSome o (IsLeast set from n) → IfSome o (IsCandidate test from m)
  if_candidate-listed from n e None h = tt
  if_candidate-listed from n e (Some r) least = record {
    from_on = least.from_on;
    before_end = omega (arith, e, least.before_end);
    none_before = none-listed from r (omega (arith, e, least.before_end)) least.none_before;
  }
