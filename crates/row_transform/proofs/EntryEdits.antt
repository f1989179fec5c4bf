-- The rows that are listed for columns, where columns and rows come and go.
use Rattle.std.proofs.Common.{◌≡◌, ℕ, ◌+◌, ◌-◌, ◌<◌, ◌≤◌, ◌≢◌, ◌||◌, true, false, inl, inr, refl, sym, subst, ap, ◌∙◌, arith}
use Rattle.residue_theory.specs.Ranges.{HasNone, IsLeast}
use Rattle.residue_theory.proofs.SetLaws.{lt_cases, differ}
use Rattle.residue_theory.proofs.SumLaws.{nat_cases}
use Rattle.linear_algebra.specs.Parts.{skip}
use Rattle.linear_algebra_laws.proofs.SkipLaws.{skip-first, skip-later}
use Rattle.bit_table.specs.Bits.{Bits, bit_in, IsBitSet, IsJoined, IsRowCleared}
use Rattle.row_transform.specs.Entries.{HasSizeOf, HasTableSize, IsBitRowCopied, IsColumnListedIn, IsColumnListedOut, IsRowListedAs}
use Rattle.row_transform.proofs.EntryLaws.{set-keeps}

-- ---- sizes
pub same_size : (b : Bits) → HasTableSize b b
same_size b = record { rows_same = refl; size_same = refl }

pub size-next : (b c d : Bits) → HasTableSize b c → d.rows ≡ c.rows → d.size ≡ c.size → HasTableSize b d
size-next b c d S rows size = record { rows_same = rows ∙ S.rows_same; size_same = size ∙ S.size_same }

pub size-kept : (m n : ℕ) (b c : Bits) → HasSizeOf m n b → HasTableSize b c → HasSizeOf m n c
size-kept m n b c size same = record {
  columns_fit = omega (arith, size.columns_fit, same.rows_same);
  rows_fit = omega (arith, size.rows_fit, same.size_same);
}

pub sizes-joined : (b c d : Bits) → HasTableSize b c → HasTableSize c d → HasTableSize b d
sizes-joined b c d S T = record { rows_same = T.rows_same ∙ S.rows_same; size_same = T.size_same ∙ S.size_same }

-- ---- a row of bits like another one
pub copied : (b c d : Bits) (v w : ℕ) → v ≢ w → IsRowCleared (bit_in b) (bit_in c) b.size v → c.rows ≡ b.rows → c.size ≡ b.size →
    IsJoined (bit_in c) (bit_in d) (bit_in c w) c.size v → d.rows ≡ c.rows → d.size ≡ c.size → IsBitRowCopied b d v w
copied b c d v w apart cleared rows size joined rows_too size_too = record {
  size = size-next b c d (record { rows_same = rows; size_same = size }) rows_too size_too;
  here = λ i il. joined.here i (omega arith) ∙ ap (λ x. x || bit_in c w i) (cleared.here i il)
      ∙ cleared.others w i il (λ q. apart (sym q));
  others = λ i j il ne. joined.others j i (omega arith) ne ∙ cleared.others j i il ne;
}

-- ---- a column comes
-- of the n columns of b those from k on, which is v or behind it, are a place further on in c
pub record IsRaisedTo (n : ℕ) (b c : Bits) (v k : ℕ) : Type 0 where
  pub from_on : v ≤ k
  pub to_end : k ≤ n
  pub size : HasTableSize b c
  pub moved : (i j : ℕ) → i < b.size → k ≤ j → j < n → bit_in c (j + 1) i ≡ bit_in b j i
  pub rest : (i j : ℕ) → i < b.size → j < k → bit_in c j i ≡ bit_in b j i

pub raised-first : (n : ℕ) (b : Bits) (v : ℕ) → v ≤ n → IsRaisedTo n b b v n
raised-first n b v le = record {
  from_on = le;
  to_end = omega arith;
  size = same_size b;
  moved = λ i j il ge less. absurd (omega arith);
  rest = λ i j il l. refl;
}

module _ (n : ℕ) (b c : Bits) (v k : ℕ) (so_far : IsRaisedTo n b c v k) where
  pub raised-next : (d : Bits) → v < k → IsBitRowCopied c d k (k - 1) → IsRaisedTo n b d v (k - 1)
  raised-next d more copy = record {
    from_on = omega arith;
    to_end = omega (arith, so_far.to_end);
    size = sizes-joined b c d so_far.size copy.size;
    moved = λ i j il ge less. elim (nat_cases (j + 1) k) [
      | inl q ↦ ap (λ x. bit_in d x i) q ∙ copy.here i (fits i il)
          ∙ so_far.rest i (k - 1) il (omega arith) ∙ ap (λ x. bit_in b x i) (let e : k - 1 ≡ j = omega arith in e)
      | inr ne ↦ copy.others i (j + 1) (fits i il) ne ∙ so_far.moved i j il (omega arith) less
    ];
    rest = λ i j il l. copy.others i j (fits i il) (λ q. omega arith) ∙ so_far.rest i j il (omega arith);
  }
    where
      fits : (i : ℕ) → i < b.size → i < c.size
      fits i il = omega (arith, il, so_far.size.size_same)

  pub raised-all : (d : Bits) → k ≤ v → IsRowCleared (bit_in c) (bit_in d) c.size v → d.rows ≡ c.rows → d.size ≡ c.size →
      IsColumnListedIn n b d v
  raised-all d le cleared rows size = record {
    size = size-next b c d so_far.size rows size;
    empty = λ i il. cleared.here i (fits i il);
    others = λ i j il jl. elim (lt_cases j v) [
      | inl less ↦ ap (λ x. bit_in d x i) (skip-first v j less) ∙ cleared.others j i (fits i il) (λ q. omega arith)
          ∙ so_far.rest i j il (omega (arith, so_far.from_on))
      | inr ge ↦ ap (λ x. bit_in d x i) (skip-later v j ge) ∙ cleared.others (j + 1) i (fits i il) (λ q. omega arith)
          ∙ so_far.moved i j il (omega arith) jl
    ];
  }
    where
      fits : (i : ℕ) → i < b.size → i < c.size
      fits i il = omega (arith, il, so_far.size.size_same)

-- ---- a column goes
-- the columns of c before k, which is v or behind it, are those of b but v
pub record IsLoweredTo (b c : Bits) (v k : ℕ) : Type 0 where
  pub from_on : v ≤ k
  pub size : HasTableSize b c
  pub moved : (i j : ℕ) → i < b.size → j < k → bit_in c j i ≡ bit_in b (skip v j) i
  pub rest : (i j : ℕ) → i < b.size → k ≤ j → bit_in c j i ≡ bit_in b j i

pub lowered-first : (b : Bits) (v : ℕ) → IsLoweredTo b b v v
lowered-first b v = record {
  from_on = omega arith;
  size = same_size b;
  moved = λ i j il l. ap (λ x. bit_in b x i) (sym (skip-first v j l));
  rest = λ i j il ge. refl;
}

module _ (b c : Bits) (v k : ℕ) (so_far : IsLoweredTo b c v k) where
  pub lowered-next : (d : Bits) → IsBitRowCopied c d k (k + 1) → IsLoweredTo b d v (k + 1)
  lowered-next d copy = record {
    from_on = omega (arith, so_far.from_on);
    size = sizes-joined b c d so_far.size copy.size;
    moved = λ i j il l. elim (nat_cases j k) [
      | inl q ↦ ap (λ x. bit_in d x i) q ∙ copy.here i (fits i il) ∙ so_far.rest i (k + 1) il (omega arith)
          ∙ ap (λ x. bit_in b x i) (sym (skip-later v k so_far.from_on) ∙ ap (skip v) (sym q))
      | inr ne ↦ copy.others i j (fits i il) ne ∙ so_far.moved i j il (omega arith)
    ];
    rest = λ i j il ge. copy.others i j (fits i il) (λ q. omega arith) ∙ so_far.rest i j il (omega arith);
  }
    where
      fits : (i : ℕ) → i < b.size → i < c.size
      fits i il = omega (arith, il, so_far.size.size_same)

  pub lowered-all : (n : ℕ) → n ≤ k + 1 → IsColumnListedOut n b c v
  lowered-all n le = record {
    size = so_far.size;
    others = λ i j il l. so_far.moved i j il (omega arith);
  }

-- ---- a row that is listed as another one
-- for the columns before k row t is listed in c where row r is in b
pub record IsListedAsTo (b c : Bits) (r t k : ℕ) : Type 0 where
  pub size : HasTableSize b c
  pub listed : (j : ℕ) → j < k → bit_in b j r ≡ true → bit_in c j t ≡ true
  pub kept : (i j : ℕ) → i < b.size → bit_in b j i ≡ true → bit_in c j i ≡ true

module _ (b c : Bits) (r t k : ℕ) (so_far : IsListedAsTo b c r t k) where
  pub as-skip : r < b.size → bit_in c k r ≡ false → IsListedAsTo b c r t (k + 1)
  as-skip rl none = record {
    size = so_far.size;
    listed = λ j l h. elim (nat_cases j k) [
      | inl q ↦ absurd (differ none (so_far.kept r k rl (subst (λ x. bit_in b x r ≡ true) q h)))
      | inr ne ↦ so_far.listed j (omega arith) h
    ];
    kept = so_far.kept;
  }

  pub as-set : (d : Bits) → IsBitSet (bit_in c) (bit_in d) c.size k t → t < b.size → d.rows ≡ c.rows → d.size ≡ c.size →
      IsListedAsTo b d r t (k + 1)
  as-set d bit tl rows size = record {
    size = size-next b c d so_far.size rows size;
    listed = λ j l h. elim (nat_cases j k) [
      | inl q ↦ subst (λ x. bit_in d x t ≡ true) (sym q) bit.here
      | inr ne ↦ set-keeps (bit_in c) (bit_in d) c.size k t bit j t (fits t tl) (so_far.listed j (omega arith) h)
    ];
    kept = λ i j il h. set-keeps (bit_in c) (bit_in d) c.size k t bit j i (fits i il) (so_far.kept i j il h);
  }
    where
      fits : (i : ℕ) → i < b.size → i < c.size
      fits i il = omega (arith, il, so_far.size.size_same)

  pub as-all : (n : ℕ) → n ≤ k → IsRowListedAs n b c r t
  as-all n le = record {
    size = so_far.size;
    listed = λ j l h. so_far.listed j (omega arith) h;
    kept = so_far.kept;
  }

-- ---- a larger table
-- in d, which was b, the bits of row v of a before k are set
pub record IsCopiedTo (a b d : Bits) (v k : ℕ) : Type 0 where
  pub size : HasTableSize b d
  pub copied_bits : (i : ℕ) → i < k → bit_in a v i ≡ true → bit_in d v i ≡ true
  pub kept : (i j : ℕ) → i < b.size → bit_in b j i ≡ true → bit_in d j i ≡ true

module _ (a b c : Bits) (v k : ℕ) (so_far : IsCopiedTo a b c v k) where
  pub copied-next : (d : Bits) (n y : ℕ) → n ≤ b.size → IsLeast (bit_in a v) k n y → IsBitSet (bit_in c) (bit_in d) c.size v y →
      d.rows ≡ c.rows → d.size ≡ c.size → IsCopiedTo a b d v (y + 1)
  copied-next d n y le least bit rows size = record {
    size = size-next b c d so_far.size rows size;
    copied_bits = λ i l h. elim (nat_cases i y) [
      | inl q ↦ subst (λ x. bit_in d v x ≡ true) (sym q) bit.here
      | inr ne ↦ elim (lt_cases i k) [
        | inl before ↦ set-keeps (bit_in c) (bit_in d) c.size v y bit v i (fits i (omega (arith, least.before_end)))
            (so_far.copied_bits i before h)
        | inr ge ↦ absurd (differ (least.none_before i ge (omega arith)) h)
      ]
    ];
    kept = λ i j il h. set-keeps (bit_in c) (bit_in d) c.size v y bit j i (fits i il) (so_far.kept i j il h);
  }
    where
      fits : (i : ℕ) → i < b.size → i < c.size
      fits i il = omega (arith, il, so_far.size.size_same)

  pub copied-all : (n : ℕ) → HasNone (bit_in a v) k n → (i : ℕ) → i < n → bit_in a v i ≡ true → bit_in c v i ≡ true
  copied-all n none i il h = elim (lt_cases i k) [
    | inl before ↦ so_far.copied_bits i before h
    | inr ge ↦ absurd (differ (none i ge il) h)
  ]
