-- Bits in rows of words.
use Rattle.std.proofs.Common.{◌≡◌, ℕ, ◌+◌, ◌-◌, ◌*◌, ◌/◌, ◌%◌, ◌^◌, ◌<◌, ◌≤◌, ◌≢◌, false, ◌||◌, ◌==◌, ◌⊎◌, inl, inr, List}
use Rattle.std.proofs.Common.{length, get_or, set, bit_and, bit_or, w64, ap, sym, subst, ◌∙◌, arith}
use Rattle.std.specs.Int.{bit_at, trailing_zeros}
use Rattle.std.specs.Int.Bits.{or_zero_r}
use Rattle.std.proofs.Math.Nat.{mul-le-mul_left}
use Rattle.std.proofs.lemmas.Bool.Decides.{nat_tests}
use Rattle.std.proofs.lemmas.Grind.{common_steps}
use Rattle.std.proofs.lemmas.List.{get_or-set_same, get_or-set_other, length-set}
use Rattle.std.proofs.lemmas.Nat.{same_from_place, shr-shr, shr_le}
use Rattle.std.proofs.lemmas.Nat.Bits.{shr_and_one, bit_at_or, bit_at-lt, bit_at-zero, bit_at_set_same, bit_at_set_other, bit_at_above, bit_at-trailing_zeros}
use Rattle.residue_theory.proofs.SumLaws.{nat_cases}
use Rattle.residue_theory.proofs.SetLaws.{lt_cases}
use Rattle.residue_theory.specs.Ranges.{HasNone, IsLeast}
use Rattle.bit_table.specs.Bits.{bit_of, IsBitSet, IsJoined, AreKeptBits, IsRowCleared, IsRowEmptied}

pub item_is : (xs : List ℕ) (k v : ℕ) → k < length xs → v ≡ get_or xs k v → get_or xs k 0 ≡ v
item_is xs k v l e = grind (arith, common_steps)

-- the test of one bit
pub test_bit : (xs : List ℕ) (k v i : ℕ) → k < length xs → v ≡ get_or xs k v → (bit_and (v / 2 ^ i) 1 == 1) ≡ (bit_at (get_or xs k 0) i == 1)
test_bit xs k v i l e = ap (λ m. m == 1) (shr_and_one v i ∙ ap (λ m. bit_at m i) (sym (item_is xs k v l e)))

zero_bit : (i : ℕ) → (bit_at 0 i == 1) ≡ false
zero_bit i = ap (λ m. m == 1) (bit_at-zero i)

-- where each word is 0, no bit is set
pub no_bit : (xs : List ℕ) (w x y : ℕ) → ((k : ℕ) → k < length xs → get_or xs k 0 ≡ 0) → bit_of xs w x y ≡ false
no_bit xs w x y zeros = ap (λ m. bit_at m (y % 64) == 1) (at (lt_cases (x * w + y / 64) (length xs))) ∙ zero_bit (y % 64)
  where
    at : (x * w + y / 64 < length xs) ⊎ (length xs ≤ x * w + y / 64) → get_or xs (x * w + y / 64) 0 ≡ 0
    at (inl l) = zeros (x * w + y / 64) l
    at (inr g) = grind (arith, common_steps)

max_bit : (a b m : ℕ) → a < 2 → b < 2 → m ≡ Prim.Native.Nat.max a b → (m == 1) ≡ ((a == 1) || (b == 1))
max_bit a b m al bl e = grind (arith, nat_tests)

pub or_bit : (a b i : ℕ) → (bit_at (bit_or a b) i == 1) ≡ ((bit_at a i == 1) || (bit_at b i == 1))
or_bit a b i = max_bit (bit_at a i) (bit_at b i) (bit_at (bit_or a b) i) (bit_at-lt a i) (bit_at-lt b i) (bit_at_or a b i)

-- two rows are one, or apart
pub rows_apart : (w x y : ℕ) → (x * w ≡ y * w) ⊎ ((x * w + w ≤ y * w) ⊎ (y * w + w ≤ x * w))
rows_apart w x y = elim (lt_cases x y) [
  | inl less ↦ inr (inl (omega (arith, mul-le-mul_left w less)))
  | inr ge ↦ elim (nat_cases x y) [
    | inl q ↦ inl (ap (λ v. v * w) q)
    | inr ne ↦ let more : y + 1 ≤ x = omega arith in
        inr (inr (omega (arith, mul-le-mul_left w more)))
  ]
]

pub half_below : (n w y : ℕ) → w ≡ n / 64 + 1 → y < n → y / 64 < w
half_below n w y e l = omega arith

-- one bit is set, in a row of n bits that is made
pub set_bit : (xs : List ℕ) (n w x y v : ℕ) → x * w + w ≤ length xs → w ≡ n / 64 + 1 → y < n → v ≡ get_or xs (x * w + y / 64) v →
    IsBitSet (bit_of xs w) (bit_of (set xs (x * w + y / 64) (bit_or v (1 * 2 ^ (y % 64) % 2 ^ 64))) w) n x y
set_bit xs n w x y v made width yl e = record {
  here = ap (λ m. bit_at m (y % 64) == 1)
      (get_or-set_same xs (x * w + y / 64) (bit_or v (1 * 2 ^ (y % 64) % 2 ^ 64)) 0 fits)
      ∙ ap (λ m. m == 1) (bit_at_set_same w64 v (y % 64) small);
  row = λ j jl ne. row j jl ne (nat_cases (j / 64) (y / 64));
  others = λ i j jl ne. elsewhere i j (λ q. ne (same_from_place i (j / 64) x (y / 64) w (half_below n w j width jl) (half_below n w y width yl) q).0);
}
  where
    fits : x * w + y / 64 < length xs
    fits = omega (arith, made, half_below n w y width yl)

    small : y % 64 < 64
    small = omega arith

    was : get_or xs (x * w + y / 64) 0 ≡ v
    was = item_is xs (x * w + y / 64) v fits e

    elsewhere : (i j : ℕ) → i * w + j / 64 ≢ x * w + y / 64 → bit_of (set xs (x * w + y / 64) (bit_or v (1 * 2 ^ (y % 64) % 2 ^ 64))) w i j ≡ bit_of xs w i j
    elsewhere i j ne = ap (λ m. bit_at m (j % 64) == 1) (get_or-set_other xs (x * w + y / 64) (i * w + j / 64) (bit_or v (1 * 2 ^ (y % 64) % 2 ^ 64)) 0 ne)

    row : (j : ℕ) → j < n → j ≢ y → (j / 64 ≡ y / 64) ⊎ (j / 64 ≢ y / 64) →
        bit_of (set xs (x * w + y / 64) (bit_or v (1 * 2 ^ (y % 64) % 2 ^ 64))) w x j ≡ bit_of xs w x j
    row j jl ne (inr other) = elsewhere x j (λ q. omega arith)
    row j jl ne (inl same) =
        let apart : j % 64 ≢ y % 64 = λ q. ne (omega arith) in
        let place : x * w + j / 64 ≡ x * w + y / 64 = ap (λ m. x * w + m) same in
        ap (λ m. bit_at m (j % 64) == 1)
        (ap (λ m. get_or (set xs (x * w + y / 64) (bit_or v (1 * 2 ^ (y % 64) % 2 ^ 64))) m 0) place
        ∙ get_or-set_same xs (x * w + y / 64) (bit_or v (1 * 2 ^ (y % 64) % 2 ^ 64)) 0 fits)
        ∙ (ap (λ m. m == 1) (bit_at_set_other w64 v (y % 64) small (j % 64) apart)
        ∙ ap (λ m. bit_at m (j % 64) == 1) (sym was ∙ ap (λ m. get_or xs m 0) (sym place)))

-- a word of another row stands before or behind this row
word_outside : (w x z i : ℕ) → i < w → z ≢ x → (z * w + i < x * w) ⊎ (x * w + w ≤ z * w + i)
word_outside w x z i fits ne = apart (lt_cases z x)
  where
    apart : (z < x) ⊎ (x ≤ z) → (z * w + i < x * w) ⊎ (x * w + w ≤ z * w + i)
    apart (inl less) = inl (omega (arith, mul-le-mul_left w less))
    apart (inr ge) = let more : x + 1 ≤ z = omega arith in inr (omega (arith, mul-le-mul_left w more))

outside : (n w x i j : ℕ) → w ≡ n / 64 + 1 → j < n → i ≢ x → (i * w + j / 64 < x * w) ⊎ (x * w + w ≤ i * w + j / 64)
outside n w x i j width jl ne = word_outside w x i (j / 64) (half_below n w j width jl) ne

-- what the words of a row are while they are joined, from the first one on
pub record JoinedTo (xs ys zs : List ℕ) (into from i : ℕ) : Type 0 where
  pub joined : (j : ℕ) → j < i → get_or ys (into + j) 0 ≡ bit_or (get_or xs (into + j) 0) (get_or zs (from + j) 0)
  pub rest : (k : ℕ) → (k < into) ⊎ (into + i ≤ k) → get_or ys k 0 ≡ get_or xs k 0

-- what the words of a row are while they are cleared, from the first one on
pub record ClearedTo (xs ys : List ℕ) (first i : ℕ) : Type 0 where
  pub cleared : (j : ℕ) → j < i → get_or ys (first + j) 0 ≡ 0
  pub rest : (k : ℕ) → (k < first) ⊎ (first + i ≤ k) → get_or ys k 0 ≡ get_or xs k 0

-- row x is changed, and then uses its first v words
pub keep_row : (rows size w room : ℕ) (xs us ys : List ℕ) (x v : ℕ) → AreKeptBits rows size w room xs us → x < rows → length ys ≡ length xs →
    v ≤ w → (0 < v → x * w + w ≤ length xs) → ((k : ℕ) → (k < x * w) ⊎ (x * w + w ≤ k) → get_or ys k 0 ≡ get_or xs k 0) →
    ((i : ℕ) → v ≤ i → i < w → get_or ys (x * w + i) 0 ≡ 0) → AreKeptBits rows size w room ys (set us x v)
keep_row rows size w room xs us ys x v K xl len vl made rest zeros = record {
  room_is = K.room_is;
  words_are = omega (arith, len, K.words_are);
  width_is = K.width_is;
  used_are = length-set us x v ∙ K.used_are;
  within = λ z zl. elim (nat_cases z x) [
    | inl q ↦ subst (λ m. get_or (set us x v) m 0 ≤ w) (sym q) (subst (λ m. m ≤ w) (sym here) vl)
    | inr ne ↦ subst (λ m. m ≤ w) (sym (get_or-set_other us x z v 0 ne)) (K.within z zl)
  ];
  made = λ z zl some. elim (nat_cases z x) [
    | inl q ↦ let here_some : 0 < v = subst (λ m. 0 < m) (ap (λ m. get_or (set us x v) m 0) q ∙ here) some in
        subst (λ m. m * w + w ≤ length ys) (sym q) (omega (arith, len, made here_some))
    | inr ne ↦ omega (arith, len, K.made z zl (subst (λ m. 0 < m) (get_or-set_other us x z v 0 ne) some))
  ];
  behind = λ z i zl le il. elim (nat_cases z x) [
    | inl q ↦ subst (λ m. get_or ys (m * w + i) 0 ≡ 0) (sym q)
        (zeros i (subst (λ m. m ≤ i) (ap (λ m. get_or (set us x v) m 0) q ∙ here) le) il)
    | inr ne ↦ rest (z * w + i) (word_outside w x z i il ne)
        ∙ K.behind z i zl (subst (λ m. m ≤ i) (get_or-set_other us x z v 0 ne) le) il
  ];
}
  where
    here : get_or (set us x v) x 0 ≡ v
    here = get_or-set_same us x v 0 (omega (arith, K.used_are, xl))

-- where a row's words that are used are joined with those of another one, all are
pub joined_row : (xs ys zs : List ℕ) (into from w u : ℕ) → JoinedTo xs ys zs into from u →
    ((i : ℕ) → u ≤ i → i < w → get_or zs (from + i) 0 ≡ 0) →
    (i : ℕ) → i < w → get_or ys (into + i) 0 ≡ bit_or (get_or xs (into + i) 0) (get_or zs (from + i) 0)
joined_row xs ys zs into from w u J none i il = elim (lt_cases i u) [
  | inl l ↦ J.joined i l
  | inr g ↦ J.rest (into + i) (inr (omega arith))
      ∙ sym (ap (bit_or (get_or xs (into + i) 0)) (none i g il) ∙ or_zero_r (get_or xs (into + i) 0))
]

-- the table after row x is joined with one that uses u words; v are those that it uses then
pub keep_joined : (rows size w room : ℕ) (xs us ys zs : List ℕ) (from x u v : ℕ) → AreKeptBits rows size w room xs us → x < rows →
    x * w + w ≤ length xs → length ys ≡ length xs → JoinedTo xs ys zs (x * w) from u → u ≤ v → get_or us x 0 ≤ v → v ≤ w →
    AreKeptBits rows size w room ys (set us x v)
keep_joined rows size w room xs us ys zs from x u v K xl made len J ul ol vl = keep_row rows size w room xs us ys x v K xl len vl (λ _. made)
    (λ k out. J.rest k (elim out [ inl a ↦ inl a | inr b ↦ inr (omega arith) ]))
    (λ i vi il. J.rest (x * w + i) (inr (omega arith)) ∙ K.behind x i xl (omega arith) il)

-- the table after a bit of row x is set
pub keep_set : (rows size w room : ℕ) (xs us : List ℕ) (x y v b : ℕ) → AreKeptBits rows size w room xs us → x < rows → y < size →
    x * w + w ≤ length xs → y / 64 + 1 ≤ v → get_or us x 0 ≤ v → v ≤ w →
    AreKeptBits rows size w room (set xs (x * w + y / 64) b) (set us x v)
keep_set rows size w room xs us x y v b K xl yl made fits ol vl = keep_row rows size w room xs us (set xs (x * w + y / 64) b) x v K xl
    (length-set xs (x * w + y / 64) b) vl (λ _. made)
    (λ k out. get_or-set_other xs (x * w + y / 64) k b 0 (λ q. elim out [ inl a ↦ omega arith | inr c ↦ omega arith ]))
    (λ i vi il. get_or-set_other xs (x * w + y / 64) (x * w + i) b 0 (λ q. omega arith) ∙ K.behind x i xl (omega arith) il)

-- where the words of row x that are used are cleared, all are
pub emptied_row : (rows size w room : ℕ) (xs us ys : List ℕ) (x : ℕ) → AreKeptBits rows size w room xs us → x < rows →
    ClearedTo xs ys (x * w) (get_or us x 0) → IsRowEmptied xs ys w x
emptied_row rows size w room xs us ys x K xl C = record {
  here = λ i il. elim (lt_cases i (get_or us x 0)) [
    | inl l ↦ C.cleared i l
    | inr g ↦ C.rest (x * w + i) (inr (omega arith)) ∙ K.behind x i xl g il
  ];
  others = λ k out. C.rest k (elim out [ inl a ↦ inl a | inr b ↦ inr (omega (arith, K.within x xl)) ]);
}

-- the table after all words of row x are cleared
pub keep_emptied : (rows size w room : ℕ) (xs us ys : List ℕ) (x : ℕ) → AreKeptBits rows size w room xs us → x < rows → length ys ≡ length xs →
    IsRowEmptied xs ys w x → AreKeptBits rows size w room ys (set us x 0)
keep_emptied rows size w room xs us ys x K xl len E = keep_row rows size w room xs us ys x 0 K xl len (omega arith) (λ some. absurd (omega (arith, some)))
    E.others (λ i _ il. E.here i il)

-- one row more is empty
pub emptied_step : (xs ys : List ℕ) (w x : ℕ) → IsRowEmptied xs ys w x → ((k : ℕ) → k < x * w → get_or xs k 0 ≡ 0) →
    (k : ℕ) → k < (x + 1) * w → get_or ys k 0 ≡ 0
emptied_step xs ys w x E before k kl = elim (lt_cases k (x * w)) [
  | inl l ↦ E.others k (inl l) ∙ before k l
  | inr g ↦ subst (λ m. get_or ys m 0 ≡ 0) (omega (arith, g)) (E.here (k - x * w) (omega (arith, g, kl)))
]

-- the words of a row are joined with those of another, which stand in rows of v words
pub join_bits : (xs ys zs : List ℕ) (n w v x y : ℕ) → w ≡ n / 64 + 1 →
    ((i : ℕ) → i < w → get_or ys (x * w + i) 0 ≡ bit_or (get_or xs (x * w + i) 0) (get_or zs (y * v + i) 0)) →
    ((k : ℕ) → (k < x * w) ⊎ (x * w + w ≤ k) → get_or ys k 0 ≡ get_or xs k 0) → IsJoined (bit_of xs w) (bit_of ys w) (bit_of zs v y) n x
join_bits xs ys zs n w v x y width joined rest = record {
  here = λ j jl. ap (λ m. bit_at m (j % 64) == 1) (joined (j / 64) (half_below n w j width jl))
      ∙ or_bit (get_or xs (x * w + j / 64) 0) (get_or zs (y * v + j / 64) 0) (j % 64);
  others = λ i j jl ne. ap (λ m. bit_at m (j % 64) == 1) (rest (i * w + j / 64) (outside n w x i j width jl ne));
}

-- the words of a row are cleared
pub clear_bits : (xs ys : List ℕ) (n w x : ℕ) → w ≡ n / 64 + 1 → IsRowEmptied xs ys w x →
    IsRowCleared (bit_of xs w) (bit_of ys w) n x
clear_bits xs ys n w x width E = record {
  here = λ j jl. ap (λ m. bit_at m (j % 64) == 1) (E.here (j / 64) (half_below n w j width jl)) ∙ zero_bit (j % 64);
  others = λ i j jl ne. ap (λ m. bit_at m (j % 64) == 1) (E.others (i * w + j / 64) (outside n w x i j width jl ne));
}

-- one word more; `u` is the word that is read
pub join_step : (xs ys zs : List ℕ) (into from i v u : ℕ) → JoinedTo xs ys zs into from i → into + i < length ys →
    v ≡ get_or ys (into + i) v → u ≡ get_or zs (from + i) 0 →
    JoinedTo xs (set ys (into + i) (bit_or v u)) zs into from (i + 1)
join_step xs ys zs into from i v u J l ve ue = record {
  joined = λ j jl. at j jl (nat_cases j i);
  rest = λ k out. get_or-set_other ys (into + i) k (bit_or v u) 0
      (λ q. elim out [ inl a ↦ omega arith | inr b ↦ omega arith ])
      ∙ J.rest k (elim out [ inl a ↦ inl a | inr b ↦ inr (omega arith) ]);
}
  where
    at : (j : ℕ) → j < i + 1 → (j ≡ i) ⊎ (j ≢ i) →
        get_or (set ys (into + i) (bit_or v u)) (into + j) 0 ≡ bit_or (get_or xs (into + j) 0) (get_or zs (from + j) 0)
    at j jl (inr ne) = get_or-set_other ys (into + i) (into + j) (bit_or v u) 0 (λ q. ne (omega arith)) ∙ J.joined j (omega arith)
    at j jl (inl q) = subst (λ m. get_or (set ys (into + i) (bit_or v u)) (into + m) 0 ≡ bit_or (get_or xs (into + m) 0) (get_or zs (from + m) 0)) (sym q)
        (get_or-set_same ys (into + i) (bit_or v u) 0 l
        ∙ (ap (λ m. bit_or m u) (sym (item_is ys (into + i) v l ve) ∙ J.rest (into + i) (inr (omega arith)))
        ∙ ap (bit_or (get_or xs (into + i) 0)) ue))

-- the word that is read is that of the beginning, in a row that is the same one or apart
pub still_there : (xs ys : List ℕ) (into from w i u : ℕ) → JoinedTo xs ys xs into from i → (into ≡ from) ⊎ ((into + w ≤ from) ⊎ (from + w ≤ into)) → i < w →
    from + i < length ys → u ≡ get_or ys (from + i) u → u ≡ get_or xs (from + i) 0
still_there xs ys into from w i u J apart il l e = sym (item_is ys (from + i) u l e)
    ∙ J.rest (from + i) (elim apart
    [ inl q ↦ inr (omega arith) | inr o ↦ elim o [ inl a ↦ inr (omega arith) | inr b ↦ inl (omega arith) ] ])

-- one word more
pub clear_step : (xs ys : List ℕ) (first i : ℕ) → ClearedTo xs ys first i → first + i < length ys → ClearedTo xs (set ys (first + i) 0) first (i + 1)
clear_step xs ys first i C l = record {
  cleared = λ j jl. at j jl (nat_cases j i);
  rest = λ k out. get_or-set_other ys (first + i) k 0 0 (λ q. elim out [ inl a ↦ omega arith | inr b ↦ omega arith ])
      ∙ C.rest k (elim out [ inl a ↦ inl a | inr b ↦ inr (omega arith) ]);
}
  where
    at : (j : ℕ) → j < i + 1 → (j ≡ i) ⊎ (j ≢ i) → get_or (set ys (first + i) 0) (first + j) 0 ≡ 0
    at j jl (inr ne) = get_or-set_other ys (first + i) (first + j) 0 0 (λ q. ne (omega arith)) ∙ C.cleared j (omega arith)
    at j jl (inl q) = subst (λ m. get_or (set ys (first + i) 0) (first + m) 0 ≡ 0) (sym q) (get_or-set_same ys (first + i) 0 0 l)

-- bit k of a word from bit s on
bit_from : (word s k : ℕ) → s ≤ k → bit_at word k ≡ bit_at (word / 2 ^ s) (k - s)
bit_from word s k le = ap (λ m. m % 2) (ap (λ m. word / 2 ^ m) (omega (arith, le)) ∙ sym (shr-shr word s (k - s)))

-- where a word is 0 from the bit of a place on, no bit is set up to the next word
pub none_in_word : (xs : List ℕ) (w x from at next v : ℕ) → HasNone (bit_of xs w x) from at →
    x * w + at / 64 < length xs → v ≡ get_or xs (x * w + at / 64) v → v / 2 ^ (at % 64) ≡ 0 →
    next ≤ at + (64 - at % 64) →
    HasNone (bit_of xs w x) from next
none_in_word xs w x from at next v before fits e zero le y yf yl = by (lt_cases y at)
  where
    by : (y < at) ⊎ (at ≤ y) → bit_of xs w x y ≡ false
    by (inl less) = before y yf less
    by (inr ge) =
        let same : y / 64 ≡ at / 64 = omega arith in
        ap (λ m. bit_at (get_or xs (x * w + m) 0) (y % 64) == 1) same
        ∙ (ap (λ m. m == 1) (ap (λ m. bit_at m (y % 64)) (item_is xs (x * w + at / 64) v fits e)
        ∙ (bit_from v (at % 64) (y % 64) (omega arith) ∙ ap (λ m. bit_at m (y % 64 - at % 64)) zero))
        ∙ zero_bit (y % 64 - at % 64))

-- a word before the end of the words that are used is there; `u` is how many these are, and `all` how many bits they have
pub used_word : (rows size w room : ℕ) (xs us : List ℕ) (x at u all end behind : ℕ) → AreKeptBits rows size w room xs us → x < rows →
    u ≡ get_or us x u → all ≡ Prim.Native.Nat.min (u * 64) 18446744073709551615 → behind ≡ Prim.Native.Nat.min end all →
    at < behind → x * w + at / 64 < length xs
used_word rows size w room xs us x at u all end behind K xl is alls behinds al =
    let used : get_or us x 0 ≡ u = item_is us x u (omega (arith, K.used_are, xl)) is in
    let below : at < u * 64 = grind (arith, alls, behinds, al) in
    omega (arith, K.made x xl (omega (arith, used, below)), K.within x xl, used, below)

-- no bit is set behind the words that are used
pub none_behind : (rows size w room : ℕ) (xs us : List ℕ) (x from top end : ℕ) → AreKeptBits rows size w room xs us → x < rows → end ≤ size →
    ((y : ℕ) → top ≤ y → y < end → get_or us x 0 ≤ y / 64) → HasNone (bit_of xs w x) from top → HasNone (bit_of xs w x) from end
none_behind rows size w room xs us x from top end K xl el used none y yf yl = elim (lt_cases y top) [
  | inl l ↦ none y yf l
  | inr g ↦ ap (λ m. bit_at m (y % 64) == 1)
      (K.behind x (y / 64) xl (used y g yl) (half_below size w y K.width_is (omega arith)))
      ∙ zero_bit (y % 64)
]

-- the bit that is found: the lowest one that is set in a word from the bit of a place on
pub found_bit : (xs : List ℕ) (w x from at v t : ℕ) → from ≤ at → HasNone (bit_of xs w x) from at →
    x * w + at / 64 < length xs → v ≡ get_or xs (x * w + at / 64) v → at % 64 + t < 64 →
    bit_at (v / 2 ^ (at % 64)) t ≡ 1 → ((i : ℕ) → i < t → bit_at (v / 2 ^ (at % 64)) i ≡ 0) → IsLeast (bit_of xs w x) from (at + t + 1) (at + t)
found_bit xs w x from at v t fl before fits e tl one zeros = record {
  from_on = omega arith;
  before_end = omega arith;
  holds = here (at + t) (omega arith) (omega arith) ∙ ap (λ m. m == 1) (ap (bit_at (v / 2 ^ (at % 64))) (omega arith) ∙ one);
  none_before = λ y yf yl. by y yf yl (lt_cases y at);
}
  where
    here : (y : ℕ) → at ≤ y → y ≤ at + t → bit_of xs w x y ≡ (bit_at (v / 2 ^ (at % 64)) (y - at) == 1)
    here y ge le =
        let same : y / 64 ≡ at / 64 = omega arith in
        let place : y % 64 - at % 64 ≡ y - at = omega arith in
        ap (λ m. bit_at (get_or xs (x * w + m) 0) (y % 64) == 1) same
        ∙ ap (λ m. m == 1) (ap (λ m. bit_at m (y % 64)) (item_is xs (x * w + at / 64) v fits e)
        ∙ (bit_from v (at % 64) (y % 64) (omega arith) ∙ ap (bit_at (v / 2 ^ (at % 64))) place))

    by : (y : ℕ) → from ≤ y → y < at + t → (y < at) ⊎ (at ≤ y) → bit_of xs w x y ≡ false
    by y yf yl (inl less) = before y yf less
    by y yf yl (inr ge) = here y ge (omega arith) ∙ ap (λ m. m == 1) (zeros (y - at) (omega arith))

-- the lowest bit that is set from bit s on
pub lowest_from : (v s : ℕ) → v < 2 ^ 64 → v / 2 ^ s ≢ 0 →
    (s + trailing_zeros w64 (v / 2 ^ s) < 64) × (bit_at (v / 2 ^ s) (trailing_zeros w64 (v / 2 ^ s)) ≡ 1)
    × ((i : ℕ) → i < trailing_zeros w64 (v / 2 ^ s) → bit_at (v / 2 ^ s) i ≡ 0)
lowest_from v s small some = (within (lt_cases (s + t) 64), L.1, L.2)
  where
    t : ℕ
    t = trailing_zeros w64 (v / 2 ^ s)

    L : (t < 64) × (bit_at (v / 2 ^ s) t ≡ 1) × ((i : ℕ) → i < t → bit_at (v / 2 ^ s) i ≡ 0)
    L = bit_at-trailing_zeros w64 (v / 2 ^ s) (omega (arith, some)) (omega (arith, shr_le v s, small))

    within : (s + t < 64) ⊎ (64 ≤ s + t) → s + t < 64
    within (inl l) = l
    within (inr g) =
        let none : bit_at (v / 2 ^ s) (s + t - s) ≡ 0 = sym (bit_from v s (s + t) (omega arith)) ∙ bit_at_above v 64 (s + t) small g in
        let same : bit_at (v / 2 ^ s) (s + t - s) ≡ bit_at (v / 2 ^ s) t = ap (bit_at (v / 2 ^ s)) (omega arith) in
        omega (arith, none, same, L.1)
