-- A row of entries put into a table at some columns, entry by entry.
use Rattle.std.proofs.Common.{◌≡◌, ℕ, zero, suc, ◌+◌, ◌-◌, ◌%◌, ◌<◌, ◌≤◌, ◌≢◌, ◌⊎◌, List, [], ◌∷◌, ◌++◌, length, map, drop}
use Rattle.std.proofs.Common.{slice_index, slice_index_or, slice_set, inl, inr, refl, ap, sym, subst, ◌∙◌, arith}
use Rattle.std.proofs.lemmas.List.{drop_more, get_or_append_left, get_or-map, get_or_push, get_or-set_other}
use Rattle.std.proofs.lemmas.List.{get_or-set_same, length-append, length-map, length-set}
use Rattle.std.proofs.Common.{Result, Ok, Err}
use Rattle.std.proofs.lemmas.List.Sorted.{searched}
use Rattle.std.specs.List.Sorted.{IsBinarySearchResult, IsStrictlyIncreasing}
use Rattle.std.specs.Ordering.{nat_cmp}
use Rattle.std.specs.Result.{MatchResult}
use Rattle.residue_theory.specs.Sets.{has}
use Rattle.residue_theory.specs.Sums.{size_on}
use Rattle.residue_theory.proofs.SetLaws.{lt_cases}
use Rattle.residue_theory.proofs.SumLaws.{nat_cases}
use Rattle.dense_q.specs.Tables.{IsMatrix, Table, entry, height, row_at, table_with_entry}
use Rattle.cert_text.specs.Readings.{entry_at}
use Rattle.residue_theory.proofs.ResidueLaws.{agree-add}
use Rattle.block_solver.specs.Rows.{AreKeysRising, PutsSides, row_sum}
use Rattle.block_solver.specs.Tables.{HasPartRow, HasPartRows}
use Rattle.block_solver.proofs.Entries.{entry-here, entry-other}
use Rattle.block_solver.proofs.RisingLists.{less-order, members-before, rising-distinct, rising-weakly}
use Rattle.block_solver.proofs.Splits.{entry-once, rising-tail}

-- what is left of a row rises
rising-dropped : (es : List (ℕ × ℕ)) → AreKeysRising es → (i : ℕ) → AreKeysRising (drop i es)
rising-dropped es rising zero = rising
rising-dropped [] rising (suc i) = rising
rising-dropped (e ∷ es) rising (suc i) = rising-dropped es (rising-tail e es rising) i

-- while a row is put: the first k entries are, and its columns from the next one on are 0
pub record IsRowBegun (old now : Table) (entries : List (ℕ × ℕ)) (columns : List ℕ) (k : ℕ) : Type 0 where
  pub height_is : height now ≡ height old + 1
  pub width_same : now.width ≡ old.width
  pub sums : (c : ℕ) → c < length columns → entry now (height old) c + entry_at (drop k entries) (slice_index columns c)
      ≡ entry_at entries (slice_index columns c)
  pub clear : (c i : ℕ) → c < length columns → k ≤ i → i < length entries →
      (slice_index_or entries i (0, 0)).0 ≤ slice_index columns c → entry now (height old) c ≡ 0
  pub before : (i j : ℕ) → i < height old → entry now i j ≡ entry old i j

module _ (old now : Table) (entries : List (ℕ × ℕ)) (columns : List ℕ) where
  module _ (rising : AreKeysRising entries) (k : ℕ) (kl : k < length entries) (begun : IsRowBegun old now entries columns k) where
    abbrev key : ℕ → ℕ
    key i = (slice_index_or entries i (0, 0)).0

    abbrev keys : List ℕ
    keys = map (λ (e : ℕ × ℕ). e.0) entries

    key-is : (i : ℕ) → i < length entries → slice_index keys i ≡ (slice_index_or entries i (0, 0)).0
    key-is i il = get_or-map (λ (e : ℕ × ℕ). e.0) entries i (0, 0) 0 il

    keys-rise : (i j : ℕ) → i < j → j < length entries → (slice_index_or entries i (0, 0)).0 < (slice_index_or entries j (0, 0)).0
    keys-rise i j less jl = omega (
      arith,
      less-order keys rising i j less (omega (arith, jl, length-map entries (λ (e : ℕ × ℕ). e.0))),
      key-is i (omega (arith, less, jl)),
      key-is j jl,
    )

    rest : drop k entries ≡ slice_index_or entries k (0, 0) ∷ drop (k + 1) entries
    rest = drop_more entries k (0, 0) kl

    -- the entry at column j of what is left, where j is not its first column
    skipped : (j : ℕ) → (slice_index_or entries k (0, 0)).0 ≢ j → entry_at (drop k entries) j ≡ entry_at (drop (k + 1) entries) j
    skipped j other = ap (λ es. entry_at es j) rest ∙ entry-other (slice_index_or entries k (0, 0)) (drop (k + 1) entries) j other

    -- an entry whose column is none of these
    pub begun-passed : ((c : ℕ) → c < length columns → (slice_index_or entries k (0, 0)).0 ≢ slice_index columns c) →
        IsRowBegun old now entries columns (k + 1)
    begun-passed none = record {
      height_is = begun.height_is;
      width_same = begun.width_same;
      sums = λ c cl. ap (λ z. entry now (height old) c + z) (sym (skipped (slice_index columns c) (none c cl))) ∙ begun.sums c cl;
      clear = λ c i cl ki il le. begun.clear c i cl (omega (arith, ki)) il le;
      before = begun.before;
    }

    -- what has to be 0 before it is put
    pub begun-clear : IsStrictlyIncreasing columns → (place : ℕ) → place < length columns → slice_index columns place ≡ (slice_index_or entries k (0, 0)).0 →
        (j : ℕ) → place ≤ j → j < length columns → entry now (height old) j ≡ 0
    begun-clear up place pl at j pj jl = begun.clear j k jl (omega arith) kl (elim (lt_cases place j) [
      | inl less ↦ omega (arith, less-order columns up place j less jl, at)
      | inr same ↦ let e : j ≡ place = omega (arith, pj, same) in omega (arith, ap (slice_index columns) e, at)
    ])

    -- an entry that is put at its column
    pub begun-put : (next : Table) (place : ℕ) → IsMatrix now → IsStrictlyIncreasing columns → now.width ≡ length columns → place < length columns →
        slice_index columns place ≡ (slice_index_or entries k (0, 0)).0 →
        next ≡ table_with_entry now (height now - 1) place (slice_index_or entries k (0, 0)).1 → IsRowBegun old next entries columns (k + 1)
    begun-put next place good up wide pl at e = record {
      height_is = ap height e ∙ length-set now.rows (height now - 1) _ ∙ begun.height_is;
      width_same = ap (λ (t : Table). t.width) e ∙ begun.width_same;
      sums = sums;
      clear = clear;
      before = λ i j il. other-row i j (let ne : i ≢ height now - 1 = omega (arith, il, begun.height_is) in ne) ∙ begun.before i j il;
    }
      where
        at_last : height now - 1 ≡ height old
        at_last = omega (arith, begun.height_is)

        low : height now - 1 < height now
        low = omega (arith, begun.height_is)

        row : row_at next (height now - 1) ≡ slice_set (row_at now (height now - 1)) place (slice_index_or entries k (0, 0)).1
        row = ap (λ (t : Table). row_at t (height now - 1)) e ∙ get_or-set_same now.rows (height now - 1) _ [] low

        full : length (row_at now (height now - 1)) ≡ now.width
        full = good.full (height now - 1) [] low

        here : entry next (height old) place ≡ (slice_index_or entries k (0, 0)).1
        here = subst (λ i. entry next i place ≡ (slice_index_or entries k (0, 0)).1) at_last
            (ap (λ r. slice_index r place) row ∙ get_or-set_same (row_at now (height now - 1)) place (slice_index_or entries k (0, 0)).1 0
            (omega (arith, full, wide, pl)))

        other-column : (c : ℕ) → c ≢ place → entry next (height old) c ≡ entry now (height old) c
        other-column c ne = subst (λ i. entry next i c ≡ entry now i c) at_last
            (ap (λ r. slice_index r c) row ∙ get_or-set_other (row_at now (height now - 1)) place c (slice_index_or entries k (0, 0)).1 0 ne)

        other-row : (i j : ℕ) → i ≢ height now - 1 → entry next i j ≡ entry now i j
        other-row i j ne = ap (λ (t : Table). entry t i j) e
            ∙ ap (λ r. slice_index r j) (get_or-set_other now.rows (height now - 1) i _ [] ne)

        none-left : entry_at (drop (k + 1) entries) (slice_index_or entries k (0, 0)).0 ≡ 0
        none-left = entry-once (slice_index_or entries k (0, 0)) (drop (k + 1) entries) (subst AreKeysRising rest (rising-dropped entries rising k))

        sums : (c : ℕ) → c < length columns → entry next (height old) c + entry_at (drop (k + 1) entries) (slice_index columns c)
            ≡ entry_at entries (slice_index columns c)
        sums c cl = elim (nat_cases c place) [
          | inl q ↦ subst (λ d. entry next (height old) d + entry_at (drop (k + 1) entries) (slice_index columns d)
              ≡ entry_at entries (slice_index columns d)) (sym q) (at_place (begun.sums place pl) (begun-clear up place pl at place (omega arith) pl))
          | inr ne ↦ ap (λ z. z + entry_at (drop (k + 1) entries) (slice_index columns c)) (other-column c ne)
              ∙ ap (λ z. entry now (height old) c + z) (sym (skipped (slice_index columns c)
              (λ q. ne (rising-distinct columns up c place cl pl (sym (at ∙ q))))))
              ∙ begun.sums c cl
        ]
          where
            first : entry_at (drop k entries) (slice_index columns place) ≡ (slice_index_or entries k (0, 0)).1
            first = ap (λ es. entry_at es (slice_index columns place)) rest
                ∙ entry-here (slice_index_or entries k (0, 0)) (drop (k + 1) entries) (slice_index columns place) (sym at)

            gone : entry_at (drop (k + 1) entries) (slice_index columns place) ≡ 0
            gone = ap (entry_at (drop (k + 1) entries)) at ∙ none-left

            at_place : entry now (height old) place + entry_at (drop k entries) (slice_index columns place) ≡ entry_at entries (slice_index columns place) →
                entry now (height old) place ≡ 0 →
                entry next (height old) place + entry_at (drop (k + 1) entries) (slice_index columns place) ≡ entry_at entries (slice_index columns place)
            at_place was zero_before = omega (arith, was, zero_before, first, gone, here)

        clear : (c i : ℕ) → c < length columns → k + 1 ≤ i → i < length entries → (slice_index_or entries i (0, 0)).0 ≤ slice_index columns c →
            entry next (height old) c ≡ 0
        clear c i cl ki il le = elim (nat_cases c place) [
          | inl q ↦ absurd (omega (arith, keys-rise k i (omega (arith, ki)) il, at, ap (slice_index columns) q, le))
          | inr ne ↦ other-column c ne ∙ begun.clear c i cl (omega (arith, ki)) il le
        ]

-- ---- rows
pub rows-next : (old now next : Table) (n : ℕ) (rows : List (List (ℕ × ℕ))) (members columns : List ℕ) → HasPartRows old now n rows members columns →
    HasPartRow now next (slice_index_or rows (slice_index members n) []) columns → HasPartRows old next (n + 1) rows members columns
rows-next old now next n rows members columns have row = record {
  height_is = omega (arith, row.height_is, have.height_is);
  width_same = row.width_same ∙ have.width_same;
  here = λ k c kl cl. elim (nat_cases k n) [
    | inl q ↦ subst (λ i. entry next (height old + i) c ≡ entry_at (slice_index_or rows (slice_index members i) []) (slice_index columns c)) (sym q)
        (subst (λ i. entry next i c ≡ entry_at (slice_index_or rows (slice_index members n) []) (slice_index columns c)) have.height_is (row.here c cl))
    | inr ne ↦
        let less : k < n = omega (arith, kl, ne) in
        row.before (height old + k) c (omega (arith, less, have.height_is)) ∙ have.here k c less cl
  ];
  before = λ i j il. row.before i j (omega (arith, il, have.height_is)) ∙ have.before i j il;
}

-- ---- sums of rows
pub record AreSumsBegun (p : ℕ) (rows : List (List (ℕ × ℕ))) (x sums : List ℕ) (n : ℕ) : Type 0 where
  pub count : length sums ≡ n
  pub sum : (i : ℕ) → i < n → slice_index sums i % p ≡ row_sum (slice_index_or rows i []) x % p

pub sums-next : (p : ℕ) (rows : List (List (ℕ × ℕ))) (x sums : List ℕ) (n sum : ℕ) → AreSumsBegun p rows x sums n →
    sum % p ≡ row_sum (slice_index_or rows n []) x % p → AreSumsBegun p rows x (sums ++ sum ∷ []) (n + 1)
sums-next p rows x sums n sum begun is = record {
  count = length-append sums (sum ∷ []) ∙ ap (λ k. k + 1) begun.count;
  sum = λ i il. elim (nat_cases i n) [
    | inl q ↦ subst (λ k. slice_index (sums ++ sum ∷ []) k % p ≡ row_sum (slice_index_or rows k []) x % p) (sym q)
        (ap (λ z. z % p) (get_or_push sums sum 0 n begun.count) ∙ is)
    | inr ne ↦
        let less : i < n = omega (arith, il, ne) in
        ap (λ z. z % p) (get_or_append_left sums (sum ∷ []) 0 i (omega (arith, less, begun.count))) ∙ begun.sum i less
  ];
}

-- ---- what is left of right sides
pub left-next : (p : ℕ) (old now : List ℕ) (n : ℕ) (rows : List (List (ℕ × ℕ))) (right members x : List ℕ) (side sum : ℕ) →
    PutsSides p old now n rows right members x → (side + sum) % p ≡ slice_index right (slice_index members n) % p →
    sum % p ≡ row_sum (slice_index_or rows (slice_index members n) []) x % p →
    PutsSides p old (now ++ side ∷ []) (n + 1) rows right members x
left-next p old now n rows right members x side sum puts difference sum_is = record {
  count = omega (arith, length-append now (side ∷ []), puts.count);
  left = λ k kl. elim (nat_cases k n) [
    | inl q ↦ subst (λ i. (slice_index (now ++ side ∷ []) (length old + i) + row_sum (slice_index_or rows (slice_index members i) []) x) % p
        ≡ slice_index right (slice_index members i) % p) (sym q)
        (ap (λ z. (z + row_sum (slice_index_or rows (slice_index members n) []) x) % p) (get_or_push now side 0 (length old + n) puts.count)
        ∙ agree-add p side side (row_sum (slice_index_or rows (slice_index members n) []) x) sum refl (sym sum_is) ∙ difference)
    | inr ne ↦
        let less : k < n = omega (arith, kl, ne) in
        ap (λ z. (z + row_sum (slice_index_or rows (slice_index members k) []) x) % p)
        (get_or_append_left now (side ∷ []) 0 (length old + k) (omega (arith, less, puts.count))) ∙ puts.left k less
  ];
  before = λ i il. get_or_append_left now (side ∷ []) 0 i (omega (arith, il, puts.count)) ∙ puts.before i il;
}

-- ---- where a search of the columns ends
pub found-at : (columns : List ℕ) (x : ℕ) (r : Result ℕ ℕ) (place : ℕ) → IsStrictlyIncreasing columns →
    IsBinarySearchResult (λ y. nat_cmp y x) columns r → r ≡ Ok place → (place < length columns) × (slice_index columns place ≡ x)
found-at columns x r place up found is =
    subst (λ o. MatchResult o (λ i. (i < length columns) × (slice_index columns i ≡ x)) (λ i. (i ≤ length columns)
    × ((k : ℕ) → k < i → slice_index columns k < x) × ((k : ℕ) → i ≤ k → k < length columns → x < slice_index columns k))) is
    (searched columns x r found (rising-weakly columns up))

pub found-none : (columns : List ℕ) (x : ℕ) (r : Result ℕ ℕ) (place : ℕ) → IsStrictlyIncreasing columns →
    IsBinarySearchResult (λ y. nat_cmp y x) columns r → r ≡ Err place → (d : ℕ) → d < length columns → slice_index columns d ≡ x → ⊥
found-none columns x r place up found is d dl q =
    let at : (place ≤ length columns) × ((k : ℕ) → k < place → slice_index columns k < x)
    × ((k : ℕ) → place ≤ k → k < length columns → x < slice_index columns k) =
    subst (λ o. MatchResult o (λ i. (i < length columns) × (slice_index columns i ≡ x)) (λ i. (i ≤ length columns)
    × ((k : ℕ) → k < i → slice_index columns k < x) × ((k : ℕ) → i ≤ k → k < length columns → x < slice_index columns k))) is
    (searched columns x r found (rising-weakly columns up)) in
    elim (lt_cases d place) [
      | inl less ↦ absurd (omega (arith, at.1 d less, q))
      | inr more ↦ absurd (omega (arith, at.2 d more dl, q))
    ]

-- how many of the columns are below u
pub found-count : (columns : List ℕ) (u place : ℕ) (r : Result ℕ ℕ) → IsStrictlyIncreasing columns →
    IsBinarySearchResult (λ y. nat_cmp y u) columns r → (r ≡ Ok place) ⊎ (r ≡ Err place) → place ≡ size_on (has columns) u
found-count columns u place r up found (inl is) =
    let at = found-at columns u r place up found is in
    sym (members-before columns up place u (omega (arith, at.0))
    (λ i il. omega (arith, less-order columns up i place il at.0, at.1))
    (λ i pi il. omega (arith, rising-weakly columns up place i pi il, at.1)))
found-count columns u place r up found (inr is) =
    let at : (place ≤ length columns) × ((k : ℕ) → k < place → slice_index columns k < u)
    × ((k : ℕ) → place ≤ k → k < length columns → u < slice_index columns k) =
    subst (λ o. MatchResult o (λ i. (i < length columns) × (slice_index columns i ≡ u)) (λ i. (i ≤ length columns)
    × ((k : ℕ) → k < i → slice_index columns k < u) × ((k : ℕ) → i ≤ k → k < length columns → u < slice_index columns k))) is
    (searched columns u r found (rising-weakly columns up)) in
    sym (members-before columns up place u at.0 at.1 (λ i pi il. omega (arith, at.2 i pi il)))
