-- Whether a form keeps each rule is decided, where it keeps those before.
use Rattle.std.proofs.Common.{◌≡◌, ◌≢◌, ℕ, ◌+◌, ◌<◌, ◌≤◌, ◌%◌, ◌⊎◌, Bool, true, false, List, [], length, slice_index_or}
use Rattle.residue_theory.specs.Sets.{has}
use Rattle.linear_algebra.specs.Products.{Agree, product}
use Rattle.closed_sets.specs.Rules.{InBlock}
use Rattle.closed_sets.specs.Walks.{Mutual, ReachesOn}
use Rattle.closed_sets.proofs.Hulls.{from_or_not, to_or_not}
use Rattle.mixed_matrices.specs.Arcs.{IsFromFree, ReachesEnd, has_base, has_match, is_end, is_free, leads_to}
use Rattle.mixed_matrices.specs.CheckerRules.{HasRows, block_of, in_first, in_last}
use Rattle.mixed_matrices.specs.Forms.{Parts}
use Rattle.mixed_matrices.specs.LayeredMatrices.{LayeredMatrix}
use Rattle.mixed_matrices.specs.Models.{MixedMatrix}
use Rattle.mixed_matrices.specs.Tableaus.{Tableau}
use Rattle.cert_text.specs.Contents.{Contents}
use Rattle.cert_text.specs.Readings.{ColumnsDiffer, IsUnitColumn, StandsOnce, lower_of, matrix_of, pair_at, parts_of}
use Rattle.cert_text.specs.Readings.{pattern_of, q_row_lists, t_row_lists, tableau_of}
use Rattle.cert_text.specs.Right.{HasProduct, HasShape, HasUnitColumns}
use Rattle.cert_text.specs.Rules.{HasMatching, HasPlacedRows, HasReasons, LeadsDown}
use Rattle.existence_laws.proofs.Deciding.{Decided, at_most, both, each_number, each_pair, equal, fails, holds}
use Rattle.existence_laws.proofs.Deciding.{implied, moved, one_of, reach_both, reached_on, refuted, same_tests}
use Rattle.existence_laws.proofs.Deciding.{some_number}

-- ---- the rules of matrices
pub agreeing : (p m n : ℕ) (a b : ℕ → ℕ → ℕ) → Decided (Agree p m n a b)
agreeing p m n a b = each_pair m n (λ i j. a i j % p ≡ b i j % p) (λ i j _ _. equal (a i j % p) (b i j % p))

pub shape : (M : MixedMatrix) (L : LayeredMatrix) (c : Contents) → Decided (HasShape M L c)
shape M L c = moved ((c.shape.equations ≡ M.rows) × ((c.shape.unknowns ≡ M.columns) × Sizes)) (HasShape M L c)
    (λ h. record { equations = h.0; unknowns = h.1.0; q_rows = h.1.1.0; t_rows = h.1.1.1.0; columns = h.1.1.1.1 })
    (λ s. (s.equations, (s.unknowns, (s.q_rows, (s.t_rows, s.columns)))))
    (both (c.shape.equations ≡ M.rows) ((c.shape.unknowns ≡ M.columns) × Sizes) (equal c.shape.equations M.rows)
    (both (c.shape.unknowns ≡ M.columns) Sizes (equal c.shape.unknowns M.columns)
    (both (c.shape.q_rows ≡ L.q_rows) ((c.shape.t_rows ≡ L.t_rows) × (c.shape.columns ≡ L.columns)) (equal c.shape.q_rows L.q_rows)
    (both (c.shape.t_rows ≡ L.t_rows) (c.shape.columns ≡ L.columns) (equal c.shape.t_rows L.t_rows) (equal c.shape.columns L.columns)))))
  where
    Sizes : Type 0
    Sizes = (c.shape.q_rows ≡ L.q_rows) × ((c.shape.t_rows ≡ L.t_rows) × (c.shape.columns ≡ L.columns))

pub product_is : (p : ℕ) (L : LayeredMatrix) (c : Contents) → Decided (HasProduct p L c)
product_is p L c = moved (Numbers × Symbols) (HasProduct p L c) (λ h. record { q = h.0; t = h.1 }) (λ P. (P.q, P.t))
    (both Numbers Symbols (agreeing p L.q_rows L.columns (matrix_of c.p) (product L.q_rows (matrix_of c.s) L.q))
    (each_pair L.t_rows L.columns (λ i j. pattern_of c.t i j ≡ L.t i j) (λ i j _ _. same_tests (pattern_of c.t i j) (L.t i j))))
  where
    Numbers : Type 0
    Numbers = Agree p L.q_rows L.columns (matrix_of c.p) (product L.q_rows (matrix_of c.s) L.q)

    Symbols : Type 0
    Symbols = (i j : ℕ) → i < L.t_rows → j < L.columns → pattern_of c.t i j ≡ L.t i j

unit : (p m : ℕ) (b : ℕ → ℕ → ℕ) (i j : ℕ) → Decided (IsUnitColumn p m b i j)
unit p m b i j = moved ((b i j % p ≡ 1) × Zeros) (IsUnitColumn p m b i j) (λ h. record { one = h.0; zero = h.1 }) (λ u. (u.one, u.zero))
    (both (b i j % p ≡ 1) Zeros (equal (b i j % p) 1)
    (each_number m (λ k. k ≢ i → b k j % p ≡ 0)
    (λ k _. implied (k ≢ i) (b k j % p ≡ 0) (refuted (k ≡ i) (equal k i)) (λ _. equal (b k j % p) 0))))
  where
    Zeros : Type 0
    Zeros = (k : ℕ) → k < m → k ≢ i → b k j % p ≡ 0

pub units : (p : ℕ) (L : LayeredMatrix) (c : Contents) → Decided (HasUnitColumns p L c)
units p L c = each_number (length c.base) (λ k. IsUnitColumn p L.q_rows (matrix_of c.p) (pair_at c.base k).0 (pair_at c.base k).1)
    (λ k _. unit p L.q_rows (matrix_of c.p) (pair_at c.base k).0 (pair_at c.base k).1)

-- ---- base and match
same_columns : (xs ys : List (ℕ × ℕ)) → Decided ((k l : ℕ) → k < length xs → l < length ys → (pair_at xs k).1 ≡ (pair_at ys l).1 → k ≡ l)
same_columns xs ys = each_pair (length xs) (length ys) (λ k l. (pair_at xs k).1 ≡ (pair_at ys l).1 → k ≡ l)
    (λ k l _ _. implied ((pair_at xs k).1 ≡ (pair_at ys l).1) (k ≡ l) (equal (pair_at xs k).1 (pair_at ys l).1) (λ _. equal k l))

columns-differ : (base mates : List (ℕ × ℕ)) → Decided (ColumnsDiffer base mates)
columns-differ base mates = moved (Differ base × (Differ mates × Apart)) (ColumnsDiffer base mates)
    (λ h. record { in_base = h.0; in_mates = h.1.0; apart = h.1.1 }) (λ d. (d.in_base, (d.in_mates, d.apart)))
    (both (Differ base) (Differ mates × Apart) (same_columns base base) (both (Differ mates) Apart (same_columns mates mates)
    (each_pair (length base) (length mates) (λ k l. (pair_at base k).1 ≢ (pair_at mates l).1)
    (λ k l _ _. refuted ((pair_at base k).1 ≡ (pair_at mates l).1) (equal (pair_at base k).1 (pair_at mates l).1)))))
  where
    Differ : List (ℕ × ℕ) → Type 0
    Differ xs = (k l : ℕ) → k < length xs → l < length xs → (pair_at xs k).1 ≡ (pair_at xs l).1 → k ≡ l

    Apart : Type 0
    Apart = (k l : ℕ) → k < length base → l < length mates → (pair_at base k).1 ≢ (pair_at mates l).1

pub matching : (L : LayeredMatrix) (c : Contents) → Decided (HasMatching L c)
matching L c = moved (Symbols × ColumnsDiffer c.base c.mates) (HasMatching L c) (λ h. record { symbols = h.0; differ = h.1 }) (λ m. (m.symbols, m.differ))
    (both Symbols (ColumnsDiffer c.base c.mates) (each_number (length c.mates) (λ k. L.t (pair_at c.mates k).0 (pair_at c.mates k).1 ≡ true)
    (λ k _. holds (L.t (pair_at c.mates k).0 (pair_at c.mates k).1))) (columns-differ c.base c.mates))
  where
    Symbols : Type 0
    Symbols = (k : ℕ) → k < length c.mates → L.t (pair_at c.mates k).0 (pair_at c.mates k).1 ≡ true

-- ---- what stands in lists
pub once : (n : ℕ) (lists : List (List ℕ)) → Decided (StandsOnce n lists)
once n lists = moved (Some × One) (StandsOnce n lists) (λ h. record { some = h.0; one = λ x k l xl kl ll a b. h.1 x xl k l kl ll a b })
    (λ o. (o.some, λ x xl k l kl ll a b. o.one x k l xl kl ll a b))
    (both Some One (each_number n HeldBySome (λ x _. some_number (length lists) (λ k. held k x ≡ true) (λ k _. holds (held k x))))
    (each_number n HeldByOne (λ x _. each_pair (length lists) (length lists) (λ k l. held k x ≡ true → held l x ≡ true → k ≡ l)
    (λ k l _ _. implied (held k x ≡ true) (held l x ≡ true → k ≡ l) (holds (held k x))
    (λ _. implied (held l x ≡ true) (k ≡ l) (holds (held l x)) (λ _. equal k l))))))
  where
    held : ℕ → ℕ → Bool
    held k x = has (slice_index_or lists k []) x

    HeldBySome : ℕ → Type 0
    HeldBySome x = (k : ℕ) × (k < length lists) × (held k x ≡ true)

    HeldByOne : ℕ → Type 0
    HeldByOne x = (k l : ℕ) → k < length lists → l < length lists → held k x ≡ true → held l x ≡ true → k ≡ l

    Some : Type 0
    Some = (x : ℕ) → x < n → HeldBySome x

    One : Type 0
    One = (x : ℕ) → x < n → HeldByOne x

-- where a test is passed, two numbers are equal
equal_where : (n : ℕ) (t : ℕ → Bool) (a b : ℕ → ℕ) → Decided ((x : ℕ) → x < n → t x ≡ true → a x ≡ b x)
equal_where n t a b = each_number n (λ x. t x ≡ true → a x ≡ b x) (λ x _. implied (t x ≡ true) (a x ≡ b x) (holds (t x)) (λ _. equal (a x) (b x)))

-- and where it is not
equal_elsewhere : (n v : ℕ) (t : ℕ → Bool) (a : ℕ → ℕ) → Decided ((x : ℕ) → x < n → t x ≡ false → a x ≡ v)
equal_elsewhere n v t a = each_number n (λ x. t x ≡ false → a x ≡ v) (λ x _. implied (t x ≡ false) (a x ≡ v) (fails (t x)) (λ _. equal (a x) v))

module _ (L : LayeredMatrix) (F : Tableau) (G : Parts) where
  abbrev InRange : Type 0
  InRange = (x : ℕ) → x < L.columns → G.column x ≤ G.blocks + 1

  abbrev OfBase : Type 0
  OfBase = (b : ℕ) → b < L.columns → F.base b ≡ true → G.q_row (F.row b) ≡ G.column b

  abbrev OfMatch : Type 0
  OfMatch = (j : ℕ) → j < L.columns → F.matched j ≡ true → G.t_row (F.mate j) ≡ G.column j

  abbrev OtherQ : Type 0
  OtherQ = (i : ℕ) → i < L.q_rows → has_base L F i ≡ false → G.q_row i ≡ G.blocks + 1

  abbrev OtherT : Type 0
  OtherT = (i : ℕ) → i < L.t_rows → has_match L F i ≡ false → G.t_row i ≡ G.blocks + 1

  placed : Decided (HasRows L F G)
  placed = moved (InRange × (OfBase × (OfMatch × (OtherQ × OtherT)))) (HasRows L F G)
      (λ h. record { columns = h.0; base = h.1.0; matched = h.1.1.0; other_q = h.1.1.1.0; other_t = h.1.1.1.1 })
      (λ r. (r.columns, (r.base, (r.matched, (r.other_q, r.other_t)))))
      (both InRange (OfBase × (OfMatch × (OtherQ × OtherT)))
      (each_number L.columns (λ x. G.column x ≤ G.blocks + 1) (λ x _. at_most (G.column x) (G.blocks + 1)))
      (both OfBase (OfMatch × (OtherQ × OtherT)) (equal_where L.columns F.base (λ b. G.q_row (F.row b)) G.column)
      (both OfMatch (OtherQ × OtherT) (equal_where L.columns F.matched (λ j. G.t_row (F.mate j)) G.column)
      (both OtherQ OtherT (equal_elsewhere L.q_rows (G.blocks + 1) (has_base L F) G.q_row) (equal_elsewhere L.t_rows (G.blocks + 1) (has_match L F) G.t_row)))))

pub placed_rows : (L : LayeredMatrix) (c : Contents) → Decided (HasPlacedRows L c)
placed_rows L c = moved
    (StandsOnce L.q_rows (q_row_lists c) × (StandsOnce L.t_rows (t_row_lists c) × HasRows L (tableau_of c) (parts_of c))) (HasPlacedRows L c)
    (λ h. record { q_rows = h.0; t_rows = h.1.0; rows = h.1.1 }) (λ r. (r.q_rows, (r.t_rows, r.rows)))
    (both (StandsOnce L.q_rows (q_row_lists c)) (StandsOnce L.t_rows (t_row_lists c) × HasRows L (tableau_of c) (parts_of c)) (once L.q_rows (q_row_lists c))
    (both (StandsOnce L.t_rows (t_row_lists c)) (HasRows L (tableau_of c) (parts_of c)) (once L.t_rows (t_row_lists c)) (placed L (tableau_of c) (parts_of c))))

-- ---- where columns lead, and why they stand where they do
in_block : (n : ℕ) (F L : ℕ → Bool) (x : ℕ) → x < n → Decided (InBlock n F L x)
in_block n F L x xl = moved ((F x ≡ false) × (L x ≡ false)) (InBlock n F L x) (λ h. record { below = xl; not_first = h.0; not_last = h.1 })
    (λ i. (i.not_first, i.not_last)) (both (F x ≡ false) (L x ≡ false) (fails (F x)) (fails (L x)))

-- where one test is passed, another one is
passed : (n : ℕ) (s t : ℕ → Bool) → Decided ((x : ℕ) → x < n → s x ≡ true → t x ≡ true)
passed n s t = each_number n (λ x. s x ≡ true → t x ≡ true) (λ x _. implied (s x ≡ true) (t x ≡ true) (holds (s x)) (λ _. holds (t x)))

module _ (p : ℕ) (L : LayeredMatrix) (c : Contents) where
  abbrev arc : ℕ → ℕ → Bool
  arc = leads_to p L (tableau_of c)

  abbrev first : ℕ → Bool
  first = in_first (parts_of c)

  abbrev last : ℕ → Bool
  last = in_last (parts_of c)

  abbrev block : ℕ → ℕ
  block = block_of (parts_of c)

  abbrev FreeFirst : Type 0
  FreeFirst = (x : ℕ) → x < L.columns → is_free (tableau_of c) x ≡ true → first x ≡ true

  abbrev EndsLast : Type 0
  EndsLast = (x : ℕ) → x < L.columns → is_end p L (tableau_of c) x ≡ true → last x ≡ true

  abbrev FirstLeads : Type 0
  FirstLeads = (x y : ℕ) → x < L.columns → y < L.columns → first x ≡ true → arc x y ≡ true → first y ≡ true

  abbrev Onward : ℕ → ℕ → Type 0
  Onward x y = (block y ≡ block x) ⊎ ReachesOn (lower_of c) (length c.blocks) (block x) (block y)

  abbrev Leads : ℕ → ℕ → Type 0
  Leads x y = InBlock L.columns first last x → arc x y ≡ true → (first y ≡ true) ⊎ (InBlock L.columns first last y × Onward x y)

  abbrev BlockLeads : Type 0
  BlockLeads = (x y : ℕ) → x < L.columns → y < L.columns → Leads x y

  leads : (x y : ℕ) → x < L.columns → y < L.columns → Decided (Leads x y)
  leads x y xl yl = implied (InBlock L.columns first last x) (arc x y ≡ true → (first y ≡ true) ⊎ (InBlock L.columns first last y × Onward x y))
      (in_block L.columns first last x xl)
      (λ _. implied (arc x y ≡ true) ((first y ≡ true) ⊎ (InBlock L.columns first last y × Onward x y)) (holds (arc x y))
      (λ _. one_of (first y ≡ true) (InBlock L.columns first last y × Onward x y) (holds (first y))
      (both (InBlock L.columns first last y) (Onward x y) (in_block L.columns first last y yl)
      (one_of (block y ≡ block x) (ReachesOn (lower_of c) (length c.blocks) (block x) (block y)) (equal (block y) (block x))
      (reached_on (lower_of c) (length c.blocks) (block x) (block y))))))

  first-leads : Decided FirstLeads
  first-leads = each_pair L.columns L.columns (λ x y. first x ≡ true → arc x y ≡ true → first y ≡ true)
      (λ x y _ _. implied (first x ≡ true) (arc x y ≡ true → first y ≡ true) (holds (first x))
      (λ _. implied (arc x y ≡ true) (first y ≡ true) (holds (arc x y)) (λ _. holds (first y))))

  pub down : Decided (LeadsDown p L c)
  down = moved (FreeFirst × (EndsLast × (FirstLeads × BlockLeads))) (LeadsDown p L c)
      (λ h. record { starts_first = h.0; ends_last = h.1.0; first_leads = h.1.1.0; block_leads = λ x y ix yl a. h.1.1.1 x y ix.below yl ix a })
      (λ d. (d.starts_first, (d.ends_last, (d.first_leads, λ x y xl yl ix a. d.block_leads x y ix yl a))))
      (both FreeFirst (EndsLast × (FirstLeads × BlockLeads)) (passed L.columns (is_free (tableau_of c)) first)
      (both EndsLast (FirstLeads × BlockLeads) (passed L.columns (is_end p L (tableau_of c)) last)
      (both FirstLeads BlockLeads first-leads (each_pair L.columns L.columns Leads leads))))

  abbrev FirstFrom : Type 0
  FirstFrom = (x : ℕ) → x < L.columns → first x ≡ true → IsFromFree p L (tableau_of c) x

  abbrev LastTo : Type 0
  LastTo = (x : ℕ) → x < L.columns → last x ≡ true → ReachesEnd p L (tableau_of c) x

  abbrev Meet : ℕ → ℕ → Type 0
  Meet x y = InBlock L.columns first last x → InBlock L.columns first last y → block x ≡ block y → Mutual arc L.columns x y

  meet : (x y : ℕ) → x < L.columns → y < L.columns → Decided (Meet x y)
  meet x y xl yl = implied (InBlock L.columns first last x) (InBlock L.columns first last y → block x ≡ block y → Mutual arc L.columns x y)
      (in_block L.columns first last x xl)
      (λ _. implied (InBlock L.columns first last y) (block x ≡ block y → Mutual arc L.columns x y) (in_block L.columns first last y yl)
      (λ _. implied (block x ≡ block y) (Mutual arc L.columns x y) (equal (block x) (block y)) (λ _. reach_both arc L.columns x y xl yl)))

  pub reasons : Decided (HasReasons p L c)
  reasons = moved (FirstFrom × (LastTo × ((x y : ℕ) → x < L.columns → y < L.columns → Meet x y))) (HasReasons p L c)
      (λ h. record { first_from = h.0; last_to = h.1.0; block_mutual = λ x y ix iy same. h.1.1 x y ix.below iy.below ix iy same })
      (λ r. (r.first_from, (r.last_to, λ x y xl yl ix iy same. r.block_mutual x y ix iy same)))
      (both FirstFrom (LastTo × ((x y : ℕ) → x < L.columns → y < L.columns → Meet x y))
      (each_number L.columns (λ x. first x ≡ true → IsFromFree p L (tableau_of c) x)
      (λ x xl. implied (first x ≡ true) (IsFromFree p L (tableau_of c) x) (holds (first x)) (λ _. from_or_not arc L.columns (is_free (tableau_of c)) x xl)))
      (both LastTo ((x y : ℕ) → x < L.columns → y < L.columns → Meet x y)
      (each_number L.columns (λ x. last x ≡ true → ReachesEnd p L (tableau_of c) x)
      (λ x xl. implied (last x ≡ true) (ReachesEnd p L (tableau_of c) x) (holds (last x)) (λ _. to_or_not arc L.columns (is_end p L (tableau_of c)) x xl)))
      (each_pair L.columns L.columns Meet meet)))
