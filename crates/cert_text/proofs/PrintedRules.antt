-- The rules of printed parts, taken together and one by one.
use Rattle.std.proofs.Common.{◌≡◌, ℕ, zero, suc, ◌+◌, ◌-◌, ◌<◌, ◌≤◌, Bool, true, false, cond, eqb, inl, inr, List, []}
use Rattle.std.proofs.Common.{◌∷◌, ◌++◌, length, map, get_or, refl, sym, subst, ◌∙◌, arith}
use Rattle.std.specs.List.{All}
use Rattle.std.proofs.lemmas.List.{get_or-map, get_or_past, get_or_append_left, length-map, length-append}
use Rattle.std.proofs.lemmas.List.Elements.{All-head, All-tail}
use Rattle.residue_theory.proofs.SetLaws.{differ, either_cases, either-first, eqb_true, eqb_false, eqb_from, lt_cases, not_true}
use Rattle.closed_sets.specs.Rules.{InBlock, KeepsPlaceRules as KeepsPlaces}
use Rattle.linear_algebra.specs.Products.{IsInverse}
use Rattle.mixed_matrices.specs.Arcs.{is_end, is_free, leads_to}
use Rattle.mixed_matrices.specs.CheckerRules.{KeepsPartRules, block_of, in_first, in_last}
use Rattle.mixed_matrices.specs.LayeredMatrices.{LayeredMatrix}
use Rattle.mixed_matrices.specs.Models.{MixedMatrix}
use Rattle.cert_text.specs.Contents.{Contents}
use Rattle.cert_text.specs.declared.part.CcfBlock.{CcfBlock}
use Rattle.cert_text.specs.Ranges.{IsCcf}
use Rattle.residue_theory.specs.Sets.{has}
use Rattle.cert_text.specs.Readings.{matrix_of, place_of, column_lists, q_row_lists, t_row_lists, parts_of, lower_of, tableau_of, StandsOnce}
use Rattle.cert_text.specs.Right.{HasShape, HasProduct, HasUnitColumns}
use Rattle.cert_text.specs.Rules.{HasMatching, KeepsRules}

-- rules 9 to 12, taken together
pub record HasCheckedParts (p : ℕ) (L : LayeredMatrix) (c : Contents) : Type 0 where
  pub q_rows : StandsOnce L.q_rows (q_row_lists c)
  pub t_rows : StandsOnce L.t_rows (t_row_lists c)
  pub below : ℕ → ℕ → Bool
  pub parts : KeepsPartRules p L (tableau_of c) (parts_of c) below (lower_of c)

pub record KeepsPrintedRules (p : ℕ) (M : MixedMatrix) (L : LayeredMatrix) (c : Contents) : Type 0 where
  pub shape : HasShape M L c
  pub inverse : IsInverse p L.q_rows (matrix_of c.s) (matrix_of c.u)
  pub product_is : HasProduct p L c
  pub units : HasUnitColumns p L c
  pub matching : HasMatching L c
  pub counted : c.rank + L.columns ≡ M.columns + (length c.base + length c.mates)
  pub columns : StandsOnce L.columns (column_lists c)
  pub checked : HasCheckedParts p L c

-- a number that a list holds is below what all its numbers are below
pub has-below : (n : ℕ) (xs : List ℕ) (k : ℕ) → All (λ x. x < n) xs → has xs k ≡ true → k < n
has-below n [] k all h = absurd (differ refl h)
has-below n (x ∷ xs) k all h = elim (either_cases (eqb x k) (has xs k) h) [
  | inl here ↦ subst (λ y. y < n) (eqb_true x k here) (All-head (λ y. y < n) x xs all)
  | inr later ↦ has-below n xs k (All-tail (λ y. y < n) x xs all) later
]

no_block : CcfBlock
no_block = record { part = record { columns = []; q_rows = []; t_rows = [] }; lower = [] }

-- the blocks of a lower list stand before its own
pub lower-before : (p : ℕ) (c : Contents) → IsCcf p c → (k l : ℕ) → lower_of c l k ≡ true → (k < l) × (l < length c.blocks)
lower-before p c is k l h = elim (lt_cases l (length c.blocks)) [
  | inl low ↦
      let same : get_or (map (λ (block : CcfBlock). block.lower) c.blocks) l [] ≡ (get_or c.blocks l no_block).lower =
      get_or-map (λ (block : CcfBlock). block.lower) c.blocks l no_block [] low in
      (has-below l (get_or c.blocks l no_block).lower k ((is.blocks l no_block low).lower).below (subst (λ list. has list k ≡ true) same h), low)
  | inr high ↦
      let same : get_or (map (λ (block : CcfBlock). block.lower) c.blocks) l [] ≡ [] =
      get_or_past (map (λ (block : CcfBlock). block.lower) c.blocks) l []
      (subst (λ n. n ≤ l) (sym (length-map c.blocks (λ (block : CcfBlock). block.lower))) high) in
      absurd (differ refl (subst (λ list. has list k ≡ true) same h))
]

-- the list at the place of a number that some list holds
held-later : (list : List ℕ) (lists : List (List ℕ)) (x k : ℕ) → has list x ≡ false →
    ((i : ℕ) → i < length lists → has (get_or lists i []) x ≡ true → (place_of lists x < length lists) × (has (get_or lists (place_of lists x) []) x ≡ true)) →
    k < length (list ∷ lists) → has (get_or (list ∷ lists) k []) x ≡ true →
    (suc (place_of lists x) < length (list ∷ lists)) × (has (get_or (list ∷ lists) (suc (place_of lists x)) []) x ≡ true)
held-later list lists x zero e rest within h = absurd (differ e h)
held-later list lists x (suc k) e rest within h = let at = rest k (omega arith) h in (omega (arith, at.0), at.1)

held-step : (b : Bool) (list : List ℕ) (lists : List (List ℕ)) (x k : ℕ) → has list x ≡ b →
    ((i : ℕ) → i < length lists → has (get_or lists i []) x ≡ true → (place_of lists x < length lists) × (has (get_or lists (place_of lists x) []) x ≡ true)) →
    k < length (list ∷ lists) → has (get_or (list ∷ lists) k []) x ≡ true →
    (cond b 0 (suc (place_of lists x)) < length (list ∷ lists)) × (has (get_or (list ∷ lists) (cond b 0 (suc (place_of lists x))) []) x ≡ true)
held-step true list lists x k e rest within h = (omega arith, e)
held-step false list lists x k e rest within h = held-later list lists x k e rest within h

held : (lists : List (List ℕ)) (x k : ℕ) → k < length lists → has (get_or lists k []) x ≡ true →
    (place_of lists x < length lists) × (has (get_or lists (place_of lists x) []) x ≡ true)
held [] x k within h = absurd (omega arith)
held (list ∷ lists) x k within h = held-step (has list x) list lists x k refl (held lists x) within h

-- a number stands at the place of the one list that holds it
pub place-is : (n : ℕ) (lists : List (List ℕ)) → StandsOnce n lists → (x k : ℕ) → x < n → k < length lists →
    has (get_or lists k []) x ≡ true → place_of lists x ≡ k
place-is n lists once x k low within h = let at = held lists x k within h in once.one x (place_of lists x) k low at.0 within at.1 h

-- the columns of block k
block-columns : (c : Contents) (k : ℕ) → k < length c.blocks → (suc k < length (column_lists c))
    × (get_or (column_lists c) (suc k) [] ≡ (get_or c.blocks k no_block).part.columns)
block-columns c k within =
    let f : CcfBlock → List ℕ = λ block. block.part.columns in
    let long : length (map f c.blocks) ≡ length c.blocks = length-map c.blocks f in
    let all : length (map f c.blocks ++ c.last.columns ∷ []) ≡ length (map f c.blocks) + 1 = length-append (map f c.blocks) (c.last.columns ∷ []) in (
      omega (arith, long, all, within),
      get_or_append_left (map f c.blocks) (c.last.columns ∷ []) [] k
          (omega (arith, long, within)) ∙ get_or-map f c.blocks k no_block [] within,
    )

has-first : (xs : List ℕ) → 0 < length xs → has xs (get_or xs 0 0) ≡ true
has-first [] some = absurd (omega arith)
has-first (x ∷ xs) some = either-first (eqb x x) (has xs x) (eqb_from x x refl)

-- each block has a column, which stands in it alone
block-member : (p : ℕ) (M : MixedMatrix) (L : LayeredMatrix) (c : Contents) → IsCcf p c → HasShape M L c →
    StandsOnce L.columns (column_lists c) → (k : ℕ) → k < length c.blocks →
    (x : ℕ) × (x < L.columns) × ((parts_of c).column x ≡ suc k)
block-member p M L c is sizes once k within =
    let block = is.blocks k no_block within in
    let columns : List ℕ = (get_or c.blocks k no_block).part.columns in
    let x : ℕ = get_or columns 0 0 in
    let low : x < L.columns = subst (λ n. x < n) sizes.columns (((block.part).columns).below 0 0 block.some) in
    let at = block-columns c k within in
    (x, low, place-is L.columns (column_lists c) once x (suc k) low at.0 (subst (λ list. has list x ≡ true) (sym at.1) (has-first columns block.some)))

in-block : (L : LayeredMatrix) (c : Contents) (x k : ℕ) → x < L.columns → (parts_of c).column x ≡ suc k →
    k < length c.blocks → InBlock L.columns (in_first (parts_of c)) (in_last (parts_of c)) x × (block_of (parts_of c) x ≡ k)
in-block L c x k low place within = (
  record {
    below = low;
    not_first = not_true (eqb ((parts_of c).column x) 0) (λ h. first-apart ((parts_of c).column x) k place (eqb_true ((parts_of c).column x) 0 h));
    not_last = not_true (eqb ((parts_of c).column x) (length c.blocks + 1))
        (λ h. last-apart ((parts_of c).column x) k (length c.blocks) place within
        (eqb_true ((parts_of c).column x) (length c.blocks + 1) h));
  },
  before-is ((parts_of c).column x) k place,
)
  where
    first-apart : (y k : ℕ) → y ≡ suc k → y ≡ 0 → ⊥
    first-apart y k a b = absurd (omega arith)

    last-apart : (y k b : ℕ) → y ≡ suc k → k < b → y ≡ b + 1 → ⊥
    last-apart y k b a low e = absurd (omega arith)

    before-is : (y k : ℕ) → y ≡ suc k → y - 1 ≡ k
    before-is y k a = omega arith

block-number : (y b : ℕ) → y ≤ b + 1 → eqb y 0 ≡ false → eqb y (b + 1) ≡ false → y - 1 < b
block-number y b few first last = number y b few (eqb_false y 0 first) (eqb_false y (b + 1) last)
  where
    number : (y b : ℕ) → y ≤ b + 1 → (y ≡ 0 → ⊥) → (y ≡ b + 1 → ⊥) → y - 1 < b
    number y b few first last = omega arith

tails-apart : (y b : ℕ) → eqb y 0 ≡ true → eqb y (b + 1) ≡ true → ⊥
tails-apart y b first last = both (eqb_true y 0 first) (eqb_true y (b + 1) last)
  where
    both : y ≡ 0 → y ≡ b + 1 → ⊥
    both p q = absurd (omega arith)

-- the rules one by one are the rules together
pub rules-printed : (p : ℕ) (M : MixedMatrix) (L : LayeredMatrix) (c : Contents) → IsCcf p c → KeepsRules p M L c → KeepsPrintedRules p M L c
rules-printed p M L c is K = record {
  shape = K.shape;
  inverse = K.inverse;
  product_is = K.product_is;
  units = K.units;
  matching = K.matching;
  counted = K.counted;
  columns = K.columns;
  checked = record {
    q_rows = (K.rows).q_rows;
    t_rows = (K.rows).t_rows;
    below = (K.listing).below;
    parts = record {
      rows = (K.rows).rows;
      rules = record {
        apart = λ x xl first last. tails-apart ((parts_of c).column x) (length c.blocks) first last;
        down = K.arcs;
        reasons = K.reasons;
        number = λ x in_one. block-number ((parts_of c).column x) (length c.blocks) (((K.rows).rows).columns x in_one.below) in_one.not_first in_one.not_last;
        member = λ k kb. let at = block-member p M L c is K.shape K.columns k kb in let stands = in-block L c at.0 k at.1 at.2 kb in (at.0, stands.0, stands.1);
        falling = λ k l h. (lower-before p c is k l h).0;
        least = (K.listing).least;
      };
      order = (K.listing).order;
      lists = (K.listing).lists;
    };
  };
}

pub printed-rules : (p : ℕ) (M : MixedMatrix) (L : LayeredMatrix) (c : Contents) → KeepsPrintedRules p M L c → KeepsRules p M L c
printed-rules p M L c K = record {
  shape = K.shape;
  inverse = K.inverse;
  product_is = K.product_is;
  units = K.units;
  matching = K.matching;
  counted = K.counted;
  columns = K.columns;
  rows = record { q_rows = (K.checked).q_rows; t_rows = (K.checked).t_rows; rows = parts.rows };
  arcs = rules.down;
  reasons = rules.reasons;
  listing = record { below = (K.checked).below; order = parts.order; lists = parts.lists; least = rules.least };
}
  where
    parts : KeepsPartRules p L (tableau_of c) (parts_of c) (K.checked).below (lower_of c)
    parts = (K.checked).parts

    rules : KeepsPlaces (leads_to p L (tableau_of c)) L.columns (is_free (tableau_of c)) (is_end p L (tableau_of c))
        (in_first (parts_of c)) (in_last (parts_of c)) (block_of (parts_of c)) (length c.blocks) (lower_of c)
    rules = parts.rules
