-- The parts of a form by their numbers.
use Rattle.std.proofs.Common.{◌≡◌, ℕ, suc, ◌+◌, ◌-◌, ◌<◌, ◌≤◌, ◌↔◌, true, eqb, List, [], ◌∷◌, ◌++◌, length, map}
use Rattle.std.proofs.Common.{get_or, slice_index, slice_index_or, refl, sym, subst, ◌∙◌, arith}
use Rattle.std.proofs.lemmas.List.{get_or-map, get_or_append_left, length-append, length-map}
use Rattle.residue_theory.proofs.SetLaws.{either-first, eqb_true, eqb_from}
use Rattle.residue_theory.specs.Sets.{has}
use Rattle.mixed_matrices.specs.CheckerRules.{block_of, in_first, in_last}
use Rattle.cert_text.specs.Contents.{Contents}
use Rattle.cert_text.specs.declared.part.CcfBlock.{CcfBlock}
use Rattle.cert_text.specs.Ranges.{IsCcf}
use Rattle.cert_text.specs.Readings.{column_lists, parts_of, place_of}
use Rattle.cert_text.proofs.PrintedRules.{place-is}
use Rattle.part_rules.specs.Parts.{AreNumbered}
use Rattle.part_checker.specs.Told.{TellsParts}

nothing : CcfBlock
nothing = record { part = record { columns = []; q_rows = []; t_rows = [] }; lower = [] }

has-first : (xs : List ℕ) → 0 < length xs → has xs (get_or xs 0 0) ≡ true
has-first [] some = absurd (omega arith)
has-first (x ∷ xs) some = either-first (eqb x x) (has xs x) (eqb_from x x refl)

list-count : (c : Contents) → length (column_lists c) ≡ length c.blocks + 2
list-count c =
    let f : CcfBlock → List ℕ = λ block. block.part.columns in
    let long : length (map f c.blocks) ≡ length c.blocks = length-map c.blocks f in
    let all : length (map f c.blocks ++ c.last.columns ∷ []) ≡ length (map f c.blocks) + 1 = length-append (map f c.blocks) (c.last.columns ∷ []) in
    omega (arith, long, all)

block-list : (c : Contents) (k : ℕ) → k < length c.blocks → get_or (column_lists c) (suc k) [] ≡ (get_or c.blocks k nothing).part.columns
block-list c k within =
    let f : CcfBlock → List ℕ = λ block. block.part.columns in
    let long : length (map f c.blocks) ≡ length c.blocks = length-map c.blocks f in
    get_or_append_left (map f c.blocks) (c.last.columns ∷ []) [] k (omega (arith, long, within)) ∙ get_or-map f c.blocks k nothing [] within

module _ (p : ℕ) (c : Contents) (is : IsCcf p c) (parts : List ℕ) (T : TellsParts c parts) where
  n : ℕ
  n = c.shape.columns

  place-low : (x : ℕ) → x < c.shape.columns → place_of (column_lists c) x < length c.blocks + 2
  place-low x xl = go (T.once.some x xl)
    where
      go : ((k : ℕ) × (k < length (column_lists c)) × (has (slice_index_or (column_lists c) k []) x ≡ true)) → place_of (column_lists c) x < length c.blocks + 2
      go (k, kl, h) = let at : place_of (column_lists c) x ≡ k = place-is c.shape.columns
          (column_lists c) T.once x k xl kl h in let count = list-count c in omega (arith, at, kl, count)

  -- each block has a column
  pub block-member : (k : ℕ) → k < length c.blocks → (x : ℕ) × (x < c.shape.columns) × (slice_index parts x ≡ k + 2)
  block-member k kb =
      let block = is.blocks k nothing kb in
      let columns : List ℕ = (get_or c.blocks k nothing).part.columns in
      let x : ℕ = get_or columns 0 0 in
      let xl : x < c.shape.columns = (block.part.columns).below 0 0 block.some in
      let count = list-count c in
      let at : place_of (column_lists c) x ≡ suc k = place-is c.shape.columns (column_lists c) T.once x (suc k) xl
      (omega (arith, kb, count)) (subst (λ list. has list x ≡ true) (sym (block-list c k kb))
      (has-first columns block.some)) in
      let told : slice_index parts x ≡ place_of (column_lists c) x + 1 = T.part x xl in
      (x, xl, omega (arith, at, told))

  pub parts-numbered : AreNumbered c.shape.columns (length c.blocks) (in_first (parts_of c)) (in_last (parts_of c)) (block_of (parts_of c)) (slice_index parts)
  parts-numbered = record {
    from = λ x xl. let told = T.part x xl in omega (arith, told);
    to = λ x xl. let told = T.part x xl in let low = place-low x xl in omega (arith, told, low);
    first = λ x xl. first x xl;
    last = λ x xl. last x xl;
    number = λ x xl more less. number x (T.part x xl) more;
    member = block-member;
  }
    where
      first : (x : ℕ) → x < c.shape.columns → (eqb (place_of (column_lists c) x) 0 ≡ true) ↔ (slice_index parts x ≡ 1)
      first x xl = let told = T.part x xl in (
        λ h. let at : place_of (column_lists c) x ≡ 0 = eqb_true (place_of (column_lists c) x) 0 h in omega (arith, told, at),
        λ one. eqb_from (place_of (column_lists c) x) 0 (omega (arith, told, one)),
      )

      last : (x : ℕ) → x < c.shape.columns → (eqb (place_of (column_lists c) x) (length c.blocks + 1) ≡ true) ↔ (slice_index parts x ≡ length c.blocks + 2)
      last x xl = let told = T.part x xl in (
        λ h. let at : place_of (column_lists c) x ≡ length c.blocks + 1 = eqb_true (place_of (column_lists c) x)
            (length c.blocks + 1) h in omega (arith, told, at),
        λ end. eqb_from (place_of (column_lists c) x) (length c.blocks + 1) (omega (arith, told, end)),
      )

      number : (x : ℕ) → slice_index parts x ≡ place_of (column_lists c) x + 1 → 1 < slice_index parts x →
          (place_of (column_lists c) x - 1) + 2 ≡ slice_index parts x
      number x told more = omega (arith, told, more)

  -- a place of each block, as many places as there are parts told
  pub block-place : (k : ℕ) → k < length c.blocks → (x : ℕ) × (x < length parts) × (slice_index parts x ≡ k + 2)
  block-place k kb = let x = block-member k kb in (x.0, subst (λ m. x.0 < m) (sym T.count) x.1, x.2)

  pub part-range : (x : ℕ) → x < length parts → (1 ≤ slice_index parts x) × (slice_index parts x ≤ length c.blocks + 2)
  part-range x xl = let low : x < c.shape.columns = subst (λ m. x < m) T.count xl in (parts-numbered.from x low, parts-numbered.to x low)
