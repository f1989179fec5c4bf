-- The places of the parts of a form in the order in which they are solved.
use Rattle.std.proofs.Common.{◌≡◌, ℕ, suc, ◌+◌, ◌-◌, ◌<◌, ◌≤◌, ◌&&◌, ◌==◌, Bool, true, false, cond, List, [], ◌∷◌}
use Rattle.std.proofs.Common.{◌++◌, length, map, get_or, inl, inr, refl, ap, sym, subst, ◌∙◌, arith}
use Rattle.std.proofs.lemmas.Bool.Decides.{nat_tests}
use Rattle.std.proofs.lemmas.List.{get_or_append_left, get_or-append_right, get_or-map, get_or_push, length-append, length-map, nil_from_length}
use Rattle.residue_theory.proofs.SetLaws.{both-first, differ, lt_cases}
use Rattle.residue_theory.specs.Sets.{has}
use Rattle.cert_text.specs.Contents.{Contents}
use Rattle.cert_text.specs.Readings.{column_lists, q_row_lists, t_row_lists}
use Rattle.cert_text.specs.declared.part.CcfBlock.{CcfBlock}
use Rattle.cert_text.specs.declared.part.CcfPart.{CcfPart}
use Rattle.solve_plan.specs.declared.steps.StepPart.{StepPart}
use Rattle.solve_plan.specs.declared.steps.StepPart.TheVariants.{First, Block, Last}
use Rattle.solve_plan.specs.PlanSteps.{block_steps, is_bare, solved_parts, tail_steps}
use Rattle.solve_plan.specs.Plans.{part_number}

-- a part with the lists of place n
pub record StandsAt (c : Contents) (n : ℕ) (of : StepPart × CcfPart) : Type 0 where
  pub number : part_number c of.0 ≡ n
  pub columns : get_or (column_lists c) n [] ≡ of.1.columns
  pub q_rows : get_or (q_row_lists c) n [] ≡ of.1.q_rows
  pub t_rows : get_or (t_row_lists c) n [] ≡ of.1.t_rows

abbrev no_part : CcfPart
no_part = record { columns = []; q_rows = []; t_rows = [] }

no_block : CcfBlock
no_block = record { part = no_part; lower = [] }

-- the place of item k
abbrev pub place : Contents → List (StepPart × CcfPart) → ℕ → ℕ
place c items k = part_number c (get_or items k (First, record { columns = []; q_rows = []; t_rows = [] })).0

-- the items fall from below place high to place low, and no place with a column is left out
pub record Descends (c : Contents) (low high : ℕ) (items : List (StepPart × CcfPart)) : Type 0 where
  pub within : (k : ℕ) → k < length items → (low ≤ place c items k) × (place c items k < high)
  pub stands : (k : ℕ) (of : StepPart × CcfPart) → k < length items → StandsAt c (place c items k) (get_or items k of)
  pub falls : (k l : ℕ) → k < l → l < length items → place c items l < place c items k
  pub every : (n x : ℕ) → low ≤ n → n < high → has (get_or (column_lists c) n []) x ≡ true → (k : ℕ) × (k < length items) × (place c items k ≡ n)

module _ (c : Contents) where
  descends-none : (n : ℕ) → get_or (column_lists c) n [] ≡ [] → Descends c n (n + 1) []
  descends-none n bare = record {
    within = λ k kl. absurd (omega (arith, kl));
    stands = λ k of kl. absurd (omega (arith, kl));
    falls = λ k l less ll. absurd (omega (arith, ll));
    every = λ m x from to h. absurd (differ refl (subst (λ list. has list x ≡ true) bare
        (subst (λ i. has (get_or (column_lists c) i []) x ≡ true) (let q : m ≡ n = omega (arith, from, to) in q) h)));
  }

  descends-one : (n : ℕ) (of : StepPart × CcfPart) → StandsAt c n of → Descends c n (n + 1) (of ∷ [])
  descends-one n of at = record {
    within = λ k kl. subst (λ i. (n ≤ place c (of ∷ []) i) × (place c (of ∷ []) i < n + 1)) (sym (none k kl)) (
      omega (arith, at.number),
      omega
          (arith, at.number),
    );
    stands = λ k d kl. subst (λ i. StandsAt c (place c (of ∷ []) i) (get_or (of ∷ []) i d)) (sym (none k kl)) (subst (λ i. StandsAt c i of)
        (sym at.number) at);
    falls = λ k l less ll. absurd (omega (arith, less, ll));
    every = λ m x from to h. (0, omega arith, omega (arith, at.number, from, to));
  }
    where
      none : (k : ℕ) → k < length (of ∷ []) → k ≡ 0
      none k kl = omega (arith, kl)

  -- items of higher places before others
  module _ (low mid high : ℕ) (xs ys : List (StepPart × CcfPart)) (lm : low ≤ mid) (mh : mid ≤ high) (one : Descends c mid high xs)
      (two : Descends c low mid ys) where
    left : (k : ℕ) → k < length xs → (of : StepPart × CcfPart) → get_or (xs ++ ys) k of ≡ get_or xs k of
    left k kl of = get_or_append_left xs ys of k kl

    right : (k : ℕ) → length xs ≤ k → (of : StepPart × CcfPart) → get_or (xs ++ ys) k of ≡ get_or ys (k - length xs) of
    right k kl of = get_or-append_right xs ys (length xs) k of refl kl

    place-left : (k : ℕ) → k < length xs → place c (xs ++ ys) k ≡ place c xs k
    place-left k kl = ap (λ of. part_number c of.0) (left k kl (First, no_part))

    place-right : (k : ℕ) → length xs ≤ k → place c (xs ++ ys) k ≡ place c ys (k - length xs)
    place-right k kl = ap (λ of. part_number c of.0) (right k kl (First, no_part))

    rest : (k : ℕ) → length xs ≤ k → k < length (xs ++ ys) → k - length xs < length ys
    rest k more kl = omega (arith, more, kl, length-append xs ys)

    descends-append : Descends c low high (xs ++ ys)
    descends-append = record {
      within = λ k kl. elim (lt_cases k (length xs)) [
        | inl less ↦ let at = one.within k less in (omega (arith, at.0, lm, place-left k less), omega (arith, at.1, place-left k less))
        | inr more ↦ let at = two.within (k - length xs) (rest k more kl) in (
          omega (arith, at.0, place-right k more),
          omega
              (arith, at.1, mh, place-right k more),
        )
      ];
      stands = λ k of kl. elim (lt_cases k (length xs)) [
        | inl less ↦ subst (λ n. StandsAt c n (get_or (xs ++ ys) k of)) (sym (place-left k less)) (subst (StandsAt c (place c xs k)) (sym
            (left k less of)) (one.stands k of less))
        | inr more ↦ subst (λ n. StandsAt c n (get_or (xs ++ ys) k of)) (sym (place-right k more))
            (subst (StandsAt c (place c ys (k - length xs))) (sym (right k more of)) (two.stands (k - length xs) of (rest k more kl)))
      ];
      falls = λ k l less ll. elim (lt_cases l (length xs)) [
        | inl early ↦ let kl : k < length xs = omega (arith, less, early) in omega (arith, one.falls k l less early, place-left k kl, place-left l early)
        | inr late ↦ elim (lt_cases k (length xs)) [
          | inl early ↦ omega (arith, (one.within k early).0, (two.within (l - length xs) (rest l late ll)).1, place-left k early, place-right l late)
          | inr after ↦
              let fewer : k - length xs < l - length xs = omega (arith, less, after, late) in
              omega (arith, two.falls (k - length xs) (l - length xs) fewer (rest l late ll), place-right k after, place-right l late)
        ]
      ];
      every = λ n x from to h. elim (lt_cases n mid) [
        | inl less ↦
            let at = two.every n x from less h in
            let k : ℕ = length xs + at.0 in
            let after : length xs ≤ k = omega arith in
            let back : k - length xs ≡ at.0 = omega arith in
            (k, omega (arith, at.1, length-append xs ys), place-right k after ∙ ap (λ i. place c ys i) back ∙ at.2)
        | inr more ↦
            let at = one.every n x more to h in
            (at.0, omega (arith, at.1, length-append xs ys), place-left at.0 at.1 ∙ at.2)
      ];
    }

  -- a tail that makes no step has no column
  tail-descends : (n : ℕ) (name : StepPart) (part : CcfPart) → StandsAt c n (name, part) → Descends c n (n + 1) (tail_steps name part)
  tail-descends n name part at = go (is_bare part) refl
    where
      go : (b : Bool) → is_bare part ≡ b → Descends c n (n + 1) (cond b [] ((name, part) ∷ []))
      go false e = descends-one n (name, part) at
      go true e = descends-none n (at.columns ∙ nil_from_length part.columns (zero_from (length part.columns) (both-first (length part.columns == 0)
          ((length part.q_rows == 0) && (length part.t_rows == 0)) e)))
        where
          zero_from : (m : ℕ) → (m == 0) ≡ true → m ≡ 0
          zero_from m h = grind (arith, nat_tests)

  -- blocks k and on
  blocks-descend : (blocks : List CcfBlock) (k : ℕ) → ((i m : ℕ) → i < length blocks → m ≡ k + i →
      StandsAt c (m + 1) (Block m, (get_or blocks i no_block).part)) →
      Descends c (k + 1) (k + length blocks + 1) (block_steps k blocks)
  blocks-descend [] k at = record {
    within = λ i il. absurd (omega (arith, il));
    stands = λ i of il. absurd (omega (arith, il));
    falls = λ i l less ll. absurd (omega (arith, ll));
    every = λ n x from to h. absurd (omega (arith, from, to));
  }
  blocks-descend (block ∷ blocks) k at =
      let later : Descends c (k + 1 + 1) (k + 1 + length blocks + 1) (block_steps (k + 1) blocks) =
      blocks-descend blocks (k + 1) (λ i m il e. at (suc i) m (omega (arith, il)) (omega (arith, e))) in
      let here : Descends c (k + 1) (k + 1 + 1) ((Block k, block.part) ∷ []) = descends-one (k + 1) (Block k, block.part) (at 0 k (omega arith)
      (omega arith)) in
      subst (λ n. Descends c (k + 1) n (block_steps (k + 1) blocks ++ (Block k, block.part) ∷ [])) (let q : k + 1 + length blocks + 1 ≡ k + length
      (block ∷ blocks) + 1 = omega arith in q)
      (descends-append (k + 1) (k + 1 + 1) (k + 1 + length blocks + 1) (block_steps (k + 1) blocks) ((Block k, block.part) ∷ []) (omega arith)
      (omega arith) later here)

  -- the lists of a block and of the last tail
  module _ (of : CcfPart → List ℕ) where
    abbrev part_lists : List (List ℕ)
    part_lists = of c.first ∷ (map (λ (block : CcfBlock). of block.part) c.blocks ++ of c.last ∷ [])

    list-at : (i : ℕ) → i < length c.blocks → get_or part_lists (i + 1) [] ≡ of (get_or c.blocks i no_block).part
    list-at i il =
        let f : CcfBlock → List ℕ = λ block. of block.part in
        ap (λ n. get_or part_lists n []) (let q : i + 1 ≡ suc i = omega arith in q)
        ∙ get_or_append_left (map f c.blocks) (of c.last ∷ []) [] i (omega (arith, il, length-map c.blocks f)) ∙ get_or-map f c.blocks i no_block [] il

    list-last : get_or part_lists (length c.blocks + 1) [] ≡ of c.last
    list-last =
        let f : CcfBlock → List ℕ = λ block. of block.part in
        ap (λ n. get_or part_lists n []) (let q : length c.blocks + 1 ≡ suc (length c.blocks) = omega arith in q)
        ∙ get_or_push (map f c.blocks) (of c.last) [] (length c.blocks) (length-map c.blocks f)

  -- each part once, and each with its lists
  pub parts-descend : Descends c 0 (length c.blocks + 2) (solved_parts c)
  parts-descend =
      let b = length c.blocks in
      let last : Descends c (b + 1) (b + 2) (tail_steps Last c.last) = subst (λ n. Descends c (b + 1) n (tail_steps Last c.last))
      (let q : b + 1 + 1 ≡ b + 2 = omega arith in q)
      (tail-descends (b + 1) Last c.last (record {
        number = refl;
        columns = list-last (λ part. part.columns);
        q_rows = list-last (λ part. part.q_rows);
        t_rows = list-last (λ part. part.t_rows);
      })) in
      let blocks : Descends c 1 (b + 1) (block_steps 0 c.blocks) = subst (λ n. Descends c 1 n (block_steps 0 c.blocks))
      (let q : 0 + b + 1 ≡ b + 1 = omega arith in q)
      (blocks-descend c.blocks 0 (λ i m il e. subst (λ j. StandsAt c (j + 1) (Block j, (get_or c.blocks i no_block).part)) (let q : i ≡ m = omega
      (arith, e) in q) (record {
        number = refl;
        columns = list-at (λ part. part.columns) i il;
        q_rows = list-at (λ part. part.q_rows) i il;
        t_rows = list-at (λ part. part.t_rows) i il;
      }))) in
      let first : Descends c 0 1 (tail_steps First c.first) = tail-descends 0 First c.first
      (record { number = refl; columns = refl; q_rows = refl; t_rows = refl }) in
      descends-append 0 1 (b + 2) (tail_steps Last c.last ++ block_steps 0 c.blocks) (tail_steps First c.first) (omega arith) (omega arith)
      (descends-append 1 (b + 1) (b + 2) (tail_steps Last c.last) (block_steps 0 c.blocks) (omega arith) (omega arith) last blocks) first
