use Rattle.std.proofs.Common.{◌≡◌, ℕ, ◌+◌, ◌-◌, ◌<◌, List, ap, arith, length, map, slice_index_or, subst, sym, ◌∙◌}
use Rattle.std.proofs.lemmas.List.{get_or_default, length-map, with_items_is}
use Rattle.std.specs.List.{All}
use Rattle.block_solver.proofs.RisingLists.{rising-short}
use Rattle.cert_text.specs.declared.part.CcfBlock.{CcfBlock}
use Rattle.block_solver.specs.Blocks.{ChangesPart, IsRegularPart, IsSolving, BlockSystem, block_system}
use Rattle.block_solver.proofs.SolvedParts.{solving-first, solving-next}
use Rattle.block_solver.proofs.blocks.solve_blocks.Goals as goal

pub loop-k-init : goal.loop-k-init
loop-k-init g c =
    let number = g.F.Field.number in
    solving-first g.F.Field.modulus (block_system number c.args.p.now c.args.t.now c.args.p_right.now c.args.t_right.now) c.args.n c.args.blocks.now
    (map number c.in_ok-x.x.items) c.in_ok-x.ensures

pub loop-k-preserved : goal.loop-k-preserved
loop-k-preserved g c =
    let p = g.F.Field.modulus in
    let number = g.F.Field.number in
    let s : BlockSystem = block_system number c.args.p.now c.args.t.now c.args.p_right.now c.args.t_right.now in
    let blocks = c.args.blocks.now in
    let k : ℕ = c.loop-k.k - 1 in
    let d = c.index-blocks-k.result in
    let old = c.deref_mut.result.now in
    let new = c.solve_part.new.x in
    let changed : ChangesPart (slice_index_or blocks (c.loop-k.k - 1) d).part (map number old) (map number new) = c.solve_part.ensures.changed in
    subst (λ (xs : List g.row.F.Denot). IsSolving p s c.args.n blocks (map number xs) (c.loop-k.k - 1))
    (sym (with_items_is c.loop-k.x new (sym (length-map new number) ∙ changed.count ∙ length-map old number ∙ c.deref_mut.ensures.len)))
    (solving-next p s c.args.n blocks c.requires.blocks (map number old) (map number new) (c.loop-k.k - 1) d
    (omega (arith, c.loop-k-test.true, c.loop-k.auto.k))
    (subst (λ (xs : List g.row.F.Denot). IsSolving p s c.args.n blocks (map number xs) (c.loop-k.k - 1 + 1)) (sym c.deref_mut.ensures.value)
    (subst (λ i. IsSolving p s c.args.n blocks (map number c.loop-k.x.items) i)
    (let e : c.loop-k.k ≡ c.loop-k.k - 1 + 1 = omega (arith, c.loop-k-test.true) in e) c.loop-k.invariant))
    changed
    (c.in_ok-solve_part.ensures.regular c.if-not-branch.false)
    (c.in_ok-solve_part.ensures.solved c.if-not-branch.false))

pub returns-then-not-branch : goal.returns-then-not-branch
returns-then-not-branch g c =
    let p = g.F.Field.modulus in
    let number = g.F.Field.number in
    let s : BlockSystem = block_system number c.args.p.now c.args.t.now c.args.p_right.now c.args.t_right.now in
    let blocks = c.args.blocks.now in
    let b = c.index-blocks-k.result in
    let kl : c.loop-k.k - 1 < length blocks = omega (arith, c.loop-k-test.true, c.loop-k.auto.k) in
    let back : c.loop-k.k - 1 ≡ c.loop-k.k - 1 + 1 - 1 = omega arith in (
      omega arith,
      omega (arith, kl),
      λ d r. c.in_ok-solve_part.ensures.singular c.if-not-branch.true
          (subst (λ (e : CcfBlock). IsRegularPart p s e.part)
          (get_or_default blocks (c.loop-k.k - 1) d b kl)
          (subst (λ i. IsRegularPart p s (slice_index_or blocks i d).part) (sym back) r)),
      λ j d le less. c.loop-k.invariant.regular j d (omega (arith, le, c.loop-k-test.true)) less,
    )

pub solve_part-requires-clause-narrow : goal.solve_part-requires-clause-narrow
solve_part-requires-clause-narrow g c =
    let blocks = c.args.blocks.now in
    let b = c.index-blocks-k.result in
    let kl : c.loop-k.k - 1 < length blocks = omega (arith, c.loop-k-test.true, c.loop-k.auto.k) in
    let fits = c.requires.blocks.each (c.loop-k.k - 1) b kl in
    let same : slice_index_or blocks (c.loop-k.k - 1) b ≡ b = sym c.index-blocks-k.is in
    omega (
      arith,
      c.requires.narrow,
      ap (λ (e : CcfBlock). length e.part.columns) same,
      rising-short (slice_index_or blocks (c.loop-k.k - 1) b).part.columns c.args.n fits.columns.rising (λ i il. fits.columns.below i 0 il),
    )

pub solve_part-requires-clause-p_rows : goal.solve_part-requires-clause-p_rows
solve_part-requires-clause-p_rows g c =
    let x = c.deref_mut.result.now in
    let long : length x ≡ c.args.n = ap length c.deref_mut.ensures.value ∙ sym (length-map c.loop-k.x.items g.F.Field.number) ∙ c.loop-k.invariant.count in
    subst (λ n. All (λ row. All (λ entry. entry.0 < n) row) c.args.p.now) (sym long) c.requires.p_rows

pub solve_part-requires-clause-t_rows : goal.solve_part-requires-clause-t_rows
solve_part-requires-clause-t_rows g c =
    let x = c.deref_mut.result.now in
    let long : length x ≡ c.args.n = ap length c.deref_mut.ensures.value ∙ sym (length-map c.loop-k.x.items g.F.Field.number) ∙ c.loop-k.invariant.count in
    subst (λ n. All (λ row. All (λ entry. entry.0 < n) row) c.args.t.now) (sym long) c.requires.t_rows
