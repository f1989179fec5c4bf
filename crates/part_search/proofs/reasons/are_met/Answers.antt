use Rattle.std.proofs.Common.{false, length, slice_index, sym, subst, refl}
use Rattle.residue_theory.proofs.SetLaws.{differ}
use Rattle.part_rules.specs.Listed.{AreReached, AreReaching, arc_in, inner, marked}
use Rattle.part_search.specs.Steps.{AreMarkedBut}
use Rattle.part_search.proofs.MetLaws.{searched}
use Rattle.part_search.proofs.reasons.are_met.Goals as goal

pub returns-then-not-are_marked_but : goal.returns-then-not-are_marked_but
returns-then-not-are_marked_but c =
    let parts = c.args.parts.now in
    let within = inner (arc_in c.args.arcs.now) (slice_index parts) in
    searched within parts c.args.heads.now c.args.starts.now c.args.ends.now c.in_ok-low.low.items
    c.in_ok-high.high.items c.in_ok-from.from.items c.in_ok-to.to.items c.args.last false c.requires.starts
    c.requires.ends c.requires.last
    c.in_ok-low.ensures.seeds c.in_ok-high.ensures.seeds
    (subst (λ marks. AreReached within (length parts) (marked marks) c.in_ok-from.from.items) c.deref.ensures.value c.in_ok-from.ensures)
    (subst (λ marks. AreReaching within (length parts) (marked marks) c.in_ok-to.to.items) c.deref-2.ensures.value c.in_ok-to.ensures) (
      (λ f. absurd (cc)),
      (λ met. absurd
          (differ c.if-not-are_marked_but.true
          (c.are_marked_but.ensures.1
          (subst (λ marks. AreMarkedBut marks parts c.args.last (length parts)) (sym c.deref-3.ensures.value) met.0)))),
    )

pub returns : goal.returns
returns c =
    let parts = c.args.parts.now in
    let within = inner (arc_in c.args.arcs.now) (slice_index parts) in
    searched within parts c.args.heads.now c.args.starts.now c.args.ends.now c.in_ok-low.low.items
    c.in_ok-high.high.items c.in_ok-from.from.items c.in_ok-to.to.items c.args.last c.are_marked_but-2.result
    c.requires.starts c.requires.ends c.requires.last
    c.in_ok-low.ensures.seeds c.in_ok-high.ensures.seeds
    (subst (λ marks. AreReached within (length parts) (marked marks) c.in_ok-from.from.items) c.deref.ensures.value c.in_ok-from.ensures)
    (subst (λ marks. AreReaching within (length parts) (marked marks) c.in_ok-to.to.items) c.deref-2.ensures.value c.in_ok-to.ensures) (
      (λ t. (
        subst (λ marks. AreMarkedBut marks parts c.args.last (length parts)) c.deref-3.ensures.value (c.if-not-are_marked_but.ensures.0 refl),
        subst (λ marks. AreMarkedBut marks parts 1 (length parts)) c.deref-4.ensures.value (c.are_marked_but-2.ensures.0 t),
      )),
      (λ met. c.are_marked_but-2.ensures.1 (subst (λ marks. AreMarkedBut marks parts 1 (length parts)) (sym c.deref-4.ensures.value) met.1)),
    )
