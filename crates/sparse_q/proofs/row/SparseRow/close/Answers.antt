use Rattle.std.proofs.Common.{◌≡◌, ◌-◌, ◌<◌, ◌∙◌, ap, map, length, sym, subst}
use Rattle.std.proofs.lemmas.List.{with_items_is, length-map}
use Rattle.linear_algebra.specs.Parts.{skip, unskip}
use Rattle.row_entries.specs.Rows.{items}
use Rattle.sparse_q.specs.Rows.{Row, entry_moved, number_at}
use Rattle.sparse_q.specs.Storage.{IsKeptRow}
use Rattle.sparse_q.proofs.EditLaws.{lowered-kept, lowered-numbers}
use Rattle.sparse_q.proofs.row.SparseRow.close.Goals as goal

pub invariant_of-self : goal.invariant_of-self
invariant_of-self g c =
    let number = g.F.Field.number in
    let xs = c.self.inside.entries.items in
    let narrow = subst (λ (r : Row). c.args.at < r.width) (sym c.self.view_is) c.requires.at in
    let none = subst (λ (r : Row). number_at r.items c.args.at ≡ 0) (sym c.self.view_is) c.requires.none in
    let is : c.lower.new.entries ≡ map (entry_moved (unskip c.args.at)) xs =
    c.lower.ensures ∙ ap (map (entry_moved (unskip c.args.at))) c.deref_mut.ensures.value in (
      subst (λ es. IsKeptRow g.F.Field.modulus (c.self.inside.width - 1) c.self.inside.room (items number es))
          (sym (with_items_is c.self.inside.entries c.lower.new.entries
          (ap (λ es. length es) is ∙ length-map xs (entry_moved (unskip c.args.at)) ∙ sym c.self.inside.entries.ok.0)))
          (lowered-kept number g.F.Field.modulus c.self.inside.width c.self.inside.room c.args.at xs c.lower.new.entries
          c.self.invariant.0 is narrow none),
      c.self.invariant.1,
    )

pub returns-clause-numbers : goal.returns-clause-numbers
returns-clause-numbers g c j =
    let number = g.F.Field.number in
    let xs = c.self.inside.entries.items in
    let none = subst (λ (r : Row). number_at r.items c.args.at ≡ 0) (sym c.self.view_is) c.requires.none in
    let is : c.lower.new.entries ≡ map (entry_moved (unskip c.args.at)) xs =
    c.lower.ensures ∙ ap (map (entry_moved (unskip c.args.at))) c.deref_mut.ensures.value in
    ap (λ es. number_at (items number es) j) (with_items_is c.self.inside.entries c.lower.new.entries
    (ap (λ es. length es) is ∙ length-map xs (entry_moved (unskip c.args.at)) ∙ sym c.self.inside.entries.ok.0))
    ∙ lowered-numbers number g.F.Field.modulus c.self.inside.width c.self.inside.room c.args.at xs c.lower.new.entries
    c.self.invariant.0 is none j
    ∙ ap (λ (r : Row). number_at r.items (skip c.args.at j)) c.self.view_is
