use Rattle.std.proofs.Common.{◌≡◌, ℕ, ◌<◌, List, Bool, true, false, length, map, slice_index, ap, sym, subst, ◌∙◌}
use Rattle.std.specs.List.{All}
use Rattle.std.proofs.lemmas.List.{length-replicate}
use Rattle.part_arcs.specs.Marking.{first_numbers, row_of_lists}
use Rattle.part_arcs.proofs.Gathered.{keys-as, keys-low, symbols-low}
use Rattle.part_rules.specs.Listed.{marked}
use Rattle.solve_plan.specs.Marks.{AreMembersOf, IsItem, Marks, OfSome, Unmarks}
use Rattle.solve_plan.proofs.EntryPlaces.{uses-told}
use Rattle.solve_plan.proofs.MarkSets.{listed-back, listed-low}
use Rattle.solve_plan.proofs.planning.uses.Goals as goal

pub mark_rows-requires-clause-rows : goal.mark_rows-requires-clause-rows
mark_rows-requires-clause-rows g c =
    let form = c.args.form.now in
    keys-low g.F.Field.number g.F.Field.modulus form.shape.q_rows form.shape.columns
    (length c.args.marks.now) c.as_slice.result.now c.p.result.now form.p c.p.ensures.ccf.p c.as_slice.ensures c.p.ensures.p
    (sym (ap length c.requires.clear ∙ length-replicate form.shape.columns false))

pub mark_lists-requires-clause-lists : goal.mark_lists-requires-clause-lists
mark_lists-requires-clause-lists g c =
    let form = c.args.form.now in
    symbols-low form.shape.t_rows form.shape.columns (length c.mark_rows.new.marks) c.as_slice-3.result.now form.t c.t.ensures.ccf.t
    (c.as_slice-3.ensures ∙ c.t.ensures.t)
    (sym (c.mark_rows.ensures.count ∙ ap length c.requires.clear ∙ length-replicate form.shape.columns false))

pub unmark_numbers-requires-2 : goal.unmark_numbers-requires-2
unmark_numbers-requires-2 g c =
    let n = c.args.form.now.shape.columns in
    let marks = c.unmark_numbers.new.marks in
    let list = c.in_ok-list.list.items in
    let are : AreMembersOf n (λ i. marked marks i ≡ true) list = subst (λ m. AreMembersOf m (λ i. marked marks i ≡ true) list)
    (ap (λ s. s.columns) c.shape.ensures.shape) c.in_ok-list.ensures in
    subst (All (λ i. i < length marks)) (sym c.deref.ensures.value) (listed-low n marks list (c.unmark_numbers.ensures.count
    ∙ c.mark_lists.ensures.count ∙ c.mark_rows.ensures.count ∙ ap length c.requires.clear ∙ length-replicate n false) are)

pub returns-clause-list : goal.returns-clause-list
returns-clause-list g c =
    let form = c.args.form.now in
    let part = c.args.part.now in
    let none = c.args.marks.now in
    let first = c.mark_rows.new.marks in
    let more = c.mark_lists.new.marks in
    let marks = c.unmark_numbers.new.marks in
    let list = c.in_ok-list.list.items in
    let keys : map first_numbers c.as_slice.result.now ≡ map first_numbers form.p = keys-as g.F.Field.number c.as_slice.result.now c.p.result.now form.p
    c.as_slice.ensures c.p.ensures.p in
    let Listed : List (List ℕ) → List ℕ → List Bool → List Bool → Type 0 = λ lists list old now. Marks (OfSome (length list) (λ k. IsItem
    (row_of_lists lists (slice_index list k)))) old now in
    let one : Listed (map first_numbers form.p) part.q_rows none first = subst (λ list. Listed (map first_numbers form.p) list none first) c.as_slice-2.ensures
    (subst (λ lists. Listed lists c.as_slice-2.result.now none first) keys c.mark_rows.ensures) in
    let two : Listed form.t part.t_rows first more = subst (λ list. Listed form.t list first more) c.as_slice-4.ensures
    (subst (λ lists. Listed lists c.as_slice-4.result.now first more) (c.as_slice-3.ensures ∙ c.t.ensures.t) c.mark_lists.ensures) in
    let three : Unmarks (IsItem part.columns) more marks = subst (λ list. Unmarks (IsItem list) more marks) c.as_slice-5.ensures c.unmark_numbers.ensures in
    uses-told g.F.Field.modulus form c.shape.ensures.ccf part c.requires.part none first more marks c.requires.clear one two three list
    (subst (λ m. AreMembersOf m (λ i. marked marks i ≡ true) list) (ap (λ s. s.columns) c.shape.ensures.shape) c.in_ok-list.ensures)

pub returns-clause-clear : goal.returns-clause-clear
returns-clause-clear g c =
    let n = c.args.form.now.shape.columns in
    let marks = c.unmark_numbers.new.marks in
    let list = c.in_ok-list.list.items in
    let are : AreMembersOf n (λ i. marked marks i ≡ true) list = subst (λ m. AreMembersOf m (λ i. marked marks i ≡ true) list)
    (ap (λ s. s.columns) c.shape.ensures.shape) c.in_ok-list.ensures in
    listed-back n marks list (c.unmark_numbers.ensures.count
    ∙ c.mark_lists.ensures.count ∙ c.mark_rows.ensures.count ∙ ap length c.requires.clear ∙ length-replicate n false) are c.unmark_numbers-2.new.marks
    (subst (λ l. Unmarks (IsItem l) marks c.unmark_numbers-2.new.marks) c.deref.ensures.value c.unmark_numbers-2.ensures)
    ∙ sym c.requires.clear
