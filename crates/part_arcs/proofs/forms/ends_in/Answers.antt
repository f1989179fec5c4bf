use Rattle.std.proofs.Common.{rules, ◌≡◌, false, length, map, replicate, ap, sym, subst, ◌∙◌}
use Rattle.std.proofs.lemmas.List.{length-map, length-replicate}
use Rattle.part_arcs.specs.Forms.{AreEndsFrom}
use Rattle.part_arcs.specs.Marking.{first_numbers}
use Rattle.part_arcs.proofs.Gathered.{back, ends-form, keys-as, keys-low, marked-as, rows-as, symbols-low}
use Rattle.part_arcs.proofs.forms.ends_in.Goals as goal

pub mark_entries-requires-clause-rows : goal.mark_entries-requires-clause-rows
mark_entries-requires-clause-rows g c =
    let form = c.args.form.now in
    let size : c.shape-3.result.columns ≡ form.shape.columns = ap (λ s. s.columns) c.shape-3.ensures.shape in
    let start : c.deref_mut-3.result.now ≡ replicate c.shape-3.result.columns false = c.deref_mut-3.ensures.value
    ∙ c.in_ok-ends.ensures.items_if_clones_equal (λ y. search rules) in
    keys-low g.F.Field.number g.F.Field.modulus form.shape.q_rows form.shape.columns
    (length c.deref_mut-3.result.now) c.as_slice-3.result.now c.p.result.now form.p c.p.ensures.ccf.p c.as_slice-3.ensures c.p.ensures.p
    (sym (ap length start ∙ length-replicate c.shape-3.result.columns false ∙ size))

pub mark_symbols-requires-clause-rows : goal.mark_symbols-requires-clause-rows
mark_symbols-requires-clause-rows g c =
    let form = c.args.form.now in
    let size : c.shape-3.result.columns ≡ form.shape.columns = ap (λ s. s.columns) c.shape-3.ensures.shape in
    let start : c.deref_mut-3.result.now ≡ replicate c.shape-3.result.columns false = c.deref_mut-3.ensures.value
    ∙ c.in_ok-ends.ensures.items_if_clones_equal (λ y. search rules) in
    let width : length c.deref_mut-3.result.now ≡ form.shape.columns = ap length start ∙ length-replicate c.shape-3.result.columns false ∙ size in
    let long : c.in_ok-ends.ends.len ≡ length c.deref_mut-3.result.now = c.in_ok-ends.ensures.len ∙ size ∙ sym width in
    let middle : c.deref_mut-4.result.now ≡ c.mark_entries.new.marks = c.deref_mut-4.ensures.value
    ∙ back c.in_ok-ends.ends.len c.mark_entries.new.marks c.deref_mut-3.result.now _ long c.mark_entries.ensures.count in
    symbols-low form.shape.t_rows form.shape.columns
    (length c.deref_mut-4.result.now) c.as_slice-4.result.now form.t c.t.ensures.ccf.t (c.as_slice-4.ensures
    ∙ c.t.ensures.t)
    (sym (ap length middle ∙ c.mark_entries.ensures.count ∙ width))

pub returns : goal.returns
returns g c =
    let form = c.args.form.now in
    let q = c.mark_keys.new.marks in
    let t = c.mark_keys-2.new.marks in
    let first = c.mark_entries.new.marks in
    let ends = c.mark_symbols.new.marks in
    let base = c.as_slice.ensures ∙ c.base.ensures.base in
    let mates = c.as_slice-2.ensures ∙ c.mates.ensures.mates in
    let keys : map first_numbers c.as_slice-3.result.now ≡ map first_numbers form.p =
    keys-as g.F.Field.number c.as_slice-3.result.now c.p.result.now form.p c.as_slice-3.ensures c.p.ensures.p in
    let q_size : c.shape.result.q_rows ≡ length (map first_numbers form.p) = ap (λ s. s.q_rows) c.shape.ensures.shape
    ∙ sym (length-map form.p first_numbers ∙ c.p.ensures.ccf.p.count) in
    let q_start : c.deref_mut.result.now ≡ replicate (length (map first_numbers form.p)) false = c.deref_mut.ensures.value
    ∙ c.in_ok-with_base.ensures.items_if_clones_equal (λ y. search rules) ∙ ap (λ m. replicate m false) q_size in
    let q_long : c.in_ok-with_base.with_base.len ≡ length c.deref_mut.result.now = c.in_ok-with_base.ensures.len
    ∙ q_size ∙ sym (ap length q_start ∙ length-replicate (length (map first_numbers form.p)) false) in
    let q_is : c.deref.result.now ≡ q = c.deref.ensures.value
    ∙ back c.in_ok-with_base.with_base.len q c.deref_mut.result.now _ q_long c.mark_keys.ensures.count in
    let t_size : c.shape-2.result.t_rows ≡ length form.t = ap (λ s. s.t_rows) c.shape-2.ensures.shape ∙ sym c.t.ensures.ccf.t.count in
    let t_start : c.deref_mut-2.result.now ≡ replicate (length form.t) false = c.deref_mut-2.ensures.value
    ∙ c.in_ok-with_match.ensures.items_if_clones_equal (λ y. search rules) ∙ ap (λ m. replicate m false) t_size in
    let t_long : c.in_ok-with_match.with_match.len ≡ length c.deref_mut-2.result.now = c.in_ok-with_match.ensures.len
    ∙ t_size ∙ sym (ap length t_start ∙ length-replicate (length form.t) false) in
    let t_is : c.deref-2.result.now ≡ t = c.deref-2.ensures.value
    ∙ back c.in_ok-with_match.with_match.len t c.deref_mut-2.result.now _ t_long c.mark_keys-2.ensures.count in
    let size : c.shape-3.result.columns ≡ form.shape.columns = ap (λ s. s.columns) c.shape-3.ensures.shape in
    let start : c.deref_mut-3.result.now ≡ replicate form.shape.columns false = c.deref_mut-3.ensures.value
    ∙ c.in_ok-ends.ensures.items_if_clones_equal (λ y. search rules) ∙ ap (λ m. replicate m false) size in
    let long : c.in_ok-ends.ends.len ≡ length c.deref_mut-3.result.now = c.in_ok-ends.ensures.len ∙ size
    ∙ sym (ap length start ∙ length-replicate form.shape.columns false) in
    let middle : c.deref_mut-4.result.now ≡ first = c.deref_mut-4.ensures.value
    ∙ back c.in_ok-ends.ends.len first c.deref_mut-3.result.now _ long c.mark_entries.ensures.count in
    subst (AreEndsFrom form) (sym (back c.in_ok-ends.ends.len ends c.deref_mut-3.result.now _ long
    (c.mark_symbols.ensures.count ∙ ap length middle ∙ c.mark_entries.ensures.count)))
    (ends-form form q t first ends
    (marked-as (first_numbers c.as_slice.result.now) (first_numbers form.base) (length c.as_slice.result.now)
    (length form.base) c.deref_mut.result.now (replicate (length (map first_numbers form.p)) false) q
    (ap first_numbers base) (ap length base) q_start c.mark_keys.ensures)
    (marked-as (first_numbers c.as_slice-2.result.now) (first_numbers form.mates) (length c.as_slice-2.result.now)
    (length form.mates) c.deref_mut-2.result.now (replicate (length form.t) false) t (ap first_numbers mates)
    (ap length mates) t_start c.mark_keys-2.ensures)
    (rows-as c.deref.result.now q (map first_numbers c.as_slice-3.result.now) (map first_numbers form.p)
    (length c.as_slice-3.result.now) (length (map first_numbers form.p)) c.deref_mut-3.result.now
    (replicate form.shape.columns false) first q_is keys
    (sym (length-map c.as_slice-3.result.now first_numbers) ∙ ap length keys) start c.mark_entries.ensures)
    (rows-as c.deref-2.result.now t c.as_slice-4.result.now form.t (length c.as_slice-4.result.now)
    (length form.t) c.deref_mut-4.result.now first ends t_is (c.as_slice-4.ensures ∙ c.t.ensures.t)
    (ap length (c.as_slice-4.ensures ∙ c.t.ensures.t)) middle c.mark_symbols.ensures))
