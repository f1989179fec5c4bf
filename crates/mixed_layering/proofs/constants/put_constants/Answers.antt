use Rattle.std.proofs.Common.{◌∷◌, ◌++◌, ◌-◌, ◌≤◌, [], length, ap, sym, subst, ◌∙◌, arith}
use Rattle.std.proofs.lemmas.List.{append_assoc}
use Rattle.std.specs.Option.{option_map, unwrap_or}
use Rattle.dense_q.specs.Tables.{entry, height, table_with_entry}
use Rattle.mixed_model.specs.Entries.{RowEntry}
use Rattle.mixed_model.specs.Models.{row_of}
use Rattle.mixed_model.specs.Rows.{constant_in}
use Rattle.mixed_layering.proofs.EntryLaws.{row_long, fills-next, fills-same}
use Rattle.mixed_layering.proofs.RowSteps.{entry_within, constant-next, constant-none, constant-not_yet}
use Rattle.mixed_layering.proofs.constants.put_constants.Goals as goal

pub put-requires-clause-zero : goal.put-requires-clause-zero
put-requires-clause-zero g c j le jl =
    let is = c.entries-entry-items.ensures.model in
    let seen = c.loop-entry.yielded in
    let rest = c.next.new.self in
    let row_is = is.rows c.args.equation [] (omega (arith, is.one_row_each, c.requires.equation)) in
    let split = c.loop-entry.invariant.split ∙ ap (λ left. seen ++ left) c.in-Some.ensures.steps in
    let filled = c.loop-entry.invariant.filled in
    ap (λ h. entry c.loop-entry.q (h - 1) j) filled.size.height_same
    ∙ filled.filled j (omega (arith, filled.size.width_same, jl))
    ∙ constant-not_yet g.F.Field.modulus (row_of c.args.model.now c.args.equation) seen c.in-Some.entry rest row_is.0 split j
    (subst (λ (x : RowEntry). x.column ≤ j) c.entry.view_is le)

pub loop-entry-preserved-in-Continue-1 : goal.loop-entry-preserved-in-Continue-1
loop-entry-preserved-in-Continue-1 g c =
    let is = c.entries-entry-items.ensures.model in
    let seen = c.loop-entry.yielded in
    let entry = c.in-Some.entry in
    let constant = g.F.Field.number c.in-Some-constant.constant in
    let rest = c.next.new.self in
    let row_is = is.rows c.args.equation [] (omega (arith, is.one_row_each, c.requires.equation)) in
    let split = c.loop-entry.invariant.split ∙ ap (λ left. seen ++ left) c.in-Some.ensures.steps in
    let within = entry_within g.F.Field.modulus (row_of c.args.model.now c.args.equation) seen entry rest row_is.0 split
    (length c.args.model.now.unknowns) row_is.1 in
    record {
      can_next = tt;
      is_finite = tt;
      split = split ∙ sym (append_assoc seen (entry ∷ []) rest);
      filled = fills-next c.args.q.now c.loop-entry.q c.put.new.self (height c.args.q.now - 1) entry.column constant
          (λ j. unwrap_or (constant_in seen j) 0) (λ j. unwrap_or (constant_in (seen ++ entry ∷ []) j) 0) (omega (arith, c.requires.some))
          (omega (arith, within, c.requires.width, row_long c.args.q.now (height c.args.q.now - 1) (omega (arith, c.requires.some)) c.requires.matrix))
          c.loop-entry.invariant.filled
          (c.in_ok-put.ensures.ok
          ∙ ap (λ h. table_with_entry c.loop-entry.q (h - 1) c.entry.inside.column constant) c.loop-entry.invariant.filled.size.height_same
          ∙ ap (λ (x : RowEntry). table_with_entry c.loop-entry.q (height c.args.q.now - 1) x.column constant) c.entry.view_is)
          (λ b low. constant-next g.F.Field.modulus (row_of c.args.model.now c.args.equation) seen entry rest row_is.0 split constant
          (sym (ap (λ (x : RowEntry). x.constant) c.entry.view_is) ∙ ap (option_map g.F.Field.number) c.in-Some-constant.is) b);
    }

pub loop-entry-preserved : goal.loop-entry-preserved
loop-entry-preserved g c =
    let is = c.entries-entry-items.ensures.model in
    let seen = c.loop-entry.yielded in
    let entry = c.in-Some.entry in
    let rest = c.next.new.self in
    let row_is = is.rows c.args.equation [] (omega (arith, is.one_row_each, c.requires.equation)) in
    let split = c.loop-entry.invariant.split ∙ ap (λ left. seen ++ left) c.in-Some.ensures.steps in
    record {
      can_next = tt;
      is_finite = tt;
      split = split ∙ sym (append_assoc seen (entry ∷ []) rest);
      filled = fills-same c.args.q.now c.loop-entry.q (height c.args.q.now - 1)
          (λ j. unwrap_or (constant_in seen j) 0) (λ j. unwrap_or (constant_in (seen ++ entry ∷ []) j) 0)
          c.loop-entry.invariant.filled
          (λ b low. constant-none g.F.Field.modulus (row_of c.args.model.now c.args.equation) seen entry rest row_is.0 split
          (sym (ap (λ (x : RowEntry). x.constant) c.entry.view_is) ∙ ap (option_map g.F.Field.number) c.in_default.is) b);
    }
