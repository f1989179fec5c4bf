use Rattle.std.proofs.Common.{◌≡◌, ℕ, ◌∷◌, ◌++◌, [], length, ap, sym, subst, ◌∙◌, arith}
use Rattle.std.specs.List.Sorted.{IsStrictlyIncreasing}
use Rattle.std.proofs.lemmas.List.{append_assoc}
use Rattle.residue_theory.specs.Sets.{has}
use Rattle.sparse_t.specs.Lists.{AreAllBelow}
use Rattle.sparse_t.proofs.ListLaws.{rising-append, below-append}
use Rattle.mixed_model.specs.Entries.{RowEntry}
use Rattle.mixed_model.specs.Models.{row_of}
use Rattle.mixed_model.specs.Rows.{symbol_in}
use Rattle.mixed_layering.proofs.RowSteps.{entry_within, list-lower, exact-next, symbol-none}
use Rattle.value_lists.proofs.symbols.symbol_columns.Goals as goal

pub loop-entry-preserved-in-Continue-1 : goal.loop-entry-preserved-in-Continue-1
loop-entry-preserved-in-Continue-1 g c =
    let is = c.entries-entry-items.ensures.model in
    let row = row_of c.args.model.now c.args.equation in
    let columns = length c.args.model.now.unknowns in
    let seen = c.loop-entry.yielded in
    let entry = c.in-Some.entry in
    let rest = c.next.new.self in
    let list = c.loop-entry.columns.items in
    let row_is = is.rows c.args.equation [] (omega (arith, is.one_row_each, c.requires.equation)) in
    let split = c.loop-entry.invariant.split ∙ ap (λ left. seen ++ left) c.in-Some.ensures.steps in
    let within = entry_within g.F.Field.modulus row seen entry rest row_is.0 split columns row_is.1 in
    let lower = list-lower g.F.Field.modulus row seen entry rest row_is.0 split columns row_is.1 list c.loop-entry.invariant.exact in
    let pushed = sym (c.in_ok-push.ensures.items ∙ ap (λ (x : RowEntry). list ++ x.column ∷ []) c.entry.view_is) in
    record {
      can_next = tt;
      is_finite = tt;
      split = split ∙ sym (append_assoc seen (entry ∷ []) rest);
      rising = subst IsStrictlyIncreasing pushed (rising-append list entry.column c.loop-entry.invariant.rising lower);
      below = subst (AreAllBelow columns) pushed (below-append columns columns list entry.column c.loop-entry.invariant.below (omega arith) within);
      exact = subst (λ items. (j : ℕ) → has items j ≡ symbol_in (seen ++ entry ∷ []) j) pushed
          (exact-next g.F.Field.modulus row seen entry rest row_is.0 split columns row_is.1 list
          c.loop-entry.invariant.exact (sym (ap (λ (x : RowEntry). x.symbol) c.entry.view_is) ∙ c.if-entry.true));
    }

pub loop-entry-preserved : goal.loop-entry-preserved
loop-entry-preserved g c =
    let is = c.entries-entry-items.ensures.model in
    let row = row_of c.args.model.now c.args.equation in
    let seen = c.loop-entry.yielded in
    let entry = c.in-Some.entry in
    let rest = c.next.new.self in
    let row_is = is.rows c.args.equation [] (omega (arith, is.one_row_each, c.requires.equation)) in
    let split = c.loop-entry.invariant.split ∙ ap (λ left. seen ++ left) c.in-Some.ensures.steps in
    record {
      can_next = tt;
      is_finite = tt;
      split = split ∙ sym (append_assoc seen (entry ∷ []) rest);
      rising = c.loop-entry.invariant.rising;
      below = c.loop-entry.invariant.below;
      exact = λ j. c.loop-entry.invariant.exact j ∙ symbol-none g.F.Field.modulus row seen entry rest row_is.0 split
          (sym (ap (λ (x : RowEntry). x.symbol) c.entry.view_is) ∙ c.if-entry.false) j;
    }
