use Rattle.std.proofs.Common.{◌∷◌, ◌++◌, [], ap, sym, subst, ◌∙◌, arith}
use Rattle.std.proofs.lemmas.List.{append_assoc, append-nil}
use Rattle.mixed_model.specs.Entries.{RowEntry}
use Rattle.mixed_model.specs.Models.{mixed_matrix_of}
use Rattle.symbol_places.proofs.RowSteps.{SeenPlaces, seen-next, seen-row, seen-skip, seen-start}
use Rattle.symbol_places.proofs.places.push_row.Goals as goal

pub loop-entry-init : goal.loop-entry-init
loop-entry-init g c = record {
  can_next = tt;
  is_finite = tt;
  split = sym (c.into_iter-entry-iterator.ensures.into_iter_gives ∙ c.entries-entry-items.ensures.entries);
  so_far = λ start. seen-start (mixed_matrix_of c.args.model.now) c.args.equation c.args.places.now.items start;
}

pub loop-entry-preserved-in-Continue-1 : goal.loop-entry-preserved-in-Continue-1
loop-entry-preserved-in-Continue-1 g c =
    let is = c.entries-entry-items.ensures.model in
    let model = c.args.model.now in
    let i = c.args.equation in
    let seen = c.loop-entry.yielded in
    let entry = c.in-Some.entry in
    let rest = c.next.new.self in
    let places = c.loop-entry.places.items in
    let row_is = is.rows i [] (omega (arith, is.one_row_each, c.requires)) in
    let split = c.loop-entry.invariant.split ∙ ap (λ left. seen ++ left) c.in-Some.ensures.steps in
    let symbol = sym (ap (λ (x : RowEntry). x.symbol) c.entry.view_is) ∙ c.if-entry.true in
    let pushed = sym (c.in_ok-push.ensures.items
    ∙ ap (λ (x : RowEntry). places ++ record { equation = i; unknown = x.column } ∷ []) c.entry.view_is) in
    record {
      can_next = tt;
      is_finite = tt;
      split = split ∙ sym (append_assoc seen (entry ∷ []) rest);
      so_far = λ start. subst (SeenPlaces (mixed_matrix_of model) i (seen ++ entry ∷ [])) pushed
          (seen-next g.F.Field.modulus model i seen entry rest row_is.0 split places c.requires row_is.1 symbol (c.loop-entry.invariant.so_far start));
    }

pub loop-entry-preserved : goal.loop-entry-preserved
loop-entry-preserved g c =
    let is = c.entries-entry-items.ensures.model in
    let i = c.args.equation in
    let seen = c.loop-entry.yielded in
    let entry = c.in-Some.entry in
    let rest = c.next.new.self in
    let row_is = is.rows i [] (omega (arith, is.one_row_each, c.requires)) in
    let split = c.loop-entry.invariant.split ∙ ap (λ left. seen ++ left) c.in-Some.ensures.steps in
    let none = sym (ap (λ (x : RowEntry). x.symbol) c.entry.view_is) ∙ c.if-entry.false in
    record {
      can_next = tt;
      is_finite = tt;
      split = split ∙ sym (append_assoc seen (entry ∷ []) rest);
      so_far = λ start.
          seen-skip g.F.Field.modulus c.args.model.now i seen entry rest row_is.0 split c.loop-entry.places.items none (c.loop-entry.invariant.so_far start);
    }

pub returns : goal.returns
returns g c = λ start.
    let is = c.entries-entry-items.ensures.model in
    let model = c.args.model.now in
    let i = c.args.equation in
    let seen = c.loop-entry.yielded in
    let row_is = is.rows i [] (omega (arith, is.one_row_each, c.requires)) in
    let whole = c.loop-entry.invariant.split ∙ ap (λ left. seen ++ left) c.in-None.ensures.steps.0 ∙ append-nil seen in
    seen-row model i seen c.loop-entry.places.items row_is.1 whole (c.loop-entry.invariant.so_far start)
