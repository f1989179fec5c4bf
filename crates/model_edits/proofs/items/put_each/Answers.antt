use Rattle.std.proofs.Common.{◌≡◌, ◌<◌, ◌++◌, ◌∷◌, ◌∙◌, [], append_assoc, ap, length, map, subst, sym}
use Rattle.std.proofs.lemmas.List.{map-append}
use Rattle.line_lexer.specs.declared.token.Token.{Token}
use Rattle.matrix_reader.proofs.LineSteps.{words}
use Rattle.model_edits.proofs.ItemMarks.{ItemsSoFar, ItemsSoFar-more}
use Rattle.model_edits.proofs.items.put_each.Goals as goal

pub loop-item-preserved : goal.loop-item-preserved
loop-item-preserved g c =
    let p = g.F.Field.modulus in
    let start = c.args.model.now in
    let i = c.args.i in
    let done = map (λ (token : Token). token.text.now) c.loop-item.yielded in
    let item = c.in-Some.item.text.now in
    let left = words c.next.new.self in
    let all = words c.args.items in
    let more : map (λ (token : Token). token.text.now) (c.loop-item.yielded ++ c.in-Some.item ∷ []) ≡ done ++ item ∷ [] =
    map-append (λ (token : Token). token.text.now) c.loop-item.yielded (c.in-Some.item ∷ []) in
    let so_far = subst (λ tokens. ItemsSoFar p start c.loop-item.model i c.loop-item.marks all done (words tokens)) c.in-Some.ensures.steps
    c.loop-item.invariant.progress in
    let put = c.in_ok-put_item.ensures.put start done so_far.says so_far.marked in
    record {
      equation = subst (λ equations. i < length equations) (sym c.in_ok-put_item.ensures.equations) c.loop-item.invariant.equation;
      columns = c.in_ok-put_item.ensures.columns;
      items = c.loop-item.invariant.items
          ∙ ap (λ tokens. done ++ words tokens) c.in-Some.ensures.steps
          ∙ sym (append_assoc done (item ∷ []) left)
          ∙ ap (λ front. front ++ left) (sym more);
      progress = subst (λ front. ItemsSoFar p start c.put_item.new.model i c.put_item.new.marks all front left) (sym more)
          (ItemsSoFar-more p start c.loop-item.model c.put_item.new.model i c.loop-item.marks c.put_item.new.marks all done left item so_far
          put.0 put.1.0 put.1.1);
    }
