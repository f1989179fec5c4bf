use Rattle.std.proofs.Common.{◌≡◌, ◌<◌, ◌++◌, ◌∷◌, [], length, map, sym, subst, ap, ◌∙◌, append_assoc}
use Rattle.std.proofs.lemmas.List.{map-append}
use Rattle.line_lexer.specs.declared.token.Token.{Token}
use Rattle.matrix_reader.proofs.LineSteps.{ItemsSoFar, ItemsSoFar-more, words}
use Rattle.matrix_reader.proofs.reader.Reader.read_items.Goals as goal

pub loop-item-preserved : goal.loop-item-preserved
loop-item-preserved g c =
    let seen = map (λ (token : Token). token.text.now) c.loop-item.yielded in
    let item = c.in-Some.item.text.now in
    let left = words c.next.new.self in
    let all = words c.args.items in
    let more : map (λ (token : Token). token.text.now) (c.loop-item.yielded ++ c.in-Some.item ∷ []) ≡ seen ++ item ∷ [] =
    map-append (λ (token : Token). token.text.now) c.loop-item.yielded (c.in-Some.item ∷ []) in
    record {
      lengths = c.in_ok-read_item.ensures.lengths;
      equation = subst (λ equations. c.args.i < length equations) (sym c.in_ok-read_item.ensures.equations) c.loop-item.invariant.equation;
      items = c.loop-item.invariant.items
          ∙ ap (λ tokens. seen ++ words tokens) c.in-Some.ensures.steps
          ∙ sym (append_assoc seen (item ∷ []) left)
          ∙ ap (λ front. front ++ left) (sym more);
      progress = λ before name numbered within.
          let old = c.loop-item.self.model in
          let lines = c.loop-item.self.last_lines.items in
          let progress = subst (λ tokens. ItemsSoFar g.F.Field.modulus before name all seen
          (words tokens) c.args.line old lines) c.in-Some.ensures.steps
          (c.loop-item.invariant.progress before name numbered within) in
          let read = c.in_ok-read_item.ensures.read before name seen numbered progress.within in
          subst (λ front. ItemsSoFar g.F.Field.modulus before name all front left c.args.line c.read_item.new.self.model
          c.read_item.new.self.last_lines.items) (sym more)
          (ItemsSoFar-more g.F.Field.modulus before name all seen left item c.args.line old c.read_item.new.self.model
          lines c.read_item.new.self.last_lines.items progress read.0 read.1);
    }
