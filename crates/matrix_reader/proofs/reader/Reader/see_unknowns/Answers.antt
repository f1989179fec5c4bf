use Rattle.std.proofs.Common.{◌≡◌, ◌++◌, ◌∷◌, [], map, sym, subst, ap, ◌∙◌, append_assoc}
use Rattle.std.proofs.lemmas.List.{map-append}
use Rattle.line_lexer.specs.declared.token.Token.{Token}
use Rattle.matrix_reader.proofs.LineSteps.{NamesSoFar, NamesSoFar-more, words}
use Rattle.matrix_reader.proofs.reader.Reader.see_unknowns.Goals as goal

pub loop-unknown-preserved : goal.loop-unknown-preserved
loop-unknown-preserved g c =
    let seen = map (λ (token : Token). token.text.now) c.loop-unknown.yielded in
    let name = c.in-Some.unknown.text.now in
    let left = words c.next.new.self in
    let all = words c.args.unknowns in
    let more : map (λ (token : Token). token.text.now) (c.loop-unknown.yielded ++ c.in-Some.unknown ∷ []) ≡ seen ++ name ∷ [] =
    map-append (λ (token : Token). token.text.now) c.loop-unknown.yielded (c.in-Some.unknown ∷ []) in
    record {
      lengths = c.in_ok-see_unknown.ensures.lengths;
      unknowns = c.loop-unknown.invariant.unknowns
          ∙ ap (λ tokens. seen ++ words tokens) c.in-Some.ensures.steps
          ∙ sym (append_assoc seen (name ∷ []) left)
          ∙ ap (λ front. front ++ left) (sym more);
      progress = λ before names read.
          let old = c.loop-unknown.self.model in
          let lines = c.loop-unknown.self.last_lines.items in
          let progress = subst (λ tokens. NamesSoFar g.F.Field.modulus before names all seen
          (words tokens) c.args.line old lines) c.in-Some.ensures.steps
          (c.loop-unknown.invariant.progress before names read) in
          let sees = c.in_ok-see_unknown.ensures.seen before (names ++ seen) progress.read in
          subst (λ front. NamesSoFar g.F.Field.modulus before names all front left c.args.line
          c.see_unknown.new.self.model c.see_unknown.new.self.last_lines.items) (sym more)
          (NamesSoFar-more g.F.Field.modulus before names all seen left name c.args.line old
          c.see_unknown.new.self.model lines c.see_unknown.new.self.last_lines.items progress sees.0 sees.1);
    }
