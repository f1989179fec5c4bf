use Rattle.std.proofs.Common.{ℕ, List, ◌++◌, ◌∷◌, [], Bor, map, take, ap, ◌∙◌, sym}
use Rattle.std.proofs.lemmas.List.{map-append}
use Rattle.netlist_devices.proofs.WordSteps.{take_one, bytes_of}
use Rattle.netlist_devices.proofs.words.first_words.Goals as goal

abbrev words : List (ℕ × List ℕ) → List (List ℕ)
words tokens = map (λ token. token.1) tokens

pub loop-word-preserved : goal.loop-word-preserved
loop-word-preserved c =
    take_one (take 8 (words c.args.words)) (bytes_of c.loop-word.kept.items) (words c.next.new.self.iter)
    (words c.loop-word.word-iterator.iter) c.in-Some.word.text.now c.loop-word.word-iterator.n c.next.new.self.n
    c.loop-word.invariant (ap words c.in-Some.ensures.steps.0) c.in-Some.ensures.steps.1
    ∙ ap (λ front. front ++ take c.next.new.self.n (words c.next.new.self.iter))
    (sym (ap bytes_of c.in_ok-push.ensures.items
    ∙ map-append (λ (text : Bor (List ℕ)). text.now) c.loop-word.kept.items (c.in-Some.word.text ∷ [])))
