use Rattle.std.proofs.Common.{ℕ, ◌≡◌, ◌-◌, ◌%◌, ◌++◌, List, ap, ◌∙◌}
use Rattle.std.proofs.lemmas.Result.{on_ok_weaker}
use Rattle.mixed_model.specs.Names.{name_at}
use Rattle.term_model.specs.Terms.{Term}
use Rattle.term_model.proofs.Negatives.{negative_is}
use Rattle.term_model.proofs.Pushing.{put_four}
use Rattle.netlist_reader.specs.Numbers.{name_terms}
use Rattle.netlist_reader.specs.Putting.{put_constant}
use Rattle.netlist_reader.proofs.terms.Terms.laws.Goals as goal

pub returns : goal.returns
returns g c =
    let p = g.F.Field.modulus in
    let names = g.names in
    let n = g.F.Field.number c.args.number in
    let negative : g.F.Field.number c.neg.result ≡ (p - n) % p = negative_is p n _ c.requires.1 c.neg.ensures.below c.neg.ensures.negative in
    let at : ℕ → ℕ → ℕ → List Term = λ equation unknown n. put_constant (name_at names.equations equation) (name_at names.unknowns unknown) n in
    let terms : List Term = name_terms names c.args.self.now in
    on_ok_weaker c.constant-4.result (λ last. put_four terms _ _ _ _
    (at c.args.laws.0 c.args.first.0 1) (at c.args.laws.0 c.args.first.1 ((p - n) % p))
    (at c.args.laws.1 c.args.second.0 n) (at c.args.laws.1 c.args.second.1 1)
    (c.in_ok-constant.ensures ∙ ap (λ n. terms ++ at c.args.laws.0 c.args.first.0 n) c.one.ensures)
    (c.in_ok-constant-2.ensures ∙ ap (λ n. name_terms names c.constant.new.self ++ at c.args.laws.0 c.args.first.1 n) negative)
    c.in_ok-constant-3.ensures
    (last ∙ ap (λ n. name_terms names c.constant-3.new.self ++ at c.args.laws.1 c.args.second.1 n) c.one-2.ensures)) c.constant-4.ensures
