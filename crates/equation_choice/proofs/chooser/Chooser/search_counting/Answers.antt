use Rattle.std.proofs.Common.{◌≡◌, ◌<◌, ◌∙◌, ℕ, sym, subst}
use Rattle.exchange_graph.specs.Marks.{members_of}
use Rattle.exchange_graph.specs.Results.{reached_of, step_of}
use Rattle.mixed_matrices.specs.Arcs.{is_free}
use Rattle.independent_matching.specs.Sides.{layers_of, tableau_of_pair}
use Rattle.row_choice_laws.specs.RowSearches.{has_row_entry}
use Rattle.equation_choice.proofs.ArcLaws.{apart-all}
use Rattle.equation_choice.proofs.OverLaws.{search-vain, search-walk}
use Rattle.equation_choice.proofs.chooser.Chooser.search_counting.Goals as goal

pub shortest-requires-clause-places : goal.shortest-requires-clause-places
shortest-requires-clause-places g c =
    let S = g.T.Tableau.state c.args.self.now.pair.tableau in
    let M = c.args.self.now.pair.mates in
    apart-all S M c.requires.ready.over.width c.requires.ready.over.tableau.apart ∙ sym c.requires.ready.places

pub returns-clause-walk : goal.returns-clause-walk
returns-clause-walk g c =
    let p = g.F.Field.modulus in
    let S = g.T.Tableau.state c.args.self.now.pair.tableau in
    let M = c.args.self.now.pair.mates in
    search-walk p c.args.layered.now S M c.args.row c.deref.result.now c.deref-2.result.now c.args.self.now.search.places c.requires.ready.places
    (subst (λ xs. (x : ℕ) → x < S.columns → members_of xs x ≡ has_row_entry p (layers_of S M) (tableau_of_pair S M) c.args.row x)
    (sym c.deref.ensures.value) c.mark.ensures.starts)
    (subst (λ xs. (x : ℕ) → x < S.columns → members_of xs x ≡ is_free (tableau_of_pair S M) x) (sym c.deref-2.ensures.value) c.mark.ensures.free)
    (step_of c.shortest.new.self) (reached_of c.shortest.new.self) c.shortest.new.self.looks c.shortest.result c.shortest.ensures.answer

pub returns-clause-vain : goal.returns-clause-vain
returns-clause-vain g c =
    let p = g.F.Field.modulus in
    let S = g.T.Tableau.state c.args.self.now.pair.tableau in
    let M = c.args.self.now.pair.mates in
    search-vain p c.args.layered.now S M c.args.row c.deref.result.now c.deref-2.result.now c.args.self.now.search.places c.requires.ready.places
    (subst (λ xs. (x : ℕ) → x < S.columns → members_of xs x ≡ has_row_entry p (layers_of S M) (tableau_of_pair S M) c.args.row x)
    (sym c.deref.ensures.value) c.mark.ensures.starts)
    (subst (λ xs. (x : ℕ) → x < S.columns → members_of xs x ≡ is_free (tableau_of_pair S M) x) (sym c.deref-2.ensures.value) c.mark.ensures.free)
    (step_of c.shortest.new.self) (reached_of c.shortest.new.self) c.shortest.new.self.looks c.shortest.result c.shortest.ensures.answer
