use Rattle.std.proofs.Common.{◌≡◌, ℕ, false, refl, sym, subst, ap, ◌∙◌, arith}
use Rattle.dense_q.specs.Tables.{entry, height}
use Rattle.mixed_model.specs.Layers.{Layers}
use Rattle.bipartite_matching.specs.Matchings.{Matching}
use Rattle.exchange_graph.proofs.SweepLaws.{nothing-left}
use Rattle.exchange_graph.specs.Results.{vain_of}
use Rattle.exchange_graph.specs.Sweeps.{IsLeftOut}
use Rattle.mixed_matrices.specs.Arcs.{is_end, is_free, leads_to}
use Rattle.independent_matching.specs.Sides.{is_matched, layers_of, tableau_of_pair}
use Rattle.independent_matching.proofs.OpenLaws.{empty-unmatched, open-size, open-tableau, over-bare, over-entries, over-layers, tableau-kernel}
use Rattle.independent_matching.proofs.engine.Engine.open_on.Goals as goal

pub invariant_of-result : goal.invariant_of-result
invariant_of-result g c =
    let p = g.F.Field.modulus in
    let S = g.T.Tableau.state c.args.tableau in
    let M = c.in_ok-open.field-0 in
    let unmatched : (y : ℕ) → is_matched M y ≡ false = λ y.
    subst (λ m. is_matched m y ≡ false) (sym c.in_ok-open.ensures.empty) (empty-unmatched c.l.inside.t y) in
    record {
      pair = open-tableau p S M (over-bare c.requires) unmatched (tableau-kernel p S g.met.F.Field.prime c.is_tableau.ensures.tableau);
      width = ap (λ (m : Matching). m.pattern.width) c.in_ok-open.ensures.empty
          ∙ (c.l.invariant.same_columns ∙ (ap (λ (l : Layers). l.q.width) c.l.view_is ∙ sym c.requires.columns_are));
      search = c.in_ok-open-2.ensures.places ∙ c.columns-columns.ensures.columns;
      left = subst (λ k. IsLeftOut (leads_to p (layers_of S M) (tableau_of_pair S M)) S.columns (is_free (tableau_of_pair S M))
          (is_end p (layers_of S M) (tableau_of_pair S M)) (vain_of c.in_ok-open-2.field-0) k) (sym c.in_ok-open-2.ensures.next)
          (nothing-left (leads_to p (layers_of S M) (tableau_of_pair S M)) S.columns (is_free (tableau_of_pair S M))
          (is_end p (layers_of S M) (tableau_of_pair S M)) (vain_of c.in_ok-open-2.field-0) c.in_ok-open-2.ensures.vain);
      marks = c.in_ok-resting.ensures;
      count = open-size p S M (over-bare c.requires) unmatched;
      few = omega arith;
      few_looks = omega arith;
    }

pub returns-clause-opened : goal.returns-clause-opened
returns-clause-opened g c =
    let p = g.F.Field.modulus in
    let q = c.args.l.now.q in
    let S = g.T.Tableau.state c.args.tableau in
    let M = c.in_ok-open.field-0 in
    let search = c.in_ok-open-2.ensures in
    record {
      layers_are = over-layers p c.args.l.now S M c.requires
          (ap (λ (m : Matching). m.pattern) c.in_ok-open.ensures.empty ∙ ap (λ (l : Layers). l.t) c.l.view_is);
      entries = over-entries p (height q) q.width (entry q) S c.requires;
      empty = sym (open-size p S M (over-bare c.requires)
          (λ y. subst (λ m. is_matched m y ≡ false) (sym c.in_ok-open.ensures.empty) (empty-unmatched c.l.inside.t y)));
      none_told = (refl, refl, refl);
      fresh = record {
        looks = search.looks;
        all_looks = search.all_looks;
        none_left_out = search.vain;
        next = search.next;
      };
    }
