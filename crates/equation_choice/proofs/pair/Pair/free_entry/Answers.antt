use Rattle.std.proofs.Common.{◌∙◌, is_some, sym}
use Rattle.mixed_matrices.specs.Arcs.{is_free}
use Rattle.row_choice_laws.specs.RowSearches.{has_row_entry}
use Rattle.equation_choice.proofs.FreeEntries.{none-free-all, none-free-next}
use Rattle.independent_matching.proofs.FreeLaws.{not-told}
use Rattle.independent_matching.specs.Sides.{layers_of, tableau_of_pair}
use Rattle.equation_choice.proofs.ArcLaws.{told-free}
use Rattle.equation_choice.proofs.pair.Pair.free_entry.Goals as goal

pub returns-then-is_none-clause-free : goal.returns-then-is_none-clause-free
returns-then-is_none-clause-free g c =
    let S = g.T.Tableau.state c.args.self.now.tableau in
    let M = c.args.self.now.mates in
    sym (told-free (layers_of S M) (tableau_of_pair S M) c.in-Some.x c.row_of.result c.row_of.ensures.row c.is_none.result
    (not-told (is_some c.row_of.result) c.is_none.result c.is_none.ensures)) ∙ c.if-is_none.true

pub loop-x-preserved : goal.loop-x-preserved
loop-x-preserved g c =
    let S = g.T.Tableau.state c.args.self.now.tableau in
    let M = c.args.self.now.mates in
    let F = tableau_of_pair S M in
    let taken = sym (told-free (layers_of S M) F c.in-Some.x c.row_of.result c.row_of.ensures.row c.is_none.result
    (not-told (is_some c.row_of.result) c.is_none.result c.is_none.ensures)) ∙ c.if-is_none.false in
    none-free-next (has_row_entry g.F.Field.modulus (layers_of S M) F c.args.row) (is_free F) S.columns c.loop-x.at c.loop-x.invariant c.in-Some.x
    c.in-Some.ensures.least taken

pub returns-clause-none : goal.returns-clause-none
returns-clause-none g c =
    let S = g.T.Tableau.state c.args.self.now.tableau in
    let F = tableau_of_pair S c.args.self.now.mates in
    none-free-all (has_row_entry g.F.Field.modulus (layers_of S c.args.self.now.mates) F c.args.row) (is_free F) S.columns
    c.loop-x.at c.loop-x.invariant c.in_default.ensures.none
