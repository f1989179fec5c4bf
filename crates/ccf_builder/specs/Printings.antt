-- What is known of an engine, the parts of its arcs and its pair, and of what is printed of them.
use Rattle.std.specs.Prelude.{ℕ, Bool, List, length}
use Rattle.bipartite_matching.specs.Matchings.{Matching}
use Rattle.sparse_t.specs.Incidences.{touches}
use Rattle.cert_text.specs.declared.part.CcfPart.{CcfPart}
use Rattle.cert_text.specs.declared.part.CcfBlock.{CcfBlock}
use Rattle.mixed_model.specs.Layers.{Layers}
use Rattle.row_transform.specs.Tableaus.{TableauState}
use Rattle.minimiser_lattice.specs.Parts.{PlaceParts}
use Rattle.ccf_builder.specs.Decompositions.{IsDecomposition}
use Rattle.ccf_builder.specs.Matrices.{PrintsPattern, PrintsTableau}
use Rattle.ccf_builder.specs.Pairs.{AreWithin, ListsPair}
use Rattle.ccf_builder.specs.Placings.{PrintsParts}
use Rattle.ccf_builder.specs.Solutions.{IsSolution}

-- the engine stands on the layered matrix with a best pair, v are the parts of its arcs, and base and mates list
-- the pair
pub record IsDecomposed (p : ℕ) (of : Layers) (S : TableauState) (M : Matching) (reached : ℕ → Bool) (v : PlaceParts)
    (base mates : List (ℕ × ℕ)) : Type 0 where
  pub solution : IsSolution p of S M reached
  pub decomposed : IsDecomposition p S M v
  pub pair : ListsPair S M (length of.t.rows) base mates
  pub base_within : AreWithin S.rows S.columns base
  pub mates_within : AreWithin (length of.t.rows) S.columns mates

-- the lines of the matrices, of the symbols and of the parts
pub record IsPrinted (modulus : ℕ) (of : Layers) (S : TableauState) (v : PlaceParts) (base mates : List (ℕ × ℕ))
    (s u p : List (List (ℕ × ℕ))) (t : List (List ℕ))
    (first : CcfPart) (blocks : List CcfBlock) (last : CcfPart) : Type 0 where
  pub tableau : PrintsTableau modulus S s u p
  pub symbols : PrintsPattern (length of.t.rows) of.t.width (touches of.t) t
  pub parts : PrintsParts v S.rows (length of.t.rows) base mates first blocks last
