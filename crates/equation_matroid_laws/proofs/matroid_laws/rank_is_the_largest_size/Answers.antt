use Rattle.equation_matroid_laws.proofs.RowRanks.{free-independent, independent-free, largest-rank, rank-largest}
use Rattle.equation_matroid_laws.proofs.Matroids.{IsLargest}
use Rattle.equation_matroid_laws.specs.EquationRanks.{IsLargestSize, IsRankOf}
use Rattle.equation_matroid_laws.proofs.RowRanks.{Free}
use Rattle.equation_matroid_laws.proofs.matroid_laws.rank_is_the_largest_size.Goals as goal

pub returns : goal.returns
returns c p prime M X r = ((λ R. told (rank-largest p prime M X r R)), back)
  where
    told : IsLargest M.rows (Free p prime M) X r → IsLargestSize p M X r
    told L = record {
      reached = (L.reached.0, L.reached.1, free-independent p prime M L.reached.0 L.reached.2, L.reached.3);
      greatest = λ Y within ind. L.greatest Y within (independent-free p prime M Y ind);
    }

    back : IsLargestSize p M X r → IsRankOf p M X r
    back L = largest-rank p prime M X r (record {
      reached = (L.reached.0, L.reached.1, independent-free p prime M L.reached.0 L.reached.2, L.reached.3);
      greatest = λ Y within free. L.greatest Y within (free-independent p prime M Y free);
    })
