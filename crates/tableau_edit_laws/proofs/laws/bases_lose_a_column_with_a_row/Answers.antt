use Rattle.std.proofs.Common.{sym}
use Rattle.residue_theory.specs.Sets.{without}
use Rattle.residue_theory.proofs.SumLaws.{without-member}
use Rattle.tableau_edit_laws.proofs.Leaving.{clear-independent}
use Rattle.tableau_edit_laws.proofs.laws.bases_lose_a_column_with_a_row.Goals as goal

pub returns : goal.returns
returns c p prime m n a S U P B row e b el bl bh inv same base ne =
    clear-independent p prime m n a S U P B row e el inv same base (without B b) (row b) (λ j _ h. (without-member B b j h).0)
    (base.row_below b bl bh)
    (λ j jl jh. base.zero j (row b) jl (without-member B b j jh).0 (base.row_below b bl bh)
    (λ q. (without-member B b j jh).1 (sym (base.distinct b j bl jl bh (without-member B b j jh).0 q)))) ne
