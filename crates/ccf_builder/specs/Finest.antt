-- How fine the printed parts are (Murota, chapters 2 and 4).
use Rattle.std.specs.Prelude.{ℕ}
use Rattle.mixed_matrices.specs.Forms.{IsAsFine, IsForm, Parts}
use Rattle.mixed_matrices.specs.LayeredMatrices.{LayeredMatrix}
use Rattle.cert_text.specs.Contents.{Contents}
use Rattle.cert_text.specs.Readings.{parts_of}

-- the printed parts are at least as fine as those of every form of L, for every S, permutation and listing
abbrev pub IsFinest : ℕ → LayeredMatrix → Contents → Type 0
IsFinest p L c = (S : ℕ → ℕ → ℕ) (G : Parts) → IsForm p L S G → IsAsFine L (parts_of c) G
