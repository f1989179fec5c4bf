-- Items that code reads.
use Rattle.std.proofs.Common.{◌≡◌, ℕ, ◌<◌, Bool, true, false, List, length, get_or, arith}
use Rattle.std.proofs.lemmas.Grind.{common_steps}

pub item_read : (xs : List ℕ) (i v : ℕ) → i < length xs → v ≡ get_or xs i v → get_or xs i 0 ≡ v
item_read xs i v l e = grind (arith, common_steps)

pub mark_read : (marks : List Bool) (y : ℕ) (v : Bool) → y < length marks → v ≡ get_or marks y v → get_or marks y false ≡ v
mark_read marks y v l e = grind (arith, common_steps)

pub differs : false ≡ true → ⊥
differs e = cc
