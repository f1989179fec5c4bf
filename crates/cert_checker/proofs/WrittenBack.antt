-- What a vector holds after all of it was written.
use Rattle.std.proofs.Common.{◌≡◌, ℕ, List, ◌++◌, length, take, sym, subst}
use Rattle.std.proofs.Math.Seq.{take-append_seam}

pub written-back : {X : Type 0} (m : ℕ) (now rest : List X) → m ≡ length now → take m (now ++ rest) ≡ now
written-back m now rest same = subst (λ i. take i (now ++ rest) ≡ now) (sym same) (take-append_seam now rest)
