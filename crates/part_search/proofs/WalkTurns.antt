-- A walk along turned arcs is a walk back.
use Rattle.std.proofs.Common.{◌≡◌, ℕ, zero, suc, ◌<◌, Bool, List, sym, subst, ◌∙◌}
use Rattle.std.proofs.Math.Path.{fun_ext}
use Rattle.closed_sets.specs.Walks.{Walk, Reaches, FromSome, ToSome}
use Rattle.closed_sets.proofs.WalkLaws.{reaches-self, reaches-arc, reaches-join}
use Rattle.part_rules.specs.Listed.{AreReached, AreReaching}

walk-turned : (arc : ℕ → ℕ → Bool) (n s y k : ℕ) → y < n → Walk (λ x z. arc z x) n s y k → Reaches arc n y s
walk-turned arc n s y zero l e = (0, sym e)
walk-turned arc n s y (suc k) l (z, zl, w, h) =
    reaches-join arc n y z s (reaches-arc arc n y y z (reaches-self arc n y) l h) (walk-turned arc n s z k zl w)

pub from-turned : (arc : ℕ → ℕ → Bool) (n : ℕ) (S : ℕ → Bool) (y : ℕ) → y < n → FromSome (λ x z. arc z x) n S y → ToSome arc n S y
from-turned arc n S y l (s, sl, h, (k, w)) = (s, sl, h, walk-turned arc n s y k l w)

pub to-turned : (arc : ℕ → ℕ → Bool) (n : ℕ) (E : ℕ → Bool) (x : ℕ) → ToSome arc n E x → FromSome (λ y z. arc z y) n E x
to-turned arc n E x (e, el, h, (k, w)) = (e, el, h, walk-turned (λ y z. arc z y) n x e k el w)

-- what is reached along turned arcs reaches the ends
pub reaching-turned : (arc : ℕ → ℕ → Bool) (n : ℕ) (E : ℕ → Bool) (marks : List Bool) → AreReached (λ x y. arc y x) n E marks → AreReaching arc n E marks
reaching-turned arc n E marks R = record {
  count = R.count;
  tells = λ x l. ((λ h. from-turned arc n E x l ((R.tells x l).0 h)), (λ t. (R.tells x l).1 (to-turned arc n E x t)));
}

-- starts that are the same
from-same : (arc : ℕ → ℕ → Bool) (n : ℕ) (S T : ℕ → Bool) (y : ℕ) → ((x : ℕ) → x < n → S x ≡ T x) → FromSome arc n S y → FromSome arc n T y
from-same arc n S T y same (s, l, h, r) = (s, l, sym (same s l) ∙ h, r)

-- arcs that lead alike reach alike, between as many places, from starts that are the same
pub reached-same : (arc other : ℕ → ℕ → Bool) (n m : ℕ) (S T : ℕ → Bool) (marks : List Bool) → m ≡ n →
    ((x y : ℕ) → other x y ≡ arc x y) → ((y : ℕ) → y < n → T y ≡ S y) → AreReached other m T marks →
    AreReached arc n S marks
reached-same arc other n m S T marks count alike same R = subst (λ a. AreReached a n S marks) (fun_ext (λ x. fun_ext (λ y. alike x y))) (record {
  count = between.count;
  tells = λ y l. (
    (λ h. from-same other n T S y same ((between.tells y l).0 h)),
    (λ f. (between.tells y l).1 (from-same other n S T y (λ x xl. sym (same x xl)) f)),
  );
})
  where
    between : AreReached other n T marks
    between = subst (λ k. AreReached other k T marks) count R
