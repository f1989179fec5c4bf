-- A tableau of numbers below the modulus.
use Rattle.std.proofs.Common.{◌≡◌, ℕ, ◌*◌, ◌<◌, ◌%◌, ap, sym, ◌∙◌, mul_comm}
use Rattle.std.proofs.Math.Nat.{mod-mod, mod-lt}
use Rattle.residue_theory.specs.Residues.{IsPrime}
use Rattle.residue_theory.specs.Sets.{everything}
use Rattle.residue_theory.proofs.ResidueLaws.{agree-mul, agree-sum}
use Rattle.linear_algebra.specs.Products.{product}
use Rattle.mixed_matrices.specs.Arcs.{HasNoWalk}
use Rattle.mixed_matrices.specs.LayeredMatrices.{LayeredMatrix}
use Rattle.mixed_matrices.specs.Pairs.{IsBest, pair_size}
use Rattle.mixed_matrices.specs.StructuralRanks.{IsLayeredRank}
use Rattle.mixed_matrices.specs.Tableaus.{HasTableau, IsTableau, Tableau}
use Rattle.mixed_form_laws.proofs.CanonicalForm.{BestTableau, best_tableau}
use Rattle.mixed_pair_laws.proofs.MinMax.{best-clear}
use Rattle.mixed_pair_laws.proofs.Minimisers.{closed-best, least_set, least_set-closed}
use Rattle.mixed_pair_laws.proofs.PairRank.{closed-rank}
use Rattle.mixed_pair_laws.proofs.TableauParts.{tableau}

abbrev pub reduced : ℕ → (ℕ → ℕ → ℕ) → ℕ → ℕ → ℕ
reduced p a i j = a i j % p

-- factors may be taken modulo p
factors : (p a b : ℕ) → (a % p * (b % p)) % p ≡ (a * b) % p
factors p a b =
    agree-mul p (a % p) (b % p) b (mod-mod b p)
    ∙ ap (λ x. x % p) (mul_comm (a % p) b) ∙ agree-mul p b (a % p) a (mod-mod a p) ∙ ap (λ x. x % p) (mul_comm b a)

pub product-reduced : (p k i j : ℕ) (S a : ℕ → ℕ → ℕ) → product k (reduced p S) (reduced p a) i j % p ≡ product k S a i j % p
product-reduced p k i j S a = agree-sum p everything k (λ t. reduced p S i t * reduced p a t j) (λ t. S i t * a t j)
    (λ t tl _. factors p (S i t) (a t j))

left-factor : (p a b : ℕ) → (a % p * b) % p ≡ (a * b) % p
left-factor p a b = ap (λ x. x % p) (mul_comm (a % p) b) ∙ agree-mul p b (a % p) a (mod-mod a p) ∙ ap (λ x. x % p) (mul_comm b a)

pub product-left : (p k i j : ℕ) (S a : ℕ → ℕ → ℕ) → product k (reduced p S) a i j % p ≡ product k S a i j % p
product-left p k i j S a = agree-sum p everything k (λ t. reduced p S i t * a t j) (λ t. S i t * a t j)
    (λ t tl _. left-factor p (S i t) (a t j))

abbrev pub reduced_tableau : ℕ → Tableau → Tableau
reduced_tableau p F = record F { P = reduced p F.P }

pub tableau-reduced : (p : ℕ) (L : LayeredMatrix) (S U : ℕ → ℕ → ℕ) (F : Tableau) → IsTableau p L S U F →
    IsTableau p L (reduced p S) (reduced p U) (reduced_tableau p F)
tableau-reduced p L S U F is = record {
  inverse = λ i j il jl. product-reduced p L.q_rows i j S U ∙ is.inverse i j il jl;
  product = λ i j il jl. mod-mod (F.P i j) p ∙ is.product i j il jl ∙ sym (product-left p L.q_rows i j S L.q);
  base = record {
    row_below = is.base.row_below;
    one = λ b bl h. mod-mod (F.P (F.row b) b) p ∙ is.base.one b bl h;
    zero = λ b i bl h il other. mod-mod (F.P i b) p ∙ is.base.zero b i bl h il other;
    distinct = is.base.distinct;
  };
  matching = is.matching;
  apart = is.apart;
}

-- a best tableau of numbers below p, and the rank that its pair shows
pub record LowTableau (p : ℕ) (L : LayeredMatrix) : Type 0 where
  pub S : ℕ → ℕ → ℕ
  pub U : ℕ → ℕ → ℕ
  pub F : Tableau
  pub is : IsTableau p L S U F
  pub clear : HasNoWalk p L F
  pub s_low : (i j : ℕ) → S i j < p
  pub u_low : (i j : ℕ) → U i j < p
  pub p_low : (i j : ℕ) → F.P i j < p
  pub rank : IsLayeredRank p L (pair_size L F.base F.matched)

pub low_tableau : (p : ℕ) → IsPrime p → 0 < p → (L : LayeredMatrix) → LowTableau p L
low_tableau p prime some L = go (best_tableau p prime L)
  where
    go : BestTableau p L → LowTableau p L
    go T =
        let has : HasTableau p L T.F = tableau p prime L T.S T.U T.F T.is_tableau in
        let closed = least_set-closed p L T.F T.clear in
        let best : IsBest p L T.F.base T.F.matched = closed-best p prime L T.F has (least_set p L T.F) closed in
        let low = tableau-reduced p L T.S T.U T.F T.is_tableau in
        record {
          S = reduced p T.S;
          U = reduced p T.U;
          F = reduced_tableau p T.F;
          is = low;
          clear = best-clear p prime L (reduced_tableau p T.F)
              (tableau p prime L (reduced p T.S) (reduced p T.U) (reduced_tableau p T.F) low) best;
          s_low = λ i j. mod-lt (T.S i j) some;
          u_low = λ i j. mod-lt (T.U i j) some;
          p_low = λ i j. mod-lt (T.F.P i j) some;
          rank = closed-rank p prime L T.F has (least_set p L T.F) closed;
        }
