-- New unknowns without entries are empty columns between the unknowns and the auxiliary columns.
use Rattle.std.proofs.Common.{ℕ, ◌≡◌, ◌<◌, cond, eqb, refl, ap, subst, sym, ◌∙◌, arith}
use Rattle.residue_theory.specs.Sets.{both}
use Rattle.residue_theory.specs.Sums.{size_on}
use Rattle.mixed_matrices.specs.LayeredMatrices.{LayeredMatrix}
use Rattle.mixed_matrices.specs.Layerings.{AreMembers, IsLayeredMatrixOf, IsLayering, Origins, gives_q, has_symbol}
use Rattle.mixed_matrices.specs.Models.{MixedMatrix}
use Rattle.mixed_edit_laws.specs.Changes.{IsWider, IsWiderLayers}
use Rattle.mixed_edit_laws.proofs.Members.{members-same}
use Rattle.mixed_edit_laws.proofs.Wider.{layering-as, q-same, symbol-same}

module _ (K M : MixedMatrix) (B L : LayeredMatrix) (P O : Origins) (wide : IsWider K M) (first : IsLayeredMatrixOf K B P)
    (given : IsLayeredMatrixOf M L O) where
  -- by the rows of K
  second : IsLayering M (gives_q K) (has_symbol K) L O
  second = layering-as M M (gives_q M) (gives_q K) (has_symbol M) (has_symbol K) L O
      (record { rows = refl; columns = refl; constant = λ i j _ _. refl; symbol = λ i j _ _. refl })
      (λ i il. q-same K M wide i (omega (arith, il, wide.rows))) (λ i il. symbol-same K M wide i (omega (arith, il, wide.rows))) given

  rows-are : M.rows ≡ K.rows
  rows-are = wide.rows

  q-count : L.q_rows ≡ B.q_rows
  q-count = sym second.q_rows.count ∙ ap (λ n. size_on (gives_q K) n) rows-are ∙ first.q_rows.count

  t-count : L.t_rows ≡ B.t_rows
  t-count = sym second.t_rows.count ∙ ap (λ n. size_on (has_symbol K) n) rows-are ∙ first.t_rows.count

  z-count : O.split ≡ P.split
  z-count = sym second.auxiliary.count ∙ ap (λ n. size_on (both (gives_q K) (has_symbol K)) n) rows-are ∙ first.auxiliary.count

  q-at : (i : ℕ) → i < B.q_rows → O.of_q i ≡ P.of_q i
  q-at i il = sym (members-same (gives_q K) K.rows B.q_rows L.q_rows P.of_q O.of_q first.q_rows
      (subst (λ n. AreMembers (gives_q K) n O.of_q L.q_rows) rows-are second.q_rows) i il)

  t-at : (i : ℕ) → i < B.t_rows → O.of_t i ≡ P.of_t i
  t-at i il = sym (members-same (has_symbol K) K.rows B.t_rows L.t_rows P.of_t O.of_t first.t_rows
      (subst (λ n. AreMembers (has_symbol K) n O.of_t L.t_rows) rows-are second.t_rows) i il)

  z-at : (k : ℕ) → k < P.split → O.of_z k ≡ P.of_z k
  z-at k kl = sym (members-same (both (gives_q K) (has_symbol K)) K.rows P.split O.split P.of_z O.of_z first.auxiliary
      (subst (λ n. AreMembers (both (gives_q K) (has_symbol K)) n O.of_z O.split) rows-are second.auxiliary) k kl)

  pub wider-layers : IsWiderLayers B L K.columns M.columns
  wider-layers = record {
    q_rows = q-count;
    t_rows = t-count;
    columns = omega (arith, first.columns, second.columns, z-count);
    q = λ i j il jl. second.q i j (omega (arith, il, q-count)) (omega (arith, jl, wide.columns))
        ∙ wide.constant (O.of_q i) j (in-q i il) jl ∙ ap (λ r. K.constant r j) (q-at i il) ∙ sym (first.q i j il jl);
    t = λ i j il jl. second.t i j (omega (arith, il, t-count)) (omega (arith, jl, wide.columns))
        ∙ wide.symbol (O.of_t i) j (in-t i il) jl ∙ ap (λ r. K.symbol r j) (t-at i il) ∙ sym (first.t i j il jl);
    q_auxiliary = λ i k il kl. second.q_auxiliary i k (omega (arith, il, q-count)) (omega (arith, kl, first.columns, z-count))
        ∙ ap (λ r. cond (eqb r (O.of_z k)) 1 0) (q-at i il) ∙ ap (λ r. cond (eqb (P.of_q i) r) 1 0) (z-at k (omega (arith, kl, first.columns)))
        ∙ sym (first.q_auxiliary i k il (omega (arith, kl, first.columns)));
    t_auxiliary = λ i k il kl. second.t_auxiliary i k (omega (arith, il, t-count)) (omega (arith, kl, first.columns, z-count))
        ∙ ap (λ r. eqb r (O.of_z k)) (t-at i il) ∙ ap (λ r. eqb (P.of_t i) r) (z-at k (omega (arith, kl, first.columns)))
        ∙ sym (first.t_auxiliary i k il (omega (arith, kl, first.columns)));
    q_empty = λ i j il le jl. second.q i j (omega (arith, il, q-count)) jl ∙ wide.no_constant (O.of_q i) j (in-q i il) le jl;
    t_empty = λ i j il le jl. second.t i j (omega (arith, il, t-count)) jl ∙ wide.no_symbol (O.of_t i) j (in-t i il) le jl;
  }
    where
      in-q : (i : ℕ) → i < B.q_rows → O.of_q i < K.rows
      in-q i il = omega (arith, second.q_rows.below i (omega (arith, il, q-count)), rows-are)

      in-t : (i : ℕ) → i < B.t_rows → O.of_t i < K.rows
      in-t i il = omega (arith, second.t_rows.below i (omega (arith, il, t-count)), rows-are)
