-- Rules that a form keeps for one layered matrix, for another of the same sizes and entries.
use Rattle.std.proofs.Common.{◌≡◌, ℕ, zero, suc, ◌+◌, ◌*◌, ◌<◌, Bool, length, refl, sym, subst, ◌∙◌, arith}
use Rattle.residue_theory.specs.Sets.{everything}
use Rattle.residue_theory.proofs.ResidueLaws.{agree-mul, agree-sum}
use Rattle.linear_algebra.specs.Products.{Agree}
use Rattle.mixed_matrices.specs.Arcs.{has_base, has_match, is_end, is_free, leads_to}
use Rattle.mixed_matrices.specs.CheckerRules.{HasRows, block_of}
use Rattle.mixed_matrices.specs.LayeredMatrices.{AreSameLayers, LayeredMatrix}
use Rattle.mixed_matrices.specs.Models.{MixedMatrix}
use Rattle.mixed_matrices.specs.Tableaus.{Tableau}
use Rattle.certificate_laws.proofs.SameLayers.{resized, with_entries}
use Rattle.cert_text.specs.Contents.{Contents}
use Rattle.cert_text.specs.Ranges.{IsCcf}
use Rattle.cert_text.specs.Readings.{matrix_of, pair_at, parts_of, tableau_of}
use Rattle.cert_text.specs.Right.{HasShape, HasProduct}
use Rattle.cert_text.specs.Rules.{HasMatching, HasPlacedRows, LeadsDown, HasReasons, HasLowerLists}
use Rattle.part_checker.specs.Told.{IsPrintedBy}
use Rattle.part_checker.proofs.PrintedArcs.{ends-same, leads-same}
use Rattle.cert_checker.specs.Checking.{IsFirstBrokenRule, KeepsFirst, KeepsRule}
use Rattle.cert_checker.proofs.MovedWalks.{below-moved, from-moved, mutual-moved, reaches-moved, to-moved}

module _ (p : ℕ) (M : MixedMatrix) (L : LayeredMatrix) (c : Contents) (is : IsCcf p c) (q : ℕ → ℕ → ℕ) (t : ℕ → ℕ → Bool)
    (constants : Agree p L.q_rows L.columns L.q q) (symbols : (i j : ℕ) → i < L.t_rows → j < L.columns → L.t i j ≡ t i j) where
  -- L with the other entries
  abbrev other : LayeredMatrix
  other = with_entries L q t

  -- ---- the rules of rows
  product-moved : HasProduct p L c → HasProduct p other c
  product-moved h = record {
    q = λ i j il jl. h.q i j il jl ∙ agree-sum p everything L.q_rows (λ k. matrix_of c.s i k * L.q k j) (λ k. matrix_of c.s i k * q k j)
        (λ k kl _. agree-mul p (matrix_of c.s i k) (L.q k j) (q k j) (constants k j kl jl));
    t = λ i j il jl. h.t i j il jl ∙ symbols i j il jl;
  }

  shape-moved : HasShape M L c → HasShape M other c
  shape-moved h = record { equations = h.equations; unknowns = h.unknowns; q_rows = h.q_rows; t_rows = h.t_rows; columns = h.columns }

  matching-moved : HasShape M L c → HasMatching L c → HasMatching other c
  matching-moved shape h = record {
    symbols = λ k kl. let in_range = is.mates.within k (0, 0) kl in
        sym (symbols (pair_at c.mates k).0 (pair_at c.mates k).1
        (subst (λ m. (pair_at c.mates k).0 < m) shape.t_rows in_range.0)
        (subst (λ n. (pair_at c.mates k).1 < n) shape.columns in_range.1))
        ∙ h.symbols k kl;
    differ = h.differ;
  }

  base-same : (F : Tableau) (i : ℕ) → has_base other F i ≡ has_base L F i
  unfolding has_base
  base-same F i = refl

  match-same : (F : Tableau) (i : ℕ) → has_match other F i ≡ has_match L F i
  unfolding has_match
  match-same F i = refl

  rows-moved : HasPlacedRows L c → HasPlacedRows other c
  rows-moved h = let rows : HasRows L (tableau_of c) (parts_of c) = h.rows in record {
    q_rows = h.q_rows;
    t_rows = h.t_rows;
    rows = record {
      columns = rows.columns;
      base = rows.base;
      matched = rows.matched;
      other_q = λ i il none. rows.other_q i il (sym (base-same (tableau_of c) i) ∙ none);
      other_t = λ i il none. rows.other_t i il (sym (match-same (tableau_of c) i) ∙ none);
    };
  }

  -- ---- the rules of arcs
  module _ (shape : HasShape M L c) (rows : HasProduct p L c) where
    printed : IsPrintedBy L c
    printed = record {
      q_rows = sym shape.q_rows;
      t_rows = sym shape.t_rows;
      columns = sym shape.columns;
      symbols = λ i j il jl. rows.t i j (subst (λ m. i < m) shape.t_rows il) (subst (λ n. j < n) shape.columns jl);
    }

    printed-moved : IsPrintedBy other c
    printed-moved = record {
      q_rows = printed.q_rows;
      t_rows = printed.t_rows;
      columns = printed.columns;
      symbols = λ i j il jl. printed.symbols i j il jl ∙ symbols i j (subst (λ m. i < m) shape.t_rows il) (subst (λ n. j < n) shape.columns jl);
    }

    -- the arcs and the ends of L, and those by the other entries
    abbrev arc : ℕ → ℕ → Bool
    arc = leads_to p L (tableau_of c)

    abbrev moved_arc : ℕ → ℕ → Bool
    moved_arc = leads_to p other (tableau_of c)

    abbrev stops : ℕ → Bool
    stops = is_end p L (tableau_of c)

    abbrev moved_stops : ℕ → Bool
    moved_stops = is_end p other (tableau_of c)

    arcs-same : (x y : ℕ) → x < L.columns → arc x y ≡ moved_arc x y
    arcs-same x y xl =
        let low : x < c.shape.columns = subst (λ n. x < n) (sym shape.columns) xl in
        sym (leads-same p c is L printed x y low) ∙ leads-same p c is other printed-moved x y low

    stops-same : (x : ℕ) → x < L.columns → stops x ≡ moved_stops x
    stops-same x xl =
        let low : x < c.shape.columns = subst (λ n. x < n) (sym shape.columns) xl in
        sym (ends-same p c is L printed x low) ∙ ends-same p c is other printed-moved x low

    down-moved : LeadsDown p L c → LeadsDown p other c
    down-moved h = record {
      starts_first = h.starts_first;
      ends_last = λ x xl stop. h.ends_last x xl (stops-same x xl ∙ stop);
      first_leads = λ x y xl yl first leads. h.first_leads x y xl yl first (arcs-same x y xl ∙ leads);
      block_leads = λ x y in_one yl leads. h.block_leads x y in_one yl (arcs-same x y in_one.below ∙ leads);
    }

    reasons-moved : HasReasons p L c → HasReasons p other c
    reasons-moved h = record {
      first_from = λ x xl first. from-moved L.columns arc moved_arc arcs-same (is_free (tableau_of c)) x (h.first_from x xl first);
      last_to = λ x xl last. to-moved L.columns arc moved_arc arcs-same stops moved_stops stops-same x (h.last_to x xl last);
      block_mutual = λ x y of_x of_y one. mutual-moved L.columns arc moved_arc arcs-same x y (h.block_mutual x y of_x of_y one);
    }

    lists-moved : HasLowerLists p L c → HasLowerLists p other c
    lists-moved h = record {
      below = h.below;
      order = below-moved L.columns arc moved_arc arcs-same (is_free (tableau_of c)) stops moved_stops stops-same
          (block_of (parts_of c)) (length c.blocks) h.below h.order;
      lists = h.lists;
      least = λ x k of_x low lower. h.least x k of_x low (λ y of_y reached. lower y of_y (reaches-moved L.columns arc moved_arc arcs-same x y reached));
    }

  -- ---- one rule, where those before it are kept
  entries-moved : (k : ℕ) → KeepsFirst p M L c k → KeepsRule p M L c k → KeepsRule p M other c k
  entries-moved zero before h = shape-moved h
  entries-moved (suc zero) before h = h
  entries-moved (suc (suc zero)) before h = product-moved h
  entries-moved (suc (suc (suc zero))) before h = h
  entries-moved (suc (suc (suc (suc zero)))) before h = matching-moved (before 0 (omega arith)) h
  entries-moved (suc (suc (suc (suc (suc zero))))) before h = h
  entries-moved (suc (suc (suc (suc (suc (suc zero)))))) before h = h
  entries-moved (suc (suc (suc (suc (suc (suc (suc zero))))))) before h = rows-moved h
  entries-moved (suc (suc (suc (suc (suc (suc (suc (suc zero)))))))) before h = down-moved (before 0 (omega arith)) (before 2 (omega arith)) h
  entries-moved (suc (suc (suc (suc (suc (suc (suc (suc (suc zero))))))))) before h = reasons-moved (before 0 (omega arith)) (before 2 (omega arith)) h
  entries-moved (suc (suc (suc (suc (suc (suc (suc (suc (suc (suc zero)))))))))) before h = lists-moved (before 0 (omega arith)) (before 2 (omega arith)) h
  entries-moved (suc (suc (suc (suc (suc (suc (suc (suc (suc (suc (suc k))))))))))) before h = tt

module _ (p : ℕ) (M : MixedMatrix) (c : Contents) (is : IsCcf p c) where
  moved : (L K : LayeredMatrix) → AreSameLayers p L K → (k : ℕ) → KeepsFirst p M L c k → KeepsRule p M L c k → KeepsRule p M K c k
  moved L K same k before h = resized (λ m. KeepsRule p M m c k → KeepsRule p M K c k) L K same.q_rows same.t_rows same.columns (λ kept. kept)
      (entries-moved p M L c is K.q K.t same.q same.t k before h)

  pub first-moved : (L K : LayeredMatrix) → AreSameLayers p L K → (n : ℕ) → KeepsFirst p M L c n → KeepsFirst p M K c n
  first-moved L K same n each k kl = moved L K same k (λ j jl. each j (omega (arith, jl, kl))) (each k kl)

  pub broken-moved : (L K : LayeredMatrix) → AreSameLayers p L K → AreSameLayers p K L → (rule : ℕ) → IsFirstBrokenRule p M L c rule → IsFirstBrokenRule p M
      K c rule
  broken-moved L K same back rule first = record {
    from = first.from;
    to = first.to;
    kept = λ k low. kept (k + 1) (λ j jl. omega (arith, jl, low)) k (omega arith);
    broken = λ k equal h. first.broken k equal (moved K L back k (kept k (λ j jl. omega (arith, jl, equal))) h);
  }
    where
      -- the rules below n, where all of these are kept
      kept : (n : ℕ) → ((j : ℕ) → j < n → j + 2 < rule) → KeepsFirst p M K c n
      kept n low = first-moved L K same n (λ j jl. first.kept j (low j jl))
