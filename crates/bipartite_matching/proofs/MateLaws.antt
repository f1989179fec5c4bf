-- A matching as a test of columns, is_some (mate_at m col), with the row of each matched one, unwrap_or (mate_at m col) 0.
use Rattle.std.proofs.Common.{◌≡◌, ◌≢◌, ℕ, ◌<◌, true, false, Option, Some, None, is_some, unwrap_or, refl, sym, ap, subst, arith}
use Rattle.std.proofs.lemmas.List.{get_or-set_same, get_or-set_other}
use Rattle.sparse_t.specs.Incidences.{incidence_rows, touches}
use Rattle.bipartite_matching.specs.Matchings.{Matching, IsMatching, HasPair, IsRowFree, mate_at, with_pair, matching_without}

pub pair-matched : (m : Matching) (row col : ℕ) → HasPair m row col → (is_some (mate_at m col) ≡ true) × (unwrap_or (mate_at m col) 0 ≡ row)
pair-matched m row col h = (ap is_some h, ap (λ (mate : Option ℕ). unwrap_or mate 0) h)

pub matched-pair : (m : Matching) (col : ℕ) → is_some (mate_at m col) ≡ true → HasPair m (unwrap_or (mate_at m col) 0) col
matched-pair m col h = go (mate_at m col) h
  where
    differ : false ≡ true → ⊥
    differ e = cc

    go : (mate : Option ℕ) → is_some mate ≡ true → mate ≡ Some (unwrap_or mate 0)
    go None e = absurd (differ e)
    go (Some row) e = refl

pub unmatched-none : (m : Matching) (col : ℕ) → is_some (mate_at m col) ≡ false → mate_at m col ≡ None
unmatched-none m col h = go (mate_at m col) h
  where
    differ : true ≡ false → ⊥
    differ e = cc

    go : (mate : Option ℕ) → is_some mate ≡ false → mate ≡ None
    go None e = refl
    go (Some row) e = absurd (differ e)

-- no matched column has a free row
pub free-row : (m : Matching) (row col : ℕ) → IsRowFree m row → is_some (mate_at m col) ≡ true → unwrap_or (mate_at m col) 0 ≢ row
free-row m row col free h q = free col (subst (λ r. HasPair m r col) q (matched-pair m col h))

-- the three facts of a matching in these words
pub mate-below : (m : Matching) → IsMatching m → (col : ℕ) → is_some (mate_at m col) ≡ true → unwrap_or (mate_at m col) 0 < incidence_rows m.pattern
mate-below m M col h = M.row (unwrap_or (mate_at m col) 0) col (matched-pair m col h)

pub mate-touches : (m : Matching) → IsMatching m → (col : ℕ) → is_some (mate_at m col) ≡ true → touches m.pattern (unwrap_or (mate_at m col) 0) col ≡ true
mate-touches m M col h = M.symbol (unwrap_or (mate_at m col) 0) col (matched-pair m col h)

pub mates-differ : (m : Matching) → IsMatching m → (col other : ℕ) → is_some (mate_at m col) ≡ true → is_some (mate_at m other) ≡ true →
    unwrap_or (mate_at m col) 0 ≡ unwrap_or (mate_at m other) 0 → col ≡ other
mates-differ m M col other h k q = M.one_column (unwrap_or (mate_at m col) 0) col other (matched-pair m col h)
    (subst (λ r. HasPair m r other) (sym q) (matched-pair m other k))

-- what a link and a parting leave at a column
pub linked-here : (m : Matching) → IsMatching m → (row col : ℕ) → col < m.pattern.width → mate_at (with_pair m row col) col ≡ Some row
linked-here m M row col l = get_or-set_same m.mates col (Some row) None (omega (arith, M.count))

pub linked-other : (m : Matching) (row col other : ℕ) → other ≢ col → mate_at (with_pair m row col) other ≡ mate_at m other
linked-other m row col other ne = get_or-set_other m.mates col other (Some row) None ne

pub parted-here : (m : Matching) → IsMatching m → (col : ℕ) → col < m.pattern.width → mate_at (matching_without m col) col ≡ None
parted-here m M col l = get_or-set_same m.mates col None None (omega (arith, M.count))

pub parted-other : (m : Matching) (col other : ℕ) → other ≢ col → mate_at (matching_without m col) other ≡ mate_at m other
parted-other m col other ne = get_or-set_other m.mates col other None None ne
