-- A row of a table that is filled place by place.
use Rattle.std.proofs.Common.{◌≡◌, ℕ, ◌<◌, Bool, true, false, cond, eqb, List, [], length, get_or, set}
use Rattle.std.proofs.Common.{get_or-set_same, get_or-set_other, length-set, refl, sym, ap, subst, ◌∙◌}
use Rattle.std.proofs.lemmas.Bool.{eqb-false}
use Rattle.std.proofs.Common.{eqb-true}
use Rattle.std.proofs.lemmas.List.Elements.{All-get_or}
use Rattle.dense_q.specs.Tables.{Table, IsMatrix, height, row_at, entry, table_with_entry}
use Rattle.mixed_layering.specs.Places.{FillsRow}

-- a row of a matrix has an entry for each column
pub row_long : (m : Table) (i : ℕ) → i < height m → IsMatrix m → length (row_at m i) ≡ m.width
row_long m i within matrix = All-get_or (λ row. length row ≡ m.width) m.rows i [] within matrix.full

-- nothing is filled, and the row is zero
pub fills-start : (old : Table) (i : ℕ) → ((j : ℕ) → j < old.width → entry old i j ≡ 0) → FillsRow old old i (λ j. 0)
fills-start old i zeros = record {
  size = record { height_same = refl; width_same = refl };
  long = refl;
  filled = zeros;
  others = λ a b low other. refl;
}

-- the same entries, told otherwise
pub fills-same : (old now : Table) (i : ℕ) (at told : ℕ → ℕ) → FillsRow old now i at → ((b : ℕ) → b < old.width → at b ≡ told b) → FillsRow old now i told
fills-same old now i at told fills same = record {
  size = fills.size;
  long = fills.long;
  filled = λ b low. fills.filled b low ∙ same b low;
  others = fills.others;
}

-- one entry of the row is put
pub fills-next : (old now next : Table) (i j x : ℕ) (at told : ℕ → ℕ) → i < height old → j < length (row_at old i) →
    FillsRow old now i at → next ≡ table_with_entry now i j x →
    ((b : ℕ) → b < old.width → told b ≡ cond (eqb j b) x (at b)) → FillsRow old next i told
fills-next old now next i j x at told within inside fills is value = subst (λ t. FillsRow old t i told) (sym is) (record {
  size = record { height_same = length-set now.rows i (set (row_at now i) j x) ∙ fills.size.height_same; width_same = fills.size.width_same };
  long = ap length row_is ∙ length-set (row_at now i) j x ∙ fills.long;
  filled = λ b low. by b (eqb j b) refl (fills.filled b low) ∙ sym (value b low);
  others = λ a b low other. ap (λ (row : List ℕ). get_or row b 0)
      (get_or-set_other now.rows i a (set (row_at now i) j x) [] other) ∙ fills.others a b low other;
})
  where
    here : i < height now
    here = subst (λ k. i < k) (sym fills.size.height_same) within

    row_is : row_at (table_with_entry now i j x) i ≡ set (row_at now i) j x
    row_is = get_or-set_same now.rows i (set (row_at now i) j x) [] here

    by : (b : ℕ) (c : Bool) → eqb j b ≡ c → entry now i b ≡ at b → entry (table_with_entry now i j x) i b ≡ cond c x (at b)
    by b true e old_entry =
        ap (λ row. get_or row b 0) row_is
        ∙ subst (λ k. get_or (set (row_at now i) j x) k 0 ≡ x) (eqb-true j b e)
        (get_or-set_same (row_at now i) j x 0 (subst (λ k. j < k) (sym fills.long) inside))
    by b false e old_entry =
        ap (λ row. get_or row b 0) row_is ∙ get_or-set_other (row_at now i) j b x 0 (λ same. eqb-false j b e (sym same)) ∙ old_entry
