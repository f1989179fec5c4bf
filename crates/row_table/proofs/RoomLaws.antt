-- A table of P and S whose parts get more room.
use Rattle.std.proofs.Common.{◌≡◌, ℕ, ◌+◌, ◌≤◌, ◌&&◌, cond, ltb, refl, sym, subst, ◌∙◌, arith}
use Rattle.std.proofs.Math.Path.{fun_ext}
use Rattle.linear_algebra.specs.Products.{product, Agree, IsInverse}
use Rattle.dense_q.specs.Tables.{height}
use Rattle.sparse_q.specs.Tables.{number_in, sparse_rows}
use Rattle.row_table.specs.Places.{HaveSlots, Places, whole, with_units}
use Rattle.row_table.specs.PutOffs.{Kept, IsWidened, actual}
use Rattle.row_table.specs.Layouts.{layout_places, rows_of_layout}
use Rattle.row_table.specs.RowTables.{Combined, HasTableRoom, IsCombined, p_part, s_part, u_part}
use Rattle.row_table.specs.TableEdits.{IsWidenedTable}

module _ (p : ℕ) (t n : Combined) (combined : IsCombined p t) (rows_q : sparse_rows n.q ≡ sparse_rows t.q)
    (width_q : n.q.width ≡ t.q.width) (numbers_q : number_in n.q ≡ number_in t.q)
    (rows_l : rows_of_layout n.layout ≡ rows_of_layout t.layout) (columns_l : n.layout.columns ≡ t.layout.columns)
    (places : layout_places n.layout ≡ layout_places t.layout) (rows_k : n.kept.rows ≡ t.kept.rows)
    (columns_k : n.kept.columns ≡ t.kept.columns) (same : actual p n.kept ≡ actual p t.kept) where
  moved : (X : ℕ → ℕ → (ℕ → ℕ → ℕ) → Places → (ℕ → ℕ → ℕ) → Type 0) →
      X (sparse_rows t.q) t.q.width (number_in t.q) (layout_places t.layout) (actual p t.kept) →
      X (sparse_rows n.q) n.q.width (number_in n.q) (layout_places n.layout) (actual p n.kept)
  moved X x =
      subst (λ m. X m n.q.width (number_in n.q) (layout_places n.layout) (actual p n.kept)) (sym rows_q)
      (subst (λ w. X (sparse_rows t.q) w (number_in n.q) (layout_places n.layout) (actual p n.kept)) (sym width_q)
      (subst (λ q. X (sparse_rows t.q) t.q.width q (layout_places n.layout) (actual p n.kept)) (sym numbers_q)
      (subst (λ s. X (sparse_rows t.q) t.q.width (number_in t.q) s (actual p n.kept)) (sym places)
      (subst (λ a. X (sparse_rows t.q) t.q.width (number_in t.q) (layout_places t.layout) a) (sym same) x))))

  pub widened-combined : IsCombined p n
  widened-combined = record {
    kept_rows = rows_k ∙ combined.kept_rows ∙ sym rows_q;
    kept_columns = columns_k ∙ combined.kept_columns ∙ sym width_q;
    layout_rows = rows_l ∙ combined.layout_rows ∙ sym rows_q;
    layout_columns = columns_l ∙ combined.layout_columns ∙ sym width_q;
    placed = moved (λ m w q s a. HaveSlots m w (w + m) s) combined.placed;
    product_is = moved (λ m w q s a. Agree p m (w + m) (whole s a) (product m (λ i j. whole s a i (w + j)) (with_units w q)))
        combined.product_is;
    inverse = moved (λ m w q s a. IsInverse p m (λ i j. whole s a i (w + j)) (λ i j. with_units w q i (s.basic j)))
        combined.inverse;
  }

  pub widened-told : IsWidenedTable p t n
  widened-told = record {
    rows_same = rows_q;
    columns_same = width_q;
    q_same = numbers_q;
    places_same = places;
    p_same = moved (λ m w q s a. ◌≡◌ {A = ℕ → ℕ → ℕ} (λ i j. cond (ltb i m && ltb j w) (whole s a i j) 0) (p_part p t)) refl;
    s_same = moved (λ m w q s a. ◌≡◌ {A = ℕ → ℕ → ℕ} (λ i j. whole s a i (w + j)) (s_part p t)) refl;
    u_same = moved (λ m w q s a. ◌≡◌ {A = ℕ → ℕ → ℕ} (λ i j. with_units w q i (s.basic j)) (u_part t)) refl;
  }

pub actual-widened : (p : ℕ) (k n : Kept) (r c : ℕ) → IsWidened p k n r c → actual p n ≡ actual p k
actual-widened p k n r c h = fun_ext (λ i. fun_ext (λ j. h.same i j))

pub room-kept : (t n : Combined) (c c' : ℕ) → HasTableRoom t c → n.row_room ≡ t.row_room → n.column_room ≡ t.column_room →
    height t.kept.stored ≤ height n.kept.stored → t.kept.stored.width ≤ n.kept.stored.width →
    t.layout.row_room ≤ n.layout.row_room → t.layout.column_room ≤ n.layout.column_room → t.q.row_room ≤ n.q.row_room →
    t.q.column_room ≤ n.q.column_room → c ≤ c' → HasTableRoom n c'
room-kept t n c c' room rows columns a b d e f g h = record {
  stored_rows = omega (arith, room.stored_rows, rows);
  stored_columns = omega (arith, room.stored_columns, columns);
  layout_rows = omega (arith, room.layout_rows, rows);
  layout_columns = omega (arith, room.layout_columns, columns);
  q_rows = omega (arith, room.q_rows, rows);
  q_columns = omega (arith, room.q_columns, columns);
  space_rows = omega (arith, room.space_rows, rows);
}
