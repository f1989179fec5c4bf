-- The parts of a sparse tableau, with more room.
use Rattle.std.proofs.Common.{◌≡◌, ℕ, ◌≤◌, refl, sym, subst, ap, arith}
use Rattle.bit_table.specs.Bits.{Bits}
use Rattle.sparse_q.specs.Tables.{SparseTable, with_room}
use Rattle.row_transform.specs.Bases.{BaseLists, with_base_room}
use Rattle.row_transform.specs.Edits.{Room}
use Rattle.row_transform.specs.Entries.{HasSizeOf, KeepsListed, AreRowsListed}
use Rattle.sparse_tableau.specs.Listings.{AreNumbersListed, AreSparseEntriesListed}
use Rattle.sparse_tableau.specs.Sparse.{HasTableRoom, IsSparse}

-- n is m with other room
pub record IsRoomier (m n : SparseTable) : Type 0 where
  pub is : n ≡ record m { row_room = n.row_room; column_room = n.column_room }
  pub rows_more : m.row_room ≤ n.row_room
  pub columns_more : m.column_room ≤ n.column_room

pub roomier-same : (m n : SparseTable) → n ≡ m → IsRoomier m n
roomier-same m n e = subst (λ t. IsRoomier m t) (sym e) (record { is = refl; rows_more = omega arith; columns_more = omega arith })

pub roomier-ok : (m n : SparseTable) (r c : ℕ) → n ≡ with_room m r c → IsRoomier m n
roomier-ok m n r c e = subst (λ t. IsRoomier m t) (sym e) (record { is = refl; rows_more = omega arith; columns_more = omega arith })

pub fits-ok : (m n : SparseTable) (r c : ℕ) → n ≡ with_room m r c → HasTableRoom r c n
fits-ok m n r c e = subst (λ t. HasTableRoom r c t) (sym e) (record { rows_fit = omega arith; columns_fit = omega arith })

pub fits-still : (m n : SparseTable) (r c : ℕ) → IsRoomier m n → HasTableRoom r c m → HasTableRoom r c n
fits-still m n r c more fit = record {
  rows_fit = omega (arith, fit.rows_fit, more.rows_more);
  columns_fit = omega (arith, fit.columns_fit, more.columns_more);
}

-- and a base
pub record IsBaseRoomier (b c : BaseLists) : Type 0 where
  pub is : c ≡ record b { row_room = c.row_room; column_room = c.column_room }
  pub rows_more : b.row_room ≤ c.row_room
  pub columns_more : b.column_room ≤ c.column_room

pub base-same : (b c : BaseLists) → c ≡ b → IsBaseRoomier b c
base-same b c e = subst (λ t. IsBaseRoomier b t) (sym e) (record { is = refl; rows_more = omega arith; columns_more = omega arith })

pub base-ok : (b c : BaseLists) (r k : ℕ) → c ≡ with_base_room b r k → IsBaseRoomier b c
base-ok b c r k e = subst (λ t. IsBaseRoomier b t) (sym e) (record { is = refl; rows_more = omega arith; columns_more = omega arith })

pub base-rows_fit : (b c : BaseLists) (r k : ℕ) → c ≡ with_base_room b r k → r ≤ c.row_room
base-rows_fit b c r k e = omega (arith, ap (λ (t : BaseLists). t.row_room) e)

pub base-columns_fit : (b c : BaseLists) (r k : ℕ) → c ≡ with_base_room b r k → k ≤ c.column_room
base-columns_fit b c r k e = omega (arith, ap (λ (t : BaseLists). t.column_room) e)

-- what is listed in a larger table
pub listed-more : (m n r k : ℕ) (HasEntry : ℕ → ℕ → Type 0) (b c : Bits) → AreRowsListed m n HasEntry b → KeepsListed m n b c →
    m ≤ r → n ≤ k → HasSizeOf r k c → AreRowsListed m n HasEntry c
listed-more m n r k HasEntry b c listed keeps rows columns size = record {
  size = record {
    columns_fit = omega (arith, columns, size.columns_fit);
    rows_fit = omega (arith, rows, size.rows_fit);
  };
  listed = λ i j il jl h. keeps i j il jl (listed.listed i j il jl h);
}

-- a sparse tableau stays one
module _ (p : ℕ) (q pp s v : SparseTable) (base : BaseLists) (room more : Room) (a b : Bits)
    (kept : IsSparse p (record { q = q; p = pp; s = s; v = v; base = base; room = room }))
    (listed : AreSparseEntriesListed p pp a) (u_listed : AreNumbersListed v b)
    (qn pn sn vn : SparseTable) (now : BaseLists) (q_more : IsRoomier q qn) (p_more : IsRoomier pp pn) (s_more : IsRoomier s sn)
    (v_more : IsRoomier v vn) (base_more : IsBaseRoomier base now) where
  abbrev wide : SparseTable → ℕ → ℕ → SparseTable
  wide m r c = record m { row_room = r; column_room = c }

  same : (qr qc pr pc sr sc vr vc br bc : ℕ) → IsSparse p (record {
    q = wide q qr qc;
    p = wide pp pr pc;
    s = wide s sr sc;
    v = wide v vr vc;
    base = record base { row_room = br; column_room = bc };
    room = more;
  })
  same qr qc pr pc sr sc vr vc br bc = record {
    q_size = record { rows_are = kept.q_size.rows_are; width_is = kept.q_size.width_is };
    s_size = record { rows_are = kept.s_size.rows_are; width_is = kept.s_size.width_is };
    v_size = record { rows_are = kept.v_size.rows_are; width_is = kept.v_size.width_is };
    base_rows = kept.base_rows;
    base_columns = kept.base_columns;
    tableau = record {
      product_is = kept.tableau.product_is;
      inverse = kept.tableau.inverse;
      unit_columns = kept.tableau.unit_columns;
    };
  }

  pub grown-sparse : IsSparse p (record { q = qn; p = pn; s = sn; v = vn; base = now; room = more })
  grown-sparse =
      subst (λ (t : SparseTable). IsSparse p (record { q = t; p = pn; s = sn; v = vn; base = now; room = more })) (sym q_more.is)
      (subst (λ (t : SparseTable). IsSparse p (record { q = wide q qn.row_room qn.column_room; p = t; s = sn; v = vn; base = now; room = more }))
      (sym p_more.is)
      (subst (λ (t : SparseTable). IsSparse p (record {
        q = wide q qn.row_room qn.column_room;
        p = wide pp pn.row_room pn.column_room;
        s = t;
        v = vn;
        base = now;
        room = more;
      })) (sym s_more.is)
      (subst (λ (t : SparseTable). IsSparse p (record {
        q = wide q qn.row_room qn.column_room;
        p = wide pp pn.row_room pn.column_room;
        s = wide s sn.row_room sn.column_room;
        v = t;
        base = now;
        room = more;
      })) (sym v_more.is)
      (subst (λ (t : BaseLists). IsSparse p (record {
        q = wide q qn.row_room qn.column_room;
        p = wide pp pn.row_room pn.column_room;
        s = wide s sn.row_room sn.column_room;
        v = wide v vn.row_room vn.column_room;
        base = t;
        room = more;
      })) (sym base_more.is)
      (same qn.row_room qn.column_room pn.row_room pn.column_room sn.row_room sn.column_room vn.row_room vn.column_room now.row_room
      now.column_room)))))

  pub grown-entries : AreSparseEntriesListed p pn a
  grown-entries = subst (λ (t : SparseTable). AreSparseEntriesListed p t a) (sym p_more.is) listed

  pub grown-numbers : AreNumbersListed vn b
  grown-numbers = subst (λ (t : SparseTable). AreNumbersListed t b) (sym v_more.is) u_listed
