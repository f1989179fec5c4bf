use Rattle.std.proofs.Common.{◌≡◌, ◌≢◌, ◌%◌, ◌≤◌, ℕ, refl, sym, subst, ap, ◌∙◌, arith}
use Rattle.limits.specs.Limits.{column_limit}
use Rattle.bit_table.specs.Bits.{Bits}
use Rattle.sparse_q.specs.Tables.{sparse_rows, number_in}
use Rattle.row_transform.specs.declared.entries.Entries.{Entries}
use Rattle.row_transform.specs.Edits.{Room}
use Rattle.row_transform.specs.Entries.{KeepsListed}
use Rattle.row_transform.proofs.RoomLaws.{grown-few}
use Rattle.sparse_tableau.specs.Listings.{AreNumbersListed, AreSparseEntriesListed}
use Rattle.sparse_tableau.specs.Sparse.{Sparse}
use Rattle.sparse_tableau.proofs.Grown.{IsBaseRoomier, IsRoomier, base-ok, base-same, base-columns_fit, base-rows_fit, fits-ok, fits-still}
use Rattle.sparse_tableau.proofs.Grown.{grown-sparse, grown-entries, grown-numbers, listed-more, roomier-ok, roomier-same}
use Rattle.sparse_tableau.proofs.sparse.SparseTableauTableau.room.Goals as goal

pub invariant_of-self-in_err-room-2 : goal.invariant_of-self-in_err-room-2
invariant_of-self-in_err-room-2 g c =
    let modulus = g.F.Field.modulus in
    let inside = c.self.inside in
    let room : Room = record { rows = inside.row_room; columns = inside.column_room } in
    let q = inside.columns in
    let p = inside.transform.p in
    let s = inside.transform.s in
    let v = inside.v in
    let base = inside.base in
    let a = inside.entries.bits in
    let b = inside.u_entries.bits in
    let had = c.self.invariant.3 in
    let rows_is : c.rows.result ≡ sparse_rows p = c.rows.ensures.rows ∙ ap (λ (t : Sparse). sparse_rows t.p) (sym c.self.view_is) in
    let columns_is : c.columns.result ≡ p.width = c.columns.ensures.columns ∙ ap (λ (t : Sparse). t.p.width) (sym c.self.view_is) in
    let q_more : IsRoomier q c.room.new.self = roomier-ok q c.room.new.self c.max-2.result c.max.result c.in_ok-room.ensures.ok in
    let p_more : IsRoomier p c.room-2.new.self = roomier-same p c.room-2.new.self c.in_err-room-2.ensures.err in
    let s_more : IsRoomier s s = roomier-same s s refl in
    let v_more : IsRoomier v v = roomier-same v v refl in
    let base_more : IsBaseRoomier base base = base-same base base refl in (
      grown-sparse modulus q p s v base room room a b
          c.self.invariant.0 c.self.invariant.1 c.self.invariant.2
          c.room.new.self c.room-2.new.self s v base q_more p_more s_more v_more base_more,
      grown-entries modulus q p s v base room room a b
          c.self.invariant.0 c.self.invariant.1 c.self.invariant.2
          c.room.new.self c.room-2.new.self s v base q_more p_more s_more v_more base_more,
      grown-numbers modulus q p s v base room room a b
          c.self.invariant.0 c.self.invariant.1 c.self.invariant.2
          c.room.new.self c.room-2.new.self s v base q_more p_more s_more v_more base_more,
      record {
        few = had.few;
        narrow = had.narrow;
        q_room = fits-still q c.room.new.self room.columns room.rows q_more had.q_room;
        p_room = fits-still p c.room-2.new.self room.rows room.columns p_more had.p_room;
        s_room = fits-still s s room.rows room.rows s_more had.s_room;
        v_room = fits-still v v room.rows room.rows v_more had.v_room;
        base_rows = omega (arith, had.base_rows, base_more.rows_more);
        base_columns = omega (arith, had.base_columns, base_more.columns_more);
        entry_rows = had.entry_rows;
        entry_columns = had.entry_columns;
        u_entry_rows = had.u_entry_rows;
        u_entry_columns = had.u_entry_columns;
      },
    )

pub invariant_of-self-in_err-room-3 : goal.invariant_of-self-in_err-room-3
invariant_of-self-in_err-room-3 g c =
    let modulus = g.F.Field.modulus in
    let inside = c.self.inside in
    let room : Room = record { rows = inside.row_room; columns = inside.column_room } in
    let q = inside.columns in
    let p = inside.transform.p in
    let s = inside.transform.s in
    let v = inside.v in
    let base = inside.base in
    let a = inside.entries.bits in
    let b = inside.u_entries.bits in
    let had = c.self.invariant.3 in
    let rows_is : c.rows.result ≡ sparse_rows p = c.rows.ensures.rows ∙ ap (λ (t : Sparse). sparse_rows t.p) (sym c.self.view_is) in
    let columns_is : c.columns.result ≡ p.width = c.columns.ensures.columns ∙ ap (λ (t : Sparse). t.p.width) (sym c.self.view_is) in
    let q_more : IsRoomier q c.room.new.self = roomier-ok q c.room.new.self c.max-2.result c.max.result c.in_ok-room.ensures.ok in
    let p_more : IsRoomier p c.room-2.new.self = roomier-ok p c.room-2.new.self c.max.result c.max-2.result c.in_ok-room-2.ensures.ok in
    let s_more : IsRoomier s c.room-3.new.self = roomier-same s c.room-3.new.self c.in_err-room-3.ensures.err in
    let v_more : IsRoomier v v = roomier-same v v refl in
    let base_more : IsBaseRoomier base base = base-same base base refl in (
      grown-sparse modulus q p s v base room room a b
          c.self.invariant.0 c.self.invariant.1 c.self.invariant.2
          c.room.new.self c.room-2.new.self c.room-3.new.self v base q_more p_more s_more v_more base_more,
      grown-entries modulus q p s v base room room a b
          c.self.invariant.0 c.self.invariant.1 c.self.invariant.2
          c.room.new.self c.room-2.new.self c.room-3.new.self v base q_more p_more s_more v_more base_more,
      grown-numbers modulus q p s v base room room a b
          c.self.invariant.0 c.self.invariant.1 c.self.invariant.2
          c.room.new.self c.room-2.new.self c.room-3.new.self v base q_more p_more s_more v_more base_more,
      record {
        few = had.few;
        narrow = had.narrow;
        q_room = fits-still q c.room.new.self room.columns room.rows q_more had.q_room;
        p_room = fits-still p c.room-2.new.self room.rows room.columns p_more had.p_room;
        s_room = fits-still s c.room-3.new.self room.rows room.rows s_more had.s_room;
        v_room = fits-still v v room.rows room.rows v_more had.v_room;
        base_rows = omega (arith, had.base_rows, base_more.rows_more);
        base_columns = omega (arith, had.base_columns, base_more.columns_more);
        entry_rows = had.entry_rows;
        entry_columns = had.entry_columns;
        u_entry_rows = had.u_entry_rows;
        u_entry_columns = had.u_entry_columns;
      },
    )

pub invariant_of-self-in_err-room-4 : goal.invariant_of-self-in_err-room-4
invariant_of-self-in_err-room-4 g c =
    let modulus = g.F.Field.modulus in
    let inside = c.self.inside in
    let room : Room = record { rows = inside.row_room; columns = inside.column_room } in
    let q = inside.columns in
    let p = inside.transform.p in
    let s = inside.transform.s in
    let v = inside.v in
    let base = inside.base in
    let a = inside.entries.bits in
    let b = inside.u_entries.bits in
    let had = c.self.invariant.3 in
    let rows_is : c.rows.result ≡ sparse_rows p = c.rows.ensures.rows ∙ ap (λ (t : Sparse). sparse_rows t.p) (sym c.self.view_is) in
    let columns_is : c.columns.result ≡ p.width = c.columns.ensures.columns ∙ ap (λ (t : Sparse). t.p.width) (sym c.self.view_is) in
    let q_more : IsRoomier q c.room.new.self = roomier-ok q c.room.new.self c.max-2.result c.max.result c.in_ok-room.ensures.ok in
    let p_more : IsRoomier p c.room-2.new.self = roomier-ok p c.room-2.new.self c.max.result c.max-2.result c.in_ok-room-2.ensures.ok in
    let s_more : IsRoomier s c.room-3.new.self = roomier-ok s c.room-3.new.self c.max.result c.max.result c.in_ok-room-3.ensures.ok in
    let v_more : IsRoomier v c.room-4.new.self = roomier-same v c.room-4.new.self c.in_err-room-4.ensures.err in
    let base_more : IsBaseRoomier base base = base-same base base refl in (
      grown-sparse modulus q p s v base room room a b
          c.self.invariant.0 c.self.invariant.1 c.self.invariant.2
          c.room.new.self c.room-2.new.self c.room-3.new.self c.room-4.new.self base q_more p_more s_more v_more base_more,
      grown-entries modulus q p s v base room room a b
          c.self.invariant.0 c.self.invariant.1 c.self.invariant.2
          c.room.new.self c.room-2.new.self c.room-3.new.self c.room-4.new.self base q_more p_more s_more v_more base_more,
      grown-numbers modulus q p s v base room room a b
          c.self.invariant.0 c.self.invariant.1 c.self.invariant.2
          c.room.new.self c.room-2.new.self c.room-3.new.self c.room-4.new.self base q_more p_more s_more v_more base_more,
      record {
        few = had.few;
        narrow = had.narrow;
        q_room = fits-still q c.room.new.self room.columns room.rows q_more had.q_room;
        p_room = fits-still p c.room-2.new.self room.rows room.columns p_more had.p_room;
        s_room = fits-still s c.room-3.new.self room.rows room.rows s_more had.s_room;
        v_room = fits-still v c.room-4.new.self room.rows room.rows v_more had.v_room;
        base_rows = omega (arith, had.base_rows, base_more.rows_more);
        base_columns = omega (arith, had.base_columns, base_more.columns_more);
        entry_rows = had.entry_rows;
        entry_columns = had.entry_columns;
        u_entry_rows = had.u_entry_rows;
        u_entry_columns = had.u_entry_columns;
      },
    )

pub invariant_of-self-in_err-room-5 : goal.invariant_of-self-in_err-room-5
invariant_of-self-in_err-room-5 g c =
    let modulus = g.F.Field.modulus in
    let inside = c.self.inside in
    let room : Room = record { rows = inside.row_room; columns = inside.column_room } in
    let q = inside.columns in
    let p = inside.transform.p in
    let s = inside.transform.s in
    let v = inside.v in
    let base = inside.base in
    let a = inside.entries.bits in
    let b = inside.u_entries.bits in
    let had = c.self.invariant.3 in
    let rows_is : c.rows.result ≡ sparse_rows p = c.rows.ensures.rows ∙ ap (λ (t : Sparse). sparse_rows t.p) (sym c.self.view_is) in
    let columns_is : c.columns.result ≡ p.width = c.columns.ensures.columns ∙ ap (λ (t : Sparse). t.p.width) (sym c.self.view_is) in
    let q_more : IsRoomier q c.room.new.self = roomier-ok q c.room.new.self c.max-2.result c.max.result c.in_ok-room.ensures.ok in
    let p_more : IsRoomier p c.room-2.new.self = roomier-ok p c.room-2.new.self c.max.result c.max-2.result c.in_ok-room-2.ensures.ok in
    let s_more : IsRoomier s c.room-3.new.self = roomier-ok s c.room-3.new.self c.max.result c.max.result c.in_ok-room-3.ensures.ok in
    let v_more : IsRoomier v c.room-4.new.self = roomier-ok v c.room-4.new.self c.max.result c.max.result c.in_ok-room-4.ensures.ok in
    let base_more : IsBaseRoomier base c.room-5.new.self = base-same base c.room-5.new.self c.in_err-room-5.ensures.err in (
      grown-sparse modulus q p s v base room room a b
          c.self.invariant.0 c.self.invariant.1 c.self.invariant.2
          c.room.new.self c.room-2.new.self c.room-3.new.self c.room-4.new.self c.room-5.new.self q_more p_more s_more v_more base_more,
      grown-entries modulus q p s v base room room a b
          c.self.invariant.0 c.self.invariant.1 c.self.invariant.2
          c.room.new.self c.room-2.new.self c.room-3.new.self c.room-4.new.self c.room-5.new.self q_more p_more s_more v_more base_more,
      grown-numbers modulus q p s v base room room a b
          c.self.invariant.0 c.self.invariant.1 c.self.invariant.2
          c.room.new.self c.room-2.new.self c.room-3.new.self c.room-4.new.self c.room-5.new.self q_more p_more s_more v_more base_more,
      record {
        few = had.few;
        narrow = had.narrow;
        q_room = fits-still q c.room.new.self room.columns room.rows q_more had.q_room;
        p_room = fits-still p c.room-2.new.self room.rows room.columns p_more had.p_room;
        s_room = fits-still s c.room-3.new.self room.rows room.rows s_more had.s_room;
        v_room = fits-still v c.room-4.new.self room.rows room.rows v_more had.v_room;
        base_rows = omega (arith, had.base_rows, base_more.rows_more);
        base_columns = omega (arith, had.base_columns, base_more.columns_more);
        entry_rows = had.entry_rows;
        entry_columns = had.entry_columns;
        u_entry_rows = had.u_entry_rows;
        u_entry_columns = had.u_entry_columns;
      },
    )

pub invariant_of-self-in_err-room-6 : goal.invariant_of-self-in_err-room-6
invariant_of-self-in_err-room-6 g c =
    let modulus = g.F.Field.modulus in
    let inside = c.self.inside in
    let room : Room = record { rows = inside.row_room; columns = inside.column_room } in
    let q = inside.columns in
    let p = inside.transform.p in
    let s = inside.transform.s in
    let v = inside.v in
    let base = inside.base in
    let a = inside.entries.bits in
    let b = inside.u_entries.bits in
    let had = c.self.invariant.3 in
    let rows_is : c.rows.result ≡ sparse_rows p = c.rows.ensures.rows ∙ ap (λ (t : Sparse). sparse_rows t.p) (sym c.self.view_is) in
    let columns_is : c.columns.result ≡ p.width = c.columns.ensures.columns ∙ ap (λ (t : Sparse). t.p.width) (sym c.self.view_is) in
    let q_more : IsRoomier q c.room.new.self = roomier-ok q c.room.new.self c.max-2.result c.max.result c.in_ok-room.ensures.ok in
    let p_more : IsRoomier p c.room-2.new.self = roomier-ok p c.room-2.new.self c.max.result c.max-2.result c.in_ok-room-2.ensures.ok in
    let s_more : IsRoomier s c.room-3.new.self = roomier-ok s c.room-3.new.self c.max.result c.max.result c.in_ok-room-3.ensures.ok in
    let v_more : IsRoomier v c.room-4.new.self = roomier-ok v c.room-4.new.self c.max.result c.max.result c.in_ok-room-4.ensures.ok in
    let base_more : IsBaseRoomier base c.room-5.new.self = base-ok base c.room-5.new.self c.max.result c.max-2.result c.in_ok-room-5.ensures.ok in
    let a_same : c.room-6.new.self.bits ≡ a = ap (λ (t : Entries). t.bits) c.in_err-room-6.ensures.err in (
      grown-sparse modulus q p s v base room room c.room-6.new.self.bits b
          c.self.invariant.0 (subst (λ t. AreSparseEntriesListed modulus p t) (sym a_same) c.self.invariant.1) c.self.invariant.2
          c.room.new.self c.room-2.new.self c.room-3.new.self c.room-4.new.self c.room-5.new.self q_more p_more s_more v_more base_more,
      grown-entries modulus q p s v base room room c.room-6.new.self.bits b
          c.self.invariant.0 (subst (λ t. AreSparseEntriesListed modulus p t) (sym a_same) c.self.invariant.1) c.self.invariant.2
          c.room.new.self c.room-2.new.self c.room-3.new.self c.room-4.new.self c.room-5.new.self q_more p_more s_more v_more base_more,
      grown-numbers modulus q p s v base room room c.room-6.new.self.bits b
          c.self.invariant.0 (subst (λ t. AreSparseEntriesListed modulus p t) (sym a_same) c.self.invariant.1) c.self.invariant.2
          c.room.new.self c.room-2.new.self c.room-3.new.self c.room-4.new.self c.room-5.new.self q_more p_more s_more v_more base_more,
      record {
        few = had.few;
        narrow = had.narrow;
        q_room = fits-still q c.room.new.self room.columns room.rows q_more had.q_room;
        p_room = fits-still p c.room-2.new.self room.rows room.columns p_more had.p_room;
        s_room = fits-still s c.room-3.new.self room.rows room.rows s_more had.s_room;
        v_room = fits-still v c.room-4.new.self room.rows room.rows v_more had.v_room;
        base_rows = omega (arith, had.base_rows, base_more.rows_more);
        base_columns = omega (arith, had.base_columns, base_more.columns_more);
        entry_rows = omega (arith, had.entry_rows, ap (λ (t : Bits). t.size) a_same);
        entry_columns = omega (arith, had.entry_columns, ap (λ (t : Bits). t.rows) a_same);
        u_entry_rows = had.u_entry_rows;
        u_entry_columns = had.u_entry_columns;
      },
    )

pub invariant_of-self-in_err-room-7 : goal.invariant_of-self-in_err-room-7
invariant_of-self-in_err-room-7 g c =
    let modulus = g.F.Field.modulus in
    let inside = c.self.inside in
    let room : Room = record { rows = inside.row_room; columns = inside.column_room } in
    let q = inside.columns in
    let p = inside.transform.p in
    let s = inside.transform.s in
    let v = inside.v in
    let base = inside.base in
    let a = inside.entries.bits in
    let b = inside.u_entries.bits in
    let had = c.self.invariant.3 in
    let rows_is : c.rows.result ≡ sparse_rows p = c.rows.ensures.rows ∙ ap (λ (t : Sparse). sparse_rows t.p) (sym c.self.view_is) in
    let columns_is : c.columns.result ≡ p.width = c.columns.ensures.columns ∙ ap (λ (t : Sparse). t.p.width) (sym c.self.view_is) in
    let q_more : IsRoomier q c.room.new.self = roomier-ok q c.room.new.self c.max-2.result c.max.result c.in_ok-room.ensures.ok in
    let p_more : IsRoomier p c.room-2.new.self = roomier-ok p c.room-2.new.self c.max.result c.max-2.result c.in_ok-room-2.ensures.ok in
    let s_more : IsRoomier s c.room-3.new.self = roomier-ok s c.room-3.new.self c.max.result c.max.result c.in_ok-room-3.ensures.ok in
    let v_more : IsRoomier v c.room-4.new.self = roomier-ok v c.room-4.new.self c.max.result c.max.result c.in_ok-room-4.ensures.ok in
    let base_more : IsBaseRoomier base c.room-5.new.self = base-ok base c.room-5.new.self c.max.result c.max-2.result c.in_ok-room-5.ensures.ok in
    let a_keeps : KeepsListed (sparse_rows p) p.width a c.room-6.new.self.bits =
    subst (λ m. KeepsListed m p.width a c.room-6.new.self.bits) rows_is
    (subst (λ n. KeepsListed c.rows.result n a c.room-6.new.self.bits) columns_is c.in_ok-room-6.ensures.kept) in
    let a_size = c.in_ok-room-6.ensures.size in
    let a_listed : AreSparseEntriesListed modulus p c.room-6.new.self.bits =
    listed-more (sparse_rows p) p.width c.max.result c.max-2.result (λ i j. number_in p i j % modulus ≢ 0) a c.room-6.new.self.bits
    c.self.invariant.1 a_keeps (omega (arith, rows_is, c.max.ensures)) (omega (arith, columns_is, c.max-2.ensures)) a_size in
    let b_same : c.room-7.new.self.bits ≡ b = ap (λ (t : Entries). t.bits) c.in_err-room-7.ensures.err in (
      grown-sparse modulus q p s v base room room c.room-6.new.self.bits c.room-7.new.self.bits
          c.self.invariant.0 a_listed (subst (λ t. AreNumbersListed v t) (sym b_same) c.self.invariant.2)
          c.room.new.self c.room-2.new.self c.room-3.new.self c.room-4.new.self c.room-5.new.self q_more p_more s_more v_more base_more,
      grown-entries modulus q p s v base room room c.room-6.new.self.bits c.room-7.new.self.bits
          c.self.invariant.0 a_listed (subst (λ t. AreNumbersListed v t) (sym b_same) c.self.invariant.2)
          c.room.new.self c.room-2.new.self c.room-3.new.self c.room-4.new.self c.room-5.new.self q_more p_more s_more v_more base_more,
      grown-numbers modulus q p s v base room room c.room-6.new.self.bits c.room-7.new.self.bits
          c.self.invariant.0 a_listed (subst (λ t. AreNumbersListed v t) (sym b_same) c.self.invariant.2)
          c.room.new.self c.room-2.new.self c.room-3.new.self c.room-4.new.self c.room-5.new.self q_more p_more s_more v_more base_more,
      record {
        few = had.few;
        narrow = had.narrow;
        q_room = fits-still q c.room.new.self room.columns room.rows q_more had.q_room;
        p_room = fits-still p c.room-2.new.self room.rows room.columns p_more had.p_room;
        s_room = fits-still s c.room-3.new.self room.rows room.rows s_more had.s_room;
        v_room = fits-still v c.room-4.new.self room.rows room.rows v_more had.v_room;
        base_rows = omega (arith, had.base_rows, base_more.rows_more);
        base_columns = omega (arith, had.base_columns, base_more.columns_more);
        entry_rows = omega (arith, a_size.rows_fit, c.grown-rows.ensures.had, c.max.ensures);
        entry_columns = omega (arith, a_size.columns_fit, c.grown-cols.ensures.had, c.max-2.ensures);
        u_entry_rows = omega (arith, had.u_entry_rows, ap (λ (t : Bits). t.size) b_same);
        u_entry_columns = omega (arith, had.u_entry_columns, ap (λ (t : Bits). t.rows) b_same);
      },
    )

pub invariant_of-self-2 : goal.invariant_of-self-2
invariant_of-self-2 g c =
    let modulus = g.F.Field.modulus in
    let inside = c.self.inside in
    let room : Room = record { rows = inside.row_room; columns = inside.column_room } in
    let q = inside.columns in
    let p = inside.transform.p in
    let s = inside.transform.s in
    let v = inside.v in
    let base = inside.base in
    let a = inside.entries.bits in
    let b = inside.u_entries.bits in
    let had = c.self.invariant.3 in
    let rows_few : c.grown-rows.result ≤ column_limit = subst (λ (n : ℕ). n ≤ column_limit) (sym c.grown-rows.ensures.grown)
    (grown-few inside.row_room c.args.rows had.few c.requires.rows) in
    let columns_few : c.grown-cols.result ≤ column_limit = subst (λ (n : ℕ). n ≤ column_limit) (sym c.grown-cols.ensures.grown)
    (grown-few inside.column_room c.args.cols had.narrow c.requires.cols) in
    let rows_is : c.rows.result ≡ sparse_rows p = c.rows.ensures.rows ∙ ap (λ (t : Sparse). sparse_rows t.p) (sym c.self.view_is) in
    let columns_is : c.columns.result ≡ p.width = c.columns.ensures.columns ∙ ap (λ (t : Sparse). t.p.width) (sym c.self.view_is) in
    let q_more : IsRoomier q c.room.new.self = roomier-ok q c.room.new.self c.max-2.result c.max.result c.in_ok-room.ensures.ok in
    let p_more : IsRoomier p c.room-2.new.self = roomier-ok p c.room-2.new.self c.max.result c.max-2.result c.in_ok-room-2.ensures.ok in
    let s_more : IsRoomier s c.room-3.new.self = roomier-ok s c.room-3.new.self c.max.result c.max.result c.in_ok-room-3.ensures.ok in
    let v_more : IsRoomier v c.room-4.new.self = roomier-ok v c.room-4.new.self c.max.result c.max.result c.in_ok-room-4.ensures.ok in
    let base_more : IsBaseRoomier base c.room-5.new.self = base-ok base c.room-5.new.self c.max.result c.max-2.result c.in_ok-room-5.ensures.ok in
    let a_keeps : KeepsListed (sparse_rows p) p.width a c.room-6.new.self.bits =
    subst (λ m. KeepsListed m p.width a c.room-6.new.self.bits) rows_is
    (subst (λ n. KeepsListed c.rows.result n a c.room-6.new.self.bits) columns_is c.in_ok-room-6.ensures.kept) in
    let a_size = c.in_ok-room-6.ensures.size in
    let a_listed : AreSparseEntriesListed modulus p c.room-6.new.self.bits =
    listed-more (sparse_rows p) p.width c.max.result c.max-2.result (λ i j. number_in p i j % modulus ≢ 0) a c.room-6.new.self.bits
    c.self.invariant.1 a_keeps (omega (arith, rows_is, c.max.ensures)) (omega (arith, columns_is, c.max-2.ensures)) a_size in
    let square : c.square.result.rows ≡ sparse_rows v = c.square.ensures.rows ∙ rows_is ∙ sym c.self.invariant.0.v_size.rows_are in
    let square_width : c.square.result.columns ≡ v.width = c.square.ensures.columns ∙ rows_is ∙ sym c.self.invariant.0.v_size.width_is in
    let b_keeps : KeepsListed (sparse_rows v) v.width b c.room-7.new.self.bits =
    subst (λ m. KeepsListed m v.width b c.room-7.new.self.bits) square
    (subst (λ n. KeepsListed c.square.result.rows n b c.room-7.new.self.bits) square_width c.in_ok-room-7.ensures.kept) in
    let b_size = c.in_ok-room-7.ensures.size in
    let b_listed : AreNumbersListed v c.room-7.new.self.bits =
    listed-more (sparse_rows v) v.width c.square-2.result.rows c.square-2.result.columns (λ i j. number_in v i j ≢ 0) b c.room-7.new.self.bits
    c.self.invariant.2 b_keeps (omega (arith, square, c.square.ensures.rows, c.square-2.ensures.rows, c.max.ensures))
    (omega (arith, square_width, c.square.ensures.columns, c.square-2.ensures.columns, c.max.ensures)) b_size in (
      grown-sparse modulus q p s v base room (record { rows = c.max.result; columns = c.max-2.result }) c.room-6.new.self.bits c.room-7.new.self.bits
          c.self.invariant.0 a_listed b_listed
          c.room.new.self c.room-2.new.self c.room-3.new.self c.room-4.new.self c.room-5.new.self q_more p_more s_more v_more base_more,
      grown-entries modulus q p s v base room (record { rows = c.max.result; columns = c.max-2.result }) c.room-6.new.self.bits c.room-7.new.self.bits
          c.self.invariant.0 a_listed b_listed
          c.room.new.self c.room-2.new.self c.room-3.new.self c.room-4.new.self c.room-5.new.self q_more p_more s_more v_more base_more,
      grown-numbers modulus q p s v base room (record { rows = c.max.result; columns = c.max-2.result }) c.room-6.new.self.bits c.room-7.new.self.bits
          c.self.invariant.0 a_listed b_listed
          c.room.new.self c.room-2.new.self c.room-3.new.self c.room-4.new.self c.room-5.new.self q_more p_more s_more v_more base_more,
      record {
        few = omega (arith, rows_few, c.rows.ensures.few, c.max.ensures);
        narrow = omega (arith, columns_few, c.columns.ensures.narrow, c.max-2.ensures);
        q_room = fits-ok q c.room.new.self c.max-2.result c.max.result c.in_ok-room.ensures.ok;
        p_room = fits-ok p c.room-2.new.self c.max.result c.max-2.result c.in_ok-room-2.ensures.ok;
        s_room = fits-ok s c.room-3.new.self c.max.result c.max.result c.in_ok-room-3.ensures.ok;
        v_room = fits-ok v c.room-4.new.self c.max.result c.max.result c.in_ok-room-4.ensures.ok;
        base_rows = base-rows_fit base c.room-5.new.self c.max.result c.max-2.result c.in_ok-room-5.ensures.ok;
        base_columns = base-columns_fit base c.room-5.new.self c.max.result c.max-2.result c.in_ok-room-5.ensures.ok;
        entry_rows = a_size.rows_fit;
        entry_columns = a_size.columns_fit;
        u_entry_rows = omega (arith, b_size.rows_fit, c.square-2.ensures.rows);
        u_entry_columns = omega (arith, b_size.columns_fit, c.square-2.ensures.columns);
      },
    )
