use Rattle.std.proofs.Common.{◌≡◌, ◌⊎◌, ◌+◌, ◌*◌, ◌%◌, ℕ, inl, inr, arith, sym, subst, ◌∙◌}
use Rattle.sparse_q.specs.Tables.{sparse_rows, number_in}
use Rattle.row_transform.proofs.EntryEdits.{same_size, sizes-joined}
use Rattle.sparse_tableau.proofs.EntryLaws.{row_set-entries, scaled-entries}
use Rattle.sparse_tableau.proofs.TransformLaws.{reduced-scaled, reduced-all, reduced-skip, reduced-add, room-set, size-set, some-factor}
use Rattle.sparse_tableau.proofs.transform.Transform.clear.Goals as goal
use Rattle.sparse_tableau.proofs.transform.Transform.clear.Goals.{then-i-row+then-not-is_zero, else-i-row}
use Rattle.sparse_tableau.proofs.transform.Transform.clear.Goals.{else-i-row-via-then-i-row+else-not-is_zero}
use Rattle.sparse_tableau.proofs.transform.Transform.clear.Goals.{else-i-row-via-else-i-row}

pub scale-requires-clause-factor : goal.scale-requires-clause-factor
scale-requires-clause-factor g c =
    let one : (g.F.Field.number c.get-entry.result * g.F.Field.number c.unwrap-factor.result) % g.F.Field.modulus ≡ 1 =
    rw c.unwrap-factor.ensures at c.inv.ensures.inverse in
    some-factor g.F.Field.modulus _ _ one

pub loop-i-init : goal.loop-i-init
loop-i-init g c =
    let modulus = g.F.Field.modulus in
    let k : ℕ → ℕ = λ i. number_in c.args.self.now.s i c.args.col in
    let found : (g.F.Field.number c.get-entry.result * g.F.Field.number c.unwrap-factor.result) % modulus ≡ 1 =
    rw c.unwrap-factor.ensures at c.inv.ensures.inverse in
    let one : (k c.args.row * g.F.Field.number c.unwrap-factor.result) % modulus ≡ 1 =
    subst (λ x. (x * g.F.Field.number c.unwrap-factor.result) % modulus ≡ 1) c.get-entry.ensures found in
    record {
      p_size = c.scale.ensures.p.size;
      s_size = c.scale.ensures.s.size;
      p_room = record { row_room = c.scale.ensures.p.row_room; column_room = c.scale.ensures.p.column_room };
      s_room = record { row_room = c.scale.ensures.s.row_room; column_room = c.scale.ensures.s.column_room };
      on_p = reduced-scaled modulus c.args.self.now.p c.scale.new.self.p c.args.row k _ g.met.F.Field.prime.above_one
          one c.scale.ensures.p;
      on_s = reduced-scaled modulus c.args.self.now.s c.scale.new.self.s c.args.row k _ g.met.F.Field.prime.above_one
          one c.scale.ensures.s;
      listed = scaled-entries modulus c.args.self.now.p c.scale.new.self.p c.args.entries.now.bits c.args.row _ c.requires.listed
          c.scale.ensures.p;
      bits = same_size c.args.entries.now.bits;
    }

pub loop-i-preserved : goal.loop-i-preserved
loop-i-preserved g c =
    let modulus = g.F.Field.modulus in
    let first = c.args.self.now in
    let old = c.loop-i.self in
    let inv = c.loop-i.invariant in
    let i = c.loop-i.i in
    let k : ℕ → ℕ = λ i. number_in first.s i c.args.col in
    elim c.if-i-row.branch [
      | then-i-row+then-not-is_zero w ↦
          let is : g.F.Field.number c.get-entry-in-loop-i.result ≡ k i =
          c.get-entry-in-loop-i.ensures ∙ inv.on_s.rest i c.args.col (omega arith) w.if-i-row.true in
          let gone : (k i + g.F.Field.number w.neg.result) % modulus ≡ 0 =
          subst (λ x. (x + g.F.Field.number w.neg.result) % modulus ≡ 0) is w.neg.ensures.negative in
          rw (w.self-is, w.entries-is) (record {
            p_size = size-set (sparse_rows first.p) first.p.width old.p w.add.new.self.p i _ inv.p_size w.add.ensures.p;
            s_size = size-set (sparse_rows first.s) first.s.width old.s w.add.new.self.s i _ inv.s_size w.add.ensures.s;
            p_room = room-set first.p old.p w.add.new.self.p i _ inv.p_room w.add.ensures.p;
            s_room = room-set first.s old.s w.add.new.self.s i _ inv.s_room w.add.ensures.s;
            on_p = reduced-add modulus (number_in first.p) (number_in old.p) c.args.row k i inv.on_p
                (number_in w.add.new.self.p)
                (g.F.Field.number w.neg.result) w.if-i-row.true gone w.add.ensures.p.changed w.add.ensures.p.others;
            on_s = reduced-add modulus (number_in first.s) (number_in old.s) c.args.row k i inv.on_s
                (number_in w.add.new.self.s)
                (g.F.Field.number w.neg.result) w.if-i-row.true gone w.add.ensures.s.changed w.add.ensures.s.others;
            listed = row_set-entries modulus old.p w.add.new.self.p c.loop-i.entries.bits w.list_row.new.entries.bits i _ inv.listed
                w.add.ensures.p w.list_row.ensures.size w.list_row.ensures.listed w.list_row.ensures.kept;
            bits = sizes-joined c.args.entries.now.bits c.loop-i.entries.bits w.list_row.new.entries.bits inv.bits w.list_row.ensures.size;
          })
      | else-i-row w ↦
          let why : (i ≡ c.args.row) ⊎ (k i ≡ 0) = elim w.else-i-row.branch [
            | else-i-row-via-then-i-row+else-not-is_zero w' ↦
                inr (sym (inv.on_s.rest i c.args.col (omega arith) w'.if-i-row.true)
                ∙ sym c.get-entry-in-loop-i.ensures
                ∙ w'.is_zero.ensures.0 w'.if-not-is_zero.false)
            | else-i-row-via-else-i-row w' ↦ inl (omega (arith, w'.if-i-row.false))
          ] in
          rw (w.self-is, w.entries-is) (record {
            p_size = inv.p_size;
            s_size = inv.s_size;
            p_room = inv.p_room;
            s_room = inv.s_room;
            on_p = reduced-skip modulus (number_in first.p) (number_in old.p) c.args.row k i inv.on_p why;
            on_s = reduced-skip modulus (number_in first.s) (number_in old.s) c.args.row k i inv.on_s why;
            listed = inv.listed;
            bits = inv.bits;
          })
    ]

pub returns-clause-p : goal.returns-clause-p
returns-clause-p g c =
    let first = c.args.self.now in
    let k : ℕ → ℕ = λ i. number_in first.s i c.args.col in
    let inv = c.loop-i.invariant in
    record {
      size = inv.p_size;
      room = inv.p_room;
      reduced = reduced-all g.F.Field.modulus (number_in first.p) (number_in c.loop-i.self.p) c.args.row k c.loop-i.i inv.on_p
          (sparse_rows first.p) first.p.width (omega arith);
    }

pub returns-clause-s : goal.returns-clause-s
returns-clause-s g c =
    let first = c.args.self.now in
    let k : ℕ → ℕ = λ i. number_in first.s i c.args.col in
    let inv = c.loop-i.invariant in
    record {
      size = inv.s_size;
      room = inv.s_room;
      reduced = reduced-all g.F.Field.modulus (number_in first.s) (number_in c.loop-i.self.s) c.args.row k c.loop-i.i inv.on_s
          (sparse_rows first.s) first.s.width (omega arith);
    }
