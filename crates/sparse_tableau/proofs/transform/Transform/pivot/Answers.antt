use Rattle.std.proofs.Common.{◌≡◌, ◌⊎◌, ◌+◌, ◌*◌, ◌%◌, ◌<◌, ◌≤◌, ℕ, inl, inr, arith, sym, subst, ◌∙◌}
use Rattle.residue_theory.proofs.SumLaws.{nat_cases}
use Rattle.residue_theory.proofs.SetLaws.{differ}
use Rattle.sparse_q.specs.Tables.{sparse_rows, number_in}
use Rattle.sparse_tableau.proofs.TransformLaws.{reduced-scaled, reduced-past, reduced-skip, reduced-add, reduced-all, room-set, size-set, some-factor}
use Rattle.sparse_tableau.proofs.transform.Transform.pivot.Goals as goal
use Rattle.sparse_tableau.proofs.transform.Transform.pivot.Goals.{then-i-row+then-not-is_zero, else-i-row}
use Rattle.sparse_tableau.proofs.transform.Transform.pivot.Goals.{else-i-row-via-then-i-row+else-not-is_zero}
use Rattle.sparse_tableau.proofs.transform.Transform.pivot.Goals.{else-i-row-via-else-i-row}

pub scale-requires-clause-factor : goal.scale-requires-clause-factor
scale-requires-clause-factor g c =
    let one : (g.F.Field.number c.get-entry.result * g.F.Field.number c.unwrap-inverse.result) % g.F.Field.modulus ≡ 1 =
    rw c.unwrap-inverse.ensures at c.inv.ensures.inverse in
    some-factor g.F.Field.modulus _ _ one

pub loop-i-init : goal.loop-i-init
loop-i-init g c =
    let modulus = g.F.Field.modulus in
    let k : ℕ → ℕ = λ i. number_in c.args.self.now.p i c.args.col in
    let found : (g.F.Field.number c.get-entry.result * g.F.Field.number c.unwrap-inverse.result) % modulus ≡ 1 =
    rw c.unwrap-inverse.ensures at c.inv.ensures.inverse in
    let one : (k c.args.row * g.F.Field.number c.unwrap-inverse.result) % modulus ≡ 1 =
    subst (λ x. (x * g.F.Field.number c.unwrap-inverse.result) % modulus ≡ 1) c.get-entry.ensures found in
    record {
      within = omega arith;
      p_size = c.scale.ensures.p.size;
      s_size = c.scale.ensures.s.size;
      p_room = record { row_room = c.scale.ensures.p.row_room; column_room = c.scale.ensures.p.column_room };
      s_room = record { row_room = c.scale.ensures.s.row_room; column_room = c.scale.ensures.s.column_room };
      on_p = reduced-scaled modulus c.args.self.now.p c.scale.new.self.p c.args.row k _ g.met.F.Field.prime.above_one
          one c.scale.ensures.p;
      on_s = reduced-scaled modulus c.args.self.now.s c.scale.new.self.s c.args.row k _ g.met.F.Field.prime.above_one
          one c.scale.ensures.s;
    }

pub loop-i-preserved : goal.loop-i-preserved
loop-i-preserved g c =
    let modulus = g.F.Field.modulus in
    let first = c.args.self.now in
    let old = c.loop-i.self in
    let inv = c.loop-i.invariant in
    let k : ℕ → ℕ = λ i. number_in first.p i c.args.col in
    let L = c.in-Some.ensures.least in
    let from = c.loop-i.from in
    let small : c.in-Some.i < sparse_rows first.p = omega (arith, L.before_end, c.rows-rows.ensures.rows, c.scale.ensures.p.size.rows_are) in
    let past : (j : ℕ) → from ≤ j → j < c.in-Some.i → (j ≡ c.args.row) ⊎ (k j % modulus ≡ 0) =
    λ j le less. elim (nat_cases (k j % modulus) 0) [
      | inl z ↦ inr z
      | inr ne ↦ absurd (differ (L.none_before j le less) (c.requires.listed j (omega (arith, less, small)) ne))
    ] in
    let on_p = reduced-past modulus (number_in first.p) (number_in old.p) c.args.row k from inv.on_p c.in-Some.i L.from_on past in
    let on_s = reduced-past modulus (number_in first.s) (number_in old.s) c.args.row k from inv.on_s c.in-Some.i L.from_on past in
    elim c.if-i-row.branch [
      | then-i-row+then-not-is_zero w ↦
          let is : g.F.Field.number c.get-entry-in-Some.result ≡ k c.in-Some.i =
          c.get-entry-in-Some.ensures ∙ on_p.rest c.in-Some.i c.args.col (omega arith) w.if-i-row.true in
          let zero : (k c.in-Some.i + g.F.Field.number w.neg.result) % modulus ≡ 0 =
          subst (λ x. (x + g.F.Field.number w.neg.result) % modulus ≡ 0) is w.neg.ensures.negative in
          rw w.self-is (record {
            within = omega (arith, small);
            p_size = size-set (sparse_rows first.p) first.p.width old.p w.add.new.self.p c.in-Some.i _ inv.p_size
                w.add.ensures.p;
            s_size = size-set (sparse_rows first.s) first.s.width old.s w.add.new.self.s c.in-Some.i _ inv.s_size
                w.add.ensures.s;
            p_room = room-set first.p old.p w.add.new.self.p c.in-Some.i _ inv.p_room w.add.ensures.p;
            s_room = room-set first.s old.s w.add.new.self.s c.in-Some.i _ inv.s_room w.add.ensures.s;
            on_p = reduced-add modulus (number_in first.p) (number_in old.p) c.args.row k c.in-Some.i on_p
                (number_in w.add.new.self.p)
                (g.F.Field.number w.neg.result) w.if-i-row.true zero w.add.ensures.p.changed w.add.ensures.p.others;
            on_s = reduced-add modulus (number_in first.s) (number_in old.s) c.args.row k c.in-Some.i on_s
                (number_in w.add.new.self.s)
                (g.F.Field.number w.neg.result) w.if-i-row.true zero w.add.ensures.s.changed w.add.ensures.s.others;
          })
      | else-i-row w ↦
          let why : (c.in-Some.i ≡ c.args.row) ⊎ (k c.in-Some.i ≡ 0) = elim w.else-i-row.branch [
            | else-i-row-via-then-i-row+else-not-is_zero w' ↦
                inr (sym (on_p.rest c.in-Some.i c.args.col (omega arith) w'.if-i-row.true)
                ∙ sym c.get-entry-in-Some.ensures
                ∙ w'.is_zero.ensures.0 w'.if-not-is_zero.false)
            | else-i-row-via-else-i-row w' ↦ inl (omega (arith, w'.if-i-row.false))
          ] in
          rw w.self-is (record {
            within = omega (arith, small);
            p_size = inv.p_size;
            s_size = inv.s_size;
            p_room = inv.p_room;
            s_room = inv.s_room;
            on_p = reduced-skip modulus (number_in first.p) (number_in old.p) c.args.row k c.in-Some.i on_p why;
            on_s = reduced-skip modulus (number_in first.s) (number_in old.s) c.args.row k c.in-Some.i on_s why;
          })
    ]

pub returns-clause-p : goal.returns-clause-p
returns-clause-p g c =
    let modulus = g.F.Field.modulus in
    let first = c.args.self.now in
    let k : ℕ → ℕ = λ i. number_in first.p i c.args.col in
    let inv = c.loop-i.invariant in
    let past : (j : ℕ) → c.loop-i.from ≤ j → j < sparse_rows first.p → (j ≡ c.args.row) ⊎ (k j % modulus ≡ 0) =
    λ j le less. elim (nat_cases (k j % modulus) 0) [
      | inl z ↦ inr z
      | inr ne ↦ absurd (differ (c.in_default.ensures.none j le (omega (arith, less, c.rows-rows.ensures.rows, c.scale.ensures.p.size.rows_are)))
          (c.requires.listed j less ne))
    ] in
    record {
      size = inv.p_size;
      room = inv.p_room;
      reduced = reduced-all modulus (number_in first.p) (number_in c.loop-i.self.p) c.args.row k (sparse_rows first.p)
          (reduced-past modulus (number_in first.p) (number_in c.loop-i.self.p) c.args.row k c.loop-i.from inv.on_p
          (sparse_rows first.p) inv.within past) (sparse_rows first.p) first.p.width (omega arith);
    }

pub returns-clause-s : goal.returns-clause-s
returns-clause-s g c =
    let modulus = g.F.Field.modulus in
    let first = c.args.self.now in
    let k : ℕ → ℕ = λ i. number_in first.p i c.args.col in
    let inv = c.loop-i.invariant in
    let past : (j : ℕ) → c.loop-i.from ≤ j → j < sparse_rows first.p → (j ≡ c.args.row) ⊎ (k j % modulus ≡ 0) =
    λ j le less. elim (nat_cases (k j % modulus) 0) [
      | inl z ↦ inr z
      | inr ne ↦ absurd (differ (c.in_default.ensures.none j le (omega (arith, less, c.rows-rows.ensures.rows, c.scale.ensures.p.size.rows_are)))
          (c.requires.listed j less ne))
    ] in
    record {
      size = inv.s_size;
      room = inv.s_room;
      reduced = reduced-all modulus (number_in first.s) (number_in c.loop-i.self.s) c.args.row k (sparse_rows first.p)
          (reduced-past modulus (number_in first.s) (number_in c.loop-i.self.s) c.args.row k c.loop-i.from inv.on_s
          (sparse_rows first.p) inv.within past) (sparse_rows first.s) first.s.width (omega (arith, c.requires.same));
    }
