use Rattle.std.proofs.Common.{◌≡◌, ◌∙◌, ◌-◌, true, false, ap, subst, sym, arith}
use Rattle.std.proofs.Common.{Result, Ok, Err, OnErr}
use Rattle.std.proofs.lemmas.List.{map-append}
use Rattle.dense_q.specs.Tables.{entry, table_with_entry, height}
use Rattle.row_entries.specs.Rows.{items}
use Rattle.row_entries.specs.Tables.{AreEntryRows, table_of}
use Rattle.row_entries.proofs.TableLaws.{stored-with, table-with, table-zero, rows-same, height-is}
use Rattle.row_entries.proofs.matrix.EntryMat.put.Goals as goal

differ : false ≡ true → ⊥
differ e = cc

on_err : {T E : Type 0} {P : Type 0} (r : Result T E) → P → OnErr r P
on_err (Ok x) p = tt
on_err (Err e) p = p

pub invariant_of-self : goal.invariant_of-self
invariant_of-self g c =
    let last : c.len-last.result - 1 ≡ height c.args.self.now - 1 =
    omega (
      arith,
      c.len-last.ensures,
      c.self.inside.rows.ok.0,
      c.requires.some,
      height-is (λ row. items g.F.Field.number row.items) g.F.Field.modulus c.self.inside.width
          c.self.inside.rows.items c.args.self.now c.self.view_is c.self.invariant,
    ) in
    stored-with (λ row. items g.F.Field.number row.items) g.F.Field.modulus c.self.inside.width
    c.self.inside.rows.items c.args.self.now c.self.view_is c.self.invariant
    (c.len-last.result - 1) c.args.col (omega (arith, last, c.requires.some)) c.requires.col
    (λ j le l. ap (λ i. entry c.args.self.now i j) last ∙ c.requires.zero j le l) c.index_mut.result.now c.push.new.self
    c.index_mut.ensures.value (g.F.Field.number c.args.value) (λ z. differ (sym c.if-not-is_zero.true ∙ c.is_zero.ensures.1 z))
    (ap (items g.F.Field.number) c.in_ok-push.ensures.items
    ∙ map-append (λ e. record { column = e.column; number = g.F.Field.number e.value }) c.index_mut.result.now.items _) c.in_field.ensures

pub invariant_of-self-in_err-push : goal.invariant_of-self-in_err-push
invariant_of-self-in_err-push g c =
    let last : c.len-last.result - 1 ≡ height c.args.self.now - 1 =
    omega (
      arith,
      c.len-last.ensures,
      c.self.inside.rows.ok.0,
      c.requires.some,
      height-is (λ row. items g.F.Field.number row.items) g.F.Field.modulus c.self.inside.width
          c.self.inside.rows.items c.args.self.now c.self.view_is c.self.invariant,
    ) in
    subst (AreEntryRows g.F.Field.modulus c.self.inside.width)
    (sym (rows-same (λ row. items g.F.Field.number row.items) g.F.Field.modulus c.self.inside.width
    c.self.inside.rows.items c.args.self.now c.self.view_is c.self.invariant
    (c.len-last.result - 1) c.index_mut.result.now c.push.new.self (omega (arith, last, c.requires.some))
    c.index_mut.ensures.value (ap (items g.F.Field.number) c.in_err-push.ensures.items))) c.self.invariant

pub returns-in_err-push-clause-err : goal.returns-in_err-push-clause-err
returns-in_err-push-clause-err g c =
    let last : c.len-last.result - 1 ≡ height c.args.self.now - 1 =
    omega (
      arith,
      c.len-last.ensures,
      c.self.inside.rows.ok.0,
      c.requires.some,
      height-is (λ row. items g.F.Field.number row.items) g.F.Field.modulus c.self.inside.width
          c.self.inside.rows.items c.args.self.now c.self.view_is c.self.invariant,
    ) in
    on_err c.from_residual.result (ap (table_of c.self.inside.width)
    (rows-same (λ row. items g.F.Field.number row.items) g.F.Field.modulus c.self.inside.width
    c.self.inside.rows.items c.args.self.now c.self.view_is c.self.invariant
    (c.len-last.result - 1) c.index_mut.result.now c.push.new.self (omega (arith, last, c.requires.some))
    c.index_mut.ensures.value (ap (items g.F.Field.number) c.in_err-push.ensures.items)) ∙ c.self.view_is)

pub returns-in_ok-push-clause-ok : goal.returns-in_ok-push-clause-ok
returns-in_ok-push-clause-ok g c =
    let last : c.len-last.result - 1 ≡ height c.args.self.now - 1 =
    omega (
      arith,
      c.len-last.ensures,
      c.self.inside.rows.ok.0,
      c.requires.some,
      height-is (λ row. items g.F.Field.number row.items) g.F.Field.modulus c.self.inside.width
          c.self.inside.rows.items c.args.self.now c.self.view_is c.self.invariant,
    ) in
    table-with (λ row. items g.F.Field.number row.items) g.F.Field.modulus c.self.inside.width
    c.self.inside.rows.items c.args.self.now c.self.view_is c.self.invariant
    (c.len-last.result - 1) c.args.col (omega (arith, last, c.requires.some)) c.requires.col
    (λ j le l. ap (λ i. entry c.args.self.now i j) last ∙ c.requires.zero j le l) c.index_mut.result.now c.push.new.self
    c.index_mut.ensures.value (g.F.Field.number c.args.value) (λ z. differ (sym c.if-not-is_zero.true ∙ c.is_zero.ensures.1 z))
    (ap (items g.F.Field.number) c.in_ok-push.ensures.items
    ∙ map-append (λ e. record { column = e.column; number = g.F.Field.number e.value }) c.index_mut.result.now.items _)
    ∙ ap (λ i. table_with_entry c.args.self.now i c.args.col (g.F.Field.number c.args.value)) last

pub returns-else-not-is_zero-clause-ok : goal.returns-else-not-is_zero-clause-ok
returns-else-not-is_zero-clause-ok g c =
    table-zero (λ row. items g.F.Field.number row.items) g.F.Field.modulus c.self.inside.width
    c.self.inside.rows.items c.args.self.now c.self.view_is c.self.invariant
    (height c.args.self.now - 1) c.args.col (omega (arith, c.requires.some)) c.requires.col c.requires.zero
    ∙ ap (table_with_entry c.args.self.now (height c.args.self.now - 1) c.args.col)
    (sym (c.is_zero.ensures.0 c.if-not-is_zero.false))
