use Rattle.std.proofs.Common.{◌+◌, ◌-◌, ◌*◌, ◌%◌, ap, subst}
use Rattle.sparse_q.specs.Tables.{sparse_rows, number_in, IsRowSet}
use Rattle.sparse_tableau.proofs.ReduceLaws.{less-of}
use Rattle.sparse_tableau.proofs.joining.take_away.Goals as goal

pub returns-then-not-is_zero-clause-s : goal.returns-then-not-is_zero-clause-s
returns-then-not-is_zero-clause-s g c =
    let p = g.F.Field.modulus in
    let a = c.args.transform.now.s in
    let f = g.F.Field.number c.neg.result in
    less-of p g.met.F.Field.prime (sparse_rows c.args.v.now - 1) c.args.row (g.F.Field.number c.args.item) f a c.add.new.self.s
    c.neg.ensures.negative
    (subst (λ l. IsRowSet a c.add.new.self.s l (λ j. (number_in a l j + f * number_in a c.args.row j) % p))
    (ap (λ l. l - 1) c.rows.ensures.rows) c.add.ensures.s)

pub returns-then-not-is_zero-clause-p : goal.returns-then-not-is_zero-clause-p
returns-then-not-is_zero-clause-p g c =
    let p = g.F.Field.modulus in
    let a = c.args.transform.now.p in
    let f = g.F.Field.number c.neg.result in
    less-of p g.met.F.Field.prime (sparse_rows c.args.v.now - 1) c.args.row (g.F.Field.number c.args.item) f a c.add.new.self.p
    c.neg.ensures.negative
    (subst (λ l. IsRowSet a c.add.new.self.p l (λ j. (number_in a l j + f * number_in a c.args.row j) % p))
    (ap (λ l. l - 1) c.rows.ensures.rows) c.add.ensures.p)
