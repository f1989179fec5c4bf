use Rattle.std.proofs.Common.{arith}
use Rattle.model_edits.proofs.OrderLaws.{numeral-of, numerals}
use Rattle.model_edits.proofs.order.digits_of.Goals as goal

pub returns-in-0 : goal.returns-in-0
returns-in-0 c = numeral-of c.args.k 0 _ c.in-0.is numerals.one

pub returns-in-1 : goal.returns-in-1
returns-in-1 c = numeral-of c.args.k 1 _ c.in-1.is numerals.two

pub returns-in-2 : goal.returns-in-2
returns-in-2 c = numeral-of c.args.k 2 _ c.in-2.is numerals.three

pub returns-in-3 : goal.returns-in-3
returns-in-3 c = numeral-of c.args.k 3 _ c.in-3.is numerals.four

pub returns-in-4 : goal.returns-in-4
returns-in-4 c = numeral-of c.args.k 4 _ c.in-4.is numerals.five

pub returns-in-5 : goal.returns-in-5
returns-in-5 c = numeral-of c.args.k 5 _ c.in-5.is numerals.six

pub returns-in-6 : goal.returns-in-6
returns-in-6 c = numeral-of c.args.k 6 _ c.in-6.is numerals.seven

pub returns-in-7 : goal.returns-in-7
returns-in-7 c = numeral-of c.args.k 7 _ c.in-7.is numerals.eight

pub returns-in-8 : goal.returns-in-8
returns-in-8 c = numeral-of c.args.k 8 _ c.in-8.is numerals.nine

pub returns-in-9 : goal.returns-in-9
returns-in-9 c = numeral-of c.args.k 9 _ c.in-9.is numerals.ten

pub returns-in-10 : goal.returns-in-10
returns-in-10 c = numeral-of c.args.k 10 _ c.in-10.is numerals.eleven

pub returns-in-11 : goal.returns-in-11
returns-in-11 c = numeral-of c.args.k 11 _ c.in-11.is numerals.twelve

pub returns-in-12 : goal.returns-in-12
returns-in-12 c = numeral-of c.args.k 12 _ c.in-12.is numerals.thirteen

pub returns-in-13 : goal.returns-in-13
returns-in-13 c = numeral-of c.args.k 13 _ c.in-13.is numerals.fourteen

pub returns-in-14 : goal.returns-in-14
returns-in-14 c = numeral-of c.args.k 14 _ c.in-14.is numerals.fifteen

pub returns-in_default : goal.returns-in_default
returns-in_default c = numeral-of c.args.k 15 _ (omega (arith, c.in_default, c.requires)) numerals.sixteen
