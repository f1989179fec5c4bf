use Rattle.std.proofs.Common.{◌<◌, ◌∙◌, ℕ, inl, inr, sym, subst, ap, arith}
use Rattle.residue_theory.proofs.SumLaws.{nat_cases}
use Rattle.exchange_graph.specs.Marks.{members_of}
use Rattle.independent_matching.specs.Marks.{IsEndMark, IsQMark, IsTMark}
use Rattle.independent_matching.proofs.MarkLaws.{other-end, other-q, other-t}
use Rattle.independent_matching.proofs.marks.Marks.look_for_rows.Goals as goal

pub loop-x-preserved : goal.loop-x-preserved
loop-x-preserved g c =
    let p = g.F.Field.modulus in
    let S = g.T.Tableau.state c.args.pair.now.tableau in
    let M = c.args.pair.now.mates in
    let I = c.loop-x.invariant in
    let rested = c.loop-x.resting in
    let rest = c.find_t_row.new.resting in
    let between = c.find_t_row.new.self in
    let now = c.find_q_row.new.self in
    let T' = c.find_t_row.ensures in
    let Q' = c.find_q_row.ensures in
    record {
      sized = Q'.sized;
      free = λ y l. ap (λ f. members_of f.items y) T'.free ∙ I.free y l;
      by_t = λ y l. elim (nat_cases y c.loop-x.x) [
        | inl e ↦ subst (λ k. IsTMark M rest.by_t.items k) (sym e) T'.found
        | inr ne ↦ other-t rested rest c.loop-x.self between c.loop-x.x T'.others y ne M (I.by_t y (omega (arith, l, ne)))
      ];
      by_q = λ y l. elim (nat_cases y c.loop-x.x) [
        | inl e ↦ subst (λ k. IsQMark p S now.by_q.items k) (sym e) Q'.found
        | inr ne ↦ other-q rest rest between now c.loop-x.x Q'.others y ne p S
            (subst (λ b. IsQMark p S b.items y) (sym T'.by_q) (I.by_q y (omega (arith, l, ne))))
      ];
      ends = λ y l. elim (nat_cases y c.loop-x.x) [
        | inl e ↦ subst (λ k. IsEndMark rest now k) (sym e) Q'.end
        | inr ne ↦ other-end rest rest between now c.loop-x.x Q'.others y ne
            (other-end rested rest c.loop-x.self between c.loop-x.x T'.others y ne (I.ends y (omega (arith, l, ne))))
      ];
    }

pub returns : goal.returns
returns g c =
    let S = g.T.Tableau.state c.args.pair.now.tableau in
    let I = c.loop-x.invariant in
    let all : (y : ℕ) → y < S.columns → y < c.loop-x.x = λ y l. omega (arith, l, c.loop-x-test.false, c.columns-x-end.ensures.columns) in
    record {
      of_q = record { sized = I.sized; by_q = λ y l. I.by_q y (all y l); ends = λ y l. I.ends y (all y l) };
      by_t = λ y l. I.by_t y (all y l);
      free = λ y l. I.free y l;
    }
