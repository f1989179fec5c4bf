use Rattle.std.proofs.Common.{◌∙◌, inl, inr, refl, sym, subst, ap, arith, slice_index}
use Rattle.residue_theory.proofs.SetLaws.{not_true}
use Rattle.residue_theory.proofs.SumLaws.{nat_cases}
use Rattle.sparse_t.specs.Incidences.{columns_at, touches}
use Rattle.residue_theory.specs.Sets.{has}
use Rattle.sparse_t.proofs.ListLaws.{has-member}
use Rattle.independent_matching.specs.Marks.{IsEndMark, IsQMark, AreKeptMarks, IsTMark}
use Rattle.independent_matching.proofs.MarkLaws.{other-end, other-t}
use Rattle.independent_matching.proofs.marks.Marks.take_t_row.Goals as goal

pub loop-x-init : goal.loop-x-init
loop-x-init g c =
    let M = c.args.pair.now.mates in
    let list = c.row-x-items.result.now in
    record {
      of_q = c.requires.of_q;
      free = refl;
      by_t = λ y l none. c.requires.others y l (not_true (touches M.pattern c.args.row y) (λ h.
          let (k, kl, e) = has-member list y (ap (λ ys. has ys y) (c.row-x-items.ensures.columns
          ∙ ap (λ i. columns_at i c.args.row) c.pattern.ensures.pattern) ∙ h) in none k (omega arith) kl e));
    }

pub loop-x-preserved : goal.loop-x-preserved
loop-x-preserved g c =
    let p = g.F.Field.modulus in
    let S = g.T.Tableau.state c.args.pair.now.tableau in
    let M = c.args.pair.now.mates in
    let list = c.row-x-items.result.now in
    let I = c.loop-x.invariant in
    let k = c.loop-x.x-index in
    let x = slice_index list k in
    let was = c.loop-x.self in
    let now = c.find_t_row.new.self in
    let rested = c.loop-x.resting in
    let rest = c.find_t_row.new.resting in
    let T' = c.find_t_row.ensures in
    record {
      of_q = record {
        sized = subst (λ n. AreKeptMarks n rest now) c.requires.width T'.sized;
        by_q = λ y l. subst (λ b. IsQMark p S b.items y) (sym T'.by_q) (I.of_q.by_q y l);
        ends = λ y l. elim (nat_cases y x) [
          | inl e ↦ subst (λ z. IsEndMark rest now z) (sym e) T'.end
          | inr ne ↦ other-end rested rest was now x T'.others y ne (I.of_q.ends y l)
        ];
      };
      free = T'.free ∙ I.free;
      by_t = λ y l none. elim (nat_cases y x) [
        | inl e ↦ subst (λ z. IsTMark M rest.by_t.items z) (sym e) T'.found
        | inr ne ↦ other-t rested rest was now x T'.others y ne M
            (I.by_t y l (λ j le jl e. elim (nat_cases j k) [
              | inl q ↦
                  ne (sym e ∙ ap (λ i. slice_index list i) q)
              | inr o ↦ none j (omega (arith, le, o)) jl e
            ]))
      ];
    }
