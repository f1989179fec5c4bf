use Rattle.std.proofs.Common.{◌≡◌, arith, replicate, slice_set, slice_index_or, refl, ap, ◌∙◌, length, List, ℕ}
use Rattle.std.proofs.lemmas.List.{map-set, length-map, length-replicate}
use Rattle.dense_q.proofs.MadeLaws.{pushed, pushed-count, pushed-widths, made, identity-at}
use Rattle.linear_algebra.specs.Products.{identity}
use Rattle.dense_q.proofs.matrix.Mat.identity.Goals as goal

pub loop-i-preserved : goal.loop-i-preserved
loop-i-preserved g c = record {
  count = pushed-count c.loop-i.all.items c.push.new.self.items _ c.loop-i.i c.in_ok-push.ensures.items c.loop-i.invariant.count;
  widths = pushed-widths c.args.n c.loop-i.all.items c.push.new.self.items _ c.in_ok-push.ensures.items c.loop-i.invariant.widths
      (omega (
        arith,
        c.in_ok-row.row.ok.0,
        length-map c.in_ok-row.row.items g.F.Field.number,
        ap (λ (xs : List ℕ). length xs) c.in_ok-row.ensures,
        length-replicate {A = ℕ} c.args.n 0,
      ));
  done = pushed g.F.Field.number (λ k r. r ≡ slice_set (replicate c.args.n 0) k 1) c.loop-i.all.items
      c.push.new.self.items _ c.loop-i.i c.in_ok-push.ensures.items c.loop-i.invariant.count c.loop-i.invariant.done
      (map-set g.F.Field.number c.in_ok-row.row.items c.loop-i.i c.one.result
      ∙ ap (λ xs. slice_set xs c.loop-i.i (g.F.Field.number c.one.result)) c.in_ok-row.ensures
      ∙ ap (λ x. slice_set (replicate c.args.n 0) c.loop-i.i x) c.one.ensures);
}

pub returns : goal.returns
returns g c = made g.F.Field.number c.args.n c.args.n c.args.n c.loop-i.i identity c.loop-i.all.items refl c.loop-i.invariant.count (omega arith) (omega arith)
    (λ k kl j jl. ap (λ r. slice_index_or r j 0) (c.loop-i.invariant.done k kl) ∙ identity-at c.args.n k j (omega arith) jl)
