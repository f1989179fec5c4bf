use Rattle.std.proofs.Common.{◌≡◌, [], false, true, sym, ap, ◌∙◌, arith}
use Rattle.problem_heads.specs.Heads.{has_model, is_model_line, model_text}
use Rattle.problem_heads.proofs.FirstLines.{found-here, found-later, head-length, model-here, model-later}
use Rattle.problem_heads.proofs.cuts.cut_head.Goals as goal

pub loop-first-preserved : goal.loop-first-preserved
loop-first-preserved c =
    let first = c.in-Some.ensures in
    let rest = c.loop-first.rest.now in
    let line = c.in-Some.first.line.now in
    let others = c.in-Some.first.others.now in
    let later : is_model_line line ≡ false = sym c.if-is_model_line.ensures in
    record {
      same = sym (model-later rest line others first later) ∙ c.loop-first.invariant.same;
      found = sym (found-later rest line others first later) ∙ c.loop-first.invariant.found;
      shorter = omega (arith, first.shorter, c.loop-first.invariant.shorter);
    }

pub returns : goal.returns
returns c =
    let text = c.args.text.now in
    let none = c.in_default.ensures in
    record {
      start = omega (arith, head-length text [] (sym c.loop-first.invariant.same ∙ ap model_text none));
      within = omega arith;
      model = sym (ap has_model none) ∙ c.loop-first.invariant.found;
    }

pub returns-then-is_model_line : goal.returns-then-is_model_line
returns-then-is_model_line c =
    let text = c.args.text.now in
    let first = c.in-Some.ensures in
    let rest = c.loop-first.rest.now in
    let line = c.in-Some.first.line.now in
    let others = c.in-Some.first.others.now in
    let here : is_model_line line ≡ true = sym c.if-is_model_line.ensures in
    record {
      start = sym (head-length text others (sym c.loop-first.invariant.same ∙ model-here rest line others first here));
      within = omega arith;
      model = sym (found-here rest line others first here) ∙ c.loop-first.invariant.found;
    }
