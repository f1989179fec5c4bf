use Rattle.std.proofs.Common.{◌≡◌, ◌≤◌, length}
use Rattle.problem_heads.specs.Heads.{has_model, model_text}
use Rattle.problem_heads.proofs.cuts.cut_head.Given as goal

abbrev pub invariant-loop-first : goal.invariant-loop-first
invariant-loop-first l = record {
  same : model_text l.rest ≡ model_text l.text;
  found : has_model l.rest ≡ has_model l.text;
  shorter : length l.rest ≤ length l.text;
}

abbrev pub decreases-loop-first : goal.decreases-loop-first
decreases-loop-first l = length l.rest
