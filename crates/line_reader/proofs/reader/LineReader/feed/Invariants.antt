use Rattle.std.proofs.Common.{◌≡◌, ◌≤◌, ◌++◌, ℕ, List, length, None}
use Rattle.limits.specs.Limits.{input_limit}
use Rattle.line_reader.specs.Readings.{IsFed, reading}
use Rattle.line_reader.proofs.reader.LineReader.feed.Given as goal

abbrev pub invariant-loop-line : goal.invariant-loop-line
invariant-loop-line g l = record {
  ready : l.progress.refused ≡ None → g.R.LineFormat.is_ready l.progress.format;
  fed :
      (text : List ℕ) → IsFed g.R.LineFormat.rules g.R.LineFormat.has_read l.fn.self text → length (text ++ l.piece) ≤ input_limit
      → (front : List ℕ) × (front ++ l.rest ≡ l.piece) × IsFed g.R.LineFormat.rules g.R.LineFormat.has_read
      (reading l.progress.format l.progress.number l.progress.line.items l.progress.commented l.progress.refused) (text ++ front);
}

abbrev pub decreases-loop-line : goal.decreases-loop-line
decreases-loop-line g l = length l.rest
