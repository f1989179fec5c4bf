use Rattle.std.proofs.Common.{◌≡◌, ◌≤◌, ◌-◌, ◌*◌, ℕ, vec_len, get_or}
use Rattle.std.specs.Prelude.{vec_capacity}
use Rattle.bit_table.proofs.table.BitTable.make_row.Given as goal

abbrev pub invariant-loop-self : goal.invariant-loop-self
invariant-loop-self l = record {
  rows : l.self-inside.rows ≡ l.initial.self-inside.rows;
  size : l.self-inside.size ≡ l.initial.self-inside.size;
  width : l.self-inside.width ≡ l.initial.self-inside.width;
  used : l.self-inside.used ≡ l.initial.self-inside.used;
  room : vec_capacity l.initial.self-inside.words ≤ vec_capacity l.self-inside.words;
  more : vec_len l.initial.self-inside.words ≤ vec_len l.self-inside.words;
  few : vec_len l.self-inside.words ≤ l.self-inside.rows * l.self-inside.width;
  same : (k : ℕ) → get_or l.self-inside.words.items k 0 ≡ get_or l.initial.self-inside.words.items k 0;
}

abbrev pub decreases-loop-self : goal.decreases-loop-self
decreases-loop-self l = l.end - vec_len l.self-inside.words
