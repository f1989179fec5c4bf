use Rattle.std.proofs.Common.{◌≡◌, vec_len}
use Rattle.std.specs.Prelude.{vec_capacity}
use Rattle.bit_table.proofs.BitLaws.{JoinedTo}
use Rattle.bit_table.proofs.table.BitTable.join_made.Given as goal

abbrev pub invariant-loop-i : goal.invariant-loop-i
invariant-loop-i l = record {
  words : vec_len l.self-inside.words ≡ vec_len l.initial.self-inside.words;
  rows : l.self-inside.rows ≡ l.initial.self-inside.rows;
  size : l.self-inside.size ≡ l.initial.self-inside.size;
  width : l.self-inside.width ≡ l.initial.self-inside.width;
  used : l.self-inside.used ≡ l.initial.self-inside.used;
  room : vec_capacity l.self-inside.words ≡ vec_capacity l.initial.self-inside.words;
  joined : JoinedTo l.initial.self-inside.words.items l.self-inside.words.items l.initial.self-inside.words.items l.into l.from l.i;
}
