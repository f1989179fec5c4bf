use Rattle.std.proofs.Common.{◌<◌, length, position, refl, arith}
use Rattle.std.specs.Str.{bytes_eq}
use Rattle.std.proofs.lemmas.Grind.{get_or_default_zero}
use Rattle.matrix_reader.proofs.MarkLaws.{FoundOrAdded-from, one_more, no_more, known_within, marked_new, marked_known}
use Rattle.matrix_reader.proofs.reader.Reader.mark.Goals as goal

pub returns-then-j-known-clause-lengths : goal.returns-then-j-known-clause-lengths
returns-then-j-known-clause-lengths g c =
    let old = c.args.self.now.model in
    let found = FoundOrAdded-from old c.find_or_add_unknown.new.self c.args.unknown.now c.in_ok-j.j c.in_ok-j.ensures.answer c.in_ok-j.ensures.seen in
    let more = one_more (position (bytes_eq c.args.unknown.now) old.unknowns) old c.find_or_add_unknown.new.self
    c.args.unknown.now c.in_ok-j.j found (omega arith) in
    omega (arith, more, c.requires.lengths, c.in_ok-push.ensures.len)

pub returns-then-j-known-clause-within : goal.returns-then-j-known-clause-within
returns-then-j-known-clause-within g c =
    let old = c.args.self.now.model in
    let found = FoundOrAdded-from old c.find_or_add_unknown.new.self c.args.unknown.now c.in_ok-j.j c.in_ok-j.ensures.answer c.in_ok-j.ensures.seen in
    let more = one_more (position (bytes_eq c.args.unknown.now) old.unknowns) old c.find_or_add_unknown.new.self
    c.args.unknown.now c.in_ok-j.j found (omega arith) in
    omega (arith, more)

pub returns-then-j-known-clause-marked : goal.returns-then-j-known-clause-marked
returns-then-j-known-clause-marked g c =
    let old = c.args.self.now.model in
    let found = FoundOrAdded-from old c.find_or_add_unknown.new.self c.args.unknown.now c.in_ok-j.j c.in_ok-j.ensures.answer c.in_ok-j.ensures.seen in
    marked_new g.F.Field.modulus (position (bytes_eq c.args.unknown.now) old.unknowns) old
    c.find_or_add_unknown.new.self c.args.unknown.now c.in_ok-j.j c.args.line c.args.self.now.last_lines.items
    c.push.new.self.items
    found c.in_ok-j.ensures.model (omega arith) c.in_ok-push.ensures.items

pub returns-clause-lengths : goal.returns-clause-lengths
returns-clause-lengths g c =
    let old = c.args.self.now.model in
    let found = FoundOrAdded-from old c.find_or_add_unknown.new.self c.args.unknown.now c.in_ok-j.j c.in_ok-j.ensures.answer c.in_ok-j.ensures.seen in
    let same = no_more (position (bytes_eq c.args.unknown.now) old.unknowns) old c.find_or_add_unknown.new.self
    c.args.unknown.now c.in_ok-j.j found (λ last. omega (arith, last)) in
    omega (arith, same)

pub returns-clause-marked : goal.returns-clause-marked
returns-clause-marked g c =
    let old = c.args.self.now.model in
    let found = FoundOrAdded-from old c.find_or_add_unknown.new.self c.args.unknown.now c.in_ok-j.j c.in_ok-j.ensures.answer c.in_ok-j.ensures.seen in
    let bound : c.in_ok-j.j < length c.args.self.now.last_lines.items =
    omega (
      arith,
      c.requires.lengths,
      known_within
          (position (bytes_eq c.args.unknown.now) old.unknowns) old c.find_or_add_unknown.new.self c.args.unknown.now
          c.in_ok-j.j found (λ last. omega (arith, last)),
    ) in
    marked_known g.F.Field.modulus (position (bytes_eq c.args.unknown.now) old.unknowns) old
    c.find_or_add_unknown.new.self c.args.unknown.now c.in_ok-j.j c.args.line c.args.self.now.last_lines.items _
    found (λ last. omega (arith, last)) refl (λ stood. omega
    (arith, stood, c.index.ensures, bound, get_or_default_zero c.args.self.now.last_lines.items c.in_ok-j.j c.index.result.now bound))
