use Rattle.std.proofs.Common.{position, arith}
use Rattle.std.specs.Str.{bytes_eq}
use Rattle.matrix_reader.proofs.MarkLaws.{FoundOrAdded-from, one_more, no_more, seen_new, seen_known}
use Rattle.matrix_reader.proofs.reader.Reader.see.Goals as goal

pub returns-in_ok-push-clause-lengths : goal.returns-in_ok-push-clause-lengths
returns-in_ok-push-clause-lengths g c =
    let old = c.args.self.now.model in
    let place = position (bytes_eq c.args.unknown.now) old.unknowns in
    let found = FoundOrAdded-from old c.find_or_add_unknown.new.self c.args.unknown.now c.in_ok-j.j c.in_ok-j.ensures.answer c.in_ok-j.ensures.seen in
    let more = one_more place old c.find_or_add_unknown.new.self c.args.unknown.now c.in_ok-j.j found (omega arith) in
    omega (arith, more, c.requires.lengths, c.in_ok-push.ensures.len)

pub returns-in_ok-push-clause-seen : goal.returns-in_ok-push-clause-seen
returns-in_ok-push-clause-seen g c =
    let old = c.args.self.now.model in
    let place = position (bytes_eq c.args.unknown.now) old.unknowns in
    let found = FoundOrAdded-from old c.find_or_add_unknown.new.self c.args.unknown.now c.in_ok-j.j c.in_ok-j.ensures.answer c.in_ok-j.ensures.seen in
    seen_new g.F.Field.modulus place old c.find_or_add_unknown.new.self c.args.unknown.now c.in_ok-j.j c.args.line
    c.args.self.now.last_lines.items c.push.new.self.items found c.in_ok-j.ensures.model (omega arith)
    c.in_ok-push.ensures.items

pub returns-else-j-len-clause-lengths : goal.returns-else-j-len-clause-lengths
returns-else-j-len-clause-lengths g c =
    let old = c.args.self.now.model in
    let place = position (bytes_eq c.args.unknown.now) old.unknowns in
    let found = FoundOrAdded-from old c.find_or_add_unknown.new.self c.args.unknown.now c.in_ok-j.j c.in_ok-j.ensures.answer c.in_ok-j.ensures.seen in
    let same = no_more place old c.find_or_add_unknown.new.self c.args.unknown.now c.in_ok-j.j found (λ last. omega (arith, last)) in
    omega (arith, same, c.requires.lengths)

pub returns-else-j-len-clause-seen : goal.returns-else-j-len-clause-seen
returns-else-j-len-clause-seen g c =
    let old = c.args.self.now.model in
    let place = position (bytes_eq c.args.unknown.now) old.unknowns in
    let found = FoundOrAdded-from old c.find_or_add_unknown.new.self c.args.unknown.now c.in_ok-j.j c.in_ok-j.ensures.answer c.in_ok-j.ensures.seen in
    seen_known g.F.Field.modulus place old c.find_or_add_unknown.new.self c.args.unknown.now c.in_ok-j.j c.args.line
    c.args.self.now.last_lines.items found (λ last. omega (arith, last))
