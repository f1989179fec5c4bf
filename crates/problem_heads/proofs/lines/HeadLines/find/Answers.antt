use Rattle.std.proofs.Common.{Some, map, ap, sym, ◌∙◌}
use Rattle.std.specs.Str.{bytes_eq}
use Rattle.std.specs.String.{string_bytes}
use Rattle.mixed_model.proofs.NameLaws.{position_map}
use Rattle.problem_heads.specs.HeadNumbers.{HeadNumber, number_for}
use Rattle.problem_heads.specs.HeadReading.{HeadParts}
use Rattle.problem_heads.proofs.Looking.{number-found, number-none}
use Rattle.problem_heads.proofs.lines.HeadLines.find.Goals as goal

pub returns-in-Some : goal.returns-in-Some
returns-in-Some g c = λ names key_is.
    let keys = c.self.inside.keys.keys in
    let numbers = c.self.inside.numbers.items in
    let d = c.index.result.now in
    ap (λ (given : HeadNumber g.row.N.Denot). Some given.number) (c.behind-self.view_is ∙ c.index.ensures)
    ∙ sym (number-found numbers (map string_bytes keys) c.args.key.now names c.self.invariant key_is c.in-Some.place d
    (position_map (bytes_eq c.args.key.now) string_bytes keys ∙ sym c.in-Some.ensures.index))
    ∙ ap (λ (parts : HeadParts g.row.N.Denot). number_for parts.numbers names) c.self.view_is

pub returns-in-None : goal.returns-in-None
returns-in-None g c = λ names key_is.
    let keys = c.self.inside.keys.keys in
    let numbers = c.self.inside.numbers.items in
    sym (number-none numbers (map string_bytes keys) c.args.key.now names c.self.invariant key_is
    (position_map (bytes_eq c.args.key.now) string_bytes keys ∙ sym c.in-None.ensures.index))
    ∙ ap (λ (parts : HeadParts g.row.N.Denot). number_for parts.numbers names) c.self.view_is
