use Rattle.std.proofs.Common.{◌≡◌, ◌∷◌, ◌++◌, [], true, false, Bool, not, refl, ap, sym, ◌∙◌, if◌then◌else◌}
use Rattle.std.specs.Result.{is_ok}
use Rattle.problem_heads.specs.HeadNumbers.{HeadNumber}
use Rattle.problem_heads.specs.HeadReading.{HeadParts}
use Rattle.problem_heads.specs.HeadRules.{fresh_names_rule}
use Rattle.problem_heads.proofs.Keyed.{key-twice, key-fresh}
use Rattle.problem_heads.proofs.lines.HeadLines.add.Goals as goal

not_false : (b : Bool) → false ≡ not b → b ≡ true
not_false true e = refl
not_false false e = absurd cc

not_true : (b : Bool) → true ≡ not b → b ≡ false
not_true true e = absurd cc
not_true false e = refl

pub returns-then-not-branch : goal.returns-then-not-branch
returns-then-not-branch g c =
    ap (λ (parts : HeadParts g.row.N.Denot). fresh_names_rule parts.numbers c.args.given.names) (sym c.self.view_is)
    ∙ key-twice c.self.inside.numbers.items c.self.inside.keys.keys c.args.key c.args.given.names c.self.invariant c.requires
    (not_false _ (sym c.if-not-branch.true ∙ c.in_ok-insert.ensures.added))

pub returns : goal.returns
returns g c = (
  ap (λ (parts : HeadParts g.row.N.Denot). fresh_names_rule parts.numbers c.args.given.names) (sym c.self.view_is)
      ∙ key-fresh c.self.inside.numbers.items c.self.inside.keys.keys c.args.key c.args.given.names c.self.invariant c.requires
      (not_true _ (sym c.if-not-branch.false ∙ c.in_ok-insert.ensures.added)),
  let line = ap (λ (given : HeadNumber g.row.N.Denot). given.line) c.given.view_is in
      let before = c.in_ok-reserve.ensures.items ∙ ap (λ (parts : HeadParts g.row.N.Denot). parts.numbers) c.self.view_is in
      let pushed = c.push.ensures.items
      ∙ ap (λ result. if is_ok result then c.reserve.new.self.items ++ c.args.given ∷ [] else c.reserve.new.self.items) c.unwrap.ensures
      ∙ ap (λ numbers. numbers ++ c.args.given ∷ []) before in
      λ i. record { lines = line i; numbers = pushed i },
)
