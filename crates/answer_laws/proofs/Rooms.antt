-- Room for an answer, by the words of a run.
use Rattle.std.proofs.Common.{◌≡◌, ℕ, ◌≤◌, List, [], ◌∷◌, codes, length, None, subst, sym, arith}
use Rattle.cert_text.specs.declared.kind.Kind.TheVariants.{Matrix}
use Rattle.run_ends.specs.Answers.{EachTextFits}
use Rattle.report_cli.specs.Answer.{IsAnswer}
use Rattle.answer_laws.specs.Rooms.{request_room, text_room}
use Rattle.command_line.specs.Words.{AsksFor}
use Rattle.command_line.specs.declared.command.Command.TheVariants.{OfModel}
use Rattle.command_line.specs.declared.command.Task.TheVariants.{Analyse}
use Rattle.command_line.specs.declared.command.Request.TheVariants.{OfInput}
use Rattle.command_line.proofs.Asking.{request-one}
use Rattle.command_line.proofs.AtExamples.{analyse}
use Rattle.answer_laws.proofs.Fitting.{HasTextRoom, room-fits}

-- 9 bytes of an equation list make at most 9 rows of each kind and 18 columns
matrix_room : (words : List (List ℕ)) → words ≡ codes "mixed" ∷ codes "analyse" ∷ codes "matrix" ∷ [] → HasTextRoom (λ size. size ≤ 6432) words 9
matrix_room words is request asks =
    let these : AsksFor words (OfModel Analyse Matrix None) = subst (λ w. AsksFor w (OfModel Analyse Matrix None)) (sym is) analyse in
    let least : text_room 5 (OfModel Analyse Matrix None) 9 ≤ 6432 = omega arith in
    subst (λ r. request_room r 9 ≤ 6432) (request-one words (OfInput (OfModel Analyse Matrix None)) request these asks) least

pub matrix_fits : (words : List (List ℕ)) (input : List ℕ) → words ≡ codes "mixed" ∷ codes "analyse" ∷ codes "matrix" ∷ [] →
    length input ≡ 9 → EachTextFits (IsAnswer words) (λ size. size ≤ 6432) input
matrix_fits words input is long =
    room-fits words input 6432 (subst (HasTextRoom (λ size. size ≤ 6432) words) (sym long) (matrix_room words is))
