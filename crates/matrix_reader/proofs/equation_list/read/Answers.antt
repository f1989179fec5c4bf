use Rattle.std.proofs.Common.{[], Result, Ok, Err, IfErr}
use Rattle.std.proofs.lemmas.Result.{IfOk-weaker}
use Rattle.matrix_reader.proofs.equation_list.read.Goals as goal

IfErr-weaker : {T E : Type 0} (r : Result T E) (P Q : E → Type 0) → ((e : E) → P e → Q e) → IfErr r P → IfErr r Q
IfErr-weaker (Ok x) P Q f h = tt
IfErr-weaker (Err e) P Q f h = f e h

pub returns-clause-model : goal.returns-clause-model
returns-clause-model g c = IfOk-weaker c.finish.result _ _
    (λ m h. h c.args.bytes.now (c.in_ok-feed.ensures [] c.in_ok-new.ensures c.requires)) c.finish.ensures.model

pub returns-clause-refused : goal.returns-clause-refused
returns-clause-refused g c = IfErr-weaker c.finish.result _ _
    (λ why h. h c.args.bytes.now (c.in_ok-feed.ensures [] c.in_ok-new.ensures c.requires)) c.finish.ensures.refused
