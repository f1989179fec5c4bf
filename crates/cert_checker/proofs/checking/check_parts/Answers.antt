use Rattle.std.proofs.Common.{inl, inr, refl}
use Rattle.residue_theory.proofs.SetLaws.{differ}
use Rattle.cert_checker.proofs.checking.check_parts.Goals as goal

pub returns-then-not-leads_down : goal.returns-then-not-leads_down
returns-then-not-leads_down g c L P = inl (refl, λ down. differ c.if-not-leads_down.true ((c.leads_down.ensures L P).1 down))

pub returns-then-not-branch : goal.returns-then-not-branch
returns-then-not-branch g c L P =
    let down = (c.leads_down.ensures L P).0 c.if-not-leads_down.false in
    inr (inl (refl, down, λ reasons. differ c.if-not-branch.true ((c.in_ok-has_reasons.ensures L P down).1 reasons)))

pub returns-then-not-branch-2 : goal.returns-then-not-branch-2
returns-then-not-branch-2 g c L P =
    let down = (c.leads_down.ensures L P).0 c.if-not-leads_down.false in
    let reasons = (c.in_ok-has_reasons.ensures L P down).0 c.if-not-branch.false in
    inr (inr (refl, down, reasons, λ lists. differ c.if-not-branch-2.true ((c.in_ok-has_lower_lists.ensures L P down reasons).1 lists)))

pub returns : goal.returns
returns g c L P =
    let down = (c.leads_down.ensures L P).0 c.if-not-leads_down.false in
    let reasons = (c.in_ok-has_reasons.ensures L P down).0 c.if-not-branch.false in
    (down, reasons, (c.in_ok-has_lower_lists.ensures L P down reasons).0 c.if-not-branch-2.false)
