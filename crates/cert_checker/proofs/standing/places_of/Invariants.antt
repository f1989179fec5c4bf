use Rattle.cert_checker.specs.Standing.{lists_in}
use Rattle.cert_checker.proofs.StandingLaws.{AreStanding}
use Rattle.cert_checker.proofs.standing.places_of.Given as goal

abbrev pub invariant-loop-k : goal.invariant-loop-k
invariant-loop-k g l = AreStanding l.n (lists_in l.member l.form) l.k l.places.items
