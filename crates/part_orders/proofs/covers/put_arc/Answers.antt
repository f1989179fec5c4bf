use Rattle.std.proofs.Common.{inl, inr}
use Rattle.part_orders.proofs.covers.put_arc.Goals as goal

pub returns-in_default-block_of-clause-put : goal.returns-in_default-block_of-clause-put
returns-in_default-block_of-clause-put c l k ll kl = ((λ h. inl h), (λ w. elim w [ inl h ↦ h | inr e ↦ absurd (c.in_default-block_of.ensures.none k kl e.1) ]))

pub returns-in_default-clause-put : goal.returns-in_default-clause-put
returns-in_default-clause-put c l k ll kl = ((λ h. inl h), (λ w. elim w [ inl h ↦ h | inr e ↦ absurd (c.in_default.ensures.none l ll e.0) ]))
