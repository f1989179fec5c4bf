use Rattle.std.proofs.Common.{◌≡◌, ◌+◌, ℕ, true, subst, sym, arith}
use Rattle.residue_theory.proofs.SetLaws.{differ}
use Rattle.minimiser_lattice.specs.Views.{parts_in}
use Rattle.ccf_builder.specs.Placings.{ListsBelow}
use Rattle.ccf_builder.proofs.MemberLists.{lists-more, lists-past}
use Rattle.ccf_builder.proofs.canonical.lower_blocks.Goals as goal

pub loop-j-preserved : goal.loop-j-preserved
loop-j-preserved c =
    let Of : ℕ → Type 0 = λ x. (parts_in c.args.lattice.now).covers c.args.k x ≡ true in
    let j = c.in-Some.j in
    let L = c.in-Some.ensures.least in
    let I = c.loop-j.invariant in
    record {
      within = omega (arith, L.before_end);
      lists = subst (ListsBelow Of (j + 1)) (sym c.in_ok-push.ensures.items)
          (lists-more Of j c.loop-j.lower.items
          (lists-past Of c.loop-j.from j c.loop-j.lower.items I.lists L.from_on
          (λ x le less h. differ (L.none_before x le less) h))
          L.holds);
    }

pub returns : goal.returns
returns c =
    let Of : ℕ → Type 0 = λ x. (parts_in c.args.lattice.now).covers c.args.k x ≡ true in
    let I = c.loop-j.invariant in
    subst (ListsBelow Of c.args.k) (sym c.from_vec.ensures)
    (lists-past Of c.loop-j.from c.args.k c.loop-j.lower.items I.lists I.within
    (λ x le less h. differ (c.in_default.ensures.none x le less) h))
