use Rattle.std.proofs.Common.{◌≡◌, ◌+◌, ◌<◌, ◌∙◌, ℕ, Bool, ap, sym, subst, arith}
use Rattle.residue_theory.specs.Sums.{size_on}
use Rattle.residue_theory.specs.Sets.{either}
use Rattle.residue_theory.proofs.SetLaws.{eqb_true}
use Rattle.search_laws.specs.Outside.{IsReachedInVain}
use Rattle.exchange_graph.specs.Marks.{members_of}
use Rattle.exchange_graph.specs.Scans.{walk_of}
use Rattle.exchange_graph.specs.Sweeps.{AreLookedAtInVain, IsShortestFromOne}
use Rattle.exchange_graph.specs.SweepStates.{left_by, sweep_places}
use Rattle.exchange_graph.specs.declared.sweep.Sweep.{Sweep}
use Rattle.exchange_graph.proofs.ItemLaws.{mark_read}
use Rattle.exchange_graph.proofs.SweepLaws.{found-few, found-looks, found-outside, left-few, left-grown, left-held}
use Rattle.exchange_graph.proofs.SweepLaws.{left-looked, left-size, left-vain, looked-vain}
use Rattle.exchange_graph.proofs.sweep.Sweep.search_at.Goals as goal

pub count-requires-clause-few : goal.count-requires-clause-few
count-requires-clause-few g c =
    let s = c.args.self.now in
    let fresh = mark_read s.left.items c.args.start c.index.result.now
    (omega (arith, c.requires.start, c.requires.stored.marks)) c.index.ensures ∙ c.if-index.false in
    omega (
      arith,
      c.search_from.ensures.places,
      c.requires.few,
      found-few (g.A.Arcs.leads c.args.arcs.now) (sweep_places s) (members_of c.args.starts.now)
          (members_of c.args.ends.now) (left_by s) c.requires.vain c.args.start c.if-not-starts-start.false fresh
          c.in-Some.length c.search_from.new.self.scan.looks c.in-Some.ensures.answer.looked,
    )

pub count-requires-in-None-clause-few : goal.count-requires-in-None-clause-few
count-requires-in-None-clause-few g c =
    let s = c.args.self.now in
    let arc = g.A.Arcs.leads c.args.arcs.now in
    let fresh = mark_read s.left.items c.args.start c.index.result.now
    (omega (arith, c.requires.start, c.requires.stored.marks)) c.index.ensures ∙ c.if-index.false in
    let X = members_of c.search_from.new.self.scan.reached.items in
    let same : (y : ℕ) → y < sweep_places s → left_by c.leave.new.self y ≡ either (left_by s) X y =
    λ y l. c.leave.ensures.left y (omega (arith, l, c.search_from.ensures.places))
    ∙ ap (λ v. either (members_of v.items) X y) c.search_from.ensures.left in
    omega (
      arith,
      c.search_from.ensures.places,
      c.requires.few,
      ap (λ (v : Sweep). v.scan.looks) c.leave.ensures.kept,
      ap (λ (v : Sweep). sweep_places v) c.leave.ensures.kept,
      left-few arc (sweep_places s) (members_of c.args.starts.now) (members_of c.args.ends.now) (left_by s)
          c.requires.vain c.args.start c.if-not-starts-start.false fresh X (left_by c.leave.new.self) same
          c.in-None.ensures.answer.closed c.in-None.ensures.answer.reached c.search_from.new.self.scan.looks c.in-None.ensures.answer.size,
    )

pub returns-in-Some-clause-found : goal.returns-in-Some-clause-found
returns-in-Some-clause-found g c =
    let s = c.args.self.now in
    let arc = g.A.Arcs.leads c.args.arcs.now in
    let E = c.in-Some.ensures.answer in
    let fresh = mark_read s.left.items c.args.start c.index.result.now
    (omega (arith, c.requires.start, c.requires.stored.marks)) c.index.ensures ∙ c.if-index.false in
    record {
      found = subst (λ (v : Sweep). IsShortestFromOne arc (sweep_places s) (members_of c.args.starts.now)
          (members_of c.args.ends.now) (walk_of v.scan) c.in-Some.length) (sym c.count.ensures.kept)
          (found-outside arc (sweep_places s) (members_of c.args.starts.now) (members_of c.args.ends.now) (left_by s)
          c.requires.vain c.args.start c.if-not-starts-start.false fresh (walk_of c.search_from.new.self.scan)
          c.in-Some.length E.found);
      first = subst (λ (v : Sweep). walk_of v.scan 0 ≡ c.args.start) (sym c.count.ensures.kept)
          (eqb_true (walk_of c.search_from.new.self.scan 0) c.args.start E.found.begins);
      left = ap (λ (v : Sweep). v.left) c.count.ensures.kept ∙ c.search_from.ensures.left;
    }

pub returns-in-Some-clause-looked : goal.returns-in-Some-clause-looked
returns-in-Some-clause-looked g c before W =
    let s = c.args.self.now in
    let arc = g.A.Arcs.leads c.args.arcs.now in
    let fresh = mark_read s.left.items c.args.start c.index.result.now
    (omega (arith, c.requires.start, c.requires.stored.marks)) c.index.ensures ∙ c.if-index.false in
    subst (λ (v : Sweep). AreLookedAtInVain arc (sweep_places s) (members_of c.args.starts.now)
    (members_of c.args.ends.now) before v.scan.looks) (sym c.count.ensures.kept)
    (found-looks arc (sweep_places s) (members_of c.args.starts.now) (members_of c.args.ends.now) (left_by s)
    c.requires.vain c.args.start c.if-not-starts-start.false fresh c.in-Some.length
    c.search_from.new.self.scan.looks c.in-Some.ensures.answer.looked before s.scan.looks W.kept W.size)

pub returns-in-None-clause-looked : goal.returns-in-None-clause-looked
returns-in-None-clause-looked g c before W =
    let s = c.args.self.now in
    let arc = g.A.Arcs.leads c.args.arcs.now in
    let fresh = mark_read s.left.items c.args.start c.index.result.now
    (omega (arith, c.requires.start, c.requires.stored.marks)) c.index.ensures ∙ c.if-index.false in
    let X = members_of c.search_from.new.self.scan.reached.items in
    let same : (y : ℕ) → y < sweep_places s → left_by c.leave.new.self y ≡ either (left_by s) X y =
    λ y l. c.leave.ensures.left y (omega (arith, l, c.search_from.ensures.places))
    ∙ ap (λ v. either (members_of v.items) X y) c.search_from.ensures.left in
    subst (λ (m : ℕ). AreLookedAtInVain arc (sweep_places s) (members_of c.args.starts.now) (members_of c.args.ends.now) before m)
    (sym (ap (λ (v : Sweep). v.scan.looks) c.count-in-None.ensures.kept
    ∙ ap (λ (v : Sweep). v.scan.looks + s.scan.looks) c.leave.ensures.kept))
    (left-looked arc (sweep_places s) (members_of c.args.starts.now) (members_of c.args.ends.now) (left_by s)
    c.requires.vain c.args.start c.if-not-starts-start.false fresh X (left_by c.leave.new.self) same
    c.in-None.ensures.answer.closed c.in-None.ensures.answer.reached before s.scan.looks c.search_from.new.self.scan.looks W.kept W.size
    c.in-None.ensures.answer.size)

pub returns-in-None-clause-passed : goal.returns-in-None-clause-passed
returns-in-None-clause-passed g c =
    let s = c.args.self.now in
    let arc = g.A.Arcs.leads c.args.arcs.now in
    let fresh = mark_read s.left.items c.args.start c.index.result.now
    (omega (arith, c.requires.start, c.requires.stored.marks)) c.index.ensures ∙ c.if-index.false in
    let X = members_of c.search_from.new.self.scan.reached.items in
    let same : (y : ℕ) → y < sweep_places s → left_by c.leave.new.self y ≡ either (left_by s) X y =
    λ y l. c.leave.ensures.left y (omega (arith, l, c.search_from.ensures.places))
    ∙ ap (λ v. either (members_of v.items) X y) c.search_from.ensures.left in
    let now = c.count-in-None.new.self in
    let left : left_by now ≡ left_by c.leave.new.self = ap left_by c.count-in-None.ensures.kept in
    let looks : now.scan.looks ≡ c.search_from.new.self.scan.looks + s.scan.looks =
    ap (λ (v : Sweep). v.scan.looks) c.count-in-None.ensures.kept
    ∙ ap (λ (v : Sweep). v.scan.looks + s.scan.looks) c.leave.ensures.kept in
    record {
      sweeping = λ before W. record {
        stored = c.count-in-None.ensures.stored;
        places = ap sweep_places c.count-in-None.ensures.kept
            ∙ (ap sweep_places c.leave.ensures.kept ∙ c.search_from.ensures.places);
        vain = subst (λ (v : ℕ → Bool). IsReachedInVain arc (sweep_places s) (members_of c.args.starts.now)
            (members_of c.args.ends.now) v) (sym left) (left-vain arc (sweep_places s) (members_of c.args.starts.now)
            (members_of c.args.ends.now) (left_by s) c.requires.vain c.args.start c.if-not-starts-start.false fresh X
            (left_by c.leave.new.self) same c.in-None.ensures.answer.closed c.in-None.ensures.answer.reached);
        kept = λ y l h. ap (λ v. v y) left ∙ left-grown arc (sweep_places s) (members_of c.args.starts.now)
            (members_of c.args.ends.now) (left_by s) c.requires.vain c.args.start c.if-not-starts-start.false fresh X
            (left_by c.leave.new.self) same c.in-None.ensures.answer.closed c.in-None.ensures.answer.reached y l (W.kept y l h);
        size = subst (λ (v : ℕ → Bool). size_on v (sweep_places s) ≡ size_on before (sweep_places s) + now.scan.looks) (sym left)
            (omega (
              arith,
              left-size arc (sweep_places s) (members_of c.args.starts.now) (members_of c.args.ends.now) (left_by s)
                  c.requires.vain c.args.start c.if-not-starts-start.false fresh X (left_by c.leave.new.self) same
                  c.in-None.ensures.answer.closed c.in-None.ensures.answer.reached c.search_from.new.self.scan.looks
                  c.in-None.ensures.answer.size,
              W.size,
              looks,
            ));
      };
      held = λ _. ap (λ v. v c.args.start) left ∙ left-held arc (sweep_places s) (members_of c.args.starts.now)
          (members_of c.args.ends.now) (left_by s) c.requires.vain c.args.start c.if-not-starts-start.false fresh X
          (left_by c.leave.new.self) same c.in-None.ensures.answer.closed c.in-None.ensures.answer.reached c.requires.start;
      walk = ap (λ (v : Sweep). v.scan.walk) c.count-in-None.ensures.kept
          ∙ (ap (λ (v : Sweep). v.scan.walk) c.leave.ensures.kept ∙ c.in-None.ensures.walk);
    }

pub returns-then-not-starts-start-clause-looked : goal.returns-then-not-starts-start-clause-looked
returns-then-not-starts-start-clause-looked g c before W =
    let s = c.args.self.now in
    looked-vain (sweep_places s) before (left_by s) W.kept (g.A.Arcs.leads c.args.arcs.now) (members_of c.args.starts.now)
    (members_of c.args.ends.now) s.scan.looks W.vain W.size
