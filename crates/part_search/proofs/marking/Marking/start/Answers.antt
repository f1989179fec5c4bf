use Rattle.std.proofs.Common.{arith}
use Rattle.part_search.proofs.MarkLaws.{starts-put, starts-pass, rest-put}
use Rattle.part_search.proofs.marking.Marking.start.Goals as goal
use Rattle.part_search.proofs.marking.Marking.start.Goals.{then-is_start+in_ok-put, else-is_start}

pub loop-place-preserved : goal.loop-place-preserved
loop-place-preserved c =
    let I = c.loop-place.invariant in
    let marking = c.loop-place.marking in
    let place = c.loop-place.place in
    elim c.if-is_start.branch [
      | then-is_start+in_ok-put w ↦
          let G = w.in_ok-put.ensures in
          let now = w.put.new.self in
          rw w.marking-is (record {
            queued = G.queued;
            count = omega (arith, G.count, I.count);
            done = starts-put c.args.starts.now marking.marks.items place I.done now.marks.items marking.queue.items
                now.queue.items I.rest G w.if-is_start.true;
            rest = rest-put marking.marks.items now.marks.items marking.queue.items now.queue.items place G I.rest;
          })
      | else-is_start w ↦ rw w.marking-is (record {
        queued = I.queued;
        count = I.count;
        done = starts-pass c.args.starts.now marking.marks.items place I.done I.rest w.if-is_start.false;
        rest = λ y l. I.rest y (omega arith);
      })
    ]
