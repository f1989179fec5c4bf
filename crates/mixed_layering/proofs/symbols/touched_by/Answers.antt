use Rattle.mixed_model.specs.Models.{mixed_matrix_of}
use Rattle.mixed_layering.proofs.PlaceLaws.{touched-split, touched-whole}
use Rattle.mixed_layering.proofs.symbols.touched_by.Goals.{in-Some+in_ok-push, in_default}
use Rattle.mixed_layering.proofs.symbols.touched_by.Goals as goal

pub returns : goal.returns
returns g c =
    let M = mixed_matrix_of c.args.model.now in
    let split = c.args.split.now in
    let list = c.in_ok-columns.columns.items in
    elim c.match-place_of.branch [
      | in-Some+in_ok-push w ↦
          rw (w.columns-is, w.in_ok-push.ensures.ok, w.unknowns.ensures.count)
          (touched-split M c.args.equation split list c.in_ok-columns.ensures w.in-Some.place c.requires.split.rising w.in-Some.ensures)
      | in_default w ↦
          rw w.columns-is (touched-whole M c.args.equation split list c.in_ok-columns.ensures w.in_default.ensures)
    ]
