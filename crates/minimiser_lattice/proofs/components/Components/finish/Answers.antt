use Rattle.std.proofs.Common.{◌-◌, arith}
use Rattle.minimiser_lattice.specs.Components.{component_places, path_state}
use Rattle.bit_table.proofs.BitLaws.{item_is}
use Rattle.minimiser_lattice.proofs.PathLaws.{going_fits, last_below, left-by}
use Rattle.minimiser_lattice.proofs.components.Components.finish.Goals as goal

pub index-requires : goal.index-requires
index-requires g c =
    let s = c.args.self.now in
    let F = going_fits (g.A.Arcs.leads c.args.arcs.now) (g.A.Arcs.turn c.args.arcs.now) (component_places s) (path_state s) c.requires.going in
    omega (
      arith,
      F.0,
      F.1,
      c.requires.stored.base,
      (c.requires.going.first_base
          (omega (
            arith,
            (last_below (g.A.Arcs.leads c.args.arcs.now) (g.A.Arcs.turn c.args.arcs.now) (component_places s) (path_state s) c.requires.going
                c.requires.some).0,
          ))).0,
    )

pub index-requires-2 : goal.index-requires-2
index-requires-2 g c = let F =
    going_fits (g.A.Arcs.leads c.args.arcs.now) (g.A.Arcs.turn c.args.arcs.now) (component_places c.args.self.now) (path_state c.args.self.now) c.requires.going
    in omega (arith, F.0, F.2, c.requires.stored.path, c.requires.some)

pub close-requires-clause-begins : goal.close-requires-clause-begins
close-requires-clause-begins g c =
    let s = c.args.self.now in
    let F = going_fits (g.A.Arcs.leads c.args.arcs.now) (g.A.Arcs.turn c.args.arcs.now) (component_places s) (path_state s) c.requires.going in
    omega (
      arith,
      item_is s.base.items (s.groups - 1) c.index.result.now
          (omega (
            arith,
            F.0,
            F.1,
            c.requires.stored.base,
            (c.requires.going.first_base
                (omega (
                  arith,
                  (last_below (g.A.Arcs.leads c.args.arcs.now) (g.A.Arcs.turn c.args.arcs.now) (component_places s) (path_state s) c.requires.going
                      c.requires.some).0,
                ))).0,
          )) c.index.ensures,
      item_is s.path.items (s.depth - 1) c.index-2.result.now (omega (arith, F.0, F.2, c.requires.stored.path, c.requires.some)) c.index-2.ensures,
    )

pub returns-else-index-clause-going : goal.returns-else-index-clause-going
returns-else-index-clause-going g c =
    let s = c.args.self.now in
    let F = going_fits (g.A.Arcs.leads c.args.arcs.now) (g.A.Arcs.turn c.args.arcs.now) (component_places s) (path_state s) c.requires.going in
    left-by (g.A.Arcs.leads c.args.arcs.now) (g.A.Arcs.turn c.args.arcs.now) (component_places s) (path_state s) c.requires.going
    c.requires.some c.requires.finished (λ q. omega (
      arith,
      q,
      item_is s.base.items (s.groups - 1) c.index.result.now
          (omega (
            arith,
            F.0,
            F.1,
            c.requires.stored.base,
            (c.requires.going.first_base
                (omega (
                  arith,
                  (last_below (g.A.Arcs.leads c.args.arcs.now) (g.A.Arcs.turn c.args.arcs.now) (component_places s) (path_state s) c.requires.going
                      c.requires.some).0,
                ))).0,
          )) c.index.ensures,
      item_is s.path.items (s.depth - 1) c.index-2.result.now (omega (arith, F.0, F.2, c.requires.stored.path, c.requires.some)) c.index-2.ensures,
    ))
