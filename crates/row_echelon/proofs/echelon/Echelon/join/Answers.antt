use Rattle.std.proofs.Common.{◌≡◌, ap, sym, subst, ◌∙◌, arith, length, map, [], ◌∷◌, ◌++◌}
use Rattle.std.proofs.lemmas.List.{length-map, map-append}
use Rattle.row_echelon.specs.Echelons.{EchelonState, JoinsEchelon, IsEchelon, IsRowReduced, PivotItems}
use Rattle.row_echelon.proofs.EchelonLaws.{echelon-joined, has-joined}
use Rattle.row_echelon.proofs.StoredRows.{seen, state_of}
use Rattle.row_echelon.proofs.echelon.Echelon.join.Goals as goal

pub invariant_of-self-2 : goal.invariant_of-self-2
invariant_of-self-2 g c =
    let number = g.F.Field.number in
    let p = g.F.Field.modulus in
    let e : EchelonState = c.args.self.now in
    let w = length c.self.inside.weights.items in
    let is : IsEchelon p e = subst (IsEchelon p) c.self.view_is c.self.invariant in
    let rows : map (seen number) c.push.new.self.items ≡ e.rows ++ seen number c.in_ok-pivot.pivot ∷ [] =
    ap (map (seen number)) c.in_ok-push.ensures.items ∙ map-append (seen number) c.self.inside.rows.items (c.in_ok-pivot.pivot ∷ [])
    ∙ ap (λ (s : EchelonState). s.rows ++ seen number c.in_ok-pivot.pivot ∷ []) c.self.view_is in
    echelon-joined p e is (map number c.args.row.now) (number c.args.right) (map number c.reduced-right.new.row) (number c.reduced-right.result)
    c.reduced-right.ensures c.in-Some.lead c.in-Some.ensures.below (seen number c.in_ok-pivot.pivot)
    (length c.reduced-right.new.row) (omega (arith, c.reduced-right.auto.row, c.requires))
    c.in_ok-pivot.ensures (state_of number w c.push.new.self.items) rows (ap (λ (s : EchelonState). s.width) c.self.view_is)

pub returns-clause-joined : goal.returns-clause-joined
returns-clause-joined g c _ =
    let number = g.F.Field.number in
    let p = g.F.Field.modulus in
    let e : EchelonState = c.args.self.now in
    let w = length c.self.inside.weights.items in
    let is : IsEchelon p e = subst (IsEchelon p) c.self.view_is c.self.invariant in
    let rows : map (seen number) c.push.new.self.items ≡ e.rows ++ seen number c.in_ok-pivot.pivot ∷ [] =
    ap (map (seen number)) c.in_ok-push.ensures.items ∙ map-append (seen number) c.self.inside.rows.items (c.in_ok-pivot.pivot ∷ [])
    ∙ ap (λ (s : EchelonState). s.rows ++ seen number c.in_ok-pivot.pivot ∷ []) c.self.view_is in
    has-joined p e is (map number c.args.row.now) (number c.args.right) (map number c.reduced-right.new.row) (number c.reduced-right.result)
    c.reduced-right.ensures c.in-Some.lead c.in-Some.ensures.below (seen number c.in_ok-pivot.pivot)
    (length c.reduced-right.new.row) (omega (arith, c.reduced-right.auto.row, c.requires))
    c.in_ok-pivot.ensures (state_of number w c.push.new.self.items) rows (ap (λ (s : EchelonState). s.width) c.self.view_is)
