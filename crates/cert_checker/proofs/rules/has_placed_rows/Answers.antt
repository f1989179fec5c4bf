use Rattle.std.proofs.Common.{◌≡◌, ◌+◌, MatchOption, length, ap, subst, ◌∙◌, arith}
use Rattle.std.proofs.lemmas.Result.{IfOk-weaker}
use Rattle.residue_theory.proofs.SetLaws.{differ}
use Rattle.mixed_model.specs.Layers.{layered_matrix_of}
use Rattle.cert_text.specs.Readings.{StandsOnce, q_row_lists, t_row_lists}
use Rattle.cert_checker.specs.Standing.{Not, TellsPlaces, lists_in}
use Rattle.cert_checker.specs.declared.standing.Member.TheVariants.{QRow, TRow}
use Rattle.cert_checker.proofs.PlacedForm.{stand_as, q-told, t-told, q-never, t-never, form-placed, form-q, form-t}
use Rattle.cert_checker.proofs.rules.has_placed_rows.Goals as goal

pub returns-in_default : goal.returns-in_default
returns-in_default g c =
    let form = c.args.form.now in
    let never : Not (StandsOnce c.q_rows.result (lists_in QRow form)) =
    subst (λ found. MatchOption found (Not (StandsOnce c.q_rows.result (lists_in QRow form)))
    (λ places. TellsPlaces c.q_rows.result (lists_in QRow form) places.items)) c.in_default.is c.in_ok-q_rows.ensures in (
      λ f. absurd (cc),
      λ placed. absurd (q-never g.F.Field.modulus (layered_matrix_of c.args.layered.now) form c.q_rows.result c.q_rows.ensures never placed),
    )

pub returns-in_default-2 : goal.returns-in_default-2
returns-in_default-2 g c =
    let form = c.args.form.now in
    let never : Not (StandsOnce c.t_rows.result (lists_in TRow form)) =
    subst (λ found. MatchOption found (Not (StandsOnce c.t_rows.result (lists_in TRow form)))
    (λ places. TellsPlaces c.t_rows.result (lists_in TRow form) places.items)) c.in_default-2.is c.in_ok-t_rows.ensures in (
      λ f. absurd (cc),
      λ placed. absurd (t-never g.F.Field.modulus (layered_matrix_of c.args.layered.now) form c.t_rows.result c.t_rows.ensures never placed),
    )

pub returns-then-not-branch : goal.returns-then-not-branch
returns-then-not-branch g c =
    let p = g.F.Field.modulus in
    let form = c.args.form.now in
    let L = layered_matrix_of c.args.layered.now in
    let q = c.in-Some.q_rows.items in
    let t = c.in-Some-2.t_rows.items in
    let q_told : TellsPlaces L.q_rows (q_row_lists form) q = q-told p L form c.q_rows.result q c.q_rows.ensures
    (subst (λ found. MatchOption found (Not (StandsOnce c.q_rows.result (lists_in QRow form)))
    (λ places. TellsPlaces c.q_rows.result (lists_in QRow form) places.items)) c.in-Some.is c.in_ok-q_rows.ensures) in
    let t_told : TellsPlaces L.t_rows (t_row_lists form) t = t-told p L form c.t_rows.result t c.t_rows.ensures
    (subst (λ found. MatchOption found (Not (StandsOnce c.t_rows.result (lists_in TRow form)))
    (λ places. TellsPlaces c.t_rows.result (lists_in TRow form) places.items)) c.in-Some-2.is c.in_ok-t_rows.ensures) in
    let last : length c.as_slice.result.now + 2 ≡ length form.blocks + 2 = omega (arith, ap length (c.as_slice.ensures ∙ c.blocks-2.ensures.blocks)) in
    let stand = stand_as (length c.deref.result.now) L.q_rows (length c.as_slice.result.now + 2)
    (length form.blocks + 2) form.base c.as_slice-2.result.now c.args.columns.now c.deref.result.now q
    (ap length c.deref.ensures.value ∙ q_told.count) (c.as_slice-2.ensures ∙ c.base.ensures.base) last c.deref.ensures.value in (
      λ f. absurd (cc),
      λ placed. absurd (differ c.if-not-branch.true (c.in_ok-stand_with_columns.ensures.1
          (stand.1 (form-q p L form c.base.ensures.ccf c.requires.sizes c.requires.differ c.args.columns.now c.requires.places q t q_told t_told placed)))),
    )

pub returns : goal.returns
returns g c =
    let p = g.F.Field.modulus in
    let form = c.args.form.now in
    let L = layered_matrix_of c.args.layered.now in
    let q = c.in-Some.q_rows.items in
    let t = c.in-Some-2.t_rows.items in
    let q_told : TellsPlaces L.q_rows (q_row_lists form) q = q-told p L form c.q_rows.result q c.q_rows.ensures
    (subst (λ found. MatchOption found (Not (StandsOnce c.q_rows.result (lists_in QRow form)))
    (λ places. TellsPlaces c.q_rows.result (lists_in QRow form) places.items)) c.in-Some.is c.in_ok-q_rows.ensures) in
    let t_told : TellsPlaces L.t_rows (t_row_lists form) t = t-told p L form c.t_rows.result t c.t_rows.ensures
    (subst (λ found. MatchOption found (Not (StandsOnce c.t_rows.result (lists_in TRow form)))
    (λ places. TellsPlaces c.t_rows.result (lists_in TRow form) places.items)) c.in-Some-2.is c.in_ok-t_rows.ensures) in
    let last : length c.as_slice.result.now + 2 ≡ length form.blocks + 2 = omega (arith, ap length (c.as_slice.ensures ∙ c.blocks-2.ensures.blocks)) in
    let q_stand = stand_as (length c.deref.result.now) L.q_rows (length c.as_slice.result.now + 2)
    (length form.blocks + 2) form.base c.as_slice-2.result.now c.args.columns.now c.deref.result.now q
    (ap length c.deref.ensures.value ∙ q_told.count) (c.as_slice-2.ensures ∙ c.base.ensures.base) last c.deref.ensures.value in
    let t_stand = stand_as (length c.deref-2.result.now) L.t_rows (length c.as_slice.result.now + 2)
    (length form.blocks + 2) form.mates c.as_slice-3.result.now c.args.columns.now c.deref-2.result.now t
    (ap length c.deref-2.ensures.value ∙ t_told.count) (c.as_slice-3.ensures ∙ c.mates.ensures.mates) last c.deref-2.ensures.value in
    IfOk-weaker c.stand_with_columns-2.result _ _ (λ answer h. (
      λ x. form-placed p L form c.base.ensures.ccf c.requires.sizes c.requires.differ c.args.columns.now c.requires.places q t q_told t_told
          (q_stand.0 (c.in_ok-stand_with_columns.ensures.0 c.if-not-branch.false)) (t_stand.0 (h.0 x)),
      λ placed. h.1 (t_stand.1 (form-t p L form c.base.ensures.ccf c.requires.sizes c.requires.differ c.args.columns.now
          c.requires.places q t q_told t_told placed)),
    )) c.stand_with_columns-2.ensures
