use Rattle.std.proofs.Common.{MatchOption, refl, sym, subst, arith}
use Rattle.residue_theory.proofs.SetLaws.{differ}
use Rattle.mixed_model.specs.Layers.{layered_matrix_of}
use Rattle.mixed_model.specs.Models.{mixed_matrix_of}
use Rattle.cert_text.specs.Readings.{StandsOnce, column_lists}
use Rattle.cert_checker.specs.Checking.{KeepsFirst}
use Rattle.cert_checker.specs.Standing.{Not, TellsPlaces}
use Rattle.cert_checker.proofs.FirstBroken.{more-kept, next-broken, none-kept}
use Rattle.cert_checker.proofs.FormSizes.{shape-sizes}
use Rattle.cert_checker.proofs.checking.check_rows.Goals as goal

pub has_inverse-requires : goal.has_inverse-requires
has_inverse-requires g c = shape-sizes (mixed_matrix_of c.args.model.now)
    (layered_matrix_of c.args.layered.now) c.args.form.now (c.if-not-has_shape.ensures.0 refl)

pub has_product-requires : goal.has_product-requires
has_product-requires g c = shape-sizes (mixed_matrix_of c.args.model.now)
    (layered_matrix_of c.args.layered.now) c.args.form.now (c.if-not-has_shape.ensures.0 refl)

pub has_unit_columns-requires : goal.has_unit_columns-requires
has_unit_columns-requires g c = shape-sizes (mixed_matrix_of c.args.model.now)
    (layered_matrix_of c.args.layered.now) c.args.form.now (c.if-not-has_shape.ensures.0 refl)

pub has_matching-requires : goal.has_matching-requires
has_matching-requires g c = shape-sizes (mixed_matrix_of c.args.model.now)
    (layered_matrix_of c.args.layered.now) c.args.form.now (c.if-not-has_shape.ensures.0 refl)

pub is_counted-requires : goal.is_counted-requires
is_counted-requires g c = shape-sizes (mixed_matrix_of c.args.model.now) (layered_matrix_of c.args.layered.now) c.args.form.now
    (c.if-not-has_shape.ensures.0 refl)

pub column_places-requires : goal.column_places-requires
column_places-requires g c = shape-sizes (mixed_matrix_of c.args.model.now)
    (layered_matrix_of c.args.layered.now) c.args.form.now (c.if-not-has_shape.ensures.0 refl)

pub has_placed_rows-requires-clause-sizes : goal.has_placed_rows-requires-clause-sizes
has_placed_rows-requires-clause-sizes g c = shape-sizes (mixed_matrix_of c.args.model.now)
    (layered_matrix_of c.args.layered.now) c.args.form.now (c.if-not-has_shape.ensures.0 refl)

pub has_placed_rows-requires-clause-differ : goal.has_placed_rows-requires-clause-differ
has_placed_rows-requires-clause-differ g c = (c.in_ok-has_matching.ensures.0 c.if-not-branch-4.false).differ

pub has_placed_rows-requires-clause-places : goal.has_placed_rows-requires-clause-places
has_placed_rows-requires-clause-places g c =
    let L = layered_matrix_of c.args.layered.now in
    let form = c.args.form.now in
    let told : TellsPlaces L.columns (column_lists form) c.in-Some.columns.items =
    subst (λ found. MatchOption found (Not (StandsOnce L.columns (column_lists form)))
    (λ places. TellsPlaces L.columns (column_lists form) places.items)) c.in-Some.is c.in_ok-columns.ensures in
    subst (TellsPlaces L.columns (column_lists form)) (sym c.deref.ensures.value) told

pub returns-then-not-has_shape : goal.returns-then-not-has_shape
returns-then-not-has_shape g c =
    let p = g.F.Field.modulus in
    let M = mixed_matrix_of c.args.model.now in
    let L = layered_matrix_of c.args.layered.now in
    let form = c.args.form.now in
    let kept-0 : KeepsFirst p M L form 0 = none-kept p M L form in
    record { kept = tt; broken = next-broken p M L form 0 2 refl (omega arith) kept-0 (λ h. absurd (differ refl (c.if-not-has_shape.ensures.1 h))) }

pub returns-then-not-branch : goal.returns-then-not-branch
returns-then-not-branch g c =
    let p = g.F.Field.modulus in
    let M = mixed_matrix_of c.args.model.now in
    let L = layered_matrix_of c.args.layered.now in
    let form = c.args.form.now in
    let kept-0 : KeepsFirst p M L form 0 = none-kept p M L form in
    let kept-1 : KeepsFirst p M L form 1 = more-kept p M L form 0 1 refl kept-0 (c.if-not-has_shape.ensures.0 refl) in
    record {
      kept = tt;
      broken = next-broken p M L form 1 3 refl (omega arith) kept-1
          (λ h. absurd (differ c.if-not-branch.true (c.in_ok-has_inverse.ensures.1 h)));
    }

pub returns-then-not-branch-2 : goal.returns-then-not-branch-2
returns-then-not-branch-2 g c =
    let p = g.F.Field.modulus in
    let M = mixed_matrix_of c.args.model.now in
    let L = layered_matrix_of c.args.layered.now in
    let form = c.args.form.now in
    let kept-0 : KeepsFirst p M L form 0 = none-kept p M L form in
    let kept-1 : KeepsFirst p M L form 1 = more-kept p M L form 0 1 refl kept-0 (c.if-not-has_shape.ensures.0 refl) in
    let kept-2 : KeepsFirst p M L form 2 = more-kept p M L form 1 2 refl kept-1 (c.in_ok-has_inverse.ensures.0 c.if-not-branch.false) in
    record {
      kept = tt;
      broken = next-broken p M L form 2 4 refl (omega arith) kept-2
          (λ h. absurd (differ c.if-not-branch-2.true (c.in_ok-has_product.ensures.1 h)));
    }

pub returns-then-not-branch-3 : goal.returns-then-not-branch-3
returns-then-not-branch-3 g c =
    let p = g.F.Field.modulus in
    let M = mixed_matrix_of c.args.model.now in
    let L = layered_matrix_of c.args.layered.now in
    let form = c.args.form.now in
    let kept-0 : KeepsFirst p M L form 0 = none-kept p M L form in
    let kept-1 : KeepsFirst p M L form 1 = more-kept p M L form 0 1 refl kept-0 (c.if-not-has_shape.ensures.0 refl) in
    let kept-2 : KeepsFirst p M L form 2 = more-kept p M L form 1 2 refl kept-1 (c.in_ok-has_inverse.ensures.0 c.if-not-branch.false) in
    let kept-3 : KeepsFirst p M L form 3 = more-kept p M L form 2 3 refl kept-2 (c.in_ok-has_product.ensures.0 c.if-not-branch-2.false) in
    record {
      kept = tt;
      broken = next-broken p M L form 3 5 refl (omega arith) kept-3
          (λ h. absurd (differ c.if-not-branch-3.true (c.in_ok-has_unit_columns.ensures.1 h)));
    }

pub returns-then-not-branch-4 : goal.returns-then-not-branch-4
returns-then-not-branch-4 g c =
    let p = g.F.Field.modulus in
    let M = mixed_matrix_of c.args.model.now in
    let L = layered_matrix_of c.args.layered.now in
    let form = c.args.form.now in
    let kept-0 : KeepsFirst p M L form 0 = none-kept p M L form in
    let kept-1 : KeepsFirst p M L form 1 = more-kept p M L form 0 1 refl kept-0 (c.if-not-has_shape.ensures.0 refl) in
    let kept-2 : KeepsFirst p M L form 2 = more-kept p M L form 1 2 refl kept-1 (c.in_ok-has_inverse.ensures.0 c.if-not-branch.false) in
    let kept-3 : KeepsFirst p M L form 3 = more-kept p M L form 2 3 refl kept-2 (c.in_ok-has_product.ensures.0 c.if-not-branch-2.false) in
    let kept-4 : KeepsFirst p M L form 4 = more-kept p M L form 3 4 refl kept-3 (c.in_ok-has_unit_columns.ensures.0 c.if-not-branch-3.false) in
    record {
      kept = tt;
      broken = next-broken p M L form 4 6 refl (omega arith) kept-4
          (λ h. absurd (differ c.if-not-branch-4.true (c.in_ok-has_matching.ensures.1 h)));
    }

pub returns-then-not-is_counted : goal.returns-then-not-is_counted
returns-then-not-is_counted g c =
    let p = g.F.Field.modulus in
    let M = mixed_matrix_of c.args.model.now in
    let L = layered_matrix_of c.args.layered.now in
    let form = c.args.form.now in
    let kept-0 : KeepsFirst p M L form 0 = none-kept p M L form in
    let kept-1 : KeepsFirst p M L form 1 = more-kept p M L form 0 1 refl kept-0 (c.if-not-has_shape.ensures.0 refl) in
    let kept-2 : KeepsFirst p M L form 2 = more-kept p M L form 1 2 refl kept-1 (c.in_ok-has_inverse.ensures.0 c.if-not-branch.false) in
    let kept-3 : KeepsFirst p M L form 3 = more-kept p M L form 2 3 refl kept-2 (c.in_ok-has_product.ensures.0 c.if-not-branch-2.false) in
    let kept-4 : KeepsFirst p M L form 4 = more-kept p M L form 3 4 refl kept-3 (c.in_ok-has_unit_columns.ensures.0 c.if-not-branch-3.false) in
    let kept-5 : KeepsFirst p M L form 5 = more-kept p M L form 4 5 refl kept-4 (c.in_ok-has_matching.ensures.0 c.if-not-branch-4.false) in
    record { kept = tt; broken = next-broken p M L form 5 7 refl (omega arith) kept-5 (λ h. absurd (differ refl (c.if-not-is_counted.ensures.1 h))) }

pub returns-in_default : goal.returns-in_default
returns-in_default g c =
    let p = g.F.Field.modulus in
    let M = mixed_matrix_of c.args.model.now in
    let L = layered_matrix_of c.args.layered.now in
    let form = c.args.form.now in
    let kept-0 : KeepsFirst p M L form 0 = none-kept p M L form in
    let kept-1 : KeepsFirst p M L form 1 = more-kept p M L form 0 1 refl kept-0 (c.if-not-has_shape.ensures.0 refl) in
    let kept-2 : KeepsFirst p M L form 2 = more-kept p M L form 1 2 refl kept-1 (c.in_ok-has_inverse.ensures.0 c.if-not-branch.false) in
    let kept-3 : KeepsFirst p M L form 3 = more-kept p M L form 2 3 refl kept-2 (c.in_ok-has_product.ensures.0 c.if-not-branch-2.false) in
    let kept-4 : KeepsFirst p M L form 4 = more-kept p M L form 3 4 refl kept-3 (c.in_ok-has_unit_columns.ensures.0 c.if-not-branch-3.false) in
    let kept-5 : KeepsFirst p M L form 5 = more-kept p M L form 4 5 refl kept-4 (c.in_ok-has_matching.ensures.0 c.if-not-branch-4.false) in
    let kept-6 : KeepsFirst p M L form 6 = more-kept p M L form 5 6 refl kept-5 (c.if-not-is_counted.ensures.0 refl) in
    let never : Not (StandsOnce L.columns (column_lists form)) =
    subst (λ found. MatchOption found (Not (StandsOnce L.columns (column_lists form)))
    (λ places. TellsPlaces L.columns (column_lists form) places.items)) c.in_default.is c.in_ok-columns.ensures in
    record { kept = tt; broken = next-broken p M L form 6 8 refl (omega arith) kept-6 never }

pub returns-then-not-branch-5 : goal.returns-then-not-branch-5
returns-then-not-branch-5 g c =
    let p = g.F.Field.modulus in
    let M = mixed_matrix_of c.args.model.now in
    let L = layered_matrix_of c.args.layered.now in
    let form = c.args.form.now in
    let kept-0 : KeepsFirst p M L form 0 = none-kept p M L form in
    let kept-1 : KeepsFirst p M L form 1 = more-kept p M L form 0 1 refl kept-0 (c.if-not-has_shape.ensures.0 refl) in
    let kept-2 : KeepsFirst p M L form 2 = more-kept p M L form 1 2 refl kept-1 (c.in_ok-has_inverse.ensures.0 c.if-not-branch.false) in
    let kept-3 : KeepsFirst p M L form 3 = more-kept p M L form 2 3 refl kept-2 (c.in_ok-has_product.ensures.0 c.if-not-branch-2.false) in
    let kept-4 : KeepsFirst p M L form 4 = more-kept p M L form 3 4 refl kept-3 (c.in_ok-has_unit_columns.ensures.0 c.if-not-branch-3.false) in
    let kept-5 : KeepsFirst p M L form 5 = more-kept p M L form 4 5 refl kept-4 (c.in_ok-has_matching.ensures.0 c.if-not-branch-4.false) in
    let kept-6 : KeepsFirst p M L form 6 = more-kept p M L form 5 6 refl kept-5 (c.if-not-is_counted.ensures.0 refl) in
    let told : TellsPlaces L.columns (column_lists form) c.in-Some.columns.items =
    subst (λ found. MatchOption found (Not (StandsOnce L.columns (column_lists form)))
    (λ places. TellsPlaces L.columns (column_lists form) places.items)) c.in-Some.is c.in_ok-columns.ensures in
    let kept-7 : KeepsFirst p M L form 7 = more-kept p M L form 6 7 refl kept-6 (told.once) in
    record {
      kept = tt;
      broken = next-broken p M L form 7 9 refl (omega arith) kept-7
          (λ h. absurd (differ c.if-not-branch-5.true (c.in_ok-has_placed_rows.ensures.1 h)));
    }

pub returns : goal.returns
returns g c =
    let p = g.F.Field.modulus in
    let M = mixed_matrix_of c.args.model.now in
    let L = layered_matrix_of c.args.layered.now in
    let form = c.args.form.now in
    let kept-0 : KeepsFirst p M L form 0 = none-kept p M L form in
    let kept-1 : KeepsFirst p M L form 1 = more-kept p M L form 0 1 refl kept-0 (c.if-not-has_shape.ensures.0 refl) in
    let kept-2 : KeepsFirst p M L form 2 = more-kept p M L form 1 2 refl kept-1 (c.in_ok-has_inverse.ensures.0 c.if-not-branch.false) in
    let kept-3 : KeepsFirst p M L form 3 = more-kept p M L form 2 3 refl kept-2 (c.in_ok-has_product.ensures.0 c.if-not-branch-2.false) in
    let kept-4 : KeepsFirst p M L form 4 = more-kept p M L form 3 4 refl kept-3 (c.in_ok-has_unit_columns.ensures.0 c.if-not-branch-3.false) in
    let kept-5 : KeepsFirst p M L form 5 = more-kept p M L form 4 5 refl kept-4 (c.in_ok-has_matching.ensures.0 c.if-not-branch-4.false) in
    let kept-6 : KeepsFirst p M L form 6 = more-kept p M L form 5 6 refl kept-5 (c.if-not-is_counted.ensures.0 refl) in
    let told : TellsPlaces L.columns (column_lists form) c.in-Some.columns.items =
    subst (λ found. MatchOption found (Not (StandsOnce L.columns (column_lists form)))
    (λ places. TellsPlaces L.columns (column_lists form) places.items)) c.in-Some.is c.in_ok-columns.ensures in
    let kept-7 : KeepsFirst p M L form 7 = more-kept p M L form 6 7 refl kept-6 (told.once) in
    let kept-8 : KeepsFirst p M L form 8 = more-kept p M L form 7 8 refl kept-7 (c.in_ok-has_placed_rows.ensures.0 c.if-not-branch-5.false) in
    record { kept = (kept-8, told); broken = tt }
