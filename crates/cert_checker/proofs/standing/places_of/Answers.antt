use Rattle.std.proofs.Common.{◌≡◌, ℕ, List, [], ◌+◌, ◌<◌, ap, refl, sym, subst, ◌∙◌, length, slice_index_or, arith}
use Rattle.std.specs.List.{All}
use Rattle.residue_theory.proofs.SetLaws.{differ}
use Rattle.cert_text.specs.Ranges.{AreRising}
use Rattle.cert_checker.specs.Standing.{AreSet, lists_in}
use Rattle.cert_checker.proofs.StandingLaws.{AreStanding, lists-rising, list-at, list-count, standing-put, once-unplaced, places-told, once-set}
use Rattle.cert_checker.proofs.WrittenBack.{written-back}
use Rattle.cert_checker.proofs.standing.places_of.Goals as goal

pub put-requires : goal.put-requires
put-requires g c =
    let k = c.loop-k.k in
    let form = c.args.form.now in
    let blocks : length c.as_slice.result.now ≡ length form.blocks = ap length (c.as_slice.ensures ∙ c.blocks-2.ensures.blocks) in
    let low : k < length form.blocks + 2 = omega (arith, c.loop-k-test.true, blocks) in
    let is : c.list_of-list.result.now ≡ slice_index_or (lists_in c.args.member form) k [] =
    list-at c.args.member form k c.part_at.result.now c.list_of-list.result.now low c.list_of-list.ensures c.part_at.ensures in
    let long : c.args.n ≡ length c.deref_mut.result.now = omega (arith, c.deref_mut.ensures.len, c.loop-k.invariant.count) in
    let rising = subst (λ n. All (AreRising n) (lists_in c.args.member form)) (sym c.requires)
    (lists-rising c.args.member g.F.Field.modulus form c.blocks-2.ensures.ccf) in
    subst (λ n. AreRising n c.list_of-list.result.now) long (subst (AreRising c.args.n) (sym is)
    (rising k [] (omega (arith, low, list-count c.args.member form))))

pub returns-then-not-put : goal.returns-then-not-put
returns-then-not-put g c =
    let k = c.loop-k.k in
    let form = c.args.form.now in
    let lists : List (List ℕ) = lists_in c.args.member form in
    let blocks : length c.as_slice.result.now ≡ length form.blocks = ap length (c.as_slice.ensures ∙ c.blocks-2.ensures.blocks) in
    let low : k < length form.blocks + 2 = omega (arith, c.loop-k-test.true, blocks) in
    let is : c.list_of-list.result.now ≡ slice_index_or lists k [] =
    list-at c.args.member form k c.part_at.result.now c.list_of-list.result.now low c.list_of-list.ensures c.part_at.ensures in
    let standing : AreStanding c.args.n lists k c.deref_mut.result.now = subst (AreStanding c.args.n lists k)
    (sym c.deref_mut.ensures.value) c.loop-k.invariant in
    λ once. differ refl (c.if-not-put.ensures.answer.1
    (once-unplaced c.args.n k lists c.deref_mut.result.now standing c.list_of-list.result.now is
    (omega (arith, low, list-count c.args.member form)) once))

pub loop-k-preserved : goal.loop-k-preserved
loop-k-preserved g c =
    let k = c.loop-k.k in
    let form = c.args.form.now in
    let lists : List (List ℕ) = lists_in c.args.member form in
    let blocks : length c.as_slice.result.now ≡ length form.blocks = ap length (c.as_slice.ensures ∙ c.blocks-2.ensures.blocks) in
    let low : k < length form.blocks + 2 = omega (arith, c.loop-k-test.true, blocks) in
    let is : c.list_of-list.result.now ≡ slice_index_or lists k [] =
    list-at c.args.member form k c.part_at.result.now c.list_of-list.result.now low c.list_of-list.ensures c.part_at.ensures in
    let standing : AreStanding c.args.n lists k c.deref_mut.result.now = subst (AreStanding c.args.n lists k)
    (sym c.deref_mut.ensures.value) c.loop-k.invariant in
    let next : AreStanding c.args.n lists (k + 1) c.put.new.places =
    standing-put c.args.n k lists c.deref_mut.result.now standing c.list_of-list.result.now is c.put.new.places
    (omega (arith, c.put.auto.places, c.deref_mut.ensures.len, c.loop-k.invariant.count))
    (c.if-not-put.ensures.answer.0 refl) (c.if-not-put.ensures.placed refl) in
    subst (AreStanding c.args.n lists (k + 1)) (sym (written-back c.loop-k.places.len c.put.new.places _
    (omega (arith, c.put.auto.places, c.deref_mut.ensures.len)))) next

pub returns-then-are_set : goal.returns-then-are_set
returns-then-are_set g c =
    let form = c.args.form.now in
    let lists : List (List ℕ) = lists_in c.args.member form in
    let blocks : length c.as_slice.result.now ≡ length form.blocks = ap length (c.as_slice.ensures ∙ c.blocks-2.ensures.blocks) in
    let end : c.loop-k.k ≡ length form.blocks + 2 = omega (arith, c.loop-k-test.false, c.loop-k.auto.k-end, blocks) in
    let standing : AreStanding c.args.n lists (length form.blocks + 2) c.loop-k.places.items =
    subst (λ m. AreStanding c.args.n lists m c.loop-k.places.items) end c.loop-k.invariant in
    let all : AreStanding c.args.n lists (length lists) c.loop-k.places.items =
    subst (λ m. AreStanding c.args.n lists m c.loop-k.places.items)
    (sym (list-count c.args.member form)) standing in
    places-told c.args.n lists c.loop-k.places.items all (subst AreSet c.deref.ensures.value (c.if-are_set.ensures.0 refl))

pub returns-else-are_set : goal.returns-else-are_set
returns-else-are_set g c =
    let form = c.args.form.now in
    let lists : List (List ℕ) = lists_in c.args.member form in
    let blocks : length c.as_slice.result.now ≡ length form.blocks = ap length (c.as_slice.ensures ∙ c.blocks-2.ensures.blocks) in
    let end : c.loop-k.k ≡ length form.blocks + 2 = omega (arith, c.loop-k-test.false, c.loop-k.auto.k-end, blocks) in
    let standing : AreStanding c.args.n lists (length form.blocks + 2) c.loop-k.places.items =
    subst (λ m. AreStanding c.args.n lists m c.loop-k.places.items) end c.loop-k.invariant in
    let all : AreStanding c.args.n lists (length lists) c.loop-k.places.items =
    subst (λ m. AreStanding c.args.n lists m c.loop-k.places.items)
    (sym (list-count c.args.member form)) standing in
    λ once. differ refl (c.if-are_set.ensures.1 (subst AreSet (sym c.deref.ensures.value) (once-set c.args.n lists c.loop-k.places.items all once)))
