use Rattle.std.proofs.Common.{◌≡◌, ◌∙◌, true, ℕ, ◌+◌, ◌-◌, ◌<◌, List, Vec, Global, cond, Some, get_or, length, map, refl, sym, subst, arith}
use Rattle.std.proofs.lemmas.List.{get_or_default, length-map}
use Rattle.sparse_t.proofs.ListLaws.{has-at}
use Rattle.residue_theory.specs.Sets.{has}
use Rattle.equation_choice.specs.ConflictLists.{set_at}
use Rattle.equation_choice.specs.Places.{place_at}
use Rattle.equation_choice.proofs.FirstSets.{TellsFrom, tells-all, tells-more, tells-none}
use Rattle.equation_choice.proofs.Refused.{set-given}
use Rattle.equation_choice.proofs.first_sets.put_sets.Goals as goal

abbrev lists : List (Vec ℕ Global) → List (List ℕ)
lists sets = map (λ (set : Vec ℕ Global). set.items) sets

count : (sets : List (Vec ℕ Global)) → length (lists sets) ≡ length sets
count sets = length-map sets (λ (set : Vec ℕ Global). set.items)

pub put_set-requires : goal.put_set-requires
put_set-requires c j d jl =
    let k : ℕ = c.loop-k.k - 1 in
    let less : k < length c.args.sets.now = omega (arith, c.loop-k-test.true, c.loop-k.auto.k) in
    let is : set_at (lists c.args.sets.now) k ≡ c.deref.result.now =
    set-given c.args.sets.now (lists c.args.sets.now) refl c.args.sets.now refl k less c.index-sets-k.result c.index-sets-k.is
    ∙ sym c.deref.ensures.value in
    let x : ℕ = get_or c.deref.result.now j d in
    let low : x < length c.args.first.now = c.requires.below k x (omega (arith, less, count c.args.sets.now))
    (subst (λ xs. has xs x ≡ true) (sym is) (has-at c.deref.result.now j x jl (get_or_default c.deref.result.now j 0 d jl))) in
    omega (arith, low, c.loop-k.invariant.count)

pub loop-k-init : goal.loop-k-init
loop-k-init c = record {
  count = refl;
  tells = tells-none (lists c.args.sets.now) (length c.args.sets.now) c.args.first.now (omega (arith, count c.args.sets.now)) c.requires.none;
}

pub loop-k-preserved : goal.loop-k-preserved
loop-k-preserved c =
    let sets = lists c.args.sets.now in
    let k : ℕ = c.loop-k.k - 1 in
    let less : k < length c.args.sets.now = omega (arith, c.loop-k-test.true, c.loop-k.auto.k) in
    let back : c.loop-k.k ≡ k + 1 = omega (arith, c.loop-k-test.true) in
    let is : c.deref.result.now ≡ set_at sets k =
    c.deref.ensures.value ∙ sym (set-given c.args.sets.now sets refl c.args.sets.now refl k less c.index-sets-k.result c.index-sets-k.is) in
    record {
      count = c.put_set.ensures.count ∙ c.loop-k.invariant.count;
      tells = tells-more sets k (omega (arith, less, count c.args.sets.now)) c.loop-k.first c.put_set.new.first
          (subst (λ n. TellsFrom sets n c.loop-k.first) back c.loop-k.invariant.tells)
          (λ e. subst (λ xs. place_at c.put_set.new.first e ≡ cond (has xs e) (Some k) (place_at c.loop-k.first e)) is (c.put_set.ensures.first e));
    }

pub returns : goal.returns
returns c = tells-all (lists c.args.sets.now) c.loop-k.first
    (subst (λ n. TellsFrom (lists c.args.sets.now) n c.loop-k.first) (omega (arith, c.loop-k-test.false)) c.loop-k.invariant.tells)
