-- A name that is seen among some: it is found there, or put last.
use Rattle.std.proofs.Common.{◌≡◌, ◌≢◌, ◌<◌, ◌≤◌, ◌||◌, ◌∙◌, ◌∷◌, ◌++◌, ℕ, Bool, true, false, cond}
use Rattle.std.proofs.Common.{Option, Some, None, Ok, Err, List, [], length, position, get_or, ltb, ltb-true, lt-ltb, refl, sym, ap, subst, arith}
use Rattle.std.proofs.lemmas.List.{get_or_append_left, get_or_push, length_push}
use Rattle.std.specs.Str.{bytes_eq}
use Rattle.refusals.specs.declared.Why.{Why}
use Rattle.refusals.specs.declared.Why.TheVariants.{TooMany as IsFull}
use Rattle.refusals.specs.declared.fault.Fault.TheVariants.{Broken}
use Rattle.mixed_model.specs.declared.errors.AddError.{AddError}
use Rattle.mixed_model.specs.declared.errors.AddError.TheVariants.{TooMany}
use Rattle.mixed_model.specs.Faults.{fault_of}
use Rattle.mixed_model.specs.Names.{has_name, place_or_end, see, seeing}
use Rattle.mixed_model.proofs.NameLaws.{has_name-None, has_name-Some, see-new, see-there}
use Rattle.matrix_reader.specs.Rules.{room_rule}

-- it is name j then
pub record IsSeen (names : List (List ℕ)) (name : List ℕ) (j : ℕ) : Type 0 where
  pub within : j < length (see names name)
  pub place : get_or (see names name) j [] ≡ name
  pub room : (has_name names name || ltb (length names) 4096) ≡ true
  pub known : j < length names → get_or names j [] ≡ name
  pub absent : length names ≤ j → has_name names name ≡ false
  pub stays : (k : ℕ) → k < length names → get_or (see names name) k [] ≡ get_or names k []
  pub below : (k : ℕ) → k < length (see names name) → k ≢ j → k < length names
  pub more : length names ≤ length (see names name)

seen_known : (names : List (List ℕ)) (name : List ℕ) (j : ℕ) → position (bytes_eq name) names ≡ Some j → IsSeen names name j
seen_known names name j found =
    let at = has_name-Some names name j found in
    let same : see names name ≡ names = see-there names name at.2 in
    let count = ap (λ (all : List (List ℕ)). length all) same in
    record {
      within = omega (arith, count, at.0);
      place = ap (λ all. get_or all j []) same ∙ at.1;
      room = rw at.2 refl;
      known = λ below. at.1;
      absent = λ past. absurd (omega (arith, at.0, past));
      stays = λ k below. ap (λ all. get_or all k []) same;
      below = λ k within other. omega (arith, count, within);
      more = omega (arith, count);
    }

seen_last : (names : List (List ℕ)) (name : List ℕ) → has_name names name ≡ false → length names < 4096 → IsSeen names name (length names)
seen_last names name absent room =
    let pushed : see names name ≡ names ++ name ∷ [] = see-new names name absent in
    let count = ap (λ (all : List (List ℕ)). length all) pushed in
    let one = length_push names name in
    record {
      within = omega (arith, count, one);
      place = ap (λ all. get_or all (length names) []) pushed ∙ get_or_push names name [] (length names) refl;
      room = rw (absent, lt-ltb (length names) 4096 room) refl;
      known = λ below. absurd (omega (arith, below));
      absent = λ past. absent;
      stays = λ k below. ap (λ all. get_or all k []) pushed ∙ get_or_append_left names (name ∷ []) [] k below;
      below = λ k within other. omega (arith, count, one, within, other);
      more = omega (arith, count, one);
    }

pub IsSeen-from : (names : List (List ℕ)) (name : List ℕ) (j : ℕ) → seeing names name ≡ Ok j → IsSeen names name j
IsSeen-from names name j answer = by (position (bytes_eq name) names) refl answer
  where
    last : (b : Bool) → ltb (length names) 4096 ≡ b → has_name names name ≡ false → cond b (Ok (length names)) (Err TooMany) ≡ Ok j →
        IsSeen names name j
    last true room absent e =
        let same : length names ≡ j = cc in
        subst (IsSeen names name) same (seen_last names name absent (ltb-true (length names) 4096 room))
    last false room absent e = let f : ⊥ = cc in absurd f

    by : (o : Option ℕ) → position (bytes_eq name) names ≡ o → place_or_end names o ≡ Ok j → IsSeen names name j
    by (Some k) e a =
        let same : k ≡ j = cc in
        subst (IsSeen names name) same (seen_known names name k e)
    by None e a = last (ltb (length names) 4096) refl (has_name-None names name e) a

pub seen_below : (names : List (List ℕ)) (name : List ℕ) (j : ℕ) → seeing names name ≡ Ok j → j < length (see names name)
seen_below names name j answer = let seen = IsSeen-from names name j answer in seen.within

-- why one is not seen
pub unseen : (names : List (List ℕ)) (name : List ℕ) (error : AddError) → seeing names name ≡ Err error →
    (error ≡ TooMany) × (has_name names name ≡ false) × (ltb (length names) 4096 ≡ false)
unseen names name error answer = by (position (bytes_eq name) names) refl answer
  where
    last : (b : Bool) → ltb (length names) 4096 ≡ b → has_name names name ≡ false → cond b (Ok (length names)) (Err TooMany) ≡ Err error →
        (error ≡ TooMany) × (has_name names name ≡ false) × (ltb (length names) 4096 ≡ false)
    last true room absent e = let f : ⊥ = cc in absurd f
    last false room absent e = let same : TooMany ≡ error = cc in (sym same, absent, room)

    by : (o : Option ℕ) → position (bytes_eq name) names ≡ o → place_or_end names o ≡ Err error →
        (error ≡ TooMany) × (has_name names name ≡ false) × (ltb (length names) 4096 ≡ false)
    by (Some k) e a = let f : ⊥ = cc in absurd f
    by None e a = last (ltb (length names) 4096) refl (has_name-None names name e) a

pub no_room : (names : List (List ℕ)) (name : List ℕ) (error : AddError) (why : Why) → seeing names name ≡ Err error →
    fault_of error ≡ Broken why → room_rule names name ≡ Some why
no_room names name error why answer told =
    let no = unseen names name error answer in
    let said : Broken IsFull ≡ Broken why = sym (ap fault_of no.0) ∙ told in
    let full : IsFull ≡ why = cc in
    rw (no.1, no.2) (ap (λ (w : Why). Some w) full)
