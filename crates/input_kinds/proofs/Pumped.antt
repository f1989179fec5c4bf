-- What is known between two pieces of an input.
use Rattle.std.proofs.Common.{◌≡◌, ℕ, ◌+◌, ◌-◌, ◌≤◌, List, ◌++◌, length, Bool, true, false, ◌<◌, refl, ap, arith}
use Rattle.std.proofs.Common.{Option, Some, None, Result, Ok, Err, sym, ◌∙◌, subst}
use Rattle.std.proofs.lemmas.List.{length-append}
use Rattle.std.specs.Io.KnownBytes.{Keeps}
use Rattle.limits.specs.Limits.{input_limit}
use Rattle.port_io.specs.Asking.{AsksWithin}
use Rattle.port_io.specs.Bytes.{Took, TookExactly}
use Rattle.port_io.specs.Pumping.{Pumping}
use Rattle.port_io.specs.declared.ports.Source.{Ghosts}
use Rattle.port_io.specs.declared.reading.ReadError.{ReadError}
use Rattle.port_io.specs.declared.reading.ReadError.TheVariants.{ReadFault as Failed, TooLong as Longer, NoMemory as Wanting}
use Rattle.port_io.proofs.Askings.{asks_on}
use Rattle.port_io.proofs.Chains.{took_at_most, took_exactly, took_more}
use Rattle.cert_text.specs.declared.kind.Kind.{Kind}
use Rattle.input_kinds.specs.Refusals.{IsRefusedAs}
use Rattle.run_ends.specs.Reading.{IsUnread}
use Rattle.run_ends.specs.Statuses.{status_of_error}
use Rattle.run_ends.specs.declared.status.Status.TheVariants.{Memory}

-- a text was taken so far, by a pump that has not ended, and this holds of it
pub record HasPumped {S : Type 0} (K : Ghosts S) (first source : S) (pump : Pumping) (Holds : List ℕ → Type 0) : Type 0 where
  pub text : List ℕ
  pub limit : pump.limit ≡ input_limit
  pub unended : pump.ended ≡ false
  pub taken : pump.taken ≡ length text
  pub room : length text ≤ input_limit
  pub so_far : Took (K.left first) (K.left source) text
  pub holds : Holds text
  pub no_fault : K.faults source ≡ K.faults first
  pub steady : K.never_fails first → K.never_fails source
  pub asked : AsksWithin 65536 (input_limit + 1) (K.asked first) (K.asked source)
  pub unmet : (K.asked source).ends ≡ (K.asked first).ends
  pub told : (K.asked source).taken ≤ (K.asked first).taken + length text

-- where some bytes came the input has not ended
pub unended : (ended : Bool) (count : ℕ) → (ended ≡ true → count ≡ 0) → 0 < count → ended ≡ false
unended false count end some = refl
unended true count end some = absurd (omega (arith, end refl, some))

count_of : {E : Type 0} → Result ℕ E → ℕ
count_of (Ok count) = count
count_of (Err why) = 0

pub unended-result : {E : Type 0} {result : Result ℕ E} {count : ℕ} → result ≡ Ok count → 0 < count → result ≡ Ok 0 → ⊥
unfolding count_of
unended-result {E} {result} {count} is some none =
    let told : count_of result ≡ count = ap count_of is in
    let empty : count_of result ≡ 0 = ap count_of none in
    omega (arith, told, empty, some)

took_kept : (a b c : Option (List ℕ)) (text : List ℕ) → Took a b text → Keeps b c → Took a c text
took_kept None b c text took kept = tt
took_kept (Some a) None c text took kept = absurd took
took_kept (Some a) (Some b) None text took kept = absurd kept
took_kept (Some a) (Some b) (Some c) text took kept = took ∙ ap_rest text (sym kept)
  where
    ap_rest : (front : List ℕ) {x y : List ℕ} → x ≡ y → front ++ x ≡ front ++ y
    ap_rest front same = ap (λ rest. front ++ rest) same

module _ {S : Type 0} (K : Ghosts S) (first old new : S) (before after : Pumping) (Holds : List ℕ → Type 0) (has : HasPumped K first old before Holds) where
  -- why no piece came
  pub unread_by_error : (p : ℕ) (kind : Kind) (result : Result ℕ ReadError) (why : ReadError) → result ≡ Err why →
      (result ≡ Err Longer → after.taken ≡ before.limit + 1) →
      (result ≡ Err Longer → TookExactly (after.taken - before.taken) (K.left old) (K.left new)) →
      (result ≡ Err Failed → Keeps (K.left old) (K.left new)) → (result ≡ Err Wanting → ⊥) →
      IsUnread input_limit (IsRefusedAs p kind) (status_of_error input_limit why) (K.left first) (K.left new)
  unread_by_error p kind result Failed is all more kept memory =
      (has.text, has.room, took_kept (K.left first) (K.left old) (K.left new) has.text has.so_far (kept is))
  unread_by_error p kind result Longer is all more kept memory =
      let count : length has.text + (after.taken - before.taken) ≡ input_limit + 1 =
      omega (arith, has.limit, has.taken, has.room, all is) in (
        refl,
        subst
            (λ n. TookExactly n (K.left first) (K.left new))
            count
            (took_exactly (K.left first) (K.left old) (K.left new) has.text (after.taken - before.taken) has.so_far (more is)),
      )
  unread_by_error p kind result Wanting is all more kept memory = absurd (memory is)

  module _ (took : Took (K.left old) (K.left new) after.piece)
      (counted : after.taken ≡ before.taken + length after.piece) (within : after.taken ≤ before.limit) where
    few : length has.text + length after.piece ≤ input_limit
    few = omega (arith, has.limit, has.taken, counted, within)

    -- there is no memory for a piece
    pub unread_for_memory : (p : ℕ) (kind : Kind) → IsUnread input_limit (IsRefusedAs p kind) Memory (K.left first) (K.left new)
    unread_for_memory p kind =
        took_at_most (K.left first) (K.left old) (K.left new) has.text after.piece input_limit has.so_far took few

    -- a piece more
    pub pumped_more : (Next : List ℕ → Type 0) → (length (has.text ++ after.piece) ≤ input_limit → Next (has.text ++ after.piece)) →
        after.limit ≡ before.limit → after.ended ≡ false → K.faults new ≡ K.faults old → (K.never_fails old → K.never_fails new) →
        AsksWithin 65536 (before.limit + 1 - before.taken) (K.asked old) (K.asked new) →
        (K.asked new).ends ≡ (K.asked old).ends →
        (K.asked new).taken ≤ (K.asked old).taken + length after.piece → HasPumped K first new after Next
    pumped_more Next next limit unended no_fault steady asked unmet told =
        let long = length-append has.text after.piece in
        let left : before.limit + 1 - before.taken ≡ input_limit + 1 - length has.text = omega (arith, has.limit, has.taken) in
        record {
          text = has.text ++ after.piece;
          limit = limit ∙ has.limit;
          unended = unended;
          taken = omega (arith, long, counted, has.taken);
          room = omega (arith, long, few);
          so_far = took_more (K.left first) (K.left old) (K.left new) has.text after.piece has.so_far took;
          holds = next (omega (arith, long, few));
          no_fault = no_fault ∙ has.no_fault;
          steady = λ h. steady (has.steady h);
          asked = asks_on 65536 (input_limit + 1) (length has.text) (K.asked first) (K.asked old) (K.asked new) has.asked has.told (omega (arith, has.room))
              (subst (λ n. AsksWithin 65536 n (K.asked old) (K.asked new)) left asked);
          unmet = unmet ∙ has.unmet;
          told = omega (arith, long, has.told, told);
        }
