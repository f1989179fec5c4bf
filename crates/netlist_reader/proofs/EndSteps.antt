-- The rules of a whole netlist, by lines.
use Rattle.std.proofs.Common.{◌≡◌, ℕ, zero, suc, ◌+◌, ◌-◌, ◌<◌, ◌≤◌, Bool, true, false, not, ◌&&◌, List, [], ◌∷◌}
use Rattle.std.proofs.Common.{◌++◌, length, map, get_or, position, Some, None, Ok, Err, inl, inr, refl, sym, ap}
use Rattle.std.proofs.Common.{subst, ◌∙◌, arith, length-append, add-zero}
use Rattle.std.specs.List.{list_all}
use Rattle.std.proofs.lemmas.Bool.{cases_lt}
use Rattle.std.proofs.lemmas.List.{get_or_append_left, get_or-append_right, get_or-append-add, get_or_default, get_or-map, length-map}
use Rattle.std.proofs.lemmas.List.Folds.{list_all-append, list_all_at}
use Rattle.std.proofs.lemmas.List.Sums.{fails_before_first, list_all-from_AllPass}
use Rattle.std.proofs.lemmas.List.Quantifiers.{position-Some}
use Rattle.refusals.specs.declared.Why.TheVariants.{NoGround, NoSuchSource}
use Rattle.refusals.specs.declared.Place.TheVariants.{Line}
use Rattle.refusals.specs.declared.Refused.{Refused as Refusal}
use Rattle.refusals.specs.declared.ReadModel.{ReadModel}
use Rattle.refusals.specs.declared.ReadModel.TheVariants.{Refused, NoMemory}
use Rattle.line_lexer.proofs.PlaceLaws.{position_or_len-None}
use Rattle.line_reader.specs.LineRules.{KeepsAll, IsRefusal as IsLineRefusal}
use Rattle.mixed_model.specs.Models.{MixedModel}
use Rattle.netlist_devices.specs.declared.kind.DeviceKind.TheVariants.{Passive}
use Rattle.netlist_devices.specs.Devices.{Device, device_in, devices_in}
use Rattle.netlist_devices.specs.Rules.{ground_rule, device_rules}
use Rattle.netlist_reader.specs.Models.{GivesModel, IsFirstUnsourced, IsModelOf, IsRefusal, lines_in}
use Rattle.netlist_devices.specs.Circuits.{AreSourced, HasRead, CircuitParts, device_lines}
use Rattle.netlist_devices.specs.ReaderStates.{TestsCircuit, first_unsourced, keeps_source}
use Rattle.netlist_devices.proofs.DeviceSteps.{unless_false, unless_true}

-- The first of some devices that fails a test.
record IsFirst (test : Device → Bool) (devices : List Device) (k : ℕ) (d : Device) : Type 0 where
  pub within : k < length devices
  pub here : test (get_or devices k d) ≡ false
  pub before : (i : ℕ) → i < k → test (get_or devices i d) ≡ true

-- The line of the first device that fails a test, by what its lines give.
record IsFirstLine (p first : ℕ) (test : Device → Bool) (lines : List (List (List ℕ))) (number : ℕ) : Type 0 where
  pub n : ℕ
  pub within : n < length lines
  pub numbered : number ≡ first + n
  pub here : list_all test (device_in p (get_or lines n [])) ≡ false
  pub before : (m : ℕ) → m < n → list_all test (device_in p (get_or lines m [])) ≡ true

-- devices before the first that fails all pass
all_before : (test : Device → Bool) (devices more : List Device) (k : ℕ) (d : Device) → length devices ≤ k →
    IsFirst test (devices ++ more) k d → list_all test devices ≡ true
all_before test devices more k d long first = list_all-from_AllPass test devices (λ i e at.
    ap test (get_or_default devices i e d at ∙ sym (get_or_append_left devices more d i at)) ∙ first.before i (omega arith))

-- the first that fails behind them
first_behind : (test : Device → Bool) (devices more : List Device) (k : ℕ) (d : Device) → length devices ≤ k →
    IsFirst test (devices ++ more) k d → IsFirst test more (k - length devices) d
first_behind test devices more k d long first = record {
  within = omega (arith, first.within, long, length-append devices more);
  here = ap test (sym (get_or-append_right devices more (length devices) k d refl long)) ∙ first.here;
  before = λ i at. ap test (sym (get_or-append-add devices more i d)) ∙ first.before (length devices + i) (omega (arith, at, long));
}

-- the line of the first device that fails, where a line before those is one whose devices pass
line_behind : (p first : ℕ) (test : Device → Bool) (words : List (List ℕ)) (lines : List (List (List ℕ)))
    (number other : ℕ) → list_all test (device_in p words) ≡ true → number ≡ other →
    IsFirstLine p (first + 1) test lines other → IsFirstLine p first test (words ∷ lines) number
line_behind p first test words lines number other pass same next = record {
  n = suc next.n;
  within = omega (arith, next.within);
  numbered = omega (arith, same, next.numbered);
  here = next.here;
  before = behind;
}
  where
    behind : (m : ℕ) → m < suc next.n → list_all test (device_in p (get_or (words ∷ lines) m [])) ≡ true
    behind zero at = pass
    behind (suc m) at = next.before m (omega arith)

first_line : (p first : ℕ) (test : Device → Bool) (lines : List (List (List ℕ))) (k : ℕ) (d : Device) →
    IsFirst test (devices_in p lines) k d → IsFirstLine p first test lines (get_or (device_lines p first lines) k 0)
first_line p first test [] k d is = absurd (omega (arith, is.within))
first_line p first test (words ∷ lines) k d is =
    let here = device_in p words in
    let more = devices_in p lines in
    let numbers = map (λ (device : Device). first) here in
    let count = length-map here (λ (device : Device). first) in
    elim (cases_lt k (length here)) [
      | inl at ↦ record {
        n = 0;
        within = omega arith;
        numbered = get_or_append_left numbers (device_lines p (first + 1) lines) 0 k (omega (arith, at, count))
            ∙ get_or-map (λ (device : Device). first) here k d 0 at ∙ sym (add-zero first);
        here = list_all_at test here k d at (ap test (sym (get_or_append_left here more d k at)) ∙ is.here);
        before = λ m low. absurd (omega arith);
      }
      | inr long ↦ line_behind p first test words lines (get_or (device_lines p first (words ∷ lines)) k 0)
          (get_or (device_lines p (first + 1) lines) (k - length here) 0)
          (all_before test here more k d long is)
          (get_or-append_right numbers (device_lines p (first + 1) lines) (length here) k 0 count long)
          (first_line p (first + 1) test lines (k - length here) d (first_behind test here more k d long is))
    ]

true_of : (b : Bool) → not b ≡ false → b ≡ true
true_of true e = refl
true_of false e = absurd cc

false_of : (b : Bool) → not b ≡ true → b ≡ false
false_of false e = refl
false_of true e = absurd cc

-- the place of the first that fails, or none
is_first : (test : Device → Bool) (devices : List Device) (k : ℕ) (d : Device) →
    position (λ device. not (test device)) devices ≡ Some k → IsFirst test devices k d
is_first test devices k d found =
    let first = position-Some (λ device. not (test device)) devices k d found in
    record { within = first.0; here = false_of (test (get_or devices k d)) first.1; before = λ i at. true_of (test (get_or devices i d)) (first.2 i at) }

none_fails : (test : Device → Bool) (devices : List Device) → position (λ device. not (test device)) devices ≡ None → list_all test devices ≡ true
none_fails test devices none =
    let whole = position_or_len-None (λ device. not (test device)) devices none in
    list_all-from_AllPass test devices (λ i d at. true_of (test (get_or devices i d))
    (fails_before_first (λ device. not (test device)) devices i d (omega (arith, whole, at))))

-- where all devices pass, those of each line do
both_left : (a b : Bool) → (a && b) ≡ true → a ≡ true
both_left true b e = refl
both_left false b e = absurd cc

both_right : (a b : Bool) → (a && b) ≡ true → b ≡ true
both_right true b e = e
both_right false b e = absurd cc

each_line : (p : ℕ) (test : Device → Bool) (lines : List (List (List ℕ))) → list_all test (devices_in p lines) ≡ true →
    (m : ℕ) → m < length lines → list_all test (device_in p (get_or lines m [])) ≡ true
each_line p test [] all m at = absurd (omega arith)
each_line p test (words ∷ lines) all zero at =
    both_left (list_all test (device_in p words)) (list_all test (devices_in p lines))
    (sym (list_all-append test (device_in p words) (devices_in p lines)) ∙ all)
each_line p test (words ∷ lines) all (suc m) at =
    each_line p test lines (both_right (list_all test (device_in p words)) (list_all test (devices_in p lines))
    (sym (list_all-append test (device_in p words) (devices_in p lines)) ∙ all)) m (omega arith)

-- a circuit of which each source is a V device
pub sourced : (devices : List Device) → first_unsourced devices ≡ None → AreSourced devices
sourced devices none = unless_true (list_all (keeps_source devices) devices) NoSuchSource (none_fails (keeps_source devices) devices none)

-- A text of which all rules are kept gives the model of its circuit.
pub gives : (p : ℕ) (text : List ℕ) (parts : CircuitParts) (model : MixedModel) → KeepsAll (device_rules p) text →
    HasRead p parts (lines_in p text) → TestsCircuit parts (Ok tt) → IsModelOf p parts.devices model →
    GivesModel p text model
gives p text parts model kept has tests given = record {
  kept = kept;
  grounded = ap ground_rule (sym has.devices) ∙ tests.0;
  sources = λ m at. unless_true (list_all (keeps_source (devices_in p (lines_in p text))) (device_in p (get_or (lines_in p text) m []))) NoSuchSource
      (each_line p (keeps_source (devices_in p (lines_in p text))) (lines_in p text)
      (subst (λ devices. list_all (keeps_source devices) devices ≡ true) has.devices (none_fails (keeps_source parts.devices) parts.devices tests.1)) m at);
  given = subst (λ devices. IsModelOf p devices model) has.devices given;
}

-- the line whose source is none
no_source : (p : ℕ) (lines : List (List (List ℕ))) (number : ℕ) →
    IsFirstLine p 1 (keeps_source (devices_in p lines)) lines number → (n : ℕ) × (number ≡ n + 1)
    × IsFirstUnsourced p lines n NoSuchSource
no_source p lines number first = (
  first.n,
  omega (arith, first.numbered),
  record {
    within = first.within;
    before = λ m at. unless_true (list_all (keeps_source (devices_in p lines)) (device_in p (get_or lines m []))) NoSuchSource (first.before m at);
    here = unless_false (list_all (keeps_source (devices_in p lines)) (device_in p (get_or lines first.n []))) NoSuchSource first.here;
  },
)

-- Or it is refused as a whole, or at a line whose source is none.
pub refused-whole : (p : ℕ) (text : List ℕ) (parts : CircuitParts) (refused : Refusal) → KeepsAll (device_rules p) text →
    HasRead p parts (lines_in p text) → TestsCircuit parts (Err refused) → IsRefusal p text (Refused refused)
refused-whole p text parts refused kept has (inl (same, ground)) =
    inr (inl (NoGround, same, kept, ap ground_rule (sym has.devices) ∙ ground))
refused-whole p text parts refused kept has (inr (ground, (k, found, same))) =
    let lines = lines_in p text in
    let devices = devices_in p lines in
    let d : Device = record { kind = Passive; name = []; nodes = []; source = []; number = 0 } in
    let first = is_first (keeps_source devices) devices k d (subst (λ devices. first_unsourced devices ≡ Some k) has.devices found) in
    let line = no_source p lines (get_or (device_lines p 1 lines) k 0) (first_line p 1 (keeps_source devices) lines k d first) in
    let number : get_or parts.lines k 0 ≡ line.0 + 1 = ap (λ numbers. get_or numbers k 0) has.lines ∙ line.1 in
    inr (inr (
      line.0,
      NoSuchSource,
      same ∙ ap (λ n. record {
        place = Line n;
        why =
            NoSuchSource;
      }) number,
      kept,
      ap ground_rule (sym has.devices) ∙ ground,
      line.2,
    ))

-- Or at the first line that breaks a rule of lines.
pub refused-line : (p : ℕ) (text : List ℕ) (why : ReadModel) → IsLineRefusal (device_rules p) text why → IsRefusal p text why
refused-line p text (Refused refused) is = inl is
refused-line p text NoMemory is = tt
