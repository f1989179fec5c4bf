-- The rules of a device by itself, one by one.
use Rattle.std.proofs.Common.{◌≡◌, ℕ, ◌+◌, ◌-◌, ◌<◌, ◌≤◌, Bool, true, false, ◌&&◌, List, [], Bor, All, length, take}
use Rattle.std.proofs.Common.{drop, length-drop, subst, leb-true, if◌then◌else◌, get_or, refl, sym, ap, ◌∙◌, arith}
use Rattle.std.proofs.Common.{Some, None, nat_eq, nat_le}
use Rattle.std.specs.List.{list_all, drop-map}
use Rattle.std.specs.Option.{option_or}
use Rattle.std.proofs.lemmas.List.{take-map, length-map, length-take-le}
use Rattle.std.proofs.lemmas.Bool.{eqb-true}
use Rattle.std.proofs.lemmas.List.Sums.{AllPass-from_list_all}
use Rattle.refusals.specs.declared.Why.{Why}
use Rattle.refusals.specs.declared.Why.TheVariants.{BadShape, BadName}
use Rattle.line_lexer.specs.Names.{is_name, is_node}
use Rattle.line_reader.proofs.Rules.{first_broken, first_kept}
use Rattle.netlist_devices.specs.declared.kind.DeviceKind.{DeviceKind}
use Rattle.netlist_devices.specs.Devices.{Device, device_of, has_source, is_directive, nodes_wanted, word_after_nodes, words_wanted}
use Rattle.netlist_devices.specs.Rules.{name_rule, number_rule, shape_rule, unless}
use Rattle.netlist_devices.specs.Circuits.{IsDevice}
use Rattle.netlist_devices.specs.ReaderStates.{keeps_source_name, own_rule}
use Rattle.netlist_devices.proofs.WordSteps.{bytes_of}

-- a rule that is broken or kept by its test
pub unless_false : (b : Bool) (why : Why) → b ≡ false → unless b why ≡ Some why
unless_false b why e = rw e refl

pub unless_true : (b : Bool) (why : Why) → b ≡ true → unless b why ≡ None
unless_true b why e = rw e refl

-- one of three tests fails, or none
first_fails : (a b c : Bool) → a ≡ false → (a && b && c) ≡ false
first_fails a b c e = rw e refl

second_fails : (a b c : Bool) → a ≡ true → b ≡ false → (a && b && c) ≡ false
second_fails a b c e f = rw (e, f) refl

third_fails : (a b c : Bool) → a ≡ true → b ≡ true → c ≡ false → (a && b && c) ≡ false
third_fails a b c e f g = rw (e, f, g) refl

none_fails : (a b c : Bool) → a ≡ true → b ≡ true → c ≡ true → (a && b && c) ≡ true
none_fails a b c e f g = rw (e, f, g) refl

-- the tests of a device's names
abbrev pub name_good : List (List ℕ) → Bool
name_good words = is_name (get_or words 0 [])

abbrev pub nodes_good : DeviceKind → List (List ℕ) → Bool
nodes_good kind words = list_all is_node (take (nodes_wanted kind) (drop 1 words))

abbrev pub source_good : DeviceKind → List (List ℕ) → Bool
source_good kind words = keeps_source_name kind (if has_source kind then word_after_nodes kind words else [])

bad_name : (p : ℕ) (kind : DeviceKind) (words : List (List ℕ)) → shape_rule kind words ≡ None →
    (name_good words && nodes_good kind words && source_good kind words) ≡ false →
    own_rule p kind words ≡ Some BadName
bad_name p kind words shape bad =
    first_kept (shape_rule kind words) (option_or (name_rule (device_of p kind words)) (number_rule p kind (word_after_nodes kind words))) shape
    ∙ first_broken (name_rule (device_of p kind words)) (number_rule p kind (word_after_nodes kind words)) BadName
    (unless_false (name_good words && nodes_good kind words && source_good kind words) BadName bad)

pub bad_first : (p : ℕ) (kind : DeviceKind) (words : List (List ℕ)) → shape_rule kind words ≡ None →
    name_good words ≡ false → own_rule p kind words ≡ Some BadName
bad_first p kind words shape bad = bad_name p kind words shape (first_fails (name_good words) (nodes_good kind words) (source_good kind words) bad)

pub bad_node : (p : ℕ) (kind : DeviceKind) (words : List (List ℕ)) → shape_rule kind words ≡ None →
    name_good words ≡ true → nodes_good kind words ≡ false → own_rule p kind words ≡ Some BadName
bad_node p kind words shape good bad = bad_name p kind words shape (second_fails (name_good words) (nodes_good kind words) (source_good kind words) good bad)

pub bad_source : (p : ℕ) (kind : DeviceKind) (words : List (List ℕ)) → shape_rule kind words ≡ None →
    name_good words ≡ true → nodes_good kind words ≡ true → source_good kind words ≡ false →
    own_rule p kind words ≡ Some BadName
bad_source p kind words shape good nodes bad = bad_name p kind words shape
    (third_fails (name_good words) (nodes_good kind words) (source_good kind words) good nodes bad)

-- with good names the rule of the number is left
pub number_left : (p : ℕ) (kind : DeviceKind) (words : List (List ℕ)) → shape_rule kind words ≡ None →
    name_good words ≡ true → nodes_good kind words ≡ true → source_good kind words ≡ true →
    own_rule p kind words ≡ number_rule p kind (word_after_nodes kind words)
number_left p kind words shape good nodes source =
    first_kept (shape_rule kind words) (option_or (name_rule (device_of p kind words)) (number_rule p kind (word_after_nodes kind words))) shape
    ∙ first_kept (name_rule (device_of p kind words)) (number_rule p kind (word_after_nodes kind words))
    (unless_true (name_good words && nodes_good kind words && source_good kind words) BadName
    (none_fails (name_good words) (nodes_good kind words) (source_good kind words) good nodes source))

-- the words of some texts, and the nodes among them
pub nodes_taken : (texts : List (Bor (List ℕ))) (m n : ℕ) → m ≡ n → bytes_of (take (1 + m - 1) (drop 1 texts)) ≡ take n (drop 1 (bytes_of texts))
nodes_taken texts m n same =
    let count : 1 + m - 1 ≡ n = omega (arith, same) in
    ap (λ k. bytes_of (take k (drop 1 texts))) count ∙ sym (take-map (λ (text : Bor (List ℕ)). text.now) n (drop 1 texts))
    ∙ ap (take n) (sym (drop-map (λ (text : Bor (List ℕ)). text.now) 1 texts))

-- words of the right number keep the rule of shape
pub shape_kept : (kind : DeviceKind) (texts : List (Bor (List ℕ))) →
    true ≡ (if is_directive kind then nat_eq (length texts) (words_wanted kind) else nat_le (words_wanted kind)
    (length texts)) → shape_rule kind (bytes_of texts) ≡ None
shape_kept kind texts fits =
    ap (λ n. unless (if is_directive kind then nat_eq n (words_wanted kind) else nat_le
    (words_wanted kind) n) BadShape) (length-map texts (λ (text : Bor (List ℕ)). text.now))
    ∙ unless_true (if is_directive kind then nat_eq (length texts) (words_wanted kind) else nat_le (words_wanted kind) (length texts)) BadShape (sym fits)

-- devices are the same where their parts are
pub same_device : (a b : Device) → a.kind ≡ b.kind → a.name ≡ b.name → a.nodes ≡ b.nodes → a.source ≡ b.source → a.number ≡ b.number → a ≡ b
same_device a b kind name nodes source number = λ i. record { kind = kind i; name = name i; nodes = nodes i; source = source i; number = number i }

-- words of the right number are enough
words_enough : (directive : Bool) (count wanted : ℕ) → true ≡ (if directive then nat_eq count wanted else nat_le wanted count) → wanted ≤ count
words_enough true count wanted fits = let same : count ≡ wanted = eqb-true count wanted (sym fits) in omega arith
words_enough false count wanted fits = leb-true wanted count (sym fits)

nodes_enough : (kind : DeviceKind) (texts : List (Bor (List ℕ))) →
    true ≡ (if is_directive kind then nat_eq (length texts) (words_wanted kind) else nat_le (words_wanted kind)
    (length texts)) → length (take (nodes_wanted kind) (drop 1 (bytes_of texts))) ≡ nodes_wanted kind
nodes_enough kind texts fits =
    let enough = words_enough (is_directive kind) (length texts) (words_wanted kind) fits in
    let all = length-map texts (λ (text : Bor (List ℕ)). text.now) in
    length-take-le (nodes_wanted kind) (drop 1 (bytes_of texts)) (omega (arith, enough, all, length-drop 1 (bytes_of texts)))

-- a device keeps what the rules say
pub device_kept : (p : ℕ) (kind : DeviceKind) (texts : List (Bor (List ℕ))) (device : Device) →
    true ≡ (if is_directive kind then nat_eq (length texts) (words_wanted kind) else nat_le (words_wanted kind)
    (length texts))
    → name_good (bytes_of texts) ≡ true → nodes_good kind (bytes_of texts) ≡ true →
    device ≡ device_of p kind (bytes_of texts) → device.number < p → IsDevice p device
device_kept p kind texts device fits name nodes same small = record {
  name = ap (λ (d : Device). is_name d.name) same ∙ name;
  nodes = subst (λ (d : Device). All (λ node. is_node node ≡ true) d.nodes) (sym same)
      (AllPass-from_list_all is_node (take (nodes_wanted kind) (drop 1 (bytes_of texts))) nodes);
  nodes_wanted = ap (λ (d : Device). length d.nodes) same ∙ nodes_enough kind texts fits ∙ ap (λ (d : Device). nodes_wanted d.kind) (sym same);
  number = small;
}
