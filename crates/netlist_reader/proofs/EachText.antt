-- Each text gives a model or is refused.
use Rattle.std.proofs.Common.{◌≡◌, ℕ, ◌+◌, ◌<◌, List, length, None, Some, refl, ◌⊎◌, inl, inr, arith}
use Rattle.refusals.specs.declared.Place.TheVariants.{Document, Line}
use Rattle.refusals.specs.declared.ReadModel.TheVariants.{Refused as IsRefused}
use Rattle.refusals.specs.declared.Refused.{Refused}
use Rattle.refusals.specs.declared.Why.{Why}
use Rattle.residue_theory.specs.Residues.{IsPrime}
use Rattle.line_reader.specs.LineRules.{KeepsAll, IsFirstBroken}
use Rattle.line_reader.proofs.Deciding.{IsFirstBelow, each_text, first_below, kept_or_broken, of_kept}
use Rattle.mixed_model.specs.Models.{MixedModel}
use Rattle.term_model.proofs.Making.{system_made}
use Rattle.netlist_devices.specs.Circuits.{IsCircuit}
use Rattle.netlist_devices.specs.Devices.{Device, devices_in}
use Rattle.netlist_reader.specs.Models.{GivesModel, IsModelOf, IsRefusal, SourcesBefore, lines_in, source_rule_at, system_of}
use Rattle.netlist_devices.specs.Rules.{device_rules, ground_rule}
use Rattle.netlist_devices.proofs.KeptLines.{no_devices, one_line, parts_of}
use Rattle.netlist_reader.proofs.NameLists.{equations-listed, unknowns-listed}

-- a circuit has a model
devices_give : (p : ℕ) (devices : List Device) → 0 < p → IsCircuit p (parts_of devices) → (model : MixedModel) × IsModelOf p devices model
devices_give p devices positive circuit =
    system_made p (system_of p devices) positive (equations-listed p (parts_of devices) circuit) (unknowns-listed p (parts_of devices) circuit)

module _ (p : ℕ) (prime : IsPrime p) (text : List ℕ) where
  -- where each line and all devices keep their rules
  all_kept : KeepsAll (device_rules p) text → ground_rule (devices_in p (lines_in p text)) ≡ None →
      SourcesBefore p (length (lines_in p text)) (lines_in p text) → (model : MixedModel) × GivesModel p text model
  all_kept kept grounded sources =
      let circuit = of_kept (device_rules p) (λ lines. IsCircuit p (parts_of (devices_in p lines))) (no_devices p) (one_line p prime) text kept in
      let (model, given) = devices_give p (devices_in p (lines_in p text)) (omega (arith, prime.above_one)) circuit in
      (model, record { kept = kept; grounded = grounded; sources = sources; given = given })

  by_sources : KeepsAll (device_rules p) text → ground_rule (devices_in p (lines_in p text)) ≡ None →
      SourcesBefore p (length (lines_in p text)) (lines_in p text)
      ⊎ ((n : ℕ) × (why : Why) × IsFirstBelow (source_rule_at p (lines_in p text)) (length (lines_in p text)) n why) →
      ((model : MixedModel) × GivesModel p text model) ⊎ ((refused : Refused) × IsRefusal p text (IsRefused refused))
  by_sources kept grounded (inl sources) = inl (all_kept kept grounded sources)
  by_sources kept grounded (inr (n, why, first)) = inr (
    record { place = Line (n + 1); why = why },
    inr (inr (n, why, refl, kept, grounded, record { within = first.within; before = first.before; here = first.here })),
  )

  by_ground : KeepsAll (device_rules p) text →
      (ground_rule (devices_in p (lines_in p text)) ≡ None) ⊎ ((why : Why) × (ground_rule (devices_in p (lines_in p text)) ≡ Some why)) →
      ((model : MixedModel) × GivesModel p text model) ⊎ ((refused : Refused) × IsRefusal p text (IsRefused refused))
  by_ground kept (inl grounded) = by_sources kept grounded (first_below (source_rule_at p (lines_in p text)) (length (lines_in p text)))
  by_ground kept (inr (why, broken)) = inr (record { place = Document; why = why }, inr (inl (why, refl, kept, broken)))

  by_lines : KeepsAll (device_rules p) text ⊎ ((n : ℕ) × (why : Why) × IsFirstBroken (device_rules p) text n why) →
      ((model : MixedModel) × GivesModel p text model) ⊎ ((refused : Refused) × IsRefusal p text (IsRefused refused))
  by_lines (inl kept) = by_ground kept (kept_or_broken (ground_rule (devices_in p (lines_in p text))))
  by_lines (inr (n, why, first)) = inr (record { place = Line (n + 1); why = why }, inl (n, why, refl, first))

-- Each text gives a model or is refused.
pub netlist_answered : (p : ℕ) → IsPrime p → (text : List ℕ) →
    ((model : MixedModel) × GivesModel p text model) ⊎ ((refused : Refused) × IsRefusal p text (IsRefused refused))
netlist_answered p prime text = by_lines p prime text (each_text (device_rules p) text)
