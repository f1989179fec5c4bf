-- A text gives at most one model, or has one refusal.
use Rattle.std.proofs.Common.{◌≡◌, ℕ, ◌+◌, List, Option, Some, None, sym, ap, ◌∙◌, inl, inr}
use Rattle.std.proofs.lemmas.Bool.{cases_order}
use Rattle.refusals.specs.declared.Why.{Why}
use Rattle.refusals.specs.declared.Place.TheVariants.{Line, Document}
use Rattle.refusals.specs.declared.Refused.{Refused}
use Rattle.line_reader.proofs.Rules.{first_broken-one, keeps-unbroken}
use Rattle.mixed_model.specs.Models.{MixedModel}
use Rattle.term_model.proofs.Systems.{one_model}
use Rattle.netlist_devices.specs.Devices.{devices_in}
use Rattle.netlist_devices.specs.Rules.{ground_rule, device_rules}
use Rattle.netlist_reader.specs.Models.{BreaksFirst, GivesModel, IsFirstUnsourced, lines_in, source_rule_at, system_of}

pub text_gives_one : (p : ℕ) (text : List ℕ) (a b : MixedModel) → GivesModel p text a → GivesModel p text b → a ≡ b
text_gives_one p text a b gives_a gives_b = one_model p (system_of p (devices_in p (lines_in p text))) a b gives_a.given gives_b.given

not_both : (o : Option Why) (why : Why) → o ≡ None → o ≡ Some why → ⊥
not_both o why kept broken = let both : None ≡ Some why = sym kept ∙ broken in cc

same_why : (o : Option Why) (v w : Why) → o ≡ Some v → o ≡ Some w → v ≡ w
same_why o v w first second = let both : Some v ≡ Some w = sym first ∙ second in let told : v ≡ w = cc in told

-- refusals are the same at one line for one reason
same_line : (a b : Refused) (m n : ℕ) (v w : Why) → a ≡ record { place = Line (m + 1); why = v } →
    b ≡ record { place = Line (n + 1); why = w } → m ≡ n → v ≡ w → a ≡ b
same_line a b m n v w is_a is_b line why = is_a ∙ (λ i. record { place = Line (line i + 1); why = why i }) ∙ sym is_b

same_document : (a b : Refused) (v w : Why) → a ≡ record { place = Document; why = v } → b ≡ record { place = Document; why = w } → v ≡ w → a ≡ b
same_document a b v w is_a is_b why = is_a ∙ (λ i. record { place = Document; why = why i }) ∙ sym is_b

-- two first lines whose source is none are the same
unsourced-one : (p : ℕ) (lines : List (List (List ℕ))) (m n : ℕ) (v w : Why) → IsFirstUnsourced p lines m v → IsFirstUnsourced p lines n w → (m ≡ n) × (v ≡ w)
unsourced-one p lines m n v w first second = elim (cases_order m n) [
  | inl same ↦ (same, same_why (source_rule_at p lines n) v w (sym (ap (source_rule_at p lines) same) ∙ first.here) second.here)
  | inr (inl less) ↦ absurd (not_both (source_rule_at p lines m) v (second.before m less) first.here)
  | inr (inr more) ↦ absurd (not_both (source_rule_at p lines n) w (first.before n more) second.here)
]

pub one_refusal : (p : ℕ) (text : List ℕ) (a b : Refused) → BreaksFirst p text a → BreaksFirst p text b → a ≡ b
one_refusal p text a b (inl (m, v, is_a, first)) (inl (n, w, is_b, second)) =
    let one = first_broken-one (device_rules p) text m n v w first second in
    same_line a b m n v w is_a is_b one.0 one.1
one_refusal p text a b (inl (m, v, is_a, first)) (inr (inl (w, is_b, kept, ground))) = absurd (keeps-unbroken (device_rules p) text m v kept first)
one_refusal p text a b (inl (m, v, is_a, first)) (inr (inr (n, w, is_b, kept, ground, second))) = absurd (keeps-unbroken (device_rules p) text m v kept first)
one_refusal p text a b (inr (inl (v, is_a, kept, ground))) (inl (n, w, is_b, second)) = absurd (keeps-unbroken (device_rules p) text n w kept second)
one_refusal p text a b (inr (inr (m, v, is_a, kept, ground, first))) (inl (n, w, is_b, second)) = absurd (keeps-unbroken (device_rules p) text n w kept second)
one_refusal p text a b (inr (inl (v, is_a, kept, ground))) (inr (inl (w, is_b, other, second))) =
    same_document a b v w is_a is_b (same_why (ground_rule (devices_in p (lines_in p text))) v w ground second)
one_refusal p text a b (inr (inl (v, is_a, kept, ground))) (inr (inr (n, w, is_b, other, grounded, second))) =
    absurd (not_both (ground_rule (devices_in p (lines_in p text))) v grounded ground)
one_refusal p text a b (inr (inr (m, v, is_a, kept, grounded, first))) (inr (inl (w, is_b, other, ground))) =
    absurd (not_both (ground_rule (devices_in p (lines_in p text))) w grounded ground)
one_refusal p text a b (inr (inr (m, v, is_a, kept, grounded, first))) (inr (inr (n, w, is_b, other, ground, second))) =
    let one = unsourced-one p (lines_in p text) m n v w first second in
    same_line a b m n v w is_a is_b one.0 one.1

pub gives-unrefused : (p : ℕ) (text : List ℕ) (model : MixedModel) (a : Refused) → GivesModel p text model → BreaksFirst p text a → ⊥
gives-unrefused p text model a gives (inl (n, why, is, first)) = keeps-unbroken (device_rules p) text n why gives.kept first
gives-unrefused p text model a gives (inr (inl (why, is, kept, ground))) = not_both (ground_rule (devices_in p (lines_in p text))) why gives.grounded ground
gives-unrefused p text model a gives (inr (inr (n, why, is, kept, ground, first))) =
    not_both (source_rule_at p (lines_in p text) n) why (gives.sources n first.within) first.here
