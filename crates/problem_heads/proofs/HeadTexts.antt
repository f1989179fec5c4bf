-- Each text has a head, or is refused for one thing.
use Rattle.std.proofs.Common.{◌≡◌, ℕ, ◌+◌, Bool, true, false, List, refl, sym, ap, ◌∙◌, ◌⊎◌, inl, inr}
use Rattle.refusals.specs.declared.Place.TheVariants.{Document, Line}
use Rattle.refusals.specs.declared.Refused.{Refused}
use Rattle.refusals.specs.declared.Why.{Why}
use Rattle.refusals.specs.declared.Why.TheVariants.{BadShape}
use Rattle.line_reader.specs.LineRules.{IsFirstBroken, KeepsAll}
use Rattle.line_reader.proofs.Deciding.{each_text}
use Rattle.line_reader.proofs.Rules.{first_broken-one, keeps-unbroken}
use Rattle.problem_heads.specs.Heads.{has_model, head_of}
use Rattle.problem_heads.specs.HeadRules.{head_rules}
use Rattle.problem_heads.specs.HeadsRead.{HasHead, IsHeadRefused}
use Rattle.problem_heads.specs.declared.form.Form.{Form}

module _ (p : ℕ) (form : Form) (text : List ℕ) where
  pub head-answered : HasHead p form text ⊎ ((refused : Refused) × IsHeadRefused p form text refused)
  head-answered = by (each_text (head_rules p form) (head_of text)) (has_model text) refl
    where
      by : KeepsAll (head_rules p form) (head_of text) ⊎ ((n : ℕ) × (why : Why) × IsFirstBroken (head_rules p form) (head_of text) n why) →
          (b : Bool) → has_model text ≡ b → HasHead p form text ⊎ ((refused : Refused) × IsHeadRefused p form text refused)
      by (inr (n, why, first)) b e = inr (record { place = Line (n + 1); why = why }, inl (n, why, refl, first))
      by (inl kept) true e = inl (record { kept = kept; ended = e })
      by (inl kept) false e = inr (record { place = Document; why = BadShape }, inr (refl, kept, e))

  pub head-unrefused : (refused : Refused) → HasHead p form text → IsHeadRefused p form text refused → ⊥
  head-unrefused refused has (inl (n, why, is, first)) = keeps-unbroken (head_rules p form) (head_of text) n why has.kept first
  head-unrefused refused has (inr (is, kept, none)) = let both : true ≡ false = sym has.ended ∙ none in cc

  pub head-refused_once : (refused other : Refused) → IsHeadRefused p form text refused → IsHeadRefused p form text other → refused ≡ other
  head-refused_once refused other (inl (m, v, is, first)) (inl (n, w, also, second)) =
      let same = first_broken-one (head_rules p form) (head_of text) m n v w first second in
      is ∙ ap (λ k. record { place = Line (k + 1); why = v }) same.0 ∙ ap (λ why. record { place = Line (n + 1); why = why }) same.1 ∙ sym also
  head-refused_once refused other (inl (m, v, is, first)) (inr (also, kept, none)) =
      absurd (keeps-unbroken (head_rules p form) (head_of text) m v kept first)
  head-refused_once refused other (inr (is, kept, none)) (inl (n, w, also, second)) =
      absurd (keeps-unbroken (head_rules p form) (head_of text) n w kept second)
  head-refused_once refused other (inr (is, kept, none)) (inr (also, kept_also, none_also)) = is ∙ sym also
