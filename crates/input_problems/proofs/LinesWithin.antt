-- Numbers of lines are no more than the bytes of a text.
use Rattle.std.proofs.Common.{◌≡◌, ℕ, ◌+◌, ◌<◌, ◌≤◌, ◌^◌, Bool, true, false, List, [], ◌∷◌, length, refl, ap, inl, inr, arith, length-append}
use Rattle.std.specs.List.{onto_first}
use Rattle.std.specs.Str.Lines.{strip_carriage_return}
use Rattle.std.proofs.lemmas.List.{length-map}
use Rattle.limits.specs.Limits.{input_limit}
use Rattle.refusals.specs.declared.Refused.{Refused}
use Rattle.cert_text.specs.declared.kind.Kind.{Kind}
use Rattle.cert_text.specs.declared.kind.Kind.TheVariants.{Flowsheet, Matrix, Netlist}
use Rattle.line_lexer.specs.Lines.{cut_at_feeds, is_line_feed, lines_of}
use Rattle.line_reader.specs.LineRules.{words_in}
use Rattle.netlist_devices.specs.Rules.{device_rules}
use Rattle.input_kinds.specs.Kinds.{IsRefused}
use Rattle.problem_heads.specs.Heads.{head_of, lines_before, model_text}
use Rattle.problem_heads.specs.LinesBefore.{line_number}
use Rattle.problem_heads.proofs.Parting.{text-whole}
use Rattle.input_problems.proofs.FlowsheetPlaces.{flowsheet-placed}

onto_first-length : (byte : ℕ) (parts : List (List ℕ)) → length (onto_first byte parts) ≤ length parts + 1
onto_first-length byte [] = omega arith
onto_first-length byte (part ∷ parts) = omega arith

cut-length : (text : List ℕ) → length (cut_at_feeds text) ≤ length text
cut-length [] = omega arith
cut-length (byte ∷ text) = by (is_line_feed byte) refl (cut-length text)
  where
    by : (b : Bool) → is_line_feed byte ≡ b → length (cut_at_feeds text) ≤ length text → length (cut_at_feeds (byte ∷ text)) ≤ length (byte ∷ text)
    by true e rest = rw e (omega arith)
    by false e rest = rw e (omega (arith, onto_first-length byte (cut_at_feeds text)))

lines-few : (text : List ℕ) → length (lines_of text) ≤ length text
lines-few text = omega (arith, length-map (cut_at_feeds text) strip_carriage_return, cut-length text)

line-within : (p : ℕ) (kind : Kind) (text : List ℕ) (refused : Refused) → IsRefused p kind text refused → line_number refused.place ≤ length text
line-within p Matrix text refused (n, why, is, first) =
    omega (arith, ap (λ (r : Refused). line_number r.place) is, first.within, lines-few text)
line-within p Netlist text refused (inl (n, why, is, first)) =
    omega (arith, ap (λ (r : Refused). line_number r.place) is, first.within, lines-few text)
line-within p Netlist text refused (inr (inl (why, is, kept, broken))) = omega (arith, ap (λ (r : Refused). line_number r.place) is)
line-within p Netlist text refused (inr (inr (n, why, is, kept, grounded, first))) =
    omega (
      arith,
      ap (λ (r : Refused). line_number r.place) is,
      first.within,
      length-map (lines_of text) (words_in (device_rules p)),
      lines-few text,
    )
line-within p Flowsheet text refused is = omega (arith, flowsheet-placed p text refused is)

-- a line that is counted on has a number of 32 bits
pub counted-fits : (p : ℕ) (kind : Kind) (text : List ℕ) (refused : Refused) → length text ≤ input_limit →
    IsRefused p kind (model_text text) refused → line_number refused.place + lines_before text < 2 ^ 32
counted-fits p kind text refused short is =
    omega (
      arith,
      line-within p kind (model_text text) refused is,
      lines-few (head_of text),
      ap length (text-whole text),
      length-append (head_of text) (model_text text),
      short,
    )
