-- Room for the flows of a stream more.
use Rattle.std.proofs.Common.{◌≡◌, ℕ, suc, ◌+◌, ◌*◌, ◌/◌, ◌<◌, ◌≤◌, true, false, List, [], ◌∷◌, ◌++◌, length, map, Ok}
use Rattle.std.proofs.Common.{Err, sym, ap, ◌∙◌, arith, length-append, leb}
use Rattle.std.proofs.Math.Nat.{div-lt_iff_lt-mul, le-div_iff_mul-le}
use Rattle.std.proofs.lemmas.Bool.{le-leb, lt-leb}
use Rattle.std.proofs.lemmas.List.{length-map}
use Rattle.std.proofs.lemmas.List.Concat.{flat_map-cons}
use Rattle.refusals.specs.declared.Why.TheVariants.{TooMany}
use Rattle.toml.specs.Data.{Data}
use Rattle.document_values.specs.Chains.{keeping}
use Rattle.unit_equations.specs.Kinds.{flow, flows}
use Rattle.flowsheet_reader.specs.Models.{new_stream}
use Rattle.document_values.specs.Values.{new_name}
use Rattle.document_values.proofs.Inversion.{then}

flows-length : (components streams : List (List ℕ)) → length (flows components streams) ≡ length components * length streams
flows-length components [] = omega arith
flows-length components (stream ∷ streams) =
    ap length (flat_map-cons (λ stream. map (flow stream) components) stream streams)
    ∙ length-append (map (flow stream) components) (flows components streams)
    ∙ (λ i. length-map components (flow stream) i + flows-length components streams i)
    ∙ more (length components) (length streams)
  where
    more : (c s : ℕ) → c + c * s ≡ c * suc s
    more c s = grind arith

module _ (components found : List (List ℕ)) (name : List ℕ) (n : ℕ) (count : n ≡ length found + 1) where
  all-length : length (flows components (found ++ name ∷ [])) ≡ length components * n
  all-length = flows-length components (found ++ name ∷ []) ∙ ap (λ m. length components * m) (length-append found (name ∷ []) ∙ sym count)

  pub full-stream : (datum : Data) → new_name found datum ≡ Ok name → 4096 / n < length components → new_stream components found datum ≡ Err TooMany
  full-stream datum kept more =
      let many : 4096 < length components * n = (div-lt_iff_lt-mul {k = n} {x = 4096} {y = length components} (omega (arith, count))).0 more in
      let over : leb (length (flows components (found ++ name ∷ []))) 4096 ≡ false =
      lt-leb (length (flows components (found ++ name ∷ []))) 4096 (omega (arith, many, all-length)) in
      then (new_name found datum) (λ name. keeping (leb (length (flows components (found ++ name ∷ []))) 4096) TooMany name) name kept
      ∙ ap (λ b. keeping b TooMany name) over

  pub roomy-stream : (datum : Data) → new_name found datum ≡ Ok name → length components ≤ 4096 / n → new_stream components found datum ≡ Ok name
  roomy-stream datum kept few =
      let fits : length components * n ≤ 4096 = (le-div_iff_mul-le {k = n} {x = length components} {y = 4096} (omega (arith, count))).0 few in
      let within : leb (length (flows components (found ++ name ∷ []))) 4096 ≡ true =
      le-leb (length (flows components (found ++ name ∷ []))) 4096 (omega (arith, fits, all-length)) in
      then (new_name found datum) (λ name. keeping (leb (length (flows components (found ++ name ∷ []))) 4096) TooMany name) name kept
      ∙ ap (λ b. keeping b TooMany name) within
