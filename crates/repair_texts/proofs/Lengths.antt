-- The length of the text of a repair.
use Rattle.std.proofs.Common.{ℕ, ◌+◌, ◌*◌, ◌^◌, ◌<◌, ◌≤◌, Bool, true, false, List, [], ◌∷◌, ◌++◌, length, codes, refl, arith, All, mul-le-mul_right, suc-mul}
use Rattle.std.proofs.lemmas.List.{length-append}
use Rattle.std.proofs.lemmas.List.Elements.{All-head, All-tail}
use Rattle.residue_theory.specs.Sets.{has}
use Rattle.text_writer.specs.Numbers.{spaced}
use Rattle.mixed_matrices.specs.LayeredMatrices.{LayeredMatrix}
use Rattle.mixed_matrices.specs.Layerings.{Origins}
use Rattle.mixed_matrices.specs.Models.{MixedMatrix}
use Rattle.mixed_model.specs.Models.{MixedModel}
use Rattle.mixed_model.specs.Names.{IsNameList, name_at}
use Rattle.cert_text.specs.Contents.{Certificate, Contents}
use Rattle.cert_text.specs.Ranges.{IsCcf}
use Rattle.cert_text.specs.Right.{IsRightCcf}
use Rattle.cert_text.specs.Texts.{contents_text, echo_text}
use Rattle.cert_text.specs.declared.kind.Kind.TheVariants.{Matrix}
use Rattle.cert_text.specs.declared.version.Version.TheVariants.{One}
use Rattle.text_lengths.specs.Rooms.{IsShapeWithin, certificate_room}
use Rattle.text_lengths.proofs.Lengths.{decimal-short, marked-short}
use Rattle.text_lengths.proofs.TextLengths.{certificate-short}
use Rattle.answer_texts.specs.ReportTexts.{count_line}
use Rattle.answer_texts.proofs.LayerLengths.{name-short}
use Rattle.repair_checker.specs.declared.repair.Level.{Level}
use Rattle.repair_checker.specs.declared.repair.Repair.{Repair}
use Rattle.repair_texts.specs.RepairTexts.{drop_line, drop_line_unless, drop_lines, kept_text, level_line, level_text, levels_text, repair_text}
use Rattle.repair_texts.specs.Rooms.{repair_room}

-- a right form takes no more than the certificate of an empty input
pub form-short : (p digits : ℕ) → 0 < digits → p < 10 ^ digits → (M : MixedMatrix) (L : LayeredMatrix) (O : Origins) (c : Contents) (k n : ℕ) →
    IsCcf p c → IsRightCcf p M L O c → IsShapeWithin k n c.shape → length (contents_text c) ≤ certificate_room One digits 0 k n
form-short p digits some below M L O c k n is right low =
    let whole : Certificate = record { version = One; modulus = p; kind = Matrix; echo = []; ccf = c } in
    omega (
      arith,
      certificate-short p digits some below M L O whole 0 k n refl (omega arith) (omega arith) is right low,
      length-append (echo_text One p Matrix []) (contents_text c),
    )

-- ---- the equations that are dropped
drop-short : (names : List (List ℕ)) → IsNameList names → (j cost : ℕ) → cost < 10 ^ 9 → length (drop_line (name_at names j) cost) ≤ 112
drop-short names are j cost small =
    let one : List ℕ = codes "drop " ++ name_at names j in
    let two : List ℕ = one ++ spaced cost in
    omega (
      arith,
      name-short names are j,
      decimal-short 9 cost (omega arith) small,
      length-append (codes "drop ") (name_at names j),
      length-append one (spaced cost),
      length-append two (codes "\n"),
    )

unless-short : (b : Bool) (name : List ℕ) (cost : ℕ) → length (drop_line name cost) ≤ 112 → length (drop_line_unless b name cost) ≤ 112
unless-short true name cost short = omega arith
unless-short false name cost short = short

drops-short : (names : List (List ℕ)) → IsNameList names → (kept : List ℕ) (j : ℕ) (costs : List ℕ) → All (λ cost. cost < 10 ^ 9) costs →
    length (drop_lines names kept j costs) ≤ length costs * 112
drops-short names are kept j [] small = omega arith
drops-short names are kept j (cost ∷ costs) small =
    let here : cost < 10 ^ 9 = All-head (λ (c : ℕ). c < 10 ^ 9) cost costs small in
    let rest = drops-short names are kept (j + 1) costs (All-tail (λ (c : ℕ). c < 10 ^ 9) cost costs small) in
    let line : List ℕ = drop_line_unless (has kept j) (name_at names j) cost in
    rw (suc-mul (length costs) 112) (omega (
      arith,
      unless-short (has kept j) (name_at names j) cost (drop-short names are j cost here),
      rest,
      length-append line (drop_lines names kept (j + 1) costs),
    ))

-- ---- the levels
-- the cost has nine digits, the rank four, and the form is so short
pub record IsShortLevel {F : Type 0} (room : ℕ) (level : Level F) : Type 0 where
  pub cost : level.cost < 10 ^ 9
  pub rank : level.ccf.rank < 10000
  pub form : length (contents_text level.ccf) ≤ room

level-line-short : (cost rank : ℕ) → cost < 10 ^ 9 → rank < 10000 → length (level_line cost rank) ≤ 26
level-line-short cost rank small low =
    let one : List ℕ = codes "level" ++ spaced cost in
    let two : List ℕ = one ++ codes " rank" in
    let three : List ℕ = two ++ spaced rank in
    omega (
      arith,
      decimal-short 9 cost (omega arith) small,
      marked-short 32 rank low,
      length-append (codes "level") (spaced cost),
      length-append one (codes " rank"),
      length-append two (spaced rank),
      length-append three (codes "\n"),
    )

module _ {F : Type 0} (room : ℕ) where
  level-short : (level : Level F) → IsShortLevel room level → length (level_text level) ≤ 26 + room
  level-short level short = omega (
    arith,
    level-line-short level.cost level.ccf.rank short.cost short.rank,
    short.form,
    length-append (level_line level.cost level.ccf.rank) (contents_text level.ccf),
  )

  levels-short : (levels : List (Level F)) → All (IsShortLevel room) levels → length (levels_text levels) ≤ length levels * (26 + room)
  levels-short [] short = omega arith
  levels-short (level ∷ levels) short =
      let here : IsShortLevel room level = All-head (IsShortLevel room) level levels short in
      let rest = levels-short levels (All-tail (IsShortLevel room) level levels short) in
      rw (suc-mul (length levels) (26 + room))
      (omega (arith, level-short level here, rest, length-append (level_text level) (levels_text levels)))

-- ---- the whole
kept-short : (room : ℕ) (kept : List ℕ) (ccf : Contents) → length kept < 10000 → length (contents_text ccf) ≤ room →
    length (kept_text kept ccf) ≤ 10 + room
kept-short room kept ccf low short = omega (
  arith,
  short,
  marked-short 32 (length kept) low,
  length-append (codes "kept") (spaced (length kept)),
  length-append (codes "kept" ++ spaced (length kept)) (codes "\n"),
  length-append (count_line (codes "kept") (length kept)) (contents_text ccf),
)

cost-short : (cost : ℕ) → cost < 10 ^ 13 → length (count_line (codes "repair") cost) ≤ 21
cost-short cost small = omega (
  arith,
  decimal-short 13 cost (omega arith) small,
  length-append (codes "repair") (spaced cost),
  length-append (codes "repair" ++ spaced cost) (codes "\n"),
)

-- what a repair says is short: its numbers, and its forms
pub record IsShortRepair {F : Type 0} (room : ℕ) (repair : Repair F) : Type 0 where
  pub cost : repair.cost < 10 ^ 13
  pub kept : length repair.kept < 10000
  pub kept_form : length (contents_text repair.kept_ccf) ≤ room
  pub few : length repair.levels ≤ 16
  pub levels : All (IsShortLevel room) repair.levels

-- at most k equations, each with a small cost
pub repair-text-short : {F : Type 0} (digits k n : ℕ) (model : MixedModel) → IsNameList model.equations → (costs : List ℕ) →
    length costs ≤ k → All (λ cost. cost < 10 ^ 9) costs → (repair : Repair F) → IsShortRepair (certificate_room One digits 0 k n) repair →
    length (repair_text model costs repair) ≤ repair_room digits k n
repair-text-short {F} digits k n model are costs few small repair short =
    let room : ℕ = certificate_room One digits 0 k n in
    let one : List ℕ = count_line (codes "repair") repair.cost in
    let two : List ℕ = one ++ drop_lines model.equations repair.kept 0 costs in
    let three : List ℕ = two ++ levels_text repair.levels in
    omega (
      arith,
      cost-short repair.cost short.cost,
      drops-short model.equations are repair.kept 0 costs small,
      few,
      levels-short room repair.levels short.levels,
      mul-le-mul_right (26 + room) short.few,
      kept-short room repair.kept repair.kept_ccf short.kept short.kept_form,
      length-append one (drop_lines model.equations repair.kept 0 costs),
      length-append two (levels_text repair.levels),
      length-append three (kept_text repair.kept repair.kept_ccf),
    )
