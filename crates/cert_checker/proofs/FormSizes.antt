-- What a form keeps of its lines, at the sizes of a layered matrix.
use Rattle.std.proofs.Common.{◌≡◌, ℕ, ◌<◌, ◌↔◌, List, length, ap, sym, subst, ◌∙◌}
use Rattle.std.specs.List.{All}
use Rattle.mixed_matrices.specs.LayeredMatrices.{LayeredMatrix}
use Rattle.mixed_matrices.specs.Models.{MixedMatrix}
use Rattle.cert_text.specs.Contents.{Contents, numbered_rows}
use Rattle.cert_text.specs.Ranges.{ArePairs, IsPrintedMatrix, IsPattern}
use Rattle.cert_text.specs.Right.{HasShape}
use Rattle.sparse_t.specs.Incidences.{Incidence, incidence_rows, touches}
use Rattle.cert_text.specs.Readings.{pattern_of}
use Rattle.cert_checker.specs.Checking.{HasSizes}
use Rattle.cert_checker.specs.Matching.{HasSymbolsOf}
use Rattle.cert_checker.specs.Units.{AreUnits}
use Rattle.cert_checker.proofs.NumberedRows.{rows_count}

pub shape-sizes : (M : MixedMatrix) (L : LayeredMatrix) (c : Contents) → HasShape M L c → HasSizes L c
shape-sizes M L c shape = record { q_rows = shape.q_rows; t_rows = shape.t_rows; columns = shape.columns }

module _ {T : Type 0} (number : T → ℕ) where
  -- the rows of a slice are those of a printed matrix
  pub printed-rows : (rows slice : List (List (ℕ × T))) (printed : List (List (ℕ × ℕ))) → slice ≡ rows →
      numbered_rows number rows ≡ printed → numbered_rows number slice ≡ printed
  printed-rows rows slice printed same is = ap (numbered_rows number) same ∙ is

  pub printed-count : (p m n : ℕ) (slice : List (List (ℕ × T))) (printed : List (List (ℕ × ℕ))) →
      numbered_rows number slice ≡ printed → IsPrintedMatrix p m n printed → length slice ≡ m
  printed-count p m n slice printed is matrix = sym (rows_count number slice) ∙ ap length is ∙ matrix.count

  pub printed-matrix : (p m n x y : ℕ) (slice : List (List (ℕ × T))) (printed : List (List (ℕ × ℕ))) →
      numbered_rows number slice ≡ printed → IsPrintedMatrix p m n printed → m ≡ x → n ≡ y →
      IsPrintedMatrix p x y (numbered_rows number slice)
  printed-matrix p m n x y slice printed is matrix rows columns =
      subst (IsPrintedMatrix p x y) (sym is) (subst (λ i. IsPrintedMatrix p i y printed) rows (subst (λ j. IsPrintedMatrix p m j printed) columns matrix))

pub pairs-as : (m n x y : ℕ) (pairs items : List (ℕ × ℕ)) → items ≡ pairs → ArePairs m n pairs → m ≡ x → n ≡ y → ArePairs x y items
pairs-as m n x y pairs items same are rows columns =
    subst (ArePairs x y) (sym same) (subst (λ i. ArePairs i y pairs) rows (subst (λ j. ArePairs m j pairs) columns are))

pub pair-columns : (m n : ℕ) (pairs : List (ℕ × ℕ)) → ArePairs m n pairs → All (λ pair. pair.1 < n) pairs
pair-columns m n pairs are = λ k d kl. (are.within k d kl).1

pub pattern-as : (m n x y : ℕ) (rows slice : List (List ℕ)) → slice ≡ rows → IsPattern m n rows → m ≡ x → n ≡ y → IsPattern x y slice
pattern-as m n x y rows slice same are height width =
    subst (IsPattern x y) (sym same) (subst (λ i. IsPattern i y rows) height (subst (λ j. IsPattern m j rows) width are))

pub units_as : (p m n : ℕ) (rows slice : List (List (ℕ × ℕ))) (base items : List (ℕ × ℕ)) → m ≡ n → slice ≡ rows →
    items ≡ base → AreUnits p m slice items ↔ AreUnits p n rows base
units_as p m n rows slice base items size same listed =
    subst (λ k. AreUnits p m slice items ↔ AreUnits p k rows base) size
    (subst (λ list. AreUnits p m slice items ↔ AreUnits p m list base) same
    (subst (λ list. AreUnits p m slice items ↔ AreUnits p m slice list) listed (λ h. h, λ h. h)))

-- the rows have the symbols of t in n columns
abbrev Symbols : Incidence → ℕ → List (List ℕ) → Type 0
Symbols t n rows = (i j : ℕ) → i < incidence_rows t → j < n → pattern_of rows i j ≡ touches t i j

pub symbols_as : (t inside : Incidence) (n : ℕ) (rows slice : List (List ℕ)) → slice ≡ rows → inside ≡ t → t.width ≡ n →
    HasSymbolsOf inside slice ↔ ((i j : ℕ) → i < incidence_rows t → j < n → pattern_of rows i j ≡ touches t i j)
symbols_as t inside n rows slice same view width =
    subst (λ x. HasSymbolsOf inside slice ↔ Symbols x n rows) view
    (subst (λ k. HasSymbolsOf inside slice ↔ Symbols inside k rows) (ap (λ x. x.width) view ∙ width)
    (subst (λ list. HasSymbolsOf inside slice ↔ Symbols inside inside.width list) same (λ h. h, λ h. h)))
