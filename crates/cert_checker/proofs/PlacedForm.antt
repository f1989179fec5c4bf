-- Rule 9 by the tables of parts of a form.
use Rattle.std.proofs.Common.{◌≡◌, ℕ, ◌+◌, ◌↔◌, List, length, refl, ap, sym, subst, ◌∙◌}
use Rattle.mixed_matrices.specs.LayeredMatrices.{LayeredMatrix}
use Rattle.cert_text.specs.Contents.{Contents}
use Rattle.cert_text.specs.Ranges.{ArePairs, IsCcf}
use Rattle.cert_text.specs.Readings.{column_lists, q_row_lists, t_row_lists, ColumnsDiffer, StandsOnce}
use Rattle.cert_text.specs.Rules.{HasPlacedRows}
use Rattle.cert_checker.specs.Checking.{HasSizes}
use Rattle.cert_checker.specs.Placing.{StandWithColumns}
use Rattle.cert_checker.specs.Standing.{Not, TellsPlaces, lists_in}
use Rattle.cert_checker.specs.declared.standing.Member.TheVariants.{Column, QRow, TRow}
use Rattle.cert_checker.proofs.FormSizes.{pairs-as}
use Rattle.cert_checker.proofs.PlacedRows.{rows-placed, placed-q, placed-t}
use Rattle.cert_checker.proofs.StandingLaws.{columns-are, q_rows-are, t_rows-are, list-count}

pub stand_as : (m n l k : ℕ) (pairs items : List (ℕ × ℕ)) (columns xs ys : List ℕ) → m ≡ n → items ≡ pairs → l ≡ k → xs ≡ ys →
    StandWithColumns m items columns l xs ↔ StandWithColumns n pairs columns k ys
stand_as m n l k pairs items columns xs ys size listed last same =
    subst (λ i. StandWithColumns m items columns l xs ↔ StandWithColumns i pairs columns k ys) size
    (subst (λ list. StandWithColumns m items columns l xs ↔ StandWithColumns m list columns k ys) listed
    (subst (λ i. StandWithColumns m items columns l xs ↔ StandWithColumns m items columns i ys) last
    (subst (λ list. StandWithColumns m items columns l xs ↔ StandWithColumns m items columns l list) same (λ h. h, λ h. h))))

module _ (p : ℕ) (L : LayeredMatrix) (c : Contents) where
  pub q-told : (n : ℕ) (places : List ℕ) → n ≡ L.q_rows → TellsPlaces n (lists_in QRow c) places → TellsPlaces L.q_rows (q_row_lists c) places
  q-told n places size told = subst (λ lists. TellsPlaces L.q_rows lists places) (q_rows-are c) (subst (λ m. TellsPlaces m (lists_in QRow c) places) size told)

  pub t-told : (n : ℕ) (places : List ℕ) → n ≡ L.t_rows → TellsPlaces n (lists_in TRow c) places → TellsPlaces L.t_rows (t_row_lists c) places
  t-told n places size told = subst (λ lists. TellsPlaces L.t_rows lists places) (t_rows-are c) (subst (λ m. TellsPlaces m (lists_in TRow c) places) size told)

  pub q-never : (n : ℕ) → n ≡ L.q_rows → Not (StandsOnce n (lists_in QRow c)) → HasPlacedRows L c → ⊥
  q-never n size never placed = never (subst (λ m. StandsOnce m (lists_in QRow c)) (sym size) (subst (StandsOnce L.q_rows) (sym (q_rows-are c)) placed.q_rows))

  pub t-never : (n : ℕ) → n ≡ L.t_rows → Not (StandsOnce n (lists_in TRow c)) → HasPlacedRows L c → ⊥
  t-never n size never placed = never (subst (λ m. StandsOnce m (lists_in TRow c)) (sym size) (subst (StandsOnce L.t_rows) (sym (t_rows-are c)) placed.t_rows))

  module _ (is : IsCcf p c) (sizes : HasSizes L c) (apart : ColumnsDiffer c.base c.mates) (columns : List ℕ)
      (told : TellsPlaces L.columns (column_lists c) columns)
      (q t : List ℕ) (q_told : TellsPlaces L.q_rows (q_row_lists c) q) (t_told : TellsPlaces L.t_rows (t_row_lists c) t) where
    base : ArePairs L.q_rows L.columns c.base
    base = pairs-as c.shape.q_rows c.shape.columns L.q_rows L.columns c.base c.base refl is.base sizes.q_rows sizes.columns

    mates : ArePairs L.t_rows L.columns c.mates
    mates = pairs-as c.shape.t_rows c.shape.columns L.t_rows L.columns c.mates c.mates refl is.mates sizes.t_rows sizes.columns

    long : length (column_lists c) ≡ length c.blocks + 2
    long = sym (ap (λ (lists : List (List ℕ)). length lists) (columns-are c)) ∙ list-count Column c

    pub form-placed : StandWithColumns L.q_rows c.base columns (length c.blocks + 2) q →
        StandWithColumns L.t_rows c.mates columns (length c.blocks + 2) t → HasPlacedRows L c
    form-placed = rows-placed L c base mates apart long columns told q t q_told t_told

    pub form-q : HasPlacedRows L c → StandWithColumns L.q_rows c.base columns (length c.blocks + 2) q
    form-q = placed-q L c base mates apart long columns told q t q_told t_told

    pub form-t : HasPlacedRows L c → StandWithColumns L.t_rows c.mates columns (length c.blocks + 2) t
    form-t = placed-t L c base mates apart long columns told q t q_told t_told
