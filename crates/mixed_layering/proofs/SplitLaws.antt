-- Where an equation stands among the split ones, and what that says of the auxiliary columns.
use Rattle.std.proofs.Common.{◌≡◌, ℕ, ◌+◌, ◌-◌, ◌<◌, false, cond, eqb, ltb, ne_eqb, eq-eqb, List, length, slice_index}
use Rattle.std.proofs.Common.{refl, sym, ap, subst, ◌∙◌, arith, ⊎_elim, lt-ltb}
use Rattle.std.specs.List.Sorted.{IsStrictlyIncreasing}
use Rattle.std.proofs.lemmas.Bool.{cases_lt, le-ltb}
use Rattle.sparse_t.proofs.ListLaws.{rises}
use Rattle.mixed_layering.specs.Columns.{StandsIn, IsAbsent}

-- the only place of an equation is its own
pub own_place : (split : List ℕ) (equation place : ℕ) → IsStrictlyIncreasing split → StandsIn split equation place →
    (k : ℕ) → k < length split → eqb equation (slice_index split k) ≡ eqb place k
own_place split equation place rising stands k at = ⊎_elim
    (λ less.
    let up = rises split rising place k less at in
    rw (ne_eqb place k (λ e. omega (arith, less, e)), ne_eqb equation (slice_index split k) (λ e. omega (arith, up, e, stands.item))) refl)
    (λ not_less. ⊎_elim
    (λ more.
    let up = rises split rising k place more stands.within in
    rw (ne_eqb place k (λ e. omega (arith, more, e)), ne_eqb equation (slice_index split k) (λ e. omega (arith, up, e, stands.item))) refl)
    (λ not_more.
    let same : place ≡ k = omega (arith, not_less, not_more) in
    rw (eq-eqb place k same, eq-eqb equation (slice_index split k) (sym stands.item ∙ ap (slice_index split) same)) refl)
    (cases_lt k place))
    (cases_lt place k)

pub no_place : (split : List ℕ) (equation : ℕ) → IsAbsent split equation → (k : ℕ) → k < length split → eqb equation (slice_index split k) ≡ false
no_place split equation absent k at = ne_eqb equation (slice_index split k) (λ e. absent k at (sym e))

-- what is told of the columns of the unknowns, and of the auxiliary ones
module _ {A : Type 0} (unknowns : ℕ) (first : ℕ → A) (auxiliary : ℕ → A) where
  abbrev pub told : ℕ → A
  told j = cond (ltb j unknowns) (first j) (auxiliary (j - unknowns))

  pub told-unknown : (j : ℕ) → j < unknowns → told j ≡ first j
  told-unknown j at = rw (lt-ltb j unknowns at) refl

  pub told-auxiliary : (k : ℕ) → told (unknowns + k) ≡ auxiliary k
  told-auxiliary k =
      let past : ltb (unknowns + k) unknowns ≡ false = le-ltb (unknowns + k) unknowns (omega arith) in
      let is : unknowns + k - unknowns ≡ k = omega arith in
      rw past (ap auxiliary is)

  -- by cases on a column
  pub by_column : (S : ℕ) (P : ℕ → A → Type 0) → ((j : ℕ) → j < unknowns → P j (first j)) →
      ((k : ℕ) → k < S → P (unknowns + k) (auxiliary k)) → (j : ℕ) → j < unknowns + S → P j (told j)
  by_column S P on_unknown on_auxiliary j at = ⊎_elim
      (λ low. subst (P j) (sym (told-unknown j low)) (on_unknown j low))
      (λ high.
      let is : unknowns + (j - unknowns) ≡ j = omega (arith, high) in
      subst (λ c. P c (told c)) is (subst (P (unknowns + (j - unknowns))) (sym (told-auxiliary (j - unknowns)))
      (on_auxiliary (j - unknowns) (omega (arith, at, high)))))
      (cases_lt j unknowns)
