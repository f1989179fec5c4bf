-- A made model in the making: names first, then its entries, try by try.
use Rattle.std.specs.Prelude.{ℕ, ◌-◌, ◌*◌, ◌≡◌, zero, suc, min, Bool, not, false, ◌&&◌, ◌||◌, [], nat_eq, if◌then◌else◌, is_some}
use Rattle.std.specs.Option.{option_and_then, option_map_or}
use Rattle.mixed_model.specs.Models.{MixedModel, constant_of, symbol_of, row_of}
use Rattle.made_models.specs.Draws.{draw}
use Rattle.made_models.specs.MadeModels.{constant_for, first_number, is_symbol_number, numbered_names}

-- the last number after so many draws: before the first one the number that the generator starts at
abbrev pub last_after : ℕ → ℕ → ℕ
last_after n zero = n
last_after n (suc k) = draw n k

-- how many of the first tries are at equation i, where each equation has three
abbrev pub tries_at : ℕ → ℕ → ℕ
tries_at tries i = min 3 (tries - 3 * i)

-- whether anything stands at a place
abbrev pub is_taken : MixedModel → ℕ → ℕ → Bool
is_taken model i j = is_some (constant_of model i j) || symbol_of model i j

-- nothing stands in any equation
abbrev pub IsWithoutEntries : MixedModel → Type 0
IsWithoutEntries model = (i : ℕ) → row_of model i ≡ []

-- the model of size n after so many tries
pub record IsTried (n tries : ℕ) (model : MixedModel) : Type 0 where
  pub equations : model.equations ≡ numbered_names 101 n
  pub unknowns : model.unknowns ≡ numbered_names 120 n
  pub constants : (i j : ℕ) → constant_of model i j
      ≡ option_and_then constant_for (first_number n i j (tries_at tries i))
  pub symbols : (i j : ℕ) → symbol_of model i j
      ≡ option_map_or is_symbol_number (first_number n i j (tries_at tries i)) false

-- The new model is the old one with the entry of a number at the place (i, j), unless that is taken.
pub record TriesEntry (i j number : ℕ) (old new : MixedModel) : Type 0 where
  pub equations : new.equations ≡ old.equations
  pub unknowns : new.unknowns ≡ old.unknowns
  pub constants : (k c : ℕ) → constant_of new k c
      ≡ (if nat_eq i k && nat_eq j c && not (is_taken old k c) then constant_for number else constant_of old k c)
  pub symbols : (k c : ℕ) → symbol_of new k c
      ≡ (if nat_eq i k && nat_eq j c && not (is_taken old k c) then is_symbol_number number else symbol_of old k c)
