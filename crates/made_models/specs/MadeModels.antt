-- The model of each size: equations e1, e2, .. over as many unknowns x1, x2, .., with up to three drawn entries each.
use Rattle.std.specs.Prelude.{ℕ, ◌+◌, ◌*◌, ◌/◌, ◌%◌, ◌<◌, ◌≤◌, ◌≡◌, zero, suc, Bool, false, List, [], ◌∷◌, ◌++◌, nat_eq, nat_lt}
use Rattle.std.specs.Prelude.{if◌then◌else◌, Option, Some, None, decimal}
use Rattle.std.specs.Option.{option_and_then, option_map_or, option_or}
use Rattle.mixed_model.specs.Models.{MixedModel, constant_of, symbol_of}
use Rattle.made_models.specs.Draws.{draw}

-- how many equations a made model has at most
abbrev pub size_limit : ℕ
size_limit = 400

-- a made model has this many equations, and as many unknowns
pub record IsSize (n : ℕ) : Type 0 where
  pub least : 1 ≤ n
  pub most : n ≤ size_limit

-- at each equation an entry is tried three times: the column that try t at equation i draws, and the number that it
-- draws next
abbrev pub drawn_column : ℕ → ℕ → ℕ → ℕ
drawn_column n i t = draw n (6 * i + 2 * t) % n

abbrev pub drawn_number : ℕ → ℕ → ℕ → ℕ
drawn_number n i t = draw n (6 * i + 2 * t + 1)

-- the number of the first of the first t tries at equation i that draws column j
abbrev pub first_number : ℕ → ℕ → ℕ → ℕ → Option ℕ
first_number n i j zero = None
first_number n i j (suc t) = option_or (first_number n i j t)
    (if nat_eq (drawn_column n i t) j then Some (drawn_number n i t) else None)

-- a number makes a symbol where it is 2 or 3 modulo 4
abbrev pub is_symbol_number : ℕ → Bool
is_symbol_number number = nat_lt 1 (number % 4)

-- and else a constant from 1 to 65,520
abbrev pub constant_for : ℕ → Option ℕ
constant_for number = if is_symbol_number number then None else Some (number / 4 % 65520 + 1)

-- the constant at equation i and unknown j, where there is one
abbrev pub made_constant : ℕ → ℕ → ℕ → Option ℕ
made_constant n i j = option_and_then constant_for (first_number n i j 3)

-- whether there is a symbol
abbrev pub made_symbol : ℕ → ℕ → ℕ → Bool
made_symbol n i j = option_map_or is_symbol_number (first_number n i j 3) false

-- a letter with the numbers from 1 to n
abbrev pub numbered_names : ℕ → ℕ → List (List ℕ)
numbered_names letter zero = []
numbered_names letter (suc n) = numbered_names letter n ++ (letter ∷ decimal (n + 1)) ∷ []

-- the model of size n; 101 is the letter e, 120 the letter x
pub record IsMade (n : ℕ) (model : MixedModel) : Type 0 where
  pub equations : model.equations ≡ numbered_names 101 n
  pub unknowns : model.unknowns ≡ numbered_names 120 n
  pub constants : (i j : ℕ) → i < n → j < n → constant_of model i j ≡ made_constant n i j
  pub symbols : (i j : ℕ) → i < n → j < n → symbol_of model i j ≡ made_symbol n i j
