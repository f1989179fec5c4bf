-- A generator of numbers that look drawn at random: 48271 times the number before, modulo the prime 2^31 - 1 (Park,
-- Miller and Stockmeyer 1993).
use Rattle.std.specs.Prelude.{ℕ, ◌*◌, ◌%◌, zero, suc}

-- what a draw makes of the number before it
abbrev pub next : ℕ → ℕ
next x = (x * 48271) % 2147483647

-- draw k, from 0, of the generator that starts at n
abbrev pub draw : ℕ → ℕ → ℕ
draw n zero = next n
draw n (suc k) = next (draw n k)
