-- Which places lead to which.
use Rattle.std.specs.Prelude.{ℕ, ◌+◌, ◌/◌, ◌%◌, ◌&&◌, nat_eq, nat_lt, nat_le, Bool, false}
use Rattle.bench_lattice.specs.declared.shape.Kind.{Kind}
use Rattle.bench_lattice.specs.declared.shape.Kind.TheVariants.{Chain, Ring, Antichain, Dense, Halves}

abbrev pub leads_of : Kind → ℕ → ℕ → ℕ → Bool
leads_of Chain n x y = nat_eq y (x + 1)
leads_of Ring n x y = nat_eq y ((x + 1) % n)
leads_of Antichain n x y = false
leads_of Dense n x y = nat_lt x y
leads_of Halves n x y = nat_lt x (n / 2) && nat_le (n / 2) y
