pub mod SumLaws
pub mod SetLaws
pub mod CountLaws
pub mod ResidueLaws
pub mod Primes
