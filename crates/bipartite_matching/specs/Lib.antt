pub mod Matchings
