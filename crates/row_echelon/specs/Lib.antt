pub mod Echelons
