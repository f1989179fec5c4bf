pub mod FormLaws
pub mod CanonicalLaws
pub mod FinestLaws
