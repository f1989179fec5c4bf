pub mod OneVerdict
pub mod OneStatus
pub mod WhyNot
