pub mod Lengths
pub mod LineLengths
pub mod TextLengths
