pub mod Held
pub mod Desks
pub mod Dialogues
pub mod Answers
