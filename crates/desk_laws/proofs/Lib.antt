pub mod Named
pub mod OwnTurns
pub mod OneEdit
pub mod OneTold
pub mod Printed
pub mod OneDialogue
pub mod OtherModels
