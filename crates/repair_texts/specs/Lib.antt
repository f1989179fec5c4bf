pub mod RepairTexts
pub mod Rooms
