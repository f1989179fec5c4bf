pub mod ListedColumns
pub mod OneNames
pub mod OneText
pub mod ReplyLengths
pub mod SmallModels
pub mod SaidLengths
