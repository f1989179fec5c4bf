pub mod RisingLists
pub mod SameLayers
pub mod OneMatrix
pub mod PlacedLists
pub mod PlacedRows
pub mod AgreedForms
