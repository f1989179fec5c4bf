pub mod HeldLaws
pub mod DeskLaws
