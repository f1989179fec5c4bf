pub mod NumberLaws
pub mod ResidueLaws
pub mod ResidueBounds
pub mod PlaceLaws
pub mod LaneLaws
pub mod TokenLaws
