pub mod PositionLaws
pub mod CallerLaws
