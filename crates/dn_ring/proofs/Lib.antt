pub mod OwnerLaws
pub mod PointLaws
pub mod NearestLaws
pub mod ArcLaws
pub mod SweepLaws
