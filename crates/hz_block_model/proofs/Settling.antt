-- That compiled machines settle.
pub mod RunLaws
pub mod AskedTreatment
pub mod AlikeStates
pub mod PartLaws
pub mod SettleLaws
pub mod DescribedLaws
