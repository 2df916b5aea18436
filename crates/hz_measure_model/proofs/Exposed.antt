pub mod LastLaws
pub mod ApartLaws
pub mod TimedLaws
pub mod AscendingLaws
pub mod RangeLaws
