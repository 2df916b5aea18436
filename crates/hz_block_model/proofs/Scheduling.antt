-- Legal and greedy schedules.
pub mod OneSchedule
pub mod SameSchedules
pub mod TraceLaws
pub mod StuckLaws
pub mod SlotLaws
pub mod GrowLaws
pub mod AlikeGraphs
