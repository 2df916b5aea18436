-- That every block has a schedule.
pub mod LeftLaws
pub mod GreedyLaws
pub mod AfterLaws
pub mod CostLaws
pub mod GraphTotal
pub mod ScheduleTotal
