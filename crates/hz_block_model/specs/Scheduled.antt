-- What schedules keep of their block.
pub mod BlockGraphs
pub mod BlockSchedules
