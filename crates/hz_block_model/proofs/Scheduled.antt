-- What schedules keep of their block.
pub mod FirstLaws
pub mod GraphLaws
pub mod BlockLaws
pub mod FaultLaws
