-- The texts of traces, and the traces that a drill draws.
pub mod TraceLaws
pub mod LineLaws
pub mod WordLaws
pub mod NameLaws
pub mod DrillLaws
pub mod TurnLaws
