-- Which grids and states events lead to, and how many.
pub mod LeavingLaws
pub mod StepLaws
pub mod PathLaws
pub mod Spelling
pub mod WordLaws
pub mod CountLaws
pub mod SubsetLaws
pub mod AutomatonLaws
pub mod LimitLaws
pub mod HeldLaws
