mod NameLemmas
mod TraceLemmas
mod WalkLemmas
mod ReplayerLemmas
pub mod EventLemmas
mod DrillLemmas
