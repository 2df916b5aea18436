mod CopyLemmas
mod CycleLemmas
mod EdgeLemmas
mod SortLemmas
mod SearchLemmas
mod KernelLemmas
mod WalkingLemmas
mod AdvanceLemmas
mod ScanLemmas
mod DrainLemmas
mod RoomLemmas
mod KeptStates
mod JumpLemmas
mod LaneLemmas
mod HeldLemmas
pub mod RepeatLemmas
