-- Items of lists: the next, the first, the earliest.
pub mod Next
pub mod FirstOf
pub mod Earliest
pub mod InOrder
