-- That descriptions within their limits have machines.
pub mod NumberingLaws
pub mod NumberedTables
pub mod ApartReported
pub mod LeastTables
pub mod AscendingLists
pub mod AutomatonTotal
pub mod AskedRows
pub mod PartTotal
pub mod MachineTotal
