pub mod Cursors
pub mod Drive
pub mod Files
pub mod Pages
pub mod Sink
pub mod Slurp
pub mod Tape
