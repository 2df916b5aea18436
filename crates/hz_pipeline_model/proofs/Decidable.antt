-- What can be decided, and what lists that are made of lists contain.
pub mod DecidedLaws
pub mod FlatLists
