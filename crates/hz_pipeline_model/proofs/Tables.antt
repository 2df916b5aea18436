-- Tables, what is walked in them, and machines of tables.
pub mod TableLaws
pub mod MachineLaws
