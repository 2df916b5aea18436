pub mod NamesBack
pub mod ConditionsBack
pub mod FormsBack
