-- Forms: trees, their texts, and the faults of a text.
pub mod FormsNext
pub mod FormsLaws
pub mod PushedForms
pub mod FormsFront
