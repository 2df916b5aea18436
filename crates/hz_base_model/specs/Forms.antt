-- Forms: trees, their texts, and the faults of a text.
pub mod Trees
pub mod Forms
pub mod FormFronts
