pub mod WalkLaws
pub mod ExampleLaws
pub mod WrittenLaws
