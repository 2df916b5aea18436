pub mod JoinLaws
pub mod TwoLaws
pub mod OneOfTwo
