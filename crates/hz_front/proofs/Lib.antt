pub mod AnswerLemmas
pub mod FaultLines
pub mod JudgeLemmas
pub mod ReadLemmas
pub mod RefusingLemmas
pub mod RunLemmas
pub mod TraceLemmas
