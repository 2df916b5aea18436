pub mod JoinLemmas
pub mod PairLemmas
