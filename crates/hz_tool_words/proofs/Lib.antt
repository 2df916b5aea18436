mod TableLemmas
mod OperandLemmas
mod ArgumentLemmas
