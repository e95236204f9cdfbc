pub mod PairLemmas
pub mod RecordLines
pub mod Reading
