pub mod Messages
pub mod PairTable
