pub mod Hex
pub mod Lots
pub mod LotBlocks
pub mod Sample
pub mod Judging
