mod Filled
mod Kept
