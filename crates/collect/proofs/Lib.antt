mod Pasting
mod Entries
mod Certifying
mod Gathering
mod Soundness
