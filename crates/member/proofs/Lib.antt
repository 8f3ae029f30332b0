pub mod Rooms
mod Sheets
mod Planned
