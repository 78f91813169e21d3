pub mod Hinting
pub mod Lacking
pub mod Storing
pub mod Rooms
pub mod Bringing
pub mod Numbering
pub mod Reserving
