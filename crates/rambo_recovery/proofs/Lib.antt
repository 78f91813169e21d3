mod Holding
mod Naming
mod Owning
mod Sending
mod Stopping
mod Trays
