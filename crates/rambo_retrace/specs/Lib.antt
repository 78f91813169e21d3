pub mod Retraces
