pub mod Resumings
