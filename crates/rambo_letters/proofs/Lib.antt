pub mod Lists
mod Sharing
