mod Answered
mod Checked
mod Endings
mod Filed
