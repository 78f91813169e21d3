mod AfterRun
mod Founding
