mod RowLines
mod Shorter
mod Shown
mod SoFar
