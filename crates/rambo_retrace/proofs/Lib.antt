mod FirstSteps
mod Heads
mod StepByStep
mod Stopping
mod WholeLines
pub mod WholeTraces
