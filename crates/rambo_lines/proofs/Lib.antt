pub mod Fitting
pub mod LineByLine
pub mod StepShapes
pub mod Texts
pub mod FaultOnce
pub mod Fronts
pub mod BothVersions
pub mod Placing
