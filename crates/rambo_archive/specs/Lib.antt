pub mod Archives
pub mod OpenFaults
