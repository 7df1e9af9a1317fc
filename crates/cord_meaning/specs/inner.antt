pub mod Running
pub mod Simulation
