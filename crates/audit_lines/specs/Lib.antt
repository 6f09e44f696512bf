pub mod Front
pub mod Why
pub mod FaultText
pub mod Outcome
pub mod Keyless
