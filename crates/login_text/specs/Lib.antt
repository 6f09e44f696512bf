pub mod Asked
pub mod Object
pub mod Outcome
pub mod Text
pub mod Why
