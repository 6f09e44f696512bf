pub mod Authorities
pub mod Role
pub mod Condition
pub mod Text
pub mod Object
pub mod Check
