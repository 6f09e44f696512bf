pub mod Options
pub mod Order
pub mod Command
pub mod Parts
