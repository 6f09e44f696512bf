pub mod KrlText
pub mod InLimit
pub mod Size
