pub mod Numbers
pub mod Points
pub mod Tests
