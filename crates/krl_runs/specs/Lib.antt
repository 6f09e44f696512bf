pub mod Contents
pub mod Query
pub mod Questions
