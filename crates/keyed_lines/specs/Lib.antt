pub mod KeyCause
pub mod Keys
