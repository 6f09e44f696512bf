pub mod FieldStore
pub mod Buffered
pub mod Reading
