pub mod Reading
pub mod HeldRows
pub mod Bundles
pub mod Words
pub mod Division
pub mod Program
pub mod Parts
