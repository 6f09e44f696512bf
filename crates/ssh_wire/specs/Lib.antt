pub mod Wire
pub mod Reading
pub mod Fault
pub mod Put
pub mod Laws
pub mod Rows
pub mod PullFault
pub mod Ascii
