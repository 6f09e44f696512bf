pub mod KrlFault
pub mod Subject
pub mod Entry
pub mod Item
pub mod Naming
