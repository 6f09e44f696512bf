pub mod Escaping
pub mod NoControls
pub mod Objects
pub mod Reread
pub mod Shallow
pub mod SingleLines
pub mod Strings
