pub mod FileFault
pub mod SpecCause
pub mod Causes
pub mod Named
pub mod RunFault
pub mod Keys
pub mod FileKeys
pub mod Sizes
