pub mod Kind
pub mod KeyFault
pub mod Key
pub mod KeyReading
pub mod Value
pub mod FirstFault
pub mod Fields
pub mod Layout
