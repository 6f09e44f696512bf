pub mod Facts
pub mod KeysBy
pub mod Printed
