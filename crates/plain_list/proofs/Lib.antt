pub mod LinesRead
pub mod Keys
pub mod Revoked
pub mod DsaLines
