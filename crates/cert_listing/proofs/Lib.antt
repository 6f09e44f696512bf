pub mod Instants
pub mod Listings
