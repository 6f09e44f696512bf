pub mod Checking
pub mod Counting
pub mod Nobody
pub mod CountedAuthorities
pub mod Marked
