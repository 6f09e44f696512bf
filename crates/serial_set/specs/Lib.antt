pub mod BitFault
pub mod BitRuns
pub mod Finished
pub mod Joined
pub mod Laws
pub mod Near
pub mod Span
pub mod Iteration
