pub mod Controls
pub mod Field
pub mod ReadBack
