pub mod BlobLaws
pub mod ColumnLaws
pub mod NameLaws
pub mod PlaceLaws
pub mod ReadingLaws
pub mod SearchLaws
pub mod WordLaws
