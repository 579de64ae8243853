mod FreeLaws
pub mod CheckLaws
