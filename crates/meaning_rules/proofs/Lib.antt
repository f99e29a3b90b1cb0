pub mod Equalities
pub mod Indexed
pub mod Reading
pub mod CopyLaws
