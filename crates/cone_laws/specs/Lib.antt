pub mod Unique
pub mod FreeColumnLaws
pub mod LineLaws
pub mod Faces
pub mod ExtremeLaws
pub mod FeasibilityLaws
