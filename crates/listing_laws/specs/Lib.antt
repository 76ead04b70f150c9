pub mod Lists
pub mod ListedCone
pub mod Prefixes
pub mod Directions
pub mod ConeLaws
pub mod PrefixLaws
pub mod ShowLaws
