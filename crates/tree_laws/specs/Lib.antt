pub mod Laws
pub mod Parents
pub mod ShownPoints
pub mod ShownRays
pub mod Shown
pub mod ReverseSearch
pub mod Extremes
pub mod ListedVectors
