pub mod Numbers
pub mod Vectors
pub mod Divisors
pub mod Fractions
pub mod Signs
pub mod Halves
