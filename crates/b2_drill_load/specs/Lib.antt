pub mod Evaluated
pub mod Texts
pub mod Laws
