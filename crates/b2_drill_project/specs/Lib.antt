pub mod Project
pub mod Loaded
pub mod Laws
