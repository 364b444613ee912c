pub mod Housed
