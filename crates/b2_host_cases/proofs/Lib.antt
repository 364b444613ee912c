pub mod MayStart
