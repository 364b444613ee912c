pub mod CallsGoThrough
pub mod LinesAreAdded
pub mod FilesLoad
pub mod ListsGrow
