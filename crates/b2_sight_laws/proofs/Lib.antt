pub mod EveryMatchIsDecided
pub mod PuttingKeepsListsRising
pub mod NamesAtPaths
pub mod SightOfDisk
pub mod SettingOfDisk
