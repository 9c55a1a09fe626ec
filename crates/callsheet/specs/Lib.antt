pub mod Text
pub mod Windows
pub mod Sheets
pub mod Laws
pub mod Examples
