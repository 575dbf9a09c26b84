pub mod ByTables
pub mod Laws
