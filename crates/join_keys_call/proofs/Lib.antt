pub mod InTurn
pub mod JoinedTables
