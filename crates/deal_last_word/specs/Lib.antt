pub mod LastWord
