pub mod JoinKeys
