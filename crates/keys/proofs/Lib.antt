-- The laws and theorems of keys: lists, numbers in groups, headers of a list that is cut, marks and their
-- counts, parts, opening, and the promises. Assumes nothing.
pub mod Lists
pub mod Numbers
pub mod Cut
pub mod Marks
pub mod Counting
pub mod Parts
pub mod Accepted
pub mod Opening
pub mod Lending
pub mod Dealing
pub mod Promise
pub mod Document03
pub mod Holding
pub mod DealtSeeds
