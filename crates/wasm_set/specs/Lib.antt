-- promised
pub mod Sets
-- tools
pub mod Offers
pub mod Joining
pub mod Tables
