pub mod Alike
pub mod Samples
-- what a simulation keeps, body by body
pub mod Passing
pub mod Agree
pub mod CallsFollow
pub mod Objects
pub mod Defines
pub mod Placed
