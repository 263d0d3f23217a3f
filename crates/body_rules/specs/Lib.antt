pub mod Declared
pub mod BodiesAreProper
