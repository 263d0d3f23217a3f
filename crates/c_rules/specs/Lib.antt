pub mod FirstRule
pub mod UnitNames
