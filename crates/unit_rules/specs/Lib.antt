-- promised: cited by the laws
pub mod Shape
-- units by hand, for closed cases alone
pub mod Misshapen
