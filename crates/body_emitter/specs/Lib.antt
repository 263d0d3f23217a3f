-- promised: cited by contracts of what is offered
pub mod Marks
pub mod SlotVariables
pub mod Shown
pub mod Made
pub mod MadeBy
pub mod Inside
pub mod Begun
