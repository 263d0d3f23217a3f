-- An accepted module keeps within the limits of what is read.
use Rattle.unit_definition.proofs.Common.{NamedModule, within_of, HasLimits, IsAccepted}

pub accepted_limits : {m : NamedModule} → IsAccepted m → HasLimits m.tree
accepted_limits {m} a = within_of m.tree a.within
