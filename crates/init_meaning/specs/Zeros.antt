-- The type of what a variable holds, as the zero of that type (C11, 6.2.5).
use Rattle.std.specs.Prelude.{map, None, Option, option_map}
use Rattle.w2c_base.specs.Values.{value, type_of}
use Rattle.w2c_base.specs.Lookup.{named}
use Rattle.c_meaning.specs.State.{Name, CValue, Number, Pointer, FuncPointer, Vars}

-- the zero of a value's type (C11, 6.2.5)
abbrev pub zero_like : CValue → CValue
zero_like (Number v) = Number (value (type_of v) 0)
zero_like (Pointer to) = Pointer None
zero_like (FuncPointer to) = FuncPointer None

-- variables, of which each holds the zero of its type
abbrev pub zeroed : Vars → Vars
zeroed vars = map (λ v. (v.0, zero_like v.1)) vars

abbrev pub held : Name → Vars → Option CValue
held name vars = option_map zero_like (named name vars)
