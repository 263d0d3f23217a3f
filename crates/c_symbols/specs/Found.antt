-- Tables of symbols, by the types that they give.
use Rattle.std.specs.Prelude.{◌≡◌, List, option_map}
use Rattle.std.specs.Option.{option_or}
use Rattle.w2c_base.specs.Lookup.{named}
use Rattle.c_tree.specs.Scope.{Name}
use Rattle.c_symbols.specs.Symbols.{Typed}
use Rattle.c_symbols.specs.declared.types.SymbolType.{SymbolType}
use Rattle.c_symbols.specs.Typed.{type_of}

-- each name stands for the type that the list has first beside it
abbrev pub FindsTypes : List (Name × SymbolType) → List Typed → Type 0
FindsTypes table entries = (q : Name) → option_map type_of (named q table) ≡ named q entries

-- and behind what an earlier table finds
abbrev pub FindsMore : List (Name × SymbolType) → List (Name × SymbolType) → List Typed → Type 0
FindsMore after before entries = (q : Name)
    → option_map type_of (named q after) ≡ option_or (option_map type_of (named q before)) (named q entries)
