-- Tables of the names that were seen.
use Rattle.std.specs.Prelude.{◌≡◌, ◌||◌, ◌&&◌, not, if◌then◌else◌, Bool, List, [], ◌∷◌, ◌++◌, bytes_eq, is_some}
use Rattle.w2c_base.specs.Lookup.{named}
use Rattle.wasm_tree.specs.NamedModule.{NamedModule}
use Rattle.c_tree.specs.Scope.{Name}
use Rattle.c_symbols.specs.Symbols.{Typed, declared_type, symbol_type}

-- this name too, unless it was seen before
abbrev pub SeesMore : {A : Type 0} → List (Name × A) → List (Name × A) → Bool → Name → Type 0
SeesMore after before seen name = (q : Name) → is_some (named q after) ≡ (is_some (named q before) || (not seen && bytes_eq q name))

abbrev pub typed : NamedModule → Name → Typed
typed m name = (name, declared_type (symbol_type m name))

-- the symbol with its type, unless it was seen before
abbrev pub PutsFirst : NamedModule → List Typed → List Typed → Bool → Name → Type 0
PutsFirst m after before seen name = after ≡ before ++ (if seen then [] else typed m name ∷ [])
