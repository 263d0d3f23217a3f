-- The C identifiers by which translation units name each other's exports and init functions.
use Rattle.std.specs.Prelude.{ℕ, ◌==◌, ◌||◌, Bool, IsTrue, nat_eq, List, [], ◌∷◌, ◌++◌, codes}
use Rattle.std.specs.Char.{is_ascii_alphanumeric}
use Rattle.std.specs.List.{AllPass, starts_with}
use Rattle.w2c_mangle.specs.declared.symbol.SymbolKind.{SymbolKind}
use Rattle.w2c_mangle.specs.declared.symbol.SymbolKind.TheVariants.{Func, Table, Memory, Const, Var}
use Rattle.w2c_mangle.specs.Escaping.{escaped}

-- f, t, m, c, v
abbrev pub kind_letter : SymbolKind → ℕ
kind_letter Func = 102
kind_letter Table = 116
kind_letter Memory = 109
kind_letter Const = 99
kind_letter Var = 118

-- w2cZ_, the module, Z_, the kind, Z_, the export's name
abbrev pub export_symbol_of : List ℕ → SymbolKind → List ℕ → List ℕ
export_symbol_of module_name kind name =
    codes "w2cZ_" ++ escaped module_name ++ codes "Z_" ++ kind_letter kind ∷ [] ++ codes "Z_" ++ escaped name

-- w2cZ_, the module, Z_i
abbrev pub init_symbol_of : List ℕ → List ℕ
init_symbol_of module_name = codes "w2cZ_" ++ escaped module_name ++ codes "Z_i"

-- a letter, a digit or _
abbrev pub is_identifier_character : ℕ → Bool
is_identifier_character b = is_ascii_alphanumeric b || b == 95

-- a C identifier (C11, 6.4.2.1) of ASCII letters, digits and _ that begins with w2cZ_
pub record IsSymbol (text : List ℕ) : Type 0 where
  pub characters : AllPass is_identifier_character text
  pub begins : IsTrue (starts_with nat_eq text (codes "w2cZ_"))
