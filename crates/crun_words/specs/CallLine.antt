-- A line of a calls file: an escaped module name, an escaped export name, and numbers, with one space between words.
use Rattle.std.specs.Prelude.{◌≡◌, ℕ, ◌<◌, ◌^◌, ◌==◌, All, List, [], ◌∷◌, length, map, codes, Some}
use Rattle.std.specs.List.{slice_split}
use Rattle.w2c_mangle.specs.Escaping.{escaped}
use Rattle.w2c_mangle.specs.Symbols.{export_symbol_of}
use Rattle.w2c_mangle.specs.declared.symbol.SymbolKind.TheVariants.{Func}
use Rattle.crun_words.specs.Numbers.{number_below}

-- the words of a line are what stands between its spaces
abbrev pub words_in : List ℕ → List (List ℕ)
words_in line = slice_split (λ b. b == 32) line

-- a name that modules and exports can have
abbrev pub IsBytes : List ℕ → Type 0
IsBytes name = All (λ b. b < 256) name

-- an export's name as a word: its escape, or Z for the empty name
abbrev pub word_of_name : List ℕ → List ℕ
word_of_name [] = codes "Z"
word_of_name (b ∷ name) = escaped (b ∷ name)

-- the words of a module and of an export name this symbol of a function
pub record IsSymbolOf (module_word export_word symbol : List ℕ) : Type 0 where
  pub module_name : List ℕ
  pub export_name : List ℕ
  pub module_bytes : IsBytes module_name
  pub export_bytes : IsBytes export_name
  pub module_is_there : 0 < length module_name
  pub module_is : module_word ≡ escaped module_name
  pub export_is : export_word ≡ word_of_name export_name
  pub symbol_is : symbol ≡ export_symbol_of module_name Func export_name

-- each word writes its number: 1 to 20 decimal digits, below 2^64
abbrev pub AreNumbers : List (List ℕ) → List ℕ → Type 0
AreNumbers words numbers = map (number_below (2 ^ 64)) words ≡ map (λ n. Some n) numbers

-- what a line says: the symbol of a function, and the numbers that it is called with
pub record Call : Type 0 where
  pub symbol : List ℕ
  pub numbers : List ℕ

-- the words of a module, of an export, and of numbers say this call
pub record SayCall (words : List (List ℕ)) (call : Call) : Type 0 where
  pub module_word : List ℕ
  pub export_word : List ℕ
  pub number_words : List (List ℕ)
  pub words_are : words ≡ module_word ∷ export_word ∷ number_words
  pub symbol : IsSymbolOf module_word export_word call.symbol
  pub numbers : AreNumbers number_words call.numbers

-- a line says this call
abbrev pub SaysCall : List ℕ → Call → Type 0
SaysCall line call = SayCall (words_in line) call
