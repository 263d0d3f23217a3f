-- The tokens of a text.
use Rattle.std.specs.Prelude.{ℕ, Bool, List, [], ◌++◌, codes}
use Rattle.c_tree.specs.declared.token.Tok.{Tok}
use Rattle.c_tree.specs.declared.token.Tok.TheVariants as tok
use Rattle.c_tree.specs.declared.token.Suffix.{Suffix}
use Rattle.c_tree.specs.declared.token.Suffix.TheVariants.{OfPlain, Of32, Of64}
use Rattle.c_tree.specs.declared.token.Kind.{Kind}
use Rattle.c_tree.specs.declared.token.Kind.TheVariants as kind
use denote.Enum.Bare.{sameb}
use Rattle.c_tree.specs.contracts.token.Tok.{the_type}

-- A token: a fixed text, a name, a number by its digits, or what fits nowhere.
pub data Token : Type 0 where
  Fixed : Tok → Token
  Named : List ℕ → Token
  Number : Suffix → List ℕ → Token
  Wrong : Token

-- the text of a key word, of a sign and of the include line
abbrev pub fixed_text : Tok → List ℕ
fixed_text tok.Include = codes "#include \"w2c_rt.h\"\n"
fixed_text tok.End = []
fixed_text tok.Name = []
fixed_text tok.Plain = []
fixed_text tok.WordStatic = codes "static"
fixed_text tok.WordConst = codes "const"
fixed_text tok.WordVoid = codes "void"
fixed_text tok.WordU8 = codes "u8"
fixed_text tok.WordU32 = codes "u32"
fixed_text tok.WordU64 = codes "u64"
fixed_text tok.WordW2cMem = codes "w2c_mem"
fixed_text tok.WordW2cTab = codes "w2c_tab"
fixed_text tok.WordW2cFn = codes "w2c_fn"
fixed_text tok.WordGoto = codes "goto"
fixed_text tok.WordIf = codes "if"
fixed_text tok.WordSwitch = codes "switch"
fixed_text tok.WordCase = codes "case"
fixed_text tok.WordDefault = codes "default"
fixed_text tok.WordReturn = codes "return"
fixed_text tok.LeftParen = codes "("
fixed_text tok.RightParen = codes ")"
fixed_text tok.LeftBrace = codes "{"
fixed_text tok.RightBrace = codes "}"
fixed_text tok.LeftBracket = codes "["
fixed_text tok.RightBracket = codes "]"
fixed_text tok.Semicolon = codes ";"
fixed_text tok.Comma = codes ","
fixed_text tok.Colon = codes ":"
fixed_text tok.Assign = codes "="
fixed_text tok.Star = codes "*"
fixed_text tok.Amp = codes "&"
fixed_text tok.Plus = codes "+"
fixed_text tok.Minus = codes "-"
fixed_text tok.Slash = codes "/"
fixed_text tok.Percent = codes "%"
fixed_text tok.Bar = codes "|"
fixed_text tok.Caret = codes "^"
fixed_text tok.ShiftLeft = codes "<<"
fixed_text tok.ShiftRight = codes ">>"
fixed_text tok.Equal = codes "=="
fixed_text tok.NotEqual = codes "!="
fixed_text tok.Less = codes "<"
fixed_text tok.LessEqual = codes "<="
fixed_text tok.Greater = codes ">"
fixed_text tok.GreaterEqual = codes ">="

abbrev pub suffix_text : Suffix → List ℕ
suffix_text OfPlain = []
suffix_text Of32 = codes "u"
suffix_text Of64 = codes "ull"

abbrev pub token_text : Token → List ℕ
token_text (Fixed t) = fixed_text t
token_text (Named name) = name
token_text (Number suffix digits) = digits ++ suffix_text suffix
token_text Wrong = []

-- what the grammar looks at in a token
abbrev pub kind_of : Token → Kind
kind_of (Fixed t) = kind.Fixed t
kind_of (Named name) = kind.Name
kind_of (Number suffix digits) = kind.Number suffix
kind_of Wrong = kind.Wrong

abbrev pub same_tok : Tok → Tok → Bool
same_tok a b = sameb the_type a b
