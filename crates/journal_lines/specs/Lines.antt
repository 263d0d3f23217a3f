-- The lines of a journal: a host, a function of the host in front of it, and a call of a host.
use Rattle.std.specs.Prelude.{◌≡◌, ℕ, ◌<◌, All, List, ◌++◌, flat_map, codes, IfSome, Option, Some, None, ⊤}
use Rattle.std.specs.List.{AllByRecursion}
use Rattle.w2c_base.specs.declared.signature.FuncType.{FuncType}
use Rattle.w2c_base.specs.declared.value.ValType.{ValType}
use Rattle.w2c_base.specs.declared.value.ValType.TheVariants as type
use Rattle.w2c_base.specs.Values.{IsNumber}
use Rattle.c_meaning.specs.declared.reply.HostReply.{HostReply}
use Rattle.c_meaning.specs.declared.reply.HostReply.TheVariants as reply
use Rattle.crun_lines.specs.HostLines.{replied_line}
use Rattle.c_meaning.specs.Views.{reply_of}
use Rattle.crun_lines.specs.Words.{name_text}
use Rattle.journal_lines.specs.declared.line.JournalLine.{JournalLine}
use Rattle.journal_lines.specs.declared.line.JournalLine.TheVariants as line

abbrev pub type_text : ValType → List ℕ
type_text type.I32 = codes "i32"
type_text type.I64 = codes "i64"

abbrev pub result_text : Option ValType → List ℕ
result_text None = codes "none"
result_text (Some t) = type_text t

-- types behind one another, a space in front of each
abbrev pub spaced_type : ValType → List ℕ
spaced_type t = codes " " ++ type_text t

abbrev pub spaced_types : List ValType → List ℕ
spaced_types types = flat_map spaced_type types

abbrev pub module_line : (name : List ℕ) → List ℕ
module_line name = codes "module " ++ name_text name ++ codes "\n"

abbrev pub function_line : (name : List ℕ) → FuncType → List ℕ
function_line name ty = codes "function " ++ name_text name ++ spaced_types ty.params ++ codes " = " ++ result_text ty.result ++ codes "\n"

abbrev pub line_text : JournalLine → List ℕ
line_text (line.Module name) = module_line name
line_text (line.Function f) = function_line f.name f.ty
line_text (line.Host h) = replied_line h.host h.function h.args (reply_of h.reply)

-- a name that hosts and functions can have
abbrev pub IsBytes : List ℕ → Type 0
IsBytes name = All (λ b. b < 256) name

-- a reply that hosts can give
abbrev pub IsGiven : HostReply → Type 0
IsGiven (reply.Value v) = IfSome v IsNumber
IsGiven reply.Trap = ⊤

-- names are of bytes, and values are numbers of their types
abbrev pub IsProper : JournalLine → Type 0
IsProper (line.Module name) = IsBytes name
IsProper (line.Function f) = IsBytes f.name
IsProper (line.Host h) = IsBytes h.host × IsBytes h.function × AllByRecursion IsNumber h.args × IsGiven h.reply

-- a text, without the newline that ends it, says this
abbrev pub IsLine : List ℕ → JournalLine → Type 0
IsLine text l = IsProper l × (line_text l ≡ text ++ codes "\n")
