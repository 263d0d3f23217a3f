-- The words of a line, which one space separates.
use Rattle.std.specs.Prelude.{◌≡◌, ℕ, List, [], ◌∷◌, ◌++◌, map, codes}
use Rattle.std.specs.List.{AllByRecursion}
use Rattle.w2c_base.specs.declared.signature.FuncType.{FuncType}
use Rattle.w2c_base.specs.declared.value.Value.{Value}
use Rattle.w2c_base.specs.Values.{IsNumber}
use Rattle.c_meaning.specs.declared.reply.HostReply.{HostReply}
use Rattle.crun_lines.specs.HostLines.{reply_text}
use Rattle.c_meaning.specs.Views.{reply_of}
use Rattle.crun_lines.specs.Words.{name_text, number_text}
use Rattle.journal_lines.specs.declared.line.FunctionLine.{FunctionLine}
use Rattle.journal_lines.specs.declared.line.HostLine.{HostLine}
use Rattle.journal_lines.specs.declared.line.JournalLine.{JournalLine}
use Rattle.journal_lines.specs.declared.line.JournalLine.TheVariants as line
use Rattle.journal_lines.specs.Lines.{result_text, type_text, IsBytes, IsGiven, IsProper}

-- words, then = and one word more
abbrev pub equals : List (List ℕ) → List ℕ → List (List ℕ)
equals words last = words ++ codes "=" ∷ last ∷ []

abbrev pub type_words : FuncType → List (List ℕ)
type_words ty = equals (map type_text ty.params) (result_text ty.result)

abbrev pub call_words : List Value → HostReply → List (List ℕ)
call_words args reply = equals (map number_text args) (reply_text (reply_of reply))

abbrev pub function_words : FunctionLine → List (List ℕ)
function_words f = name_text f.name ∷ type_words f.ty

abbrev pub host_words : HostLine → List (List ℕ)
host_words h = name_text h.host ∷ name_text h.function ∷ call_words h.args h.reply

abbrev pub line_words : JournalLine → List (List ℕ)
line_words (line.Module name) = codes "module" ∷ name_text name ∷ []
line_words (line.Function f) = codes "function" ∷ function_words f
line_words (line.Host h) = codes "host" ∷ host_words h

-- words say this name, function or call
abbrev pub SayName : List (List ℕ) → List ℕ → Type 0
SayName words name = IsBytes name × (words ≡ name_text name ∷ [])

abbrev pub SayFunction : List (List ℕ) → FunctionLine → Type 0
SayFunction words f = IsBytes f.name × (words ≡ function_words f)

abbrev pub SayCall : List (List ℕ) → HostLine → Type 0
SayCall words h = IsBytes h.host × IsBytes h.function × AllByRecursion IsNumber h.args × IsGiven h.reply × (words ≡ host_words h)

abbrev pub SayLine : List (List ℕ) → JournalLine → Type 0
SayLine words l = IsProper l × (words ≡ line_words l)
