-- Which texts are journals, and the first line of another text that is refused.
use Rattle.std.specs.Prelude.{◌≡◌, ◌==◌, ℕ, ◌+◌, true, List, [], ◌∷◌, ◌++◌, length, slice_get, codes, Option, Some, option_map}
use Rattle.std.specs.List.{slice_split}
use Rattle.w2c_base.specs.Lookup.{if_found}
use Rattle.w2c_base.specs.Run.{Host, HostFunction}
use Rattle.w2c_mangle.specs.declared.symbol.SymbolKind.TheVariants as symbol
use Rattle.w2c_mangle.specs.Symbols.{export_symbol_of}
use Rattle.journal_lines.specs.declared.line.FunctionLine.{FunctionLine}
use Rattle.journal_lines.specs.declared.line.HostLine.{HostLine}
use Rattle.journal_lines.specs.declared.line.JournalLine.{JournalLine}
use Rattle.journal_lines.specs.declared.line.JournalLine.TheVariants as line
use Rattle.journal_lines.specs.Lines.{line_text, IsProper}
use Rattle.c_hosts.specs.declared.journal.Asked.{Asked}
use Rattle.host_replay.specs.Fitting.{fits}
use Rattle.host_replay.specs.Texts.{Recorded}

-- the symbol of a module's function
abbrev pub symbol_of : Host → HostFunction → List ℕ
symbol_of m f = export_symbol_of m.name symbol.Func f.name

-- the same by the numbers of both
abbrev pub symbol_at : List Host → ℕ → ℕ → Option (List ℕ)
symbol_at hosts h f = if_found (slice_get hosts h) (λ m. option_map (symbol_of m) (slice_get m.functions f))

-- some function has the symbol
abbrev pub IsOffered : List Host → List ℕ → Type 0
IsOffered hosts s = (h : ℕ) × (f : ℕ) × (symbol_at hosts h f ≡ Some s)

abbrev pub named_function : FunctionLine → HostFunction
named_function f = record { name = f.name; ty = f.ty }

abbrev pub with_function : Host → HostFunction → Host
with_function m f = record { name = m.name; functions = m.functions ++ f ∷ [] }

-- nothing was asked yet: a module more
pub record AddsModule (before : Recorded) (name : List ℕ) (after : Recorded) : Type 0 where
  pub no_entries : before.entries ≡ []
  pub after_is : after ≡ record { hosts = before.hosts ++ record { name = name; functions = [] } ∷ []; entries = [] }

-- nothing was asked yet: a function more of the last module, with a symbol that no function has
pub record AddsFunction (before : Recorded) (f : FunctionLine) (after : Recorded) : Type 0 where
  pub front : List Host
  pub last : Host
  pub hosts_are : before.hosts ≡ front ++ last ∷ []
  pub no_entries : before.entries ≡ []
  pub is_new : IsOffered before.hosts (symbol_of last (named_function f)) → ⊥
  pub after_is : after ≡ record { hosts = front ++ with_function last (named_function f) ∷ []; entries = [] }

-- a call more of a function that is there, with arguments and a reply of its types
pub record AddsEntry (before : Recorded) (call : HostLine) (after : Recorded) : Type 0 where
  pub entry : Asked
  pub is_offered : symbol_at before.hosts entry.host entry.function ≡ Some (export_symbol_of call.host symbol.Func call.function)
  pub args_are : entry.args ≡ call.args
  pub reply_is : entry.reply ≡ call.reply
  pub fitting : fits before.hosts entry ≡ true
  pub after_is : after ≡ record { hosts = before.hosts; entries = before.entries ++ entry ∷ [] }

-- what a line adds to what the lines in front of it have made known
abbrev pub Adds : Recorded → JournalLine → Recorded → Type 0
Adds before (line.Module name) after = AddsModule before name after
Adds before (line.Function f) after = AddsFunction before f after
Adds before (line.Host call) after = AddsEntry before call after

-- a line, with the newline that ends it, says this
abbrev pub Says : List ℕ → JournalLine → Type 0
Says text l = IsProper l × (line_text l ≡ text)

-- lines in order, each given what those in front of it have made known
abbrev pub Read : Recorded → List (List ℕ) → Recorded → Type 0
Read before [] after = after ≡ before
Read before (text ∷ lines) after = (l : JournalLine) × (middle : Recorded) × Says text l × Adds before l middle × Read middle lines after

-- each part with the newline behind it; behind the last there is none, and it is no line where it is empty
abbrev pub ended : List (List ℕ) → List (List ℕ)
ended [] = []
ended ([] ∷ []) = []
ended ((b ∷ part) ∷ []) = (b ∷ part) ∷ []
ended (part ∷ next ∷ parts) = (part ++ codes "\n") ∷ ended (next ∷ parts)

-- the lines of a text, each with the newline that ends it, the last one maybe without
abbrev pub lines_of : List ℕ → List (List ℕ)
lines_of text = ended (slice_split (λ b. b == 10) text)

abbrev pub empty : Recorded
empty = record { hosts = []; entries = [] }

-- a text is this journal
abbrev pub IsJournal : List ℕ → Recorded → Type 0
IsJournal text j = Read empty (lines_of text) j

-- of these lines the one with this number, from 1, says nothing that could be added, and it is the first
pub record IsRefused (lines : List (List ℕ)) (number : ℕ) : Type 0 where
  pub front : List (List ℕ)
  pub text_line : List ℕ
  pub rest : List (List ℕ)
  pub lines_are : lines ≡ front ++ text_line ∷ rest
  pub number_is : number ≡ length front + 1
  pub known : Recorded
  pub read : Read empty front known
  pub refused : (l : JournalLine) (after : Recorded) → Says text_line l → Adds known l after → ⊥

-- the first line of a text that is refused has this number
abbrev pub IsRefusedAt : List ℕ → ℕ → Type 0
IsRefusedAt text number = IsRefused (lines_of text) number
