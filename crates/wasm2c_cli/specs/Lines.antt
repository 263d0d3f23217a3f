-- The one line on the error stream, and the status that goes with it.
use Rattle.std.specs.Prelude.{◌≡◌, ◌⊎◌, ℕ, List, ◌++◌, codes, decimal, string_bytes}
use Rattle.w2c_io.specs.Contents.{Name}
use Rattle.wasm_spelling.specs.FaultTexts.{cause_text, which_text}
use Rattle.wasm_typing.specs.CauseTexts.{cause_text as rule_text}
use Rattle.wasm2c_cli.specs.declared.stop.Reason.{Reason}
use Rattle.wasm2c_cli.specs.declared.stop.Reason.TheVariants.{Malformed, Float, Limit, Invalid}
use Rattle.wasm2c_cli.specs.declared.stop.Stop.{Stop}
use Rattle.wasm2c_cli.specs.declared.stop.Stop.TheVariants as stops

abbrev pub reason_text : Reason → List ℕ
reason_text (Malformed place cause) = codes "malformed at " ++ decimal place ++ codes ": " ++ cause_text cause
reason_text (Float place) = codes "float at " ++ decimal place
reason_text (Limit place which) = codes "limit at " ++ decimal place ++ codes ": " ++ which_text which
reason_text (Invalid place cause) = codes "invalid at " ++ decimal place ++ codes ": " ++ rule_text cause

abbrev pub usage_line : List ℕ
usage_line = codes "wasm2c: bad command line\n"

abbrev pub refused_line : Name → Reason → List ℕ
refused_line name reason = codes "wasm2c: " ++ name ++ codes ": " ++ reason_text reason ++ codes "\n"

abbrev pub read_line : Name → List ℕ
read_line name = codes "wasm2c: " ++ name ++ codes ": read fault\n"

abbrev pub write_line : Name → List ℕ
write_line name = codes "wasm2c: " ++ name ++ codes ": write fault\n"

abbrev pub memory_line : List ℕ
memory_line = codes "wasm2c: want of memory\n"

-- what was generated: so many functions, whose module's file has so many bytes
abbrev pub summary_line : ℕ → ℕ → List ℕ
summary_line count bytes =
    codes "wasm2c: gen " ++ decimal count ++ codes ": " ++ decimal bytes ++ codes " bytes, " ++ decimal count ++ codes " functions\n"

abbrev pub line_for : Stop → List ℕ
line_for stops.Usage = usage_line
line_for (stops.Refused name reason) = refused_line (string_bytes name) reason
line_for (stops.Unread name) = read_line (string_bytes name)
line_for (stops.Unwritten name) = write_line (string_bytes name)
line_for stops.Memory = memory_line

-- one of the lines that the program has
abbrev pub IsLine : List ℕ → Type 0
IsLine line = ((stop : Stop) × (line ≡ line_for stop)) ⊎ ((count : ℕ) × (bytes : ℕ) × (line ≡ summary_line count bytes))

abbrev pub status_of : Stop → ℕ
status_of stops.Usage = 2
status_of (stops.Refused name reason) = 1
status_of (stops.Unread name) = 3
status_of (stops.Unwritten name) = 4
status_of stops.Memory = 5
