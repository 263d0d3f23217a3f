-- Why a command's line is not written, as why the report stops.
use Rattle.wast_run.proofs.Common.{◌≡◌, ℕ, ◌+◌, ◌≤◌, List, ◌∷◌, ◌++◌, length, Option, sym, ◌∙◌, subst, inl, inr, length-map, rose_from}
use Rattle.wast_run.proofs.Common.{Name, Told, SaysPart, Tells, Command, Reason, Unread, Unwritten, WantOfMemory, seen_command}
use Rattle.wast_run.proofs.Common.{seen_commands, Comes, IsTimely, Setting, at_first, command_line, total_line, HasGained, StopsLine}
use Rattle.wast_run.proofs.Common.{StopsReport, IsBehind, StopsTelling, Word}
use Rattle.wast_script.specs.declared.command.Command.{Command as CodeCommand}
use Rattle.wast_run.proofs.PartLaws.{gained_lines, gained_part, gained_total, lead_plain, lead_there}

-- a command has come to its word, and its line is not written
pub line_stops : (told : Told) (steps index : ℕ) (at : Setting) (command : Command) (w : Word) (after : Setting) (reads reads' : ℕ)
    (named : Option Name) (old new : Option (List ℕ)) (faults faults' : ℕ) (why : Reason)
    → Tells told (λ m. Comes m steps at command w after) → IsTimely steps at command w
    → SaysPart old new (command_line (index + 1) w) → StopsLine faults faults' why
    → StopsTelling told steps index at command reads reads' named old new faults faults' why
line_stops told steps index at command w after reads reads' named old new faults faults' Unwritten comes timely said rose =
    (rose, λ m tells. inr (w, after, comes m tells, timely, said))
line_stops told steps index at command w after reads reads' named old new faults faults' WantOfMemory comes timely said stop =
    λ m tells. inr (w, after, comes m tells, timely, said)
line_stops told steps index at command w after reads reads' named old new faults faults' _ comes timely said stop = absurd stop

module _ (told : Told) (steps : ℕ) (commands : List Command) (start reads reads' : ℕ) (named : Option Name)
    (old now new : Option (List ℕ)) (first faults faults' : ℕ) (ok : ℕ) (at : Setting) (later : first ≤ faults) where
  pub telling_stops : (front rest : List Command) (command : Command) (index : ℕ) (why : Reason)
      → commands ≡ front ++ command ∷ rest → length front ≡ index → start ≤ reads
      → Tells told (λ m. IsBehind m steps front at old now ok)
      → StopsTelling told steps index at command reads reads' named now new faults faults' why
      → StopsReport told steps commands start reads' named old new first faults' why
  telling_stops front rest command index (Unread file) split many before behind (names, inl faulted, same) = (
    record { front = front; command = command; rest = rest; split = split; names = names },
    inl (record { rose = rose_from start reads reads' before faulted.rose; named = faulted.named }),
    λ m tells. rw same (gained_lines m steps commands front (command ∷ rest) split at old now ok (behind m tells)),
  )
  telling_stops front rest command index (Unread file) split many before behind (names, inr (m, tells, missing), same) = (
    record { front = front; command = command; rest = rest; split = split; names = names },
    inr (
      m,
      tells,
      record {
        front = front;
        command = command;
        rest = rest;
        split = split;
        there = let b = behind m tells in
            lead_there m steps at_first front b.words at (lead_plain m steps at_first front b.words at b.lead);
        names = names;
        missing = missing;
      },
    ),
    λ m tells. rw same (gained_lines m steps commands front (command ∷ rest) split at old now ok (behind m tells)),
  )
  telling_stops front rest command index Unwritten split many before behind (rose, part) = (
    rose_from first faults faults' later rose,
    λ m tells. gained_part m steps commands front rest command index at old now new ok split many (behind m tells) (part m tells),
  )
  telling_stops front rest command index WantOfMemory split many before behind part =
      λ m tells. gained_part m steps commands front rest command index at old now new ok split many (behind m tells) (part m tells)
  telling_stops front rest command index _ split many before behind stop = absurd stop

pub many_seen : (commands : List CodeCommand) (n : ℕ) → n ≡ length commands → n ≡ length (seen_commands commands)
many_seen commands n is = is ∙ sym (length-map commands seen_command)

-- all lines are written, and the last is not
pub total_stops : (told : Told) (steps : ℕ) (commands : List Command) (start reads : ℕ) (named : Option Name)
    (old now new : Option (List ℕ)) (first faults faults' ok total : ℕ) (why : Reason) → first ≤ faults → total ≡ length commands
    → Tells told (λ m. (at : Setting) × IsBehind m steps commands at old now ok)
    → SaysPart now new (total_line total ok) → StopsLine faults faults' why
    → StopsReport told steps commands start reads named old new first faults' why
total_stops told steps commands start reads named old now new first faults faults' ok total why later many behind part stop = by why stop
  where
    gained : Tells told (λ m. HasGained m steps commands old new)
    gained m tells = let b = behind m tells in
        gained_total m steps commands b.0 old now new ok b.1 (subst (λ n. SaysPart now new (total_line n ok)) many part)

    by : (why : Reason) → StopsLine faults faults' why → StopsReport told steps commands start reads named old new first faults' why
    by Unwritten rose = (rose_from first faults faults' later rose, gained)
    by WantOfMemory stop = gained
    by _ stop = absurd stop
