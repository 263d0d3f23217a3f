-- What passes through the files, part by part.
use Rattle.wast_run.proofs.Common.{◌≡◌, ℕ, suc, ◌+◌, ◌≤◌, Bool, ◌⊎◌, List, [], ◌∷◌, ◌++◌, length, if◌then◌else◌, ◌==◌, Some, None, Ok, Err}
use Rattle.wast_run.proofs.Common.{Option, MatchOption, sym, refl, ap, ◌∙◌, subst, inl, inr, append_assoc, append-nil, both_passed, HasFile}
use Rattle.wast_run.proofs.Common.{file_told, no_file_told, none_passed, passed_so, none-some, HasNoFile, IsUnreadFile, StopsFile}
use Rattle.wast_run.proofs.Common.{StopsScript, Tells, FileVerdict, StopsCommand, Comes, IsFile, IsPrefix, Name, Told, extended, Event}
use Rattle.wast_run.proofs.Common.{Read, Passes, SaysPart, Module, Line, most_module_bytes, extended_twice, prefix_behind, prefix_in_front}
use Rattle.wast_run.proofs.Common.{prefix_of_itself, whole_behind, Usage, line_of, Command, ModuleFile, Reason, Refused, Unread, Unwritten}
use Rattle.wast_run.proofs.Common.{WantOfMemory, error_line, status_of, IsScript, most_script_bytes, ScriptFault, GivesFirst, Reports}
use Rattle.wast_run.proofs.Common.{Stops, says_invalid, says_malformed, Word, tree_of, file_of, lines_before, Answer, ComesOver, DoesLine}
use Rattle.wast_run.proofs.Common.{Ending, EndsSo, IsJobBy, IsNoFile, IsReadAs, LastLines, LastReads, LeadOver, PassesFor, ReportsOver}
use Rattle.wast_run.proofs.Common.{StopsIn, WantsMemory, module_read, script_read, HasReportedOver, IsBehindOver, IsFaultBy, IsOfLine}
use Rattle.wast_run.proofs.Common.{IsStopBy, JudgesFile, JudgesSo, ReadsScript, StopsOver, StopsRead, StopsScriptOver, StopsTellingOver}
use Rattle.wast_run.proofs.Common.{TellsOver, ComesBy, IsTimely, Joins, Setting, accepted_tree, at_first, command_line, holds, is_invalid}
use Rattle.wast_run.proofs.Common.{is_malformed, is_ok, lines_of, ok_count, total_line, StopsLine, StopsWords, Judged, IsFault}
use Rattle.w2c_io.specs.Causes.{ReadCause, name_after_read}
use Rattle.w2c_io.specs.declared.answers.ReadAnswer.{ReadAnswer}
use Rattle.w2c_io.specs.declared.answers.ReadAnswer.TheVariants as reading
use Rattle.w2c_io.specs.declared.files.Files.{Ghosts as Files}
use Rattle.wast_script.specs.Commands as script
use Rattle.wast_script.specs.declared.fault.ScriptFault.TheVariants as fault
use Rattle.wast_run.specs.Stopping.{IsUnreadStop, fault_reason}
use Rattle.wast_run.specs.declared.judging.Judged.TheVariants as judged
use Rattle.wast_run.specs.declared.word.Word.TheVariants as word
use Rattle.wast_run.proofs.Comings.{IsSaid}
use Rattle.wast_run.proofs.WordLines.{count_more, line_more, lines_in_front}

-- ---- a file that is read: that of a module

module _ {F : Type 0} (files : Files F) (old new : F) (name : Name) where
  -- bytes that were read are judged
  pub judged_read : (bytes : List ℕ) (j : Judged) → files.trace new ≡ files.trace old ++ Read name most_module_bytes (Ok bytes) ∷ []
      → length bytes ≤ most_module_bytes → IsSaid bytes j → Passes (files.trace old) (files.trace new) (JudgesFile name j)
  judged_read bytes j is short (verdict, said, agrees) =
      (module_read name (Ok bytes), is, (Some verdict, (Ok bytes, refl, (short, said)), agrees))

  pub long_read : (why : ReadAnswer) → why ≡ reading.TooLong
      → files.trace new ≡ files.trace old ++ Read name most_module_bytes (Err why) ∷ []
      → Passes (files.trace old) (files.trace new) (JudgesFile name judged.Beyond)
  long_read why long is =
      let read = ap (λ w. module_read name (Err w)) long in
      (module_read name (Err why), is, (None, (Err reading.TooLong, read, refl), record { tree = refl; invalid = refl; malformed = refl }))

  -- memory was wanting in the read or behind it
  pub read_without_memory : (answer : Answer) → files.trace new ≡ files.trace old ++ Read name most_module_bytes answer ∷ []
      → Passes (files.trace old) (files.trace new) (StopsRead name WantOfMemory)
  read_without_memory answer is = (module_read name answer, is, (answer, refl))

  -- a stop at the file of a module, and one at the script: why, over what the files tell and over what passed
  abbrev pub FileStops : Reason → Type 0
  FileStops why = StopsFile (files.told old) name (files.read_faults old) (files.read_faults new) (files.fault_name new) why
      × Passes (files.trace old) (files.trace new) (StopsRead name why)

  abbrev pub ScriptStops : Reason → Type 0
  ScriptStops why = StopsScript (files.told old) name (files.read_faults old) (files.read_faults new) (files.fault_name new) why
      × Passes (files.trace old) (files.trace new) (StopsScriptOver name why)

  -- The file can't be had: a read of it failed, or it is told not to be there.
  unread : (answer : Answer) → IsNoFile answer → (answer ≡ Err reading.Absent → HasNoFile (files.told old) name)
      → ReadCause (files.read_faults old) (files.read_faults new) answer
      → files.fault_name new ≡ name_after_read answer (Some name) (files.fault_name old)
      → IsUnreadFile (files.told old) name (files.read_faults old) (files.read_faults new) (files.fault_name new)
  unread (Err reading.Absent) none absent cause named = inr (no_file_told (files.told old) name (absent refl))
  unread (Err reading.Failed) none absent cause named = inl (record { rose = cause.failed refl; named = named })
  unread _ none absent cause named = absurd none

  -- a stop at it has its name, unless memory was wanting
  by_stop : (P : Reason → Type 0) (why : Reason) → IsUnreadStop name why → P (Unread name) → P WantOfMemory → P why
  by_stop P why (inl is) there wanted = subst P (sym is) there
  by_stop P why (inr is) there wanted = subst P (sym is) wanted

  module _ (answer : Answer) (why : Reason) (stop : IsUnreadStop name why) (none : IsNoFile answer)
      (absent : answer ≡ Err reading.Absent → HasNoFile (files.told old) name)
      (cause : ReadCause (files.read_faults old) (files.read_faults new) answer)
      (named : files.fault_name new ≡ name_after_read answer (Some name) (files.fault_name old)) where
    pub no_file_read : files.trace new ≡ files.trace old ++ Read name most_module_bytes answer ∷ [] → FileStops why
    no_file_read is = by_stop FileStops why stop
        ((refl, unread answer none absent cause named), (module_read name answer, is, (refl, answer, none, refl)))
        (tt, (module_read name answer, is, (answer, refl)))

    pub no_script_read : files.trace new ≡ files.trace old ++ Read name most_script_bytes answer ∷ [] → ScriptStops why
    no_script_read is = by_stop ScriptStops why stop
        ((refl, unread answer none absent cause named), (script_read name answer, is, (answer, refl, (refl, none))))
        (tt, (script_read name answer, is, (answer, refl, tt)))

  -- ---- the script

  pub script_read_over : (bytes : List ℕ) (commands : List Command)
      → files.trace new ≡ files.trace old ++ Read name most_script_bytes (Ok bytes) ∷ []
      → HasFile (files.told old) name bytes → IsScript bytes commands
      → Passes (files.trace old) (files.trace new) (ReadsScript (files.told old) name commands)
  script_read_over bytes commands is has script = (script_read name (Ok bytes), is, (bytes, refl, has, script))

  pub script_stops_over : (answer : Answer) (why : Reason) → files.trace new ≡ files.trace old ++ Read name most_script_bytes answer ∷ []
      → IsStopBy name answer why → Passes (files.trace old) (files.trace new) (StopsScriptOver name why)
  script_stops_over answer why is stop = (script_read name answer, is, (answer, refl, stop))

  pub fault_read : (bytes : List ℕ) (why : ScriptFault) → HasFile (files.told old) name bytes → IsFault bytes why
      → files.trace new ≡ files.trace old ++ Read name most_script_bytes (Ok bytes) ∷ [] → ScriptStops (fault_reason why)
  fault_read bytes fault.Memory has says is = (tt, script_stops_over (Ok bytes) WantOfMemory is tt)
  fault_read bytes why has says is = (
    (λ e. absurd cc, λ m tells. (bytes, file_told (files.told old) m name bytes tells has, says)),
    script_stops_over (Ok bytes) (Refused why) is (says, λ e. absurd cc),
  )

-- ---- what is said of a module

module _ (old new : List Event) (name : Name) where
  pub invalid_over : (j : Judged) → Passes old new (JudgesFile name j)
      → Passes old new (JudgesSo (λ verdict. holds (is_invalid verdict)) name (holds (says_invalid j)))
  invalid_over j (events, called, said) = (events, called, (said.0, said.1, ap holds (sym said.2.invalid)))

  pub malformed_over : (j : Judged) → Passes old new (JudgesFile name j)
      → Passes old new (JudgesSo (λ verdict. holds (is_malformed verdict)) name (holds (says_malformed j)))
  malformed_over j (events, called, said) = (events, called, (said.0, said.1, ap holds (sym said.2.malformed)))

-- ---- commands

module _ (old new : List Event) (at after : Setting) where
  -- a module command whose file is not accepted, and one whose file is
  pub refused_over : (file : ModuleFile) (j : Judged) → tree_of j ≡ None → after ≡ at → Passes old new (JudgesFile file.filename j)
      → Passes old new (λ events. ComesBy (IsReadAs events) 0 at (script.Module file) word.Refused after)
  refused_over file j none same (events, called, said) =
      let joins = subst (λ t. Joins at file.name t word.Refused after) (sym (said.2.tree ∙ none)) (refl, same) in
      (events, called, (said.0, said.1, joins))

  pub accepted_over : (file : ModuleFile) (filename name : Name) (j : Judged) (tree : Module) (w : Word)
      → filename ≡ file.filename → name ≡ file.name → j ≡ judged.Accepted tree
      → Passes old new (JudgesFile filename j) → Joins at name (Some tree) w after
      → Passes old new (λ events. ComesBy (IsReadAs events) 0 at (script.Module file) w after)
  accepted_over file filename name j tree w filename_is name_is is (events, called, s) joins =
      let here = subst (λ t. Joins at name t w after) (sym (s.2.tree ∙ ap tree_of is)) joins in
      let named = subst (λ n. IsReadAs events n s.0) filename_is s.1 in
      (events, called, (s.0, named, subst (λ n. Joins at n (accepted_tree s.0) w after) name_is here))

-- a command has come to its word, over what the files tell and over what passed
pub record IsDone {F : Type 0} (files : Files F) (old new : F) (steps : ℕ) (at after : Setting) (w : Word) (command : Command)
    : Type 0 where
  pub comes : Tells (files.told old) (λ m. Comes m steps at command w after)
  pub timely : IsTimely steps at command w
  pub passed : Passes (files.trace old) (files.trace new) (λ events. ComesOver events steps at command w after)

-- one that names a file, by its form and what is said of the verdict on the file
pub file_done : {F : Type 0} (files : Files F) (old new : F) (steps : ℕ) (at after : Setting) (w : Word) (command form : Command)
    (file : Name) (IsSo : Option FileVerdict → Type 0) → command ≡ form → file_of form ≡ Some file
    → ((IsOnFile : Name → Option FileVerdict → Type 0) (verdict : Option FileVerdict) → IsOnFile file verdict → IsSo verdict
    → ComesBy IsOnFile steps at form w after)
    → IsTimely steps at form w
    → Tells (files.told old) (λ m. (verdict : Option FileVerdict) × IsFile m file verdict × IsSo verdict)
    → Passes (files.trace old) (files.trace new) (λ events. (verdict : Option FileVerdict) × IsReadAs events file verdict × IsSo verdict)
    → IsDone files old new steps at after w command
file_done files old new steps at after w command form file IsSo is names so timely told (events, called, said) =
    subst (IsDone files old new steps at after w) (sym is) (record {
      comes = λ m tells. let s = told m tells in so (IsFile m) s.0 s.1 s.2;
      timely = timely;
      passed = (events, called, (so (IsReadAs events) said.0 said.1 said.2, λ none. absurd (none-some file (sym none ∙ names))));
    })

-- one that names none
pub call_done : {F : Type 0} (files : Files F) (old : F) (steps : ℕ) (at after : Setting) (w : Word) (command form : Command)
    → command ≡ form → ((IsOnFile : Name → Option FileVerdict → Type 0) → ComesBy IsOnFile steps at form w after)
    → IsTimely steps at form w → IsDone files old old steps at after w command
call_done files old steps at after w command form is comes timely =
    subst (IsDone files old old steps at after w) (sym is) (record {
      comes = λ m tells. comes (IsFile m);
      timely = timely;
      passed =
          none_passed (files.trace old) (λ events. ComesOver events steps at form w after) (comes (IsReadAs []), λ none. refl);
    })

file_stops : (told : Told) (file : Name) (before after : ℕ) (named : Option Name) (why : Reason)
    → StopsFile told file before after named why → StopsCommand told (Some file) before after named why
file_stops told file before after named (Unread name) stop =
    (ap Some (sym stop.0), subst (λ f. IsUnreadFile told f before after named) (sym stop.0) stop.1)
file_stops told file before after named WantOfMemory stop = tt
file_stops told file before after named _ stop = absurd stop

-- it stops, by the file that it names
pub command_stops : {F : Type 0} (files : Files F) (old new : F) (o : Option Name) (file : Name) (why : Reason) → o ≡ Some file
    → FileStops files old new file why
    → StopsCommand (files.told old) o (files.read_faults old) (files.read_faults new) (files.fault_name new) why
    × Passes (files.trace old) (files.trace new) (StopsOver o why)
command_stops files old new o file why is (stop, tried) =
    subst (λ o. StopsCommand (files.told old) o (files.read_faults old) (files.read_faults new) (files.fault_name new) why
    × Passes (files.trace old) (files.trace new) (StopsOver o why)) (sym is)
    (file_stops (files.told old) file (files.read_faults old) (files.read_faults new) (files.fault_name new) why stop, tried)

pub none_without_memory : (trace : List Event) (o : Option Name) → o ≡ None → Passes trace trace (StopsOver o WantOfMemory)
none_without_memory trace o is =
    subst (λ o. Passes trace trace (StopsOver o WantOfMemory)) (sym is) (none_passed trace (StopsOver None WantOfMemory) (refl, refl))

-- ---- lines

of_line : (faults faults' : ℕ) (why : Reason) → StopsLine faults faults' why → IsOfLine why
of_line faults faults' Unwritten stop = tt
of_line faults faults' WantOfMemory stop = tt
of_line faults faults' _ stop = absurd stop

-- a command has come to its word, and its line is written, or not
module _ (old new : List Event) (steps index : ℕ) (at : Setting) (command : Command) where
  pub line_over : (w : Word) (after : Setting) (out out' : Option (List ℕ))
      → Passes old new (λ events. ComesOver events steps at command w after) → IsTimely steps at command w
      → out' ≡ extended out (command_line (index + 1) w)
      → Passes old new (TellsOver steps index at command w after out out')
  line_over w after out out' (events, called, comes) timely gained = (events, called, (comes, timely, gained))

  pub no_word_over : (out : Option (List ℕ)) (why : Reason) → Passes old new (StopsOver (file_of command) why)
      → Passes old new (StopsTellingOver steps index at command out out why)
  no_word_over out why (events, called, stops) = (events, called, inl (stops, refl))

  pub no_line_over : (w : Word) (after : Setting) (out out' : Option (List ℕ)) (faults faults' : ℕ) (why : Reason)
      → Passes old new (λ events. ComesOver events steps at command w after) → IsTimely steps at command w
      → SaysPart out out' (command_line (index + 1) w) → StopsLine faults faults' why
      → Passes old new (StopsTellingOver steps index at command out out' why)
  no_line_over w after out out' faults faults' why (events, called, comes) timely said stop =
      (events, called, inr (w, after, comes, timely, said, of_line faults faults' why stop))

-- ---- commands one behind another

module _ (steps : ℕ) where
  lead_over_more : (at : Setting) (front : List Command) (words : List Word) (between after : Setting) (command : Command) (w : Word)
      (first events : List Event) → LeadOver steps at front words between first
      → ComesOver events steps between command w after → IsTimely steps between command w
      → LeadOver steps at (front ++ command ∷ []) (words ++ w ∷ []) after (first ++ events)
  lead_over_more at [] words between after command w first events lead comes timely =
      let here = subst (λ s. ComesOver events steps s command w after × IsTimely steps s command w) lead.1 (comes, timely) in
      let read = ap (λ (l : List Event). l ++ events) lead.2 ∙ sym (append-nil events) in
      (w, [], after, events, [], here, (refl, refl, refl), ap (λ l. l ++ w ∷ []) lead.0, read)
  lead_over_more at (c ∷ front) words between after command w first events (v, others, next, one, later, comes', lead, is, calls)
      comes timely =
      let more = lead_over_more next front others between after command w later events lead comes timely in
      let read = ap (λ (l : List Event). l ++ events) calls ∙ append_assoc one later events in
      (v, others ++ w ∷ [], next, one, later ++ events, comes', more, ap (λ l. l ++ w ∷ []) is, read)

  lead_over_length : (at : Setting) (front : List Command) (words : List Word) (after : Setting) (events : List Event)
      → LeadOver steps at front words after events → length words ≡ length front
  lead_over_length at [] words after events lead = ap length lead.0
  lead_over_length at (c ∷ front) words after events (v, others, next, one, later, comes, lead, is, calls) =
      ap length is ∙ ap suc (lead_over_length next front others after later lead)

pub behind_more_over : (start old new : List Event) (steps index : ℕ) (front : List Command) (command : Command) (w : Word)
    (at after : Setting) (out now now' : Option (List ℕ)) (ok count : ℕ) → length front ≡ index
    → count ≡ (if is_ok w then suc ok else ok)
    → Passes start old (IsBehindOver steps front at out now ok)
    → Passes old new (TellsOver steps index at command w after now now')
    → Passes start new (IsBehindOver steps (front ++ command ∷ []) after out now' count)
behind_more_over start old new steps index front command w at after out now now' ok count many counted =
    both_passed start old new (IsBehindOver steps front at out now ok) (TellsOver steps index at command w after now now')
    (IsBehindOver steps (front ++ command ∷ []) after out now' count)
    (λ first last behind tells.
    let words = behind.words in
    record {
      words = words ++ w ∷ [];
      lead = lead_over_more steps at_first front words at after command w first last behind.lead tells.0 tells.1;
      written = whole_behind out now now' (lines_of words) (command_line (index + 1) w) behind.written tells.2
          ∙ ap (extended out) (sym (line_more words w index (lead_over_length steps at_first front words at first behind.lead ∙ many)));
      counted = counted ∙ ap (λ n. if is_ok w then suc n else n) behind.counted ∙ sym (count_more words w);
    })

-- ---- a run that stops

last_read : (command : Command) (rest : List Command) (o : Option Name) → file_of command ≡ o → (why : Reason) (events : List Event)
    → StopsOver o why events → LastReads why (command ∷ rest) events
last_read command rest None is why events (memory, none) = rw memory (inl none)
last_read command rest (Some name) is (Unread file) events (same, answer, no_file, calls) =
    (answer, (is ∙ ap Some (sym same), calls ∙ ap (λ f. module_read f answer) (sym same)), no_file)
last_read command rest (Some name) is WantOfMemory events (answer, calls) = inr (name, answer, (is, calls))
last_read command rest _ is _ events stop = absurd stop

-- the lines so far
lines_here : (command : Command) (rest : List Command) (words : List Word) (why : Reason) (events : List Event)
    → LastReads why (command ∷ rest) events → LastLines why words (command ∷ rest) (lines_of words)
lines_here command rest words (Unread file) events reads = refl
lines_here command rest words Usage events reads = absurd reads
lines_here command rest words (Refused why) events reads = absurd reads
lines_here command rest words _ events reads = prefix_of_itself (lines_of words)

-- a line that is not written: behind it nothing is read
no_more : (rest : List Command) (why : Reason) → IsOfLine why → LastReads why rest []
no_more rest Unwritten line = refl
no_more rest WantOfMemory line = inl refl
no_more rest _ line = absurd line

part_lines : (rest : List Command) (words : List Word) (text : List ℕ) (why : Reason) → IsOfLine why
    → IsPrefix text (lines_before words rest) → LastLines why words rest text
part_lines rest words text Unwritten line prefix = prefix
part_lines rest words text WantOfMemory line prefix = prefix
part_lines rest words text _ line prefix = absurd line

prefix_before : (words : List Word) (rest : List Command) (text : List ℕ) → IsPrefix text (lines_of words)
    → IsPrefix text (lines_before words rest)
prefix_before words rest text prefix =
    let front_is = lines_in_front words rest in
    subst (IsPrefix text) (sym front_is.1) (prefix_in_front text (lines_of words) front_is.0 prefix)

pub stops_in : (start old new : List Event) (steps index : ℕ) (commands front rest : List Command) (command : Command) (at : Setting)
    (out now now' : Option (List ℕ)) (ok : ℕ) (why : Reason) → commands ≡ front ++ command ∷ rest → length front ≡ index
    → Passes start old (IsBehindOver steps front at out now ok)
    → Passes old new (StopsTellingOver steps index at command now now' why)
    → Passes start new (StopsIn steps commands out now' why)
stops_in start old new steps index commands front rest command at out now now' ok why split many =
    both_passed start old new (IsBehindOver steps front at out now ok) (StopsTellingOver steps index at command now now' why)
    (StopsIn steps commands out now' why) by
  where
    by : (first last : List Event) → IsBehindOver steps front at out now ok first
        → StopsTellingOver steps index at command now now' why last → StopsIn steps commands out now' why (first ++ last)
    by first last behind (inl (stops, same)) =
        let words = behind.words in
        let reads = last_read command rest (file_of command) refl why last stops in
        record {
          front = front;
          rest = command ∷ rest;
          split = split;
          words = words;
          after = at;
          first = first;
          last = last;
          calls = refl;
          lead = behind.lead;
          stop = reads;
          text = lines_of words;
          lines = lines_here command rest words why last reads;
          gained = same ∙ behind.written;
        }
    by first last behind (inr (w, after, comes, timely, (part, prefix, gained), of_line)) =
        let words = behind.words in
        let line_is = line_more words w index (lead_over_length steps at_first front words at first behind.lead ∙ many) in
        let text_prefix = subst (IsPrefix (lines_of words ++ part)) (sym line_is)
        (prefix_behind (lines_of words) part (command_line (index + 1) w) prefix) in
        record {
          front = front ++ command ∷ [];
          rest = rest;
          split = split ∙ sym (append_assoc front (command ∷ []) rest);
          words = words ++ w ∷ [];
          after = after;
          first = first ++ last;
          last = [];
          calls = sym (append-nil (first ++ last));
          lead = lead_over_more steps at_first front words at after command w first last behind.lead comes timely;
          stop = no_more rest why of_line;
          text = lines_of words ++ part;
          lines = part_lines rest (words ++ w ∷ []) (lines_of words ++ part) why of_line
              (prefix_before (words ++ w ∷ []) rest (lines_of words ++ part) text_prefix);
          gained = gained ∙ ap (λ o. extended o part) behind.written ∙ extended_twice out (lines_of words) part;
        }

-- all commands have come to their words, and the last line is written, or not
module _ (old new : List Event) (steps : ℕ) (commands : List Command) (out now now' : Option (List ℕ)) (ok total : ℕ)
    (many : total ≡ length commands)
    (passes : Passes old new (λ events. (at : Setting) × IsBehindOver steps commands at out now ok events)) where
  total_is : (words : List Word) (at : Setting) (events : List Event) → LeadOver steps at_first commands words at events
      → ok ≡ ok_count words → total_line total ok ≡ total_line (length words) (ok_count words)
  total_is words at events lead counted =
      ap (λ n. total_line n ok) (many ∙ sym (lead_over_length steps at_first commands words at events lead))
      ∙ ap (total_line (length words)) counted

  pub reported_over : now' ≡ extended now (total_line total ok)
      → Passes old new (HasReportedOver steps commands out now' (ok == total))
  reported_over gained =
      let (events, called, said) = passes in
      let b = said.1 in
      let words = b.words in
      let count = many ∙ sym (lead_over_length steps at_first commands words said.0 events b.lead) in
      let written = whole_behind out now now' (lines_of words) (total_line total ok) b.written gained
      ∙ ap (λ line. extended out (lines_of words ++ line)) (total_is words said.0 events b.lead b.counted) in
      (events, called, (words, said.0, b.lead, written, ap (λ n. n == total) b.counted ∙ ap (λ n. ok_count words == n) count))

  pub no_total_over : (faults faults' : ℕ) (why : Reason) → SaysPart now now' (total_line total ok) → StopsLine faults faults' why
      → Passes old new (StopsIn steps commands out now' why)
  no_total_over faults faults' why (part, prefix, gained) stop =
      passed_so old new (λ events. (at : Setting) × IsBehindOver steps commands at out now ok events)
      (StopsIn steps commands out now' why)
      (λ events b.
      let words = b.1.words in
      let line = of_line faults faults' why stop in
      record {
        front = commands;
        rest = [];
        split = sym (append-nil commands);
        words = words;
        after = b.0;
        first = events;
        last = [];
        calls = sym (append-nil events);
        lead = b.1.lead;
        stop = no_more [] why line;
        text = lines_of words ++ part;
        lines = part_lines [] words (lines_of words ++ part) why line
            (rw (total_is words b.0 events b.1.lead b.1.counted) at (prefix_behind (lines_of words) part (total_line total ok) prefix));
        gained = gained ∙ ap (λ o. extended o part) b.1.written ∙ extended_twice out (lines_of words) part;
      }) passes

-- ---- the whole work

-- by the reading of the words
abbrev EndsBy : Option (List ℕ) → Option (List ℕ) → Ending → List Event → Option Line → Type 0
EndsBy old new ending events o = MatchOption o ((events ≡ []) × (new ≡ old) × ((ending ≡ Err Usage) ⊎ (ending ≡ Err WantOfMemory)))
    (λ line. WantsMemory line old new ending events ⊎ DoesLine line old new ending events)

ends_line : (words : List Name) (line : Line) → line_of words ≡ Some line → (old new : Option (List ℕ)) (ending : Ending)
    (events : List Event) → WantsMemory line old new ending events ⊎ DoesLine line old new ending events
    → EndsSo words old new ending events
ends_line words line is old new ending events does = subst (EndsBy old new ending events) (sym is) does

ends_early : (words : List Name) (out : Option (List ℕ)) → EndsSo words out out (Err WantOfMemory) []
ends_early words out = by (line_of words)
  where
    by : (o : Option Line) → EndsBy out out (Err WantOfMemory) [] o
    by None = (refl, refl, inr refl)
    by (Some line) = inl (refl, refl, inl refl)

pub words_end : (trace : List Event) (words : List Name) (out : Option (List ℕ)) (why : Reason) → StopsWords words why
    → Passes trace trace (EndsSo words out out (Err why))
words_end trace words out Usage stop =
    none_passed trace (EndsSo words out out (Err Usage)) (subst (EndsBy out out (Err Usage) []) (sym stop) (refl, refl, inl refl))
words_end trace words out WantOfMemory stop = none_passed trace (EndsSo words out out (Err WantOfMemory)) (ends_early words out)
words_end trace words out _ stop = absurd stop

module _ (words : List Name) (line : Line) (is : line_of words ≡ Some line) where
  fault_job : (answer : Answer) (why : ScriptFault) → IsFaultBy answer why → IsJobBy line answer (Stops (Refused why))
  fault_job (Ok text) why by = by
  fault_job (Err reading.TooLong) why by = ap (λ w. Stops (Refused w)) by
  fault_job _ why by = absurd by

  unread_job : (answer : Answer) → IsNoFile answer → IsJobBy line answer (Stops (Unread line.script))
  unread_job (Err reading.Absent) no_file = refl
  unread_job (Err reading.Failed) no_file = refl
  unread_job _ no_file = absurd no_file

  script_ends_so : (out : Option (List ℕ)) (why : Reason) (events : List Event) → StopsScriptOver line.script why events
      → WantsMemory line out out (Err why) events ⊎ DoesLine line out out (Err why) events
  script_ends_so out (Unread file) events (answer, calls, (same, no_file)) =
      inr (answer, Stops (Unread line.script), [], unread_job answer no_file, (ap (λ f. Err (Unread f)) same, refl, refl), calls)
  script_ends_so out (Refused why) events (answer, calls, by) =
      inr (answer, Stops (Refused why), [], fault_job answer why by, (refl, refl, refl), calls)
  script_ends_so out WantOfMemory events (answer, calls, by) = inl (refl, refl, inr (answer, calls))
  script_ends_so out _ events (answer, calls, by) = absurd by

  pub script_ends : (old new : List Event) (out : Option (List ℕ)) (why : Reason) → Passes old new (StopsScriptOver line.script why)
      → Passes old new (EndsSo words out out (Err why))
  script_ends old new out why (events, called, stops) =
      (events, called, ends_line words line is out out (Err why) events (script_ends_so out why events stops))

  pub commands_end : (start old new : List Event) (told : Told) (commands : List Command) (out out' : Option (List ℕ)) (ending : Ending)
      → Passes start old (ReadsScript told line.script commands)
      → Passes old new (ReportsOver line.steps commands out out' ending)
      → Passes start new (EndsSo words out out' ending)
  commands_end start old new told commands out out' ending =
      both_passed start old new (ReadsScript told line.script commands) (ReportsOver line.steps commands out out' ending)
      (EndsSo words out out' ending)
      (λ first last reads reports. ends_line words line is out out' ending (first ++ last)
      (inr (Ok reads.0, Reports line.steps commands, last, (reads.3, refl), reports, ap (λ (l : List Event). l ++ last) reads.1)))

  pub report_ends : (start old new : List Event) (told : Told) (commands : List Command) (out out' : Option (List ℕ)) (all_ok : Bool)
      (status : ℕ) → status ≡ (if all_ok then 0 else 1)
      → Passes start old (ReadsScript told line.script commands)
      → Passes old new (HasReportedOver line.steps commands out out' all_ok)
      → Passes start new (EndsSo words out out' (Ok status))
  report_ends start old new told commands out out' all_ok status status_is reads (events, called, r) =
      commands_end start old new told commands out out' (Ok status) reads
      (events, called, (r.0, r.1, r.2, r.3, status_is ∙ ap (λ b. if b then 0 else 1) r.4))

-- the script that the first read gave
pub first_gives : (start old new : List Event) (told : Told) (name : Name) (commands : List Command) (P : List Event → Type 0)
    → Passes start old (ReadsScript told name commands) → Passes old new P
    → (text : List ℕ) × GivesFirst told start new name text × IsScript text commands
first_gives start old new told name commands P (first, is, (text, calls, has, script)) (last, behind, p) =
    let passed = behind ∙ ap (λ (l : List Event). l ++ last) is ∙ append_assoc start first last in
    (text, (has, (first ++ last, passed, (last, ap (λ (l : List Event). l ++ last) calls))), script)

-- ---- the status

pub status_passes : (old new : List Event) (words : List Name) (out out' : Option (List ℕ)) (status : ℕ) (Says : List ℕ → Type 0)
    → Passes old new (EndsSo words out out' (Ok status)) → Passes old new (PassesFor words out out' status Says)
status_passes old new words out out' status Says (events, called, ends) = (events, called, (Ok status, ends, refl))

pub stop_passes : (old new : List Event) (words : List Name) (out out' : Option (List ℕ)) (status : ℕ) (Says : List ℕ → Type 0)
    (why : Reason) → (status ≡ status_of why) ⊎ (status ≡ 5) → Says (error_line why) ⊎ (status ≡ 5)
    → Passes old new (EndsSo words out out' (Err why)) → Passes old new (PassesFor words out out' status Says)
stop_passes old new words out out' status Says why is says (events, called, ends) = (events, called, (Err why, ends, both is says))
  where
    both : (status ≡ status_of why) ⊎ (status ≡ 5) → Says (error_line why) ⊎ (status ≡ 5)
        → ((status ≡ status_of why) × Says (error_line why)) ⊎ (status ≡ 5)
    both (inr five) says = inr five
    both (inl is) (inr five) = inr five
    both (inl is) (inl said) = inl (is, said)
