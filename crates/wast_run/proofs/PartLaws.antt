-- The words of commands, one command more; and parts of a report: what a stream has gained in the midst of the commands.
use Rattle.wast_run.proofs.Common.{◌≡◌, ℕ, suc, ◌≢◌, List, [], ◌∷◌, ◌++◌, length, Some, None, Option, refl, ap, ◌∙◌, subst, same_Some, get}
use Rattle.wast_run.proofs.Common.{AllByRecursion, Contents, Name, FileVerdict, Command, HasItsFile, Comes, IsFile, IsTimely, Lead}
use Rattle.wast_run.proofs.Common.{LeadInTime, Setting, Word, ◌+◌, if◌then◌else◌, ◌==◌, sym, inl, inr, append_assoc, append-nil, IsPrefix}
use Rattle.wast_run.proofs.Common.{Told, extended, SaysPart, Tells, extended_twice, prefix_behind, prefix_in_front, prefix_of_itself}
use Rattle.wast_run.proofs.Common.{whole_behind, IsPart, IsPartOfLines, file_of, lines_before, at_first, command_line, is_ok, lines_of}
use Rattle.wast_run.proofs.Common.{ok_count, total_line, HasGained, HasReported, IsBehind, TellsCommand, TellsPart}
use Rattle.wast_script.specs.Commands as script
use Rattle.wast_run.proofs.WordLines.{count_more, line_more, lines_in_front}

module _ (contents : Contents) (steps : ℕ) where
  pub lead_more : (at : Setting) (front : List Command) (words : List Word) (between after : Setting) (command : Command) (w : Word)
      → LeadInTime contents steps at front words between
      → Comes contents steps between command w after × IsTimely steps between command w
      → LeadInTime contents steps at (front ++ command ∷ []) (words ++ w ∷ []) after
  lead_more at [] words between after command w lead comes =
      let here = subst (λ s. Comes contents steps s command w after × IsTimely steps s command w) lead.1 comes in
      (w, [], after, here, (refl, refl), ap (λ l. l ++ w ∷ []) lead.0)
  lead_more at (c ∷ front) words between after command w (v, others, next, first, later, is) comes =
      (v, others ++ w ∷ [], next, first, lead_more next front others between after command w later comes, ap (λ l. l ++ w ∷ []) is)

  -- whether timely or not
  pub lead_plain : (at : Setting) (front : List Command) (words : List Word) (after : Setting)
      → LeadInTime contents steps at front words after → Lead contents steps at front words after
  lead_plain at [] words after lead = lead
  lead_plain at (c ∷ front) words after (v, others, next, first, later, is) =
      (v, others, next, first.0, lead_plain next front others after later, is)

  pub lead_length : (at : Setting) (front : List Command) (words : List Word) (after : Setting)
      → LeadInTime contents steps at front words after → length words ≡ length front
  lead_length at [] words after lead = ap length lead.0
  lead_length at (c ∷ front) words after (v, others, next, first, later, is) =
      ap length is ∙ ap suc (lead_length next front others after later)

file_there : (contents : Contents) (file : Name) (verdict : Option FileVerdict) → IsFile contents file verdict → (name : Name)
    → Some file ≡ Some name → get contents name ≢ None
file_there contents file verdict (bytes, held, judged) name same none =
    let e : get contents file ≡ None = ap (get contents) (same_Some file name same) ∙ none in absurd cc

-- a command that comes to a word has its file
pub has_its_file : (contents : Contents) (steps : ℕ) (at : Setting) (command : Command) (w : Word) (after : Setting)
    → Comes contents steps at command w after → HasItsFile contents command
has_its_file contents steps at (script.Module file) w after comes = file_there contents file.filename comes.0 comes.1
has_its_file contents steps at (script.AssertInvalid file) w after comes = file_there contents file comes.0 comes.1
has_its_file contents steps at (script.AssertMalformed file) w after comes = file_there contents file comes.0 comes.1
has_its_file contents steps at _ w after comes = λ name is. absurd cc

pub lead_there : (contents : Contents) (steps : ℕ) (at : Setting) (front : List Command) (words : List Word) (after : Setting)
    → Lead contents steps at front words after → AllByRecursion (HasItsFile contents) front
lead_there contents steps at [] words after lead = tt
lead_there contents steps at (c ∷ front) words after (v, others, next, first, later, is) =
    (has_its_file contents steps at c v next first, lead_there contents steps next front others after later)

-- of commands that all have their files, each one has
pub there_at : (contents : Contents) (front rest : List Command) (command : Command)
    → AllByRecursion (HasItsFile contents) (front ++ command ∷ rest) → HasItsFile contents command
there_at contents [] rest command all = all.0
there_at contents (x ∷ front) rest command all = there_at contents front rest command all.1

pub behind_more : (contents : Contents) (steps index : ℕ) (front : List Command) (command : Command) (w : Word) (at after : Setting)
    (old now new : Option (List ℕ)) (ok count : ℕ) → length front ≡ index → count ≡ (if is_ok w then suc ok else ok)
    → IsBehind contents steps front at old now ok → TellsCommand contents steps index at command w after now new
    → IsBehind contents steps (front ++ command ∷ []) after old new count
behind_more contents steps index front command w at after old now new ok count many counted behind tells =
    let words = behind.words in
    record {
      words = words ++ w ∷ [];
      lead = lead_more contents steps at_first front words at after command w behind.lead (tells.0, tells.1);
      written = whole_behind old now new (lines_of words) (command_line (index + 1) w) behind.written tells.2
          ∙ ap (extended old) (sym (line_more words w index (lead_length contents steps at_first front words at behind.lead ∙ many)));
      counted = counted ∙ ap (λ n. if is_ok w then suc n else n) behind.counted ∙ sym (count_more words w);
    }

all_reported : (contents : Contents) (steps : ℕ) (commands : List Command) (at : Setting) (old now new : Option (List ℕ)) (ok : ℕ)
    → IsBehind contents steps commands at old now ok → new ≡ extended now (total_line (length commands) ok)
    → HasReported contents steps commands old new (ok == length commands)
all_reported contents steps commands at old now new ok behind gained =
    let words = behind.words in
    let many = lead_length contents steps at_first commands words at behind.lead in
    let line_is = ap (λ n. total_line n ok) (sym many) ∙ ap (total_line (length words)) behind.counted in
    let written = whole_behind old now new (lines_of words) (total_line (length commands) ok) behind.written gained
    ∙ ap (λ line. extended old (lines_of words ++ line)) line_is in
    (words, (at, behind.lead), written, ap (λ n. n == length commands) behind.counted ∙ ap (λ n. ok_count words == n) (sym many))

-- all lines, and the last
pub whole_report : (told : Told) (steps : ℕ) (commands : List Command) (old now new : Option (List ℕ)) (ok total : ℕ)
    → total ≡ length commands → Tells told (λ m. (at : Setting) × IsBehind m steps commands at old now ok)
    → new ≡ extended now (total_line total ok)
    → Tells told (λ m. HasReported m steps commands old new (ok == total))
whole_report told steps commands old now new ok total many behind gained m tells =
    let b = behind m tells in
    rw many (all_reported m steps commands b.0 old now new ok b.1 (gained ∙ ap (λ n. extended now (total_line n ok)) many))

module _ (contents : Contents) (steps : ℕ) (commands front rest : List Command) (split : commands ≡ front ++ rest) where
  part_of : (words : List Word) (after : Setting) (text : List ℕ) → LeadInTime contents steps at_first front words after
      → IsPrefix text (lines_of words) → IsPart contents steps commands text
  part_of words after text lead prefix =
      let front_is = lines_in_front words rest in
      record {
        front = front;
        rest = rest;
        split = split;
        words = words;
        after = after;
        lead = lead;
        prefix = subst (IsPrefix text) (sym front_is.1) (prefix_in_front text (lines_of words) front_is.0 prefix);
      }

  -- all lines so far, and nothing of the next
  pub gained_lines : (at : Setting) (old now : Option (List ℕ)) (ok : ℕ) → IsBehind contents steps front at old now ok
      → HasGained contents steps commands old now
  gained_lines at old now ok behind =
      let lines = lines_of behind.words in
      (lines, part_of behind.words at lines behind.lead (prefix_of_itself lines), behind.written)

-- the lines so far, and a part of the next
pub gained_part : (contents : Contents) (steps : ℕ) (commands front rest : List Command) (command : Command) (index : ℕ)
    (at : Setting) (old now new : Option (List ℕ)) (ok : ℕ)
    → commands ≡ front ++ command ∷ rest → length front ≡ index
    → IsBehind contents steps front at old now ok → TellsPart contents steps index at command now new
    → HasGained contents steps commands old new
gained_part contents steps commands front rest command index at old now new ok split many behind (inl same) =
    rw same (gained_lines contents steps commands front (command ∷ rest) split at old now ok behind)
gained_part contents steps commands front rest command index at old now new ok split many behind
    (inr (w, after, comes, timely, (part, prefix, gained))) =
    let words = behind.words in
    let line_is = line_more words w index (lead_length contents steps at_first front words at behind.lead ∙ many) in (
      lines_of words ++ part,
      part_of contents steps commands (front ++ command ∷ []) rest (split ∙ sym (append_assoc front (command ∷ []) rest))
          (words ++ w ∷ []) after (lines_of words ++ part)
          (lead_more contents steps at_first front words at after command w behind.lead (comes, timely))
          (rw line_is (prefix_behind (lines_of words) part (command_line (index + 1) w) prefix)),
      gained ∙ ap (λ o. extended o part) behind.written ∙ extended_twice old (lines_of words) part,
    )

-- all lines, and a part of the last
pub gained_total : (contents : Contents) (steps : ℕ) (commands : List Command) (at : Setting) (old now new : Option (List ℕ)) (ok : ℕ)
    → IsBehind contents steps commands at old now ok → SaysPart now new (total_line (length commands) ok)
    → HasGained contents steps commands old new
gained_total contents steps commands at old now new ok behind (part, prefix, gained) =
    let words = behind.words in
    let line_is : total_line (length commands) ok ≡ total_line (length words) (ok_count words) =
    ap (λ n. total_line n ok) (sym (lead_length contents steps at_first commands words at behind.lead))
    ∙ ap (total_line (length words)) behind.counted in (
      lines_of words ++ part,
      record {
        front = commands;
        rest = [];
        split = sym (append-nil commands);
        words = words;
        after = at;
        lead = behind.lead;
        prefix = rw line_is at (prefix_behind (lines_of words) part (total_line (length commands) ok) prefix);
      },
      gained ∙ ap (λ o. extended o part) behind.written ∙ extended_twice old (lines_of words) part,
    )

-- ---- a file that is not there

-- commands that all have their files stand before one that has not
front_of : (P : Command → Type 0) (front rest before behind : List Command) (command : Command) → AllByRecursion P front
    → (P command → ⊥) → before ++ command ∷ behind ≡ front ++ rest
    → (more : List Command) × (before ≡ front ++ more) × (rest ≡ more ++ command ∷ behind)
front_of P [] rest before behind command all not same = (before, refl, sym same)
front_of P (x ∷ front) rest [] behind command all not same = let e : command ≡ x = cc in absurd (not (subst P (sym e) all.0))
front_of P (x ∷ front) rest (y ∷ before) behind command all not same =
    let heads : y ≡ x = cc in
    let tails : before ++ command ∷ behind ≡ front ++ rest = cc in
    let more = front_of P front rest before behind command all.1 not tails in
    (more.0, ap (λ z. z ∷ before) heads ∙ ap (λ l. x ∷ l) more.1, more.2)

lines_not_last : (words : List Word) (more : List Command) (command : Command) (behind : List Command)
    → lines_before words (more ++ command ∷ behind) ≡ lines_of words
lines_not_last words [] command behind = refl
lines_not_last words (c ∷ more) command behind = refl

-- a part of a report ends before the first file that is not there
pub part_before : (contents : Contents) (steps : ℕ) (before behind : List Command) (command : Command) (file : Name) (text : List ℕ)
    → file_of command ≡ Some file → get contents file ≡ None
    → IsPart contents steps (before ++ command ∷ behind) text → IsPartOfLines contents steps before text
part_before contents steps before behind command file text names missing part =
    let there = lead_there contents steps at_first part.front part.words part.after
    (lead_plain contents steps at_first part.front part.words part.after part.lead) in
    let more = front_of (HasItsFile contents) part.front part.rest before behind command there (λ has. has file names missing) part.split in
    record {
      front = part.front;
      rest = more.0;
      split = more.1;
      words = part.words;
      after = part.after;
      lead = part.lead;
      prefix = rw (ap (lines_before part.words) more.2 ∙ lines_not_last part.words more.0 command behind) at part.prefix;
    }
