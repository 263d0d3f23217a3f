-- The text of a journal that can be written is that journal.
use Rattle.host_replay.proofs.Common.{◌≡◌, ℕ, zero, suc, ◌^◌, ◌<◌, true, ◌&&◌, List, [], ◌∷◌, ◌++◌, map, length, ◌==◌, slice_get, Some}
use Rattle.host_replay.proofs.Common.{None, codes, Option, flat_map, sym, refl, ap, ◌∙◌, subst, append_assoc, arith, lit<}
use Rattle.host_replay.proofs.Common.{All-from_recursion, length-slice_split, AllByRecursion, join_with_byte, list_all, both_hold}
use Rattle.host_replay.proofs.Common.{all_append, Host, HostFunction, equal_type, is_number, type_of, ValType, Value, HostReply}
use Rattle.host_replay.proofs.Common.{function_name, host_name, AllLack, cut, cut-first, lacks, lacks-append, joined, words_are_high}
use Rattle.host_replay.proofs.Common.{IsBytes, line_text, function_words, host_words, line_words, JournalLine, Asked, fits, fits_function}
use Rattle.host_replay.proofs.Common.{function_at, is_reply, IsJournal, Read, empty, ended, lines_of, Recorded, entry_text, function_texts}
use Rattle.host_replay.proofs.Common.{journal_text, module_text, HasName, HasNames, HasNumbers, IsWritable}
use Rattle.std.proofs.lemmas.Grind.{flat_map-append}
use Rattle.w2c_base.proofs.Numbers.{found_is_number}
use Rattle.crun_lines.specs.Words.{name_text}
use Rattle.journal_lines.specs.declared.line.JournalLine.TheVariants as line
use Rattle.journal_lines.specs.Lines.{module_line, IsGiven, IsProper}
use Rattle.journal_lines.proofs.Texts.{all_lack}
use Rattle.c_meaning.specs.declared.reply.HostReply.TheVariants as reply
use Rattle.host_replay.proofs.Chains.{entry_said, function_said, journal_chain, module_said, said, Chain}

-- ---- lines of texts

lacks_join : (x : List ℕ) (xs : List (List ℕ)) → AllLack 10 (x ∷ xs) → lacks 10 (join_with_byte 32 (x ∷ xs)) ≡ true
lacks_join x [] h = h.0
lacks_join x (y ∷ xs) h = lacks-append 10 x (32 ∷ join_with_byte 32 (y ∷ xs)) h.0 (lacks_join y xs h.1)

abbrev body : JournalLine → List ℕ
body l = join_with_byte 32 (line_words l)

lacks_words : (l : JournalLine) → AllLack 10 (line_words l) → lacks 10 (body l) ≡ true
lacks_words (line.Module name) h = lacks_join (codes "module") (name_text name ∷ []) h
lacks_words (line.Function f) h = lacks_join (codes "function") (function_words f) h
lacks_words (line.Host call) h = lacks_join (codes "host") (host_words call) h

ended_first : (part : List ℕ) (parts : List (List ℕ)) → 0 < length parts → ended (part ∷ parts) ≡ (part ++ codes "\n") ∷ ended parts
ended_first part [] some = absurd (omega (arith, some))
ended_first part (next ∷ parts) some = refl

lines_of_texts : (ls : List JournalLine) → AllByRecursion IsProper ls → lines_of (flat_map line_text ls) ≡ map line_text ls
lines_of_texts [] are = refl
lines_of_texts (l ∷ ls) are =
    let behind : List ℕ = flat_map line_text ls in
    let parts : cut 10 (line_text l ++ behind) ≡ body l ∷ cut 10 behind =
    ap (λ (t : List ℕ). cut 10 (t ++ behind)) (joined l) ∙ ap (cut 10) (append_assoc (body l) (codes "\n") behind)
    ∙ cut-first 10 (body l) behind (lacks_words l (all_lack 10 (line_words l) (lit< tt) (words_are_high l are.0))) in
    ap ended parts
    ∙ ended_first (body l) (cut 10 behind) (omega (arith, length-slice_split (λ b. b == 10) behind))
    ∙ (λ i. sym (joined l) i ∷ lines_of_texts ls are.1 i)

-- ---- the text of a journal

functions_text : (functions : List HostFunction) → flat_map line_text (map function_said functions) ≡ function_texts functions
functions_text [] = refl
functions_text (f ∷ functions) = ap (λ (t : List ℕ). line_text (function_said f) ++ t) (functions_text functions)

modules_text : (hosts : List Host) → flat_map line_text (flat_map module_said hosts) ≡ flat_map module_text hosts
modules_text [] = refl
modules_text (m ∷ hosts) =
    flat_map-append line_text (module_said m) (flat_map module_said hosts)
    ∙ (λ i. (module_line m.name ++ functions_text m.functions i) ++ modules_text hosts i)

entries_text : (hosts : List Host) (entries : List Asked)
    → flat_map line_text (map (entry_said hosts) entries) ≡ flat_map (entry_text hosts) entries
entries_text hosts [] = refl
entries_text hosts (a ∷ entries) = ap (λ (t : List ℕ). entry_text hosts a ++ t) (entries_text hosts entries)

said_text : (j : Recorded) → flat_map line_text (said j) ≡ journal_text j
said_text j =
    flat_map-append line_text (flat_map module_said j.hosts) (map (entry_said j.hosts) j.entries)
    ∙ (λ i. modules_text j.hosts i ++ entries_text j.hosts j.entries i)

-- ---- its lines can stand in journals

functions_proper : (functions : List HostFunction) → AllByRecursion HasName functions
    → AllByRecursion IsProper (map function_said functions)
functions_proper [] h = tt
functions_proper (f ∷ functions) h = (h.0, functions_proper functions h.1)

modules_proper : (hosts : List Host) → AllByRecursion HasNames hosts → AllByRecursion IsProper (flat_map module_said hosts)
modules_proper [] h = tt
modules_proper (m ∷ hosts) h =
    all_append IsProper (module_said m) (flat_map module_said hosts) (h.0.0, functions_proper m.functions h.0.1) (modules_proper hosts h.1)

no_bytes : IsBytes []
no_bytes = All-from_recursion (λ b. b < 256) [] tt

host_bytes : (hosts : List Host) (h : ℕ) → AllByRecursion HasNames hosts → IsBytes (host_name hosts h)
host_bytes [] h are = no_bytes
host_bytes (m ∷ hosts) zero are = are.0.0
host_bytes (m ∷ hosts) (suc h) are = host_bytes hosts h are.1

module_bytes : (functions : List HostFunction) (f : ℕ) → AllByRecursion HasName functions
    → IsBytes (elim (slice_get functions f) [ None ↦ [] | Some function ↦ function.name ])
module_bytes [] f are = no_bytes
module_bytes (x ∷ functions) zero are = are.0
module_bytes (x ∷ functions) (suc f) are = module_bytes functions f are.1

function_bytes : (hosts : List Host) (h f : ℕ) → AllByRecursion HasNames hosts → IsBytes (function_name hosts h f)
function_bytes [] h f are = no_bytes
function_bytes (m ∷ hosts) zero f are = module_bytes m.functions f are.0.1
function_bytes (m ∷ hosts) (suc h) f are = function_bytes hosts h f are.1

given : (t : Option ValType) (r : HostReply) → is_reply t r ≡ true → IsGiven r
given t reply.Trap e = tt
given t (reply.Value None) e = tt
given None (reply.Value (Some v)) e = absurd cc
given (Some t) (reply.Value (Some v)) e = found_is_number v (both_hold (equal_type t (type_of v)) (is_number v) e).1

given_by : (o : Option HostFunction) (a : Asked) → fits_function o a ≡ true → IsGiven a.reply
given_by None a e = absurd cc
given_by (Some f) a e = given f.ty.result a.reply (both_hold _ (is_reply f.ty.result a.reply) e).1

entries_proper : (hosts : List Host) (entries : List Asked) → AllByRecursion HasNames hosts → list_all (fits hosts) entries ≡ true
    → AllByRecursion HasNumbers entries → AllByRecursion IsProper (map (entry_said hosts) entries)
entries_proper hosts [] names fit numbers = tt
entries_proper hosts (a ∷ entries) names fit numbers =
    let parts = both_hold (fits hosts a) (list_all (fits hosts) entries) fit in (
      (
        host_bytes hosts a.host names,
        function_bytes hosts a.host a.function names,
        numbers.0,
        given_by
            (function_at hosts a.host a.function) a parts.0,
      ),
      entries_proper hosts entries names parts.1 numbers.1,
    )

said_proper : (j : Recorded) → IsWritable j → AllByRecursion IsProper (said j)
said_proper j is =
    all_append IsProper (flat_map module_said j.hosts) (map (entry_said j.hosts) j.entries) (modules_proper j.hosts is.names)
    (entries_proper j.hosts j.entries is.names is.fitting is.numbers)

-- ---- it is read back

chain_read : (before after : Recorded) (ls : List JournalLine) → Chain before ls after → AllByRecursion IsProper ls
    → Read before (map line_text ls) after
chain_read before after [] chain are = chain
chain_read before after (l ∷ ls) chain are = (l, chain.0, (are.0, refl), chain.1, chain_read chain.0 after ls chain.2 are.1)

pub spelled : (j : Recorded) → IsWritable j → IsJournal (journal_text j) j
spelled j is =
    subst (λ (lines : List (List ℕ)). Read empty lines j)
    (sym (ap lines_of (sym (said_text j)) ∙ lines_of_texts (said j) (said_proper j is)))
    (chain_read empty j (said j) (journal_chain j is.distinct is.fitting) (said_proper j is))

pub read_back : (j : Recorded) (text : List ℕ) → text ≡ journal_text j → IsWritable j → IsJournal text j
read_back j text is writable = subst (λ (t : List ℕ). IsJournal t j) (sym is) (spelled j writable)
