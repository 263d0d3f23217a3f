-- Lines that are read, one more; and the first that is refused.
use Rattle.host_replay.proofs.Common.{◌≡◌, ℕ, zero, suc, ◌+◌, ◌≤◌, Bool, true, false, cond, not, ◌&&◌, List, [], ◌∷◌, ◌++◌, map, length}
use Rattle.host_replay.proofs.Common.{take, drop, ◌==◌, slice_get, Some, codes, sym, refl, ap, ◌∙◌, subst, append_assoc, append-nil, arith}
use Rattle.host_replay.proofs.Common.{map_push, length-slice_split, AllByRecursion, join_with_byte, onto_first, take_next, AllLack, cut}
use Rattle.host_replay.proofs.Common.{lacks, joined, IsLine, line_text, line_words, JournalLine, Adds, IsRefused, Read, Says, empty, ended}
use Rattle.host_replay.proofs.Common.{Recorded}
use Rattle.std.proofs.lemmas.List.Sums.{count_by-le-length}
use Rattle.std.proofs.Math.Bool.{and-false}
use Rattle.std.proofs.Common.{take_all as take_whole}

abbrev pub with_newline : List ℕ → List ℕ
with_newline text = text ++ codes "\n"

abbrev pub with_newlines : List (List ℕ) → List (List ℕ)
with_newlines texts = map with_newline texts

pub read_more : (before middle after : Recorded) (lines : List (List ℕ)) (text : List ℕ) (l : JournalLine) → Read before lines middle
    → Says text l → Adds middle l after → Read before (lines ++ text ∷ []) after
read_more before middle after [] text l is says adds =
    (l, after, says, subst (λ (b : Recorded). Adds b l after) is adds, refl)
read_more before middle after (x ∷ lines) text l read says adds =
    (read.0, read.1, read.2, read.3, read_more read.1 middle after lines text l read.4 says adds)

-- the last part stands behind the last newline
pub ended_some : (parts : List (List ℕ)) (b : ℕ) (rest : List ℕ) → ended (parts ++ (b ∷ rest) ∷ []) ≡ with_newlines parts ++ (b ∷ rest) ∷ []
ended_some (p ∷ q ∷ parts) b rest = ap (λ (l : List (List ℕ)). with_newline p ∷ l) (ended_some (q ∷ parts) b rest)
ended_some _ b rest = refl

pub ended_none : (parts : List (List ℕ)) → ended (parts ++ [] ∷ []) ≡ with_newlines parts
ended_none (p ∷ q ∷ parts) = ap (λ (l : List (List ℕ)). with_newline p ∷ l) (ended_none (q ∷ parts))
ended_none _ = refl

pub ended_any : (parts : List (List ℕ)) (rest : List ℕ) → ended (parts ++ rest ∷ []) ≡ with_newlines parts ++ ended (rest ∷ [])
ended_any parts [] = ended_none parts ∙ sym (append-nil (with_newlines parts))
ended_any parts (b ∷ rest) = ended_some parts b rest

-- one part more is read
pub part_read : (parts : List (List ℕ)) (k : ℕ) (text : List ℕ) (known after : Recorded) → slice_get parts k ≡ Some text
    → Read empty (with_newlines (take k parts)) known → ((l : JournalLine) × IsLine text l × Adds known l after)
    → Read empty (with_newlines (take (k + 1) parts)) after
part_read parts k text known after at read it =
    subst (λ (lines : List (List ℕ)). Read empty lines after)
    (sym (ap with_newlines (take_next parts k text at) ∙ map_push with_newline (take k parts) text))
    (read_more empty known after (with_newlines (take k parts)) (with_newline text) it.0 read it.1 it.2)

pub take_all : (xs : List (List ℕ)) (k : ℕ) → k ≡ length xs → take k xs ≡ xs
take_all xs k e = take_whole k xs (omega (arith, e))

split : (parts : List (List ℕ)) (k : ℕ) (text : List ℕ) → slice_get parts k ≡ Some text
    → with_newlines parts ≡ with_newlines (take k parts) ++ with_newline text ∷ with_newlines (drop (suc k) parts)
split [] k text at = absurd cc
split (p ∷ parts) zero text at = let same : p ≡ text = cc in λ i. with_newline (same i) ∷ with_newlines parts
split (p ∷ parts) (suc k) text at = ap (λ (l : List (List ℕ)). with_newline p ∷ l) (split parts k text at)

so_many : (parts : List (List ℕ)) (k : ℕ) (text : List ℕ) → slice_get parts k ≡ Some text → length (with_newlines (take k parts)) ≡ k
so_many [] k text at = absurd cc
so_many (p ∷ parts) zero text at = refl
so_many (p ∷ parts) (suc k) text at = ap suc (so_many parts k text at)

-- a part that says nothing
pub refused_part : (lines parts rest : List (List ℕ)) (k : ℕ) (text : List ℕ) (known : Recorded) → lines ≡ with_newlines parts ++ rest
    → slice_get parts k ≡ Some text → Read empty (with_newlines (take k parts)) known
    → ((l : JournalLine) (after : Recorded) → IsLine text l → Adds known l after → ⊥) → IsRefused lines (k + 1)
refused_part lines parts rest k text known are at read none = record {
  front = with_newlines (take k parts);
  text_line = with_newline text;
  rest = with_newlines (drop (suc k) parts) ++ rest;
  lines_are = are ∙ ap (λ (l : List (List ℕ)). l ++ rest) (split parts k text at)
      ∙ append_assoc (with_newlines (take k parts)) (with_newline text ∷ with_newlines (drop (suc k) parts)) rest;
  number_is = ap (λ n. n + 1) (sym (so_many parts k text at));
  known = known;
  read = read;
  refused = none;
}

length_kept : (parts : List (List ℕ)) → length (with_newlines parts) ≡ length parts
length_kept [] = refl
length_kept (p ∷ parts) = ap suc (length_kept parts)

-- a line has a newline at its end
ends : (text : List ℕ) → lacks 10 (text ++ codes "\n") ≡ false
ends [] = refl
ends (b ∷ text) = ap (λ (v : Bool). not (b == 10) && v) (ends text) ∙ and-false (not (b == 10))

no_line : (text : List ℕ) (l : JournalLine) → lacks 10 text ≡ true → line_text l ≡ text → ⊥
no_line text l h is =
    let both : lacks 10 (join_with_byte 32 (line_words l) ++ codes "\n") ≡ true = ap (lacks 10) (sym (joined l) ∙ is) ∙ h in
    let contrary : true ≡ false = sym both ∙ ends (join_with_byte 32 (line_words l)) in
    cc

-- what stands behind the last newline
pub refused_rest : (parts : List (List ℕ)) (b : ℕ) (rest : List ℕ) (known : Recorded) → Read empty (with_newlines parts) known
    → lacks 10 (b ∷ rest) ≡ true → IsRefused (ended (parts ++ (b ∷ rest) ∷ [])) (length parts + 1)
refused_rest parts b rest known read h = record {
  front = with_newlines parts;
  text_line = b ∷ rest;
  rest = [];
  lines_are = ended_some parts b rest;
  number_is = ap (λ n. n + 1) (sym (length_kept parts));
  known = known;
  read = read;
  refused = λ l after says adds. no_line (b ∷ rest) l h says.1;
}

pub rest_refused : (parts : List (List ℕ)) (rest : List ℕ) (known : Recorded) → (length rest ≡ 0 → ⊥)
    → Read empty (with_newlines parts) known
    → lacks 10 rest ≡ true → IsRefused (ended (parts ++ rest ∷ [])) (length parts + 1)
rest_refused parts [] known some read h = absurd (some refl)
rest_refused parts (b ∷ rest) known some read h = refused_rest parts b rest known read h

pub rest_read : (parts : List (List ℕ)) (rest : List ℕ) (known : Recorded) → length rest ≡ 0 → Read empty (with_newlines parts) known
    → Read empty (ended (parts ++ rest ∷ [])) known
rest_read parts [] known none read = subst (λ (lines : List (List ℕ)). Read empty lines known) (sym (ended_none parts)) read
rest_read parts (b ∷ rest) known none read = absurd (omega (arith, none))

-- ---- the parts of a text

onto_lacks : (b : ℕ) (parts : List (List ℕ)) → (b == 10) ≡ false → AllLack 10 parts → AllLack 10 (onto_first b parts)
onto_lacks b [] other h = (ap (λ (v : Bool). not v && true) other, tt)
onto_lacks b (p ∷ parts) other h = ((λ i. not (other i) && h.0 i), h.1)

pub parts_lack : (text : List ℕ) → AllLack 10 (cut 10 text)
parts_lack [] = (refl, tt)
parts_lack (b ∷ text) = by_test (b == 10) refl (parts_lack text)
  where
    by_test : (v : Bool) → (b == 10) ≡ v → AllLack 10 (cut 10 text) → AllLack 10 (cond v ([] ∷ cut 10 text) (onto_first b (cut 10 text)))
    by_test true is h = (refl, h)
    by_test false is h = onto_lacks b (cut 10 text) is h

pub last_of : {A : Type 0} (P : A → Type 0) (xs : List A) (x : A) → AllByRecursion P (xs ++ x ∷ []) → P x
last_of P [] x h = h.0
last_of P (y ∷ xs) x h = last_of P xs x h.1

pub few_parts : (text : List ℕ) → length (cut 10 text) ≤ length text + 1
few_parts text = omega (arith, length-slice_split (λ b. b == 10) text, count_by-le-length (λ b. b == 10) text)
