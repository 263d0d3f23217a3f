-- The forms that write a unit: from what is asked for over what files hold to what the words ask for.
use Rattle.crun_cli.proofs.Common.{◌≡◌, ◌⊎◌, List, [], ◌∷◌, Some, None, Option, MatchOption, sym, refl, ◌∙◌, subst, inl, inr, Contents, Job}
use Rattle.crun_cli.proofs.Common.{Name, holding, IsOneOf, CSpells, print_of, hosts_of, HostModule, Line, MergeLine, TrimLine, line_of, ℕ}
use Rattle.crun_cli.proofs.Common.{merges, trims, Stops, Write, Reason, Refused, Unread, Unwritten, Usage, WantOfMemory, AreUntouched}
use Rattle.crun_cli.proofs.Common.{FilesSeen, IsMergeJob, IsTrimJob, IsUnitPart, StopsWrite, Finished, IsJobWith, WrotePart, HasReading}
use Rattle.crun_cli.proofs.Common.{IsReadBy, IsToRead, IsToWrite, IsUnitFile, IsUnitOf, IsWrittenBy, IsLineJob, symbols_of, IsUntouched}
use Rattle.crun_cli.proofs.Common.{Outside, SinkSeen, StopsWork, IsKept}
use Rattle.c_tree.specs.Tree as tree

-- ---- words that have a reading

pub has_line : (words : List Name) (line : Line) → line_of words ≡ Some line → HasReading words
has_line words line is none = (let both : ◌≡◌ {A = Option Line} None (Some line) = sym none ∙ is in cc)

-- the file that is written is the one that the line names
pub kept_line : (words : List Name) (line : Line) → line_of words ≡ Some line → (old new : Outside)
    → (new.files.told ≡ old.files.told)
    ⊎ ((file : Name) × (text : List ℕ) × IsWrittenBy file line × (new.files.told ≡ holding old.files.told file text))
    → IsKept words old new
kept_line words line is old new kept = subst (λ (o : Option Line). (new.files.told ≡ old.files.told)
    ⊎ ((file : Name) × (text : List ℕ) × IsToWrite file o × (new.files.told ≡ holding old.files.told file text))) (sym is) kept

pub kept_unit : (words : List Name) (line : Line) (output : Name) → IsWrittenBy output line → line_of words ≡ Some line
    → (old new : Outside) → (new.files.told ≡ old.files.told) ⊎ ((text : List ℕ) × (new.files.told ≡ holding old.files.told output text))
    → IsKept words old new
kept_unit words line output by is old new (inl same) = inl same
kept_unit words line output by is old new (inr (text, holds)) = inr (output, text, subst (IsToWrite output) (sym is) by, holds)

-- ---- the forms

module _ {H : Type 0} (hm : HostModule H) (hosts : List H) (words : List Name) (form : Line) (is : line_of words ≡ Some form)
    (Asks : Contents → Job → Type 0) (jobs : (m : Contents) (job : Job) → Asks m job → IsLineJob (hosts_of hm hosts) m form job)
    (units : List Name) (output : Name) (reads : (file : Name) → IsOneOf file units → IsReadBy file form)
    (unit_file : (file : Name) → IsOneOf file units → IsUnitOf file form) (writes : IsWrittenBy output form) (out : SinkSeen)
    (start new : FilesSeen) where
  abbrev Old : Outside
  Old = record { files = start; out = out }

  abbrev New : Outside
  New = record { files = new; out = out }

  there : (m : Contents) (job : Job) → Asks m job → IsJobWith hm hosts words m job
  there m job of = subst (λ o. MatchOption o (job ≡ Stops Usage) (λ l. IsLineJob (hosts_of hm hosts) m l job)) (sym is) (jobs m job of)

  untouched : AreUntouched start new → IsUntouched Old New
  untouched same = record { files = same; lines = refl }

  part : (m : Contents) → IsUnitPart Asks output m start new → WrotePart hm hosts words m Old New
  part m (unit, asks, begun) =
      let job = there m (Write output unit) asks in
      record { output = output; unit = unit; job = job; begun = begun; nothing = refl }

  unit_done : (m : Contents) → (unit : List tree.Item) × Asks m (Write output unit) × CSpells unit (print_of unit)
      × (new.told ≡ holding start.told output (print_of unit)) → Finished hm hosts words m Old New 0
  unit_done m (unit, asks, spells, written) =
      let job = there m (Write output unit) asks in
      inr (refl, record { output = output; unit = unit; job = job; spells = spells; written = written; nothing = refl })

  unit_stop : (why : Reason) → StopsWrite Asks units output start new why → StopsWork hm hosts words Old New why
  unit_stop (Unread file) (one, inl faulted, same) =
      (record { to_read = subst (IsToRead file) (sym is) (reads file one); cause = inl faulted }, untouched same)
  unit_stop (Unread file) (one, inr (m, tells, asks), same) =
      let job = there m (Stops (Unread file)) asks in
      (record { to_read = subst (IsToRead file) (sym is) (reads file one); cause = inr (m, tells, job) }, untouched same)
  unit_stop (Refused file why) (one, first, same) = (
    (subst (IsUnitFile file) (sym is) (unit_file file one), λ m tells. there m (Stops (Refused file why)) (first m tells)),
    untouched same,
  )
  unit_stop Unwritten (faulted, begun) =
      (inr (output, subst (IsToWrite output) (sym is) writes, faulted), has_line words form is, λ m tells. inr (part m (begun m tells)))
  unit_stop WantOfMemory stop = λ m tells.
      elim (stop m tells) [ inl same ↦ inl (untouched same) | inr begun ↦ inr (inr (part m begun)) ]
  unit_stop _ stop = absurd stop

module _ {H : Type 0} (hm : HostModule H) (hosts : List H) (words : List Name) (out : SinkSeen) (start new : FilesSeen) where
  module _ (line : MergeLine) (is : line_of words ≡ Some (merges line)) where
    pub merge_done : (m : Contents) → (unit : List tree.Item) × IsMergeJob line (symbols_of (hosts_of hm hosts)) m (Write line.output unit)
        × CSpells unit (print_of unit) × (new.told ≡ holding start.told line.output (print_of unit))
        → Finished hm hosts words m (record { files = start; out = out }) (record { files = new; out = out }) 0
    merge_done = unit_done hm hosts words (merges line) is (IsMergeJob line (symbols_of (hosts_of hm hosts))) (λ m job of. of) line.units
        line.output (λ file one. one) (λ file one. one) refl out start new

    pub merge_stop : (why : Reason) → StopsWrite (IsMergeJob line (symbols_of (hosts_of hm hosts))) line.units line.output start new why
        → StopsWork hm hosts words (record { files = start; out = out }) (record { files = new; out = out }) why
    merge_stop = unit_stop hm hosts words (merges line) is (IsMergeJob line (symbols_of (hosts_of hm hosts))) (λ m job of. of) line.units
        line.output (λ file one. one) (λ file one. one) refl out start new

  module _ (line : TrimLine) (is : line_of words ≡ Some (trims line)) where
    only : (file : Name) → IsOneOf file (line.unit ∷ []) → file ≡ line.unit
    only file (inl same) = same
    only file (inr none) = absurd none

    pub trim_done : (m : Contents) → (unit : List tree.Item) × IsTrimJob line m (Write line.output unit)
        × CSpells unit (print_of unit) × (new.told ≡ holding start.told line.output (print_of unit))
        → Finished hm hosts words m (record { files = start; out = out }) (record { files = new; out = out }) 0
    trim_done = unit_done hm hosts words (trims line) is (IsTrimJob line) (λ m job of. of) (line.unit ∷ []) line.output only only refl out
        start new

    pub trim_stop : (why : Reason) → StopsWrite (IsTrimJob line) (line.unit ∷ []) line.output start new why
        → StopsWork hm hosts words (record { files = start; out = out }) (record { files = new; out = out }) why
    trim_stop = unit_stop hm hosts words (trims line) is (IsTrimJob line) (λ m job of. of) (line.unit ∷ []) line.output only only refl out
        start new
