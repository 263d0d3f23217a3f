-- Texts come to one job at most.
use Rattle.crun_job.proofs.Common.{◌≡◌, ℕ, List, slice_get, Some, sym, refl, ap, ◌∙◌, subst, same_Some, SymbolCall, NumberedLine}
use Rattle.crun_job.proofs.Common.{call_lines_of, RunLine, AreCalls, IsFirstRefusedLine, IsRefusedLine, NamesFrom, CallsLine, Refused}
use Rattle.crun_job.proofs.Common.{AreLinked, IsRefusedUnit, Symbols, Cause}
use Rattle.w2c_io.specs.Contents.{Name}
use Rattle.c_tree.specs.Tree as tree
use Rattle.crun_job.specs.Job.{IsTextsJob, Job, Run, Stops}
use Rattle.crun_job.proofs.Each.{first_apart, one_each, one_first}
use Rattle.crun_job.proofs.Calls.{one_named}
use Rattle.crun_job.proofs.UnitLaws.{linked_apart, one_refused_unit, one_units}

-- ---- lines of a calls file

module _ (units : List (List tree.Item)) where
  line_apart : (line : NumberedLine) (call : SymbolCall) (n : ℕ) → NamesFrom units line call → IsRefusedLine units line n → ⊥
  line_apart line call n names refused = refused.1 call names

  one_line : (line : NumberedLine) (k n : ℕ) → IsRefusedLine units line k → IsRefusedLine units line n → k ≡ n
  one_line line k n a b = a.0 ∙ sym b.0

  one_call_list : (lines : List NumberedLine) (cs ds : List SymbolCall) → AreCalls units lines cs → AreCalls units lines ds → cs ≡ ds
  one_call_list lines cs ds are are' = one_each (NamesFrom units) (λ line a b. one_named units line.text a b) lines cs ds are are'

  lines_apart : (lines : List NumberedLine) (n : ℕ) (cs : List SymbolCall) → IsFirstRefusedLine units lines n → AreCalls units lines cs → ⊥
  lines_apart lines n cs first are = first_apart (NamesFrom units) (IsRefusedLine units) line_apart lines first.0 n cs first.1 are

  one_number : (lines : List NumberedLine) (k n : ℕ) → IsFirstRefusedLine units lines k → IsFirstRefusedLine units lines n → k ≡ n
  one_number lines k n a b = (one_first (NamesFrom units) (IsRefusedLine units) line_apart one_line lines a.0 b.0 k n a.1 b.1).1

-- ---- what texts come to

module _ (line : RunLine) (symbols : Symbols) (texts : List (List ℕ)) (text : List ℕ) where
  -- a unit is refused, or all are linked; then a line is refused, or all name calls
  data IsSeen (job : Job) : Type 0 where
    Unit_refused : (number : ℕ) → (file : Name) → (why : Cause) → slice_get line.units number ≡ Some file
        → IsRefusedUnit texts symbols number why
        → job ≡ Stops (Refused file why) → IsSeen job
    Line_refused : (units : List (List tree.Item)) → (number : ℕ) → AreLinked texts symbols units
        → IsFirstRefusedLine units (call_lines_of text) number → job ≡ Stops (CallsLine number) → IsSeen job
    All_named : (units : List (List tree.Item)) → (calls : List SymbolCall) → AreLinked texts symbols units
        → AreCalls units (call_lines_of text) calls → job ≡ Run units calls line.steps line.shows_state → IsSeen job

  seen : (job : Job) → IsTextsJob line symbols texts text job → IsSeen job
  seen (Run units calls steps shown) (linked, are, is_steps, is_shown) =
      All_named units calls linked are (λ i. Run units calls (is_steps i) (is_shown i))
  seen (Stops (Refused file why)) (number, named, refused) = Unit_refused number file why named refused refl
  seen (Stops (CallsLine number)) (units, linked, first) = Line_refused units number linked first refl
  seen _ is = absurd is

  one_seen : (a b : Job) → IsSeen a → IsSeen b → a ≡ b
  one_seen a b (Unit_refused k file why named refused is) (Unit_refused n other why' named' refused' is') =
      let both = one_refused_unit texts symbols k n why why' refused refused' in
      let files : file ≡ other = same_Some file other (sym named ∙ ap (slice_get line.units) both.0 ∙ named') in
      is ∙ (λ i. Stops (Refused (files i) (both.1 i))) ∙ sym is'
  one_seen a b (Unit_refused k file why named refused is) (Line_refused units n linked first is') =
      absurd (linked_apart texts symbols k why units refused linked)
  one_seen a b (Unit_refused k file why named refused is) (All_named units calls linked are is') =
      absurd (linked_apart texts symbols k why units refused linked)
  one_seen a b (Line_refused units n linked first is) (Unit_refused k file why named refused is') =
      absurd (linked_apart texts symbols k why units refused linked)
  one_seen a b (All_named units calls linked are is) (Unit_refused k file why named refused is') =
      absurd (linked_apart texts symbols k why units refused linked)
  one_seen a b (Line_refused units n linked first is) (Line_refused others m linked' first' is') =
      let there = subst (λ us. IsFirstRefusedLine us (call_lines_of text) m) (one_units texts others units linked'.0 linked.0) first' in
      is ∙ ap (λ i. Stops (CallsLine i)) (one_number units (call_lines_of text) n m first there) ∙ sym is'
  one_seen a b (Line_refused units n linked first is) (All_named others calls linked' are is') =
      let same = one_units texts others units linked'.0 linked.0 in
      absurd (lines_apart units (call_lines_of text) n calls first (subst (λ us. AreCalls us (call_lines_of text) calls) same are))
  one_seen a b (All_named others calls linked' are is') (Line_refused units n linked first is) =
      let same = one_units texts others units linked'.0 linked.0 in
      absurd (lines_apart units (call_lines_of text) n calls first (subst (λ us. AreCalls us (call_lines_of text) calls) same are))
  one_seen a b (All_named units cs linked are is) (All_named others ds linked' are' is') =
      let same = one_units texts units others linked.0 linked'.0 in
      let calls = one_call_list others (call_lines_of text) cs ds (subst (λ us. AreCalls us (call_lines_of text) cs) same are) are' in
      is ∙ (λ i. Run (same i) (calls i) line.steps line.shows_state) ∙ sym is'

  pub one_texts_job : (a b : Job) → IsTextsJob line symbols texts text a → IsTextsJob line symbols texts text b → a ≡ b
  one_texts_job a b first second = one_seen a b (seen a first) (seen b second)
