-- A line that has a unit written asks for at most one job.
use Rattle.crun_units.proofs.Common.{◌≡◌, ℕ, List, [], ◌∷◌, slice_get, Some, Option, sym, ap, ◌∙◌, subst, inl, inr, Contents, Name, Job}
use Rattle.crun_units.proofs.Common.{IsTrimmed, MergeLine, TrimLine, UnitsRead, UnitsReading, one_first, Stops, Write, Refused, Symbols}
use Rattle.crun_units.proofs.Common.{IsRefusedText, IsUnitText, IsBehindUnits, IsMergeJob, IsMerged, IsTrimJob, IsTrimmedText, IsUnitsJob}
use Rattle.c_tree.specs.Tree as tree
use Rattle.c_merge.specs.Merge.{merged}
use Rattle.c_trim.proofs.Needed.{one_trimmed}
use Rattle.crun_words.proofs.InputStops.{one_units_reading}
use Rattle.crun_job.proofs.Texts.{one_cause, text_apart}
use Rattle.crun_job.proofs.UnitLaws.{linked_apart, one_refused_unit, one_units, texts_apart}

-- ---- behind the reading of the units

module _ (IsOf : List (List ℕ) → Job → Type 0)
    (one_of : (texts : List (List ℕ)) (a b : Job) → IsOf texts a → IsOf texts b → a ≡ b) where
  one_behind : (reading : UnitsReading) (a b : Job) → IsBehindUnits IsOf reading a → IsBehindUnits IsOf reading b → a ≡ b
  one_behind (UnitsRead texts) a b first second = one_of texts a b first second
  one_behind _ a b first second = first ∙ sym second

  one_units_job : (m : Contents) (units : List Name) (a b : Job) → IsUnitsJob m units IsOf a → IsUnitsJob m units IsOf b → a ≡ b
  one_units_job m units a b (reading, is, behind) (other, is', behind') =
      one_behind reading a b behind (rw (one_units_reading m units other reading is' is) at behind')

-- ---- units that are merged

one_file : (names : List Name) (k n : ℕ) (name other : Name) → k ≡ n → slice_get names k ≡ Some name → slice_get names n ≡ Some other
    → name ≡ other
one_file names k n name other same at at' =
    let both : ◌≡◌ {A = Option Name} (Some name) (Some other) = sym at ∙ ap (slice_get names) same ∙ at' in cc

one_merged : (line : MergeLine) (symbols : Symbols) (texts : List (List ℕ)) (a b : Job) → IsMerged line symbols texts a
    → IsMerged line symbols texts b → a ≡ b
one_merged line symbols texts a b (inl (units, linked, is)) (inl (others, linked', is')) =
    is ∙ ap (λ us. Write line.output (merged us)) (one_units texts units others linked.0 linked'.0) ∙ sym is'
one_merged line symbols texts a b (inl (units, linked, is)) (inr (k, file, why, at, refused, is')) =
    absurd (linked_apart texts symbols k why units refused linked)
one_merged line symbols texts a b (inr (k, file, why, at, refused, is')) (inl (units, linked, is)) =
    absurd (linked_apart texts symbols k why units refused linked)
one_merged line symbols texts a b (inr (k, file, why, at, refused, is)) (inr (n, other, cause, at', refused', is')) =
    let same = one_refused_unit texts symbols k n why cause refused refused' in
    is ∙ (λ i. Stops (Refused (one_file line.units k n file other same.0 at at' i) (same.1 i))) ∙ sym is'

pub one_merge_job : (m : Contents) (line : MergeLine) (symbols : Symbols) (a b : Job) → IsMergeJob line symbols m a
    → IsMergeJob line symbols m b → a ≡ b
one_merge_job m line symbols a b first second =
    one_units_job (IsMerged line symbols) (one_merged line symbols) m line.units a b first second

-- ---- a unit that is trimmed

same_head : (unit other : List tree.Item) → ◌≡◌ {A = List (List tree.Item)} (unit ∷ []) (other ∷ []) → unit ≡ other
same_head unit other same = cc

one_trimmed_text : (line : TrimLine) (texts : List (List ℕ)) (a b : Job) → IsTrimmedText line texts a → IsTrimmedText line texts b → a ≡ b
one_trimmed_text line texts a b (inl (unit, trimmed, are, by, is)) (inl (unit', trimmed', are', by', is')) =
    let same = same_head unit unit' (one_units texts (unit ∷ []) (unit' ∷ []) are are') in
    is ∙ ap (Write line.output) (one_trimmed unit' trimmed trimmed' (subst (λ u. IsTrimmed u trimmed) same by) by') ∙ sym is'
one_trimmed_text line texts a b (inl (unit, trimmed, are, by, is)) (inr (k, why, refused, is')) =
    absurd (texts_apart texts k why (unit ∷ []) refused are)
one_trimmed_text line texts a b (inr (k, why, refused, is')) (inl (unit, trimmed, are, by, is)) =
    absurd (texts_apart texts k why (unit ∷ []) refused are)
one_trimmed_text line texts a b (inr (k, why, refused, is)) (inr (n, other, refused', is')) =
    is ∙ ap (λ cause. Stops (Refused line.unit cause))
    (one_first IsUnitText IsRefusedText text_apart one_cause texts k n why other refused refused').1 ∙ sym is'

pub one_trim_job : (m : Contents) (line : TrimLine) (a b : Job) → IsTrimJob line m a → IsTrimJob line m b → a ≡ b
one_trim_job m line a b first second = one_units_job (IsTrimmedText line) (one_trimmed_text line) m (line.unit ∷ []) a b first second
