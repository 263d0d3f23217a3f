-- Instructions that look something up and then take and put operands: where it is there, only the operands can be faulty.
use Rattle.wasm_typing.specs.declared.fault.ValidCause.TheVariants as cause
use Rattle.body_check.proofs.Common.{◌≡◌, ℕ, Bool, true, false, ◌||◌, List, [], ◌∷◌, ◌++◌, is_none, slice_get, Some, None, Ok, Err, Option}
use Rattle.body_check.proofs.Common.{Result, sym, ap, ◌∙◌, list_any-append, list_any, FuncType, ValType, I32, BrTable, Call, CallIndirect}
use Rattle.body_check.proofs.Common.{cause_of, first_cause, Operands, all_labels, anything, has_table, jump, on_some, pop_type, pop_types}
use Rattle.body_check.proofs.Common.{step, turn, when, Context, Labels, Plain, any_missing, Steps, values, ValidCause, Stop}
use Rattle.w2c_base.specs.Lookup.{if_found}
use Rattle.body_check.specs.declared.stop.Stop.TheVariants as stop
use Rattle.body_check.proofs.Needs.{not_none}

pub by_steps : (result : Result Unit Stop) (went turned : Option Operands) (why : ValidCause) (new : Operands) → went ≡ turned
    → why ≡ cause.TypeMismatch → Steps result turned new → Plain result went why new
by_steps (Ok u) went turned why new same mismatch h = same ∙ h
by_steps (Err (stop.Cause k)) went turned why new same mismatch h = (same ∙ h.1, h.0 ∙ sym mismatch)
by_steps (Err stop.Memory) went turned why new same mismatch h = tt

module _ (c : Context) (labels : Labels) (result : Result Unit Stop) (old new : Operands) where
  pub called : (index : ℕ) (ty : FuncType) (params : List ValType) → slice_get c.funcs index ≡ Some (Some ty) → params ≡ ty.params
      → Steps result (turn params (values ty.result) old) new
      → Plain result (step c labels (Call index) old) (cause_of c labels (Call index)) new
  called index ty params there same h =
      by_steps result (step c labels (Call index) old) (turn params (values ty.result) old) (cause_of c labels (Call index)) new
      (ap (λ (o : Option (Option FuncType)). on_some o (λ found. on_some found (λ t. turn t.params (values t.result) old))) there
      ∙ ap (λ (ps : List ValType). turn ps (values ty.result) old) (sym same))
      (ap (λ (o : Option (Option FuncType)). first_cause
      ((is_none o, cause.UnknownFunction) ∷ (is_none (if_found o (λ t. t)), cause.UnknownType) ∷ [])) there)
      h

  pub called_by_index : (index : ℕ) (ty : FuncType) (params : List ValType) → slice_get c.types index ≡ Some ty → has_table c ≡ true
      → params ≡ ty.params → Steps result (turn (params ++ I32 ∷ []) (values ty.result) old) new
      → Plain result (step c labels (CallIndirect index) old) (cause_of c labels (CallIndirect index)) new
  called_by_index index ty params there table same h =
      by_steps result (step c labels (CallIndirect index) old) (turn (params ++ I32 ∷ []) (values ty.result) old)
      (cause_of c labels (CallIndirect index)) new
      (ap (λ (o : Option FuncType). on_some o (λ t. when (has_table c) (turn (t.params ++ I32 ∷ []) (values t.result) old))) there
      ∙ ap (λ (b : Bool). when b (turn (ty.params ++ I32 ∷ []) (values ty.result) old)) table
      ∙ ap (λ (ps : List ValType). turn (ps ++ I32 ∷ []) (values ty.result) old) (sym same))
      (ap (λ (o : Option FuncType). first_cause
      ((is_none o, cause.UnknownType) ∷ (is_none (slice_get c.tables 0), cause.UnknownTable) ∷ [])) there
      ∙ ap (λ (b : Bool). first_cause ((b, cause.UnknownTable) ∷ [])) (not_none (slice_get c.tables 0) table))
      h

  -- none of a list is missing, and neither is one more
  one_more_there : (others : List ℕ) (label : ℕ) (t : Option ValType) → slice_get labels label ≡ Some t → any_missing labels others ≡ false
      → any_missing labels (others ++ label ∷ []) ≡ false
  one_more_there others label t there h =
      list_any-append (λ (k : ℕ). is_none (slice_get labels k)) others (label ∷ [])
      ∙ ap (λ (b : Bool). b || list_any (λ (k : ℕ). is_none (slice_get labels k)) (label ∷ [])) h
      ∙ ap (λ (o : Option (Option ValType)). is_none o || false) there

  jumped_behind : (t : Option ValType) (s : Operands) → pop_type I32 old ≡ Some s → jump (values t ++ I32 ∷ []) old ≡ jump (values t) s
  jumped_behind None s e = ap (λ (o : Option Operands). on_some (on_some o (pop_types [])) (λ rest. Some anything)) e
  jumped_behind (Some u) s e = ap (λ (o : Option Operands). on_some (on_some o (pop_types (u ∷ []))) (λ rest. Some anything)) e

  pub jumped_by_table : (others : List ℕ) (label : ℕ) (t : Option ValType) (s : Operands) → slice_get labels label ≡ Some t
      → all_labels labels others t ≡ true → any_missing labels others ≡ false → pop_type I32 old ≡ Some s
      → Steps result (jump (values t) s) new
      → Plain result (step c labels (BrTable others label) old) (cause_of c labels (BrTable others label)) new
  jumped_by_table others label t s there same none_missing popped h =
      by_steps result (step c labels (BrTable others label) old) (jump (values t) s) (cause_of c labels (BrTable others label)) new
      (ap (λ (o : Option (Option ValType)). on_some o (λ u. when (all_labels labels others u) (jump (values u ++ I32 ∷ []) old))) there
      ∙ ap (λ (b : Bool). when b (jump (values t ++ I32 ∷ []) old)) same ∙ jumped_behind t s popped)
      (ap (λ (b : Bool). first_cause ((b, cause.UnknownLabel) ∷ [])) (one_more_there others label t there none_missing))
      h
