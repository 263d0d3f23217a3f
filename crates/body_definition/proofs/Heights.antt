-- The types that the translator follows are the typing's, and a slot that occurs is declared, at a height that is small.
use Rattle.body_definition.proofs.Common.{◌≡◌, ℕ, ◌<◌, max, Bool, true, false, not, ◌&&◌, ◌||◌, List, [], ◌∷◌, ◌++◌, reverse, length, drop}
use Rattle.body_definition.proofs.Common.{if◌then◌else◌, Some, None, Option, sym, refl, ap, ◌∙◌, append_assoc, arith, eq-eqb, or_left, Br}
use Rattle.body_definition.proofs.Common.{drop-append_seam, length-reverse, reverse-append, both_hold, type_equals_itself, FuncType, Typing}
use Rattle.body_definition.proofs.Common.{ValType, by_rule, of_types, Block, BrIf, BrTable, Call, CallIndirect, Code, Drop, GlobalGet, If}
use Rattle.body_definition.proofs.Common.{GlobalSet, Kind, Load, LocalGet, LocalSet, LocalTee, Loop, MemoryCopy, MemoryFill, MemoryGrow}
use Rattle.body_definition.proofs.Common.{MemorySize, Otherwise, Return, Select, Store, Unreachable, else_code, end_code, no_else, Context}
use Rattle.body_definition.proofs.Common.{then_code, Labels, KindHasType, Stack, Turns, TurnsAsTabled, table_type, values, after, ends}
use Rattle.body_definition.proofs.Common.{after_call, occurs, occurs_in, occurs_in_else, peak, peak_in, peak_in_else, stands, turned}
use Rattle.w2c_base.specs.declared.value.ValType.TheVariants.{I32}

-- ---- the types behind an instruction

-- operands that are taken off the top
drop_operands : (operands rest base : List ValType) → drop (length operands) ((reverse operands ++ rest) ++ base) ≡ rest ++ base
drop_operands operands rest base =
    ap (drop (length operands)) (append_assoc (reverse operands) rest base)
    ∙ (ap (λ (k : ℕ). drop k (reverse operands ++ (rest ++ base))) (sym (length-reverse operands))
    ∙ drop-append_seam (reverse operands) (rest ++ base))

turned_typed : (typing : Typing) (own outs base : Stack) → TurnsAsTabled typing own outs → turned typing (own ++ base) ≡ outs ++ base
turned_typed (of_types operands results) own outs base h =
    ap (λ (types : Stack). reverse results ++ drop (length operands) (types ++ base)) h.1
    ∙ (ap (λ (types : Stack). reverse results ++ types) (drop_operands operands h.0 base)
    ∙ (sym (append_assoc (reverse results) h.0 base) ∙ ap (λ (types : Stack). types ++ base) (sym h.2)))
turned_typed by_rule own outs base h = absurd h

-- a value, or none, is put on top
put : (t : Option ValType) (rest outs base : Stack) → outs ≡ reverse (values t) ++ rest → values t ++ (rest ++ base) ≡ outs ++ base
put None rest outs base e = ap (λ (types : Stack). types ++ base) (sym e)
put (Some t) rest outs base e = ap (λ (types : Stack). types ++ base) (sym e)

call_typed : (ty : FuncType) (own outs base : Stack) → Turns ty.params (values ty.result) own outs
    → after_call (Some ty) (own ++ base) ≡ outs ++ base
call_typed ty own outs base h =
    ap (λ (types : Stack). values ty.result ++ drop (length ty.params) (types ++ base)) h.1
    ∙ (ap (λ (types : Stack). values ty.result ++ types) (drop_operands ty.params h.0 base) ∙ put ty.result h.0 outs base h.2)

-- operands under an uppermost one
below_top : (operands : List ValType) (t : ValType) (own rest base : Stack) → own ≡ reverse (operands ++ t ∷ []) ++ rest
    → drop 1 (own ++ base) ≡ (reverse operands ++ rest) ++ base
below_top operands t own rest base e = ap (λ (types : Stack). drop 1 (types ++ base))
    (e ∙ ap (λ (types : Stack). types ++ rest) (reverse-append operands (t ∷ [])))

branch_if_typed : (t : Option ValType) (own outs base : Stack) → Turns (values t ++ I32 ∷ []) (values t) own outs
    → drop 1 (own ++ base) ≡ outs ++ base
branch_if_typed None own outs base h = rw (h.1, h.2) refl
branch_if_typed (Some t) own outs base h = rw (h.1, h.2) refl

call_indirect_typed : (ty : FuncType) (own outs base : Stack) → Turns (ty.params ++ I32 ∷ []) (values ty.result) own outs
    → after_call (Some ty) (drop 1 (own ++ base)) ≡ outs ++ base
call_indirect_typed ty own outs base h =
    ap (after_call (Some ty)) (below_top ty.params I32 own h.0 base h.1)
    ∙ call_typed ty (reverse ty.params ++ h.0) outs base (h.0, refl, h.2)

-- Behind an instruction that goes on the translator's types are the typing's.
pub after_typed : (c : Context) (labels : Labels) (kind : Kind) (own outs base : Stack) → KindHasType c labels kind own outs
    → ends kind ≡ false
    → after c (own ++ base) kind ≡ outs ++ base
after_typed c labels Drop own outs base h goes = rw (h.1.1, h.1.2) refl
after_typed c labels Select own outs base h goes = rw (h.1.1, h.1.2) refl
after_typed c labels (LocalGet index) own outs base h goes = rw (h.1, h.2.1, h.2.2) refl
after_typed c labels (LocalSet index) own outs base h goes = rw (h.2.1, h.2.2) refl
after_typed c labels (LocalTee index) own outs base h goes = rw (h.2.1, h.2.2) refl
after_typed c labels (GlobalGet index) own outs base h goes = rw (h.2, h.3.1, h.3.2) refl
after_typed c labels (GlobalSet index) own outs base h goes = rw (h.2.1, h.2.2) refl
after_typed c labels (Block t code end_place) own outs base h goes = rw h.1.1 (put t h.1.0 outs base h.1.2)
after_typed c labels (Loop t code end_place) own outs base h goes = rw h.1.1 (put t h.1.0 outs base h.1.2)
after_typed c labels (If t code otherwise end_place) own outs base h goes = rw h.2.1 (put t h.2.0 outs base h.2.2)
after_typed c labels (BrIf label) own outs base h goes = branch_if_typed h.0 own outs base h.2
after_typed c labels (Call index) own outs base h goes = rw h.1 (call_typed h.0 own outs base h.2)
after_typed c labels (CallIndirect type_index) own outs base h goes = rw h.1 (call_indirect_typed h.0 own outs base h.3)
after_typed c labels Unreachable own outs base h goes = absurd cc
after_typed c labels (Br label) own outs base h goes = absurd cc
after_typed c labels (BrTable others label) own outs base h goes = absurd cc
after_typed c labels Return own outs base h goes = absurd cc
after_typed c labels (Load op arg) own outs base h goes = turned_typed (table_type (Load op arg)) own outs base h.2
after_typed c labels (Store op arg) own outs base h goes = turned_typed (table_type (Store op arg)) own outs base h.2
after_typed c labels MemorySize own outs base h goes = turned_typed (table_type MemorySize) own outs base h.1
after_typed c labels MemoryGrow own outs base h goes = turned_typed (table_type MemoryGrow) own outs base h.1
after_typed c labels MemoryCopy own outs base h goes = turned_typed (table_type MemoryCopy) own outs base h.1
after_typed c labels MemoryFill own outs base h goes = turned_typed (table_type MemoryFill) own outs base h.1
after_typed c labels kind own outs base h goes = turned_typed (table_type kind) own outs base h

-- ---- slots that occur

-- the uppermost operand stands at its height
pub stands_top : (t : ValType) (types : Stack) → stands t (length types) (t ∷ types) ≡ true
stands_top t types = rw (type_equals_itself t, eq-eqb (length types) (length types) refl) refl

pub stands_low : (t : ValType) (h : ℕ) (types : Stack) → stands t h types ≡ true → h < length types
stands_low t h [] e = absurd cc
stands_low t h (u ∷ types) e = grind (arith, stands_low t h types, both_hold)

-- what stands where code begins occurs in it
pub stands_occurs : (t : ValType) (h : ℕ) (c : Context) (types : Stack) (code : Code) → stands t h types ≡ true
    → occurs t h c types code ≡ true
stands_occurs t h c types end_code e = e
stands_occurs t h c types (then_code place kind code) e = or_left (stands t h types)
    (occurs_in t h c types kind || (not (ends kind) && occurs t h c (after c types kind) code)) e

-- below the greater of two, or of what stands behind an instruction
below_either : (a b : Bool) (h x y : ℕ) → (a ≡ true → h < x) → (b ≡ true → h < y) → (a || b) ≡ true → h < max x y
below_either a b h x y left right e = grind arith

below_behind : (ends there : Bool) (h x : ℕ) → (there ≡ true → h < x) → (not ends && there) ≡ true → h < (if ends then 0 else x)
below_behind true there h x below e = absurd cc
below_behind false there h x below e = below e

mutual
  pub occurs_low : (t : ValType) (h : ℕ) (c : Context) (types : Stack) (code : Code) → occurs t h c types code ≡ true
      → h < peak c types code
  occurs_low t h c types end_code e = stands_low t h types e
  occurs_low t h c types (then_code place kind code) e =
      let behind : Bool = occurs t h c (after c types kind) code in
      let top : ℕ = peak c (after c types kind) code in
      below_either (stands t h types) (occurs_in t h c types kind || (not (ends kind) && behind)) h (length types)
      (max (peak_in c types kind) (if ends kind then 0 else top))
      (stands_low t h types)
      (below_either (occurs_in t h c types kind) (not (ends kind) && behind) h (peak_in c types kind) (if ends kind then 0 else top)
      (occurs_low_in t h c types kind)
      (below_behind (ends kind) behind h top (occurs_low t h c (after c types kind) code)))
      e

  occurs_low_in : (t : ValType) (h : ℕ) (c : Context) (types : Stack) (kind : Kind) → occurs_in t h c types kind ≡ true
      → h < peak_in c types kind
  occurs_low_in t h c types (Block r code end_place) e = occurs_low t h c types code e
  occurs_low_in t h c types (Loop r code end_place) e = occurs_low t h c types code e
  occurs_low_in t h c types (If r code otherwise end_place) e =
      below_either (occurs t h c (drop 1 types) code) (occurs_in_else t h c (drop 1 types) otherwise) h (peak c (drop 1 types) code)
      (peak_in_else c (drop 1 types) otherwise)
      (occurs_low t h c (drop 1 types) code)
      (occurs_low_else t h c (drop 1 types) otherwise)
      e
  occurs_low_in t h c types _ e = absurd cc

  occurs_low_else : (t : ValType) (h : ℕ) (c : Context) (types : Stack) (otherwise : Otherwise)
      → occurs_in_else t h c types otherwise ≡ true → h < peak_in_else c types otherwise
  occurs_low_else t h c types no_else e = absurd cc
  occurs_low_else t h c types (else_code place code) e = occurs_low t h c types code e
