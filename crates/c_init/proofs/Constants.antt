-- Expressions by their only instruction.
use Rattle.c_init.proofs.Common.{◌≡◌, Some, None, Option, refl, ap, arith, Code, GlobalGet, I32Const, I64Const, Kind, end_code, then_code}
use Rattle.c_init.proofs.Common.{Module, constant_expr, constant_by, single_of}
use Rattle.wasm_tree.specs.Appended.{InstrTree, code_length, instr_at}

pub by_single : (m : Module) (code : Code) → constant_by m (single_of code) ≡ constant_expr m code
by_single m end_code = refl
by_single m (then_code p (I32Const z) end_code) = refl
by_single m (then_code p (I64Const z) end_code) = refl
by_single m (then_code p (GlobalGet i) end_code) = refl
by_single m (then_code p _ end_code) = refl
by_single m (then_code p (I32Const z) (then_code q l code)) = refl
by_single m (then_code p (I64Const z) (then_code q l code)) = refl
by_single m (then_code p (GlobalGet i) (then_code q l code)) = refl
by_single m (then_code p _ (then_code q l code)) = refl

abbrev none : Option Kind
none = None

pub one_instruction : (code : Code) (i : InstrTree) → code_length code ≡ 1 → Some i ≡ instr_at 0 code → Some i.kind ≡ single_of code
one_instruction end_code i one e = absurd (omega (arith, one))
one_instruction (then_code p k end_code) i one e = let here : i ≡ record { place = p; kind = k } = some_is i _ e in ap
    (λ (j : InstrTree). Some j.kind) here
  where
    some_is : (a b : InstrTree) → Some a ≡ Some b → a ≡ b
    some_is a b h = cc
one_instruction (then_code p k (then_code q l code)) i one e = absurd (omega (arith, one))

pub other_lengths : (code : Code) → (code_length code ≡ 1 → ⊥) → none ≡ single_of code
other_lengths end_code other = refl
other_lengths (then_code p k end_code) other = absurd (other refl)
other_lengths (then_code p k (then_code q l code)) other = refl
