-- A block is what its opcode says: instructions in which no `else` may stand are closed by an `end`.
use Rattle.wasm_binary.proofs.Common.{◌≡◌, ℕ, Bool, true, false, Ok, Err, Option, Result, refl, Block, Code, Loop, code_takes, At, Ender}
use Rattle.wasm_binary.proofs.Common.{block_of, block_type_at, by_else, by_end, code_at, ender_place, if_closed, a_block, a_loop, an_if}
use Rattle.wasm_binary.proofs.Common.{◌>>=◌, ReadFault, block_closed, head_of_opener, opened_at}
use Rattle.w2c_base.specs.declared.value.ValType.{ValType}
use Rattle.wasm_spelling.specs.Steps.{reads}
use Rattle.wasm_binary.specs.declared.code.Opener.{Opener}
use Rattle.wasm_binary.specs.declared.code.Opener.TheVariants as opener

unlike : ◌≡◌ {A = Bool} false true → ⊥
unlike e = absurd cc

no_else : (room : ℕ) (a : At) (code : Code) (place : ℕ) (b : At) → code_at room false a ≡ Ok ((code, by_else place), b) → ⊥
no_else room a code place b e = unlike (code_takes room false a code (by_else place) b e).ender.1

block_is : (room : ℕ) (ty : Option ValType) (a : At) (r : Result ((Code × Ender) × At) ReadFault) → code_at room false a ≡ r
    → (r >>= λ x. block_closed (code_at room false) a_block ty x.0 x.1) ≡ (r >>= λ x. Ok (Block ty x.0.0 (ender_place x.0.1), x.1))
block_is room ty a (Ok ((code, by_end place), b)) e = refl
block_is room ty a (Ok ((code, by_else place), b)) e = absurd (no_else room a code place b e)
block_is room ty a (Err f) e = refl

loop_is : (room : ℕ) (ty : Option ValType) (a : At) (r : Result ((Code × Ender) × At) ReadFault) → code_at room false a ≡ r
    → (r >>= λ x. block_closed (code_at room false) a_loop ty x.0 x.1) ≡ (r >>= λ x. Ok (Loop ty x.0.0 (ender_place x.0.1), x.1))
loop_is room ty a (Ok ((code, by_end place), b)) e = refl
loop_is room ty a (Ok ((code, by_else place), b)) e = absurd (no_else room a code place b e)
loop_is room ty a (Err f) e = refl

if_is : (room : ℕ) (ty : Option ValType) (r : Result ((Code × Ender) × At) ReadFault)
    → (r >>= λ x. block_closed (code_at room false) an_if ty x.0 x.1) ≡ (r >>= λ x. if_closed (code_at room false) ty x.0 x.1)
if_is room ty (Ok ((code, by_end place), b)) = refl
if_is room ty (Ok ((code, by_else place), b)) = refl
if_is room ty (Err f) = refl

typed : (room : ℕ) (o : Opener) (r : Result (Option ValType × At) ReadFault) (a : At) → block_type_at a ≡ r
    → opened_at room (head_of_opener o) a ≡ block_of (λ may_else. code_at room may_else) (head_of_opener o) a
unfolding reads
typed room opener.Block (Ok t) a e = rw e (block_is room t.0 t.1 (code_at room false t.1) refl)
typed room opener.Block (Err f) a e = rw e refl
typed room opener.Loop (Ok t) a e = rw e (loop_is room t.0 t.1 (code_at room false t.1) refl)
typed room opener.If (Ok t) a e = rw e (if_is room t.0 (code_at room true t.1))
typed room _ (Err f) a e = rw e refl

pub opened_is : (room : ℕ) (o : Opener) (a : At)
    → opened_at room (head_of_opener o) a ≡ block_of (λ may_else. code_at room may_else) (head_of_opener o) a
opened_is room o a = typed room o (block_type_at a) a refl
