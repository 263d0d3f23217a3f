-- What the checker of a body answers of one instruction, of a block and of both branches of an `if`.
use Rattle.wasm_typing.specs.declared.fault.ValidCause.TheVariants.{TypeMismatch}
use Rattle.wasm_typing.specs.declared.fault.ValidRefusal.TheVariants.{Invalid, Memory}
use Rattle.body_check.proofs.Common.{◌≡◌, ℕ, ◌+◌, ◌∷◌, OnOk, Some, None, Ok, Err, Option, Result, sym, refl, ap, ◌∙◌, ValType, I32, Code}
use Rattle.body_check.proofs.Common.{If, Otherwise, no_else, kind_tree, otherwise_tree, ElsePart, RustKind, cause_of, plain_token, Operands}
use Rattle.body_check.proofs.Common.{Ran, Refusal, and_then, first_end, give, later, no_result, nothing, or_refuse, pop_type, refusal}
use Rattle.body_check.proofs.Common.{run_else, run_kind, step, token_count, Context, Labels, Plain, RanTo, all_placed, run_block}
use Rattle.body_check.proofs.Common.{run_nested, Steps, Fault, ValidCause, ValidRefusal, Stop}
use Rattle.wasm_tree.specs.declared.operators.Kind.TheVariants as kind
use Rattle.body_check.specs.declared.stop.Stop.TheVariants as stop

pub placed_ran : (result : Result Unit Stop) (went : Option Operands) (cause : ValidCause) (place : ℕ) (new : Operands)
    → Plain result went cause new
    → RanTo (all_placed result place) (or_refuse (refusal 0 (record { place = place; cause = cause })) went) new
placed_ran (Ok u) went cause place new p = ap (or_refuse (refusal 0 (record { place = place; cause = cause }))) p
placed_ran (Err (stop.Cause k)) went cause place new p = (
  0,
  ap (or_refuse (refusal 0 (record { place = place; cause = cause }))) p.0
      ∙ ap (λ (x : ValidCause). Err (refusal 0 (record { place = place; cause = x }))) (sym p.1),
)
placed_ran (Err stop.Memory) went cause place new p = tt

-- an instruction that holds no code
pub plain_ran : (c : Context) (labels : Labels) (place : ℕ) (k : RustKind) (result : Result Unit Stop) (s new : Operands)
    → ((r : Option ValType) (code : Code) (e : ℕ) → k ≡ kind.Block r code e → ⊥)
    → ((r : Option ValType) (code : Code) (e : ℕ) → k ≡ kind.Loop r code e → ⊥)
    → ((r : Option ValType) (code : Code) (o : Option ElsePart) (e : ℕ) → k ≡ kind.If r code o e → ⊥)
    → Plain result (step c labels (kind_tree k) s) (cause_of c labels (kind_tree k)) new
    → RanTo (all_placed result place) (run_kind c labels place (kind_tree k) s) new
plain_ran c labels place (kind.Block r code e) result s new nb nl ni p = absurd (nb r code e refl)
plain_ran c labels place (kind.Loop r code e) result s new nb nl ni p = absurd (nl r code e refl)
plain_ran c labels place (kind.If r code o e) result s new nb nl ni p = absurd (ni r code o e refl)
plain_ran c labels place k result s new nb nl ni p =
    placed_ran result (step c labels (kind_tree k) s) (cause_of c labels (kind_tree k)) place new p

pub placed_kept : (result : Result Unit Stop) (place : ℕ) (P Q : Type 0) → OnOk result P → (P → Q) → OnOk (all_placed result place) Q
placed_kept (Ok u) place P Q p f = f p
placed_kept (Err s) place P Q p f = tt

went_on : (result : Result Unit Stop) (place : ℕ) (u : Unit) (went : Option Operands) (new : Operands) → Ok u ≡ all_placed result place
    → Steps result went new → went ≡ Some new
went_on (Ok v) place u went new e h = h
went_on (Err s) place u went new e h = absurd (let f : ⊥ = cc in f)

refused_later : (r : Ran) (n token : ℕ) (fault : Fault) (s : Operands) → and_then r (λ _. Ok s) ≡ Err (refusal token fault)
    → and_then (later n r) (λ _. Ok s) ≡ Err (refusal (token + n) fault)
refused_later (Ok x) n token fault s h = absurd (let f : ⊥ = cc in f)
refused_later (Err f) n token fault s h =
    ap (λ (g : Refusal). Err (refusal (g.token + n) g.fault)) (let e : f ≡ refusal token fault = cc in e)

went_later : (r : Ran) (n : ℕ) (s new : Operands) → and_then r (λ _. Ok s) ≡ Ok new → and_then (later n r) (λ _. Ok s) ≡ Ok new
went_later (Ok x) n s new h = h
went_later (Err f) n s new h = absurd (let f : ⊥ = cc in f)

-- an `if` whose condition was taken
module _ (c : Context) (labels : Labels) (place : ℕ) (t : Option ValType) (code : Code) (e : ℕ)
    (popped : Result Unit Stop) (u : Unit) (s s' : Operands)
    (ok : Ok u ≡ all_placed popped place) (taken : Steps popped (pop_type I32 s) s') where
  abbrev pub first : Otherwise → Ran
  first o = run_block c labels t t (first_end o e) code

  abbrev pub second : Otherwise → Ran
  second o = later (token_count code + 1) (run_else c (t ∷ labels) o t e)

  begun : (o : Otherwise) → run_kind c labels place (If t code o e) s
      ≡ and_then (later 1 (first o)) (λ _. and_then (second o) (λ _. Ok (give t s')))
  begun o = ap (λ (w : Option Operands). and_then (or_refuse (refusal 0 (plain_token place)) w)
      (λ s''. and_then (later 1 (first o)) (λ _. and_then (second o) (λ _. Ok (give t s'')))))
      (went_on popped place u (pop_type I32 s) s' ok taken)

  -- behind the first branch
  behind : (o : Otherwise) → first o ≡ Ok nothing → run_kind c labels place (If t code o e) s ≡ and_then (second o) (λ _. Ok (give t s'))
  behind o h = begun o ∙ ap (λ (r : Ran). and_then (later 1 r) (λ _. and_then (second o) (λ _. Ok (give t s')))) h

  -- the first branch is refused
  pub first_refused : (o : Option ElsePart) (x y : Operands) (r : ValidRefusal) → RanTo {A = Unit} (Err r) (first (otherwise_tree o)) x
      → RanTo {A = Unit} (Err r) (run_kind c labels place (If t code (otherwise_tree o) e) s) y
  first_refused o x y Memory p = tt
  first_refused o x y (Invalid at cause) p = (
    p.0 + 1,
    begun (otherwise_tree o)
        ∙ ap (λ (r : Ran). and_then (later 1 r) (λ _. and_then (second (otherwise_tree o)) (λ _. Ok (give t s')))) p.1,
  )

  -- without `else`, and with a result
  pub no_else_refused : (o : Option ElsePart) (v : ValType) → o ≡ None → t ≡ Some v → first no_else ≡ Ok nothing
      → (x : ℕ)
      × (run_kind c labels place (If t code (otherwise_tree o) e) s ≡ Err (refusal x (record { place = e; cause = TypeMismatch })))
  no_else_refused (Some other) v is te h = absurd (let f : ⊥ = cc in f)
  no_else_refused None v is te h = (
    0 + (token_count code + 1),
    behind no_else h
        ∙ ap (λ (r : Option ValType). and_then (later (token_count code + 1) (or_refuse (refusal 0 (plain_token e)) (no_result r)))
        (λ _. Ok (give t s'))) te,
  )

  -- with `else`
  pub else_ran : (other : ElsePart) (x new : Operands) (result : Result Unit ValidRefusal)
      → run_block c labels t t other.place code ≡ Ok nothing → x ≡ s'
      → RanTo result (run_nested c labels t t e other.code x) new
      → RanTo result (run_kind c labels place (If t code (otherwise_tree (Some other)) e) s) new
  else_ran other x new (Ok v) h same p =
      behind (otherwise_tree (Some other)) h
      ∙ went_later (later 1 (run_block c labels t t e other.code)) (token_count code + 1) (give t s') new
      (ap (λ (y : Operands). run_nested c labels t t e other.code y) (sym same) ∙ p)
  else_ran other x new (Err Memory) h same p = tt
  else_ran other x new (Err (Invalid at cause)) h same p = (
    p.0 + (token_count code + 1),
    behind (otherwise_tree (Some other)) h
        ∙ refused_later (later 1 (run_block c labels t t e other.code)) (token_count code + 1) p.0 (record { place = at; cause = cause })
        (give t s') (ap (λ (y : Operands). run_nested c labels t t e other.code y) (sym same) ∙ p.1),
  )
