-- What the translation of code rests on holds at each place of typed code.
use Rattle.c_body.proofs.Common.{◌≡◌, ℕ, suc, ◌+◌, ◌-◌, ◌^◌, ◌<◌, ◌≤◌, Bool, true, false, not, ◌&&◌, ◌||◌, List, [], ◌∷◌, ◌++◌, map}
use Rattle.c_body.proofs.Common.{reverse, length, get_or, drop, if◌then◌else◌, nat_lt, slice_get, Some, None, vec_len, Option, sym, refl}
use Rattle.c_body.proofs.Common.{ap, ◌∙◌, subst, arith, length-append, length-reverse, slice_get-map, all_at, FuncType, ValType, at_defined}
use Rattle.c_body.proofs.Common.{imported_funcs, type_in, Typing, by_rule, of_types, Code, Kind, Otherwise, else_code, no_else, then_code}
use Rattle.c_body.proofs.Common.{code_tree, kind_tree, Instr, BodyEntry, FuncEntry, TypeEntry, Module, has_wide, binary_typing}
use Rattle.c_body.proofs.Common.{compare_typing, eqz_typing, extend_typing, load_typing, store_typing, unary_typing, Context, Labels}
use Rattle.c_body.proofs.Common.{context_of, ElseHasType, HasType, KindHasType, Stack, TurnsAsTabled, table_type, values, IsValid}
use Rattle.c_body.proofs.Common.{bodies_of, begun, Inside, any_in, any_in_else, any_inside, labels_in, labels_in_else, labels_of}
use Rattle.c_body.proofs.Common.{BodyHasLimits, Made, in_first, in_second, popped, ran, ran_instr, ran_kind, unless_dead, with_labels}
use Rattle.c_body.proofs.Common.{made_by, Covered, Setting, BodyIsReady, CodeIsReady, HasOperands, InsideIsReady, IsReached, KindIsReached}
use Rattle.c_body.proofs.Common.{KindIsReady, PlainIsReady, operands_in, takes, Keeps, after, ends, stands, step_of, taken, Mark, Operands}
use Rattle.c_body.proofs.Common.{or_parts, WithinLimits}
use Rattle.wasm_tree.specs.Instructions as wasm
use Rattle.c_helpers.specs.declared.steps.Step.{Step}
use Rattle.c_helpers.proofs.CodeLists.{code_more}
use Rattle.body_emitter.specs.declared.emitter.Emitter.{Emitter}
use Rattle.body_emitter.specs.Shown.{types_of}
use Rattle.body_definition.proofs.TypedBodies.{typed_body}
use Rattle.body_definition.proofs.Zipped.{pair_at}
use Rattle.body_definition.proofs.Bounds.{within_of}
use Rattle.body_definition.proofs.Heights.{after_typed}
use Rattle.c_body.proofs.Marked.{covered_drop}
use Rattle.c_body.proofs.Went.{Went, Goes}
use Rattle.c_body.proofs.WentBlocks.{second_ready}
use Rattle.c_body.proofs.WentAll.{went, goes}

-- ---- operands

-- what stands on a stack over a rest
over : (operands rest own : Stack) → own ≡ reverse operands ++ rest → length operands ≤ length own
over operands rest own e =
    let long : length own ≡ length (reverse operands) + length rest = ap length e ∙ length-append (reverse operands) rest in
    let same : length (reverse operands) ≡ length operands = length-reverse operands in
    omega (arith, long, same)

tabled_few : (typing : Typing) (own outs : Stack) → TurnsAsTabled typing own outs → operands_in typing ≤ length own
tabled_few (of_types operands results) own outs h = over operands h.0 own h.1
tabled_few by_rule own outs h = absurd h

on_top : (ts : Stack) (t : ValType) (rest own : Stack) → own ≡ reverse (ts ++ t ∷ []) ++ rest → 1 ≤ length own
on_top ts t rest own e =
    let long = over (ts ++ t ∷ []) rest own e in
    let more = length-append ts (t ∷ []) in
    omega (arith, long, more)

-- typed code has the operands that an instruction takes
takes_few : (c : Context) (labels : Labels) (kind : Kind) (own outs : Stack) → KindHasType c labels kind own outs
    → takes c kind ≤ length own
takes_few c labels wasm.Drop own outs h = over (h.0 ∷ []) h.1.0 own h.1.1
takes_few c labels wasm.Select own outs h =
    let three = over (h.0 ∷ h.0 ∷ _ ∷ []) h.1.0 own h.1.1 in omega (arith, three)
takes_few c labels (wasm.LocalGet index) own outs h = omega arith
takes_few c labels (wasm.LocalSet index) own outs h = over (h.0 ∷ []) h.2.0 own h.2.1
takes_few c labels (wasm.LocalTee index) own outs h = omega arith
takes_few c labels (wasm.GlobalGet index) own outs h = omega arith
takes_few c labels (wasm.GlobalSet index) own outs h = over (h.0 ∷ []) h.2.0 own h.2.1
takes_few c labels wasm.Unreachable own outs h = omega arith
takes_few c labels (wasm.Block t code e) own outs h = omega arith
takes_few c labels (wasm.Loop t code e) own outs h = omega arith
takes_few c labels (wasm.If t code otherwise e) own outs h = over (_ ∷ []) h.2.0 own h.2.1
takes_few c labels (wasm.Br label) own outs h = omega arith
takes_few c labels (wasm.BrIf label) own outs h = on_top (values h.0) _ h.2.0 own h.2.1
takes_few c labels (wasm.BrTable others label) own outs h = on_top (values h.0) _ h.3.0 own h.3.1
takes_few c labels wasm.Return own outs h = omega arith
takes_few c labels (wasm.Call index) own outs h = rw h.1 (over h.0.params h.2.0 own h.2.1)
takes_few c labels (wasm.CallIndirect index) own outs h = rw h.1 (indirect h.0.params _ h.3.0 own h.3.1)
  where
    indirect : (ts : Stack) (t : ValType) (rest own : Stack) → own ≡ reverse (ts ++ t ∷ []) ++ rest → suc (length ts) ≤ length own
    indirect ts t rest own e =
        let long = over (ts ++ t ∷ []) rest own e in
        let more = length-append ts (t ∷ []) in
        omega (arith, long, more)
takes_few c labels (wasm.Load op arg) own outs h = tabled_few (table_type (wasm.Load op arg)) own outs h.2
takes_few c labels (wasm.Store op arg) own outs h = tabled_few (table_type (wasm.Store op arg)) own outs h.2
takes_few c labels wasm.MemorySize own outs h = tabled_few (table_type wasm.MemorySize) own outs h.1
takes_few c labels wasm.MemoryGrow own outs h = tabled_few (table_type wasm.MemoryGrow) own outs h.1
takes_few c labels wasm.MemoryCopy own outs h = tabled_few (table_type wasm.MemoryCopy) own outs h.1
takes_few c labels wasm.MemoryFill own outs h = tabled_few (table_type wasm.MemoryFill) own outs h.1
takes_few c labels kind own outs h = tabled_few (table_type kind) own outs h

has_enough : (c : Context) (e : Emitter) (kind : Kind) → KindIsReached c e kind → HasOperands (takes c kind) e.operands
has_enough c e kind r =
    let few : takes c kind ≤ length r.own = takes_few c r.labels kind r.own r.outs r.typed in
    let all : length e.operands.types.items ≡ length r.own + length r.base =
    sym (length-reverse e.operands.types.items) ∙ ap length r.types ∙ length-append r.own r.base in
    let long = e.operands.types.ok.0 in
    let floor : e.operands.floor ≡ length r.base = r.floor in
    omega (arith, few, all, floor)

-- how many operands a step takes, where there is one
abbrev taken_by : Option Step → ℕ → ℕ
taken_by None n = n
taken_by (Some s) n = taken s

steps_take : (c : Context) (k : Kind) → taken_by (step_of k) (takes c k) ≡ takes c k
steps_take c (wasm.Eqz t) = sym (ap operands_in (eqz_typing t))
steps_take c (wasm.Compare t o) = sym (ap operands_in (compare_typing t o))
steps_take c (wasm.Unary t o) = sym (ap operands_in (unary_typing t o))
steps_take c (wasm.Binary t o) = sym (ap operands_in (binary_typing t o))
steps_take c (wasm.Extend o) = sym (ap operands_in (extend_typing o))
steps_take c (wasm.Load o arg) = sym (ap operands_in (load_typing o arg))
steps_take c (wasm.Store o arg) = sym (ap operands_in (store_typing o arg))
steps_take c _ = refl

pub taken_as_tabled : (c : Context) (k : Kind) (s : Step) → Some s ≡ step_of k → taken s ≡ takes c k
taken_as_tabled c k s e = ap (λ (o : Option Step). taken_by o (takes c k)) e ∙ steps_take c k

-- ---- from place to place

-- behind an instruction that goes on
no_rest : (ends here behind : Bool) → (here || (not ends && behind)) ≡ false → ends ≡ false → behind ≡ false
no_rest ends true behind e goes = absurd cc
no_rest true false behind e goes = absurd cc
no_rest false false behind e goes = e

pub kind_ready : (c : Context) (e : Emitter) (place : ℕ) (kind : Kind) (rest : Code) → CodeIsReady c e (then_code place kind rest)
    → KindIsReady c e kind
kind_ready c e place kind rest h = record {
  labels = let most = h.labels in omega (arith, most);
  reached = λ live. kind_reached (h.reached live);
}
  where
    kind_reached : IsReached c e (then_code place kind rest) → KindIsReached c e kind
    kind_reached r = record {
      covered = r.covered;
      numbers = (or_parts (has_wide kind || any_inside has_wide kind) (not (ends kind) && any_in has_wide rest) r.numbers).0;
      labels = r.labels;
      own = r.own;
      outs = r.typed.0;
      base = r.base;
      types = r.types;
      floor = r.floor;
      typed = r.typed.1;
    }

pub code_next : (c : Setting) (e n : Emitter) (place : ℕ) (kind : Kind) (rest : Code) → CodeIsReady c.context e (then_code place kind rest)
    → made_by n ≡ ran_instr c (made_by e) kind → Keeps e.operands n.operands → CodeIsReady c.context n rest
code_next c e n place kind rest h made kept = by_dead e.is_dead refl
  where
    most : labels_of kind + labels_in rest + e.labels < 2 ^ 64
    most = h.labels

    live_next : (r : IsReached c.context e (then_code place kind rest)) → Goes c (made_by e) (made_by n) kind
        → CodeIsReady c.context n rest
    live_next r g = record {
      labels = let l : n.labels ≡ labels_of kind + e.labels = g.labels in omega (arith, most, l);
      reached = λ live.
          let goes_on : ends kind ≡ false = sym g.dead ∙ live in
          record {
            covered = g.covered;
            numbers = no_rest (ends kind) (has_wide kind || any_inside has_wide kind) (any_in has_wide rest) r.numbers goes_on;
            labels = r.labels;
            own = r.typed.0;
            outs = r.outs;
            base = r.base;
            types = g.types goes_on ∙ ap (λ (ts : Stack). after c.context ts kind) r.types
                ∙ after_typed c.context r.labels kind r.own r.typed.0 r.base r.typed.1 goes_on;
            floor = kept.floor ∙ r.floor;
            typed = r.typed.2;
          };
    }

    by_dead : (b : Bool) → e.is_dead ≡ b → CodeIsReady c.context n rest
    by_dead true dead =
        let now : made_by n ≡ with_labels (labels_of kind) (made_by e) =
        made ∙ ap (λ b. unless_dead b (with_labels (labels_of kind) (made_by e)) (ran_kind c (made_by e) kind)) dead in
        record {
          labels = let l : n.labels ≡ labels_of kind + e.labels = ap (λ (m : Made). m.labels) now in omega (arith, most, l);
          reached = λ live. absurd (both (ap (λ (m : Made). m.is_dead) now ∙ dead) live);
        }
      where
        both : n.is_dead ≡ true → n.is_dead ≡ false → ⊥
        both t f = cc
    by_dead false live =
        let r : IsReached c.context e (then_code place kind rest) = h.reached live in
        let now : made_by n ≡ ran_kind c (made_by e) kind =
        made ∙ ap (λ b. unless_dead b (with_labels (labels_of kind) (made_by e)) (ran_kind c (made_by e) kind)) live in
        live_next r (subst (λ (m : Made). Goes c (made_by e) m kind) (sym now) (goes c (made_by e) kind live r.covered))

-- an instruction that holds no code
pub plain_ready : (c : Context) (e : Emitter) (kind : Kind) → e.is_dead ≡ false → KindIsReady c e kind → PlainIsReady c e kind
plain_ready c e kind live h =
    let r : KindIsReached c e kind = h.reached live in
    record {
      labels = h.labels;
      numbers = (or_parts (has_wide kind) (any_inside has_wide kind) r.numbers).0;
      operands = has_enough c e kind r;
    }

-- ---- code inside an instruction

same_height : (o : Operands) → vec_len o.types ≡ length (types_of o)
same_height o = o.types.ok.0 ∙ sym (length-reverse o.types.items)

inside_ready : (c : Context) (e n : Emitter) (code : Code) (label_types : Labels) (outs : Stack) → Inside e.operands n.operands
    → types_of n.operands ≡ types_of e.operands → Covered (types_of n.operands) n.operands.marks.items → any_in has_wide code ≡ false
    → HasType c label_types code [] outs → labels_in code + n.labels < 2 ^ 64 → CodeIsReady c n code
inside_ready c e n code label_types outs inside same cov numbers typed few = record {
  labels = few;
  reached = λ live. record {
    covered = cov;
    numbers = numbers;
    labels = label_types;
    own = [];
    outs = outs;
    base = types_of e.operands;
    types = same;
    floor = inside.floor ∙ same_height e.operands;
    typed = typed;
  };
}

pub opened_ready : (c : Context) (e n : Emitter) (taken : ℕ) (code : Code) (otherwise : Otherwise) (m : Made)
    → InsideIsReady c e taken code otherwise → Inside e.operands n.operands → made_by n ≡ m → m.types ≡ types_of e.operands
    → m.marks ≡ e.operands.marks.items → m.labels ≡ taken + e.labels → CodeIsReady c n code
opened_ready c e n taken code otherwise m h inside made types marks labels =
    let same : types_of n.operands ≡ types_of e.operands = ap (λ (m : Made). m.types) made ∙ types in
    let marked : n.operands.marks.items ≡ e.operands.marks.items = ap (λ (m : Made). m.marks) made ∙ marks in
    let most = h.labels in
    let now : n.labels ≡ taken + e.labels = ap (λ (m : Made). m.labels) made ∙ labels in
    inside_ready c e n code h.label_types h.outs inside same
    (subst (λ (ts : Stack). Covered ts n.operands.marks.items) (sym same)
    (subst (λ (ms : List Mark). Covered (types_of e.operands) ms) (sym marked) h.covered))
    h.numbers h.typed (omega (arith, most, now))

pub second_code_ready : (c : Setting) (e first n : Emitter) (t : Option ValType) (code : Code) (otherwise : Otherwise) (place : ℕ)
    (other : Code)
    → otherwise ≡ else_code place other → InsideIsReady c.context e 2 code otherwise
    → made_by first ≡ ran c (in_first t otherwise (made_by e)) code → made_by n ≡ in_second (made_by e) (made_by first)
    → Inside e.operands n.operands → CodeIsReady c.context n other
second_code_ready c e first n t code otherwise place other is h first_made made inside =
    let r : InsideIsReady c.context e 2 code (else_code place other) =
    subst (λ (o : Otherwise). InsideIsReady c.context e 2 code o) is h in
    let begins : Made = in_first t (else_code place other) (made_by e) in
    let ran_first : made_by first ≡ ran c begins code = first_made ∙ ap (λ (o : Otherwise). ran c (in_first t o (made_by e)) code) is in
    let w : Went c begins (made_by first) code =
    subst (λ (m : Made). Went c begins m code) (sym ran_first) (went c begins code r.live r.covered) in
    let ready = second_ready c (made_by e) (made_by first) t code other place r.covered w in
    let most : 2 + (labels_in code + (labels_in other + e.labels)) < 2 ^ 64 = r.labels in
    let there : first.labels ≡ labels_in code + (2 + e.labels) = w.labels in
    let now : n.labels ≡ first.labels = ap (λ (m : Made). m.labels) made ∙ ready.3 in
    inside_ready c.context e n other r.label_types r.outs inside (ap (λ (m : Made). m.types) made ∙ ready.2)
    (subst (λ (m : Made). Covered m.types m.marks) (sym made) ready.1)
    r.numbers_else (r.typed_else place other refl) (omega (arith, most, there, now))

no_such : (p : ℕ) (other : Code) → no_else ≡ else_code p other → ⊥
no_such p other e = cc

-- a block or a loop, at a place that is reached
pub block_ready : (c : Context) (e : Emitter) (t : Option ValType) (code : Code) (place : ℕ) → e.is_dead ≡ false
    → KindIsReady c e (wasm.Block t code place) → InsideIsReady c e 1 code no_else
block_ready c e t code place live h =
    let r : KindIsReached c e (wasm.Block t code place) = h.reached live in
    record {
      labels = let most = h.labels in omega (arith, most);
      live = live;
      covered = r.covered;
      numbers = r.numbers;
      numbers_else = refl;
      label_types = t ∷ r.labels;
      outs = values t;
      typed = r.typed.0;
      typed_else = λ p other e. absurd (no_such p other e);
    }

pub loop_ready : (c : Context) (e : Emitter) (t : Option ValType) (code : Code) (place : ℕ) → e.is_dead ≡ false
    → KindIsReady c e (wasm.Loop t code place) → InsideIsReady c e 1 code no_else
loop_ready c e t code place live h =
    let r : KindIsReached c e (wasm.Loop t code place) = h.reached live in
    record {
      labels = let most = h.labels in omega (arith, most);
      live = live;
      covered = r.covered;
      numbers = r.numbers;
      numbers_else = refl;
      label_types = None ∷ r.labels;
      outs = values t;
      typed = r.typed.0;
      typed_else = λ p other e. absurd (no_such p other e);
    }

-- an `if`, behind its operand
pub if_ready : (c : Context) (e n : Emitter) (t : Option ValType) (code : Code) (otherwise : Otherwise) (place : ℕ) → e.is_dead ≡ false
    → KindIsReady c e (wasm.If t code otherwise place) → made_by n ≡ popped 1 (made_by e) → InsideIsReady c n 2 code otherwise
if_ready c e n t code otherwise place live h made =
    let r : KindIsReached c e (wasm.If t code otherwise place) = h.reached live in
    let parts = or_parts (any_in has_wide code) (any_in_else has_wide otherwise) r.numbers in
    let most : suc (suc (labels_in code + labels_in_else otherwise)) + e.labels < 2 ^ 64 = h.labels in
    let now : n.labels ≡ e.labels = ap (λ (m : Made). m.labels) made in
    record {
      labels = omega (arith, most, now);
      live = ap (λ (m : Made). m.is_dead) made ∙ live;
      covered = subst (λ (m : Made). Covered m.types m.marks) (sym made)
          (covered_drop 1 (types_of e.operands) e.operands.marks.items r.covered);
      numbers = parts.0;
      numbers_else = parts.1;
      label_types = t ∷ r.labels;
      outs = values t;
      typed = r.typed.0;
      typed_else = λ p other e. subst (λ (o : Otherwise). ElseHasType c (t ∷ r.labels) o t) e r.typed.1;
    }

pub if_operand : (c : Context) (e : Emitter) (t : Option ValType) (code : Code) (otherwise : Otherwise) (place : ℕ) → e.is_dead ≡ false
    → KindIsReady c e (wasm.If t code otherwise place) → HasOperands 1 e.operands
if_operand c e t code otherwise place live h = has_enough c e (wasm.If t code otherwise place) (h.reached live)

-- ---- a whole body

pub body_ready : (c : Context) (e : Emitter) (result : Option ValType) (code : Code) → made_by e ≡ begun result → BodyIsReady c code
    → CodeIsReady c e code
body_ready c e result code made h =
    let most = h.labels in
    let now : e.labels ≡ 2 = ap (λ (m : Made). m.labels) made in
    let none : types_of e.operands ≡ [] = ap (λ (m : Made). m.types) made in
    let height : vec_len e.operands.types ≡ 0 = same_height e.operands ∙ ap length none in
    let within = e.operands.within in
    record {
      labels = omega (arith, most, now);
      reached = λ live. record {
        covered = subst (λ (ts : Stack). Covered ts e.operands.marks.items) (sym none)
            (record { found = λ t h e. absurd (nowhere t h e); height = omega arith });
        numbers = h.numbers;
        labels = c.result ∷ [];
        own = [];
        outs = values c.result;
        base = [];
        types = none;
        floor = omega (arith, within, height);
        typed = h.typed;
      };
    }
  where
    nowhere : (t : ValType) (h : ℕ) → stands t h [] ≡ true → ⊥
    nowhere t h e = cc

-- the body of a function of a valid module within the limits
pub defined_ready : (m : Module) (index : ℕ) (func : FuncEntry) (body : BodyEntry) (ty : FuncType) → IsValid m → WithinLimits m
    → Some func ≡ at_defined m m.funcs index → Some body ≡ at_defined m m.bodies index
    → Some ty ≡ slice_get (map (λ (t : TypeEntry). t.ty) m.types) func.type_index → BodyIsReady (context_of m ty body) body.code
defined_ready m index func body ty valid within f b is =
    let pair : at_defined m (bodies_of m) index ≡ Some (func, body) = pair_at m m.funcs m.bodies index func body (sym f) (sym b) in
    let at = got_defined m (bodies_of m) index (func, body) pair in
    let body_at = got_defined m m.bodies index body (sym b) in
    let limits : BodyHasLimits body = all_at BodyHasLimits m.bodies body_at.0 body (within_of m within).bodies body_at.1 in
    let typed : type_in m func.type_index ≡ Some ty = sym (slice_get-map (λ (t : TypeEntry). t.ty) m.types func.type_index) ∙ sym is in
    let most = limits.labels in
    record {
      labels = omega (arith, most);
      numbers = limits.numbers;
      typed = typed_body m (bodies_of m) at.0 (func, body) ty valid.bodies at.1 typed;
    }
  where
    got_defined : {A : Type 0} (m : Module) (xs : List A) (index : ℕ) (x : A) → at_defined m xs index ≡ Some x
        → (i : ℕ) × (slice_get xs i ≡ Some x)
    got_defined {A} m xs index x = go (nat_lt index (imported_funcs m))
      where
        go : (imported : Bool) → (if imported then None else slice_get xs (index - imported_funcs m)) ≡ Some x
            → (i : ℕ) × (slice_get xs i ≡ Some x)
        go true e = absurd cc
        go false e = (index - imported_funcs m, e)

-- what holds of a module that was checked holds of the same module
pub valid_alike : (a b c : Module) → a ≡ b → b ≡ c → IsValid a → IsValid c
valid_alike a b c e f h = subst IsValid (e ∙ f) h

pub within_alike : (a b c : Module) → a ≡ b → b ≡ c → WithinLimits a → WithinLimits c
within_alike a b c e f h = subst WithinLimits (e ∙ f) h

pub first_of_rest : (c : Context) (e : Emitter) (items : List Instr) (i : ℕ) (x : Instr) → i < length items → x ≡ get_or items i x
    → CodeIsReady c e (code_tree (drop i items)) → CodeIsReady c e (then_code x.place (kind_tree x.kind) (code_tree (drop (i + 1) items)))
first_of_rest c e items i x less is h = subst (λ (code : Code). CodeIsReady c e code) (code_more items i x less is) h
