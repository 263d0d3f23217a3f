-- A primitive that takes arguments of its parameters' types has an effect, and gives a value of its type.
use Rattle.c_sound.proofs.Common.{◌≡◌, ℕ, zero, suc, ◌+◌, ◌*◌, ◌/◌, min, Bool, true, false, ◌||◌, List, [], ◌∷◌, ◌++◌, length, replicate}
use Rattle.c_sound.proofs.Common.{is_some, if◌then◌else◌, nat_lt, nat_le, slice_get, slice_set, Some, None, Option, option_map, bytes_eq}
use Rattle.c_sound.proofs.Common.{sym, refl, ap, ◌∙◌, subst, false≢true, ⊤, by_test, named, value, ValType, I32, I64, proper_types}
use Rattle.c_sound.proofs.Common.{pointer_to, CType, Program, c_type_of, func_type, memory_in, table_in, with_memory, with_table, CValue}
use Rattle.c_sound.proofs.Common.{Element, FuncAddress, FuncPointer, Machine, Memory, Name, Number, ObjectAddress, Pointer, Table, Gives}
use Rattle.c_sound.proofs.Common.{HoldFuncs, HoldsFunc, OfType, OfTypes, TypedMachine, arith}
use Rattle.w2c_base.specs.declared.value.ValType.TheVariants as val
use Rattle.w2c_base.specs.LittleEndian.{little_endian, low_bytes, bytes_at, with_bytes}
use Rattle.c_tree.specs.declared.tree.CType.TheVariants as type
use Rattle.c_tree.specs.Tree as tree
use Rattle.c_tree.specs.Runtime as header
use Rattle.c_meaning.specs.Primitives as prim
use Rattle.c_sound.proofs.Lists.{◌&◌}
use Rattle.c_sound.proofs.Changes.{memory_keeps, table_keeps}

-- The effect is one, and what it gives is of the type.
abbrev pub TypedEffect : Program → CType → prim.Effect → Type 0
TypedEffect p t (prim.Gives after value) = TypedMachine p after × Gives p t value
TypedEffect p t (prim.Traps kind) = ⊤
TypedEffect p t (prim.IsUndefined kind) = ⊤
TypedEffect p t prim.NoEffect = ⊥

abbrev Body : Type 0
Body = List CValue → Machine → prim.Effect

-- ---- elements

replicated : (p : Program) (count : ℕ) → HoldFuncs p (replicate count None)
replicated p zero = tt
replicated p (suc n) = (tt, replicated p n)

held_at : (p : Program) (elements : List (Option Element)) (i : ℕ) (e : Option Element) → HoldFuncs p elements
    → slice_get elements i ≡ Some e → HoldsFunc p e
held_at p [] i e h is = absurd cc
held_at p (x ∷ elements) zero e h is = subst (HoldsFunc p) (let f : x ≡ e = cc in f) h.0
held_at p (x ∷ elements) (suc i) e h is = held_at p elements i e h.1 is

held_set : (p : Program) (elements : List (Option Element)) (i : ℕ) (e : Option Element) → HoldFuncs p elements → HoldsFunc p e
    → HoldFuncs p (slice_set elements i e)
held_set p [] i e h is = tt
held_set p (x ∷ elements) zero e h is = (is, h.1)
held_set p (x ∷ elements) (suc i) e h is = (h.0, held_set p elements i e h.1 is)

module _ (p : Program) where
  -- ---- arguments by their types

  pub narrow : (P : CValue → Type 0) → ((n : ℕ) → P (Number (I32 n))) → (v : CValue) → OfType p type.U32 v → P v
  narrow P h (Number (I32 n)) is = h n
  narrow P h _ is = absurd (false≢true is.is)

  wide : (P : CValue → Type 0) → ((n : ℕ) → P (Number (I64 n))) → (v : CValue) → OfType p type.U64 v → P v
  wide P h (Number (I64 n)) is = h n
  wide P h _ is = absurd (false≢true is.is)

  func : (P : CValue → Type 0) → P (FuncPointer None) → ((f : FuncAddress) → is_some (func_type p f) ≡ true → P (FuncPointer (Some f)))
      → (v : CValue) → OfType p type.FnPtr v → P v
  func P null h (FuncPointer None) is = null
  func P null h (FuncPointer (Some f)) is = h f is.points
  func P null h _ is = absurd (false≢true is.is)

  -- what gives P of each value of a type: for a number, P of each number
  abbrev Given : CType → (CValue → Type 0) → Type 0
  Given type.U32 P = (n : ℕ) → P (Number (I32 n))
  Given type.U64 P = (n : ℕ) → P (Number (I64 n))
  Given t P = (v : CValue) → OfType p t v → P v

  given : (t : CType) (P : CValue → Type 0) → Given t P → (v : CValue) → OfType p t v → P v
  given type.U32 P h v is = narrow P h v is
  given type.U64 P h v is = wide P h v is
  given _ P h v is = h v is

  -- the same for arguments of these types
  abbrev GivenAll : List CType → (List CValue → Type 0) → Type 0
  GivenAll [] P = P []
  GivenAll (t ∷ types) P = Given t (λ v. GivenAll types (λ args. P (v ∷ args)))

  given_all : (types : List CType) (P : List CValue → Type 0) → GivenAll types P → (args : List CValue) → OfTypes p types args → P args
  given_all [] P h [] are = h
  given_all [] P h (v ∷ args) are = absurd are
  given_all (t ∷ types) P h [] are = absurd are
  given_all (t ∷ types) P h (v ∷ args) are =
      given_all types (λ rest. P (v ∷ rest)) (given t (λ w. GivenAll types (λ rest. P (w ∷ rest))) h v are.0) args are.1

  number_is : (t : ValType) (n : ℕ) → OfType p (c_type_of t) (Number (value t n))
  number_is val.I32 n = record { is = refl; points = tt }
  number_is val.I64 n = record { is = refl; points = tt }

  if_typed : (t : CType) (b : Bool) (x y : prim.Effect) → TypedEffect p t x → TypedEffect p t y → TypedEffect p t (if b then x else y)
  if_typed t true x y h k = h
  if_typed t false x y h k = k

  module _ (m : Machine) (machine : TypedMachine p m) where
    -- what a primitive of this type does with arguments of its parameters' types
    abbrev Typed : List CType → CType → Body → Type 0
    Typed params result does = (args : List CValue) → OfTypes p params args → TypedEffect p result (does args m)

    memory_target : (t : CType) → pointer_to t ≡ Some type.PtrMem → t ≡ type.Mem
    memory_target type.Mem e = refl
    memory_target _ e = absurd cc

    table_target : (t : CType) → pointer_to t ≡ Some type.PtrTab → t ≡ type.Tab
    table_target type.Tab e = refl
    table_target _ e = absurd cc

    on_memory_typed : (t : CType) (v : CValue) (go : ObjectAddress → Memory → prim.Effect) → OfType p type.PtrMem v
        → ((a : ObjectAddress) (memory : Memory) → memory_in m a ≡ Some memory → TypedEffect p t (go a memory))
        → TypedEffect p t (prim.on_memory v m go)
    on_memory_typed t (Pointer None) go is h = tt
    on_memory_typed t (Pointer (Some a)) go is h =
        let target = is.points in
        let held = machine.memories a (target.1 ∙ ap Some (memory_target target.0 target.2)) in
        subst (λ (o : Option Memory). TypedEffect p t (elim o [ None ↦ prim.NoEffect | Some memory ↦ go a memory ])) (sym held.1)
        (h a held.0 held.1)
    on_memory_typed t _ go is h = absurd (false≢true is.is)

    on_table_typed : (t : CType) (v : CValue) (go : ObjectAddress → Table → prim.Effect) → OfType p type.PtrTab v
        → ((a : ObjectAddress) (table : Table) → table_in m a ≡ Some table → HoldFuncs p table.elements → TypedEffect p t (go a table))
        → TypedEffect p t (prim.on_table v m go)
    on_table_typed t (Pointer None) go is h = tt
    on_table_typed t (Pointer (Some a)) go is h =
        let target = is.points in
        let held = machine.tables a (target.1 ∙ ap Some (table_target target.0 target.2)) in
        subst (λ (o : Option Table). TypedEffect p t (elim o [ None ↦ prim.NoEffect | Some table ↦ go a table ])) (sym held.1)
        (h a held.0 held.1 held.2)
    on_table_typed t _ go is h = absurd (false≢true is.is)

    gives_typed : (t : ValType) (n : ℕ) → TypedEffect p (c_type_of t) (prim.gives m (value t n))
    gives_typed t n = (machine, number_is t n)

    -- ---- the primitives

    trap_typed : Typed (type.U32 ∷ []) type.Void prim.trap
    trap_typed = grind (arith, given_all)

    mem_new_typed : Typed (type.PtrMem ∷ type.U32 ∷ type.U64 ∷ []) type.Void prim.mem_new
    mem_new_typed = given_all (type.PtrMem ∷ type.U32 ∷ type.U64 ∷ []) (λ args. TypedEffect p type.Void (prim.mem_new args m))
        (λ v is_v least most. on_memory_typed type.Void v
        (λ a memory. if memory.is_made || nat_lt 16384 least || nat_lt 4294967296 most then prim.IsUndefined 8 else prim.Gives
        (with_memory m a (record { is_made = true; bytes = replicate (least * 65536) 0; max = most })) None)
        is_v
        (λ a memory there. if_typed type.Void (memory.is_made || nat_lt 16384 least || nat_lt 4294967296 most) (prim.IsUndefined 8)
        (prim.Gives (with_memory m a (record { is_made = true; bytes = replicate (least * 65536) 0; max = most })) None) tt
        (memory_keeps p m a memory _ machine there, refl)))

    mem_len_typed : Typed (type.PtrMem ∷ []) type.U64 prim.mem_len
    mem_len_typed = given_all (type.PtrMem ∷ []) (λ args. TypedEffect p type.U64 (prim.mem_len args m))
        (λ v is. on_memory_typed type.U64 v (λ a memory. prim.gives m (I64 (length memory.bytes))) is
        (λ a memory there. gives_typed val.I64 (length memory.bytes)))

    mem_max_typed : Typed (type.PtrMem ∷ []) type.U64 prim.mem_max
    mem_max_typed = given_all (type.PtrMem ∷ []) (λ args. TypedEffect p type.U64 (prim.mem_max args m))
        (λ v is. on_memory_typed type.U64 v (λ a memory. prim.gives m (I64 memory.max)) is
        (λ a memory there. gives_typed val.I64 memory.max))

    mem_grow_typed : Typed (type.PtrMem ∷ type.U32 ∷ []) type.U32 prim.mem_grow
    mem_grow_typed = given_all (type.PtrMem ∷ type.U32 ∷ []) (λ args. TypedEffect p type.U32 (prim.mem_grow args m))
        (λ v is_v more. on_memory_typed type.U32 v
        (λ a memory. let old = length memory.bytes / 65536 in if nat_le (old + more) (min memory.max 16384) then prim.gives
        (with_memory m a (prim.with_content memory (memory.bytes ++ replicate (more * 65536) 0))) (I32 old)
        else prim.gives m (I32 4294967295))
        is_v
        (λ a memory there. if_typed type.U32 (nat_le (length memory.bytes / 65536 + more) (min memory.max 16384))
        (prim.gives (with_memory m a (prim.with_content memory (memory.bytes ++ replicate (more * 65536) 0)))
        (I32 (length memory.bytes / 65536))) (prim.gives m (I32 4294967295))
        (memory_keeps p m a memory _ machine there, number_is val.I32 _) (gives_typed val.I32 4294967295)))

    get_typed : (width : ℕ) (t : ValType) → Typed (type.PtrMem ∷ type.U64 ∷ []) (c_type_of t) (prim.get width t)
    get_typed width t = given_all (type.PtrMem ∷ type.U64 ∷ []) (λ args. TypedEffect p (c_type_of t) (prim.get width t args m))
        (λ v is_v place. on_memory_typed (c_type_of t) v
        (λ a memory. if nat_le (place + width) (length memory.bytes) then prim.gives m
        (value t (little_endian (bytes_at memory.bytes place width))) else prim.IsUndefined 6)
        is_v
        (λ a memory there. if_typed (c_type_of t) (nat_le (place + width) (length memory.bytes))
        (prim.gives m (value t (little_endian (bytes_at memory.bytes place width)))) (prim.IsUndefined 6)
        (gives_typed t _) tt))

    put_at_typed : (width place n : ℕ) (v : CValue) → OfType p type.PtrMem v
        → TypedEffect p type.Void (prim.on_memory v m (prim.put_at width place n m))
    put_at_typed width place n v is = on_memory_typed type.Void v (prim.put_at width place n m) is
        (λ a memory there. if_typed type.Void (nat_le (place + width) (length memory.bytes))
        (prim.Gives (with_memory m a (prim.with_content memory (with_bytes memory.bytes place (low_bytes width n)))) None)
        (prim.IsUndefined 6) (memory_keeps p m a memory _ machine there, refl) tt)

    put_narrow : (width : ℕ) → Typed (type.PtrMem ∷ type.U64 ∷ type.U32 ∷ []) type.Void (prim.put width val.I32)
    put_narrow width = given_all (type.PtrMem ∷ type.U64 ∷ type.U32 ∷ [])
        (λ args. TypedEffect p type.Void (prim.put width val.I32 args m)) (λ v is_v place n. put_at_typed width place n v is_v)

    put_wide : (width : ℕ) → Typed (type.PtrMem ∷ type.U64 ∷ type.U64 ∷ []) type.Void (prim.put width val.I64)
    put_wide width = given_all (type.PtrMem ∷ type.U64 ∷ type.U64 ∷ [])
        (λ args. TypedEffect p type.Void (prim.put width val.I64 args m)) (λ v is_v place n. put_at_typed width place n v is_v)

    tab_new_typed : Typed (type.PtrTab ∷ type.U32 ∷ type.U64 ∷ []) type.Void prim.tab_new
    tab_new_typed = given_all (type.PtrTab ∷ type.U32 ∷ type.U64 ∷ []) (λ args. TypedEffect p type.Void (prim.tab_new args m))
        (λ v is_v count most. on_table_typed type.Void v
        (λ a table. if table.is_made || nat_lt 1000000 count then prim.IsUndefined 8 else prim.Gives
        (with_table m a (record { is_made = true; elements = replicate count None; max = most })) None)
        is_v
        (λ a table there holds. if_typed type.Void (table.is_made || nat_lt 1000000 count) (prim.IsUndefined 8)
        (prim.Gives (with_table m a (record { is_made = true; elements = replicate count None; max = most })) None) tt (
          table_keeps p m a table (record { is_made = true; elements = replicate count None; max = most }) machine there
              (replicated p count),
          refl,
        )))

    tab_len_typed : Typed (type.PtrTab ∷ []) type.U64 prim.tab_len
    tab_len_typed = given_all (type.PtrTab ∷ []) (λ args. TypedEffect p type.U64 (prim.tab_len args m))
        (λ v is. on_table_typed type.U64 v (λ a table. prim.gives m (I64 (length table.elements))) is
        (λ a table there holds. gives_typed val.I64 (length table.elements)))

    tab_max_typed : Typed (type.PtrTab ∷ []) type.U64 prim.tab_max
    tab_max_typed = given_all (type.PtrTab ∷ []) (λ args. TypedEffect p type.U64 (prim.tab_max args m))
        (λ v is. on_table_typed type.U64 v (λ a table. prim.gives m (I64 table.max)) is
        (λ a table there holds. gives_typed val.I64 table.max))

    abbrev signature_at : Option (Option Element) → prim.Effect
    signature_at o = elim o [
      | None ↦ prim.IsUndefined 7
      | Some element ↦ elim element
          [ None ↦ prim.gives m (I64 0) | Some e ↦ prim.gives m (I64 e.signature) ]
    ]

    signature_typed : (o : Option (Option Element)) → TypedEffect p type.U64 (signature_at o)
    signature_typed None = tt
    signature_typed (Some None) = gives_typed val.I64 0
    signature_typed (Some (Some e)) = gives_typed val.I64 e.signature

    tab_sig_typed : Typed (type.PtrTab ∷ type.U64 ∷ []) type.U64 prim.tab_sig
    tab_sig_typed = given_all (type.PtrTab ∷ type.U64 ∷ []) (λ args. TypedEffect p type.U64 (prim.tab_sig args m))
        (λ v is_v place. on_table_typed type.U64 v (λ a table. signature_at (slice_get table.elements place)) is_v
        (λ a table there holds. signature_typed (slice_get table.elements place)))

    abbrev function_at : Option (Option Element) → prim.Effect
    function_at o = elim o
        [ None ↦ prim.IsUndefined 7 | Some element ↦ prim.Gives m (Some (FuncPointer (option_map (λ e. e.func) element))) ]

    function_typed : (o : Option (Option Element)) → ((e : Option Element) → o ≡ Some e → HoldsFunc p e)
        → TypedEffect p type.FnPtr (function_at o)
    function_typed None h = tt
    function_typed (Some None) h = (machine, record { is = refl; points = tt })
    function_typed (Some (Some e)) h = (machine, record { is = refl; points = h (Some e) refl })

    tab_fn_typed : Typed (type.PtrTab ∷ type.U64 ∷ []) type.FnPtr prim.tab_fn
    tab_fn_typed = given_all (type.PtrTab ∷ type.U64 ∷ []) (λ args. TypedEffect p type.FnPtr (prim.tab_fn args m))
        (λ v is_v place. on_table_typed type.FnPtr v (λ a table. function_at (slice_get table.elements place)) is_v
        (λ a table there holds. function_typed (slice_get table.elements place)
        (λ e is. held_at p table.elements place e holds is)))

    element_typed : (a : ObjectAddress) (table : Table) (place : ℕ) (f : FuncAddress) (signature : ℕ) → table_in m a ≡ Some table
        → HoldFuncs p table.elements → is_some (func_type p f) ≡ true
        → TypedEffect p type.Void (prim.set_element m a table place f signature)
    element_typed a table place f signature there holds is = grind (arith, if_typed, table_keeps, held_set)

    tab_set_typed : Typed (type.PtrTab ∷ type.U64 ∷ type.FnPtr ∷ type.U64 ∷ []) type.Void prim.tab_set
    tab_set_typed = given_all (type.PtrTab ∷ type.U64 ∷ type.FnPtr ∷ type.U64 ∷ [])
        (λ args. TypedEffect p type.Void (prim.tab_set args m))
        (λ v is_v place x is_x signature. func
        (λ x. TypedEffect p type.Void (prim.tab_set (v ∷ Number (I64 place) ∷ x ∷ Number (I64 signature) ∷ []) m))
        (on_table_typed type.Void v (λ a table. prim.IsUndefined 4) is_v (λ a table there holds. tt))
        (λ f is. on_table_typed type.Void v (λ a table. prim.set_element m a table place f signature) is_v
        (λ a table there holds. element_typed a table place f signature there holds is))
        x is_x)

    -- ---- all of them

    abbrev Aligned : List (Name × tree.FuncType) → List (Name × Body) → Type 0
    Aligned [] [] = ⊤
    Aligned (d ∷ declared) (e ∷ bodies) = ((d.0 ≡ e.0) × Typed (proper_types d.1.params) d.1.result e.1) × Aligned declared bodies
    Aligned _ _ = ⊥

    found_body : (declared : List (Name × tree.FuncType)) (bodies : List (Name × Body)) → Aligned declared bodies
        → (name : Name) (ty : tree.FuncType) → named name declared ≡ Some ty
        → (does : Body) × (named name bodies ≡ Some does) × Typed (proper_types ty.params) ty.result does
    found_body [] [] h name ty e = absurd cc
    found_body (d ∷ declared) (b ∷ bodies) h name ty e = by_test (bytes_eq d.0 name)
        (λ is. (
          b.1,
          rw (sym h.0.0, is) refl,
          subst (λ (t : tree.FuncType). Typed (proper_types t.params) t.result b.1)
              (let f = rw is at e in let same : d.1 ≡ ty = cc in same) h.0.1,
        ))
        (λ is. let behind = found_body declared bodies h.1 name ty (rw is at e) in (behind.0, rw (sym h.0.0, is) behind.1, behind.2))
    found_body [] (b ∷ bodies) h name ty e = absurd h
    found_body (d ∷ declared) [] h name ty e = absurd h

    all_typed : Aligned header.primitives prim.primitives
    all_typed =
        (refl, trap_typed) & (refl, mem_new_typed) & (refl, mem_len_typed) & (refl, mem_max_typed) & (refl, mem_grow_typed) &
        (refl, get_typed 1 val.I32) & (refl, get_typed 2 val.I32) & (refl, get_typed 4 val.I32) & (refl, get_typed 8 val.I64) &
        (refl, put_narrow 1) & (refl, put_narrow 2) & (refl, put_narrow 4) & (refl, put_wide 8) & (refl, tab_new_typed) &
        (refl, tab_len_typed) & (refl, tab_max_typed) & (refl, tab_sig_typed) & (refl, tab_fn_typed) & (refl, tab_set_typed) & tt

    pub primitive_typed : (name : Name) (ty : tree.FuncType) → named name header.primitives ≡ Some ty
        → (does : List CValue → Machine → prim.Effect) × (prim.primitive name ≡ Some does)
        × ((args : List CValue) → OfTypes p (proper_types ty.params) args → TypedEffect p ty.result (does args m))
    primitive_typed name ty e = found_body header.primitives prim.primitives all_typed name ty e
