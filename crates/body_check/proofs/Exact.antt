-- The checker's operands show exactly the stacks that the typing reaches.
use Rattle.body_check.proofs.Common.{◌≡◌, ℕ, ◌+◌, ◌^◌, ◌≤◌, Bool, true, false, ◌&&◌, List, [], ◌∷◌, ◌++◌, reverse, nat_le, slice_get, Some}
use Rattle.body_check.proofs.Common.{None, Ok, Err, Option, sym, refl, ap, ◌∙◌, subst, rules, tests, AllByRecursion, FuncType, ValType, I32}
use Rattle.body_check.proofs.Common.{I64, load_width, store_width, Typing, by_rule, of_types, Block, Br, BrIf, BrTable, Call, CallIndirect}
use Rattle.body_check.proofs.Common.{Code, Drop, GlobalGet, GlobalSet, If, Kind, Load, LocalGet, LocalSet, LocalTee, Loop, MemoryCopy}
use Rattle.body_check.proofs.Common.{MemoryFill, MemoryGrow, MemorySize, Otherwise, Return, Select, Store, Unreachable, else_code, end_code}
use Rattle.body_check.proofs.Common.{no_else, then_code, cause_of, Operands, Ran, Refusal, all_labels, and_then, anything, at_end, check}
use Rattle.body_check.proofs.Common.{chosen, closes, common, empties, first_end, give, has_memory, has_table, is_label, jump, later}
use Rattle.body_check.proofs.Common.{no_result, nothing, on, on_some, or_refuse, pop_any, pop_type, pop_types, push_types, refusal, run}
use Rattle.body_check.proofs.Common.{run_else, run_kind, step, turn, turn_tabled, when, kind_token_count, token_count, Context, Labels}
use Rattle.body_check.proofs.Common.{BodyHasType, ElseHasType, HasMemory, HasTable, HasType, KindHasType, Leaves, Stack, Turns}
use Rattle.body_check.proofs.Common.{TurnsAsTabled, table_type, values, Operand, same_Some}
use Rattle.w2c_base.proofs.Conjunctions.{both_hold}
use Rattle.w2c_base.proofs.Types.{equal_results-eq, results_equal_themselves}
use Rattle.body_check.specs.declared.operand.Operand.TheVariants.{Known, Unknown}

abbrev pub Fits : Operand → ValType → Type 0
Fits (Known u) t = u ≡ t
Fits Unknown t = Unit {0}

-- the stacks that operands stand for
abbrev pub Shows : Operands → Stack → Type 0
Shows nothing ts = ts ≡ []
Shows anything ts = Unit {0}
Shows (on x s) [] = ⊥
Shows (on x s) (t ∷ ts) = Fits x t × Shows s ts

abbrev pub Rule : Type 1
Rule = Stack → Stack → Type 0

-- Some: the operands behind show exactly the stacks that the rule reaches. None: it reaches none
abbrev pub Exact : Operands → Option Operands → Rule → Type 0
Exact s None T = (old new : Stack) → Shows s old → T old new → ⊥
Exact s (Some s') T =
    (new : Stack) → (Shows s' new → (old : Stack) × Shows s old × T old new) × ((old : Stack) → Shows s old → T old new → Shows s' new)

exact_by : (s : Operands) (r : Option Operands) (T T' : Rule) → ((old new : Stack) → T old new → T' old new)
    → ((old new : Stack) → T' old new → T old new) → Exact s r T → Exact s r T'
exact_by s None T T' f g h = λ old new sh w. h old new sh (g old new w)
exact_by s (Some s') T T' f g h = λ new. (λ x. let a = (h new).0 x in (a.0, a.1, f a.0 new a.2), λ old sh w. (h new).1 old sh (g old new w))

-- what taking these types from the top leaves
abbrev Left : Stack → Operands → Option Operands → Type 0
Left a s None = (ts : Stack) → Shows s (a ++ ts) → ⊥
Left a s (Some s') = (ts : Stack) → (Shows s' ts → Shows s (a ++ ts)) × (Shows s (a ++ ts) → Shows s' ts)

pop_leaves : (t : ValType) (s : Operands) → Left (t ∷ []) s (pop_type t s)
pop_leaves t nothing = λ ts h. cc
pop_leaves t anything = λ ts. (λ _. tt, λ _. tt)
pop_leaves t (on Unknown s) = λ ts. (λ h. (tt, h), λ h. h.1)
pop_leaves I32 (on (Known I32) s) = λ ts. (λ h. (refl, h), λ h. h.1)
pop_leaves I64 (on (Known I64) s) = λ ts. (λ h. (refl, h), λ h. h.1)
pop_leaves I32 (on (Known I64) s) = λ ts h. let e = h.0 in cc
pop_leaves I64 (on (Known I32) s) = λ ts h. let e = h.0 in cc

both_leave : (t : ValType) (a : Stack) (s s' : Operands) (r : Option Operands) → Left (t ∷ []) s (Some s') → Left a s' r → Left (t ∷ a) s r
both_leave t a s s' None h k = λ ts x. k ts ((h (a ++ ts)).1 x)
both_leave t a s s' (Some s'') h k = λ ts. (λ x. (h (a ++ ts)).0 ((k ts).0 x), λ x. (k ts).1 ((h (a ++ ts)).1 x))

first_leaves : (t : ValType) (a : Stack) (s : Operands) (r : Option Operands) → Left (t ∷ []) s r
    → ((s' : Operands) → Left a s' (pop_types a s')) → Left (t ∷ a) s (on_some r (pop_types a))
first_leaves t a s None h k = λ ts x. h (a ++ ts) x
first_leaves t a s (Some s') h k = both_leave t a s s' (pop_types a s') h (k s')

pops_leave : (a : Stack) (s : Operands) → Left a s (pop_types a s)
pops_leave [] s = λ ts. (λ h. h, λ h. h)
pops_leave (t ∷ a) s = first_leaves t a s (pop_type t s) (pop_leaves t s) (pops_leave a)

push_shown : (b : Stack) (s : Operands) (ts : Stack) → Shows (push_types b s) ts → (rest : Stack) × (ts ≡ b ++ rest) × Shows s rest
push_shown [] s ts h = (ts, refl, h)
push_shown (t ∷ b) s [] h = absurd h
push_shown (t ∷ b) s (u ∷ ts) h = let w = push_shown b s ts h.1 in let e = h.0 in let f = w.1 in (w.0, (cc), w.2)

push_shows : (b : Stack) (s : Operands) (rest : Stack) → Shows s rest → Shows (push_types b s) (b ++ rest)
push_shows [] s rest h = h
push_shows (t ∷ b) s rest h = (refl, push_shows b s rest h)

some_fit : (x : Operand) → (t : ValType) × Fits x t
some_fit (Known t) = (t, refl)
some_fit Unknown = (I32, tt)

some_stack : (s : Operands) → (ts : Stack) × Shows s ts
some_stack nothing = ([], refl)
some_stack anything = ([], tt)
some_stack (on x s) = let t = some_fit x in let r = some_stack s in (t.0 ∷ r.0, (t.1, r.1))

-- takes `a` from the top and puts `b` there
abbrev Swaps : Stack → Stack → Rule
Swaps a b old new = (rest : Stack) × (old ≡ a ++ rest) × (new ≡ b ++ rest)

turn_from : (a b : Stack) (s : Operands) (r : Option Operands) → Left a s r
    → Exact s (on_some r (λ rest. Some (push_types b rest))) (Swaps a b)
turn_from a b s None h = λ old new sh w. h w.0 (subst (Shows s) w.1 sh)
turn_from a b s (Some s') h = λ new. (
  λ x. let p = push_shown b s' new x in (a ++ p.0, (h p.0).0 p.2, (p.0, refl, p.1)),
  λ old sh w. subst (Shows (push_types b s')) (sym w.2) (push_shows b s' w.0 ((h w.0).1 (subst (Shows s) w.1 sh))),
)

turn_exact : (operands results : List ValType) (s : Operands) → Exact s (turn operands results s) (Turns operands results)
turn_exact operands results s =
    turn_from (reverse operands) (reverse results) s (pop_types (reverse operands) s) (pops_leave (reverse operands) s)

jump_from : (a : Stack) (s : Operands) (r : Option Operands) → Left a s r
    → Exact s (on_some r (λ rest. Some anything)) (λ old new. (rest : Stack) × (old ≡ a ++ rest))
jump_from a s None h = λ old new sh w. h w.0 (subst (Shows s) w.1 sh)
jump_from a s (Some s') h = λ new. (λ x. let r = some_stack s' in (a ++ r.0, (h r.0).0 r.1, (r.0, refl)), λ old sh w. tt)

jump_exact : (operands : List ValType) (s : Operands) → Exact s (jump operands s) (λ old new. Leaves operands old new)
jump_exact operands s = jump_from (reverse operands) s (pop_types (reverse operands) s) (pops_leave (reverse operands) s)

tabled_exact : (ty : Typing) (s : Operands) → Exact s (turn_tabled ty s) (TurnsAsTabled ty)
tabled_exact (of_types operands results) s = turn_exact operands results s
tabled_exact by_rule s = λ old new sh w. w

-- an index that is looked up
looked_up : {A : Type 0} (o : Option A) (f : A → Option Operands) (T : A → Rule) (s : Operands) → ((x : A) → Exact s (f x) (T x))
    → Exact s (on_some o f) (λ old new. (x : A) × (o ≡ Some x) × T x old new)
looked_up None f T s h = λ old new sh w. let e = w.1 in cc
looked_up (Some x) f T s h =
    exact_by s (f x) (T x) _ (λ old new t. (x, refl, t)) (λ old new w. subst (λ y. T y old new) (sym (same_Some x w.0 w.1)) w.2) (h x)

-- an index of what says what is taken and what is put
looked_turn : {A : Type 0} (o : Option A) (a b : A → Stack) (s : Operands) → Exact s (on_some o (λ x. turn (a x) (b x) s))
    (λ old new. (x : A) × (o ≡ Some x) × Turns (a x) (b x) old new)
looked_turn o a b s = looked_up o (λ x. turn (a x) (b x) s) (λ x. Turns (a x) (b x)) s (λ x. turn_exact (a x) (b x) s)

-- a test
tested : (b : Bool) (P : Type 0) → (P → b ≡ true) → (b ≡ true → P) → (s : Operands) (r : Option Operands) (T : Rule) → Exact s r T
    → Exact s (when b r) (λ old new. P × T old new)
tested false P f g s r T h = λ old new sh w. let e = f w.0 in cc
tested true P f g s r T h = exact_by s r T _ (λ old new t. (g refl, t)) (λ old new w. w.1) h

-- an operand of any type
drop_exact : (s : Operands) → Exact s (pop_any s) (λ old new. (t : ValType) × Turns (t ∷ []) [] old new)
drop_exact nothing = λ old new sh w. let e = w.1.1 in cc
drop_exact anything = λ new. (λ _. (I32 ∷ new, tt, (I32, (new, refl, refl))), λ old sh w. tt)
drop_exact (on x s) = λ new. (
  λ h. let t = some_fit x in (t.0 ∷ new, (t.1, h), (t.0, (new, refl, refl))),
  λ old sh w. subst (Shows s) (sym w.1.2) (subst (Shows (on x s)) w.1.1 sh).1,
)

-- what two operands have in common
abbrev Common : Operand → Operand → Option Operand → Type 0
Common x y None = (t : ValType) → Fits x t → Fits y t → ⊥
Common x y (Some z) = (t : ValType) → (Fits z t → Fits x t × Fits y t) × (Fits x t → Fits y t → Fits z t)

common_exact : (x y : Operand) → Common x y (common x y)
common_exact Unknown y = λ t. (λ h. (tt, h), λ _ h. h)
common_exact (Known t) Unknown = λ u. (λ h. (h, tt), λ h _. h)
common_exact (Known I32) (Known I32) = λ u. (λ h. (h, h), λ h _. h)
common_exact (Known I64) (Known I64) = λ u. (λ h. (h, h), λ h _. h)
common_exact (Known I32) (Known I64) = λ u e f. cc
common_exact (Known I64) (Known I32) = λ u e f. cc

abbrev TwoToOne : Rule
TwoToOne old new = (t : ValType) × Turns (t ∷ t ∷ []) (t ∷ []) old new

chosen_from : (x y : Operand) (s : Operands) (r : Option Operand) → Common x y r
    → Exact (on x (on y s)) (on_some r (λ z. Some (on z s))) TwoToOne
chosen_from x y s None h = λ old new sh w. let p = subst (Shows (on x (on y s))) w.1.1 sh in h w.0 p.0 p.1.0
chosen_from x y s (Some z) h = λ new. (
  go new,
  λ old sh w.
      let p = subst (Shows (on x (on y s))) w.1.1 sh in
      subst (Shows (on z s)) (sym w.1.2) ((h w.0).1 p.0 p.1.0, p.1.1),
)
  where
    go : (new : Stack) → Shows (on z s) new → (old : Stack) × Shows (on x (on y s)) old × TwoToOne old new
    go [] k = absurd k
    go (t ∷ ts) k = let f = (h t).0 k.0 in (t ∷ t ∷ ts, (f.0, (f.1, k.1)), (t, (ts, refl, refl)))

chosen_exact : (s : Operands) → Exact s (chosen s) TwoToOne
chosen_exact nothing = λ old new sh w. let e = w.1.1 in cc
chosen_exact anything = λ new. (go new, λ old sh w. subst (Shows (on Unknown anything)) (sym w.1.2) (tt, tt))
  where
    go : (new : Stack) → Shows (on Unknown anything) new → (old : Stack) × Unit {0} × TwoToOne old new
    go [] k = absurd k
    go (t ∷ ts) k = (t ∷ t ∷ ts, tt, (t, (ts, refl, refl)))
chosen_exact (on x nothing) = λ old new sh w. let p = subst (Shows (on x nothing)) w.1.1 sh in let e = p.1 in cc
chosen_exact (on x anything) =
    λ new. (go new, λ old sh w. let p = subst (Shows (on x anything)) w.1.1 sh in subst (Shows (on x anything)) (sym w.1.2) (p.0, tt))
  where
    go : (new : Stack) → Shows (on x anything) new → (old : Stack) × Shows (on x anything) old × TwoToOne old new
    go [] k = absurd k
    go (t ∷ ts) k = (t ∷ t ∷ ts, (k.0, tt), (t, (ts, refl, refl)))
chosen_exact (on x (on y s)) = chosen_from x y s (common x y) (common_exact x y)

-- an operand is taken, and then more is done
abbrev After : ValType → Rule → Rule
After t T old new = (rest : Stack) × (old ≡ t ∷ rest) × T rest new

popped_from : (t : ValType) (s s' : Operands) (r : Option Operands) (T : Rule) → Left (t ∷ []) s (Some s') → Exact s' r T
    → Exact s r (After t T)
popped_from t s s' None T h k = λ old new sh w. k w.0 new ((h w.0).1 (subst (Shows s) w.1 sh)) w.2
popped_from t s s' (Some s'') T h k = λ new. (
  λ x. let a = (k new).0 x in (t ∷ a.0, (h a.0).0 a.1, (a.0, refl, a.2)),
  λ old sh w. (k new).1 w.0 ((h w.0).1 (subst (Shows s) w.1 sh)) w.2,
)

popped : (t : ValType) (s : Operands) (o : Option Operands) (f : Operands → Option Operands) (T : Rule) → Left (t ∷ []) s o
    → ((s' : Operands) → Exact s' (f s') T) → Exact s (on_some o f) (After t T)
popped t s None f T h k = λ old new sh w. h w.0 (subst (Shows s) w.1 sh)
popped t s (Some s') f T h k = popped_from t s s' (f s') T h (k s')

is_label-eq : (o : Option (Option ValType)) (t : Option ValType) → is_label o t ≡ true → o ≡ Some t
is_label-eq None t e = cc
is_label-eq (Some u) t e = ap Some (equal_results-eq u t e)

is_label-yes : (o : Option (Option ValType)) (t : Option ValType) → o ≡ Some t → is_label o t ≡ true
is_label-yes o t e = ap (λ p. is_label p t) e ∙ results_equal_themselves t

abbrev AllLabels : Labels → List ℕ → Option ValType → Type 0
AllLabels labels ks t = AllByRecursion (λ k. slice_get labels k ≡ Some t) ks

all_labels-yes : (labels : Labels) (ks : List ℕ) (t : Option ValType) → AllLabels labels ks t → all_labels labels ks t ≡ true
all_labels-yes labels [] t h = refl
all_labels-yes labels (k ∷ ks) t h =
    ap (λ b. b && all_labels labels ks t) (is_label-yes (slice_get labels k) t h.0) ∙ all_labels-yes labels ks t h.1

all_labels-eq : (labels : Labels) (ks : List ℕ) (t : Option ValType) → all_labels labels ks t ≡ true → AllLabels labels ks t
all_labels-eq labels [] t e = tt
all_labels-eq labels (k ∷ ks) t e =
    let p = both_hold (is_label (slice_get labels k) t) (all_labels labels ks t) e in
    (is_label-eq (slice_get labels k) t p.0, all_labels-eq labels ks t p.1)

le_true : (m n : ℕ) → m ≤ n → nat_le m n ≡ true
le_true m n h = search (rules, tests)

true_le : (m n : ℕ) → nat_le m n ≡ true → m ≤ n
true_le m n h = search (rules, tests)

-- each instruction that has a rule of its own
abbrev StepExact : Context → Labels → Kind → Operands → Type 0
StepExact c labels kind s = Exact s (step c labels kind s) (KindHasType c labels kind)

select_exact : (c : Context) (labels : Labels) (s : Operands) → StepExact c labels Select s
select_exact c labels s =
    exact_by s _ (After I32 TwoToOne) (KindHasType c labels Select)
    (λ old new w. (w.2.0, (w.2.1.0, w.1 ∙ ap (λ r. I32 ∷ r) w.2.1.1, w.2.1.2)))
    (λ old new w. (w.0 ∷ w.0 ∷ w.1.0, w.1.1, (w.0, (w.1.0, refl, w.1.2))))
    (popped I32 s (pop_type I32 s) chosen TwoToOne (pop_leaves I32 s) chosen_exact)

br_table_exact : (c : Context) (labels : Labels) (ks : List ℕ) (k : ℕ) (s : Operands) → StepExact c labels (BrTable ks k) s
br_table_exact c labels ks k s =
    exact_by s _ (λ old new. (t : Option ValType) × (slice_get labels k ≡ Some t)
    × (AllLabels labels ks t × Leaves (values t ++ I32 ∷ []) old new)) (KindHasType c labels (BrTable ks k))
    (λ old new w. (w.0, w.1, w.2.0, w.2.1)) (λ old new w. (w.0, w.1, (w.2, w.3)))
    (looked_up (slice_get labels k) _ (λ t old new. AllLabels labels ks t × Leaves (values t ++ I32 ∷ []) old new) s
    (λ t. tested (all_labels labels ks t) (AllLabels labels ks t) (all_labels-yes labels ks t)
    (all_labels-eq labels ks t) s _ (Leaves (values t ++ I32 ∷ [])) (jump_exact (values t ++ I32 ∷ []) s)))

call_exact : (c : Context) (labels : Labels) (f : ℕ) (s : Operands) → StepExact c labels (Call f) s
call_exact c labels f s =
    exact_by s _ (λ old new. (o : Option FuncType) × (slice_get c.funcs f ≡ Some o)
    × ((ty : FuncType) × (o ≡ Some ty) × Turns ty.params (values ty.result) old new)) (KindHasType c labels (Call f))
    (λ old new w. (w.2.0, w.1 ∙ ap Some w.2.1, w.2.2)) (λ old new w. (Some w.0, w.1, (w.0, refl, w.2)))
    (looked_up (slice_get c.funcs f) _ (λ o old new. (ty : FuncType) × (o ≡ Some ty) × Turns ty.params (values ty.result) old new) s
    (λ o. looked_turn o (λ ty. ty.params) (λ ty. values ty.result) s))

call_indirect_exact : (c : Context) (labels : Labels) (x : ℕ) (s : Operands) → StepExact c labels (CallIndirect x) s
call_indirect_exact c labels x s =
    exact_by s _ (λ old new. (ty : FuncType) × (slice_get c.types x ≡ Some ty)
    × (HasTable c × Turns (ty.params ++ I32 ∷ []) (values ty.result) old new)) (KindHasType c labels (CallIndirect x))
    (λ old new w. (w.0, w.1, w.2.0, w.2.1)) (λ old new w. (w.0, w.1, (w.2, w.3)))
    (looked_up (slice_get c.types x) _ (λ ty old new. HasTable c × Turns (ty.params ++ I32 ∷ []) (values ty.result) old new) s
    (λ ty. tested (has_table c) (HasTable c) (λ h. h) (λ h. h) s _ (Turns (ty.params ++ I32 ∷ []) (values ty.result))
    (turn_exact (ty.params ++ I32 ∷ []) (values ty.result) s)))

global_get_exact : (c : Context) (labels : Labels) (x : ℕ) (s : Operands) → StepExact c labels (GlobalGet x) s
global_get_exact c labels x s =
    exact_by s _ (λ old new. (g : ValType × Bool) × (slice_get c.globals x ≡ Some g) × Turns [] (g.0 ∷ []) old new)
    (KindHasType c labels (GlobalGet x))
    (λ old new w. (w.0.0, w.0.1, w.1, w.2)) (λ old new w. ((w.0, w.1), w.2, w.3))
    (looked_turn (slice_get c.globals x) (λ g. []) (λ g. g.0 ∷ []) s)

global_set_exact : (c : Context) (labels : Labels) (x : ℕ) (s : Operands) → StepExact c labels (GlobalSet x) s
global_set_exact c labels x s =
    exact_by s _ (λ old new. (g : ValType × Bool) × (slice_get c.globals x ≡ Some g) × ((g.1 ≡ true) × Turns (g.0 ∷ []) [] old new))
    (KindHasType c labels (GlobalSet x))
    (λ old new w. (w.0.0, w.1 ∙ ap (λ b. Some (w.0.0, b)) w.2.0, w.2.1)) (λ old new w. ((w.0, true), w.1, (refl, w.2)))
    (looked_up (slice_get c.globals x) _ (λ g old new. (g.1 ≡ true) × Turns (g.0 ∷ []) [] old new) s
    (λ g. tested g.1 (g.1 ≡ true) (λ h. h) (λ h. h) s _ (Turns (g.0 ∷ []) []) (turn_exact (g.0 ∷ []) [] s)))

-- an access of so many bytes
access_exact : (c : Context) (ty : Typing) (align width : ℕ) (s : Operands)
    → Exact s (when (has_memory c) (when (nat_le (2 ^ align) width) (turn_tabled ty s)))
    (λ old new. HasMemory c × (2 ^ align ≤ width) × TurnsAsTabled ty old new)
access_exact c ty align width s =
    exact_by s _ (λ old new. HasMemory c × ((2 ^ align ≤ width) × TurnsAsTabled ty old new))
    (λ old new. HasMemory c × (2 ^ align ≤ width) × TurnsAsTabled ty old new)
    (λ old new w. (w.0, w.1.0, w.1.1)) (λ old new w. (w.0, (w.1, w.2)))
    (tested (has_memory c) (HasMemory c) (λ h. h) (λ h. h) s _ (λ old new. (2 ^ align ≤ width) × TurnsAsTabled ty old new)
    (tested (nat_le (2 ^ align) width) (2 ^ align ≤ width) (le_true (2 ^ align) width) (true_le (2 ^ align) width) s _ (TurnsAsTabled ty)
    (tabled_exact ty s)))

memory_exact : (c : Context) (ty : Typing) (s : Operands)
    → Exact s (when (has_memory c) (turn_tabled ty s)) (λ old new. HasMemory c × TurnsAsTabled ty old new)
memory_exact c ty s = tested (has_memory c) (HasMemory c) (λ h. h) (λ h. h) s _ (TurnsAsTabled ty) (tabled_exact ty s)

-- where a run went, if it was not refused
abbrev pub went : Ran → Option Operands
went (Ok s) = Some s
went (Err f) = None

went-or_refuse : (s : Operands) (f : Refusal) (o : Option Operands) (T : Rule) → Exact s o T → Exact s (went (or_refuse f o)) T
went-or_refuse s f None T h = h
went-or_refuse s f (Some s') T h = h

went-later : (s : Operands) (n : ℕ) (r : Ran) (T : Rule) → Exact s (went r) T → Exact s (went (later n r)) T
went-later s n (Ok s') T h = h
went-later s n (Err f) T h = h

abbrev Joined : Rule → Rule → Rule
Joined S T old new = (middle : Stack) × S old middle × T middle new

seq_from : (s s' : Operands) (r : Option Operands) (S T : Rule) → Exact s (Some s') S → Exact s' r T → Exact s r (Joined S T)
seq_from s s' None S T h k = λ old new sh w. k w.0 new ((h w.0).1 old sh w.1) w.2
seq_from s s' (Some s'') S T h k = λ new.
    (λ x. let b = (k new).0 x in let a = (h b.0).0 b.1 in (a.0, a.1, (b.0, a.2, b.2)), λ old sh w. (k new).1 w.0 ((h w.0).1 old sh w.1) w.2)

seq_exact : (s : Operands) (r : Ran) (f : Operands → Ran) (S T : Rule) → Exact s (went r) S → ((s' : Operands) → Exact s' (went (f s')) T)
    → Exact s (went (and_then r f)) (Joined S T)
seq_exact s (Err e) f S T h k = λ old new sh w. h old w.0 sh w.1
seq_exact s (Ok s') f S T h k = seq_from s s' (went (f s')) S T h (k s')

popped_ran : (t : ValType) (s : Operands) (e : Refusal) (o : Option Operands) (f : Operands → Ran) (T : Rule) → Left (t ∷ []) s o
    → ((s' : Operands) → Exact s' (went (f s')) T) → Exact s (went (and_then (or_refuse e o) f)) (After t T)
popped_ran t s e None f T h k = λ old new sh w. h w.0 (subst (Shows s) w.1 sh)
popped_ran t s e (Some s') f T h k = popped_from t s s' (went (f s')) T h (k s')

-- a run goes on exactly where this holds
abbrev pub Decided : Option Operands → Type 0 → Type 0
Decided None P = P → ⊥
Decided (Some s) P = P

emptied : (s : Operands) → Decided (empties s) (Shows s [])
emptied nothing = refl
emptied anything = tt
emptied (on x s) = λ h. h

closed_from : (a : Stack) (s : Operands) (o : Option Operands) → Left a s o → Decided (on_some o empties) (Shows s (a ++ []))
closed_from a s None h = h []
closed_from a s (Some s') h = decided (empties s') (emptied s')
  where
    decided : (o : Option Operands) → Decided o (Shows s' []) → Decided o (Shows s (a ++ []))
    decided None k = λ x. k ((h []).1 x)
    decided (Some s'') k = (h []).0 k

closed : (r : Option ValType) (s : Operands) → Decided (closes r s) (Shows s (values r))
closed None s = closed_from [] s (Some s) (pops_leave [] s)
closed (Some t) s = closed_from (t ∷ []) s (pop_types (t ∷ []) s) (pops_leave (t ∷ []) s)

ended_from : (f : Refusal) (r : Option ValType) (s : Operands) (o : Option Operands) (T : Rule) → Exact nothing (Some s) T
    → Decided o (Shows s (values r)) → Decided (went (or_refuse f o)) (T [] (values r))
ended_from f r s None T h k = λ x. k ((h (values r)).1 [] refl x)
ended_from f r s (Some s') T h k = let w = (h (values r)).0 k in subst (λ old. T old (values r)) w.1 w.2

-- an end
ended : (n e : ℕ) (r : Option ValType) (ran : Ran) (T : Rule) → Exact nothing (went ran) T
    → Decided (went (at_end n e r ran)) (T [] (values r))
ended n e r (Err f) T h = λ x. h [] (values r) refl x
ended n e r (Ok s) T h = ended_from _ r s (closes r s) T h (closed r s)

decided_later : (n : ℕ) (ran : Ran) (P : Type 0) → Decided (went ran) P → Decided (went (later n ran)) P
decided_later n (Ok s) P h = h
decided_later n (Err f) P h = h

guarded : (s : Operands) (ran : Ran) (P : Type 0) (f : Operands → Ran) (T : Rule) → Decided (went ran) P
    → ((s' : Operands) → Exact s (went (f s')) T) → Exact s (went (and_then ran f)) (λ old new. P × T old new)
guarded s (Err e) P f T h k = λ old new sh w. h w.0
guarded s (Ok s') P f T h k = exact_by s (went (f s')) T _ (λ old new t. (h, t)) (λ old new w. w.1) (k s')

-- an instruction whose code inside ran so
inside : (n m e : ℕ) (r : Option ValType) (ran : Ran) (T : Rule) → Exact nothing (went ran) T
    → Decided (went (later n (at_end m e r ran))) (T [] (values r))
inside n m e r ran T h = decided_later n (at_end m e r ran) (T [] (values r)) (ended m e r ran T h)

block_exact : (s : Operands) (m e : ℕ) (r : Option ValType) (ran : Ran) (T : Rule) → Exact nothing (went ran) T
    → Exact s (went (and_then (later 1 (at_end m e r ran)) (λ _. Ok (give r s)))) (λ old new. T [] (values r) × Turns [] (values r) old new)
block_exact s m e r ran T h =
    guarded s (later 1 (at_end m e r ran)) (T [] (values r)) (λ _. Ok (give r s)) (Turns [] (values r)) (inside 1 m e r ran T h)
    (λ s'. turn_exact [] (values r) s)

no_result_exact : (f : Refusal) (r : Option ValType) → Decided (went (or_refuse f (no_result r))) (r ≡ None)
no_result_exact f None = refl
no_result_exact f (Some t) = λ e. cc

if_exact : (s : Operands) (f : Refusal) (l m e : ℕ) (r : Option ValType) (ran ran' : Ran) (T : Rule) (P : Type 0)
    → Exact nothing (went ran) T → Decided (went ran') P
    → Exact s
    (went (and_then (or_refuse f (pop_type I32 s))
    (λ s'. and_then (later 1 (at_end m e r ran)) (λ _. and_then (later l ran') (λ _. Ok (give r s'))))))
    (λ old new. T [] (values r) × P × Turns (I32 ∷ []) (values r) old new)
if_exact s f l m e r ran ran' T P h h' =
    exact_by s
    (went (and_then (or_refuse f (pop_type I32 s))
    (λ s'. and_then (later 1 (at_end m e r ran)) (λ _. and_then (later l ran') (λ _. Ok (give r s'))))))
    (After I32 (λ old new. T [] (values r) × (P × Turns [] (values r) old new)))
    (λ old new. T [] (values r) × P × Turns (I32 ∷ []) (values r) old new)
    (λ old new w. (w.2.0, w.2.1.0, (w.0, w.1, w.2.1.1.2 ∙ ap (λ rest. reverse (values r) ++ rest) (sym w.2.1.1.1))))
    (λ old new w. (w.2.0, w.2.1, (w.0, (w.1, (w.2.0, refl, w.2.2)))))
    (popped_ran I32 s f (pop_type I32 s) (λ s'. and_then (later 1 (at_end m e r ran)) (λ _. and_then (later l ran') (λ _. Ok (give r s'))))
    (λ old new. T [] (values r) × (P × Turns [] (values r) old new)) (pop_leaves I32 s)
    (λ s'. guarded s' (later 1 (at_end m e r ran)) (T [] (values r)) (λ _. and_then (later l ran') (λ _. Ok (give r s')))
    (λ old new. P × Turns [] (values r) old new) (inside 1 m e r ran T h)
    (λ _. guarded s' (later l ran') P (λ _. Ok (give r s')) (Turns [] (values r)) (decided_later l ran' P h')
    (λ _. turn_exact [] (values r) s'))))

-- an instruction that holds no code
abbrev pub here : Context → Labels → ℕ → Kind → Refusal
here c labels p kind = refusal 0 (record { place = p; cause = cause_of c labels kind })

plain_exact : (c : Context) (labels : Labels) (p : ℕ) (kind : Kind) (s : Operands) → StepExact c labels kind s
    → Exact s (went (or_refuse (here c labels p kind) (step c labels kind s))) (KindHasType c labels kind)
plain_exact c labels p kind s h = went-or_refuse s (here c labels p kind) (step c labels kind s) (KindHasType c labels kind) h

mutual
  pub run_exact : (c : Context) (labels : Labels) (code : Code) (s : Operands)
      → Exact s (went (run c labels code s)) (HasType c labels code)
  run_exact c labels end_code s = λ new. (λ x. (new, x, refl), λ old sh w. subst (Shows s) w sh)
  run_exact c labels (then_code p kind code) s =
      seq_exact s (run_kind c labels p kind s) (λ s'. later (kind_token_count kind) (run c labels code s')) (KindHasType c labels kind)
      (HasType c labels code) (kind_exact c labels p kind s)
      (λ s'. went-later s' (kind_token_count kind) (run c labels code s') (HasType c labels code) (run_exact c labels code s'))

  pub kind_exact : (c : Context) (labels : Labels) (p : ℕ) (kind : Kind) (s : Operands)
      → Exact s (went (run_kind c labels p kind s)) (KindHasType c labels kind)
  kind_exact c labels p (Block t code e) s =
      block_exact s (token_count code) e t (run c (t ∷ labels) code nothing) (HasType c (t ∷ labels) code)
      (run_exact c (t ∷ labels) code nothing)
  kind_exact c labels p (Loop t code e) s =
      block_exact s (token_count code) e t (run c (None ∷ labels) code nothing) (HasType c (None ∷ labels) code)
      (run_exact c (None ∷ labels) code nothing)
  kind_exact c labels p (If t code otherwise e) s =
      if_exact s _ (token_count code + 1) (token_count code) (first_end otherwise e) t (run c (t ∷ labels) code nothing)
      (run_else c (t ∷ labels) otherwise t e) (HasType c (t ∷ labels) code) (ElseHasType c (t ∷ labels) otherwise t)
      (run_exact c (t ∷ labels) code nothing) (else_exact c (t ∷ labels) otherwise t e)
  kind_exact c labels p Unreachable s = plain_exact c labels p Unreachable s (jump_exact [] s)
  kind_exact c labels p Return s = plain_exact c labels p Return s (jump_exact (values c.result) s)
  kind_exact c labels p Drop s = plain_exact c labels p Drop s (drop_exact s)
  kind_exact c labels p Select s = plain_exact c labels p Select s (select_exact c labels s)
  kind_exact c labels p (Br k) s = plain_exact c labels p (Br k) s
      (looked_up (slice_get labels k) _ (λ t. Leaves (values t)) s (λ t. jump_exact (values t) s))
  kind_exact c labels p (BrIf k) s =
      plain_exact c labels p (BrIf k) s (looked_turn (slice_get labels k) (λ t. values t ++ I32 ∷ []) values s)
  kind_exact c labels p (BrTable ks k) s = plain_exact c labels p (BrTable ks k) s (br_table_exact c labels ks k s)
  kind_exact c labels p (Call f) s = plain_exact c labels p (Call f) s (call_exact c labels f s)
  kind_exact c labels p (CallIndirect x) s = plain_exact c labels p (CallIndirect x) s (call_indirect_exact c labels x s)
  kind_exact c labels p (LocalGet x) s =
      plain_exact c labels p (LocalGet x) s (looked_turn (slice_get c.locals x) (λ t. []) (λ t. t ∷ []) s)
  kind_exact c labels p (LocalSet x) s =
      plain_exact c labels p (LocalSet x) s (looked_turn (slice_get c.locals x) (λ t. t ∷ []) (λ t. []) s)
  kind_exact c labels p (LocalTee x) s =
      plain_exact c labels p (LocalTee x) s (looked_turn (slice_get c.locals x) (λ t. t ∷ []) (λ t. t ∷ []) s)
  kind_exact c labels p (GlobalGet x) s = plain_exact c labels p (GlobalGet x) s (global_get_exact c labels x s)
  kind_exact c labels p (GlobalSet x) s = plain_exact c labels p (GlobalSet x) s (global_set_exact c labels x s)
  kind_exact c labels p (Load op arg) s =
      plain_exact c labels p (Load op arg) s (access_exact c (table_type (Load op arg)) arg.align (load_width op) s)
  kind_exact c labels p (Store op arg) s =
      plain_exact c labels p (Store op arg) s (access_exact c (table_type (Store op arg)) arg.align (store_width op) s)
  kind_exact c labels p MemorySize s = plain_exact c labels p MemorySize s (memory_exact c (table_type MemorySize) s)
  kind_exact c labels p MemoryGrow s = plain_exact c labels p MemoryGrow s (memory_exact c (table_type MemoryGrow) s)
  kind_exact c labels p MemoryCopy s = plain_exact c labels p MemoryCopy s (memory_exact c (table_type MemoryCopy) s)
  kind_exact c labels p MemoryFill s = plain_exact c labels p MemoryFill s (memory_exact c (table_type MemoryFill) s)
  kind_exact c labels p kind s = plain_exact c labels p kind s (tabled_exact (table_type kind) s)

  pub else_exact : (c : Context) (labels : Labels) (otherwise : Otherwise) (t : Option ValType) (e : ℕ)
      → Decided (went (run_else c labels otherwise t e)) (ElseHasType c labels otherwise t)
  else_exact c labels no_else t e = no_result_exact _ t
  else_exact c labels (else_code q code) t e =
      inside 1 (token_count code) e t (run c labels code nothing) (HasType c labels code) (run_exact c labels code nothing)

-- a body is taken exactly where it has a typing
pub check_exact : (c : Context) (code : Code) (e : ℕ) → Decided (went (check c code e)) (BodyHasType c code)
check_exact c code e =
    ended (token_count code) e c.result (run c (c.result ∷ []) code nothing) (HasType c (c.result ∷ []) code)
    (run_exact c (c.result ∷ []) code nothing)
