-- An expression that has a type evaluates to a value of it, or to what is undefined.
use Rattle.c_sound.proofs.Common.{◌≡◌, ℕ, ◌*◌, ◌/◌, ◌%◌, ◌^◌, Bool, true, false, ◌&&◌, List, [], ◌∷◌, ◌++◌, is_some, if◌then◌else◌, nat_lt}
use Rattle.c_sound.proofs.Common.{◌==◌, Some, None, Option, bytes_eq, sym, refl, ap, ◌∙◌, subst, append_assoc, and_parts, both_ways}
use Rattle.c_sound.proofs.Common.{false≢true, list_all-append, bytes_eq-Decides, list_all, ⊤, by_test, if_found, named, bits, number_of}
use Rattle.c_sound.proofs.Common.{value, ValType, Value, I32, I64, expr_uses, is_known, same_type, Compares, HasType, IllTyped, IsElement}
use Rattle.c_sound.proofs.Common.{Scope, Typing, arrays, common_type, file_variables, is_among, is_number_type, is_object_type}
use Rattle.c_sound.proofs.Common.{local_variables, may_be_narrowed, name_typing, number_type, op_typing, param_variables, pointed_by}
use Rattle.c_sound.proofs.Common.{pointer_to, typed_if, typing_of, value_typing, variables, COp, CType, N32, N64, Plain, bytes_differ}
use Rattle.c_sound.proofs.Common.{Program, array_named, c_type_of, var_in, Bad, CValue, Evaluated, Is, Machine, Name, NoRule, Number}
use Rattle.c_sound.proofs.Common.{Pointer, Running, Vars, found, then_evaluate, as_number, as_object, depth_name, element, evaluate}
use Rattle.c_sound.proofs.Common.{in_unit, number_in, value_of, OfType, ScopeOf, TypedMachine, VarsOf, own_variables, type_at, arith}
use Rattle.w2c_base.specs.declared.value.ValType.TheVariants as val
use Rattle.c_tree.specs.declared.tree.CType.TheVariants as type
use Rattle.c_tree.specs.declared.tree.COp.TheVariants as op
use Rattle.c_tree.specs.Tree as tree
use Rattle.c_meaning.specs.Operators.{operate, operate_at}
use Rattle.c_sound.proofs.Choices.{by_option, named_behind, named_in_front, same_some}
use Rattle.c_tree.proofs.SameTypes.{type_same}

-- A rule applies, and what is found is good.
abbrev pub Comes : {A : Type 0} → (A → Type 0) → Evaluated A → Type 0
Comes good (Is a) = good a
Comes good (Bad kind) = ⊤
Comes good NoRule = ⊥

pub comes_then : {A B : Type 0} (good : A → Type 0) (best : B → Type 0) (x : Evaluated A) (go : A → Evaluated B)
    → Comes good x → ((a : A) → good a → Comes best (go a)) → Comes best (then_evaluate x go)
comes_then good best (Is a) go h k = k a h
comes_then good best (Bad kind) go h k = tt
comes_then good best NoRule go h k = h

-- ---- names

-- what holds of a variable of a function's own
pub own_holds : (p : Program) (declared : List (Name × CType)) (vars : Vars) (name : Name) (t : CType) → VarsOf p declared vars
    → named name declared ≡ Some t → (v : CValue) × (named name vars ≡ Some v) × OfType p t v
own_holds p [] [] name t h e = absurd cc
own_holds p (d ∷ declared) (x ∷ vars) name t h e = by_test (bytes_eq d.0 name)
    (λ is. (x.1, rw (sym h.0, is) refl, subst (λ (u : CType). OfType p u x.1) (let f = rw is at e in cc) h.1))
    (λ is. let behind = own_holds p declared vars name t h.2 (rw is at e) in (behind.0, rw (sym h.0, is) behind.1, behind.2))
own_holds p [] (x ∷ vars) name t h e = absurd h
own_holds p (d ∷ declared) [] name t h e = absurd h

pub own_not : (p : Program) (declared : List (Name × CType)) (vars : Vars) (name : Name) → VarsOf p declared vars
    → named name declared ≡ None → named name vars ≡ None
own_not p [] [] name h e = refl
own_not p (d ∷ declared) (x ∷ vars) name h e = by_test (bytes_eq d.0 name)
    (λ is. absurd (let f = rw is at e in cc))
    (λ is. rw (sym h.0, is) (own_not p declared vars name h.2 (rw is at e)))
own_not p [] (x ∷ vars) name h e = absurd h
own_not p (d ∷ declared) [] name h e = absurd h

-- a name's place: w2c_depth, a variable of the function's own, or one of file scope
pub data Stands (p : Program) (u : ℕ) (s : Scope) (name : Name) (t : CType) : Type 0 where
  IsDepth : name ≡ depth_name → t ≡ type.U32 → Stands p u s name t
  IsOwn : bytes_eq name depth_name ≡ false → named name (own_variables s) ≡ Some t → Stands p u s name t
  IsOfFile : bytes_eq name depth_name ≡ false → named name (own_variables s) ≡ None
      → type_at p (record { unit = u; name = name }) ≡ Some t → Stands p u s name t

abbrev depth_alone : List (Name × CType)
depth_alone = (depth_name, type.U32) ∷ []

own_first : (s : Scope) → variables s ≡ own_variables s ++ (file_variables s ++ depth_alone)
own_first s = sym (append_assoc (param_variables s.func) (local_variables s.body) (file_variables s ++ depth_alone))

depth_there : (p : Program) (u : ℕ) (s : Scope) → ScopeOf p u s → named depth_name (variables s) ≡ Some type.U32
depth_there p u s h =
    ap (named depth_name) (own_first s)
    ∙ named_behind depth_name (own_variables s) (file_variables s ++ depth_alone) h.own
    ∙ named_behind depth_name (file_variables s) depth_alone h.file
    ∙ refl

pub stands : (p : Program) (u : ℕ) (s : Scope) → ScopeOf p u s → (name : Name) (t : CType) → named name (variables s) ≡ Some t
    → Stands p u s name t
stands p u s h name t e = by_test (bytes_eq name depth_name)
    (λ is. let same : name ≡ depth_name = (bytes_eq-Decides name depth_name).0 is in
    IsDepth same (same_some (named depth_name (variables s)) t type.U32 (subst (λ (n : Name). named n (variables s) ≡ Some t) same e)
    (depth_there p u s h)))
    (λ is. by_option (named name (own_variables s))
    (λ none. by_option (named name (file_variables s))
    (λ not_there. absurd (not_depth is (sym (is_then none not_there) ∙ e)))
    (λ t' there. IsOfFile is none (subst (λ (x : CType). type_at p (record { unit = u; name = name }) ≡ Some x)
    (same_some (named name (variables s)) t' t (ap (named name) (own_first s)
    ∙ named_behind name (own_variables s) (file_variables s ++ depth_alone) none
    ∙ named_in_front name (file_variables s) depth_alone t' there) e) (h.file_vars name t' there))))
    (λ t' there. IsOwn is (subst (λ (x : CType). named name (own_variables s) ≡ Some x)
    (same_some (named name (variables s)) t' t (ap (named name) (own_first s)
    ∙ named_in_front name (own_variables s) (file_variables s ++ depth_alone) t' there) e) there)))
  where
    is_then : named name (own_variables s) ≡ None → named name (file_variables s) ≡ None
        → named name (variables s) ≡ named name depth_alone
    is_then none not_there = ap (named name) (own_first s)
        ∙ named_behind name (own_variables s) (file_variables s ++ depth_alone) none
        ∙ named_behind name (file_variables s) depth_alone not_there

    not_depth : bytes_eq name depth_name ≡ false → named name depth_alone ≡ Some t → ⊥
    not_depth is e =
        let differ : bytes_eq depth_name name ≡ false = bytes_differ depth_name name (λ same.
        both_ways (bytes_eq name depth_name) is ((bytes_eq-Decides name depth_name).1 (sym same))) in
        (let f = rw differ at e in cc)

-- what a name of a type holds
pub value_is : (p : Program) (m : Machine) (r : Running) (s : Scope) → TypedMachine p m → ScopeOf p r.unit s
    → VarsOf p (own_variables s) r.vars
    → (name : Name) (t : CType) → named name (variables s) ≡ Some t → is_object_type t ≡ false
    → (v : CValue) × (value_of m r name ≡ Some v) × OfType p t v
value_is p m r s machine scope vars name t e plain = go (stands p r.unit s scope name t e)
  where
    go : Stands p r.unit s name t → (v : CValue) × (value_of m r name ≡ Some v) × OfType p t v
    go (IsDepth same is) = (
      Number (I32 m.depth),
      subst (λ (n : Name). value_of m r n ≡ Some (Number (I32 m.depth))) (sym same) refl,
      subst (λ (u : CType). OfType p u (Number (I32 m.depth))) (sym is) (record { is = refl; points = tt }),
    )
    go (IsOwn not_this there) =
        let held = own_holds p (own_variables s) r.vars name t vars there in
        (held.0, rw (not_this, held.1) refl, held.2)
    go (IsOfFile not_this not_own there) =
        let held = machine.vars (in_unit r name) t there plain in
        (held.0, rw (not_this, own_not p (own_variables s) r.vars name vars not_own) held.1, held.2)

-- ---- expressions

-- a number of what an expression is
abbrev pub IsSuch : Typing → Value → Type 0
IsSuch (HasType type.U32) (I32 n) = ⊤
IsSuch (HasType type.U64) (I64 n) = ⊤
IsSuch Compares (I32 n) = ⊤
IsSuch IsElement (I32 n) = ⊤
IsSuch _ _ = ⊥

pub narrowed : (n : Typing) (t : CType) → number_type n ≡ Some t → (n ≡ HasType t) × (is_number_type t ≡ true)
narrowed (HasType u) t e = by_test (is_number_type u)
    (λ is. let same : u ≡ t = (let f = rw is at e in cc) in (ap HasType same, subst (λ (x : CType). is_number_type x ≡ true) same is))
    (λ is. absurd (let f = rw is at e in cc))
narrowed _ t e = absurd cc

-- a value of a number's type is a number of it
number_of_type : (p : Program) (t : CType) (v : CValue) → is_number_type t ≡ true → OfType p t v
    → Comes (IsSuch (HasType t)) (as_number v)
number_of_type p type.U32 (Number (I32 n)) is h = tt
number_of_type p type.U64 (Number (I64 n)) is h = tt
number_of_type p type.U32 _ is h = absurd (false≢true h.is)
number_of_type p type.U64 _ is h = absurd (false≢true h.is)
number_of_type p _ v is h = absurd (false≢true is)

number_found : (p : Program) (t : CType) (o : Option CValue) → is_number_type t ≡ true → (v : CValue) → o ≡ Some v → OfType p t v
    → Comes (IsSuch (HasType t)) (number_in o)
number_found p t o is v e h = subst (λ (x : Option CValue). Comes (IsSuch (HasType t)) (number_in x)) (sym e) (number_of_type p t v is h)

-- a number's type is no object's, and what points to one points to a value
pub plain_number : (t : CType) → is_number_type t ≡ true → is_object_type t ≡ false
plain_number type.U32 is = refl
plain_number type.U64 is = refl
plain_number type.Mem is = absurd (false≢true is)
plain_number type.Tab is = absurd (false≢true is)
plain_number _ is = refl

pub pointed_number : (t u : CType) → pointed_by t ≡ Some u → (is_number_type u ≡ true) × (is_object_type t ≡ false)
pointed_number type.PtrU32 u e = let is : type.U32 ≡ u = cc in (subst (λ (x : CType). is_number_type x ≡ true) is refl, refl)
pointed_number type.PtrU64 u e = let is : type.U64 ≡ u = cc in (subst (λ (x : CType). is_number_type x ≡ true) is refl, refl)
pointed_number _ u e = absurd cc

pub one_target : (t u target : CType) → pointed_by t ≡ Some u → pointer_to target ≡ Some t → target ≡ u
one_target type.PtrU32 u type.U32 e f = cc
one_target type.PtrU64 u type.U64 e f = cc
one_target _ u target e f = absurd cc

-- where a pointer to a number points
pub object_of : (p : Program) (t u : CType) (v : CValue) → pointed_by t ≡ Some u → OfType p t v
    → Comes (λ a. type_at p a ≡ Some u) (as_object v)
object_of p t u (Pointer None) e h = tt
object_of p t u (Pointer (Some a)) e h =
    subst (λ (x : CType). type_at p a ≡ Some x) (one_target t u h.points.0 e h.points.2) h.points.1
object_of p type.PtrU32 u _ e h = absurd (false≢true h.is)
object_of p type.PtrU64 u _ e h = absurd (false≢true h.is)
object_of p _ u v e h = absurd cc

-- ---- operators

such_value : (t : ValType) (n : ℕ) → IsSuch (HasType (c_type_of t)) (value t n)
such_value val.I32 n = tt
such_value val.I64 n = tt

comes_if : (b : Bool) (n : Typing) (x y : Evaluated Value) → Comes (IsSuch n) x → Comes (IsSuch n) y
    → Comes (IsSuch n) (if b then x else y)
comes_if true n x y h k = h
comes_if false n x y h k = k

operates : (t : ValType) (o : COp) (x y : ℕ) → Comes (IsSuch (op_typing o (Some (c_type_of t)))) (operate_at t o x y)
operates t op.Div x y = comes_if (y == 0) (HasType (c_type_of t)) (Bad 1) (Is (value t (x / y))) tt (such_value t _)
operates t op.Rem x y = comes_if (y == 0) (HasType (c_type_of t)) (Bad 1) (Is (value t (x % y))) tt (such_value t _)
operates t op.Shl x y =
    comes_if (nat_lt y (bits t)) (HasType (c_type_of t)) (Is (value t (x * 2 ^ y % 2 ^ bits t))) (Bad 2) (such_value t _) tt
operates t op.Shr x y = comes_if (nat_lt y (bits t)) (HasType (c_type_of t)) (Is (value t (x / 2 ^ y))) (Bad 2) (such_value t _) tt
operates t op.Eq x y = tt
operates t op.Ne x y = tt
operates t op.Lt x y = tt
operates t op.Le x y = tt
operates t op.Gt x y = tt
operates t op.Ge x y = tt
operates t _ x y = such_value t _

such_narrow : (t : CType) (n : ℕ) → IsSuch (HasType t) (I32 n) → t ≡ type.U32
such_narrow type.U32 n h = refl
such_narrow _ n h = absurd h

such_wide : (t : CType) (n : ℕ) → IsSuch (HasType t) (I64 n) → t ≡ type.U64
such_wide type.U64 n h = refl
such_wide _ n h = absurd h

operate_comes : (o : COp) (t : CType) (x y : Value) → IsSuch (HasType t) x → IsSuch (HasType t) y
    → Comes (IsSuch (op_typing o (Some t))) (operate o x y)
operate_comes o t (I32 x) (I32 y) h k =
    subst (λ (u : CType). Comes (IsSuch (op_typing o (Some u))) (operate_at val.I32 o x y)) (sym (such_narrow t x h))
    (operates val.I32 o x y)
operate_comes o t (I64 x) (I64 y) h k =
    subst (λ (u : CType). Comes (IsSuch (op_typing o (Some u))) (operate_at val.I64 o x y)) (sym (such_wide t x h))
    (operates val.I64 o x y)
operate_comes o t (I32 x) (I64 y) h k = let e = sym (such_narrow t x h) ∙ such_wide t y k in absurd cc
operate_comes o t (I64 x) (I32 y) h k = let e = sym (such_narrow t y k) ∙ such_wide t x h in absurd cc

-- the one type of two operands
pub one_type : (a b : Typing) (t : CType) → common_type a b ≡ Some t → (number_type a ≡ Some t) × (number_type b ≡ Some t)
one_type a b t e = by_option (number_type a)
    (λ none. absurd (let f = rw none at e in cc))
    (λ x first. by_option (number_type b)
    (λ none. absurd (let f = rw (first, none) at e in cc))
    (λ y second. by_test (same_type x y)
    (λ same.
    let f = rw (first, second, same) at e in
    let is : x ≡ t = cc in
    (first ∙ ap Some is, second ∙ ap Some (sym (type_same x y same) ∙ is)))
    (λ differ. absurd (let f = rw (first, second, differ) at e in cc))))

module _ (p : Program) (m : Machine) (r : Running) (s : Scope) (machine : TypedMachine p m) (scope : ScopeOf p r.unit s)
    (vars : VarsOf p (own_variables s) r.vars) where
  abbrev Known : tree.Expr → Type 0
  Known e = list_all (is_known s) (expr_uses e) ≡ true

  abbrev Evaluates : tree.Expr → Type 0
  Evaluates e = Comes (IsSuch (typing_of s e)) (evaluate p m r e)

  name_evaluates : (name : Name) (o : Option CType) → named name (variables s) ≡ o → may_be_narrowed (name_typing o) ≡ true
      → Comes (IsSuch (name_typing o)) (number_in (value_of m r name))
  name_evaluates name None e is = absurd (false≢true is)
  name_evaluates name (Some t) e is = by_test (is_object_type t)
      (λ object. absurd (let f = rw object at is in false≢true f))
      (λ plain.
      let number : is_number_type t ≡ true = rw plain at is in
      let held = value_is p m r s machine scope vars name t e plain in
      rw plain (number_found p t (value_of m r name) number held.0 held.1 held.2))

  star_evaluates : (name : Name) (o : Option CType) → if_found (named name (variables s)) pointed_by ≡ o
      → may_be_narrowed (value_typing o) ≡ true
      → Comes (IsSuch (value_typing o)) (evaluate p m r (tree.Star name))
  star_evaluates name None e is = absurd (false≢true is)
  star_evaluates name (Some u) e is = by_option (named name (variables s))
      (λ none. absurd (let f = rw none at e in cc))
      (λ t there.
      let points : pointed_by t ≡ Some u = rw there at e in
      let kinds = pointed_number t u points in
      let held = value_is p m r s machine scope vars name t there kinds.1 in
      rw held.1 (comes_then (λ a. type_at p a ≡ Some u) (IsSuch (HasType u)) (as_object held.0) (λ a. number_in (var_in m a))
      (object_of p t u held.0 points held.2)
      (λ a at_a. let target = machine.vars a u at_a (plain_number u kinds.0) in
      number_found p u (var_in m a) kinds.0 target.0 target.1 target.2)))

  element_comes : (bytes : List ℕ) (index : ℕ) → Comes (IsSuch IsElement) (element bytes index)
  element_comes bytes index = grind arith

  array_found : (name : Name) → is_among name (arrays s) ≡ true → Comes (λ (bytes : List ℕ). ⊤) (found (array_named p r.unit name))
  array_found name there = grind (arith, scope.arrays_are name there)

  may_be : (n : Typing) → is_some (number_type n) ≡ true → may_be_narrowed n ≡ true
  may_be (HasType t) e = by_test (is_number_type t) (λ is. is) (λ is. absurd (let f = rw is at e in false≢true f))
  may_be IllTyped e = e
  may_be _ e = refl

  test_of : (b : Bool) (n : Typing) → may_be_narrowed (typed_if b n) ≡ true → b ≡ true
  test_of true n e = refl
  test_of false n e = e

  op_evaluates : (o : COp) (a b : tree.Expr) (t : CType) → common_type (typing_of s a) (typing_of s b) ≡ Some t
      → (may_be_narrowed (typing_of s a) ≡ true → Evaluates a) → (may_be_narrowed (typing_of s b) ≡ true → Evaluates b)
      → Comes (IsSuch (op_typing o (Some t))) (evaluate p m r (tree.Op o a b))
  op_evaluates o a b t e left right =
      let types = one_type (typing_of s a) (typing_of s b) t e in
      let first = narrowed (typing_of s a) t types.0 in
      let second = narrowed (typing_of s b) t types.1 in
      let x_comes : Comes (IsSuch (HasType t)) (evaluate p m r a) =
      subst (λ (n : Typing). Comes (IsSuch n) (evaluate p m r a)) first.0 (left (rw first.0 first.1)) in
      let y_comes : Comes (IsSuch (HasType t)) (evaluate p m r b) =
      subst (λ (n : Typing). Comes (IsSuch n) (evaluate p m r b)) second.0 (right (rw second.0 second.1)) in
      comes_then (IsSuch (HasType t)) (IsSuch (op_typing o (Some t))) (evaluate p m r a)
      (λ x. then_evaluate (evaluate p m r b) (λ y. operate o x y)) x_comes
      (λ x is_x. comes_then (IsSuch (HasType t)) (IsSuch (op_typing o (Some t))) (evaluate p m r b) (λ y. operate o x y) y_comes
      (λ y is_y. operate_comes o t x y is_x is_y))

  pub evaluates : (e : tree.Expr) → Known e → may_be_narrowed (typing_of s e) ≡ true → Evaluates e
  evaluates (tree.Name name) known is = name_evaluates name (named name (variables s)) refl is
  evaluates (tree.At name i) known is =
      let parts = and_parts (is_among name (arrays s)) (list_all (is_known s) (expr_uses i)) known in
      let typed = test_of (is_some (number_type (typing_of s i))) IsElement is in
      rw typed (comes_then (IsSuch (typing_of s i)) (IsSuch IsElement) (evaluate p m r i)
      (λ i'. then_evaluate (found (array_named p r.unit name)) (λ bytes. element bytes (number_of i')))
      (evaluates i parts.1 (may_be (typing_of s i) typed))
      (λ i' is_i. comes_then (λ (bytes : List ℕ). ⊤) (IsSuch IsElement) (found (array_named p r.unit name))
      (λ bytes. element bytes (number_of i')) (array_found name parts.0) (λ bytes _. element_comes bytes (number_of i'))))
  evaluates (tree.Number (N32 n)) known is = tt
  evaluates (tree.Number (N64 n)) known is = tt
  evaluates (tree.Number (Plain n)) known is = absurd (false≢true is)
  evaluates (tree.To32 e) known is =
      let typed = test_of (may_be_narrowed (typing_of s e)) (HasType type.U32) is in
      rw typed (comes_then (IsSuch (typing_of s e)) (IsSuch (HasType type.U32)) (evaluate p m r e)
      (λ v. Is (I32 (number_of v % 2 ^ 32))) (evaluates e known typed) (λ v is_v. tt))
  evaluates (tree.To64 e) known is =
      let typed = test_of (is_some (number_type (typing_of s e))) (HasType type.U64) is in
      rw typed (comes_then (IsSuch (typing_of s e)) (IsSuch (HasType type.U64)) (evaluate p m r e)
      (λ v. Is (I64 (number_of v))) (evaluates e known (may_be (typing_of s e) typed)) (λ v is_v. tt))
  evaluates (tree.Star name) known is = star_evaluates name (if_found (named name (variables s)) pointed_by) refl is
  evaluates (tree.Op o a b) known is =
      let split : (list_all (is_known s) (expr_uses a) && list_all (is_known s) (expr_uses b)) ≡ true =
      sym (list_all-append (is_known s) (expr_uses a) (expr_uses b)) ∙ known in
      let parts = and_parts (list_all (is_known s) (expr_uses a)) (list_all (is_known s) (expr_uses b)) split in
      let left = evaluates a parts.0 in
      let right = evaluates b parts.1 in
      by_option (common_type (typing_of s a) (typing_of s b))
      (λ none. absurd (let f = rw none at is in false≢true f))
      (λ t there. rw there (op_evaluates o a b t there left right))
