-- The type of what a variable holds, as the zero of that type. An assignment of a value of this type goes on, and
-- keeps the types of all variables (C11, 6.5.16.1).
use Rattle.init_meaning.proofs.Common.{◌≡◌, true, [], ◌∷◌, is_some, Some, None, Option, option_map, sym, refl, ap, ◌∙◌, arith, same_Some}
use Rattle.init_meaning.proofs.Common.{named, with_named, I32, I64, var_in, CValue, Machine, Number, ObjectAddress, Pointer, Vars, Step}
use Rattle.init_meaning.proofs.Common.{put_in, zero_like, zeroed}
use Rattle.c_meaning.specs.State.{Name, FuncPointer, of_one_type}
use Rattle.init_meaning.specs.Zeros.{held}

abbrev pub held_in : Machine → ObjectAddress → Option CValue
held_in m a = option_map zero_like (var_in m a)

pub one_type_of_one_zero : (x v : CValue) → zero_like x ≡ zero_like v → of_one_type x v ≡ true
one_type_of_one_zero (Number (I32 n)) (Number (I32 m)) e = refl
one_type_of_one_zero (Number (I64 n)) (Number (I64 m)) e = refl
one_type_of_one_zero (Pointer to) (Pointer other) e = refl
one_type_of_one_zero (FuncPointer f) (FuncPointer g) e = refl
one_type_of_one_zero _ _ e = absurd cc

pub one_zero_of_one_type : (x v : CValue) → of_one_type x v ≡ true → zero_like x ≡ zero_like v
one_zero_of_one_type (Number (I32 n)) (Number (I32 m)) e = refl
one_zero_of_one_type (Number (I64 n)) (Number (I64 m)) e = refl
one_zero_of_one_type (Pointer to) (Pointer other) e = refl
one_zero_of_one_type (FuncPointer f) (FuncPointer g) e = refl
one_zero_of_one_type _ _ e = absurd cc

-- a value goes where one of its type is held
pub put_where_held : (m : Machine) (found : Option CValue) (v : CValue) (does : Step) → option_map zero_like found ≡ Some (zero_like v)
    → put_in m found v does ≡ does
put_where_held m None v does e = absurd cc
put_where_held m (Some old) v does e = rw (one_type_of_one_zero old v (same_Some (zero_like old) (zero_like v) e)) refl

pub found_there : {A B : Type 0} (f : A → B) (found : Option A) (b : B) → option_map f found ≡ Some b → is_some found ≡ true
found_there f None b e = absurd cc
found_there f (Some a) b e = refl

pub held_there : (name : Name) (vars : Vars) (zero : CValue) → held name vars ≡ Some zero → is_some (named name vars) ≡ true
held_there name vars zero e = found_there zero_like (named name vars) zero e

-- ---- behind an assignment

pub named_zeroed : (name : Name) (vars : Vars) → named name (zeroed vars) ≡ held name vars
named_zeroed name [] = refl
named_zeroed name (e ∷ vars) = grind (arith, named_zeroed name vars)

pub zeroed_kept : (name : Name) (v : CValue) (vars : Vars) → held name vars ≡ Some (zero_like v)
    → zeroed (with_named name v vars) ≡ zeroed vars
zeroed_kept name v [] h = refl
zeroed_kept name v (e ∷ vars) h = grind (arith, zeroed_kept name v vars)

-- each variable holds a value of its type still
pub held_kept : (name other : Name) (v : CValue) (vars : Vars) → held other vars ≡ Some (zero_like v)
    → held name (with_named other v vars) ≡ held name vars
held_kept name other v vars h =
    sym (named_zeroed name (with_named other v vars)) ∙ (ap (named name) (zeroed_kept other v vars h) ∙ named_zeroed name vars)
