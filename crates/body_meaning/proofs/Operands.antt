-- Operands as lists of values: their types, those on top that are a call's arguments, and that they are numbers of
-- their types.
use Rattle.body_meaning.proofs.Common.{◌≡◌, ℕ, ◌^◌, ◌<◌, List, [], ◌∷◌, ◌++◌, reverse, Some, None, Option, sym, refl, ap, ◌∙◌, subst, arith}
use Rattle.body_meaning.proofs.Common.{reverse-append, reverse-reverse, AllByRecursion, all_append, IsNumber, bits, type_of, types_of}
use Rattle.body_meaning.proofs.Common.{value, zeros, ValType, Value, Stack, values}
use Rattle.w2c_base.specs.declared.value.ValType.TheVariants as type
use Rattle.w2c_base.proofs.Lists.{all_front}

-- ---- types

pub types_append : (xs ys : List Value) → types_of (xs ++ ys) ≡ types_of xs ++ types_of ys
types_append [] ys = refl
types_append (x ∷ xs) ys = ap (λ types. type_of x ∷ types) (types_append xs ys)

pub reversed_front : {A : Type 0} (x : A) (xs : List A) → reverse (x ∷ xs) ≡ reverse xs ++ x ∷ []
reversed_front x xs = reverse-append (x ∷ []) xs

types_reverse : (xs : List Value) → types_of (reverse xs) ≡ reverse (types_of xs)
types_reverse [] = refl
types_reverse (x ∷ xs) =
    ap types_of (reversed_front x xs) ∙ (types_append (reverse xs) (x ∷ [])
    ∙ (ap (λ types. types ++ type_of x ∷ []) (types_reverse xs) ∙ sym (reversed_front (type_of x) (types_of xs))))

pub reversed : (t : Option ValType) → reverse (values t) ≡ values t
reversed None = refl
reversed (Some t) = refl

pub no_operand : {t : ValType} {types : Stack} → [] ≡ t ∷ types → ⊥
no_operand e = absurd cc

pub first_type : {t u : ValType} {types others : Stack} → t ∷ types ≡ u ∷ others → t ≡ u
first_type {t} {types} e = ap (λ (types : Stack). elim types [ [] ↦ t | x ∷ rest ↦ x ]) e

pub other_types : {t u : ValType} {types others : Stack} → t ∷ types ≡ u ∷ others → types ≡ others
other_types {types} e = ap (λ (types : Stack). elim types [ [] ↦ [] | x ∷ rest ↦ rest ]) e

-- operands of these types, and those under them
record Split (ts us : List ValType) (stack : List Value) : Type 0 where
  front : List Value
  under : List Value
  is : stack ≡ front ++ under
  front_types : types_of front ≡ ts
  under_types : types_of under ≡ us

split : (ts us : List ValType) (stack : List Value) → types_of stack ≡ ts ++ us → Split ts us stack
split [] us stack e = record { front = []; under = stack; is = refl; front_types = refl; under_types = e }
split (t ∷ ts) us [] e = absurd cc
split (t ∷ ts) us (v ∷ stack) e =
    let same : type_of v ≡ t = cc in
    let others : types_of stack ≡ ts ++ us = cc in
    let s = split ts us stack others in
    record {
      front = v ∷ s.front;
      under = s.under;
      is = ap (λ xs. v ∷ xs) s.is;
      front_types = ap (λ u. u ∷ types_of s.front) same ∙ ap (λ types. t ∷ types) s.front_types;
      under_types = s.under_types;
    }

-- the arguments of a call, the first one first, over the operands that stay
pub record Arguments (params more : List ValType) (stack : List Value) : Type 0 where
  pub args : List Value
  pub under : List Value
  pub is : stack ≡ reverse args ++ under
  pub args_types : types_of args ≡ params
  pub under_types : types_of under ≡ more

pub arguments : (params more : List ValType) (stack : List Value) → types_of stack ≡ reverse params ++ more → Arguments params more stack
arguments params more stack e =
    let s = split (reverse params) more stack e in
    record {
      args = reverse s.front;
      under = s.under;
      is = s.is ∙ ap (λ xs. xs ++ s.under) (sym (reverse-reverse s.front));
      args_types = types_reverse s.front ∙ (ap reverse s.front_types ∙ reverse-reverse params);
      under_types = s.under_types;
    }

pub zeros_types : (types : List ValType) → types_of (zeros types) ≡ types
zeros_types [] = refl
zeros_types (type.I32 ∷ types) = ap (λ ts. type.I32 ∷ ts) (zeros_types types)
zeros_types (type.I64 ∷ types) = ap (λ ts. type.I64 ∷ ts) (zeros_types types)

-- ---- numbers

pub numbers_reverse : (xs : List Value) → AllByRecursion IsNumber xs → AllByRecursion IsNumber (reverse xs)
numbers_reverse [] h = tt
numbers_reverse (x ∷ xs) h = subst (AllByRecursion IsNumber) (sym (reversed_front x xs))
    (all_append IsNumber (reverse xs) (x ∷ []) (numbers_reverse xs h.1) (h.0, tt))

pub arguments_are_numbers : (args under : List Value) → AllByRecursion IsNumber (reverse args ++ under) → AllByRecursion IsNumber args
arguments_are_numbers args under h = subst (AllByRecursion IsNumber) (reverse-reverse args)
    (numbers_reverse (reverse args) (all_front IsNumber (reverse args) under h))

pub zeros_numbers : (types : List ValType) → AllByRecursion IsNumber (zeros types)
zeros_numbers [] = tt
zeros_numbers (type.I32 ∷ types) = (omega arith, zeros_numbers types)
zeros_numbers (type.I64 ∷ types) = (omega arith, zeros_numbers types)

pub value_number : (t : ValType) (n : ℕ) → n < 2 ^ bits t → IsNumber (value t n)
value_number type.I32 n less = less
value_number type.I64 n less = less
