-- Values that go where a value of their type is held or wanted.
use Rattle.c_meaning.proofs.Common.{◌≡◌, true, List, [], ◌∷◌, map, Some, Option, refl, ap, ◌∙◌, type_of, types_of, Value, I32, I64}
use Rattle.c_meaning.proofs.Common.{c_result_of, c_type_of, of_type, CValue, Machine, Number, of_one_type, Step, are_of_types, is_returned}
use Rattle.c_meaning.proofs.Common.{put_in}
use Rattle.w2c_base.proofs.Types.{equal_type_of_same}

pub numbers_of_one_type : (v w : Value) → type_of v ≡ type_of w → of_one_type (Number v) (Number w) ≡ true
numbers_of_one_type v w e = equal_type_of_same (type_of v) (type_of w) e

pub put_where_held : (m : Machine) (held : Option CValue) (old v : CValue) (does : Step) → held ≡ Some old → of_one_type old v ≡ true
    → put_in m held v does ≡ does
put_where_held m held old v does is same = ap (λ h. put_in m h v does) is ∙ rw same refl

-- where a number of the same type is held
pub put_number : (m : Machine) (held : Option CValue) (old v : Value) (does : Step) → held ≡ Some (Number old) → type_of old ≡ type_of v
    → put_in m held (Number v) does ≡ does
put_number m held old v does is same = put_where_held m held (Number old) (Number v) does is (numbers_of_one_type old v same)

pub number_of_its_type : (v : Value) → of_type (c_type_of (type_of v)) (Number v) ≡ true
number_of_its_type (I32 n) = refl
number_of_its_type (I64 n) = refl

pub numbers_of_their_types : (args : List Value) → are_of_types (map c_type_of (types_of args)) (map Number args) ≡ true
numbers_of_their_types [] = refl
numbers_of_their_types (v ∷ args) = rw (number_of_its_type v) (numbers_of_their_types args)

pub number_is_returned : (v : Value) → is_returned (c_result_of (Some (type_of v))) (Some (Number v)) ≡ true
number_is_returned v = number_of_its_type v
