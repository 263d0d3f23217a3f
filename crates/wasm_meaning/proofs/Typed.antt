-- Values that go where a value of their type is wanted.
use Rattle.wasm_meaning.proofs.Common.{◌≡◌, Some, refl, type_of, ValType, Value, Done, of_one_type, of_type}
use Rattle.w2c_base.proofs.Types.{equal_type_of_same}

pub of_its_type : {A : Type 0} (t : ValType) (v : Value) (a : A) → t ≡ type_of v → of_type t v a ≡ Some a
of_its_type t v a e = rw (equal_type_of_same t (type_of v) e) refl

pub of_the_same_type : (v w : Value) (does : Done) → type_of v ≡ type_of w → of_one_type v w does ≡ does
of_the_same_type v w does e = rw (equal_type_of_same (type_of v) (type_of w) e) refl
