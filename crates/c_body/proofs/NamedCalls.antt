-- A call by a name that may be called, or nothing in its place.
use Rattle.c_body.proofs.Common.{◌≡◌, length, drop, Some, None, Option, refl, FuncType, Stack, Name, call_named, Made, put, put_each}
use Rattle.c_body.specs.Calls.{named_call}

pub put_call : (name : Option Name) (ty : FuncType) (types : Stack) (m : Made)
    → put_each (call_named name ty types) m ≡ put (named_call name ty (length (drop (length ty.params) types))) m
put_call None ty types m = refl
put_call (Some name) ty types m = refl
