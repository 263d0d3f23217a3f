-- Types that are equal by the test for it are equal, and the test holds of a type and itself.
use Rattle.c_tree.proofs.Common.{◌≡◌, true, ◌&&◌, List, [], ◌∷◌, refl, ap, ◌∙◌, CType}
use Rattle.std.proofs.lemmas.Bool.{and_parts, false≢true}
use Rattle.c_tree.specs.declared.tree.CType.TheVariants as type
use Rattle.c_tree.specs.Runtime.{same_func_type, same_type, same_types}
use Rattle.c_tree.specs.Tree as tree

pub type_same : (t u : CType) → same_type t u ≡ true → t ≡ u
type_same type.Void type.Void e = refl
type_same type.U32 type.U32 e = refl
type_same type.U64 type.U64 e = refl
type_same type.PtrU32 type.PtrU32 e = refl
type_same type.PtrU64 type.PtrU64 e = refl
type_same type.Mem type.Mem e = refl
type_same type.PtrMem type.PtrMem e = refl
type_same type.Tab type.Tab e = refl
type_same type.PtrTab type.PtrTab e = refl
type_same type.FnPtr type.FnPtr e = refl
type_same _ _ e = absurd (false≢true e)

pub types_same : (ts us : List CType) → same_types ts us ≡ true → ts ≡ us
types_same [] [] e = refl
types_same (t ∷ ts) (u ∷ us) e =
    let h = and_parts (same_type t u) (same_types ts us) e in
    ap (λ x. x ∷ ts) (type_same t u h.0) ∙ ap (λ xs. u ∷ xs) (types_same ts us h.1)
types_same [] (u ∷ us) e = absurd (false≢true e)
types_same (t ∷ ts) [] e = absurd (false≢true e)

pub func_types_same : (f g : tree.FuncType) → same_func_type f g ≡ true → f ≡ g
func_types_same f g e =
    let h = and_parts (same_types f.params g.params) (same_type f.result g.result) e in
    rw (types_same f.params g.params h.0, type_same f.result g.result h.1) refl

-- ---- of one and itself

pub same_as_itself : (t : CType) → same_type t t ≡ true
same_as_itself type.Void = refl
same_as_itself _ = refl

pub same_as_themselves : (ts : List CType) → same_types ts ts ≡ true
same_as_themselves [] = refl
same_as_themselves (t ∷ ts) = ap (λ b. b && same_types ts ts) (same_as_itself t) ∙ same_as_themselves ts

pub same_c_func_type : (f : tree.FuncType) → same_func_type f f ≡ true
same_c_func_type f = ap (λ b. b && same_type f.result f.result) (same_as_themselves f.params) ∙ same_as_itself f.result
