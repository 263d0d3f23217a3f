-- Types, numbers and operators with the same tokens are the same.
use Rattle.c_tree.proofs.Common.{◌≡◌, ℕ, Bool, true, false, List, [], ◌∷◌, ◌++◌, refl, ap, arith, decimal_injective, FitsNum, Fixed, Named}
use Rattle.c_tree.proofs.Common.{Token, num_token, op_token, type_tokens, Tok, COp, CType, Num, N32, N64, Plain}
use Rattle.c_tree.specs.declared.token.Tok.TheVariants as tok
use Rattle.c_tree.specs.declared.tree.CType.TheVariants as type
use Rattle.c_tree.specs.declared.tree.COp.TheVariants as op
use Rattle.c_tree.proofs.SameLists.{NotFirst}

-- ---- numbers

pub same_num : (x y : Num) → FitsNum x → FitsNum y → num_token x ≡ num_token y → x ≡ y
same_num (N32 n) (N32 m) p q e = ap N32 (decimal_injective n m (omega arith) (omega arith) cc)
same_num (N64 n) (N64 m) p q e = ap N64 (decimal_injective n m p q cc)
same_num (Plain n) (Plain m) p q e = ap Plain (decimal_injective n m (omega arith) (omega arith) cc)
same_num _ _ p q e = absurd cc

-- ---- operators

-- the operator of a token
op_of : Token → COp
op_of (Fixed tok.Plus) = op.Add
op_of (Fixed tok.Minus) = op.Sub
op_of (Fixed tok.Star) = op.Mul
op_of (Fixed tok.Slash) = op.Div
op_of (Fixed tok.Percent) = op.Rem
op_of (Fixed tok.Amp) = op.And
op_of (Fixed tok.Bar) = op.Or
op_of (Fixed tok.Caret) = op.Xor
op_of (Fixed tok.ShiftLeft) = op.Shl
op_of (Fixed tok.ShiftRight) = op.Shr
op_of (Fixed tok.Equal) = op.Eq
op_of (Fixed tok.NotEqual) = op.Ne
op_of (Fixed tok.Less) = op.Lt
op_of (Fixed tok.LessEqual) = op.Le
op_of (Fixed tok.Greater) = op.Gt
op_of _ = op.Ge

op_back : (o : COp) → op_of (op_token o) ≡ o
unfolding op_of
op_back op.Add = refl
op_back _ = refl

pub same_op : (x y : COp) → op_token x ≡ op_token y → x ≡ y
same_op x y e = let h = op_back x in let k = op_back y in let l : op_of (op_token x) ≡ op_of (op_token y) = ap op_of e in cc

-- no operator is a bracket in front of an index
pub op_no_bracket : (o : COp) (more : List Token) → NotFirst tok.LeftBracket (op_token o ∷ more)
op_no_bracket op.Add more s e = cc
op_no_bracket _ more s e = cc

-- ---- types

-- the word of a type, and whether a star follows it
abbrev pub word : CType → Tok
word type.Void = tok.WordVoid
word type.U32 = tok.WordU32
word type.U64 = tok.WordU64
word type.PtrU32 = tok.WordU32
word type.PtrU64 = tok.WordU64
word type.Mem = tok.WordW2cMem
word type.PtrMem = tok.WordW2cMem
word type.Tab = tok.WordW2cTab
word type.PtrTab = tok.WordW2cTab
word type.FnPtr = tok.WordW2cFn

is_starred : CType → Bool
is_starred type.PtrU32 = true
is_starred type.PtrU64 = true
is_starred type.PtrMem = true
is_starred type.PtrTab = true
is_starred _ = false

abbrev star : Bool → List Token
star true = Fixed tok.Star ∷ []
star false = []

type_with : Tok → Bool → CType
type_with tok.WordVoid b = type.Void
type_with tok.WordU32 false = type.U32
type_with tok.WordU64 false = type.U64
type_with tok.WordW2cMem false = type.Mem
type_with tok.WordW2cTab false = type.Tab
type_with tok.WordU32 true = type.PtrU32
type_with tok.WordU64 true = type.PtrU64
type_with tok.WordW2cMem true = type.PtrMem
type_with tok.WordW2cTab true = type.PtrTab
type_with _ b = type.FnPtr

type_back : (t : CType) → (type_with (word t) (is_starred t) ≡ t) × (type_tokens t ≡ Fixed (word t) ∷ star (is_starred t))
unfolding type_with is_starred
type_back type.Void = (refl, refl)
type_back _ = (refl, refl)

same_star : (a b : Bool) (r s : List Token) → NotFirst tok.Star r → NotFirst tok.Star s → star a ++ r ≡ star b ++ s → (a ≡ b) × (r ≡ s)
same_star true true r s p q e = (refl, cc)
same_star false false r s p q e = (refl, e)
same_star true false r s p q e = absurd (q r cc)
same_star false true r s p q e = absurd (p s cc)

-- no star follows a type
pub same_type : (x y : CType) (r s : List Token) → NotFirst tok.Star r → NotFirst tok.Star s → type_tokens x ++ r ≡ type_tokens y ++ s
    → (x ≡ y) × (r ≡ s)
same_type x y r s p q e =
    let h = type_back x in
    let k = type_back y in
    let g : Fixed (word x) ∷ (star (is_starred x) ++ r) ≡ Fixed (word y) ∷ (star (is_starred y) ++ s) =
    (let l = ap (λ ts. ts ++ r) h.1 in let m = ap (λ ts. ts ++ s) k.1 in cc) in
    let w : word x ≡ word y = cc in
    let same = same_star (is_starred x) (is_starred y) r s p q cc in
    let back : type_with (word x) (is_starred x) ≡ type_with (word y) (is_starred y) = rw (w, same.0) refl in
    (cc, same.1)

-- ---- what a type begins with

abbrev pub is_word : Tok → Bool
is_word tok.WordVoid = true
is_word tok.WordU32 = true
is_word tok.WordU64 = true
is_word tok.WordW2cMem = true
is_word tok.WordW2cTab = true
is_word tok.WordW2cFn = true
is_word _ = false

word_is : (t : CType) → is_word (word t) ≡ true
word_is type.Void = refl
word_is _ = refl

-- a type begins with no other token
pub type_first : (t : CType) (u : Tok) (r s : List Token) → is_word u ≡ false → type_tokens t ++ r ≡ Fixed u ∷ s → ⊥
type_first t u r s apart e =
    let h = ap (λ ts. ts ++ r) (type_back t).1 in
    let w : word t ≡ u = cc in
    let k = word_is t in
    let l : is_word (word t) ≡ is_word u = ap is_word w in
    cc

pub type_no_name : (t : CType) (n : List ℕ) (r s : List Token) → type_tokens t ++ r ≡ Named n ∷ s → ⊥
type_no_name t n r s e = let h = ap (λ ts. ts ++ r) (type_back t).1 in cc
