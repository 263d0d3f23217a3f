-- What stands for a part of a statement is read as this part again, whatever follows.
use Rattle.packed_stmts.proofs.Common.{◌≡◌, ℕ, zero, suc, ◌<◌, ◌≤◌, Bool, true, false, List, [], ◌∷◌, ◌++◌, length, Some, None, Option}
use Rattle.packed_stmts.proofs.Common.{refl, ap, arith}
use Rattle.std.proofs.Common.{append_assoc, length-append, ltb}
use Rattle.std.specs.Prelude.{◌/◌, ◌%◌, flat_map}
use Rattle.std.proofs.lemmas.Bool.{le-ltb}
use Rattle.std.proofs.lemmas.List.{take_at, drop_at}
use Rattle.c_tree.specs.declared.tree.CType.{CType}
use Rattle.c_tree.specs.declared.tree.CType.TheVariants as type
use Rattle.c_tree.specs.declared.tree.COp.{COp}
use Rattle.c_tree.specs.declared.tree.COp.TheVariants as op
use Rattle.c_tree.specs.declared.tree.Num.{Num}
use Rattle.c_tree.specs.declared.tree.Num.TheVariants.{N32, N64, Plain}
use Rattle.c_tree.specs.Tree as tree
use Rattle.packed_stmts.specs.Packed.{word, long, narrow, size_code, word_code, list_code, name_code, target_code, num_code, op_code}
use Rattle.packed_stmts.specs.Packed.{expr_code, arg_code, one_type_code, func_type_code, callee_code, case_code}
use Rattle.packed_stmts.specs.Unpacked.{Reading, ◌>>=◌, byte_at, narrow_by, word_at, long_at, size_at, word_code_at, piece_at, name_at}
use Rattle.packed_stmts.specs.Unpacked.{times_at, list_at, target_at, num_at, type_of, type_at, op_of, op_at, expr_kind, expr_of_parts}
use Rattle.packed_stmts.specs.Unpacked.{expr_in, expr_at, arg_at, func_type_at, callee_at, case_at}

-- ---- numbers

word_again : (n : ℕ) (rest : List ℕ) → word_at (word n ++ rest) ≡ (n, rest)
unfolding word word_at
word_again n rest = ap (λ (k : ℕ). (k, rest)) (omega arith)

long_again : (n : ℕ) (rest : List ℕ) → long_at (long n ++ rest) ≡ (n, rest)
unfolding long long_at
long_again n rest =
    rw (
      append_assoc (word (n % 4294967296)) (word (n / 4294967296)) rest,
      word_again (n % 4294967296) (word (n / 4294967296) ++ rest),
      word_again (n / 4294967296) rest,
    ) (ap (λ (k : ℕ). (k, rest)) (omega arith))

narrow_again : (wide : ℕ → List ℕ) (read : Reading ℕ) → ((n : ℕ) (rest : List ℕ) → read (wide n ++ rest) ≡ (n, rest))
    → (n : ℕ) (rest : List ℕ)
    → (byte_at >>= narrow_by read) (narrow wide n ++ rest) ≡ (n, rest)
unfolding narrow
narrow_again wide read again n rest = by_test (ltb n 255) refl
  where
    by_test : (b : Bool) → ltb n 255 ≡ b → (byte_at >>= narrow_by read) (narrow wide n ++ rest) ≡ (n, rest)
    by_test true e = rw (e, e) refl
    by_test false e = rw e (again n rest)

size_again : (n : ℕ) (rest : List ℕ) → size_at (size_code n ++ rest) ≡ (n, rest)
unfolding size_at size_code
size_again n rest = narrow_again long long_at long_again n rest

word_code_again : (n : ℕ) (rest : List ℕ) → word_code_at (word_code n ++ rest) ≡ (n, rest)
unfolding word_code_at word_code
word_code_again n rest = narrow_again word word_at word_again n rest

-- ---- pieces

piece_again : (name rest : List ℕ) → piece_at (length name) (name ++ rest) ≡ (name, rest)
piece_again name rest =
    let long : ltb (length (name ++ rest)) (length name) ≡ false = le-ltb _ _ (omega (arith, length-append name rest)) in
    rw (long, take_at name rest (length name) refl, drop_at name rest (length name) refl) refl

pub name_again : (name rest : List ℕ) → name_at (name_code name ++ rest) ≡ (name, rest)
unfolding name_at name_code
name_again name rest =
    rw (append_assoc (size_code (length name)) name rest, size_again (length name) (name ++ rest)) (piece_again name rest)

times_again : {A : Type 0} (code : A → List ℕ) (read : Reading A) → ((x : A) (rest : List ℕ) → read (code x ++ rest) ≡ (x, rest))
    → (xs : List A) (rest : List ℕ)
    → times_at read (length xs) (flat_map code xs ++ rest) ≡ (xs, rest)
times_again code read again [] rest = refl
times_again code read again (x ∷ xs) rest =
    rw (append_assoc (code x) (flat_map code xs) rest, again x (flat_map code xs ++ rest), times_again code read again xs rest) refl

pub list_again : {A : Type 0} (code : A → List ℕ) (read : Reading A) → ((x : A) (rest : List ℕ) → read (code x ++ rest) ≡ (x, rest))
    → (xs : List A) (rest : List ℕ)
    → list_at read (list_code code xs ++ rest) ≡ (xs, rest)
list_again code read again xs rest =
    rw (append_assoc (size_code (length xs)) (flat_map code xs) rest, size_again (length xs) (flat_map code xs ++ rest))
    (times_again code read again xs rest)

pub target_again : (target : Option (List ℕ)) (rest : List ℕ) → target_at (target_code target ++ rest) ≡ (target, rest)
unfolding target_at
target_again None rest = refl
target_again (Some n) rest = rw (name_again n rest) refl

num_again : (n : Num) (rest : List ℕ) → num_at (num_code n ++ rest) ≡ (n, rest)
unfolding num_at
num_again (N32 n) rest = rw (word_code_again n rest) refl
num_again (N64 n) rest = rw (size_again n rest) refl
num_again (Plain n) rest = rw (size_again n rest) refl

type_again : (t : CType) (rest : List ℕ) → type_at (one_type_code t ++ rest) ≡ (t, rest)
unfolding type_at type_of
type_again type.Void rest = refl
type_again type.U32 rest = refl
type_again type.U64 rest = refl
type_again type.PtrU32 rest = refl
type_again type.PtrU64 rest = refl
type_again type.Mem rest = refl
type_again type.PtrMem rest = refl
type_again type.Tab rest = refl
type_again type.PtrTab rest = refl
type_again type.FnPtr rest = refl

pub op_again : (o : COp) (rest : List ℕ) → op_at (op_code o ∷ rest) ≡ (o, rest)
unfolding op_at op_of
op_again op.Add rest = refl
op_again op.Sub rest = refl
op_again op.Mul rest = refl
op_again op.Div rest = refl
op_again op.Rem rest = refl
op_again op.And rest = refl
op_again op.Or rest = refl
op_again op.Xor rest = refl
op_again op.Shl rest = refl
op_again op.Shr rest = refl
op_again op.Eq rest = refl
op_again op.Ne rest = refl
op_again op.Lt rest = refl
op_again op.Le rest = refl
op_again op.Gt rest = refl
op_again op.Ge rest = refl

-- ---- expressions, arguments, callees

some_bytes : (e : tree.Expr) → 0 < length (expr_code e)
some_bytes (tree.Name n) = omega arith
some_bytes (tree.At n i) = omega arith
some_bytes (tree.Number n) = omega arith
some_bytes (tree.To32 e) = omega arith
some_bytes (tree.To64 e) = omega arith
some_bytes (tree.Star n) = omega arith
some_bytes (tree.Op o a b) = omega arith

expr_in_again : (room : ℕ) (e : tree.Expr) (rest : List ℕ) → length (expr_code e) ≤ room → expr_in room (expr_code e ++ rest) ≡ (e, rest)
unfolding expr_in expr_of_parts expr_kind
expr_in_again zero e rest h = absurd (omega (arith, some_bytes e, h))
expr_in_again (suc room) (tree.Name n) rest h = rw (name_again n rest) refl
expr_in_again (suc room) (tree.At n i) rest h =
    rw (
      append_assoc (name_code n) (expr_code i) rest,
      name_again n (expr_code i ++ rest),
      expr_in_again room i rest (omega (arith, length-append (name_code n) (expr_code i), h)),
    ) refl
expr_in_again (suc room) (tree.Number n) rest h = rw (num_again n rest) refl
expr_in_again (suc room) (tree.To32 e) rest h = rw (expr_in_again room e rest (omega (arith, h))) refl
expr_in_again (suc room) (tree.To64 e) rest h = rw (expr_in_again room e rest (omega (arith, h))) refl
expr_in_again (suc room) (tree.Star n) rest h = rw (name_again n rest) refl
expr_in_again (suc room) (tree.Op o a b) rest h =
    rw (
      op_again o ((expr_code a ++ expr_code b) ++ rest),
      append_assoc (expr_code a) (expr_code b) rest,
      expr_in_again room a (expr_code b ++ rest) (omega (arith, length-append (expr_code a) (expr_code b), h)),
      expr_in_again room b rest (omega (arith, length-append (expr_code a) (expr_code b), h)),
    ) refl

pub expr_again : (e : tree.Expr) (rest : List ℕ) → expr_at (expr_code e ++ rest) ≡ (e, rest)
unfolding expr_at
expr_again e rest = expr_in_again (length (expr_code e ++ rest)) e rest (omega (arith, length-append (expr_code e) rest))

pub arg_again : (a : tree.Arg) (rest : List ℕ) → arg_at (arg_code a ++ rest) ≡ (a, rest)
unfolding arg_at
arg_again (tree.Value e) rest = rw (expr_again e rest) refl
arg_again (tree.Address n) rest = rw (name_again n rest) refl
arg_again (tree.OfFunction n) rest = rw (name_again n rest) refl

func_type_again : (t : tree.FuncType) (rest : List ℕ) → func_type_at (func_type_code t ++ rest) ≡ (t, rest)
unfolding func_type_at
func_type_again t rest =
    rw (type_again t.result (list_code one_type_code t.params ++ rest), list_again one_type_code type_at type_again t.params rest) refl

pub callee_again : (f : tree.Callee) (rest : List ℕ) → callee_at (callee_code f ++ rest) ≡ (f, rest)
unfolding callee_at
callee_again (tree.Called n) rest = rw (name_again n rest) refl
callee_again (tree.Through t n) rest =
    rw (append_assoc (func_type_code t) (name_code n) rest, func_type_again t (name_code n ++ rest), name_again n rest) refl

pub case_again : (c : tree.Case) (rest : List ℕ) → case_at (case_code c ++ rest) ≡ (c, rest)
unfolding case_at
case_again (n, label) rest =
    rw (append_assoc (num_code n) (name_code label) rest, num_again n (name_code label ++ rest), name_again label rest) refl
