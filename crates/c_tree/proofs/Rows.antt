-- The definitions at worked texts.
use Rattle.c_tree.proofs.Common.{false, [], ◌∷◌, Some, codes, refl, lit<, decimal_digit, here, opened, taken, CSpells, CUpto, N32}
use Rattle.c_tree.specs.declared.token.Part.TheVariants as part
use Rattle.c_tree.specs.declared.token.Tok.TheVariants as tok
use Rattle.c_tree.specs.declared.token.Wanted.TheVariants as wanted
use Rattle.c_tree.specs.declared.token.CReadFault.TheVariants.{Unexpected, NumberTooLarge}
use Rattle.c_tree.specs.declared.tree.CType.TheVariants as type
use Rattle.c_tree.specs.declared.tree.COp.TheVariants as op
use Rattle.c_tree.specs.Tree as tree

-- u32 q(u32 x, u32 y) { u32 z = 0u; z = (x / y); return z; }
division : tree.Item
division = tree.Function (record {
  is_static = false;
  result = type.U32;
  name = codes "q";
  params = (type.U32, Some (codes "x")) ∷ (type.U32, Some (codes "y")) ∷ [];
  body = Some (record {
    locals = (type.U32, codes "z", N32 0) ∷ [];
    stmts = tree.Set (codes "z") (tree.Value (tree.Op op.Div (tree.Name (codes "x")) (tree.Name (codes "y"))))
        ∷ tree.Return (tree.Value (tree.Name (codes "z"))) ∷ [];
  });
})

-- with a comment, and blanks only where words would run together
division_in_c : CSpells (division ∷ []) (codes "#include \"w2c_rt.h\"\nu32 q(u32 x,u32 y)/* x / y */{u32 z=0u;z=(x/y);return z;}")
unfolding division
division_in_c = record { in_order = rw (decimal_digit 0 (lit< tt)) refl; fits = ((lit< tt, ((lit< tt, tt), ((tt, tt), (tt, tt)))), tt) }

float_in_c : CUpto (codes "#include \"w2c_rt.h\"\nfloat x;") (Unexpected 20 (wanted.Part part.InItem))
float_in_c = opened refl (taken refl (opened refl (here refl)))

-- no include line, and an end that comes too soon
comment_first : CUpto (codes "/* */ u32 x;") (Unexpected 6 (wanted.Token tok.Include))
comment_first = opened refl (here refl)

cut_off : CUpto (codes "#include \"w2c_rt.h\"\nstatic u32 g0") (Unexpected 33 (wanted.Part part.InRest))
cut_off =
    opened refl
    (taken refl (opened refl (opened refl (taken refl (opened refl (opened refl (taken refl (opened refl (taken refl (here refl))))))))))

too_large : CUpto (codes "#include \"w2c_rt.h\"\nstatic u32 g0 = 4294967296u;") (NumberTooLarge 36)
too_large =
    opened refl
    (taken refl
    (opened refl
    (opened refl
    (taken refl (opened refl (opened refl (taken refl (opened refl (taken refl (opened refl (taken refl (opened refl (here refl)))))))))))))
