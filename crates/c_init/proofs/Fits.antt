-- What validity says of a module by itself: its expressions have shapes that fit their types.
use Rattle.c_init.proofs.Common.{◌≡◌, false, not, refl, equal_type, ValType, Shape, constant, got, got_unknown, has_other_type}
use Rattle.c_init.proofs.Common.{is_got_unknown, is_no_constant, neither}
use Rattle.w2c_base.specs.declared.value.ValType.TheVariants as type
use Rattle.c_init.specs.Fitting.{ShapeFits}

pub same_type : (t ty : ValType) → not (equal_type t ty) ≡ false → t ≡ ty
same_type type.I32 type.I32 e = refl
same_type type.I64 type.I64 e = refl
same_type type.I32 type.I64 e = absurd cc
same_type type.I64 type.I32 e = absurd cc

pub fits_of : (ty : ValType) (shape : Shape) → is_no_constant shape ≡ false → is_got_unknown shape ≡ false → has_other_type ty shape ≡ false
    → ShapeFits ty shape
fits_of ty (constant t) a b e = same_type t ty e
fits_of ty (got t mutable) a b e = (same_type t ty e, a)
fits_of ty got_unknown a b e = absurd cc
fits_of ty neither a b e = absurd cc
