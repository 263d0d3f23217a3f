-- Reading types (C11, 6.7.2), and lists of them.
use Rattle.std.specs.Prelude.{List}
use Rattle.c_tree.specs.declared.token.Tok.TheVariants as tok
use Rattle.c_tree.specs.declared.token.Part.TheVariants as part
use Rattle.c_tree.specs.declared.token.Kind.{Kind}
use Rattle.c_tree.specs.declared.token.Kind.TheVariants as kind
use Rattle.c_tree.specs.declared.tree.CType.{CType}
use Rattle.c_tree.specs.declared.tree.CType.TheVariants as type
use Rattle.c_lex.specs.Reading.{Parser, ◌>>=◌, ◌>>◌, pure, peek, refuse, expect}
use Rattle.c_read.specs.Lists.{behind_comma, and_more}

-- a type, or a pointer to it where a star follows
abbrev pub star_by : CType → CType → Kind → Parser CType
star_by itself pointer (kind.Fixed tok.Star) = expect tok.Star >> pure pointer
star_by itself pointer _ = pure itself

unfoldable pub star : CType → CType → Parser CType
star itself pointer = peek >>= star_by itself pointer

abbrev pub ctype_by : Kind → Parser CType
ctype_by (kind.Fixed tok.WordVoid) = expect tok.WordVoid >> pure type.Void
ctype_by (kind.Fixed tok.WordU32) = expect tok.WordU32 >> star type.U32 type.PtrU32
ctype_by (kind.Fixed tok.WordU64) = expect tok.WordU64 >> star type.U64 type.PtrU64
ctype_by (kind.Fixed tok.WordW2cMem) = expect tok.WordW2cMem >> star type.Mem type.PtrMem
ctype_by (kind.Fixed tok.WordW2cTab) = expect tok.WordW2cTab >> star type.Tab type.PtrTab
ctype_by (kind.Fixed tok.WordW2cFn) = expect tok.WordW2cFn >> pure type.FnPtr
ctype_by _ = refuse part.InType

unfoldable pub ctype : Parser CType
ctype = peek >>= ctype_by

unfoldable pub next_type : Parser CType
next_type = behind_comma ctype

unfoldable pub more_types : CType → Parser (List CType)
more_types t = and_more next_type t

unfoldable pub types : Parser (List CType)
types = ctype >>= more_types
