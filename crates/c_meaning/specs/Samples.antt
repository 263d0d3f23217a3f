-- Small units, written by hand, that closed cases run.
use Rattle.std.specs.Prelude.{ℕ, true, false, List, [], ◌∷◌, codes, Option, Some, None}
use Rattle.w2c_base.specs.declared.value.ValType.TheVariants as type
use Rattle.w2c_base.specs.declared.value.Value.{Value}
use Rattle.w2c_base.specs.declared.value.Value.TheVariants.{I32}
use Rattle.w2c_base.specs.Run.{Ask, Host, Reply}
use Rattle.c_tree.specs.declared.tree.CType.{CType}
use Rattle.c_tree.specs.declared.tree.CType.TheVariants.{Void, U32, U64, FnPtr}
use Rattle.c_tree.specs.declared.tree.Num.TheVariants.{N32, N64, Plain}
use Rattle.c_tree.specs.declared.tree.COp.TheVariants.{Div, Shl}
use Rattle.c_tree.specs.Tree as tree
use Rattle.c_meaning.specs.State.{Name, CValue, Pointer, Machine}
use Rattle.c_meaning.specs.Linking.{Program, SymbolCall}
use Rattle.c_meaning.specs.Run.{CRun, c_run}

-- an external function of two u32
abbrev pub function : Name → List tree.Local → List tree.Stmt → tree.Item
function name locals stmts = tree.Function (record {
  is_static = false;
  result = U32;
  name = name;
  params = (U32, Some (codes "x")) ∷ (U32, Some (codes "y")) ∷ [];
  body = Some (record { locals = locals; stmts = stmts });
})

abbrev pub symbol : Name
symbol = codes "w2cZ_uZ_fZ_q"

-- u32 w2cZ_uZ_fZ_q(u32 x, u32 y) { u32 z = 0u; z = (x / y); return z; }
abbrev pub division : List tree.Item
division = function symbol
    ((U32, codes "z", N32 0) ∷ [])
    (tree.Set (codes "z") (tree.Value (tree.Op Div (tree.Name (codes "x")) (tree.Name (codes "y"))))
    ∷ tree.Return (tree.Value (tree.Name (codes "z"))) ∷ [])
    ∷ []

-- u32 w2cZ_uZ_fZ_q(u32 x, u32 y) { L: ; return (x << y); }
abbrev pub shift : List tree.Item
shift = function symbol []
    (tree.Label (codes "L")
    ∷ tree.Null
    ∷ tree.Return (tree.Value (tree.Op Shl (tree.Name (codes "x")) (tree.Name (codes "y")))) ∷ [])
    ∷ []

-- static const u8 d[2] = {7, 8}; u32 w2cZ_uZ_fZ_q(u32 x, u32 y) { return (u32) d[x]; }
abbrev pub array_element : List tree.Item
array_element = tree.Array (codes "d") 2 (7 ∷ 8 ∷ [])
    ∷ function symbol [] (tree.Return (tree.Value (tree.To32 (tree.At (codes "d") (tree.Name (codes "x"))))) ∷ [])
    ∷ []

-- static u32 g0; void w2cZ_uZ_i(void) { g0 = 5u; return; } u32 w2cZ_uZ_fZ_q(u32 x, u32 y) { return g0; }
abbrev pub with_init : List tree.Item
with_init = tree.Var U32 (codes "g0") None
    ∷ tree.Function (record {
      is_static = false;
      result = Void;
      name = codes "w2cZ_uZ_i";
      params = (Void, None) ∷ [];
      body = Some (record {
        locals = [];
        stmts = tree.Set (codes "g0") (tree.Value (tree.Number (N32 5))) ∷ tree.ReturnNone ∷ [];
      });
    })
    ∷ function symbol [] (tree.Return (tree.Value (tree.Name (codes "g0"))) ∷ [])
    ∷ []

-- u32 w2cZ_uZ_fZ_q(u32 x, u32 y) { w2c_trap(x); }
abbrev pub trapping : List tree.Item
trapping = function symbol [] (tree.Call None (tree.Called (codes "w2c_trap")) (tree.Value (tree.Name (codes "x")) ∷ []) ∷ []) ∷ []

-- a call through a null pointer, and one through another type
abbrev pub through : Option tree.Stmt → List tree.Item
through set = function symbol
    ((FnPtr, codes "p", Plain 0) ∷ [])
    (elim set [ None ↦ tree.Null | Some s ↦ s ]
    ∷ tree.Call None (tree.Through (record { params = Void ∷ []; result = U64 }) (codes "p")) []
    ∷ tree.Return (tree.Value (tree.Number (N32 0))) ∷ [])
    ∷ []

abbrev pub through_null : List tree.Item
through_null = through None

abbrev pub through_another_type : List tree.Item
through_another_type = through (Some (tree.Set (codes "p") (tree.OfFunction symbol)))

-- u64 w2cZ_envZ_fZ_tick(void); u32 w2cZ_uZ_fZ_q(u32 x, u32 y) { w2cZ_envZ_fZ_tick(); return x; }
abbrev pub host_call : CType → List tree.Item
host_call result = tree.Function (record {
  is_static = false;
  result = result;
  name = codes "w2cZ_envZ_fZ_tick";
  params = (Void, None) ∷ [];
  body = None;
})
    ∷ function symbol []
    (tree.Call None (tree.Called (codes "w2cZ_envZ_fZ_tick")) [] ∷ tree.Return (tree.Value (tree.Name (codes "x"))) ∷ [])
    ∷ []

-- u32 w2cZ_uZ_fZ_q(u32 x, u32 y) with these locals and statements, and a file-scope variable g0 in front
abbrev with_variable : CType → List tree.Local → List tree.Stmt → List tree.Item
with_variable ty locals stmts = tree.Var ty (codes "g0") None ∷ function symbol locals stmts ∷ []

-- z = x; where z is u64
abbrev pub narrow_to_wide : List tree.Item
narrow_to_wide = function symbol
    ((U64, codes "z", N64 0) ∷ [])
    (tree.Set (codes "z") (tree.Value (tree.Name (codes "x"))) ∷ tree.Return (tree.Value (tree.Name (codes "x"))) ∷ [])
    ∷ []

-- g0 = x; return x;
abbrev pub sets_variable : CType → List tree.Item
sets_variable ty = with_variable ty []
    (tree.Set (codes "g0") (tree.Value (tree.Name (codes "x"))) ∷ tree.Return (tree.Value (tree.Name (codes "x"))) ∷ [])

-- p = &g0; *p = x; return *p;
abbrev pub sets_pointed : CType → CType → List tree.Item
sets_pointed ty pointer = with_variable ty
    ((pointer, codes "p", Plain 0) ∷ [])
    (tree.Set (codes "p") (tree.Address (codes "g0"))
    ∷ tree.SetStar (codes "p") (tree.Name (codes "x"))
    ∷ tree.Return (tree.Value (tree.Star (codes "p"))) ∷ [])

-- return 7ull; and return; though the result is u32
abbrev pub returns_wide : List tree.Item
returns_wide = function symbol [] (tree.Return (tree.Value (tree.Number (N64 7))) ∷ []) ∷ []

abbrev pub returns_none : List tree.Item
returns_none = function symbol [] (tree.ReturnNone ∷ []) ∷ []

-- a static function and one for other units of the same name, which no rule allows
abbrev pub defined_both_ways : List tree.Item
defined_both_ways = tree.Function (record {
  is_static = true;
  result = Void;
  name = symbol;
  params = (Void, None) ∷ [];
  body = Some (record { locals = []; stmts = tree.ReturnNone ∷ [] });
})
    ∷ division

abbrev pub tick : Ask
tick = record { host = 0; function = 0; args = [] }

abbrev pub env : Host
env = record {
  name = codes "env";
  functions = record { name = codes "tick"; ty = record { params = []; result = Some type.I64 } } ∷ [];
}

abbrev pub alone : List tree.Item → Program
alone unit = record { units = unit ∷ []; hosts = env ∷ [] }

abbrev pub call_with : Value → Value → SymbolCall
call_with x y = record { symbol = symbol; args = x ∷ y ∷ [] }

abbrev pub run_alone : List tree.Item → ℕ → ℕ → ℕ → List Reply → CRun
run_alone unit x y statements replies = c_run (alone unit) (call_with (I32 x) (I32 y) ∷ []) statements replies

-- a machine of one unit with a made memory of three bytes and a made table of one empty element
abbrev pub machine : Machine
machine = record {
  depth = 0;
  units = record {
    vars = [];
    memories = (codes "m0", record { is_made = true; bytes = 1 ∷ 2 ∷ 3 ∷ []; max = 1 }) ∷ [];
    tables = (codes "t0", record { is_made = true; elements = None ∷ []; max = 1 }) ∷ [];
  } ∷ [];
  trail = record { replies = []; events = [] };
}

abbrev pub pointer : List ℕ → CValue
pointer name = Pointer (Some (record { unit = 0; name = name }))
