use Rattle.unit_rules.proofs.Common.{◌≡◌, ℕ, true, false, List, [], ◌∷◌, Some, None, codes, Contains, Option, sym, refl, ap, ◌∙◌, inr}
use Rattle.unit_rules.proofs.Common.{arith, AllByRecursion, of_contained, Name, is_among, CType, Definition, declared_names, defined_names}
use Rattle.unit_rules.proofs.Common.{module_objects, own_symbols, unit_objects, none-some, false≢true}
use Rattle.std.specs.Fmt.{digits}
use Rattle.c_tree.specs.declared.tree.CType.TheVariants as c_type
use Rattle.c_tree.specs.Tree as tree
use Rattle.unit_rules.specs.Misshapen as misshapen
use Rattle.unit_rules.proofs.KnownFuncs.{self_among}
use Rattle.unit_rules.proofs.cases.shape_cases.Goals as goal

-- ---- what a list has not

absent : (name : Name) (names : List Name) → is_among name names ≡ false → Contains names name → ⊥
absent name names none there =
    false≢true (sym none ∙ of_contained (λ (n : Name). is_among n names ≡ true) names name (self_among names) there)

-- an object whose name is none of those that objects have
no_object : (names : List Name) (x : CType × Name) (xs : List (CType × Name)) → is_among x.1 names ≡ false
    → AllByRecursion (λ (o : CType × Name). is_among o.1 names ≡ true) xs → Contains xs x → ⊥
no_object names x xs none all there = false≢true (sym none ∙ of_contained (λ (o : CType × Name). is_among o.1 names ≡ true) xs x all there)

-- ---- what a function gives

void_is_u32 : c_type.Void ≡ c_type.U32 → ⊥
void_is_u32 e = absurd cc

abbrev result_of : Option tree.FuncType → CType
result_of None = c_type.Void
result_of (Some ty) = ty.result

abbrev defined_result : Option Definition → CType
defined_result None = c_type.Void
defined_result (Some d) = d.func.result

abbrev arg_object : tree.Arg → Name
arg_object (tree.Value e) = []
arg_object (tree.Address name) = name
arg_object (tree.OfFunction name) = []

abbrev stmt_object : tree.Stmt → Name
stmt_object (tree.Return arg) = arg_object arg
stmt_object _ = []

abbrev stmts_object : List tree.Stmt → Name
stmts_object [] = []
stmts_object (stmt ∷ stmts) = stmt_object stmt

abbrev body_object : Option tree.Body → Name
body_object None = []
body_object (Some body) = stmts_object body.stmts

abbrev defined_object : Option Definition → Name
defined_object None = []
defined_object (Some d) = body_object d.func.body

abbrev first_byte : Name → ℕ
first_byte [] = 0
first_byte (b ∷ bytes) = b

-- ---- the cases

abbrev import_symbol : Name
import_symbol = codes "w2cZ_aZ_fZ_f"

abbrev export_symbol : Name
export_symbol = codes "w2cZ_sZ_fZ_g"

pub returns-clause-defines_its_import : goal.returns-clause-defines_its_import
unfolding digits
returns-clause-defines_its_import c s =
    absent import_symbol (own_symbols misshapen.shaped) refl ((s.defines import_symbol).0 (0, omega arith, refl))

pub returns-clause-without_export : goal.returns-clause-without_export
unfolding digits
returns-clause-without_export c s =
    absent export_symbol (defined_names misshapen.without_export) refl ((s.defines export_symbol).1 (1, omega arith, refl))

pub returns-clause-without_import : goal.returns-clause-without_import
unfolding digits
returns-clause-without_import c s =
    absent import_symbol (declared_names misshapen.without_import) refl ((s.declares import_symbol).1 (inr (0, omega arith, refl)))

pub returns-clause-import_of_another_type : goal.returns-clause-import_of_another_type
unfolding digits
returns-clause-import_of_another_type c s =
    void_is_u32 (ap result_of (s.declared_types (misshapen.imported c_type.U32) (0, omega arith, refl) refl))

pub returns-clause-without_function : goal.returns-clause-without_function
unfolding digits
returns-clause-without_function c s = let f = s.functions 1 (record { behind = omega arith; within = omega arith }) in none-some f.0 f.1

pub returns-clause-without_memory : goal.returns-clause-without_memory
unfolding digits
returns-clause-without_memory c s =
    no_object (codes "t0" ∷ []) (c_type.Mem, codes "m0") (unit_objects misshapen.without_memory) refl (refl, tt)
    ((s.objects (c_type.Mem, codes "m0")).1 (1, omega arith, refl))

pub returns-clause-one_global_more : goal.returns-clause-one_global_more
unfolding digits
returns-clause-one_global_more c s =
    no_object (codes "t0" ∷ codes "m0" ∷ []) (c_type.U32, codes "g0") (module_objects misshapen.shaped.tree) refl (refl, (refl, tt))
    ((s.objects (c_type.U32, codes "g0")).0 (0, omega arith, refl))

pub returns-clause-export_of_another_type : goal.returns-clause-export_of_another_type
unfolding digits
returns-clause-export_of_another_type c s =
    let x = s.exports.0 in
    void_is_u32 (sym (ap defined_result x.there ∙ ap (λ (ty : tree.FuncType). ty.result) x.typed))

pub returns-clause-memory_gives_the_table : goal.returns-clause-memory_gives_the_table
unfolding digits
returns-clause-memory_gives_the_table c s =
    let x = s.accessors.1.0 in
    let e : 116 ≡ 109 = ap first_byte (ap defined_object x.1 ∙ ap body_object x.2) in
    absurd (omega (arith, e))

pub returns-clause-init_of_another_type : goal.returns-clause-init_of_another_type
unfolding digits
returns-clause-init_of_another_type c s =
    void_is_u32 (sym (ap defined_result s.init.there ∙ ap (λ (ty : tree.FuncType). ty.result) s.init.typed))
