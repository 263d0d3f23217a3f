-- That the functions of bodies keep the rules of C, and are formed.
use Rattle.std.specs.Prelude.{◌≡◌, ℕ, ◌≤◌, true, List, [], ◌∷◌, ◌++◌, map, length, slice_get, Some}
use Rattle.w2c_base.specs.declared.signature.FuncType.{FuncType}
use Rattle.wasm_tree.specs.declared.entries.BodyEntry.{BodyEntry}
use Rattle.wasm_tree.specs.NamedModule.{NamedModule}
use Rattle.wasm_typing.specs.Context.{context_of}
use Rattle.wasm_typing.specs.Typing.{BodyHasType}
use Rattle.c_tree.specs.Tree as tree
use Rattle.c_tree.specs.Scope.{name_of}
use Rattle.c_tree.specs.Spelled.{FitsItem, depth_limit}
use Rattle.c_tree.specs.WellFormed.{IsName, NamedItem}
use Rattle.c_tree.specs.Rules.{is_declared_once}
use Rattle.c_tree.specs.FirstBroken.{broken_in_item}
use Rattle.c_symbols.specs.FewParams.{HaveFewParams}
use Rattle.body_definition.specs.Limits.{BodyHasLimits}
use Rattle.body_definition.specs.Body.{func_of}
use Rattle.c_tree.specs.NameClasses.{NoneOf}
use Rattle.body_rules.specs.Declared.{FileKnows, NamedItems}

-- a body of the module that is typed for this type of function, and within the limits
pub record IsTypedBody (m : NamedModule) (ty : FuncType) (body : BodyEntry) : Type 0 where
  pub place : ℕ
  pub listed : slice_get m.tree.bodies place ≡ Some body
  pub few_params : length ty.params ≤ 60
  pub typed : BodyHasType (context_of m.tree ty body) body.code
  pub within : BodyHasLimits body

-- the function as an item of its unit
abbrev pub item_of : NamedModule → ℕ → FuncType → BodyEntry → tree.Item
item_of m index ty body = tree.Function (func_of m index ty body)

-- Between other items the function of a typed body breaks no rule: where what the bodies use is declared up to it, it is declared once,
-- and no item has a name of the class of bodies' own variables.
abbrev pub BodiesKeepTheRules : Type 0
BodiesKeepTheRules =
    (m : NamedModule) (index : ℕ) (ty : FuncType) (body : BodyEntry) (front back : List tree.Item) → IsTypedBody m ty body
    → FileKnows m (front ++ item_of m index ty body ∷ [])
    → is_declared_once (record {
      unit = front ++ item_of m index ty body ∷ back;
      number = length front;
      item = item_of m index ty body;
    }) ≡ true
    → NoneOf 9 (map name_of (front ++ item_of m index ty body ∷ back))
    → broken_in_item (front ++ item_of m index ty body ∷ back) (length front, item_of m index ty body) ≡ []

-- Some text spells the function of a typed body, where what the bodies use is declared under names that texts can spell: all its names
-- are names, its numbers are within their types, and no expression is too deep.
abbrev pub BodiesAreFormed : Type 0
BodiesAreFormed =
    (m : NamedModule) (index : ℕ) (ty : FuncType) (body : BodyEntry) (declared : List tree.Item) → IsTypedBody m ty body
    → HaveFewParams m.tree → FileKnows m declared → NamedItems declared → IsName (func_of m index ty body).name
    → NamedItem (item_of m index ty body) × FitsItem depth_limit (item_of m index ty body)
