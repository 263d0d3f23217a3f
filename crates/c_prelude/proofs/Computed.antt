-- Calls whose statements compute.
use Rattle.c_prelude.proofs.Common.{◌≡◌, ℕ, ◌≤◌, List, [], ◌∷◌, Some, ap, ◌∙◌, ValType, walk, walk_reaches, Program, Going, Pending}
use Rattle.c_prelude.proofs.Common.{Progress, CValue, Frame, Machine, CallComesBetween, CallComesTo, CallEnd, call_begun, call_ended}
use Rattle.c_prelude.proofs.Common.{c_type_of, number_helper, number_stmts, number, Form}
use Rattle.c_tree.specs.Tree as tree
use Rattle.c_prelude.proofs.Widths.{operands}

-- so many statements lead from the beginning of the call to its end
abbrev pub Walks : ℕ → tree.Func → List CValue → Machine → CallEnd → Type 0
Walks n f args m end = (p : Program) (pending : Pending) (unit item : ℕ) (below : List Frame)
    → walk p n (Some (call_begun p pending unit item f m args below)) ≡ Some (call_ended p pending end below)

-- the beginning of a call of a helper of two operands and no local variables
abbrev pub begun_with : Form → ValType → Pending → Machine → ℕ → ℕ → List Frame → ℕ → ℕ → Progress
begun_with f t pending m unit item below x y = Going pending (record {
  machine = m;
  running = record {
    unit = unit;
    item = item;
    result = c_type_of t;
    stmts = number_stmts (record { ty = t; form = f });
    rest = number_stmts (record { ty = t; form = f });
    vars = operands t x y;
  };
  below = below;
})

-- a call of it begins so
abbrev pub BeginsWith : Form → ValType → Machine → ℕ → ℕ → Type 0
BeginsWith f t m x y = (p : Program) (pending : Pending) (unit item : ℕ) (below : List Frame)
    → call_begun p pending unit item (number_helper (record { ty = t; form = f })) m (number t x ∷ number t y ∷ []) below
    ≡ begun_with f t pending m unit item below x y

pub computed : {most : ℕ} {f : tree.Func} {args : List CValue} {m : Machine} {end : CallEnd} (n : ℕ) → n ≤ most → Walks n f args m end
    → CallComesTo most f args m end
computed n few walks = record {
  statements = n;
  few = few;
  way = λ p pending unit item below. walk_reaches p n _ _ (walks p pending unit item below);
}

pub computed_between : {least most : ℕ} {f : tree.Func} {args : List CValue} {m : Machine} {end : CallEnd} (n : ℕ) → least ≤ n → n ≤ most
    → Walks n f args m end → CallComesBetween least most f args m end
computed_between n many few walks = record {
  statements = n;
  many = many;
  few = few;
  way = λ p pending unit item below. walk_reaches p n _ _ (walks p pending unit item below);
}

-- so many statements lead from the beginning of a helper with two operands to its end
pub computed_from : {most : ℕ} {end : CallEnd} (f : Form) (t : ValType) (m : Machine) (x y n : ℕ) → n ≤ most
    → BeginsWith f t m x y
    → ((p : Program) (pending : Pending) (unit item : ℕ) (below : List Frame)
    → walk p n (Some (begun_with f t pending m unit item below x y)) ≡ Some (call_ended p pending end below))
    → CallComesTo most (number_helper (record { ty = t; form = f })) (number t x ∷ number t y ∷ []) m end
computed_from f t m x y n few begins walks = computed n few (λ p pending unit item below.
    ap (λ (from : Progress). walk p n (Some from)) (begins p pending unit item below) ∙ walks p pending unit item below)
