-- What a module within the limits has at most, as its unit counts: labels, operands, numbers.
use Rattle.body_definition.proofs.Common.{◌≡◌, ℕ, ◌^◌, ◌<◌, Bool, true, false, not, nat_lt, refl, arith, ◌+◌, ◌≤◌, ◌&&◌, ◌||◌, [], Block}
use Rattle.body_definition.proofs.Common.{BrIf, BrTable, Code, If, Kind, Loop, Otherwise, Select, else_code, end_code, no_else, then_code}
use Rattle.body_definition.proofs.Common.{code_size, kind_size, otherwise_size, BodyEntry, Module, BodyIsWithin, WithinLimits, least_bytes}
use Rattle.body_definition.proofs.Common.{least_bytes_of, least_bytes_of_else, some_in, some_in_else, some_inside, any_in, any_in_else}
use Rattle.body_definition.proofs.Common.{any_inside, labels_in, labels_in_else, labels_of, BodyHasLimits, HasLimits, ends, true≢false}
use Rattle.w2c_base.proofs.Lists.{all_weaker}
use Rattle.body_definition.proofs.Peaks.{peak_few}

mutual
  -- a label takes a byte of the file at least
  labels_few : (code : Code) → labels_in code ≤ least_bytes code
  labels_few end_code = omega arith
  labels_few (then_code place kind code) = omega (arith, labels_of_few kind, labels_few code)

  labels_of_few : (kind : Kind) → labels_of kind ≤ least_bytes_of kind
  labels_of_few (Block t code e) = omega (arith, labels_few code)
  labels_of_few (Loop t code e) = omega (arith, labels_few code)
  labels_of_few (If t code otherwise e) = omega (arith, labels_few code, labels_in_else_few otherwise)
  labels_of_few (BrIf label) = omega arith
  labels_of_few (BrTable labels default) = omega arith
  labels_of_few Select = omega arith
  labels_of_few _ = omega arith

  labels_in_else_few : (otherwise : Otherwise) → labels_in_else otherwise ≤ least_bytes_of_else otherwise
  labels_in_else_few no_else = omega arith
  labels_in_else_few (else_code place code) = omega (arith, labels_few code)

mutual
  size_few : (code : Code) → code_size code ≤ least_bytes code
  size_few end_code = omega arith
  size_few (then_code place kind code) = omega (arith, kind_size_few kind, size_few code)

  kind_size_few : (kind : Kind) → kind_size kind + 1 ≤ least_bytes_of kind
  kind_size_few (Block t code e) = omega (arith, size_few code)
  kind_size_few (Loop t code e) = omega (arith, size_few code)
  kind_size_few (If t code otherwise e) = omega (arith, size_few code, otherwise_size_few otherwise)
  kind_size_few (BrTable labels default) = omega arith
  kind_size_few _ = omega arith

  otherwise_size_few : (otherwise : Otherwise) → otherwise_size otherwise ≤ least_bytes_of_else otherwise
  otherwise_size_few no_else = omega arith
  otherwise_size_few (else_code place code) = omega (arith, size_few code)

-- what no instruction passes, none that is translated passes
both_none : (a b c d : Bool) → (c ≡ false → a ≡ false) → (d ≡ false → b ≡ false) → (c || d) ≡ false → (a || b) ≡ false
both_none a b true d h k e = absurd cc
both_none true b false d h k e = absurd (true≢false (h refl))
both_none false b false d h k e = k e

behind_none : (ends a b : Bool) → (b ≡ false → a ≡ false) → b ≡ false → (not ends && a) ≡ false
behind_none true a b h e = refl
behind_none false a b h e = h e

mutual
  pub none_translated : (test : Kind → Bool) (code : Code) → some_in test code ≡ false → any_in test code ≡ false
  none_translated test end_code e = refl
  none_translated test (then_code place kind code) e =
      both_none (test kind || any_inside test kind) (not (ends kind) && any_in test code)
      (test kind || some_inside test kind) (some_in test code)
      (both_none (test kind) (any_inside test kind) (test kind) (some_inside test kind) (λ h. h) (none_inside test kind))
      (behind_none (ends kind) (any_in test code) (some_in test code) (none_translated test code)) e

  none_inside : (test : Kind → Bool) (kind : Kind) → some_inside test kind ≡ false → any_inside test kind ≡ false
  none_inside test (Block t code p) e = none_translated test code e
  none_inside test (Loop t code p) e = none_translated test code e
  none_inside test (If t code otherwise p) e =
      both_none (any_in test code) (any_in_else test otherwise) (some_in test code) (some_in_else test otherwise)
      (none_translated test code) (none_in_else test otherwise) e
  none_inside test _ e = refl

  none_in_else : (test : Kind → Bool) (otherwise : Otherwise) → some_in_else test otherwise ≡ false → any_in_else test otherwise ≡ false
  none_in_else test no_else e = refl
  none_in_else test (else_code place code) e = none_translated test code e

body_limits : (b : BodyEntry) → BodyIsWithin b → BodyHasLimits b
body_limits b h =
    let most = h.bytes in
    let few = h.locals in
    record {
      locals = omega (arith, few);
      labels = let l = labels_few b.code in omega (arith, most, l);
      operands = λ c. let l = size_few b.code in let p = peak_few c [] b.code in omega (arith, most, l, p);
      numbers = none_translated _ b.code h.numbers;
    }

pub within_of : (m : Module) → WithinLimits m → HasLimits m
within_of m h =
    record {
      imports = let n = h.imports in omega (arith, n);
      types = let n = h.types in omega (arith, n);
      funcs = let n = h.funcs in omega (arith, n);
      globals = let n = h.globals in omega (arith, n);
      segments = let n = h.segments in omega (arith, n);
      bodies_are_there = h.bodies_are_there;
      params = h.params;
      memories = h.memories;
      tables = h.tables;
      maxima = h.maxima;
      bytes = all_weaker _ _ m.segments (λ d n. omega (arith, n)) h.bytes;
      are_bytes = h.are_bytes;
      import_names = all_weaker _ _ m.imports (λ i n. (n.0.0, n.1.0)) h.import_names;
      export_names = all_weaker _ _ m.exports (λ e n. n.0) h.export_names;
      elements = all_weaker _ _ m.elements (λ e n. omega (arith, n)) h.elements;
      bodies = all_weaker BodyIsWithin BodyHasLimits m.bodies body_limits h.bodies;
    }

pub not_wide : (n : ℕ) → not (nat_lt n 4294967296) ≡ false → n < 2 ^ 32
not_wide n e = grind arith
