use Rattle.wasm_writing.proofs.Common.{◌≡◌, ℕ, ◌≤◌, List, length, get_or, take, ap, ◌∙◌, subst, arith, read_again, each, Puts, part_is}
use Rattle.wasm_writing.proofs.Common.{filled}
use Rattle.std.proofs.Math.Seq.{take-length}
use Rattle.wasm_spelling.specs.declared.part.Part.TheVariants.{Types}
use Rattle.wasm_spelling.specs.declared.part.Part.{Part}
use Rattle.wasm_writing.proofs.Lists.{each_more}
use Rattle.wasm_writing.proofs.sections.sections.Goals as goal

pub loop-part-preserved : goal.loop-part-preserved
loop-part-preserved c =
    let l = c.loop-part in
    let parts = c.args.parts.now in
    let other : Part = Types in
    each_more (λ (part : Part). filled c.args.m.now (part_is part)) parts l.part-index
    (get_or parts l.part-index other) _ _ _ c.loop-part-test.true (read_again parts l.part-index other c.loop-part-test.true) l.invariant
    c.section.ensures

whole : {A : Type 0} (i : ℕ) (l : List A) → i ≤ length l → length l ≤ i → take i l ≡ l
whole {A} i l a b = let e : i ≡ length l = omega (arith, a, b) in ap (λ n. take n l) e ∙ take-length l

pub returns : goal.returns
returns c =
    let parts = c.args.parts.now in
    subst (λ (l : List Part). Puts (each (λ (part : Part). filled c.args.m.now (part_is part)) l) c.args.draft.now c.loop-part.draft)
    (whole c.loop-part.part-index parts c.loop-part.auto.part-index-end c.loop-part-test.false) c.loop-part.invariant
