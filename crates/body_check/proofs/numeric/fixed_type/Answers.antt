use Rattle.wasm_typing.proofs.TableTypes.{index_typing}
use Rattle.body_check.proofs.Common.{sym, ap, ◌∙◌, kind_tree, needs_of, table_type}
use Rattle.wasm_tree.specs.declared.operators.Parts.TheVariants as parts
use Rattle.body_check.proofs.ByParts.{by_parts, index_needs_nothing, numeric_needs_nothing}
use Rattle.body_check.proofs.numeric.fixed_type.Goals as goal

pub returns-in-Simple : goal.returns-in-Simple
returns-in-Simple c =
    let same = by_parts (kind_tree c.args.kind.now) (parts.Simple c.in-Simple.op) (sym c.parts.ensures ∙ c.in-Simple.is) in
    record { typing = c.simple_type.ensures.typing ∙ ap table_type same; needs = c.simple_type.ensures.needed ∙ ap needs_of same }

pub returns-in-Index : goal.returns-in-Index
returns-in-Index c =
    let i = c.in-Index in
    let same = by_parts (kind_tree c.args.kind.now) (parts.Index i.field-0 i.field-1) (sym c.parts.ensures ∙ i.is) in
    record {
      typing = sym (index_typing i.field-0 i.field-1) ∙ ap table_type same;
      needs = sym (index_needs_nothing i.field-0 i.field-1) ∙ ap needs_of same;
    }

pub returns-in-Access : goal.returns-in-Access
returns-in-Access c =
    let i = c.in-Access in
    let same = by_parts (kind_tree c.args.kind.now) (parts.Access i.op i.arg) (sym c.parts.ensures ∙ i.is) in
    record { typing = c.access_type.ensures.typing ∙ ap table_type same; needs = c.access_type.ensures.needed ∙ ap needs_of same }

pub returns-in-Numeric : goal.returns-in-Numeric
returns-in-Numeric c =
    let same = by_parts (kind_tree c.args.kind.now) (parts.Numeric c.in-Numeric.op) (sym c.parts.ensures ∙ c.in-Numeric.is) in
    record {
      typing = c.of.ensures.typing ∙ c.numeric_type-ty.ensures ∙ ap table_type same;
      needs = c.of.ensures.needed ∙ sym (numeric_needs_nothing c.in-Numeric.op) ∙ ap needs_of same;
    }

pub returns-in-Other : goal.returns-in-Other
returns-in-Other c = record { typing = c.other_type.ensures.typing; needs = c.other_type.ensures.needed }

pub other_type-requires : goal.other_type-requires
other_type-requires c = sym c.parts.ensures ∙ c.in-Other.is
