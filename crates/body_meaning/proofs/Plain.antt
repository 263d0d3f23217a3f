-- Instructions that hold no code, do not jump and do not call are followed by their statements.
use Rattle.wasm_tree.specs.Instructions as wasm
use Rattle.body_meaning.specs.Parts.{PlainKindsFollow}
use Rattle.body_meaning.proofs.Numeric.{binary_follows, compare_follows, unary_follows, eqz_follows, wrap_follows, extend_u_follows}
use Rattle.body_meaning.proofs.Numeric.{extend_s_follows, extend_follows}
use Rattle.body_meaning.proofs.Locals.{nop_follows, drop_follows, i32_const_follows, i64_const_follows, select_follows, local_get_follows}
use Rattle.body_meaning.proofs.Locals.{local_set_follows, local_tee_follows}
use Rattle.body_meaning.proofs.Globals.{global_get_follows, global_set_follows}
use Rattle.body_meaning.proofs.Bulk.{copy_follows, fill_follows}
use Rattle.body_meaning.proofs.Memories.{load_follows, store_follows, size_follows, grow_follows}

pub plain_kinds_follow : PlainKindsFollow
plain_kinds_follow g room calls wasm.Nop site there plain = nop_follows g calls
plain_kinds_follow g room calls wasm.Drop site there plain = drop_follows g calls
plain_kinds_follow g room calls wasm.Select site there plain = select_follows site
plain_kinds_follow g room calls (wasm.LocalGet index) site there plain = local_get_follows index site
plain_kinds_follow g room calls (wasm.LocalSet index) site there plain = local_set_follows index site
plain_kinds_follow g room calls (wasm.LocalTee index) site there plain = local_tee_follows index site
plain_kinds_follow g room calls (wasm.I32Const z) site there plain = i32_const_follows z site
plain_kinds_follow g room calls (wasm.I64Const z) site there plain = i64_const_follows z site
plain_kinds_follow g room calls (wasm.Eqz t) site there plain = eqz_follows t site
plain_kinds_follow g room calls (wasm.Compare t o) site there plain = compare_follows t o site there
plain_kinds_follow g room calls (wasm.Unary t o) site there plain = unary_follows t o site there
plain_kinds_follow g room calls (wasm.Binary t o) site there plain = binary_follows t o site there
plain_kinds_follow g room calls wasm.I32WrapI64 site there plain = wrap_follows site
plain_kinds_follow g room calls wasm.I64ExtendI32S site there plain = extend_s_follows site there
plain_kinds_follow g room calls wasm.I64ExtendI32U site there plain = extend_u_follows site
plain_kinds_follow g room calls (wasm.Extend o) site there plain = extend_follows o site there
plain_kinds_follow g room calls (wasm.GlobalGet index) site there plain = global_get_follows index site
plain_kinds_follow g room calls (wasm.GlobalSet index) site there plain = global_set_follows index site
plain_kinds_follow g room calls (wasm.Load op arg) site there plain = load_follows op arg site there
plain_kinds_follow g room calls (wasm.Store op arg) site there plain = store_follows op arg site there
plain_kinds_follow g room calls wasm.MemorySize site there plain = size_follows site there
plain_kinds_follow g room calls wasm.MemoryGrow site there plain = grow_follows site
plain_kinds_follow g room calls wasm.MemoryCopy site there plain = copy_follows site there
plain_kinds_follow g room calls wasm.MemoryFill site there plain = fill_follows site there
plain_kinds_follow g room calls _ site there plain = absurd cc
