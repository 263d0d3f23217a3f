-- What proofs of this crate cite of std, of the crates below and of specs/, passed on from one place. Declares nothing.
pub use Rattle.std.proofs.Common.{◌≡◌, ◌+◌, ◌<◌, List, [], ◌∷◌, ◌++◌, length}
pub use Rattle.std.proofs.Common.{drop, refl}
pub use Rattle.std.proofs.Common.{arith}
pub use Rattle.w2c_base.specs.declared.value.ValType.{ValType}
pub use Rattle.body_forms.specs.Variables.{locals_from, params_from, params_of}
