-- What proofs of this crate cite of std, of the crates below and of specs/, passed on from one place. Declares nothing.
pub use Rattle.std.proofs.Common.{◌≡◌, ℕ, zero, suc, ◌+◌, ◌-◌, ◌*◌, ◌/◌, ◌%◌, ◌^◌, ◌<◌, ◌≤◌, Bool, true, false, cond, ltb, leb, ◌≢◌, ◌⊎◌}
pub use Rattle.std.proofs.Common.{List, [], ◌∷◌, ◌++◌, length, get_or, take, set, ℤ, pos, negsuc, ◌-ℤ◌, ◌≤ℤ◌, ◌<ℤ◌, bit_and, bit_or, int_lt}
pub use Rattle.std.proofs.Common.{int_le, FitsSigned, Ok, Err, All, Result, sym, refl, ap, ◌∙◌, subst, inl, inr, lt_of_mul-lt-mul_right}
pub use Rattle.std.proofs.Common.{div-mul-le_self, arith, length-append, length-set, length-take-le, get_or-set_same, drop-set-lt, pow_pos}
pub use Rattle.std.proofs.Common.{pow_mono, pow-add, w32, w64, to_z, of_z, ltb-false, ltb-true, le-ltb, lt-ltb, le-leb, leb-false}
pub use Rattle.std.proofs.Common.{true≢false, add_comm}
pub use Rattle.std.proofs.Math.Seq.{take-append_seam, take-length}
pub use Rattle.std.proofs.lemmas.Bool.{and_from, and_parts, cases_lt, lt-leb}
pub use Rattle.std.proofs.lemmas.Grind.{and_high_numeral, or_numeral}
pub use Rattle.std.proofs.lemmas.Int.{ints, to_z-of_z}
pub use Rattle.std.proofs.lemmas.List.Elements.{All-cons, All-head, All-more, All-nil, All-push, All-same, All-tail}
pub use Rattle.std.proofs.lemmas.Nat.{and_mask, mod-pow-add, one_shl, or_comm, or_shifted, shl_whole, shr_below, shr_split}
pub use Rattle.std.specs.Int.{w128}
pub use Rattle.w2c_base.specs.SpelledNumber.{IsNumberRun, SpellsSigned, SpellsUnsigned, most_bytes, seven_bit_sum, signed_sum}
pub use Rattle.leb_bytes.specs.Computed.{count_of, fits_signed, fitting, signed_after, signed_of, unsigned_after, unsigned_of}
pub use Rattle.leb_bytes.specs.Reading.{Answers, AnswersSigned, AnswersUnsigned, GoOn, HasBitsPast, HasBitsUnlikeSign}
pub use Rattle.leb_bytes.specs.Run.{InRange, IsRunOf, NeverWrong}
pub use Rattle.leb_bytes.specs.Shortest.{IsShortest}
pub use Rattle.leb_bytes.specs.declared.fault.LebFault.{LebFault}
pub use Rattle.leb_bytes.specs.declared.fault.LebFault.TheVariants.{Ends, TooLong, Unused}
