-- The definitions at the examples of WebAssembly Core 1.0, 5.2.2, which are numbers of 8 and 16 bits.
use Rattle.leb_bytes.proofs.Common.{◌≡◌, [], ◌∷◌, negsuc, Ok, Err, refl, signed_of, unsigned_of, TooLong, Unused}

three : unsigned_of 8 (0x03 ∷ []) ≡ Ok (3, 1)
three = refl

three_padded : unsigned_of 8 (0x83 ∷ 0x00 ∷ []) ≡ Ok (3, 2)
three_padded = refl

unused_of_three : unsigned_of 8 (0x83 ∷ 0x10 ∷ []) ≡ Err Unused
unused_of_three = refl

three_too_long : unsigned_of 8 (0x83 ∷ 0x80 ∷ 0x00 ∷ []) ≡ Err TooLong
three_too_long = refl

minus_two : signed_of 16 (0x7e ∷ []) ≡ Ok (negsuc 1, 1)
minus_two = refl

minus_two_padded : signed_of 16 (0xfe ∷ 0x7f ∷ []) ≡ Ok (negsuc 1, 2)
minus_two_padded = refl

minus_two_in_three : signed_of 16 (0xfe ∷ 0xff ∷ 0x7f ∷ []) ≡ Ok (negsuc 1, 3)
minus_two_in_three = refl

unused_of_positive : signed_of 8 (0x83 ∷ 0x3e ∷ []) ≡ Err Unused
unused_of_positive = refl

unused_of_negative : signed_of 8 (0xff ∷ 0x7b ∷ []) ≡ Err Unused
unused_of_negative = refl
