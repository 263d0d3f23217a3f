-- A shortest spelling is a spelling.
use Rattle.wasm_writing.proofs.Common.{ℕ, List, inl, inr, Fields, byte, either, finished, for_some, here, number, provided, signed, text}
use Rattle.wasm_writing.proofs.Common.{window}
use Rattle.wasm_writing.specs.Aside.{SpelledAside, SpelledBy, SpelledShort}

pub short_aside : (fields : Fields) (bytes : List ℕ) → SpelledShort fields bytes → SpelledAside fields bytes
unfolding SpelledBy
short_aside finished bytes s = s
short_aside (byte b fields) bytes (front, rest, e, p, q) = (front, rest, e, p, short_aside fields rest q)
short_aside (number n fields) bytes (front, rest, e, p, q) = (front, rest, e, p.spells, short_aside fields rest q)
short_aside (signed width n fields) bytes (front, rest, e, p, q) = (front, rest, e, p.spells, short_aside fields rest q)
short_aside (text t fields) bytes (front, rest, e, p, q) = (front, rest, e, p, short_aside fields rest q)
short_aside (here place fields) bytes s = short_aside fields bytes s
short_aside (provided b fields) bytes (p, q) = (p, short_aside fields bytes q)
short_aside (window inside fields) bytes (size, (front, rest, e, p, (i, r, d, (l, s), q))) =
    (size, (front, rest, e, p.spells, (i, r, d, (l, short_aside inside i s), short_aside fields r q)))
short_aside (either fields others) bytes (inl s) = inl (short_aside fields bytes s)
short_aside (either fields others) bytes (inr s) = inr (short_aside others bytes s)
short_aside (for_some choice) bytes (customs, s) = (customs, short_aside (choice customs) bytes s)
