-- The lengths of a link that is not impossible, and of the bytes that a call may have, are at most 255.
use Prim.Native.Nat.{ℕ, ◌≤◌}
use mathlib.Core.Path.{◌≡◌}
use mathlib.Core.Bool.{Bool, true, false, ◌||◌}
use mathlib.Core.List.{List}
use lib.ListN.{length}
use lib.Dec.{ltb, leb}
use borrow.Author.Tests.{ltb-false, leb-true}
use Rattle.std.proofs.lemmas.Bool.{and_parts, or_parts}
use Rattle.nonblocking_meaning.specs.Plan.{good_length}

-- a good length is at most 255
pub good_255 : (bytes : List ℕ) → good_length bytes ≡ true → length bytes ≤ 255
good_255 bytes e = leb-true (length bytes) 255 (and_parts (ltb 0 (length bytes)) (leb (length bytes) 255) e).1

-- answer 12, over the four values alone
abbrev pub impossible_at : ℕ → ℕ → ℕ → ℕ → Bool
impossible_at index length second watchdog = ltb length index || ltb 255 length || ltb 255 second || ltb 10 watchdog

-- the length of a possible link
none_of : (a b c d : Bool) → (((a || b) || c) || d) ≡ false → b ≡ false
none_of a b c d e = (or_parts a b (or_parts (a || b) c (or_parts (a || b || c) d e).0).0).1

pub length_255 : (i n h w : ℕ) → impossible_at i n h w ≡ false → n ≤ 255
length_255 i n h w e = ltb-false 255 n (none_of (ltb n i) (ltb 255 n) (ltb 255 h) (ltb 10 w) e)
