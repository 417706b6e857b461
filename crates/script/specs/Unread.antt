-- What is left to read of an input.
use Rattle.std.specs.Prelude.{ℕ, List, slice_range, Option}
use Rattle.std.specs.Io.KnownBytes.{prepend_known}

-- the bytes that were read and not yet given, and then those of the reader, where these are known
abbrev pub unread : List ℕ → ℕ → ℕ → Option (List ℕ) → Option (List ℕ)
unread bytes start end known = prepend_known (slice_range bytes start end) known
