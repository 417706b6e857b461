-- Document 01, nonblocking.rs: 'The link holds address, watchdog, index, length, errors, second-half length and 255 bytes; at construction all are 0', 'The
-- 32-bit count stops at its top', and row 12. What the calls do to a link is said by its parts.
use Rattle.std.specs.Prelude.{ℕ, ◌+◌, Bool, cond, ◌||◌, ltb, List, replicate}

-- what a link holds between calls: the marks are one word, of which each mark is a field; for a `master_write_read` the length of the read that
-- follows; and the bytes. No mark is in use yet.
pub record Link : Type 0 where
  pub address : ℕ
  pub watchdog : ℕ
  pub index : ℕ
  pub length : ℕ
  pub errors : ℕ
  pub marks : ℕ
  pub length_write_read : ℕ
  pub «data» : List ℕ

-- the part of a link that is the same, after a common start, whatever was before
pub record Common : Type 0 where
  pub address : ℕ
  pub watchdog : ℕ
  pub index : ℕ
  pub length : ℕ
  pub marks : ℕ

abbrev pub common : Link → Common
common l = record { address = l.address; watchdog = l.watchdog; index = l.index; length = l.length; marks = l.marks }

-- a link of that part, the errors, the second-half length and the bytes
abbrev pub link_of : Common → ℕ → ℕ → List ℕ → Link
link_of c errors second bytes = record {
  address = c.address;
  watchdog = c.watchdog;
  index = c.index;
  length = c.length;
  errors = errors;
  marks = c.marks;
  length_write_read = second;
  «data» = bytes;
}

-- the same from its eight values
abbrev pub link_at : ℕ → ℕ → ℕ → ℕ → ℕ → ℕ → ℕ → List ℕ → Link
link_at address watchdog index length errors marks second bytes =
    link_of (record { address = address; watchdog = watchdog; index = index; length = length; marks = marks }) errors second bytes

-- the link as constructed
abbrev pub fresh : Link
fresh = link_of (record { address = 0; watchdog = 0; index = 0; length = 0; marks = 0 }) 0 0 (replicate 255 0)

-- a transfer of n bytes with this address begins: the starts, which write all marks, and ADDR with DIR clear, which leaves them
abbrev pub new_transfer : ℕ → ℕ → ℕ → Common
new_transfer address n marks = record { address = address; watchdog = 10; index = 0; length = n; marks = marks }

abbrev pub no_marks : ℕ
no_marks = 0

-- n bytes from place 0 on, in the transfer that is open: the second half, and `slave_write`
abbrev pub same_transfer : ℕ → Common → Common
same_transfer n c = record { address = c.address; watchdog = c.watchdog; index = 0; length = n; marks = c.marks }

abbrev pub at_index : ℕ → Common → Common
at_index i c = record { address = c.address; watchdog = c.watchdog; index = i; length = c.length; marks = c.marks }

abbrev pub with_watchdog : ℕ → Common → Common
with_watchdog n c = record { address = c.address; watchdog = n; index = c.index; length = c.length; marks = c.marks }

-- addressed by a master that reads
abbrev pub addressed : ℕ → Common → Common
addressed address c = record { address = address; watchdog = 10; index = c.index; length = c.length; marks = c.marks }

-- answer 12: an index above the length, a length above 255, a watchdog above 10
unfoldable pub impossible : Link → Bool
impossible l = ltb l.length l.index || ltb 255 l.length || ltb 255 l.length_write_read || ltb 10 l.watchdog

-- one more error; the count stops at its top
unfoldable pub one_more : ℕ → ℕ
one_more errors = cond (ltb errors 4294967295) (errors + 1) errors
