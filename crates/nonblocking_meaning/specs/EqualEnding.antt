-- The equal-ending statement: no stale byte. Document 01, nonblocking.rs: 'The point is one single claim about that list, and not one for each call',
-- 'Each byte that a Data answer shows is in the book at that call, at the same place.'
--
-- Take any two histories, each a list of calls from a link as constructed, with any arguments, words and log sizes. Let both links then
-- accept the same start, and let both take one list of calls after it, each call with the same arguments, words and log size. Unless
-- one of the runs is kept out, each call of that list is seen the same on both links: the answer with its count, address and direction,
-- the accesses in order, and the bytes that Data or `get_data` shows. And in both runs each byte of a Data answer stands in the book at its
-- place: it was handed in by a caller or read from RXDR since the start. After the list both links agree in everything but the errors, the
-- second-half length and the bytes.
--
-- Not compared: the answer of the first `get_errors_reset` after the start, and the answer and bytes of the master's `get_data` while
-- receiving that ADDR or TC opened.
use Rattle.std.specs.Prelude.{ℕ, ◌<◌, ◌≡◌, Bool, true, false, List, [], ◌∷◌, length, get_or, T}
use Rattle.std.proofs.Math.Option.{some}
use Rattle.registers.specs.Answers.{says}
use Rattle.nonblocking_meaning.specs.Link.{Link, fresh, common}
use Rattle.nonblocking_meaning.specs.Call.{Call, Step, Role, master_writes, slave_writes, master_reads, checks, reads_errors, shows_master, other, role_of, is_start}
use Rattle.nonblocking_meaning.specs.Outcome.{outcome}
use Rattle.nonblocking_meaning.specs.Book.{Book, Observed, observed, Receiving, closed, by_read, by_bus, blank, feed, is_data, clean}

-- what is not compared is blanked
abbrev pub hide_shown : Receiving → Observed → Observed
hide_shown closed e = e
hide_shown by_read e = e
hide_shown by_bus e = record { call = e.call; answer = says 0 []; accesses = e.accesses; shown = [] }

abbrev pub hide_error_count : Bool → Observed → Observed
hide_error_count true e = e
hide_error_count false e = record { call = e.call; answer = says 0 []; accesses = e.accesses; shown = e.shown }

abbrev pub hide_role : Role → Observed → Book → Observed
hide_role (master_writes bytes) e b = e
hide_role (slave_writes bytes) e b = e
hide_role master_reads e b = e
hide_role checks e b = e
hide_role reads_errors e b = hide_error_count b.errors_read e
hide_role shows_master e b = hide_shown b.receiving e
hide_role other e b = e

abbrev pub hide : Observed → Book → Observed
hide e b = hide_role (role_of e.call) e b

-- the link after a list of steps (a 'history' is such a list, from a link as constructed), and what is seen of them
unfoldable pub ran : Link → List Step → Link
ran l [] = l
ran l (s ∷ ss) = ran (outcome s l).link ss

unfoldable pub seen : Link → List Step → List Observed
seen l [] = []
seen l (s ∷ ss) = observed s.call (outcome s l) ∷ seen (outcome s l).link ss

-- what is compared of a list of events, with the book as it is at each
unfoldable pub compared : Book → List Observed → List Observed
compared b [] = []
compared b (e ∷ es) = hide e b ∷ compared (feed e b) es

-- no event of the list is kept out
unfoldable pub Clean : Book → List Observed → Type 0
Clean b [] = Unit {0}
Clean b (e ∷ es) = T (clean e b) × Clean (feed e b) es

-- each byte of a Data answer is in the book at that call, at the same place
abbrev pub Sourced : Observed → Book → Type 0
Sourced e b = T (is_data e.answer) → (j : ℕ) → j < length e.shown → b.place j ≡ some (get_or e.shown j 0)

unfoldable pub AllSourced : Book → List Observed → Type 0
AllSourced b [] = Unit {0}
AllSourced b (e ∷ es) = Sourced e b × AllSourced (feed e b) es

abbrev pub step_of : Call → List ℕ → ℕ → Step
step_of call words places = record { call = call; words = words; places = places }

abbrev pub EqualEnding : Type 0
EqualEnding =
    (history₁ history₂ : List Step) (start : Call) (words₁ words₂ : List ℕ) (places₁ places₂ : ℕ) (steps : List Step) →
    T (is_start (role_of start)) →
    let first₁ = outcome (step_of start words₁ places₁) (ran fresh history₁) in
    let first₂ = outcome (step_of start words₂ places₂) (ran fresh history₂) in
    let book₁ = feed (observed start first₁) blank in
    let book₂ = feed (observed start first₂) blank in
    let events₁ = seen first₁.link steps in
    let events₂ = seen first₂.link steps in
    first₁.answer ≡ says 0 [] → first₂.answer ≡ says 0 [] → Clean book₁ events₁ → Clean book₂ events₂ →
    (compared book₁ events₁ ≡ compared book₂ events₂) × AllSourced book₁ events₁ × AllSourced book₂ events₂
    × (common (ran first₁.link steps) ≡ common (ran first₂.link steps))
