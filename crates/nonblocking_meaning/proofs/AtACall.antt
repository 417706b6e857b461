-- The equal-ending statement read at one call of the list, in document 01's words. The statement is what the theorem proves and nothing above
-- cites, so its premises and its claim are said here once more.
use Prim.Native.Nat.{ℕ, ◌<◌}
use mathlib.Core.Path.{◌≡◌, ap}
use mathlib.Core.Option.{some}
use mathlib.Core.List.{List, [], ◌∷◌, ◌++◌}
use lib.ListN.{length, get_or}
use lib.Dec.{T}
use Rattle.registers.specs.Answers.{says}
use Rattle.nonblocking_meaning.specs.Link.{Link, fresh}
use Rattle.nonblocking_meaning.specs.Call.{Call, Step, role_of, is_start}
use Rattle.nonblocking_meaning.specs.Outcome.{Outcome, outcome}
use Rattle.nonblocking_meaning.specs.Book.{Book, Observed, observed, blank, is_data, feed}
use Rattle.nonblocking_meaning.specs.EqualEnding.{hide, ran, seen, compared, Clean, AllSourced, EqualEnding}
use Rattle.nonblocking_meaning.proofs.Runs.{fed}

abbrev first : Observed → List Observed → Observed
first e [] = e
first e (x ∷ xs) = x

abbrev others : List Observed → List Observed
others [] = []
others (x ∷ xs) = xs

-- a call after others, as it is seen
abbrev last : Link → List Step → Step → Observed
last l before s = observed s.call (outcome s (ran l before))

last_compared : (before : List Step) (s : Step) (b₁ b₂ : Book) (l₁ l₂ : Link) →
    compared b₁ (seen l₁ (before ++ s ∷ [])) ≡ compared b₂ (seen l₂ (before ++ s ∷ [])) →
    hide (last l₁ before s) (fed b₁ (seen l₁ before)) ≡ hide (last l₂ before s) (fed b₂ (seen l₂ before))
unfolding compared seen ran fed
last_compared [] s b₁ b₂ l₁ l₂ q = ap (first (observed s.call (outcome s l₁))) q
last_compared (t ∷ ts) s b₁ b₂ l₁ l₂ q =
    last_compared ts s (feed (observed t.call (outcome t l₁)) b₁) (feed (observed t.call (outcome t l₂)) b₂) (outcome t l₁).link (outcome t l₂).link
    (ap others q)

-- each byte of a Data answer is in the book at that call, at the same place
abbrev InBook : Observed → Book → Type 0
InBook e b = T (is_data e.answer) → (j : ℕ) → j < length e.shown → b.place j ≡ some (get_or e.shown j 0)

last_sourced : (before : List Step) (s : Step) (b : Book) (l : Link) → AllSourced b (seen l (before ++ s ∷ [])) → InBook (last l before s) (fed b (seen l before))
unfolding AllSourced seen ran fed
last_sourced [] s b l A = A.0
last_sourced (t ∷ ts) s b l A = last_sourced ts s (feed (observed t.call (outcome t l)) b) (outcome t l).link A.1

-- Two histories, one start that both links accept, with words and log sizes that may differ, and one list of calls after it: at its last call
-- both links are seen the same, each beside its own book, if neither list is kept out.
module _ (history₁ history₂ : List Step) (start : Call) (words₁ words₂ : List ℕ) (places₁ places₂ : ℕ) where
  abbrev began₁ : Outcome
  began₁ = outcome (record { call = start; words = words₁; places = places₁ }) (ran fresh history₁)

  abbrev began₂ : Outcome
  began₂ = outcome (record { call = start; words = words₂; places = places₂ }) (ran fresh history₂)

  -- the book is fed the start first
  abbrev book₁ : Book
  book₁ = feed (observed start began₁) blank

  abbrev book₂ : Book
  book₂ = feed (observed start began₂) blank

  at_a_call : EqualEnding → T (is_start (role_of start)) → began₁.answer ≡ says 0 [] → began₂.answer ≡ says 0 [] → (before : List Step) (s : Step) →
      Clean book₁ (seen began₁.link (before ++ s ∷ [])) → Clean book₂ (seen began₂.link (before ++ s ∷ [])) →
      (hide (last began₁.link before s) (fed book₁ (seen began₁.link before)) ≡ hide (last began₂.link before s) (fed book₂ (seen began₂.link before)))
      × InBook (last began₁.link before s) (fed book₁ (seen began₁.link before))
      × InBook (last began₂.link before s) (fed book₂ (seen began₂.link before))
  at_a_call E t a₁ a₂ before s C₁ C₂ =
      let A = E history₁ history₂ start words₁ words₂ places₁ places₂ (before ++ s ∷ []) t a₁ a₂ C₁ C₂ in (
        last_compared before s book₁ book₂ began₁.link began₂.link A.0,
        last_sourced before s book₁ began₁.link A.1,
        last_sourced before s book₂ began₂.link A.2,
      )
