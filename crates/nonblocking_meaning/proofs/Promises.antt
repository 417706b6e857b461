-- What a contract promises where it cites `Matches`, item by item. Only contracts cite that record, and code that does more than a weaker item
-- asks would be proved as well; so each item is said here once more.
use Prim.Native.Nat.{ℕ}
use mathlib.Core.Path.{◌≡◌, refl}
use mathlib.Core.List.{List, [], ◌∷◌, map}
use lib.ListN.{length, take, replicate}
use Rattle.registers.specs.declared.call_log.Report.{Report}
use Rattle.registers.specs.CallLog.{entries, over}
use Rattle.registers.specs.Answers.{said, says}
use Rattle.nonblocking_meaning.specs.Link.{Link}
use Rattle.nonblocking_meaning.specs.Outcome.{Outcome, count_shown, Matches}

-- The answer, the words taken, the places logged and the link are the outcome's. The bytes shown are the first of the link's buffer, and the
-- accesses stand in the log from its first place on.
promised : (o : Outcome) (r : Report) (l : Link) (before after : List ℕ) → Matches o r l before after →
    (said r.answer ≡ o.answer)
    × (r.taken ≡ o.taken)
    × (r.logged ≡ length (entries o.accesses))
    × (l ≡ o.link)
    × (take (count_shown o.answer) l.«data» ≡ o.shown)
    × (after ≡ over (entries o.accesses) before)
promised o r l before after m = (m.answer, m.taken, m.logged, m.link, m.shown, m.log)

-- as many as Data (D) says after address and direction, or a `get_data` (G); no other answer shows bytes
bytes_shown : (x y z : ℕ) →
    map (λ (n : ℕ). count_shown (says n (x ∷ y ∷ z ∷ []))) (0x44 ∷ 0x47 ∷ 0x41 ∷ 0x45 ∷ 0x4E ∷ 0 ∷ 1 ∷ 2 ∷ 3 ∷ 4 ∷ 5 ∷ 6 ∷ 7 ∷ 8 ∷ 9 ∷ 10 ∷ 11 ∷ 12 ∷ [])
    ≡ z ∷ x ∷ replicate 16 0
bytes_shown x y z = refl

-- without values they show none
none_shown : map count_shown (says 0x44 [] ∷ says 0x47 [] ∷ []) ≡ 0 ∷ 0 ∷ []
none_shown = refl
