-- One step, made of two links that agree: 12, 9 and 10 are answered alike, and else it goes by the plan.
use Prim.Native.Nat.{ℕ}
use mathlib.Core.Path.{◌≡◌, refl, subst₂}
use mathlib.Core.Bool.{Bool, true, false, ◌||◌}
use mathlib.Core.List.{List}
use lib.ListN.{length, get_or}
use lib.Dec.{T, ltb, leb}
use Rattle.std.proofs.lemmas.Bool.{or_parts}
use Rattle.registers.specs.CallLog.{Access, reads, entries}
use Rattle.nonblocking_meaning.specs.Link.{Link}
use Rattle.nonblocking_meaning.specs.Link.{link_of, impossible}
use Rattle.nonblocking_meaning.specs.Call.{Call, Step}
use Rattle.nonblocking_meaning.specs.Plan.{Plan}
use Rattle.nonblocking_meaning.specs.Outcome.{Outcome, unless_refused, plan_at, outcome}
use Rattle.nonblocking_meaning.specs.Book.{Book, observed, clean}
use Rattle.nonblocking_meaning.proofs.Agree.{Twins, twins}
use Rattle.nonblocking_meaning.proofs.OneCall.{Alike, Both, call_both}
use Rattle.nonblocking_meaning.proofs.Lengths.{impossible_at, length_255}

-- two outcomes of a call are alike
abbrev pub AlikeAt : Call → Book → Outcome → Outcome → Type 0
AlikeAt call b o₁ o₂ = Alike b (observed call o₁) (observed call o₂) o₁.link o₂.link

-- the second-half length of a possible link is at most 255
pub possible_second : (i n h w : ℕ) → impossible_at i n h w ≡ false → ltb 255 h ≡ false
possible_second i n h w q = (or_parts (ltb n i || ltb 255 n) (ltb 255 h) (or_parts (ltb n i || ltb 255 n || ltb 255 h) (ltb 10 w) q).0).1

-- a refusal is seen alike and changes nothing; what is not refused goes by the plan
refused_alike : (call : Call) (b : Book) (p₁ p₂ : Plan) (l₁ l₂ : Link) (t enough fits : Bool) → Twins b l₁ l₂ → (t ≡ false → Both call b p₁ p₂) →
    T (clean (observed call (unless_refused t enough fits p₁ l₁)) b) → AlikeAt call b (unless_refused t enough fits p₁ l₁) (unless_refused t enough fits p₂ l₂)
refused_alike call b p₁ p₂ l₁ l₂ true enough fits R B t = record { compared = refl; fed = refl; links = R; sourced₁ = λ x. absurd x; sourced₂ = λ x. absurd x }
refused_alike call b p₁ p₂ l₁ l₂ false false fits R B t = record { compared = refl; fed = refl; links = R; sourced₁ = λ x. absurd x; sourced₂ = λ x. absurd x }
refused_alike call b p₁ p₂ l₁ l₂ false true false R B t = record { compared = refl; fed = refl; links = R; sourced₁ = λ x. absurd x; sourced₂ = λ x. absurd x }
refused_alike call b p₁ p₂ l₁ l₂ false true true R B t = (B refl).alike t

-- the plan tried by its own reads and accesses
abbrev tried_by : Bool → List Access → Plan → List ℕ → ℕ → Link → Outcome
tried_by t g p words places l = unless_refused t (leb (reads g) (length words)) (leb (length (entries g)) places) p l

-- both links are possible or neither is, and both plans ask for as many words and places: so both are refused alike, or neither is
plan_alike : (call : Call) (b : Book) (p₁ p₂ : Plan) (words : List ℕ) (places : ℕ) (l₁ l₂ : Link) (t : Bool) → Twins b l₁ l₂ → (t ≡ false → Both call b p₁ p₂) →
    T (clean (observed call (tried_by t p₁.accesses p₁ words places l₁)) b) →
    AlikeAt call b (tried_by t p₁.accesses p₁ words places l₁) (tried_by t p₂.accesses p₂ words places l₂)
plan_alike call b p₁ p₂ words places l₁ l₂ true R B t = refused_alike call b p₁ p₂ l₁ l₂ true true true R B t
plan_alike call b p₁ p₂ words places l₁ l₂ false R B t =
    subst₂
    (λ (x y : ℕ). AlikeAt call b (tried_by false p₁.accesses p₁ words places l₁) (unless_refused false (leb x (length words)) (leb y places) p₂ l₂))
    (B refl).words (B refl).places
    (refused_alike call b p₁ p₂ l₁ l₂ false (leb (reads p₁.accesses) (length words)) (leb (length (entries p₁.accesses)) places) R B t)

-- one step of both runs
pub step_alike : (s : Step) (b : Book) (l₁ l₂ : Link) → Twins b l₁ l₂ → T (clean (observed s.call (outcome s l₁)) b) → AlikeAt s.call b (outcome s l₁) (outcome s l₂)
unfolding outcome impossible
step_alike s b l₁ l₂ (twins c {e₁ = e₁} {e₂ = e₂} {h₁ = h₁} {h₂ = h₂} {d₁ = d₁} {d₂ = d₂} A) t =
    rw (← A.own.possible)
    (plan_alike s.call b (plan_at s (link_of c e₁ h₁ d₁)) (plan_at s (link_of c e₂ h₂ d₂)) s.words s.places (link_of c e₁ h₁ d₁) (link_of c e₂ h₂ d₂)
    (impossible_at c.index c.length h₁ c.watchdog) (twins c A)
    (λ q. call_both b c e₁ e₂ h₁ h₂ d₁ d₂ A (length_255 c.index c.length h₁ c.watchdog q)
    s.call (get_or s.words 0 0) (get_or s.words 1 0) (get_or s.words 2 0))
    t)
