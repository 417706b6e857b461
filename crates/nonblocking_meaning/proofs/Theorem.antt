-- The equal-ending theorem: two links are twins after a start that both accept, and stay so.
use Prim.Native.Nat.{ℕ}
use mathlib.Core.Path.{◌≡◌, refl, sym, ◌∙◌, ap, subst, subst₂, subst₃}
use mathlib.Core.Bool.{Bool, true, false, not, cond}
use mathlib.Core.List.{List, [], ◌∷◌}
use native.Mathlib.Omega.{arith}
use lib.ListN.{length, replicate}
use lib.Dec.{T, ltb, leb}
use Rattle.registers.specs.Words.{starting}
use Rattle.registers.specs.CallLog.{Access, reads, entries}
use Rattle.registers.specs.Answers.{Said, says}
use Rattle.nonblocking_meaning.specs.Link.{Link}
use Rattle.nonblocking_meaning.specs.Link.{common, fresh, new_transfer, no_marks, impossible}
use Rattle.nonblocking_meaning.specs.Call.{Call, Step, master_write, master_write_read, master_read, slave_write, check_isr_flags, execute_watchdog, get_errors_reset, master_get_data, slave_get_data, get_address, listen, unlisten, slave_sbc, set_address}
use Rattle.nonblocking_meaning.specs.Call.{Role, master_writes, slave_writes, master_reads, checks, reads_errors, shows_master, other, role_of, is_start}
use Rattle.nonblocking_meaning.specs.Plan.{Plan, on_start, good_length, plan_of}
use Rattle.nonblocking_meaning.specs.Outcome.{Outcome, unless_refused, plan_at, outcome}
use Rattle.nonblocking_meaning.specs.Book.{Book, Observed, observed, by_read, blank, written, opened, is_done, is_refused, by_role, feed}
use Rattle.nonblocking_meaning.specs.EqualEnding.{ran, seen, compared, Clean, AllSourced, step_of, EqualEnding}
use Rattle.nonblocking_meaning.proofs.Lists.{zeros_same}
use Rattle.nonblocking_meaning.proofs.Agree.{Own, Twins, twins, own_over, opened_agree, written_agree}
use Rattle.nonblocking_meaning.proofs.OneCheck.{seen_as}
use Rattle.nonblocking_meaning.proofs.Lengths.{good_255}
use Rattle.nonblocking_meaning.proofs.OneStep.{possible_second, step_alike}
use Rattle.nonblocking_meaning.proofs.Histories.{history_room}

-- twins have one common part
twins_common : {b : Book} {l₁ l₂ : Link} → Twins b l₁ l₂ → common l₁ ≡ common l₂
twins_common (twins c A) = refl

-- twins end alike: the whole list after the start
ending : (steps : List Step) (b : Book) (l₁ l₂ : Link) → Twins b l₁ l₂ → Clean b (seen l₁ steps) →
    (compared b (seen l₁ steps) ≡ compared b (seen l₂ steps)) × AllSourced b (seen l₁ steps) × AllSourced b (seen l₂ steps)
    × (common (ran l₁ steps) ≡ common (ran l₂ steps))
unfolding seen compared Clean AllSourced ran
ending [] b l₁ l₂ R C = (refl, tt, tt, twins_common R)
ending (s ∷ steps) b l₁ l₂ R C =
    let A = step_alike s b l₁ l₂ R C.0 in
    let b₁ : Book = feed (observed s.call (outcome s l₁)) b in
    let b₂ : Book = feed (observed s.call (outcome s l₂)) b in
    let H = ending steps b₁ (outcome s l₁).link (outcome s l₂).link A.links C.1 in
    let E : List Observed = seen (outcome s l₂).link steps in
    let P : compared b₁ (seen (outcome s l₁).link steps) ≡ compared b₂ E = H.0 ∙ ap (λ (x : Book). compared x E) A.fed in (
      (λ j. A.compared j ∷ P j),
      (A.sourced₁, H.1),
      (A.sourced₂, subst (λ (x : Book). AllSourced x E) A.fed H.2),
      H.3,
    )

-- a call answered 0 was made of a possible link, and did what its plan says
record Accepted (call : Call) (o : Outcome) (p : Plan) (l : Link) : Type 0 where
  event : observed call o ≡ seen_as call p
  link : o.link ≡ p.link
  answer : p.answer ≡ says 0 []
  possible : impossible l ≡ false

-- two answers with different numbers are not the same
other-number {ℓ} : {X : Type ℓ} (m n : ℕ) {xs ys : List ℕ} → says m xs ≡ says n ys → (m ≡ n → ⊥) → X
other-number m n e d = absurd (d (ap (λ (x : Said). x.number) e))

-- the refusals are answered 12, 9 and 10
tried_accepted : (call : Call) (t enough fits : Bool) (p : Plan) (l : Link) → impossible l ≡ t → (unless_refused t enough fits p l).answer ≡ says 0 [] →
    Accepted call (unless_refused t enough fits p l) p l
tried_accepted call true enough fits p l q e = other-number 12 0 e (λ x. omega arith)
tried_accepted call false false fits p l q e = other-number 9 0 e (λ x. omega arith)
tried_accepted call false true false p l q e = other-number 10 0 e (λ x. omega arith)
tried_accepted call false true true p l q e = record { event = refl; link = refl; answer = e; possible = q }

-- so an outcome answered 0 is the plan's
accepted : (call : Call) (words : List ℕ) (places : ℕ) (l : Link) → (outcome (step_of call words places) l).answer ≡ says 0 [] →
    Accepted call (outcome (step_of call words places) l) (plan_at (step_of call words places) l) l
unfolding outcome
accepted call words places l e =
    let p : Plan = plan_at (step_of call words places) l in
    tried_accepted call (impossible l) (leb (reads p.accesses) (length words)) (leb (length (entries p.accesses)) places) p l refl e

-- an accepted start leaves the link that it names, and its length was good
start_accepted : (t s : Bool) (w : ℕ) (rest : List Access) (l l' : Link) → (on_start t s w rest l l').answer ≡ says 0 [] → ((on_start t s w rest l l').link ≡ l') × (s ≡ true)
start_accepted true s w rest l l' e = other-number 1 0 e (λ x. omega arith)
start_accepted false false w rest l l' e = other-number 6 0 e (λ x. omega arith)
start_accepted false true w rest l l' e = (refl, refl)

-- the book as an accepted start leaves it
abbrev opening : Role → Book
opening (master_writes bytes) = written bytes false blank
opening (slave_writes bytes) = blank
opening master_reads = opened by_read true blank
opening checks = blank
opening reads_errors = blank
opening shows_master = blank
opening other = blank

-- fed with a start answered 0, the blank book is that
role_opening : (r : Role) (x : Said) (g : List Access) → T (is_start r) → x ≡ says 0 [] → cond (is_refused x) blank (by_role r (is_done x) g blank) ≡ opening r
role_opening (master_writes bytes) x g t e = rw e
role_opening master_reads x g t e = rw e
role_opening (slave_writes bytes) x g t e = absurd t
role_opening checks x g t e = absurd t
role_opening reads_errors x g t e = absurd t
role_opening shows_master x g t e = absurd t
role_opening other x g t e = absurd t

-- and so is the book after an accepted start
fed_opening : (call : Call) (o : Outcome) (p : Plan) (l : Link) → T (is_start (role_of call)) → Accepted call o p l → feed (observed call o) blank ≡ opening (role_of call)
fed_opening call o p l t D = ap (λ (e : Observed). feed e blank) D.event ∙ role_opening (role_of call) p.answer p.accesses t D.answer

-- two links, each with a history of its own, that accept a start: errors and second-half lengths may differ
own_start : (r : Bool) (h₁ h₂ : ℕ) (l₁ l₂ : Link) → (T (not r) → h₁ ≡ h₂) → ltb 255 h₁ ≡ ltb 255 h₂ → length l₁.«data» ≡ 255 → length l₂.«data» ≡ 255 →
    Own false r l₁.errors l₂.errors h₁ h₂ l₁.«data» l₂.«data»
own_start r h₁ h₂ l₁ l₂ s p m₁ m₂ = record { errors = λ t. absurd t; second = s; possible = p; size = m₁ ∙ sym m₂; room = omega arith }

-- both second-half lengths are at most 255
both_possible : (l₁ l₂ : Link) → impossible l₁ ≡ false → impossible l₂ ≡ false → ltb 255 l₁.length_write_read ≡ ltb 255 l₂.length_write_read
unfolding impossible
both_possible l₁ l₂ q₁ q₂ =
    possible_second l₁.index l₁.length l₁.length_write_read l₁.watchdog q₁
    ∙ sym (possible_second l₂.index l₂.length l₂.length_write_read l₂.watchdog q₂)

-- they are twins after it
start_twins : (call : Call) (w v u w' v' u' : ℕ) (l₁ l₂ : Link) → T (is_start (role_of call)) →
    (plan_of call w v u l₁).answer ≡ says 0 [] → (plan_of call w' v' u' l₂).answer ≡ says 0 [] → impossible l₁ ≡ false → impossible l₂ ≡ false →
    length l₁.«data» ≡ 255 → length l₂.«data» ≡ 255 → Twins (opening (role_of call)) (plan_of call w v u l₁).link (plan_of call w' v' u' l₂).link
start_twins (master_write address bytes) w v u w' v' u' l₁ l₂ t a₁ a₂ p₁ p₂ m₁ m₂ =
    let s₁ = start_accepted (starting w) (good_length bytes) w _ l₁ _ a₁ in
    let s₂ = start_accepted (starting w') (good_length bytes) w' _ l₂ _ a₂ in
    subst₂ (λ (x y : Link). Twins (written bytes false blank) x y) (sym s₁.0) (sym s₂.0)
    (twins (new_transfer address (length bytes) no_marks)
    (written_agree blank l₁.«data» l₂.«data» bytes false (good_255 bytes s₁.1) (own_start false 0 0 l₁ l₂ (λ t. refl) refl m₁ m₂)))
start_twins (master_write_read address bytes n) w v u w' v' u' l₁ l₂ t a₁ a₂ p₁ p₂ m₁ m₂ =
    let s₁ = start_accepted (starting w) (good_length bytes) w _ l₁ _ a₁ in
    let s₂ = start_accepted (starting w') (good_length bytes) w' _ l₂ _ a₂ in
    subst₂ (λ (x y : Link). Twins (written bytes false blank) x y) (sym s₁.0) (sym s₂.0)
    (twins (new_transfer address (length bytes) no_marks)
    (written_agree blank l₁.«data» l₂.«data» bytes false (good_255 bytes s₁.1) (own_start false n n l₁ l₂ (λ t. refl) refl m₁ m₂)))
start_twins (master_read address n) w v u w' v' u' l₁ l₂ t a₁ a₂ p₁ p₂ m₁ m₂ =
    let s₁ = start_accepted (starting w) true w _ l₁ _ a₁ in
    let s₂ = start_accepted (starting w') true w' _ l₂ _ a₂ in
    let o = own_start true l₁.length_write_read l₂.length_write_read l₁ l₂ (λ t. absurd t) (both_possible l₁ l₂ p₁ p₂) m₁ m₂ in
    subst₂ (λ (x y : Link). Twins (opened by_read true blank) x y) (sym s₁.0) (sym s₂.0)
    (twins (new_transfer address n no_marks)
    (opened_agree blank by_read true (zeros_same n l₁.«data» l₂.«data» (m₁ ∙ sym m₂)) (own_over (replicate n 0) o)))
start_twins (slave_write bytes) w v u w' v' u' l₁ l₂ t a₁ a₂ p₁ p₂ m₁ m₂ = absurd t
start_twins check_isr_flags w v u w' v' u' l₁ l₂ t a₁ a₂ p₁ p₂ m₁ m₂ = absurd t
start_twins execute_watchdog w v u w' v' u' l₁ l₂ t a₁ a₂ p₁ p₂ m₁ m₂ = absurd t
start_twins get_errors_reset w v u w' v' u' l₁ l₂ t a₁ a₂ p₁ p₂ m₁ m₂ = absurd t
start_twins master_get_data w v u w' v' u' l₁ l₂ t a₁ a₂ p₁ p₂ m₁ m₂ = absurd t
start_twins slave_get_data w v u w' v' u' l₁ l₂ t a₁ a₂ p₁ p₂ m₁ m₂ = absurd t
start_twins get_address w v u w' v' u' l₁ l₂ t a₁ a₂ p₁ p₂ m₁ m₂ = absurd t
start_twins listen w v u w' v' u' l₁ l₂ t a₁ a₂ p₁ p₂ m₁ m₂ = absurd t
start_twins unlisten w v u w' v' u' l₁ l₂ t a₁ a₂ p₁ p₂ m₁ m₂ = absurd t
start_twins (slave_sbc on) w v u w' v' u' l₁ l₂ t a₁ a₂ p₁ p₂ m₁ m₂ = absurd t
start_twins (set_address address) w v u w' v' u' l₁ l₂ t a₁ a₂ p₁ p₂ m₁ m₂ = absurd t

-- Both starts open the same book and leave twins, and from there the lists end alike. That one run is not kept out is enough.
pub equal_ending : EqualEnding
equal_ending history₁ history₂ start words₁ words₂ places₁ places₂ steps t a₁ a₂ C₁ C₂ =
    let l₁ : Link = ran fresh history₁ in
    let l₂ : Link = ran fresh history₂ in
    let o₁ : Outcome = outcome (step_of start words₁ places₁) l₁ in
    let o₂ : Outcome = outcome (step_of start words₂ places₂) l₂ in
    let p₁ : Plan = plan_at (step_of start words₁ places₁) l₁ in
    let p₂ : Plan = plan_at (step_of start words₂ places₂) l₂ in
    let D₁ : Accepted start o₁ p₁ l₁ = accepted start words₁ places₁ l₁ a₁ in
    let D₂ : Accepted start o₂ p₂ l₂ = accepted start words₂ places₂ l₂ a₂ in
    let b₁ : Book = feed (observed start o₁) blank in
    let b₂ : Book = feed (observed start o₂) blank in
    let B₁ : b₁ ≡ opening (role_of start) = fed_opening start o₁ p₁ l₁ t D₁ in
    let B₂ : b₂ ≡ opening (role_of start) = fed_opening start o₂ p₂ l₂ t D₂ in
    let P : Twins (opening (role_of start)) p₁.link p₂.link =
    start_twins start _ _ _ _ _ _ l₁ l₂ t D₁.answer D₂.answer D₁.possible D₂.possible (history_room history₁) (history_room history₂) in
    let R : Twins b₁ o₁.link o₂.link = subst₃ (λ (b : Book) (x y : Link). Twins b x y) (sym B₁) (sym D₁.link) (sym D₂.link) P in
    let E = ending steps b₁ o₁.link o₂.link R C₁ in
    let G : b₁ ≡ b₂ = B₁ ∙ sym B₂ in
    (E.0 ∙ ap (λ (b : Book). compared b (seen o₂.link steps)) G, E.1, subst (λ (b : Book). AllSourced b (seen o₂.link steps)) G E.2, E.3)
