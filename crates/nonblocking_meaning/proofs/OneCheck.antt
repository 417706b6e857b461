-- What follows the ISR read of a check, made of two links that agree: it is seen alike, it feeds the book alike, and the links agree after it.
use Prim.Native.Nat.{ℕ, ◌+◌, ◌≤◌, ◌<◌}
use mathlib.Core.Path.{◌≡◌, refl, ap, subst}
use mathlib.Core.Bool.{Bool, true, false, not, cond, ◌&&◌}
use mathlib.Core.List.{List, [], ◌∷◌}
use native.Mathlib.Omega.{arith}
use lib.ListN.{length, get_or}
use lib.Dec.{T, eqb, ltb}
use borrow.Author.Tests.{ltb-true}
use Rattle.registers.specs.declared.flag_order.Flag.{Flag}
use Rattle.registers.specs.declared.flag_order.Flag.TheVariants.{Berr, Arlo, Nackf, Txis, Rxne, Stopf, Tc, Tcr, Addr, Nothing}
use Rattle.registers.specs.Layout.{CR2, TXDR, DIR, RXNE, ◌has◌}
use Rattle.registers.specs.Words.{sadd16, started, sent, received}
use Rattle.registers.specs.CallLog.{Access, write, reads, entries}
use Rattle.registers.specs.Answers.{Said, says}
use Rattle.nonblocking_meaning.specs.Link.{Link}
use Rattle.nonblocking_meaning.specs.Link.{one_more}
use Rattle.nonblocking_meaning.specs.Link.{Common, link_of, new_transfer, same_transfer, at_index, with_watchdog, addressed}
use Rattle.nonblocking_meaning.specs.Call.{Call, check_isr_flags}
use Rattle.nonblocking_meaning.specs.Plan.{Plan, raised, on_txis, on_full, on_rxne, on_stopf, on_tc_at, on_addr, on_flag}
use Rattle.nonblocking_meaning.specs.Book.{Book, Observed, Receiving, closed, by_read, by_bus, is_open, opened, risen, by_flag, is_refused, clean_flag}
use Rattle.nonblocking_meaning.specs.EqualEnding.{Sourced}
use Rattle.nonblocking_meaning.proofs.StartSet.{start_set}
use Rattle.nonblocking_meaning.proofs.Agree.{Phase, Agree, Twins, twins, with_errors, both_at, front_same, front_place₁, front_place₂, risen_agree, filled_agree, opened_agree}

-- a call that does what the plan says, as it is seen
abbrev pub seen_as : Call → Plan → Observed
seen_as call p = record { call = call; answer = p.answer; accesses = p.accesses; shown = p.shown }

-- the two plans after an ISR word that is taken as f and not kept out
pub record SameTail (f : Flag) (isr : ℕ) (b : Book) (p₁ p₂ : Plan) : Type 0 where
  pub accesses : p₁.accesses ≡ p₂.accesses
  pub answer : p₁.answer ≡ p₂.answer
  pub shown : p₁.shown ≡ p₂.shown
  pub links : Twins (cond (is_refused p₁.answer) b (by_flag f isr p₁.accesses b)) p₁.link p₂.link
  pub sourced₁ : Sourced (seen_as check_isr_flags p₁) b
  pub sourced₂ : Sourced (seen_as check_isr_flags p₂) b

-- whether it is kept out or not, both take as many words and as many places
pub record Tail (f : Flag) (isr : ℕ) (b : Book) (p₁ p₂ : Plan) : Type 0 where
  pub words : reads p₁.accesses ≡ reads p₂.accesses
  pub places : length (entries p₁.accesses) ≡ length (entries p₂.accesses)
  pub same : T (clean_flag f b) → SameTail f isr b p₁ p₂

-- both of two tests that hold together; the library's `and_parts` says it of `≡ true`, not of `T`
pub and_left : (x y : Bool) → T (x && y) → T x
and_left true y t = tt
and_left false y t = t

pub and_right : (x y : Bool) → T (x && y) → T y
and_right true y t = t
and_right false y t = absurd t

-- where no byte is shown, there is none without a source
pub nothing_shown : (call : Call) (accesses : List Access) (answer : Said) (b : Book) → Sourced (record { call = call; answer = answer; accesses = accesses; shown = [] }) b
nothing_shown call accesses answer b = λ t j h. absurd (omega arith)

-- the same accesses and the same answer, and no byte shown: only the links are left to prove
even : (f : Flag) (isr : ℕ) (b : Book) (g : List Access) (x : Said) (k₁ k₂ : Link) →
    (T (clean_flag f b) → Twins (cond (is_refused x) b (by_flag f isr g b)) k₁ k₂) →
    Tail f isr b (record { accesses = g; answer = x; link = k₁; shown = [] }) (record { accesses = g; answer = x; link = k₂; shown = [] })
even f isr b g x k₁ k₂ t =
    record {
      words = refl;
      places = refl;
      same = λ c. record {
        accesses = refl;
        answer = refl;
        shown = refl;
        links = t c;
        sourced₁ = nothing_shown check_isr_flags g x b;
        sourced₂ = nothing_shown check_isr_flags g x b;
      };
    }

module _ (b : Book) (c : Common) (e₁ e₂ h₁ h₂ : ℕ) (d₁ d₂ : List ℕ) (A : Agree b c.index c.length e₁ e₂ h₁ h₂ d₁ d₂) (k : c.length ≤ 255) where
  -- the two links
  abbrev left : Link
  left = link_of c e₁ h₁ d₁

  abbrev right : Link
  right = link_of c e₂ h₂ d₂

  -- one more error in both
  one_more_lem : T b.errors_read → one_more e₁ ≡ one_more e₂
  one_more_lem t = ap one_more (A.own.errors t)

  -- while not receiving, the byte at an index below the length is the same
  sent-same : (r : Receiving) → Phase r b.place b.count c.length d₁ d₂ → T (not (is_open r)) → c.index < c.length → get_or d₁ c.index 0 ≡ get_or d₂ c.index 0
  sent-same closed ph t l = both_at A c.index (ph.1 c.index l)
  sent-same by_read ph t l = absurd t
  sent-same by_bus ph t l = absurd t

  -- TXIS: the same byte is sent, and next and index rise alike
  txis_tail : (isr : ℕ) (t : Bool) → ltb c.index c.length ≡ t → Tail Txis isr b (on_txis t left) (on_txis t right)
  txis_tail isr true q =
      record {
        words = refl;
        places = refl;
        same = λ x. record {
          accesses = ap {B = List Access} (λ byte. write TXDR (sent byte) ∷ []) (sent-same b.receiving A.phase x (ltb-true c.index c.length q));
          answer = refl;
          shown = refl;
          links = twins (at_index (c.index + 1) c) (risen_agree b.receiving A.phase x true q A);
          sourced₁ = λ t. absurd t;
          sourced₂ = λ t. absurd t;
        };
      }
  txis_tail isr false q = even Txis isr b [] (says 1 []) left right (λ x. twins c (risen_agree b.receiving A.phase x false q A))

  -- RXNE with a full index changes nothing; with another the byte read goes to the same place in the book and in both links
  full_tail : (isr v u : ℕ) (t : Bool) → Tail Rxne isr b (on_full t v u left) (on_full t v u right)
  full_tail isr v u true = even Rxne isr b _ _ left right (λ x. twins c A)
  full_tail isr v u false = even Rxne isr b _ _ left right (λ x. twins c A)

  rxne_tail : (isr v u : ℕ) (t : Bool) → ltb c.index c.length ≡ t → Tail Rxne isr b (on_rxne t v u left) (on_rxne t v u right)
  rxne_tail isr v u true q =
      even Rxne isr b _ _ _ _ (λ x. twins (at_index (c.index + 1) c) (filled_agree (received v) (ltb-true c.index c.length q) k A))
  rxne_tail isr v u false q = full_tail isr v u (v has RXNE)

  -- STOPF: one more error; or Data, with the bytes below the index, which are in the book
  stopf_tail : (isr : ℕ) (t : Bool) → Tail Stopf isr b (on_stopf t isr left) (on_stopf t isr right)
  stopf_tail isr true = even Stopf isr b _ _ _ _ (λ x. twins (with_watchdog 0 c) (with_errors A one_more_lem))
  stopf_tail isr false =
      record {
        words = refl;
        places = refl;
        same = λ x. record {
          accesses = refl;
          answer = refl;
          shown = front_same A;
          links = twins (with_watchdog 0 c) A;
          sourced₁ = λ t. front_place₁ A;
          sourced₂ = λ t. front_place₂ A;
        };
      }

  -- ADDR: with DIR set nothing but address and watchdog changes; else receiving opens
  addr_tail : (isr v : ℕ) (t : Bool) → isr has DIR ≡ t → Tail Addr isr b (on_addr t isr v left) (on_addr t isr v right)
  addr_tail isr v true q = even Addr isr b _ _ _ _ (λ x. rw q (twins (addressed _ c) A))
  addr_tail isr v false q = even Addr isr b _ _ _ _ (λ x. rw q (twins (new_transfer _ 255 c.marks) (opened_agree b by_bus b.after_read tt A.own)))

  -- TC: the index is risen to i before it is compared. The second half begins: its length is the same in both, for no `master_read` came since the
  -- last write of a master; receiving opens. Or the frame is short.
  tc_tail : (isr v i : ℕ) (t : Bool) → (T (not (is_open b.receiving)) → Agree (risen b.receiving b) i c.length e₁ e₂ h₁ h₂ d₁ d₂) →
      Tail Tc isr b (on_tc_at t i v left) (on_tc_at t i v right)
  tc_tail isr v i true R =
      record {
        words = refl;
        places = refl;
        same = λ x.
            let G = R (and_left (not (is_open b.receiving)) (not b.after_read) x) in
            let s : h₁ ≡ h₂ = A.own.second (and_right (not (is_open b.receiving)) (not b.after_read) x) in
            let b' : Book = risen b.receiving b in
            record {
              accesses = ap {B = List Access} (λ n. write CR2 (started 0 (sadd16 c.address) n true true) ∷ []) s;
              answer = refl;
              shown = refl;
              links = rw (start_set (sadd16 c.address) h₁ true true)
                  (subst (λ (n : ℕ). Twins (opened by_bus b'.after_read b') (link_of (same_transfer h₁ c) e₁ 0 d₁) (link_of (same_transfer n c) e₂ 0 d₂)) s
                  (twins (same_transfer h₁ c)
                  (opened_agree b' by_bus b'.after_read tt
                  (record { errors = G.own.errors; second = λ t. refl; possible = refl; size = A.own.size; room = A.own.room }))));
              sourced₁ = λ t. absurd t;
              sourced₂ = λ t. absurd t;
            };
      }
  tc_tail isr v i false R =
      even Tc isr b _ _ _ _
      (λ x. let G = R (and_left (not (is_open b.receiving)) (not b.after_read) x) in twins (at_index i c) (with_errors G (λ t. ap one_more (G.own.errors t))))

  -- each flag; the others change at most the errors
  pub flag_tail : (f : Flag) (isr v u : ℕ) → Tail f isr b (on_flag f isr v u left) (on_flag f isr v u right)
  flag_tail Berr isr v u = even Berr isr b _ _ _ _ (λ x. twins c (with_errors A one_more_lem))
  flag_tail Arlo isr v u = even Arlo isr b _ _ _ _ (λ x. twins c A)
  flag_tail Nackf isr v u = even Nackf isr b _ _ _ _ (λ x. twins c A)
  flag_tail Txis isr v u = txis_tail isr (ltb c.index c.length) refl
  flag_tail Rxne isr v u = rxne_tail isr v u (ltb c.index c.length) refl
  flag_tail Stopf isr v u = stopf_tail isr (eqb c.index 0)
  flag_tail Tc isr v u =
      let i : ℕ = raised (ltb c.index c.length) c.index in
      tc_tail isr v i (eqb i c.length) (λ x. risen_agree b.receiving A.phase x (ltb c.index c.length) refl A)
  flag_tail Tcr isr v u = even Tcr isr b _ _ _ _ (λ x. twins c A)
  flag_tail Addr isr v u = addr_tail isr v (isr has DIR) refl
  flag_tail Nothing isr v u = even Nothing isr b _ _ _ _ (λ x. twins c A)
