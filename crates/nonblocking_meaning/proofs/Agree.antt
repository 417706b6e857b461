-- What two links and the book have in common after one start, and how whatever can happen keeps it.
use Prim.Native.Nat.{ℕ, ◌+◌, ◌≤◌, ◌<◌}
use mathlib.Core.Path.{◌≡◌, refl, sym, ◌∙◌, ap}
use mathlib.Core.Logic.{◌≢◌}
use mathlib.Core.Bool.{Bool, true, false, not, cond}
use mathlib.Core.Option.{Option, some}
use mathlib.Core.List.{List}
use native.Mathlib.Omega.{arith}
use lib.ListN.{length, get_or, take, set, length-set}
use lib.Seq.{get_or-set_same, get_or-set_other}
use lib.Dec.{T, eqb, ltb}
use borrow.Author.Tests.{ltb-true, eqb-true, eqb-false}
use Rattle.registers.specs.CallLog.{over}
use Rattle.registers.proofs.HandedOn.{over_length}
use Rattle.nonblocking_meaning.specs.Link.{Link}
use Rattle.nonblocking_meaning.specs.Link.{Common, link_of}
use Rattle.nonblocking_meaning.specs.Plan.{raised}
use Rattle.nonblocking_meaning.specs.Book.{Book, Receiving, closed, by_read, by_bus, is_open, empty, written, opened, put_at, filled, with_errors_read, risen}
use Rattle.nonblocking_meaning.proofs.Lists.{none-some, set_same, over_put, element, take_same, in_front, front_at}

-- a place of the book holds a byte
abbrev pub Filled : (ℕ → Option ℕ) → ℕ → Type 0
Filled place j = (byte : ℕ) × (place j ≡ some byte)

-- What is known of the bytes past the index. Not receiving: n of the last accepted write is the length, and each place below it is filled.
-- Receiving that a `master_read` opened: below the length both links hold the same. Receiving that ADDR or TC opened: nothing.
abbrev pub Phase : Receiving → (ℕ → Option ℕ) → ℕ → ℕ → List ℕ → List ℕ → Type 0
Phase closed place count n d₁ d₂ = (count ≡ n) × ((j : ℕ) → j < n → Filled place j)
Phase by_read place count n d₁ d₂ = (j : ℕ) → j < n → get_or d₁ j 0 ≡ get_or d₂ j 0
Phase by_bus place count n d₁ d₂ = Unit {0}

-- What each link has of its own, beside a book: errors e, second-half length h and bytes d.
pub record Own (errors_read after_read : Bool) (e₁ e₂ h₁ h₂ : ℕ) (d₁ d₂ : List ℕ) : Type 0 where
  -- the errors of the history count until they are told
  pub errors : T errors_read → e₁ ≡ e₂
  -- a `master_read` keeps the second-half length of the history; either way both links are possible, or both are not
  pub second : T (not after_read) → h₁ ≡ h₂
  pub possible : ltb 255 h₁ ≡ ltb 255 h₂
  pub size : length d₁ ≡ length d₂
  pub room : 255 ≤ length d₁

-- The book beside two links with index i and length n each.
pub record Agree (b : Book) (i n e₁ e₂ h₁ h₂ : ℕ) (d₁ d₂ : List ℕ) : Type 0 where
  -- the next place is the index, and all places below it are filled
  pub next : b.next ≡ i
  pub below : (j : ℕ) → j < i → Filled b.place j
  -- what the book holds, both links hold at the same place
  pub held : (j v : ℕ) → b.place j ≡ some v → (get_or d₁ j 0 ≡ v) × (get_or d₂ j 0 ≡ v)
  pub phase : Phase b.receiving b.place b.count n d₁ d₂
  pub own : Own b.errors_read b.after_read e₁ e₂ h₁ h₂ d₁ d₂

-- two links that share their common part and agree beside the book
pub data Twins (b : Book) : Link → Link → Type 0 where
  twins : (c : Common) {e₁ e₂ h₁ h₂ : ℕ} {d₁ d₂ : List ℕ} → Agree b c.index c.length e₁ e₂ h₁ h₂ d₁ d₂ →
      Twins b (link_of c e₁ h₁ d₁) (link_of c e₂ h₂ d₂)

-- a place stays filled as a byte is put somewhere
put_filled : (place : ℕ → Option ℕ) (v j : ℕ) (t : Bool) → Filled place j → (u : ℕ) × (cond t (some v) (place j) ≡ some u)
put_filled place v j true f = (v, refl)
put_filled place v j false f = f

-- only the errors change
own_errors : {p q r : Bool} {e₁ e₂ f₁ f₂ h₁ h₂ : ℕ} {d₁ d₂ : List ℕ} → Own p r e₁ e₂ h₁ h₂ d₁ d₂ → (T q → f₁ ≡ f₂) → Own q r f₁ f₂ h₁ h₂ d₁ d₂
own_errors o p = record { errors = p; second = o.second; possible = o.possible; size = o.size; room = o.room }

-- only the bytes change, and no list its length
own_bytes : {p r : Bool} {e₁ e₂ h₁ h₂ : ℕ} {c₁ c₂ d₁ d₂ : List ℕ} → Own p r e₁ e₂ h₁ h₂ c₁ c₂ → length d₁ ≡ length c₁ → length d₂ ≡ length c₂ → Own p r e₁ e₂ h₁ h₂ d₁ d₂
own_bytes o x y = record { errors = o.errors; second = o.second; possible = o.possible; size = x ∙ o.size ∙ sym y; room = rw x o.room }

-- a list laid over the bytes of both
pub own_over : {p r : Bool} {e₁ e₂ h₁ h₂ : ℕ} {d₁ d₂ : List ℕ} (xs : List ℕ) → Own p r e₁ e₂ h₁ h₂ d₁ d₂ → Own p r e₁ e₂ h₁ h₂ (over xs d₁) (over xs d₂)
own_over {d₁ = d₁} {d₂ = d₂} xs o = own_bytes o (over_length xs d₁) (over_length xs d₂)

module _ {b : Book} {i n e₁ e₂ h₁ h₂ : ℕ} {d₁ d₂ : List ℕ} where
  -- other errors, which are the same in both if they were told
  pub with_errors : {f₁ f₂ : ℕ} → Agree b i n e₁ e₂ h₁ h₂ d₁ d₂ → (T b.errors_read → f₁ ≡ f₂) → Agree b i n f₁ f₂ h₁ h₂ d₁ d₂
  with_errors A p = record { next = A.next; below = A.below; held = A.held; phase = A.phase; own = own_errors A.own p }

  -- the errors are told: both counts are 0
  pub errors_agree : Agree b i n e₁ e₂ h₁ h₂ d₁ d₂ → Agree (with_errors_read b) i n 0 0 h₁ h₂ d₁ d₂
  errors_agree A = record { next = A.next; below = A.below; held = A.held; phase = A.phase; own = own_errors A.own (λ t. refl) }

  -- at a filled place both links hold the same byte
  pub both_at : Agree b i n e₁ e₂ h₁ h₂ d₁ d₂ → (j : ℕ) → Filled b.place j → get_or d₁ j 0 ≡ get_or d₂ j 0
  both_at A j (v, p) = (A.held j v p).0 ∙ sym (A.held j v p).1

  -- the bytes below the index are the same in both links
  pub front_same : Agree b i n e₁ e₂ h₁ h₂ d₁ d₂ → take i d₁ ≡ take i d₂
  front_same A = take_same i d₁ d₂ A.own.size (λ j k. both_at A j (A.below j k))

  -- each of them is in the book, at its place
  pub front_place₁ : Agree b i n e₁ e₂ h₁ h₂ d₁ d₂ → (j : ℕ) → j < length (take i d₁) → b.place j ≡ some (get_or (take i d₁) j 0)
  front_place₁ A j k = let (v, p) = A.below j (in_front i d₁ j k) in p ∙ ap {B = Option ℕ} some (sym (A.held j v p).0 ∙ sym (front_at i d₁ j k))

  pub front_place₂ : Agree b i n e₁ e₂ h₁ h₂ d₁ d₂ → (j : ℕ) → j < length (take i d₂) → b.place j ≡ some (get_or (take i d₂) j 0)
  front_place₂ A j k = let (v, p) = A.below j (in_front i d₂ j k) in p ∙ ap {B = Option ℕ} some (sym (A.held j v p).1 ∙ sym (front_at i d₂ j k))

  -- next and the index rise alike while not receiving
  pub risen_agree : (r : Receiving) → Phase r b.place b.count n d₁ d₂ → T (not (is_open r)) → (t : Bool) → ltb i n ≡ t →
      Agree b i n e₁ e₂ h₁ h₂ d₁ d₂ → Agree (risen r b) (raised t i) n e₁ e₂ h₁ h₂ d₁ d₂
  risen_agree closed ph c true q A =
      record {
        next = rw (A.next, ph.0, q);
        below = λ j k. ph.1 j (omega (arith, ltb-true i n q));
        held = A.held;
        phase = A.phase;
        own = A.own;
      }
  risen_agree closed ph c false q A =
      record {
        next = rw (A.next, ph.0, q);
        below = A.below;
        held = A.held;
        phase = A.phase;
        own = A.own;
      }
  risen_agree by_read ph c t q A = absurd c
  risen_agree by_bus ph c t q A = absurd c

  -- A byte v is read: it goes to the next place and, in both links, to the index. What the book then holds, both links hold
  put_held : (v j u : ℕ) (t : Bool) → eqb j b.next ≡ t → i < n → n ≤ 255 → Agree b i n e₁ e₂ h₁ h₂ d₁ d₂ →
      cond t (some v) (b.place j) ≡ some u → (get_or (set d₁ i v) j 0 ≡ u) × (get_or (set d₂ i v) j 0 ≡ u)
  put_held v j u true q l k A p =
      let s : j ≡ i = eqb-true j b.next q ∙ A.next in
      let x : v ≡ u = cc in
      (rw s (get_or-set_same d₁ i v 0 (omega (arith, A.own.room)) ∙ x), rw s (get_or-set_same d₂ i v 0 (omega (arith, A.own.room, A.own.size)) ∙ x))
  put_held v j u false q l k A p =
      let s : j ≢ i = λ e. eqb-false j b.next q (e ∙ sym A.next) in
      (get_or-set_other d₁ i j v 0 s ∙ (A.held j u p).0, get_or-set_other d₂ i j v 0 s ∙ (A.held j u p).1)

  -- the places below the risen index are filled
  put_below : (v j : ℕ) (t : Bool) → eqb j b.next ≡ t → Agree b i n e₁ e₂ h₁ h₂ d₁ d₂ → j < i + 1 → (u : ℕ) × (cond t (some v) (b.place j) ≡ some u)
  put_below v j true q A h = (v, refl)
  put_below v j false q A h = A.below j (omega (arith, A.next, let s : j ≢ b.next = eqb-false j b.next q in s))

  -- and what is known of the bytes past the index still is
  put_phase : (v : ℕ) (r : Receiving) → i < n → n ≤ 255 → Agree b i n e₁ e₂ h₁ h₂ d₁ d₂ → Phase r b.place b.count n d₁ d₂ →
      Phase r (put_at b.next v b.place) b.count n (set d₁ i v) (set d₂ i v)
  put_phase v closed l k A ph = (ph.0, λ j h. put_filled b.place v j (eqb j b.next) (ph.1 j h))
  put_phase v by_read l k A ph = λ j h. set_same d₁ d₂ i v j (eqb j i) refl (omega (arith, A.own.room)) (omega (arith, A.own.room, A.own.size)) (ph j h)
  put_phase v by_bus l k A ph = tt

  -- so all of it is kept as a byte is read
  pub filled_agree : (v : ℕ) → i < n → n ≤ 255 → Agree b i n e₁ e₂ h₁ h₂ d₁ d₂ → Agree (filled v b) (i + 1) n e₁ e₂ h₁ h₂ (set d₁ i v) (set d₂ i v)
  filled_agree v l k A =
      record {
        next = rw A.next;
        below = λ j h. put_below v j (eqb j b.next) refl A h;
        held = λ j u p. put_held v j u (eqb j b.next) refl l k A p;
        phase = put_phase v b.receiving l k A A.phase;
        own = own_bytes A.own (length-set d₁ i v) (length-set d₂ i v);
      }

-- receiving opens: no place is filled
pub opened_agree : (b : Book) {n e₁ e₂ h₁ h₂ : ℕ} {d₁ d₂ : List ℕ} (r : Receiving) (after_read : Bool) → Phase r empty b.count n d₁ d₂ →
    Own b.errors_read after_read e₁ e₂ h₁ h₂ d₁ d₂ → Agree (opened r after_read b) 0 n e₁ e₂ h₁ h₂ d₁ d₂
opened_agree b r after_read ph o =
    record { next = refl; below = λ j h. absurd (omega arith); held = λ j v p. none-some p; phase = ph; own = o }

-- an accepted write: its bytes are in the book and in both links
pub written_agree : (b : Book) {e₁ e₂ h₁ h₂ : ℕ} (d₁ d₂ : List ℕ) (bytes : List ℕ) (after_read : Bool) → length bytes ≤ 255 →
    Own b.errors_read after_read e₁ e₂ h₁ h₂ d₁ d₂ → Agree (written bytes after_read b) 0 (length bytes) e₁ e₂ h₁ h₂ (over bytes d₁) (over bytes d₂)
written_agree b d₁ d₂ bytes after_read k o =
    record {
      next = refl;
      below = λ j h. absurd (omega arith);
      held = λ j v p. (over_put bytes d₁ j v (omega (arith, o.room)) p, over_put bytes d₂ j v (omega (arith, o.room, o.size)) p);
      phase = (refl, λ j h. element bytes j h);
      own = own_over bytes o;
    }
