-- A token of BYTES.
use Rattle.std.proofs.Common.{◌≡◌, ℕ, ◌+◌, ◌^◌, ◌<◌, Bool, true, false, ◌&&◌, ◌||◌, not, cond, leb, ltb, List, [], ◌∷◌, length, replicate, Option, Some, None, option_and_then, option_map, Bor, refl, sym, ◌∙◌, ⊎_elim, arith, rules, tests}
use Rattle.std.proofs.lemmas.Grind.{common_steps}
use Rattle.std.proofs.lemmas.Bool.{cases_lt, and_parts}
use Rattle.std.proofs.lemmas.Option.{MatchOption-at_some, MatchOption-at_none, cond_some}
use Rattle.std.proofs.lemmas.Str.Pattern.{IsSplitOnceResult, split_once_first}
use Rattle.std.specs.Bool.{then_some}
use Rattle.std.specs.Char.{is_digit}
use Rattle.std.specs.List.{list_all, list_any, position_or_len}
use Rattle.std.specs.Result.{OkIff}
use Rattle.std.specs.Str.{bytes_eq}
use Rattle.std.specs.Str.Parse.{AllDigits, digits_value}
use Rattle.script.specs.Bytes.{pair_byte, some_pairs_bytes, count_number, bytes_of, repeated_bytes, is_x, token_bytes, token_bytes_up_to}
use Rattle.script.specs.declared.text.bytes.Bytes.{Bytes}
use Rattle.script.specs.Numbers.{IsNumber, ReadsNumber}

has_x : (token : List ℕ) → position_or_len is_x token < length token → list_any is_x token ≡ true
has_x [] h = absurd (omega (arith, h))
has_x (c ∷ token) h = elim (is_x c) as (λ b. cond (not b) (1 + position_or_len is_x token) 0 < length (c ∷ token) → (b || list_any is_x token) ≡ true) [ true ↦ λ _. refl | false ↦ λ more. has_x token (omega (arith, more)) ] h

no_x : (token : List ℕ) → position_or_len is_x token ≡ length token → list_any is_x token ≡ false
no_x [] h = refl
no_x (c ∷ token) h = elim (is_x c) as (λ b. cond (not b) (1 + position_or_len is_x token) 0 ≡ length (c ∷ token) → (b || list_any is_x token) ≡ false) [ true ↦ λ none. absurd (omega (arith, none)) | false ↦ λ more. no_x token (omega (arith, more)) ] h

pub token_bytes-split : (token : List ℕ) (r : Option (Bor (List ℕ) × Bor (List ℕ))) (x : Bor (List ℕ) × Bor (List ℕ)) → IsSplitOnceResult 120 token r → r ≡ Some x → token_bytes token ≡ repeated_bytes x.0.now x.1.now
unfolding token_bytes
token_bytes-split token r x split is =
    let h = MatchOption-at_some _ _ x is (split_once_first 120 token r split (omega arith)) in
    rw h.1 (rw h.2 (rw (has_x token h.0) refl))

pub token_bytes-whole : (token : List ℕ) (r : Option (Bor (List ℕ) × Bor (List ℕ))) → IsSplitOnceResult 120 token r → r ≡ None → token_bytes token ≡ cond (bytes_eq token (45 ∷ [])) (Some []) (some_pairs_bytes token)
unfolding token_bytes
token_bytes-whole token r split is =
    let h = MatchOption-at_none _ _ is (split_once_first 120 token r split (omega arith)) in
    rw (no_x token h) refl

all_decimal : (ds : List ℕ) → AllDigits 10 ds → list_all (λ c. is_digit c 10) ds ≡ true
all_decimal [] h = refl
all_decimal (c ∷ ds) h = let more = all_decimal ds h.1 in search (rules, tests)

decimal_all : (ds : List ℕ) → list_all (λ c. is_digit c 10) ds ≡ true → AllDigits 10 ds
decimal_all [] h = tt
decimal_all (c ∷ ds) h =
    let parts = and_parts (is_digit c 10) (list_all (λ c. is_digit c 10) ds) h in
    (search (rules, tests), decimal_all ds parts.1)

pub count_number-of : (ds : List ℕ) → IsNumber 10 20 ds → count_number ds ≡ Some (digits_value 10 ds)
count_number-of ds h = let all = all_decimal ds h.0.1 in grind (arith, common_steps)

count_number-some : (ds : List ℕ) (n : ℕ) → count_number ds ≡ Some n → n < 2 ^ 64 → IsNumber 10 20 ds × (digits_value 10 ds ≡ n)
count_number-some ds n h fits =
    let found = cond_some (ltb 0 (length ds) && leb (length ds) 20 && list_all (λ c. is_digit c 10) ds) _ _ h in
    let last = and_parts (ltb 0 (length ds) && leb (length ds) 20) (list_all (λ c. is_digit c 10) ds) found.0 in
    let sizes = and_parts (ltb 0 (length ds)) (leb (length ds) 20) last.0 in
    (((search (rules, tests), decimal_all ds last.1), search (rules, tests), grind arith), found.1)

-- no hex pair before the `x`
pub none-no_pair : (most : ℕ) (token pair count : List ℕ) → token_bytes token ≡ repeated_bytes pair count → pair_byte pair ≡ None → token_bytes_up_to most token ≡ None
unfolding token_bytes_up_to
none-no_pair most token pair count split none = rw split (rw none refl)

repeated_over : (most : ℕ) (b n : Option ℕ) → ((k : ℕ) → n ≡ Some k → most < k) → option_and_then (λ bytes. cond (leb (length bytes) most) (Some bytes) None) (option_and_then (λ byte. option_and_then (λ number. Some (replicate number byte)) n) b) ≡ None
repeated_over most None n over = refl
repeated_over most (Some byte) None over = refl
repeated_over most (Some byte) (Some k) over = let far = over k refl in grind (arith, common_steps)

-- no count after it, or one of more than 64 bits
pub none-no_count : (E : Type 0) (most : ℕ) (token pair count : List ℕ) (r : Option ℕ) → token_bytes token ≡ repeated_bytes pair count → ReadsNumber {E = E} (λ n r. OkIff r (n < 2 ^ 64) n) 10 20 count r → r ≡ None → most < 2 ^ 64 → token_bytes_up_to most token ≡ None
unfolding token_bytes_up_to
none-no_count E most token pair count r split reads none fits =
    let refused = MatchOption-at_none _ _ none reads in
    rw split (repeated_over most (pair_byte pair) (count_number count) (λ k is. over k is refused))
  where
    over : (k : ℕ) → count_number count ≡ Some k → (IsNumber 10 20 count → E × ¬ (digits_value 10 count < 2 ^ 64)) → most < k
    over k is refused = ⊎_elim (λ small. let number = count_number-some count k is small in absurd ((refused number.0).1 number.0.2)) (λ large. omega (arith, large)) (cases_lt k (2 ^ 64))

-- neither `-` nor pairs
pub none-no_pairs : (most : ℕ) (token : List ℕ) (dash : Bool) → token_bytes token ≡ cond (bytes_eq token (45 ∷ [])) (Some []) (some_pairs_bytes token) → dash ≡ bytes_eq token (45 ∷ []) → dash ≡ false → some_pairs_bytes token ≡ None → token_bytes_up_to most token ≡ None
unfolding token_bytes_up_to
none-no_pairs most token dash whole is untrue none = rw whole (rw (sym is ∙ untrue) (rw none refl))

pub repeated-split : (token pair count : List ℕ) (byte number : ℕ) → token_bytes token ≡ repeated_bytes pair count → pair_byte pair ≡ Some byte → count_number count ≡ Some number → token_bytes token ≡ Some (replicate number byte)
repeated-split token pair count byte number split is_pair is_count = rw split (rw is_pair (rw is_count refl))

pub token_bytes-dash : (token : List ℕ) (dash : Bool) → token_bytes token ≡ cond (bytes_eq token (45 ∷ [])) (Some []) (some_pairs_bytes token) → dash ≡ bytes_eq token (45 ∷ []) → dash ≡ true → token_bytes token ≡ Some []
token_bytes-dash token dash whole is true_now = rw whole (rw (sym is ∙ true_now) refl)

pub token_bytes-pairs : (token : List ℕ) (dash : Bool) → token_bytes token ≡ cond (bytes_eq token (45 ∷ [])) (Some []) (some_pairs_bytes token) → dash ≡ bytes_eq token (45 ∷ []) → dash ≡ false → token_bytes token ≡ some_pairs_bytes token
token_bytes-pairs token dash whole is untrue = rw whole (rw (sym is ∙ untrue) refl)

-- what `of` gives of the bytes that it has read
pub kept : (most n : ℕ) (token : List ℕ) (bytes : Bytes) (r : Option Bytes) → token_bytes token ≡ Some (bytes_of bytes) → n ≡ length (bytes_of bytes) → r ≡ then_some (leb n most) bytes → option_map bytes_of r ≡ token_bytes_up_to most token
unfolding token_bytes_up_to
kept most n token bytes r read counted is = rw is (rw counted (rw read (by_test (leb (length (bytes_of bytes)) most))))
  where
    by_test : (b : Bool) → option_map bytes_of (then_some b bytes) ≡ cond b (Some (bytes_of bytes)) None
    by_test true = refl
    by_test false = refl
