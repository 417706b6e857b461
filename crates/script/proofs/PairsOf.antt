-- A token cut into pairs.
use Rattle.std.proofs.Common.{◌≡◌, ◌≢◌, ℕ, zero, suc, ◌+◌, ◌*◌, ◌/◌, ◌%◌, Bool, true, false, ◌&&◌, cond, is_some, List, [], ◌∷◌, length, map, Option, Some, None, option_and_then, unwrap_or, refl, sym, arith, rules}
use Rattle.std.specs.List.{list_all}
use Rattle.std.specs.Simd.{first_chunks}
use Rattle.script.specs.Bytes.{pair_byte, pairs_bytes, some_pairs_bytes}

abbrev pub is_pair : List ℕ → Bool
is_pair pair = is_some (pair_byte pair)

abbrev pub byte_or_zero : List ℕ → ℕ
byte_or_zero pair = unwrap_or (pair_byte pair) 0

one_more : (o : Option ℕ) (p : Option (List ℕ)) (rest : Bool) (bytes : List ℕ) → p ≡ cond rest (Some bytes) None → option_and_then (λ byte. option_and_then (λ bytes. Some (byte ∷ bytes)) p) o ≡ cond (is_some o && rest) (Some (unwrap_or o 0 ∷ bytes)) None
one_more None p rest bytes e = refl
one_more (Some byte) p true bytes e = search rules
one_more (Some byte) p false bytes e = search rules

none_more : (o : Option ℕ) (p : Option (List ℕ)) → p ≡ None → option_and_then (λ byte. option_and_then (λ bytes. Some (byte ∷ bytes)) p) o ≡ None
none_more None p e = refl
none_more (Some byte) p e = search rules

-- a token of so many pairs
even_pairs : (k : ℕ) (token : List ℕ) → length token ≡ k * 2 → pairs_bytes token ≡ cond (list_all is_pair (first_chunks 2 k token)) (Some (map byte_or_zero (first_chunks 2 k token))) None
even_pairs zero [] e = refl
even_pairs zero (c ∷ token) e = absurd (omega arith)
even_pairs (suc k) [] e = absurd (omega arith)
even_pairs (suc k) (c ∷ []) e = absurd (omega arith)
even_pairs (suc k) (high ∷ low ∷ token) e = one_more (pair_byte (high ∷ low ∷ [])) (pairs_bytes token) (list_all is_pair (first_chunks 2 k token)) (map byte_or_zero (first_chunks 2 k token)) (even_pairs k token (omega arith))

-- a digit too many
odd_pairs : (k : ℕ) (token : List ℕ) → length token ≡ k * 2 + 1 → pairs_bytes token ≡ None
odd_pairs k [] e = absurd (omega arith)
odd_pairs k (c ∷ []) e = refl
odd_pairs zero (high ∷ low ∷ token) e = absurd (omega arith)
odd_pairs (suc k) (high ∷ low ∷ token) e = none_more (pair_byte (high ∷ low ∷ [])) (pairs_bytes token) (odd_pairs k token (omega arith))

pub none-too_few : (token : List ℕ) → length token / 2 ≡ 0 → None ≡ some_pairs_bytes token
none-too_few [] e = refl
none-too_few (c ∷ []) e = refl
none-too_few (high ∷ low ∷ token) e = absurd (omega arith)

pub none-odd : (token : List ℕ) → length token % 2 ≢ 0 → None ≡ some_pairs_bytes token
none-odd [] e = refl
none-odd (c ∷ token) e = sym (odd_pairs (length (c ∷ token) / 2) (c ∷ token) (omega arith))

pub some_pairs_bytes-chunks : (token : List ℕ) (chunks : List (List ℕ)) → chunks ≡ first_chunks 2 (length token / 2) token → length token / 2 ≢ 0 → length token % 2 ≡ 0 → some_pairs_bytes token ≡ cond (list_all is_pair chunks) (Some (map byte_or_zero chunks)) None
some_pairs_bytes-chunks [] chunks cut some even = absurd (omega arith)
some_pairs_bytes-chunks (c ∷ token) chunks cut some even = rw cut (even_pairs (length (c ∷ token) / 2) (c ∷ token) (omega arith))
