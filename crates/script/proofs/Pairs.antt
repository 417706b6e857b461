-- Bytes as hex pairs, in capitals.
use Rattle.std.proofs.Common.{◌≡◌, ℕ, zero, suc, ◌*◌, ◌/◌, ◌%◌, ◌<◌, ◌≤◌, ltb, List, [], ◌∷◌, ◌++◌, length, map, slice_index, take, drop, IsAscii, refl, sym, ap, ◌∙◌, arith, append_assoc}
use Rattle.std.specs.Char.{to_ascii_uppercase}
use Rattle.std.specs.List.{flat_map, list_all}
use Rattle.std.specs.Simd.{first_chunks}
use Rattle.std.specs.Str.{IsUtf8}
use Rattle.std.proofs.lemmas.Bool.Decides.{Decides-by_and, Decides-ltb}
use Rattle.std.proofs.lemmas.List.{drop-drop, take-append-drop, take_all}
use Rattle.std.proofs.lemmas.Str.{IsUtf8-from_ascii}
use Rattle.std.proofs.lemmas.Str.Ascii.{IsAscii-from_all}
use Rattle.hex.specs.Hex.{encode_with, encode_lower, encode_upper, lower_digits, upper_digits}
use Rattle.hex.proofs.HexLemmas.{IsAscii-encode_with}

capital : (digits : List ℕ) (d : ℕ) → to_ascii_uppercase (slice_index digits d) ≡ slice_index (map to_ascii_uppercase digits) d
capital [] d = refl
capital (c ∷ digits) zero = refl
capital (c ∷ digits) (suc d) = capital digits d

pub capitals : (bytes : List ℕ) → map to_ascii_uppercase (encode_lower bytes) ≡ encode_upper bytes
unfolding encode_with
capitals [] = refl
capitals (b ∷ bytes) = λ i. capital lower_digits (b / 16) i ∷ capital lower_digits (b % 16) i ∷ capitals bytes i

ascii_digits : IsAscii upper_digits
ascii_digits =
    IsAscii-from_all upper_digits ((Decides-by_and (λ b. ltb b 128) (λ b. b < 128) (list_all (λ b. ltb b 128)) (λ b. Decides-ltb b 128) refl (λ _ _. refl) upper_digits).0 refl)

pub pairs_are_text : (bytes : List ℕ) → IsUtf8 (encode_upper bytes)
pairs_are_text bytes = IsUtf8-from_ascii _ (IsAscii-encode_with upper_digits bytes ascii_digits)

encode_upper-append : (xs ys : List ℕ) → encode_upper (xs ++ ys) ≡ encode_upper xs ++ encode_upper ys
unfolding encode_with
encode_upper-append [] ys = refl
encode_upper-append (x ∷ xs) ys = ap (λ l. slice_index upper_digits (x / 16) ∷ slice_index upper_digits (x % 16) ∷ l) (encode_upper-append xs ys)

-- so many parts of 32 bytes, and what is left
in_parts : (k : ℕ) (bytes : List ℕ) → flat_map encode_upper (first_chunks 32 k bytes) ++ encode_upper (drop (k * 32) bytes) ≡ encode_upper bytes
in_parts zero bytes = refl
in_parts (suc k) bytes =
    let part = encode_upper (take 32 bytes) in
    let parts = flat_map encode_upper (first_chunks 32 k (drop 32 bytes)) in
    let left : drop (suc k * 32) bytes ≡ drop (k * 32) (drop 32 bytes) = ap (λ i. drop i bytes) (omega arith) ∙ sym (drop-drop (k * 32) 32 bytes) in
    append_assoc part parts _
    ∙ ap (λ l. part ++ l) (ap (λ l. parts ++ encode_upper l) left ∙ in_parts k (drop 32 bytes))
    ∙ sym (encode_upper-append (take 32 bytes) (drop 32 bytes))
    ∙ ap encode_upper (take-append-drop 32 bytes)

-- the parts up to their end, and what is left
pub whole : (bytes rest : List ℕ) (parts : List (List ℕ)) (i : ℕ) → parts ≡ first_chunks 32 (length bytes / 32) bytes → length parts ≤ i → rest ≡ drop (length bytes / 32 * 32) bytes
    → flat_map encode_upper (take i parts) ++ encode_upper rest ≡ encode_upper bytes
whole bytes rest parts i front all back = rw (take_all i parts all, front, back) (in_parts (length bytes / 32) bytes)
