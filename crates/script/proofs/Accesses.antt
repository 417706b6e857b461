-- A log's accesses, pair by pair.
use Rattle.std.proofs.Common.{◌≡◌, ℕ, suc, ◌/◌, ◌≤◌, List, [], ◌∷◌, ◌++◌, length, take, slice_index, refl, ap, ◌∙◌, arith}
use Rattle.std.specs.List.{flat_map}
use Rattle.std.specs.Simd.{first_chunks}
use Rattle.std.proofs.lemmas.List.{take_all}
use Rattle.script.specs.PrintedLines.{access_line, accesses_text}

abbrev pub pair_text : List ℕ → List ℕ
pair_text pair = access_line (slice_index pair 0) (slice_index pair 1)

pair_by_pair : (log : List ℕ) → flat_map pair_text (first_chunks 2 (length log / 2) log) ≡ accesses_text log
pair_by_pair [] = refl
pair_by_pair (number ∷ []) = refl
pair_by_pair (number ∷ word ∷ log) =
    let one_more : suc (suc (length log)) / 2 ≡ suc (length log / 2) = omega arith in
    ap (λ k. flat_map pair_text (first_chunks 2 k (number ∷ word ∷ log))) one_more
    ∙ ap (λ l. access_line number word ++ l) (pair_by_pair log)

-- the pairs up to their end
pub all_pairs : (log : List ℕ) (pairs : List (List ℕ)) (i : ℕ) → pairs ≡ first_chunks 2 (length log / 2) log → length pairs ≤ i → flat_map pair_text (take i pairs) ≡ accesses_text log
all_pairs log pairs i front all = rw (take_all i pairs all, front) (pair_by_pair log)
