-- A line while it is read part by part.
use Rattle.std.specs.Prelude.{◌≡◌, ◌≢◌, ◌≤◌, ◌<◌, ◌+◌, ℕ, true, false, List, [], ◌∷◌, ◌++◌, length, take, All, Option, None, Some, unwrap_or, Result, Ok, Err, MatchResult, ⊤, ◌↔◌, IsOk, OnOk, OnErr}
use Rattle.std.specs.Option.{is_some}
use Rattle.std.specs.Result.{is_ok, result_and}
use Rattle.arrayvec.specs.ArrayVec.{ArrayVec, array_vec_len}
use Rattle.std.specs.Io.KnownBytes.{Keeps, Consumes}
use Rattle.std.proofs.Common.{arith, refl, ap, sym, subst, inl, ◌∙◌}
use Rattle.std.proofs.lemmas.Grind.{common_steps}
use Rattle.std.proofs.lemmas.List.{append_assoc, take_all, take_more}
use Rattle.std.proofs.lemmas.List.Elements.{All-append}
use mathlib.Core.Bool.{true≢false, false≢true}
use Rattle.std.proofs.Math.Nat.{lt_of_not-le}
use Rattle.script.specs.declared.text.lines.TooLong.{TooLong}
use Rattle.script.specs.InputLines.{most, FirstNewline, Holds, ReadsLine}

-- what was read of the line, which is no newline, in so many parts at least
abbrev pub SoFar : ℕ → Option (List ℕ) → Result ⊤ TooLong → List ℕ → Option (List ℕ) → Type 0
SoFar parts old read held new = (line : List ℕ) × All (λ b. b ≢ 10) line × (parts ≤ length line) × Consumes old new line × Holds line read held

consumed_on : (old mid then new : Option (List ℕ)) (line part : List ℕ) → Consumes old mid line → Keeps mid then → Consumes then new part → Consumes old new (line ++ part)
consumed_on None mid then new line part c k d = tt
consumed_on (Some xs) None then new line part c k d = elim c [ ]
consumed_on (Some xs) (Some ys) None new line part c k d = elim k [ ]
consumed_on (Some xs) (Some ys) (Some zs) None line part c k d = elim d [ ]
consumed_on (Some xs) (Some ys) (Some zs) (Some ws) line part c k d = c ∙ ap (λ (rest : List ℕ). line ++ rest) (sym k ∙ d) ∙ sym (append_assoc line part ws)

holds_whole : (line held part : List ℕ) (read : Result ⊤ TooLong) → Holds line read held → length held + length part ≤ most → Holds (line ++ part) read (held ++ part)
holds_whole line held part (Ok x) h r = ((ap (λ (l : List ℕ). l ++ part) h.0.0, grind (arith, common_steps)), ap (λ (l : List ℕ). take 1 (l ++ part)) h.0.0)
holds_whole line held part (Err e) h r = (grind (arith, common_steps), grind (arith, common_steps))

holds_less : (line held part : List ℕ) (read : Result ⊤ TooLong) (e : TooLong) → Holds line read held → length part ≤ 4096 → most < length held + length part → Holds (line ++ part) (Err e) held
holds_less line held part (Ok x) e h s r = (grind (arith, common_steps), grind (arith, common_steps))
holds_less line held part (Err d) e h s r = (grind (arith, common_steps), grind (arith, common_steps))

-- a part is appended where it has room, and else left out
abbrev pub Appended : Result ⊤ TooLong → List ℕ → List ℕ → List ℕ → Type 0
Appended more held part held' = MatchResult more (λ _. (length held + length part ≤ most) × (held' ≡ held ++ part)) (λ _. (most < length held + length part) × (held' ≡ held))

holds_on : (line held part held' : List ℕ) (read more : Result ⊤ TooLong) → Holds line read held → length part ≤ 4096 → Appended more held part held' → Holds (line ++ part) (result_and read more) held'
holds_on line held part held' (Ok x) (Ok y) h s a = subst (Holds (line ++ part) (Ok y)) (sym a.1) (holds_whole line held part (Ok y) h a.0)
holds_on line held part held' (Ok x) (Err e) h s a = subst (Holds (line ++ part) (Err e)) (sym a.1) (holds_less line held part (Ok x) e h s a.0)
holds_on line held part held' (Err d) (Ok y) h s a = subst (Holds (line ++ part) (Err d)) (sym a.1) (holds_whole line held part (Err d) h a.0)
holds_on line held part held' (Err d) (Err e) h s a = subst (Holds (line ++ part) (Err d)) (sym a.1) (holds_less line held part (Err d) d h s a.0)

-- so `try_extend_from_slice` does
pub appended : {E : Type 0} (r : Result ⊤ E) (more : Result ⊤ TooLong) (v w : ArrayVec ℕ) (part : List ℕ) → is_ok more ≡ is_ok r → IsOk r ↔ (array_vec_len v + length part ≤ most) → OnOk r (w.items ≡ v.items ++ part) → OnErr r (w ≡ v) → Appended more v.items part w.items
appended (Ok x) (Ok y) v w part s i e n = (i.0 refl, e)
appended (Ok x) (Err y) v w part s i e n = elim (false≢true s) [ ]
appended (Err x) (Ok y) v w part s i e n = elim (true≢false s) [ ]
appended (Err x) (Err y) v w part s i e n = (lt_of_not-le (λ h. false≢true (i.1 h)), ap (λ (u : ArrayVec ℕ). u.items) n)

-- the bytes that were read have no newline
pub going_on : (parts : ℕ) (old mid then new : Option (List ℕ)) (read more : Result ⊤ TooLong) (held bytes held' : List ℕ) (found : Option ℕ) → SoFar parts old read held mid → Keeps mid then → length bytes ≤ 4096 → FirstNewline bytes found
    → Appended more held (take (unwrap_or found (length bytes)) bytes) held' → is_some found ≡ false → 0 < length bytes → Consumes then new (take (unwrap_or found (length bytes)) bytes) → SoFar (parts + 1) old (result_and read more) held' new
going_on parts old mid then new read more held bytes held' None s k w n a e l d =
    let all : take (length bytes) bytes ≡ bytes = take_all (length bytes) bytes (omega arith) in (
      s.0 ++ bytes,
      All-append (λ b. b ≢ 10) s.0 bytes s.1 n,
      grind (arith, common_steps, s.2),
      consumed_on old mid then new s.0 bytes s.3 k (subst (Consumes then new) all d),
      holds_on s.0 held bytes held' read more s.4 w (subst (λ (part : List ℕ). Appended more held part held') all a),
    )
going_on parts old mid then new read more held bytes held' (Some x) s k w n a e l d = elim (true≢false e) [ ]

-- the line ends at a newline of theirs
pub ended : (parts : ℕ) (old mid then new : Option (List ℕ)) (read more : Result ⊤ TooLong) (held bytes held' : List ℕ) (found : Option ℕ) → SoFar parts old read held mid → Keeps mid then → length bytes ≤ 4096 → FirstNewline bytes found
    → Appended more held (take (unwrap_or found (length bytes)) bytes) held' → is_some found ≡ true → Consumes then new (take (unwrap_or found (length bytes) + 1) bytes) → ReadsLine old (Some (result_and read more)) held' new
ended parts old mid then new read more held bytes held' None s k w n a e d = elim (false≢true e) [ ]
ended parts old mid then new read more held bytes held' (Some x) s k w n a e d =
    let stop : take (x + 1) bytes ≡ take x bytes ++ 10 ∷ [] = take_more bytes x 10 n.0 ∙ ap (λ (b : ℕ). take x bytes ++ b ∷ []) n.1 in (
      s.0 ++ take x bytes,
      (All-append (λ b. b ≢ 10) s.0 (take x bytes) s.1 n.2, 10 ∷ [], inl refl, subst (Consumes old new) (sym (append_assoc s.0 (take x bytes) (10 ∷ []))) (consumed_on old mid then new s.0 (take x bytes ++ 10 ∷ []) s.3 k (subst (Consumes then new) stop d))),
      holds_on s.0 held (take x bytes) held' read more s.4 (grind (arith, common_steps)) a,
    )
