-- What is left to read, as it is read and given.
use Rattle.std.specs.Prelude.{◌≡◌, ◌≤◌, ◌+◌, ◌-◌, ◌++◌, ℕ, List, take, drop, slice_range, Option, None, Some}
use Rattle.std.proofs.Common.{arith, ap, sym, ◌∙◌}
use Rattle.std.proofs.lemmas.List.{take-append-drop, drop-take, drop-drop, append_assoc}
use Rattle.std.specs.Io.KnownBytes.{Consumes}
use Rattle.script.specs.Unread.{unread}

-- some of what was read ahead is given
pub consumed : (bs : List ℕ) (start count end : ℕ) (known : Option (List ℕ)) → start + count ≤ end
    → Consumes (unread bs start end known) (unread bs (start + count) end known) (take count (slice_range bs start end))
consumed bs start count end None h = tt
consumed bs start count end (Some xs) h =
    let e : count + (end - (start + count)) ≡ end - start = omega (arith, h) in
    ap (λ (front : List ℕ). front ++ xs) (sym (take-append-drop count (slice_range bs start end)) ∙ ap (λ (rest : List ℕ). take count (slice_range bs start end) ++ rest)
    (ap (λ (n : ℕ). drop count (take n (drop start bs))) (sym e) ∙ drop-take count (end - (start + count)) (drop start bs) ∙ ap (take (end - (start + count))) (drop-drop count start bs)))
    ∙ append_assoc (take count (slice_range bs start end)) (slice_range bs (start + count) end) xs
