use Rattle.std.proofs.Common.{◌≡◌, map}
use Rattle.script.specs.Lines.{AreWords, values_of}
use Rattle.script.proofs.parse.put_words.Given as goal

abbrev pub invariant-loop-word : goal.invariant-loop-word
invariant-loop-word l = record {
  can_next : (goal.iterator-loop-word).can_next l.word-iterator;
  is_finite : (goal.iterator-loop-word).is_finite l.word-iterator;
  read : AreWords (map (λ token. token.now) l.yielded) × (l.words.items ≡ values_of (map (λ token. token.now) l.yielded));
}
