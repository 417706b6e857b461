use Rattle.std.proofs.Common.{arith, rules, tests, refl, subst, sym, ◌≡◌, ◌<◌, not, length, List, ℕ, Bor}
use Rattle.std.proofs.lemmas.Iterator.{YieldsList}
use Rattle.std.proofs.lemmas.Iterator.Adapters.{YieldsList-from_skip}
use Rattle.std.proofs.lemmas.Iterator.Consumers.{YieldsList-from_first, YieldsList-at, YieldsList-turn, YieldsList-end}
use Rattle.script.specs.Lines.{word_tokens, tokens_of, is_bar, IsWord, AreWords, values_of}
use Rattle.script.proofs.Chains.{YieldsList-skip_while}
use Rattle.script.proofs.Words.{after-bar, AreWords-push, room_for_more}
use Rattle.script.proofs.parse.put_words.Given as given
use Rattle.script.proofs.parse.put_words.Goals as goal
use Rattle.script.proofs.parse.put_words.Goals.{After-into_iter-word-iterator}

-- the loop is given the words' tokens
chain : (c : After-into_iter-word-iterator) → YieldsList (given.iterator-loop-word).next_gives (λ token. token.now) c.into_iter-word-iterator.result (word_tokens c.args.line.now)
chain c =
    let tokens = YieldsList-from_first (λ token. token.now) (λ left. tokens_of left.rest.now) (tokens_of c.args.line.now) refl in
    let from_bar = YieldsList-skip_while (λ token. not (is_bar token)) c.skip_while.ensures.runs tokens c.skip_while.ensures.source c.skip_while.ensures.closure c.skip_while.ensures.done_skipping (λ x b q k. search (rules, tests)) in
    let after_bar = YieldsList-from_skip 1 (YieldsList-at c.skip-word-items.ensures.source from_bar) c.skip-word-items.ensures.count in
    subst (λ words. YieldsList (given.iterator-loop-word).next_gives (λ (token : Bor (List ℕ)). token.now) c.into_iter-word-iterator.result words) (after-bar (tokens_of c.args.line.now)) (YieldsList-at c.into_iter-word-iterator.ensures.into_iter_gives after_bar)

pub loop-word-preserved : goal.loop-word-preserved
loop-word-preserved c = record {
  can_next = search rules;
  is_finite = search rules;
  read =
      let room : length c.loop-word.words.items < 4096 = search rules in
      let is_word : IsWord c.in-Some.word.now = search rules in
      let more = AreWords-push _ _ c.in-Some.word c.loop-word.invariant.read room is_word in
      search rules;
}

pub returns-in_err-hex : goal.returns-in_err-hex
returns-in_err-hex c =
    let turn = YieldsList-turn (chain (goal.at.returns-in_err-hex c).After-into_iter-word-iterator) c.loop-word.yielded c.loop-word.word-iterator c.loop-word.yielded_by c.next.result c.next.new.self c.in-Some.word c.in-Some.is c.next.ensures.steps in
    let no_word : ¬ IsWord c.in-Some.word.now = search rules in
    let no_words : ¬ AreWords (word_tokens c.args.line.now) = λ all. no_word (subst IsWord (sym turn.1) (all.digits (length c.loop-word.yielded) c.in-Some.word.now turn.0)) in
    search rules

pub returns-in_err-ok : goal.returns-in_err-ok
returns-in_err-ok c =
    let turn = YieldsList-turn (chain (goal.at.returns-in_err-ok c).After-into_iter-word-iterator) c.loop-word.yielded c.loop-word.word-iterator c.loop-word.yielded_by c.next.result c.next.new.self c.in-Some.word c.in-Some.is c.next.ensures.steps in
    let full : length c.loop-word.words.items ≡ 4096 = search rules in
    let no_words : ¬ AreWords (word_tokens c.args.line.now) = λ all. let room = room_for_more c.loop-word.yielded c.loop-word.words.items (word_tokens c.args.line.now) all c.loop-word.invariant.read.1 turn.0 in omega arith in
    search rules

pub returns : goal.returns
returns c =
    let seen = YieldsList-end (chain (goal.at.returns c).After-into_iter-word-iterator) c.loop-word.yielded c.loop-word.word-iterator c.loop-word.yielded_by c.next.result c.next.new.self c.in-None.is c.next.ensures.steps in
    subst (λ tokens. AreWords tokens × (c.loop-word.words.items ≡ values_of tokens)) seen.0 c.loop-word.invariant.read
