use Rattle.std.proofs.Common.{rules, tests, refl, ◌≡◌, not, length, map, ◌<◌, MatchResult}
use Rattle.std.proofs.lemmas.Iterator.Consumers.{YieldsList-from_first}
use Rattle.script.specs.Lines.{tokens_of, is_bar, call_tokens}
use Rattle.script.proofs.Chains.{YieldsList-take_while, extended}
use Rattle.script.proofs.parse.call_items.Goals as goal
use Rattle.script.proofs.parse.call_items.Goals.{After-extend}

filled : (c : After-extend) → MatchResult c.extend.result (λ _. map (λ item. item.now) c.extend.new.self.items ≡ call_tokens c.args.line.now) (λ _. 16 < length (call_tokens c.args.line.now))
filled c =
    let tokens = YieldsList-from_first (λ token. token.now) (λ left. tokens_of left.rest.now) (tokens_of c.args.line.now) refl in
    let before_bar = YieldsList-take_while (λ token. not (is_bar token)) c.take_while.ensures.runs tokens c.take_while.ensures.source c.take_while.ensures.closure c.take_while.ensures.done (λ x b q k. search (rules, tests)) in
    extended c.extend.result _ _ 16 before_bar c.new-items.ensures c.extend.ensures.ran c.extend.ensures.full c.extend.ensures.one_more

pub returns-in_err-ok : goal.returns-in_err-ok
returns-in_err-ok c = let fills = filled (goal.at.returns-in_err-ok c).After-extend in search rules

pub returns : goal.returns
returns c = let fills = filled (goal.at.returns c).After-extend in search rules
