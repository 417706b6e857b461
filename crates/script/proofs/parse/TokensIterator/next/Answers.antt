use Rattle.std.proofs.Common.{rules}
use Rattle.script.proofs.Cuts.{cut, none, start_boundary}
use Rattle.script.proofs.parse.TokensIterator.next.Goals as goal

pub returns-in_err-start-clause-steps : goal.returns-in_err-start-clause-steps
returns-in_err-start-clause-steps c =
    let no_token = none c.args.self.now.rest.now in
    search rules

pub range_from-text-requires : goal.range_from-text-requires
range_from-text-requires c =
    let boundary = start_boundary c.args.self.now.rest.now c.in_ok-start.start in
    search rules

pub returns-clause-steps : goal.returns-clause-steps
returns-clause-steps c =
    let cuts = cut c.args.self.now.rest.now c.in_ok-start.start c.token_length.result in
    search rules

pub returns-clause-goes : goal.returns-clause-goes
returns-clause-goes c =
    let steps = returns-clause-steps c in
    search rules
