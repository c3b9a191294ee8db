use Rattle.std.proofs.Common.{subst}
use Rattle.nntp_wire.{specs.Inner.Search.{IsSearched, IsPassed}, proofs.SearchLemmas.{found-ahead, nowhere-ahead, all-passed}}
use Rattle.nntp_wire.proofs.search.Search.go_on.Goals as goal

pub returns-in-Some-clause-searched : goal.returns-in-Some-clause-searched
returns-in-Some-clause-searched c =
    let passed : IsPassed c.args.needle.now c.args.stream.now c.in-Passed.passed = subst (IsSearched c.args.needle.now c.args.stream.now) c.in-Passed.is c.requires.searched in
    found-ahead c.args.needle.now c.args.stream.now c.in-Passed.passed c.in-Some.end passed (rw c.split_at.ensures.back at c.in-Some.ensures)

pub returns-in-None-clause-through : goal.returns-in-None-clause-through
returns-in-None-clause-through c =
    let passed : IsPassed c.args.needle.now c.args.stream.now c.in-Passed.passed = subst (IsSearched c.args.needle.now c.args.stream.now) c.in-Passed.is c.requires.searched in
    λ k. nowhere-ahead c.args.needle.now c.args.stream.now c.in-Passed.passed k passed (rw c.split_at.ensures.back at c.in-None.ensures)

pub returns-in-None-clause-searched : goal.returns-in-None-clause-searched
returns-in-None-clause-searched c =
    let passed : IsPassed c.args.needle.now c.args.stream.now c.in-Passed.passed = subst (IsSearched c.args.needle.now c.args.stream.now) c.in-Passed.is c.requires.searched in
    all-passed c.args.needle.now c.args.stream.now c.saturating_sub.result c.requires.some c.saturating_sub.ensures
    (λ k. nowhere-ahead c.args.needle.now c.args.stream.now c.in-Passed.passed k passed (rw c.split_at.ensures.back at c.in-None.ensures))
