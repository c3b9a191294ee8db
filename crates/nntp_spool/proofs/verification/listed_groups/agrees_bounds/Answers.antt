use Rattle.std.{proofs.Common.{arith, ◌≡◌, Some, sym, ap, ◌∙◌}, specs.{Prelude.{unwrap_or, option_copied}, FinMap.{get, empty}}}
use Rattle.nntp_article.specs.Session.Spool.{numbers}
use Rattle.nntp_spool.proofs.verification.listed_groups.agrees_bounds.Goals as goal

pub returns-in-Some : goal.returns-in-Some
returns-in-Some g c =
    let e : get c.args.spool.now.groups c.args.name.now ≡ Some c.in-Some.numbers.now = sym c.group.ensures ∙ ap option_copied c.in-Some.is in
    let same : numbers c.args.spool.now c.args.name.now ≡ c.in-Some.numbers.now = ap (λ o. unwrap_or o empty) e in
    grind arith
