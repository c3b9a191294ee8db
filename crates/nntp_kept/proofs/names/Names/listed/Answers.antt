use Rattle.nntp_kept.proofs.{Base.{sym, subst, arith, AreKeptNames}, Keeping.KeptNames.{answered_found}}
use Rattle.nntp_kept.proofs.names.Names.listed.Goals as goal

pub returns-in-Some : goal.returns-in-Some
returns-in-Some g c facts kept =
    let before = subst (AreKeptNames facts) (sym c.self.view_is) kept in
    grind (arith, answered_found (λ k. k.items) facts c.self.inside.wildmats.entries c.as_slice.result.now before.wildmats)
