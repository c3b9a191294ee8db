use Rattle.nntp_kept.proofs.{Base.{arith, sym, subst, AreKeptNames}, Keeping.KeptNames.{some_matches, key_text}}
use Rattle.nntp_kept.proofs.names.Names.denies.Goals as goal

pub returns : goal.returns
returns g c facts kept not_shown =
    let before = subst (AreKeptNames facts) (sym c.self.view_is) kept in
    let name = c.args.name.now in
    grind (arith, key_text (λ k. k.items) name c.self.inside.denied.keys, some_matches (λ k. k.items) facts name c.self.inside.wildmats.entries before.wildmats, before.denied name)
