use Rattle.nntp_kept.proofs.Base.{◌≡◌, ℕ, false, List, Option, Bor, sym, subst, option_map, option_map_or, list_any, Name, is_same, Fact, denies_group, on_ok}
use Rattle.nntp_kept.proofs.{Base.{AreKeptNames}, Keeping.KeptNames.{names_kept}}
use Rattle.nntp_kept.proofs.kept.Kept.deny.Goals as goal

-- what more facts deny, if they deny this name
abbrev Denies : List Fact → Option (Bor (List ℕ)) → Type 0
Denies more o = (other : Name) → list_any (denies_group other) more ≡ option_map_or (λ name. is_same name other) (option_map (λ name. name.now) o) false

pub returns-in-Some-clause-names : goal.returns-in-Some-clause-names
returns-in-Some-clause-names g c = on_ok c.deny.result (λ added facts more kept denied.
    added facts more (subst (λ k. AreKeptNames facts k.names) (sym c.self.view_is) kept) (subst (Denies more) c.in-Some.is denied)) c.deny.ensures

pub returns-in-None-clause-names : goal.returns-in-None-clause-names
returns-in-None-clause-names g c facts more kept denied = names_kept facts more c.args.self.now.names (subst (Denies more) c.in-None.is denied) kept
