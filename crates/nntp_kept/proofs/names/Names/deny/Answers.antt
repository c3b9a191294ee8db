use Rattle.nntp_kept.proofs.{Base.{◌≡◌, sym, refl, subst, list_any, Name, is_same, denies_group, AreKeptNames}, Keeping.KeptNames.{name_denied}}
use Rattle.nntp_kept.proofs.names.Names.deny.Goals as goal

pub returns : goal.returns
returns g c facts more kept denied =
    let before = subst (AreKeptNames facts) (sym c.self.view_is) kept in
    let denied_now = subst (λ name. (other : Name) → list_any (denies_group other) more ≡ is_same name other) (sym c.in_ok-from_slice.ensures.items) denied in
    let after = name_denied (λ k. k.items) facts more _ c.self.inside.denied.keys c.in_ok-from_slice.field-0 refl before denied_now in
    rw c.in_ok-insert.ensures.keys after
