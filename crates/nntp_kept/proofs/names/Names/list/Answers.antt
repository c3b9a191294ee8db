use Rattle.nntp_kept.proofs.{Base.{◌≡◌, sym, refl, subst, ◌∙◌, IsTrue, None, Some, is_wildmat, AreKeptNames, MayList}, Keeping.KeptNames.{wildmat_listed}}
use Rattle.nntp_kept.proofs.Keeping.KeptNames.{all_listed}
use Rattle.nntp_kept.proofs.names.Names.list.Goals as goal

pub returns-in_ok-insert-in-Some : goal.returns-in_ok-insert-in-Some
returns-in_ok-insert-in-Some g c facts lines kept may counted =
    let before = subst (AreKeptNames facts) (sym c.self.view_is) kept in
    let v = c.in_ok-from_slice-in-Some.field-0 in
    let text = c.in_ok-from_slice-in-Some.ensures.items ∙ c.as_slice.ensures.value in
    let good : IsTrue (is_wildmat v.items) = subst (λ w. IsTrue (is_wildmat w)) (sym text) c.as_slice.ensures.is_wildmat in
    let whole : Some v.items ≡ c.args.wildmat.now = cc in
    let after = wildmat_listed (λ k. k.items) facts lines _ c.self.inside.wildmats.entries v c.args.count good (subst (λ p. MayList p lines) (sym whole) may) counted refl before in
    rw (c.in_ok-insert-in-Some.ensures.entries, ← whole) after

pub returns-in-None : goal.returns-in-None
returns-in-None g c facts lines kept may counted =
    let before = subst (AreKeptNames facts) (sym c.self.view_is) kept in
    let none : None ≡ c.args.wildmat.now = cc in
    rw (← none) (all_listed facts lines _ c.args.count (subst (λ p. MayList p lines) (sym none) may) counted before)
