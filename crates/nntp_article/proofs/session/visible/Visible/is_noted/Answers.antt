use Rattle.std.proofs.{Common.{◌≡◌, ◌∙◌, ℕ, Option, Some, IsTrue, false, ap, sym, subst, cond, rules}, lemmas.Slice.Eq.{bytes_eq-Decides}}
use Rattle.std.specs.{Prelude.{nat_eq}, Option.{option_eq}, Ordering.{nat_cmp}, Cmp.Lexicographic.{slice_cmp, nat_list_cmp_total}}
use Rattle.nntp_article.{proofs.ShownMaps.{insert-same, octet_keys}, specs.Session.Machine.{are_zeros}}
use Rattle.std.specs.FinMap as map
use Rattle.nntp_article.proofs.session.visible.Visible.is_noted.Goals as goal

-- a number that is there
same-number : (found : Option ℕ) (n : ℕ) → IsTrue (option_eq nat_eq found (Some n)) → found ≡ Some n
same-number found n is = search rules

pub returns-else-are_zeros : goal.returns-else-are_zeros
returns-else-are_zeros g c = λ is.
    let v = c.args.self.now in
    let name = c.args.name.now in
    let low = c.args.marks.low in
    let same : c.in-Some.selected.now ≡ name = (bytes_eq-Decides c.in-Some.selected.now name).0 (sym c.eq.ensures ∙ c.if-eq.true) in
    let selected : Some name ≡ v.selected = ap Some (sym same) ∙ c.in-Some.ensures in
    let here : map.get v.lows name ≡ Some low = c.low.ensures ∙ same-number c.low.result low (subst IsTrue c.eq-else-are_zeros.ensures is) in
    let some : are_zeros c.args.marks ≡ false = sym c.are_zeros.ensures ∙ c.if-are_zeros.false in
    let lows = ap (λ b. cond b v.lows (map.insert v.lows name low)) some
    ∙ insert-same {R = slice_cmp nat_cmp} nat_list_cmp_total octet_keys v.lows name low here in
    λ i. record { closed = v.closed; selected = selected i; lows = lows i }
