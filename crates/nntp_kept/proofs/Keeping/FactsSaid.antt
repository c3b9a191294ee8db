-- Where no facts are said, nothing is added.
use Rattle.nntp_kept.proofs.Base.{◌≡◌, false, true, List, [], Option, None, refl, sym, subst, append-nil, true≢false, option_map, slice_get, Fact, Together}
use Rattle.nntp_kept.{proofs.Base.{together_more, Kept, IsKept, is_some, none_agrees}, specs.Inner.Kept.{AreAdded}}

-- where there is no first fact there is none
pub no_first : {X : Type 0} (of : X → Fact) (first : Option X) (facts : List Fact) → option_map of first ≡ slice_get facts 0 → is_some first ≡ false → facts ≡ []
no_first of None [] there none = refl
no_first of s facts there none = search true≢false

-- no facts join what stands together, and what is kept of all before is kept with them
pub none_added : (facts : List Fact) (kept : Kept) → IsKept facts kept → Together facts → AreAdded facts [] kept kept true
none_added facts kept is together = (
  (together_more facts [] together none_agrees).0 (subst Together (sym (append-nil facts)) together),
  subst (λ facts. IsKept facts kept) (sym (append-nil facts)) is,
)
