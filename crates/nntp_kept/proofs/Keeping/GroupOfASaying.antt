-- The group of which a saying speaks.
use Rattle.nntp_kept.proofs.Base.{◌≡◌, ◌++◌, true, List, [], Option, None, Some, sym, subst, arith, or_left, option_map, unwrap_or, IfSome, Name, Fact}
use Rattle.nntp_kept.{proofs.Base.{group_of, is_shown_group, any_back, same_itself, Saying, OfGroup}, specs.Inner.Saying.{TellsHere, TellsThere, there_facts}}

-- facts that show the selected group alone do, behind others
pub shown_there : (facts : List Fact) (selected : Option Name) → IfSome selected (λ name. is_shown_group (facts ++ there_facts selected) name ≡ true)
shown_there facts selected = grind (arith, any_back, or_left, same_itself)

module _ (selected : Option Name) (s : Saying) (more : List Fact) (t : TellsThere selected s more) where
  -- it tells them behind the selected group alone
  h : TellsHere (unwrap_or selected []) (there_facts selected) s more
  h = t (there_facts selected) (shown_there [] selected)

  -- the group that is said to be there
  pub group_said : (name : Name) → s.there_is ≡ Some name → group_of more ≡ Some name
  group_said name e = grind (arith, h)

  -- none
  pub none_said : s.group ≡ None → group_of more ≡ None
  none_said e = sym (subst (λ o. option_map (λ g. g.name) o ≡ group_of more) e h.group)

  -- it says there is the group, or one is selected
  some_selected : (g : OfGroup) → s.there_is ≡ None → s.group ≡ Some g → selected ≡ None → ⊥
  some_selected g none e here =
      let u = t [] (subst (λ o. IfSome o (λ name. is_shown_group [] name ≡ true)) (sym here) tt) in
      grind (arith, u.tells.may.shown, none, e)

  -- and so the selected group is the one
  pub selected_spoken : (g : OfGroup) → s.there_is ≡ None → s.group ≡ Some g → selected ≡ group_of more
  selected_spoken g none e = grind (arith, h, some_selected)
