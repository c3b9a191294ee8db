-- What an answer tells by itself, the group of which it speaks, and what its facts say, read off what is looked at.
use Rattle.nntp_facts.proofs.Base.{◌≡◌, ℕ, true, false, ◌||◌, ◌&&◌, not, cond, List, [], ◌∷◌, ◌++◌, Option, None, Some, refl, sym, ap, subst, ◌∙◌, append-nil}
use Rattle.nntp_facts.proofs.Base.{arith, list_any-append, or_left, IfSome, option_map, unwrap_or, list_any, AllByRecursion, option_map_or, ActiveValue}
use Rattle.nntp_facts.proofs.Base.{matches_name, IsGroupName, Id, Name, is_same, Profile, Estimates, Fact, GroupsAre, group_of, asks_of, shows_group}
use Rattle.nntp_facts.proofs.Base.{is_shown_group, first_given, id_in, denies_group, number_in, said_of, IsWellFormed, asks_append, same_itself, in_front}
use Rattle.nntp_facts.proofs.Base.{in_back, all_at, all_both, Saying, asked_id, facts_in, MayList, is_listed, or-false, Lenient, widest, the_group, Placed}
use Rattle.nntp_facts.{proofs.Base.{said}, specs.Inner.Points.{Statement, TellsAlone, shows_name, denies_name, id_told, place_told}}
use Rattle.nntp_kept.proofs.Keeping.{GroupOfASaying.{group_said, none_said, selected_spoken}, PartsJoin.{no_group_is}, OverviewsTold.{plain_told, plain_alone}}
use Rattle.nntp_kept.proofs.Keeping.OverviewsTold.{shown_by_told, denied_by_told, said_by_told, asks_by_told, ids_by_told, places_by_told}
use Rattle.nntp_kept.specs.Inner.{KeptSaying.{said_by}, ListedGroups.{bounds_of}, Saying.{TellsHere, facts_told, IsAlone, TellsThere}}
use Rattle.nntp_theory.{specs.Conflict.{told}, proofs.Together.FactsJoin.{answer_agrees}}

-- ---- what it tells

-- facts that show the selected group
shown_by : (profile : Profile) (selected : Option Name) → IfSome selected (λ name. is_shown_group (the_group profile selected) name ≡ true)
shown_by profile selected = grind (arith, or_left, same_itself)

-- the group of which facts speak that are told is one
group_formed : (profile : Profile) (selected : Option Name) (s : Saying) (more : List Fact) → TellsThere selected s more → AllByRecursion IsWellFormed more
    → IfSome selected IsGroupName → IfSome (group_of more) IsGroupName
group_formed profile selected s more t formed name =
    grind (arith, all_at, t (the_group profile selected) (shown_by profile selected), in_back, in_front, group_said selected s more t, selected_spoken selected s more t, none_said selected s more t)

module _ (profile : Profile) (a : Placed) (s : Saying) (t : TellsThere a.selected s (said profile.marks a)) where
  h : TellsHere (unwrap_or a.selected []) (the_group profile a.selected) s (said profile.marks a)
  h = t (the_group profile a.selected) (shown_by profile a.selected)

  -- by itself the answer tells its facts
  pub told_alone : (group : Option Name) → group ≡ group_of (said profile.marks a) → AllByRecursion IsWellFormed (said profile.marks a) → IfSome a.selected IsGroupName
      → TellsAlone profile (record { group = group; saying = s }) (told profile a)
  told_alone group is formed name = grind (arith, h, all_both, group_formed profile a.selected s (said profile.marks a) t, answer_agrees)

-- ---- what is read off it

module _ (profile : Profile) (t : Statement) (facts : List Fact) (h : TellsAlone profile t facts) where
  whole : the_group profile t.group ++ facts_told t.saying h.tells.asks ≡ facts
  whole = (λ i. the_group profile (h.group i) ++ h.tells.same i) ∙ h.whole

  -- what is read off the facts is that of the group of which the answer speaks and of what it says, or that of the groups that it lists
  read : {M : Type 0} (f : List Fact → M) (value : Option (Option (List ℕ) × List ActiveValue) → M)
      → (t.saying.groups ≡ None → f (the_group profile t.group ++ facts_told t.saying h.tells.asks) ≡ value None)
      → ((l : Option (List ℕ) × List ActiveValue) → IsAlone t.saying → t.group ≡ None → f (GroupsAre l.0 l.1 ∷ []) ≡ value (Some l)) → f facts ≡ value t.saying.groups
  read f value plain listed = ap f (sym whole) ∙ by t.saying.groups refl
    where
      by : (o : Option (Option (List ℕ) × List ActiveValue)) → t.saying.groups ≡ o → f (the_group profile t.group ++ facts_told t.saying h.tells.asks) ≡ value o
      by None e = plain e
      by (Some l) e =
          let may : MayList l.0 l.1 × IsAlone t.saying = subst (λ o. IfSome o (λ l. MayList l.0 l.1 × IsAlone t.saying)) e h.tells.may.groups in
          let no_group : t.group ≡ None = sym h.named ∙ ap (option_map (λ g. g.name)) may.1.group in
          grind (arith, may, no_group, e, listed l may.1 no_group)

  -- the group of which it speaks matters to the groups that are shown, and to what is asked of them
  past : {M : Type 0} (f : List Fact → M) → ((name : Name) (xs : List Fact) → f (the_group profile (Some name) ++ xs) ≡ f xs) → (xs : List Fact) → f (the_group profile t.group ++ xs) ≡ f xs
  past f silent xs = grind (arith, silent)

  -- ---- groups

  pub shown_told : (name : Name) → is_shown_group facts name ≡ shows_name name t
  shown_told name = read (λ facts. is_shown_group facts name) (λ o. option_map_or (λ g. is_same g name) t.group false || option_map_or (λ l. is_listed l.1 name) o false)
      (λ none. grind (arith, list_any-append, of_group, shown_by_told h.before t.saying h.tells.asks h.tells.may none name, h.tells.may.there, h.named, or-false))
      (λ l alone no_group. grind (arith, or-false))
    where
      of_group : (g : Option Name) → list_any (shows_group name) (the_group profile g) ≡ option_map_or (λ g. is_same g name) g false
      of_group g = grind (arith, or-false)

  pub denied_told : (name : Name) → list_any (denies_group name) facts ≡ denies_name name t
  denied_told name = read (list_any (denies_group name))
      (λ o. option_map_or (λ g. is_same g name) t.saying.there_is_no false || option_map_or (λ l. option_map_or (λ w. matches_name w name) l.0 true && not (is_listed l.1 name)) o false)
      (λ none. past (list_any (denies_group name)) (λ other xs. refl) _ ∙ denied_by_told h.before t.saying h.tells.asks h.tells.may none name ∙ sym (or-false _))
      (λ l alone no_group. grind (arith, or-false))

  -- ---- numbers

  -- where no group is spoken of, no overviews are said
  plain_alone_told : t.saying.group ≡ None → facts_told t.saying h.tells.asks ≡ facts_in t.saying h.tells.asks
  plain_alone_told e = plain_told h.before t.saying h.tells.asks h.tells.may (plain_alone h.before t.saying h.tells.asks h.tells.may e)

  -- of the group of which it speaks the answer says so much, of those that it lists their bounds, and nothing of others
  pub asks_told : (name : Name) → asks_of name facts
      ≡ option_map_or (λ l. bounds_of name l.1) t.saying.groups
      (option_map_or (λ g. cond (is_same g.name name) (Estimates Lenient (widest profile) ∷ (h.tells.asks ++ asked_id g.id)) []) t.saying.group [])
  asks_told name = read (asks_of name)
      (λ o. option_map_or (λ l. bounds_of name l.1) o (option_map_or (λ g. cond (is_same g.name name) (Estimates Lenient (widest profile) ∷ (h.tells.asks ++ asked_id g.id)) []) t.saying.group []))
      (λ none. grind (arith, h.named, plain_alone_told, no_group_is h.before t.saying h.tells.asks none h.tells.may, asks_append, asks_by_told h.before t.saying h.tells.asks h.tells.may none))
      (λ l alone no_group. append-nil _)

  pub asks_listed : (l : Option (List ℕ) × List ActiveValue) → t.saying.groups ≡ Some l → (name : Name) → asks_of name facts ≡ bounds_of name l.1
  asks_listed l e name = grind (arith, asks_told name)

  -- ---- ids

  pub id_given : (name : Name) (n : ℕ) → first_given (id_in name n) facts ≡ id_told name n t
  id_given name n = read (first_given (id_in name n)) (λ o. id_told name n t)
      (λ none. past (first_given (id_in name n)) (λ name xs. refl) (facts_told t.saying h.tells.asks)
      ∙ grind (arith, plain_alone_told, no_group_is h.before t.saying h.tells.asks none h.tells.may, ids_by_told h.before t.saying h.tells.asks h.tells.may none))
      (λ l alone no_group. grind arith)

  pub place_given : (name : Name) (id : Id) → first_given (number_in name id) facts ≡ place_told name id t
  place_given name id = read (first_given (number_in name id)) (λ o. place_told name id t)
      (λ none. past (first_given (number_in name id)) (λ name xs. refl) (facts_told t.saying h.tells.asks)
      ∙ grind (arith, plain_alone_told, no_group_is h.before t.saying h.tells.asks none h.tells.may, places_by_told h.before t.saying h.tells.asks h.tells.may none))
      (λ l alone no_group. grind arith)

  -- ---- articles

  pub article_told : (id : Id) → said_of facts id ≡ said_by t.saying id
  article_told id = read (λ facts. said_of facts id) (λ o. said_by t.saying id)
      (λ none. past (λ facts. said_of facts id) (λ name xs. refl) _ ∙ said_by_told h.before t.saying h.tells.asks h.tells.may none id) (λ l alone no_group. grind arith)
