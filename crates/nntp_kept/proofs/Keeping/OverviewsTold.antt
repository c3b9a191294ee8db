-- What a saying tells, by overviews or otherwise.
use Rattle.nntp_kept.proofs.Base.{◌++◌, is_shown_group, ◌≡◌, option_map_or, number_in, ◌∙◌, cond, IfSome, Range, sym, Saying, MatchOption, first_given, Some}
use Rattle.nntp_kept.proofs.Base.{overviews_facts, asks_of, false, denies_group, facts_in, said_of, subst, [], id_in, Option, is_same, ListsIn, list_any, Id}
use Rattle.nntp_kept.proofs.Base.{Name, Fact, List, OverviewsAre, Ask, None, ℕ, OverviewValue, ◌∷◌, ap, asked_id, overview_numbers, OfGroup, MaySay, arith}
use Rattle.nntp_kept.proofs.Keeping.{ListedOverviews.{listed_places, listed_ids, listed_said, listed_asks}, FactsOfParts.{denied_group, shown_group}}
use Rattle.nntp_kept.{proofs.Keeping.PartsJoin.{group_is, said_of_parts}, specs.Inner.{Saying.{facts_told, AreOfRange}, KeptSaying.{id_said, place_said}}}
use Rattle.nntp_kept.specs.Inner.KeptSaying.{said_by}

-- overviews, if any are said
abbrev pub Overviews : Type 0
Overviews = Option (Range × List OverviewValue)

module _ (facts : List Fact) (s : Saying) (asks : List Ask) (may : MaySay facts s asks) where
  -- where none are, the other parts are told
  pub plain_told : s.overviews ≡ None → facts_told s asks ≡ facts_in s asks
  plain_told e = ap (λ (o : Overviews). option_map_or (overviews_facts s.group) o (facts_in s asks)) e

  -- where they are, nothing else is
  pub of_range : (o : Range × List OverviewValue) → s.overviews ≡ Some o → AreOfRange s asks o
  of_range o e = subst (λ o. IfSome o (AreOfRange s asks)) e may.overviews

  pub overviews_told : (o : Range × List OverviewValue) → s.overviews ≡ Some o → (g : OfGroup) → s.group ≡ Some g → facts_told s asks ≡ OverviewsAre g.name o.0 o.1 ∷ []
  overviews_told o e g is =
      ap (λ (o : Overviews). option_map_or (overviews_facts s.group) o (facts_in s asks)) e ∙ ap (λ g. overviews_facts g o) is

  -- and they are those of a group, of which no id is said otherwise
  pub group_there : (o : Range × List OverviewValue) → s.overviews ≡ Some o → (g : OfGroup) × (s.group ≡ Some g)
  group_there o e = grind (arith, (of_range o e).group)

  pub no_id_there : (o : Range × List OverviewValue) → s.overviews ≡ Some o → (g : OfGroup) → s.group ≡ Some g → g.id ≡ None
  no_id_there o e g is = subst (λ o. MatchOption o ⊥ (λ (g : OfGroup). g.id ≡ None)) is (of_range o e).group

  pub asks_there : (o : Range × List OverviewValue) → s.overviews ≡ Some o → (g : OfGroup) → s.group ≡ Some g → asks ++ asked_id g.id ≡ ListsIn o.0 (overview_numbers o.1) ∷ []
  asks_there o e g is = (λ i. (of_range o e).lists i ++ asked_id (no_id_there o e g is i))

  -- where overviews cannot be, none are said
  pub plain_if : ((o : Range × List OverviewValue) → s.overviews ≡ Some o → ⊥) → s.overviews ≡ None
  plain_if never = grind arith

  -- so where no group is spoken of
  pub plain_alone : s.group ≡ None → s.overviews ≡ None
  plain_alone none = plain_if (λ o e. let g = group_there o e in let n : None ≡ Some g.0 = sym none ∙ g.1 in cc)

  -- nor where something is said of an article
  pub plain_by_article : {X : Type 0} → (s.article ≡ None → X → ⊥) → X → s.overviews ≡ None
  plain_by_article some x = plain_if (λ o e. some (of_range o e).article x)

  -- what is read off facts is that of the overviews, or that of the other parts
  read_told : {M : Type 0} (read : List Fact → M) (value : Overviews → M) → read (facts_in s asks) ≡ value None
      → ((o : Range × List OverviewValue) → s.overviews ≡ Some o → read (overviews_facts s.group o) ≡ value (Some o)) → read (facts_told s asks) ≡ value s.overviews
  read_told read value plain listed = grind (arith, plain, listed)

  -- ---- where no groups are listed

  module _ (no_list : s.groups ≡ None) where
    pub shown_by_told : (name : Name) → is_shown_group (facts_told s asks) name ≡ option_map_or (λ g. is_same g name) s.there_is false
    shown_by_told name =
        read_told (λ facts. is_shown_group facts name) (λ o. option_map_or (λ g. is_same g name) s.there_is false) (shown_group s asks no_list name)
        (λ o e. let none = (of_range o e).there_is in grind (arith, none))

    pub denied_by_told : (name : Name) → list_any (denies_group name) (facts_told s asks) ≡ option_map_or (λ g. is_same g name) s.there_is_no false
    denied_by_told name =
        read_told (list_any (denies_group name)) (λ o. option_map_or (λ g. is_same g name) s.there_is_no false) (denied_group s asks no_list name)
        (λ o e. let none = (of_range o e).there_is_no in grind (arith, none))

    pub said_by_told : (id : Id) → said_of (facts_told s asks) id ≡ said_by s id
    said_by_told id =
        read_told (λ facts. said_of facts id) (λ (o : Overviews). said_by (record s { overviews = o }) id) (said_of_parts facts s asks no_list may id)
        (λ o e. let g = group_there o e in ap (λ g. said_of (overviews_facts g o) id) g.1 ∙ listed_said g.0.name o.0 o.1 id)

    module _ (g : OfGroup) (is : s.group ≡ Some g) where
      pub asks_by_told : (name : Name) → asks_of name (facts_told s asks) ≡ cond (is_same g.name name) (asks ++ asked_id g.id) []
      asks_by_told name =
          read_told (asks_of name) (λ o. cond (is_same g.name name) (asks ++ asked_id g.id) []) ((group_is facts s asks no_list may g is).0 name) (λ o e.
          ap (λ g. asks_of name (overviews_facts g o)) is ∙ listed_asks g.name o.0 o.1 name ∙ ap (λ asks. cond (is_same g.name name) asks []) (sym (asks_there o e g is)))

      pub ids_by_told : (name : Name) (n : ℕ) → first_given (id_in name n) (facts_told s asks) ≡ cond (is_same g.name name) (id_said s g.id n) None
      ids_by_told name n =
          read_told (first_given (id_in name n)) (λ (o : Overviews). cond (is_same g.name name) (id_said (record s { overviews = o }) g.id n) None)
          ((group_is facts s asks no_list may g is).1.ids name n) (λ o e. ap (λ g. first_given (id_in name n) (overviews_facts g o)) is ∙ listed_ids g.name o.0 o.1 name n)

      pub places_by_told : (name : Name) (id : Id) → first_given (number_in name id) (facts_told s asks) ≡ cond (is_same g.name name) (place_said s g.id id) None
      places_by_told name id =
          read_told (first_given (number_in name id)) (λ (o : Overviews). cond (is_same g.name name) (place_said (record s { overviews = o }) g.id id) None)
          ((group_is facts s asks no_list may g is).1.places name id) (λ o e. ap (λ g. first_given (number_in name id) (overviews_facts g o)) is ∙ listed_places g.name o.0 o.1 name id)
