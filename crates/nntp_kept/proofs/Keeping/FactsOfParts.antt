-- What the parts of an answer say, read off their facts.
use Rattle.nntp_kept.proofs.Base.{◌≡◌, Bool, false, ◌||◌, cond, List, [], ◌∷◌, ◌++◌, map, Option, None, Some, refl, ap, ◌∙◌, append-nil, arith, list_any-append}
use Rattle.nntp_kept.proofs.Base.{list_any, option_map_or, option_or, Name, is_same, Ask, Fact, ThereIs, Asks, asks_of, shows_group, is_shown_group}
use Rattle.nntp_kept.proofs.Base.{first_given, id_in, denies_group, number_in, given_append, or_none, asks_append, OfGroup, Saying, asked_id, sent_facts}
use Rattle.nntp_kept.proofs.{Base.{lack_facts, id_facts, group_facts, facts_in, ThereIsNo}, Keeping.FactsOfOneGroup.{GivesId}}
use Rattle.nntp_kept.specs.Inner.Saying.{there_facts, missing_facts, groups_facts}

-- the id at a number of a group
abbrev pub ids_in : Option OfGroup → List Fact
ids_in None = []
ids_in (Some g) = id_facts g.name g.id

-- ---- what is read off lists of facts, one behind the other

-- what is read of two lists is what is read of each; of the empty one nothing
pub record IsRead {M : Type 0} (read : List Fact → M) (both : M → M → M) (nothing : M) : Type 0 where
  pub none : read [] ≡ nothing
  pub append : (xs ys : List Fact) → read (xs ++ ys) ≡ both (read xs) (read ys)
  pub left : (m : M) → both nothing m ≡ m
  pub right : (m : M) → both m nothing ≡ m

pub any_is_read : (p : Fact → Bool) → IsRead (list_any p) (λ a b. a || b) false
any_is_read p = grind (arith, list_any-append)

pub given_is_read : {A : Type 0} (f : Fact → Option A) → IsRead (first_given f) option_or None
given_is_read f = record { none = refl; append = given_append f; left = λ o. refl; right = or_none }

module _ {M : Type 0} (read : List Fact → M) (both : M → M → M) (nothing : M) (is : IsRead read both nothing) where
  -- a list of which nothing is read
  past : (xs ys : List Fact) → read xs ≡ nothing → read (xs ++ ys) ≡ read ys
  past xs ys silent = is.append xs ys ∙ ap (λ m. both m (read ys)) silent ∙ is.left (read ys)

  before : (xs ys : List Fact) → read ys ≡ nothing → read (xs ++ ys) ≡ read xs
  before xs ys silent = is.append xs ys ∙ ap (both (read xs)) silent ∙ is.right (read xs)

  no_there : ((name : Name) → read (ThereIs name ∷ []) ≡ nothing) → (o : Option Name) → read (there_facts o) ≡ nothing
  no_there silent o = grind arith

  no_missing : ((name : Name) → read (ThereIsNo name ∷ []) ≡ nothing) → (o : Option Name) → read (missing_facts o) ≡ nothing
  no_missing silent o = grind arith

  no_asks : (name : Name) → ((ask : Ask) → read (Asks name ask ∷ []) ≡ nothing) → (asks : List Ask) → read (map (Asks name) asks) ≡ nothing
  no_asks name silent [] = is.none
  no_asks name silent (ask ∷ asks) = past (Asks name ask ∷ []) (map (Asks name) asks) (silent ask) ∙ no_asks name silent asks

  only_ids : ((name : Name) (ask : Ask) → read (Asks name ask ∷ []) ≡ nothing) → (g : Option OfGroup) (asks : List Ask) → read (group_facts g asks) ≡ read (ids_in g)
  only_ids silent None asks = refl
  only_ids silent (Some g) asks = past (map (Asks g.name) asks) (id_facts g.name g.id) (no_asks g.name (silent g.name) asks)

  -- ---- of all that an answer says, where no groups are listed
  module _ (s : Saying) (asks : List Ask) (no_list : s.groups ≡ None) where
    -- what speaks of articles alone
    pub of_articles : ((name : Name) → read (ThereIs name ∷ []) ≡ nothing) → ((name : Name) → read (ThereIsNo name ∷ []) ≡ nothing) → ((name : Name) (ask : Ask) → read (Asks name ask ∷ []) ≡ nothing)
        → read (facts_in s asks) ≡ both (read (sent_facts s.article)) (both (read (ids_in s.group)) (read (lack_facts s.article)))
    of_articles there missing ask = grind (arith, past, no_there, only_ids, no_missing, before)

-- ---- what is asked of a group

asks_only : (here name : Name) (asks : List Ask) → asks_of name (map (Asks here) asks) ≡ cond (is_same here name) asks []
asks_only here name [] = grind arith
asks_only here name (ask ∷ asks) = grind (arith, asks_only here name asks)

-- what is asked of the group, and of no other
pub group_asks : (name : Name) (g : OfGroup) (asks : List Ask) → asks_of name (group_facts (Some g) asks) ≡ cond (is_same g.name name) (asks ++ asked_id g.id) []
group_asks name g asks =
    let all = asks_append name (map (Asks g.name) asks) (id_facts g.name g.id) in grind (arith, all, asks_only g.name name asks)

-- ---- the id at a number

-- the id that is given at a number of the group, and at none of another
pub group_gives : (g : OfGroup) (asks : List Ask) → GivesId g.name g.id (group_facts (Some g) asks)
group_gives g asks = record {
  ids = λ name n. let read = only_ids (first_given (id_in name n)) option_or None (given_is_read (id_in name n)) (λ here ask. refl) (Some g) asks in grind (arith, read);
  places = λ name id. let read = only_ids (first_given (number_in name id)) option_or None (given_is_read (number_in name id)) (λ here ask. refl) (Some g) asks in grind (arith, read);
}

-- ---- names

module _ (s : Saying) (asks : List Ask) (no_list : s.groups ≡ None) where
  -- the group that is shown
  pub shown_group : (name : Name) → is_shown_group (facts_in s asks) name ≡ option_map_or (λ g. is_same g name) s.there_is false
  shown_group name =
      let ids = only_ids (list_any (shows_group name)) (λ a b. a || b) false (any_is_read (shows_group name)) (λ g ask. refl) s.group asks in grind (arith, list_any-append, ids)

  -- and the one that is denied
  pub denied_group : (name : Name) → list_any (denies_group name) (facts_in s asks) ≡ option_map_or (λ g. is_same g name) s.there_is_no false
  denied_group name =
      let ids = only_ids (list_any (denies_group name)) (λ a b. a || b) false (any_is_read (denies_group name)) (λ g ask. refl) s.group asks in grind (arith, list_any-append, ids)

  -- what is asked is what the group is asked
  pub asks_of_group : (name : Name) → asks_of name (facts_in s asks) ≡ asks_of name (group_facts s.group asks)
  asks_of_group name =
      let is : IsRead (asks_of name) (λ xs ys. xs ++ ys) [] = record { none = refl; append = asks_append name; left = λ xs. refl; right = append-nil } in
      let behind = missing_facts s.there_is_no ++ (lack_facts s.article ++ groups_facts s.groups) in
      let named = group_facts s.group asks ++ behind in
      past (asks_of name) (λ xs ys. xs ++ ys) [] is (sent_facts s.article) (there_facts s.there_is ++ named) (grind arith)
      ∙ past (asks_of name) (λ xs ys. xs ++ ys) [] is (there_facts s.there_is) named (grind arith)
      ∙ before (asks_of name) (λ xs ys. xs ++ ys) [] is (group_facts s.group asks) behind (grind arith)
