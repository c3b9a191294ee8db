-- A construction of the spool that is given.
use Rattle.std.proofs.{lemmas.{Map.Steps.{le-length_from_below}, Bool.{cases_lt, true≢false, false_from_ne_true}}, Common.{◌≡◌, ℕ, ◌+◌, ◌<◌, ◌≤◌, ◌↔◌, ◌⊎◌}}
use Rattle.std.proofs.Common.{true, cond, eqb, IsTrue, List, [], ◌∷◌, ◌++◌, map, length, Option, None, Some, is_some, IsSome, inl, inr, refl, sym, ap, subst}
use Rattle.std.{proofs.Common.{◌∙◌, arith, length-append}, specs.{declared.cmp.Ordering.{Ordering}, Prelude.{unwrap_or, option_to_list}, Ordering.{nat_cmp}}}
use Rattle.std.specs.{List.{list_any, flat_map}, Cmp.{nat_cmp_total, IsTotalOrder, Lexicographic.{slice_cmp, same_text, nat_list_cmp_total}}, FinMap.{FinMap}}
use Rattle.std.specs.FinMap.{get, empty, keys, entries, from_sorted, entries-from_sorted, nat_cmp-IsAntisymmetric, slice_cmp-IsAntisymmetric, IsAntisymmetric}
use Rattle.nntp_article.specs.{Session.{Spool.{Spool, Text, Numbers, IsNumber, IsGroup, numbers, Name}, Machine.{is_same}}, Article.Parts.{Id}}
use Rattle.nntp_article.specs.Article.Fields.{made_head}
use Rattle.nntp_said.specs.Facts.{Fact, TextIs, FieldsAre}
use Rattle.nntp_wire.{specs.Listing.{OverviewValue}, proofs.OptionLemmas.{some_is}}
use Rattle.nntp_theory.specs.Given.{IsOneMore, HasGivenNumbers, asks_of, is_shown_group, first_given, id_shown, gives_article, is_sent, head_in, fields_in}
use Rattle.nntp_theory.specs.{Given.{body_in, is_mentioned, invented, unshown_in, unshown_ids, IsUsed, IsFirstFree, AreInvented, IsGiven}, Inner.OneMore.{free}}
use Rattle.nntp_theory.proofs.Members.{In, in_front, in_back, in_cases, in_map, from_map, to_flat, from_flat, any_in, found_in, any_back}
use Rattle.nntp_theory.proofs.Ids.{SmallGivenSpool.{names_of, shown_name, name_shown}, InventedIds.{invented_number}, NumbersOfInventedIds.{mentioned, counted}}
use Rattle.nntp_theory.proofs.{Together.FactsOfASpoolStand.{same_itself}, Given.GivenHolds.{group_of_number}, GivenNumbers.FirstFreeNumber.{free_is, free_none}}
use Rattle.nntp_theory.proofs.{GivenNumbers.OneMoreNumber.{known_list, in_known_list, from_known_list, more, more_found}, Maps.{sorted_as, get_in, in_get}}
use Rattle.nntp_theory.proofs.Maps.{key_of, of_key, made_of, get-made_of, in-made_of, key_map, in_key_map, of_key_map}

-- only equal names tie
pub names_apart : IsAntisymmetric (slice_cmp nat_cmp)
names_apart = slice_cmp-IsAntisymmetric nat_cmp-IsAntisymmetric

-- a map with the keys of a list has each of them and no other
key_listed : {K X : Type 0} {R : K → K → Ordering} (o : IsTotalOrder R) (same : IsAntisymmetric R) (m : FinMap R X) (ks : List K)
    → keys m ≡ keys (key_map R o same ks) → (q : K) → IsSome (get m q) ↔ In q ks
key_listed {R = R} o same m ks e q = grind (arith, of_key_map, key_of, of_key, in_key_map)

-- the ids of a group
abbrev ids_of : Name × Numbers → List Id
ids_of g = map (λ (e : ℕ × Id). e.1) (entries g.1)

-- the id that a success names
abbrev sent_in : Fact → List Id
sent_in (TextIs what id lines) = id ∷ []
sent_in (FieldsAre os) = map (λ o. o.id) os
sent_in fact = []

module _ (limit : ℕ) (B : ℕ) (facts : List Fact) where
  -- the numbers of a group, with the one more if it is needed
  abbrev numbers_of : Name → List ℕ
  numbers_of name = option_to_list (more limit (asks_of name facts)) ++ known_list (asks_of name facts)

  -- those numbers, each once and in order
  abbrev number_map : Name → FinMap nat_cmp (List ℕ)
  number_map name = key_map nat_cmp nat_cmp_total nat_cmp-IsAntisymmetric (numbers_of name)

  -- the names of groups, each once and in order
  abbrev name_map : FinMap (slice_cmp nat_cmp) (List ℕ)
  name_map = key_map (slice_cmp nat_cmp) nat_list_cmp_total names_apart (names_of facts)

  -- the next number of an invented id, from k on
  abbrev next : ℕ → ℕ
  next k = unwrap_or (free (λ j. is_mentioned facts (invented j)) B k) k

  -- the number from which on the next id is invented
  abbrev after_id : Option Id → ℕ → ℕ
  after_id None k = next k + 1
  after_id (Some id) k = k

  -- the ids of numbers, shown or invented from k on
  abbrev numbered_ids : Name → ℕ → List ℕ → List (ℕ × Id)
  numbered_ids name k [] = []
  numbered_ids name k (n ∷ ns) = (n, unwrap_or (id_shown facts name n) (invented (next k))) ∷ numbered_ids name (after_id (id_shown facts name n) k) ns

  -- the number from which on ids are invented behind them
  abbrev after_ids : Name → ℕ → List ℕ → ℕ
  after_ids name k [] = k
  after_ids name k (n ∷ ns) = after_ids name (after_id (id_shown facts name n) k) ns

  -- a group, its ids invented from k on
  group_from : Name → ℕ → Numbers
  group_from name k = from_sorted (numbered_ids name k (keys (number_map name)))

  -- groups one after the other
  abbrev groups_from : ℕ → List Name → List (Name × Numbers)
  groups_from k [] = []
  groups_from k (g ∷ gs) = (g, group_from g k) ∷ groups_from (after_ids g k (keys (number_map g))) gs

  -- all groups
  abbrev made_groups : FinMap (slice_cmp nat_cmp) Numbers
  made_groups = from_sorted (groups_from 0 (keys name_map))

  -- the ids that are used or sent
  abbrev made_ids : List Id
  made_ids = flat_map ids_of (entries made_groups) ++ flat_map sent_in facts

  -- the article of an id
  abbrev text_for : Id → Text
  text_for id = record { head = unwrap_or (first_given (head_in id) facts) (made_head id (first_given (fields_in id) facts)); body = unwrap_or (first_given (body_in id) facts) [] }

  -- the spool that is made
  pub made : Spool
  made = record { groups = made_groups; articles = made_of nat_list_cmp_total names_apart text_for made_ids }

  -- ---- keys

  -- a group has the numbers for which it is made
  keys_numbered : (name : Name) (k : ℕ) (ns : List ℕ) → map (λ e. e.0) (numbered_ids name k ns) ≡ ns
  keys_numbered name k [] = refl
  keys_numbered name k (n ∷ ns) = ap (λ ns. n ∷ ns) (keys_numbered name (after_id (id_shown facts name n) k) ns)

  -- the entries of a group
  entries_group : (name : Name) (k : ℕ) → entries (group_from name k) ≡ numbered_ids name k (keys (number_map name))
  unfolding group_from
  entries_group name k = entries-from_sorted nat_cmp _ (sorted_as nat_cmp (number_map name) (numbered_ids name k (keys (number_map name))) (keys_numbered name k (keys (number_map name))))

  keys_group : (name : Name) (k : ℕ) → keys (group_from name k) ≡ keys (number_map name)
  keys_group name k = ap (map (λ e. e.0)) (entries_group name k) ∙ keys_numbered name k (keys (number_map name))

  -- the groups have the names for which they are made
  keys_groups : (k : ℕ) (gs : List Name) → map (λ e. e.0) (groups_from k gs) ≡ gs
  keys_groups k [] = refl
  keys_groups k (g ∷ gs) = ap (λ gs. g ∷ gs) (keys_groups (after_ids g k (keys (number_map g))) gs)

  -- the entries of the groups
  entries_groups : entries made_groups ≡ groups_from 0 (keys name_map)
  entries_groups = entries-from_sorted (slice_cmp nat_cmp) _ (sorted_as (slice_cmp nat_cmp) name_map (groups_from 0 (keys name_map)) (keys_groups 0 (keys name_map)))

  -- ---- groups

  -- the groups are those that are shown
  pub made_group : (name : Name) → IsGroup made name ↔ IsTrue (is_shown_group facts name)
  unfolding made
  made_group name =
      let listed = key_listed nat_list_cmp_total names_apart made_groups (names_of facts) (ap (map (λ e. e.0)) entries_groups ∙ keys_groups 0 (keys name_map)) name in
      (λ i. name_shown facts name (listed.0 i), λ t. listed.1 (shown_name facts name t))

  -- each group was made from some number on
  group_is : (name : Name) (N : Numbers) (k : ℕ) (gs : List Name) → In (name, N) (groups_from k gs) → (j : ℕ) × (N ≡ group_from name j)
  group_is name N k [] i = absurd i
  group_is name N k (g ∷ gs) i = grind (arith, group_is name N (after_ids g k (keys (number_map g))) gs)

  -- the numbers of a group are those that were made for it
  made_numbers : (name : Name) → IsGroup made name → (k : ℕ) × (numbers made name ≡ group_from name k)
  unfolding made
  made_numbers name i =
      let N = some_is (get made_groups name) i in
      let g = group_is name N.0 0 (keys name_map) (subst (In (name, N.0)) entries_groups (get_in nat_list_cmp_total names_apart made_groups name N.0 N.1)) in
      (g.0, ap (λ o. unwrap_or o empty) N.1 ∙ g.1)

  -- the numbers of a group are the given ones
  pub made_given : (name : Name) → ((e : ℕ) → IsOneMore (asks_of name facts) e → e ≤ limit) → IsGroup made name → HasGivenNumbers (asks_of name facts) (numbers made name)
  made_given name low i =
      let g = made_numbers name i in
      let asks = asks_of name facts in
      let listed = key_listed nat_cmp_total nat_cmp-IsAntisymmetric (group_from name g.0) (numbers_of name) (keys_group name g.0) in
      subst (HasGivenNumbers asks) (sym g.1) (λ n.
      let there = in_cases n (option_to_list (more limit asks)) (known_list asks) in
      grind (arith, listed n, there, in_front, in_back, false_from_ne_true, true≢false, any_in, known_list, free_is, from_known_list, in_known_list, more_found limit asks n, low n))

  -- ---- ids

  -- an id that is shown stands in its group
  shown_there : (name : Name) (n : ℕ) (id : Id) (k : ℕ) (ns : List ℕ) → In n ns → id_shown facts name n ≡ Some id → In (n, id) (numbered_ids name k ns)
  shown_there name n id k [] i e = absurd i
  shown_there name n id k (m ∷ ns) (inl same) e = inl (λ j. (same j, (ap (λ m. unwrap_or (id_shown facts name m) (invented (next k))) same ∙ ap (λ o. unwrap_or o (invented (next k))) e) j))
  shown_there name n id k (m ∷ ns) (inr i) e = inr (shown_there name n id (after_id (id_shown facts name m) k) ns i e)

  -- ids that are shown stand at their numbers
  pub made_ids_shown : (name : Name) (n : ℕ) (id : Id) → IsNumber (numbers made name) n → id_shown facts name n ≡ Some id → get (numbers made name) n ≡ Some id
  made_ids_shown name n id i e =
      let g = made_numbers name (grind (arith, group_of_number made name n i)) in
      let there = key_of nat_cmp_total nat_cmp-IsAntisymmetric (group_from name g.0) n in
      grind (arith, g, there, keys_group name g.0, entries_group name g.0, shown_there name n id g.0, in_get nat_cmp_total nat_cmp-IsAntisymmetric (group_from name g.0) n id)

  -- ---- articles

  -- one of the ids that are sent
  sent_if : (id : Id) (fact : Fact) → In id (sent_in fact) ↔ (gives_article id fact ≡ true)
  sent_if id (FieldsAre os) = (
    λ h. (let f = from_map (λ (o : OverviewValue). o.id) id os h in grind (arith, f, any_in (λ o. is_same o.id id) f.0 os, same_itself)),
    λ t. (let f = found_in (λ o. is_same o.id id) os t in grind (arith, f, same_text f.0.id id, in_map (λ (o : OverviewValue). o.id) f.0 os)),
  )
  sent_if id fact = (λ h. grind (arith, same_itself), λ t. grind (arith, same_text))

  -- the ids are those that are used or sent
  id_made : (id : Id) → In id made_ids ↔ (IsUsed made id ⊎ IsTrue (is_sent facts id))
  unfolding made
  id_made id = (
    λ i. elim (in_cases id (flat_map ids_of (entries made_groups)) (flat_map sent_in facts) i) [
      | inl j ↦
          let g = from_flat ids_of id (entries made_groups) j in
          let e = from_map (λ (e : ℕ × Id). e.1) id (entries g.0.1) g.2 in
          inl (g.0.0, e.0.0, grind (arith, in_get nat_list_cmp_total names_apart made_groups g.0.0 g.0.1 g.1, e, in_get nat_cmp_total nat_cmp-IsAntisymmetric g.0.1 e.0.0 e.0.1))
      | inr j ↦ (let f = from_flat sent_in id facts j in inr (any_in (gives_article id) f.0 facts f.1 ((sent_if id f.0).0 f.2)))
    ],
    λ h. elim h [
      | inl u ↦
          let g = group_of_number made u.0 u.1 (ap is_some u.2) in
          let there = to_flat ids_of (u.0, g.0) id (entries made_groups) (get_in nat_list_cmp_total names_apart made_groups u.0 g.0 g.1) in
          grind (arith, in_front, there, g, in_map (λ (e : ℕ × Id). e.1) (u.1, id) (entries g.0), get_in nat_cmp_total nat_cmp-IsAntisymmetric g.0 u.1 id)
      | inr t ↦ (let f = found_in (gives_article id) facts t in
          in_back id (flat_map ids_of (entries made_groups)) (flat_map sent_in facts) (to_flat sent_in f.0 id facts f.1 ((sent_if id f.0).1 f.2)))
    ],
  )

  -- those ids have articles
  pub made_article : (id : Id) → IsSome (get made.articles id) ↔ (IsUsed made id ⊎ IsTrue (is_sent facts id))
  unfolding made
  made_article id = grind (arith, id_made id, get-made_of, in-made_of)

  -- ---- invented ids

  module _ (small : (i : ℕ) → i < B → invented_number (invented i) ≡ i) where
    -- each number below k is that of an id that is mentioned or was invented
    abbrev Used : ℕ → List ℕ → Type 0
    Used k done = (i : ℕ) → i < k → list_any (eqb i) (done ++ mentioned facts) ≡ true

    -- the numbers below the next one are used
    used_before : (k j : ℕ) (done : List ℕ) → Used k done → ((i : ℕ) → k ≤ i → i < j → IsTrue (is_mentioned facts (invented i)))
        → (i : ℕ) → i < j → i < B → list_any (eqb i) (done ++ mentioned facts) ≡ true
    used_before k j done used passed i l s =
        elim (cases_lt i k) [ inl b ↦ used i b | inr g ↦ any_back (eqb i) done (mentioned facts) (counted B small facts i facts s (passed i g l)) ]

    -- the numbers below B aren't all used
    not_all_used : (done : List ℕ) → length (mentioned facts) + length done < B → ((i : ℕ) → i < B → list_any (eqb i) (done ++ mentioned facts) ≡ true) → ⊥
    not_all_used done few all = grind (arith, le-length_from_below (done ++ mentioned facts) B all, length-append)

    -- the next number isn't mentioned, and those before it are
    invents : (k : ℕ) (done : List ℕ) → Used k done → length (mentioned facts) + length done < B → IsFirstFree (λ i. is_mentioned facts (invented i)) k (next k) × Used (next k + 1) (next k ∷ done)
    invents k done used few = by (free (λ j. is_mentioned facts (invented j)) B k) refl
      where
        by : (o : Option ℕ) → free (λ j. is_mentioned facts (invented j)) B k ≡ o
            → IsFirstFree (λ i. is_mentioned facts (invented i)) k (unwrap_or o k) × Used (unwrap_or o k + 1) (unwrap_or o k ∷ done)
        by None e = absurd (not_all_used done few (λ i l. used_before k (k + B) done used (free_none (λ j. is_mentioned facts (invented j)) B k e) i (omega arith) l))
        by (Some j) e =
            let f = free_is (λ j. is_mentioned facts (invented j)) B k j e in
            let before = used_before k j done used f.2 in
            grind (arith, not_all_used)

    -- ids are invented in turn from k on, whatever was invented before
    abbrev Goes : ℕ → List Id → Type 0
    Goes k rest = (done : List ℕ) → Used k done → length (mentioned facts) + length done + length rest < B → AreInvented facts k rest

    -- those of a group are, if those behind them are
    ids_invented : (name : Name) (ns : List ℕ) (k : ℕ) (rest : List Id) → Goes (after_ids name k ns) rest → Goes k (unshown_in facts name (numbered_ids name k ns) ++ rest)
    ids_invented name [] k rest then = then
    ids_invented name (n ∷ ns) k rest then = by (id_shown facts name n) (λ k. ids_invented name ns k rest) then
      where
        by : (o : Option Id) → ((k : ℕ) → Goes (after_ids name k ns) rest → Goes k (unshown_in facts name (numbered_ids name k ns) ++ rest))
            → Goes (after_ids name (after_id o k) ns) rest
            → Goes k ((cond (is_some o) [] (unwrap_or o (invented (next k)) ∷ []) ++ unshown_in facts name (numbered_ids name (after_id o k) ns)) ++ rest)
        by (Some id) rec then = rec k then
        by None rec then = λ done used few.
            let v = invents k done used (omega arith) in
            (next k, v.0, refl, rec (next k + 1) then (next k ∷ done) v.1 (omega arith))

    -- the ids of groups for which none is shown
    abbrev unshown : List (Name × Numbers) → List Id
    unshown gs = flat_map (λ (g : Name × Numbers). unshown_in facts g.0 (entries g.1)) gs

    -- and so those of all groups
    groups_invented : (gs : List Name) (k : ℕ) → Goes k (unshown (groups_from k gs))
    groups_invented [] k = λ done used few. tt
    groups_invented (g ∷ gs) k = grind (arith, entries_group, ids_invented, groups_invented gs)

    -- what is made is the given spool, where each group has a free number within the limit
    pub made_is_given : ((name : Name) → IsTrue (is_shown_group facts name) → (e : ℕ) → IsOneMore (asks_of name facts) e
        → e ≤ limit) → length (mentioned facts) + length (unshown_ids facts made) < B → IsGiven facts made
    unfolding made
    made_is_given low few = record {
      groups = made_group;
      numbers_given = λ name i. made_given name (low name ((made_group name).0 i)) i;
      ids_shown = made_ids_shown;
      ids_invented = grind (arith, entries_groups, groups_invented (keys name_map) 0);
      articles = made_article;
      heads = λ id t e. ap (λ t. t.head) ((get-made_of nat_list_cmp_total names_apart text_for made_ids id t e).1);
      bodies = λ id t e. ap (λ t. t.body) ((get-made_of nat_list_cmp_total names_apart text_for made_ids id t e).1);
    }
