-- The groups that are shown are those of the given spool, in the same order, and the ids that none of them shows come in turn.
use Rattle.std.proofs.Common.{◌≡◌, ℕ, false, IsTrue, List, [], ◌∷◌, map, Option, None, Some, is_some, IsSome, inl, refl, sym, ap, subst, ◌∙◌, arith}
use Rattle.std.specs.{Prelude.{unwrap_or}, List.{AllByRecursion, list_any, flat_map}, Ordering.{nat_cmp}, Cmp.{nat_cmp_total, Lexicographic.{slice_cmp}}}
use Rattle.std.specs.{Cmp.Lexicographic.{same_text, nat_list_cmp_total}, FinMap.{get, entries, empty, get-empty, nat_cmp-IsAntisymmetric}}
use Rattle.nntp_wire.specs.declared.limit.Limit.{Limit}
use Rattle.nntp_article.specs.{Article.Parts.{Id}, Session.{Machine.{is_same}, Spool.{Spool, Name, Numbers, IsGroup, numbers}}}
use Rattle.nntp_said.specs.Facts.{Fact}
use Rattle.nntp_theory.{specs.Given.{id_shown, unshown_in, unshown_ids, IsGiven}, proofs.{Given.ConstructedSpool.{names_apart}, Maps.{in_get}, Members.{In}}}
use Rattle.nntp_theory.proofs.{Members.{all_from, any_in, found_in, in_map, from_map}, Together.FactsOfASpoolStand.{same_itself}}
use Rattle.nntp_kept.specs.Inner.Readers.{ShownGroup, HasShownNumbers, AreShownGroups}
use Rattle.nntp_content.specs.Content.{no_spool}
use Rattle.nntp_witness.{specs.Inner.Making.{given_numbers, unshown_at, unshown_of, IsPart, GroupsLeft}, proofs.GroupNumbers.{keys_listed, given_keys}}
use Rattle.nntp_witness.proofs.GroupNumbers.{given_ids}

-- ---- the ids of one group

-- the entries of a group, and its numbers with the ids that are shown, leave the same ids
unshown_alike : (facts : List Fact) (name : Name) (N : Numbers) (es : List (ℕ × Id)) (fs : List (ℕ × Option Id))
    → map (λ f. f.0) fs ≡ map (λ e. e.0) es → ((n : ℕ) (id : Id) → In (n, id) es → get N n ≡ Some id)
    → AllByRecursion (λ f. f.1 ≡ id_shown facts name f.0) fs → unshown_in facts name es ≡ unshown_at N fs
unshown_alike facts name N [] [] ks there ids = refl
unshown_alike facts name N [] (f ∷ fs) ks there ids = cc
unshown_alike facts name N (e ∷ es) [] ks there ids = cc
unshown_alike facts name N (e ∷ es) (f ∷ fs) ks there ids =
    let key : f.0 ≡ e.0 = cc in
    let others : map (λ (f : ℕ × Option Id). f.0) fs ≡ map (λ (e : ℕ × Id). e.0) es = cc in
    let shown : is_some (id_shown facts name e.0) ≡ is_some f.1 = ap (λ n. is_some (id_shown facts name n)) (sym key) ∙ ap is_some (sym ids.0) in
    let own : e.1 ≡ unwrap_or (get N f.0) [] = ap (λ o. unwrap_or o []) (sym (there e.0 e.1 (inl refl))) ∙ ap (λ n. unwrap_or (get N n) []) (sym key) in
    grind (arith, unshown_alike facts name N es fs)

module _ (facts : List Fact) (G : Spool) (given : IsGiven facts G) where
  -- the ids of a shown group that aren't shown
  group_alike : (g : ShownGroup) → IsGroup G g.name → HasShownNumbers facts g → unshown_in facts g.name (entries (numbers G g.name)) ≡ unshown_at (numbers G g.name) (given_numbers g)
  group_alike g i h = search (unshown_alike, given_keys, in_get, nat_cmp_total, nat_cmp-IsAntisymmetric, given_ids)

  -- ---- all groups

  -- a group of the spool that has the name of a shown one
  entry_alike : (name : Name) (N : Numbers) (g : ShownGroup) → g.name ≡ name → get G.groups name ≡ Some N
      → HasShownNumbers facts g → unshown_in facts name (entries N) ≡ unshown_at (numbers G g.name) (given_numbers g)
  entry_alike name N g same there h = grind (arith, group_alike)

  -- groups of the same names in the same order
  groups_alike : (es : List (Name × Numbers)) (gs : List ShownGroup) → map (λ g. g.name) gs ≡ map (λ e. e.0) es
      → ((name : Name) (N : Numbers) → In (name, N) es → get G.groups name ≡ Some N) → AllByRecursion (HasShownNumbers facts) gs
      → flat_map (λ e. unshown_in facts e.0 (entries e.1)) es ≡ unshown_of G gs
  groups_alike [] [] ks there hs = refl
  groups_alike [] (g ∷ gs) ks there hs = cc
  groups_alike (e ∷ es) [] ks there hs = cc
  groups_alike (e ∷ es) (g ∷ gs) ks there hs =
      let key : g.name ≡ e.0 = cc in
      let others : map (λ (g : ShownGroup). g.name) gs ≡ map (λ (e : Name × Numbers). e.0) es = cc in
      let first = entry_alike e.0 e.1 g key (there e.0 e.1 (inl refl)) hs.0 in
      grind (arith, groups_alike es gs)

  module _ (groups : List ShownGroup) (shown : AreShownGroups facts groups) where
    -- a shown group is one of the list
    pub in_shown : (name : Name) → IsGroup G name → IsTrue (list_any (λ g. is_same g.name name) groups)
    in_shown name i = shown.all name ∙ (given.groups name).0 i

    -- and back
    pub shown_is_group : (name : Name) → In name (map (λ g. g.name) groups) → IsGroup G name
    shown_is_group name i =
        let f = from_map (λ (g : ShownGroup). g.name) name groups i in
        (given.groups name).1 (sym (shown.all name) ∙ any_in (λ (g : ShownGroup). is_same g.name name) f.0 groups f.1 (ap (λ n. is_same n name) f.2 ∙ same_itself name))

    -- its name is one of the names
    name_listed : (name : Name) → IsGroup G name → In name (map (λ g. g.name) groups)
    name_listed name i =
        let f = found_in (λ (g : ShownGroup). is_same g.name name) groups (in_shown name i) in
        subst (λ n. In n (map (λ (g : ShownGroup). g.name) groups)) (same_text f.0.name name (sym f.2)) (in_map (λ (g : ShownGroup). g.name) f.0 groups f.1)

    -- the ids of the given spool that aren't shown are those of the shown groups
    pub unshown_in_order : unshown_ids facts G ≡ unshown_of G groups
    unshown_in_order = search (groups_alike, keys_listed, nat_list_cmp_total, names_apart, shown_is_group, name_listed, in_get)

-- ---- the start

-- where nothing is found nothing is there
none_there : {X : Type 0} (o : Option X) → o ≡ None → IsSome o → ⊥
none_there o e i = cc

-- no group is there
no_group : (name : Name) → get no_spool.groups name ≡ None
no_group name = get-empty (slice_cmp nat_cmp) name

-- nor a number
no_number : (name : Name) (n : ℕ) → get (numbers no_spool name) n ≡ None
no_number name n = ap (λ (o : Option Numbers). get (unwrap_or o empty) n) (no_group name) ∙ get-empty nat_cmp n

-- nor an article
no_article : (id : Id) → get no_spool.articles id ≡ None
no_article id = get-empty (slice_cmp nat_cmp) id

-- nothing is a part
none_is_part : (facts : List Fact) (G : Spool) → IsPart facts G no_spool
none_is_part facts G = grind (arith, none_there, no_group, no_article, no_number)

-- at the start all groups are left
pub all_left : (limit : Limit) (facts : List Fact) (G : Spool) (groups : List ShownGroup) → IsGiven facts G
    → AreShownGroups facts groups → GroupsLeft limit facts G groups (record { limit = limit; spool = no_spool; failed = false }) 0
all_left limit facts G groups given shown = grind (arith, none_is_part, none_there, no_article, unshown_in_order, all_from, shown_is_group, in_map, no_group, in_shown)
