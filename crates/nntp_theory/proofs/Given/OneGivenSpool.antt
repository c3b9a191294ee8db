-- There is one given spool at most.
use Rattle.std.proofs.Common.{◌≡◌, ℕ, cond, List, [], ◌∷◌, ◌++◌, map, Option, None, Some, is_some, inl, inr, refl, sym, ap, subst, ◌∙◌, arith}
use Rattle.std.{proofs.lemmas.Bool.{true≢false}, specs.{Prelude.{unwrap_or}, List.{flat_map}, Cmp.{nat_cmp_total, Lexicographic.{nat_list_cmp_total}}}}
use Rattle.std.specs.FinMap.{keys, entries, empty, same_entries_map, same_map, nat_cmp-IsAntisymmetric}
use Rattle.nntp_article.specs.{Session.Spool.{Spool, Numbers, IsGroup, numbers, Name}, Article.Parts.{Id}}
use Rattle.nntp_said.specs.Facts.{Fact}
use Rattle.nntp_theory.{specs.Given.{id_shown, is_mentioned, invented, AreInvented, unshown_in, IsGiven}, proofs.GivenNumbers.FirstFreeNumber.{first_free_once}}
use Rattle.nntp_theory.proofs.{Members.{In}, Maps.{same_keys, in_get}, Given.ConstructedSpool.{names_apart}}

-- ids at numbers for which one is shown are those
abbrev Agree : List Fact → Name → List (ℕ × Id) → Type 0
Agree facts name es = (n : ℕ) (id shown : Id) → In (n, id) es → id_shown facts name n ≡ Some shown → id ≡ shown

-- the entries of a group are determined, with the number from which on the next ids are invented
same_group : (facts : List Fact) (name : Name) (k : ℕ) (es fs : List (ℕ × Id)) (xs ys : List Id) → map (λ e. e.0) es ≡ map (λ e. e.0) fs → Agree facts name es → Agree facts name fs
    → AreInvented facts k (unshown_in facts name es ++ xs) → AreInvented facts k (unshown_in facts name fs ++ ys) → (es ≡ fs) × ((j : ℕ) × AreInvented facts j xs × AreInvented facts j ys)
same_group facts name k [] [] xs ys keys ag ag' h g = (refl, (k, h, g))
same_group facts name k (e ∷ es) (f ∷ fs) xs ys keys ag ag' h g =
    by (id_shown facts name e.0) refl (λ k. same_group facts name k es fs xs ys rest_keys (λ n id shown i. ag n id shown (inr i)) (λ n id shown i. ag' n id shown (inr i))) h
    (subst (λ n. AreInvented facts k ((cond (is_some (id_shown facts name n)) [] (f.1 ∷ []) ++ unshown_in facts name fs) ++ ys)) (sym first_key) g)
  where
    first_key : e.0 ≡ f.0
    first_key = cc

    rest_keys : map (λ (e : ℕ × Id). e.0) es ≡ map (λ (e : ℕ × Id). e.0) fs
    rest_keys = cc

    joined : e.1 ≡ f.1 → es ≡ fs → (e ∷ es) ≡ (f ∷ fs)
    joined same rest = λ i. (first_key i, same i) ∷ rest i

    by : (o : Option Id) → id_shown facts name e.0 ≡ o
        → ((k : ℕ) → AreInvented facts k (unshown_in facts name es ++ xs) → AreInvented facts k (unshown_in facts name fs ++ ys)
        → (es ≡ fs) × ((j : ℕ) × AreInvented facts j xs × AreInvented facts j ys))
        → AreInvented facts k ((cond (is_some o) [] (e.1 ∷ []) ++ unshown_in facts name es) ++ xs) → AreInvented facts k ((cond (is_some o) [] (f.1 ∷ []) ++ unshown_in facts name fs) ++ ys)
        → ((e ∷ es) ≡ (f ∷ fs)) × ((j : ℕ) × AreInvented facts j xs × AreInvented facts j ys)
    by (Some id) is rec h g = grind (arith, ag e.0 e.1 id (inl refl) is, ag' f.0 f.1 id (inl refl) (ap (id_shown facts name) (sym first_key) ∙ is))
    by None is rec (i, a, is_i, h) (j, b, is_j, g) = grind (arith, first_free_once (λ i. is_mentioned facts (invented i)) k i j a b, joined, true≢false)
same_group facts name k es fs xs ys keys ag ag' h g = cc

-- ---- groups

-- the ids of a group for which none is shown
abbrev ids_of : List Fact → Name × Numbers → List Id
ids_of facts g = unshown_in facts g.0 (entries g.1)

-- the groups are determined
same_groups : (facts : List Fact) (k : ℕ) (gs hs : List (Name × Numbers)) → map (λ g. g.0) gs ≡ map (λ h. h.0) hs
    → ((name : Name) (N : Numbers) → In (name, N) gs → Agree facts name (entries N)) → ((name : Name) (N : Numbers) → In (name, N) hs → Agree facts name (entries N))
    → ((name : Name) (N M : Numbers) → In (name, N) gs → In (name, M) hs → keys N ≡ keys M)
    → AreInvented facts k (flat_map (ids_of facts) gs) → AreInvented facts k (flat_map (ids_of facts) hs) → gs ≡ hs
same_groups facts k [] [] names ag ah ks p q = refl
same_groups facts k (g ∷ gs) (h ∷ hs) names ag ah ks p q =
    let name : g.0 ≡ h.0 = cc in
    let rest : map (λ (g : Name × Numbers). g.0) gs ≡ map (λ (h : Name × Numbers). h.0) hs = cc in
    let other : In (g.0, h.1) (h ∷ hs) = inl (let back = sym name in λ i. (back i, h.1)) in
    let one = same_group facts g.0 k (entries g.1) (entries h.1) (flat_map (ids_of facts) gs) (flat_map (ids_of facts) hs) (ks g.0 g.1 h.1 (inl refl) other) (ag g.0 g.1 (inl refl)) (ah g.0 h.1 other)
    p (subst (λ n. AreInvented facts k (unshown_in facts n (entries h.1) ++ flat_map (ids_of facts) hs)) (sym name) q) in
    let numbers : g.1 ≡ h.1 = same_entries_map g.1 h.1 one.0 in
    λ i. (name i, numbers i) ∷ (same_groups facts one.1.0 gs hs rest (λ n N i. ag n N (inr i)) (λ n N i. ah n N (inr i)) (λ n N M i j. ks n N M (inr i) (inr j)) one.1.1 one.1.2) i
same_groups facts k gs hs names ag ah ks p q = cc

module _ (facts : List Fact) (G H : Spool) (given : IsGiven facts G) (other : IsGiven facts H) where
  -- an entry is a group with its numbers
  numbers_at : (S : Spool) (name : Name) (N : Numbers) → In (name, N) (entries S.groups) → (IsGroup S name) × (numbers S name ≡ N)
  numbers_at S name N i = let e = in_get nat_list_cmp_total names_apart S.groups name N i in (ap is_some e, ap (λ o. unwrap_or o empty) e)

  -- ids that are shown stand in the entries
  agrees : (S : Spool) → IsGiven facts S → (name : Name) (N : Numbers) → In (name, N) (entries S.groups) → Agree facts name (entries N)
  agrees S s name N i n id shown j e = grind (arith, numbers_at S name N i, in_get nat_cmp_total nat_cmp-IsAntisymmetric N n id j, s.ids_shown name n shown)

  -- a group has the same numbers in both
  same_numbers : (name : Name) (N M : Numbers) → In (name, N) (entries G.groups) → In (name, M) (entries H.groups) → keys N ≡ keys M
  same_numbers name N M i j = grind (arith, numbers_at, same_keys nat_cmp_total nat_cmp-IsAntisymmetric N M)

  -- the groups are the same
  groups_alike : G.groups ≡ H.groups
  groups_alike =
      same_entries_map G.groups H.groups
      (same_groups facts 0 (entries G.groups) (entries H.groups)
      (same_keys nat_list_cmp_total names_apart G.groups H.groups (λ name i. (other.groups name).1 ((given.groups name).0 i)) (λ name i. (given.groups name).1 ((other.groups name).0 i)))
      (agrees G given) (agrees H other) same_numbers given.ids_invented other.ids_invented)

  -- two given spools are one
  pub given_once : G ≡ H
  given_once = grind (arith, same_map nat_list_cmp_total names_apart G.articles H.articles (λ id. grind (arith, groups_alike, given.articles id, other.articles id)), names_apart, groups_alike)
