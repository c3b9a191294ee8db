-- A spool with one group more, or one number more, or with the article of one id more.
use Rattle.std.{proofs.Common.{arith, ◌≡◌, ◌≢◌, ◌⊎◌, ℕ, cond, List, None, Some, is_some, IsSome, inl, inr, sym, ap, subst, ◌∙◌}, specs.Prelude.{unwrap_or}}
use Rattle.std.specs.{declared.cmp.Ordering.{Ordering}, Ordering.{nat_cmp}, Cmp.{IsTotalOrder, nat_cmp_total, Lexicographic.{slice_cmp, nat_list_cmp_total}}}
use Rattle.std.specs.FinMap.{FinMap, get, insert, empty, get-insert, get-empty, IsAntisymmetric, nat_cmp-IsAntisymmetric}
use Rattle.nntp_article.specs.{Article.Parts.{Id}, Session.Spool.{Spool, Name, Numbers, Text, IsGroup, numbers}}
use Rattle.nntp_said.{proofs.FiniteMapsDecided.{dec_texts}, specs.Facts.{Fact}}
use Rattle.nntp_theory.specs.Given.{id_shown}
use Rattle.nntp_content.{specs.Content.{with_group}, proofs.{MapEntries.{tied_itself, got_more}, ShownMaps.{octet_keys}}}
use Rattle.nntp_witness.specs.Inner.Making.{IsPart}

-- ---- maps

module _ {K X : Type 0} {R : K → K → Ordering} (o : IsTotalOrder R) where
  -- what was put at a key is found there
  pub got_here : (m : FinMap R X) (k : K) (v : X) → get (insert m k v) k ≡ Some v
  got_here m k v = get-insert o m k v k ∙ ap (λ b. cond b (Some v) (get m k)) (tied_itself o k)

  -- and elsewhere what was there before
  pub got_other : IsAntisymmetric R → (m : FinMap R X) (k : K) (v : X) (q : K) → q ≢ k → get (insert m k v) q ≡ get m q
  got_other same m k v q apart = grind (arith, get-insert)

  -- what was there before is there
  pub got_still : IsAntisymmetric R → (m : FinMap R X) (k : K) (v : X) (q : K) → IsSome (get m q) → IsSome (get (insert m k v) q)
  got_still same m k v q i = grind (arith, get-insert)

-- ---- groups

module _ (S : Spool) (name : Name) (N : Numbers) where
  -- the group has the numbers that it was put with
  pub numbers_here : numbers (with_group S name N) name ≡ N
  numbers_here = ap (λ o. unwrap_or o empty) (got_here nat_list_cmp_total S.groups name N)

  -- the group is there
  pub group_here : IsGroup (with_group S name N) name
  group_here = ap is_some (got_here nat_list_cmp_total S.groups name N)

  -- the others are as they were
  pub group_other : (other : Name) → other ≢ name → get (with_group S name N).groups other ≡ get S.groups other
  group_other other apart = got_other nat_list_cmp_total octet_keys S.groups name N other apart

  -- with their numbers
  pub numbers_other : (other : Name) → other ≢ name → numbers (with_group S name N) other ≡ numbers S other
  numbers_other other apart = ap (λ o. unwrap_or o empty) (group_other other apart)

  -- each group is that one, or was there before
  pub group_more : (other : Name) → IsGroup (with_group S name N) other → (other ≡ name) ⊎ IsGroup S other
  group_more other i = elim (dec_texts other name) [
    | inl same ↦ inl same
    | inr apart ↦ inr (ap is_some (sym (group_other other apart)) ∙ i)
  ]

-- ---- numbers

-- each number is the one that was added, or was there before
pub number_more : (S : Spool) (name : Name) (n : ℕ) (id : Id) (other : Name) (m : ℕ) (found : Id) → get (numbers (with_group S name (insert (numbers S name) n id)) other) m ≡ Some found
    → ((other ≡ name) × (m ≡ n) × (found ≡ id)) ⊎ (get (numbers S other) m ≡ Some found)
number_more S name n id other m found e = by (dec_texts other name)
  where
    here : other ≡ name → get (numbers (with_group S name (insert (numbers S name) n id)) other) m ≡ get (insert (numbers S name) n id) m
    here same = ap (λ q. get (numbers (with_group S name (insert (numbers S name) n id)) q) m) same ∙ ap (λ N. get N m) (numbers_here S name (insert (numbers S name) n id))

    by : (other ≡ name) ⊎ (other ≡ name → ⊥) → ((other ≡ name) × (m ≡ n) × (found ≡ id)) ⊎ (get (numbers S other) m ≡ Some found)
    by (inl same) = elim (got_more nat_cmp_total nat_cmp-IsAntisymmetric (numbers S name) n id m found (sym (here same) ∙ e)) [
      | inl new ↦ inl (same, new.0, new.1)
      | inr old ↦ inr (subst (λ q. get (numbers S q) m ≡ Some found) (sym same) old)
    ]
    by (inr apart) = inr (ap (λ N. get N m) (sym (numbers_other S name (insert (numbers S name) n id) other apart)) ∙ e)

-- ---- parts

-- a group of the spool, without numbers, makes more of a part of it
pub part_with_group : (facts : List Fact) (G S : Spool) (name : Name) → IsPart facts G S → IsGroup G name → IsPart facts G (with_group S name empty)
part_with_group facts G S name part there = grind (arith, group_more, dec_texts, numbers_here, get-empty, numbers_other)

-- a number of the spool makes more of a part of it, if its id has an article there where none is shown
pub part_with_number : (facts : List Fact) (G S : Spool) (articles : FinMap (slice_cmp nat_cmp) Text) (name : Name) (n : ℕ)
    (id : Id) → IsPart facts G S → IsGroup S name → get (numbers G name) n ≡ Some id
    → ((q : Id) → IsSome (get S.articles q) → IsSome (get articles q)) → ((q : Id) (t : Text) → get articles q ≡ Some t → get G.articles q ≡ Some t)
    → (id_shown facts name n ≡ None → IsSome (get articles id))
    → IsPart facts G (record { groups = insert S.groups name (insert (numbers S name) n id); articles = articles })
part_with_number facts G S articles name n id part here at still among has = search (arith, group_more, number_more)
