-- One number more of the group that is made.
use Rattle.std.proofs.Common.{◌≡◌, ◌≢◌, ◌⊎◌, ℕ, ◌+◌, ◌-◌, ◌<◌, ◌≤◌, ◌^◌, false, ◌==◌, List, [], ◌∷◌, ◌++◌, map, Option, None, Some, is_some, IsSome, IsTrue}
use Rattle.std.proofs.{Common.{Result, Ok, Err, inl, inr, refl, sym, ap, subst, ◌∙◌, arith}, lemmas.{Cmp.{tied_itself}, Bool.{or_cases, eqb-true}}}
use Rattle.std.specs.{Prelude.{IsFalse}, List.{AllByRecursion, list_any, Sorted.{IsStrictlySortedBy}}, declared.cmp.Ordering.TheVariants.{Less}}
use Rattle.std.specs.{Ordering.{nat_cmp}, Cmp.{nat_cmp_total, Lexicographic.{slice_cmp, nat_list_cmp_total}}, FinMap.{FinMap, get, insert}}
use Rattle.std.specs.FinMap.{nat_cmp-IsAntisymmetric}
use Rattle.nntp_wire.{specs.{Limit.{greatest}, Name.{IsMessageId}, declared.limit.Limit.{Limit}}, proofs.OptionLemmas.{none_of, some_is}}
use Rattle.nntp_article.specs.{Article.{Parts.{Id}, Fields.{plain_head}}, Session.Spool.{Spool, Name, Numbers, Text, IsNumber, IsSpool, numbers}}
use Rattle.nntp_said.specs.Facts.{Fact}
use Rattle.nntp_theory.{specs.Given.{is_mentioned, invented, AreInvented, IsFirstFree, IsGiven}, proofs.GivenNumbers.FirstFreeNumber.{first_free_once}}
use Rattle.nntp_theory.proofs.Ids.InventedIds.{invented_number, number-invented}
use Rattle.nntp_content.{specs.Content.{with_group, with_article}, proofs.{MapEntries.{got_more}, ShownMaps.{octet_keys}}}
use Rattle.nntp_store.specs.{Inner.Building.{Building, Builds, number_fault, article_fault}, declared.value.spool_fault.SpoolFault.{SpoolFault}}
use Rattle.nntp_store.specs.declared.value.spool_fault.SpoolFault.TheVariants.{Memory}
use Rattle.nntp_witness.{specs.Inner.Making.{Makes, unshown_at, IsBegun, NumbersLeft}, proofs.MoreMade.{got_here, got_other, got_still, numbers_here}}
use Rattle.nntp_witness.proofs.{MoreMade.{group_here, group_other, part_with_number}, BuilderCalls.{called, call_done, call_refused}, FaultsNone.{number_fits}}
use Rattle.nntp_witness.proofs.FaultsNone.{article_fits, plain_text}

-- ---- the numbers that are left

-- a number isn't below itself
not_below : (n m : ℕ) → nat_cmp n m ≡ Less → m ≢ n
not_below n m less same = grind (arith, tied_itself, nat_cmp_total)

-- the numbers behind one that is added aren't there yet
still_absent : (N : Numbers) (n : ℕ) (id : Id) (left : List (ℕ × Option Id)) → AllByRecursion (λ m. nat_cmp n m ≡ Less) (map (λ e. e.0) left) → AllByRecursion (λ e. get N e.0 ≡ None) left
    → AllByRecursion (λ e. get (insert N n id) e.0 ≡ None) left
still_absent N n id [] above absent = tt
still_absent N n id (e ∷ left) above absent = (got_other nat_cmp_total nat_cmp-IsAntisymmetric N n id e.0 (not_below n e.0 above.0) ∙ absent.0, still_absent N n id left above.1 absent.1)

-- the content with a number of a group more, and these articles
abbrev with_both : Spool → FinMap (slice_cmp nat_cmp) Text → Name → ℕ → Id → Spool
with_both S articles name n id = record { groups = insert S.groups name (insert (numbers S name) n id); articles = articles }

-- one number less is left, once it is there
one_less : (limit : Limit) (facts : List Fact) (G before : Spool) (name : Name) (behind : List Id) (n : ℕ) (o : Option Id)
    (left : List (ℕ × Option Id)) (b : Building) (next after : ℕ) (id : Id) (articles : FinMap (slice_cmp nat_cmp) Text)
    → NumbersLeft limit facts G before name behind ((n, o) ∷ left) b next → IsBegun limit facts G (record { limit = b.limit; spool = with_both b.spool articles name n id; failed = false }) after
    → AreInvented facts after (unshown_at (numbers G name) left ++ behind)
    → NumbersLeft limit facts G before name behind left (record { limit = b.limit; spool = with_both b.spool articles name n id; failed = false }) after
unfolding IsStrictlySortedBy
one_less limit facts G before name behind n o left b next after id articles l begun to_invent = record {
  begun = begun;
  to_invent = to_invent;
  is_group = group_here b.spool name (insert (numbers b.spool name) n id);
  ascending = l.ascending.1;
  of_group = l.of_group.1;
  not_made = subst (λ N. AllByRecursion (λ (e : ℕ × Option Id). get N e.0 ≡ None) left) (sym (numbers_here b.spool name (insert (numbers b.spool name) n id)))
      (still_absent (numbers b.spool name) n id left l.ascending.0 l.not_made.1);
  others = λ m i. by m (l.others m i);
  other_groups = λ other apart. group_other b.spool name (insert (numbers b.spool name) n id) other apart ∙ l.other_groups other apart;
}
  where
    made : (m : ℕ) → IsNumber (insert (numbers b.spool name) n id) m → IsNumber (numbers (with_both b.spool articles name n id) name) m
    made m i = subst (λ N. IsNumber N m) (sym (numbers_here b.spool name (insert (numbers b.spool name) n id))) i

    by : (m : ℕ) → IsTrue (list_any (λ e. e.0 == m) ((n, o) ∷ left)) ⊎ IsNumber (numbers b.spool name) m
        → IsTrue (list_any (λ e. e.0 == m) left) ⊎ IsNumber (numbers (with_both b.spool articles name n id) name) m
    by m (inl t) = elim (or_cases (n == m) (list_any (λ e. e.0 == m) left) t) [
      | inl same ↦ inr (made m (subst (λ k. IsNumber (insert (numbers b.spool name) n id) k) (eqb-true n m same) (ap is_some (got_here nat_cmp_total (numbers b.spool name) n id))))
      | inr more ↦ inl more
    ]
    by m (inr i) = inr (made m (got_still nat_cmp_total nat_cmp-IsAntisymmetric (numbers b.spool name) n id m i))

-- ---- a number whose id is shown

module _ (limit : Limit) (facts : List Fact) (G before : Spool) (given : IsGiven facts G) (is_spool : IsSpool (greatest limit) G)
    (name : Name) (behind : List Id) (n : ℕ) (left : List (ℕ × Option Id)) (b : Building) (next : ℕ) where
  -- the spool is one within the builder's limit
  own_limit : b.limit ≡ limit → IsSpool (greatest b.limit) G
  own_limit is = subst (λ l. IsSpool (greatest l) G) (sym is) is_spool

  -- an id that is shown isn't none
  some_none : (id : Id) → Some id ≡ None → ⊥
  some_none id e = cc

  -- the number has the id in the spool
  shown_there : (id : Id) → NumbersLeft limit facts G before name behind ((n, Some id) ∷ left) b next → get (numbers G name) n ≡ Some id
  shown_there id l = given.ids_shown name n id l.of_group.0.0 (sym l.of_group.0.1)

  -- it is added without a fault
  shown_fits : (id : Id) → NumbersLeft limit facts G before name behind ((n, Some id) ∷ left) b next → number_fault (greatest b.limit) b.spool name n id ≡ None
  shown_fits id l = number_fits b.limit facts G b.spool (own_limit l.begun.limit_is) l.begun.part name n id l.is_group (shown_there id l) l.not_made.0

  -- the others are left
  shown_made : (id : Id) → NumbersLeft limit facts G before name behind ((n, Some id) ∷ left) b next
      → NumbersLeft limit facts G before name behind left
      (record { limit = b.limit; spool = with_both b.spool b.spool.articles name n id; failed = false }) next
  shown_made id l =
      one_less limit facts G before name behind n (Some id) left b next next id b.spool.articles l (record {
        limit_is = l.begun.limit_is;
        is_whole = refl;
        part = part_with_number facts G b.spool b.spool.articles name n id l.begun.part l.is_group (shown_there id l)
            (λ q i. i) l.begun.part.articles (λ none. absurd (some_none id (l.of_group.0.1 ∙ none)));
        invented_before = l.begun.invented_before;
        small = l.begun.small;
      }) l.to_invent

  -- so the call makes it
  pub shown_makes : (o : Option Id) (id : Id) (r : Result (Unit {0}) SpoolFault) (new : Building) → o ≡ Some id → NumbersLeft limit facts G before name behind ((n, o) ∷ left) b next
      → Builds (number_fault (greatest b.limit) b.spool name n id)
      (with_group b.spool name (insert (numbers b.spool name) n id)) r b new
      → Makes r (λ _. NumbersLeft limit facts G before name behind left new next)
  shown_makes o id r new is was h =
      let l = subst (λ o. NumbersLeft limit facts G before name behind ((n, o) ∷ left) b next) is was in
      called (λ c. NumbersLeft limit facts G before name behind left c next) (number_fault (greatest b.limit) b.spool name n id)
      (with_group b.spool name (insert (numbers b.spool name) n id)) r b new l.begun.is_whole (shown_fits id l)
      (shown_made id l) h

  -- ---- a number for which none is shown

  -- its id is invented
  module _ (l : NumbersLeft limit facts G before name behind ((n, None) ∷ left) b next) (j : ℕ) (first : IsFirstFree (λ k. is_mentioned facts (invented k)) next j) (small : j < 2 ^ 64 - 1) where
    -- with this number
    same_number : l.to_invent.0 ≡ j
    same_number = first_free_once (λ k. is_mentioned facts (invented k)) next l.to_invent.0 j l.to_invent.1 first

    -- the number has it in the spool
    invented_there : get (numbers G name) n ≡ Some (invented j)
    invented_there = grind (arith, some_is, same_number)

    -- it is added without a fault
    invented_fits : number_fault (greatest b.limit) b.spool name n (invented j) ≡ None
    invented_fits = number_fits b.limit facts G b.spool (own_limit l.begun.limit_is) l.begun.part name n (invented j) l.is_group invented_there l.not_made.0

    -- the article has nothing but the id
    abbrev plain : Text
    plain = record { head = plain_head (invented j); body = [] }

    -- that is its article in the spool
    plain_there : get G.articles (invented j) ≡ Some plain
    plain_there = grind (arith, some_is, invented_there, plain_text)

    -- and isn't there yet, since the ids before have lesser numbers
    plain_absent : get b.spool.articles (invented j) ≡ None
    plain_absent = none_of (get b.spool.articles (invented j)) (λ i.
        let r = l.begun.invented_before (invented j) i in
        let lt : r.0 < next = r.1 in
        let le : next ≤ j = first.0 in
        let same : r.0 ≡ j = sym (number-invented r.0 (omega arith)) ∙ ap invented_number (sym r.2) ∙ number-invented j (omega arith) in
        omega arith)

    -- it is added without a fault
    plain_fits : article_fault (with_group b.spool name (insert (numbers b.spool name) n (invented j))) (invented j) plain ≡ None
    plain_fits = article_fits limit G (with_group b.spool name (insert (numbers b.spool name) n (invented j))) is_spool (invented j) plain plain_there plain_absent

    -- the articles with it
    abbrev more : FinMap (slice_cmp nat_cmp) Text
    more = insert b.spool.articles (invented j) plain

    -- they are the spool's
    more_there : (q : Id) (t : Text) → get more q ≡ Some t → get G.articles q ≡ Some t
    more_there q t e = elim (got_more nat_list_cmp_total octet_keys b.spool.articles (invented j) plain q t e) [
      | inl new ↦ ap (get G.articles) new.0 ∙ plain_there ∙ ap Some (sym new.1)
      | inr old ↦ l.begun.part.articles q t old
    ]

    -- their ids were invented before the next
    more_before : (q : Id) → IsSome (get more q) → (k : ℕ) × (k < j + 1) × (q ≡ invented k) × IsFalse (is_mentioned facts q)
    more_before q i =
        let t = some_is (get more q) i in
        elim (got_more nat_list_cmp_total octet_keys b.spool.articles (invented j) plain q t.0 t.1) [
          | inl new ↦ (j, omega arith, new.0, ap (is_mentioned facts) new.0 ∙ first.1)
          | inr old ↦ (let r = l.begun.invented_before q (ap is_some old) in let lt : r.0 < next = r.1 in let le : next ≤ j = first.0 in (r.0, omega arith, r.2, r.3))
        ]

    -- the others are left
    invented_made : NumbersLeft limit facts G before name behind left (record { limit = b.limit; spool = with_both b.spool more name n (invented j); failed = false }) (j + 1)
    invented_made =
        one_less limit facts G before name behind n None left b next (j + 1) (invented j) more l (record {
          limit_is = l.begun.limit_is;
          is_whole = refl;
          part = search (part_with_number, invented_there, got_still, nat_list_cmp_total, octet_keys, more_there, got_here);
          invented_before = more_before;
          small = omega arith;
        }) (subst (λ k. AreInvented facts (k + 1) (unshown_at (numbers G name) left ++ behind)) same_number l.to_invent.3)

    -- what the call of the number gives, with the id as the code has it
    abbrev Numbered : Id → Result (Unit {0}) SpoolFault → Building → Type 0
    Numbered id r new = Builds (number_fault (greatest b.limit) b.spool name n id) (with_group b.spool name (insert (numbers b.spool name) n id)) r b new

    module _ (id : Id) (is : id ≡ invented j) where
      -- the id is a message-id, since the spool has it
      pub invented_is_id : IsMessageId id
      invented_is_id = subst IsMessageId (sym is) (is_spool.ids (invented j) (ap is_some plain_there))

      -- a refusal of the number is want of memory
      pub invented_refused : (x : SpoolFault) (new : Building) → Numbered id (Err x) new → x ≡ Memory
      invented_refused x new h = grind (arith, call_refused, invented_fits)

      -- the two calls make the number and the article
      pub invented_makes : (t : Text) → t ≡ record { head = plain_head id; body = [] } → (x : Unit {0}) (r : Result (Unit {0}) SpoolFault) (mid new : Building)
          → Numbered id (Ok x) mid → Builds (article_fault mid.spool id t) (with_article mid.spool id t) r mid new → Makes r (λ _. NumbersLeft limit facts G before name behind left new (j + 1))
      invented_makes t text x r mid new h g = search (arith, call_done, invented_fits, called, plain_fits, invented_made)
