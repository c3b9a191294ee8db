-- One group more of the spool that is made.
use Rattle.std.proofs.Common.{arith, ◌≡◌, ◌≢◌, ◌⊎◌, ℕ, false, ◌==◌, List, [], ◌∷◌, ◌++◌, map, Option, None, Some, IsSome, IsTrue, Result, Ok, Err, inl, inr}
use Rattle.std.proofs.{Common.{refl, sym, ap, subst, ◌∙◌}, lemmas.{Bool.{true≢false, or_cases, eq-eqb}, Cmp.{tied_itself}, List.{append-nil}}}
use Rattle.std.specs.{Prelude.{unwrap_or}, List.{AllByRecursion, list_any, Sorted.{IsStrictlySortedBy}}, declared.cmp.Ordering.TheVariants.{Less}}
use Rattle.std.specs.{Ordering.{nat_cmp}, Cmp.{nat_cmp_total, Lexicographic.{slice_cmp, nat_list_cmp_total, same_text}}, FinMap.{get, empty, keys, get-empty}}
use Rattle.std.specs.FinMap.{same_map, nat_cmp-IsAntisymmetric}
use Rattle.nntp_wire.{proofs.OptionLemmas.{none_of}, specs.{Limit.{greatest}, declared.limit.Limit.{Limit}}}
use Rattle.nntp_article.specs.{Article.Parts.{Id}, Session.{Machine.{is_same}, Spool.{Spool, Name, Numbers, IsNumber, IsSpool, numbers}}}
use Rattle.nntp_said.{proofs.FiniteMapsDecided.{dec_texts}, specs.Facts.{Fact}}
use Rattle.nntp_theory.{specs.Given.{id_shown, IsGiven}, proofs.{Maps.{key_of, of_key}, Members.{In, all_at, all_from, any_in, in_map, from_map}}}
use Rattle.nntp_kept.specs.Inner.Readers.{ShownGroup}
use Rattle.nntp_content.specs.Content.{with_group}
use Rattle.nntp_store.specs.{Inner.Building.{Building, Builds, group_fault}, declared.value.spool_fault.SpoolFault.{SpoolFault, TheVariants.{Memory}}}
use Rattle.nntp_witness.{specs.Inner.Making.{Makes, unseen_number, given_numbers, unshown_of, GroupsLeft, NumbersLeft}, proofs.BuilderCalls.{call_done}}
use Rattle.nntp_witness.proofs.{BuilderCalls.{call_refused}, FaultsNone.{group_fits}, GroupNumbers.{given_keys, given_ascends, given_ids}}
use Rattle.nntp_witness.proofs.MoreMade.{numbers_here, group_here, group_other, part_with_group}

-- ---- names

-- a name that comes after another is none of it
not_after : (name other : Name) → slice_cmp nat_cmp name other ≡ Less → other ≢ name
not_after name other less same = grind (arith, tied_itself, nat_list_cmp_total)

-- what is there is its value
some_value : (o : Option Numbers) → IsSome o → o ≡ Some (unwrap_or o empty)
some_value o i = grind arith

module _ (limit : Limit) (facts : List Fact) (G : Spool) (given : IsGiven facts G) (is_spool : IsSpool (greatest limit) G)
    (g : ShownGroup) (left : List ShownGroup) (b : Building) (next : ℕ) (l : GroupsLeft limit facts G (g ∷ left) b next) where
  -- ---- the group without its numbers

  -- it is added without a fault
  group_added : group_fault b.spool g.name ≡ None
  group_added = group_fits limit facts G b.spool is_spool l.begun.part g.name l.of_spool.0 l.not_made.0

  -- the content with it
  abbrev bare : Spool
  bare = with_group b.spool g.name empty

  -- its numbers are those of the spool
  keys_given : map (λ e. e.0) (given_numbers g) ≡ keys (numbers G g.name)
  keys_given = given_keys facts g l.shown.0 G given l.of_spool.0

  -- one that is given is there
  given_there : (e : ℕ × Option Id) → In e (given_numbers g) → IsNumber (numbers G g.name) e.0
  given_there e i = of_key nat_cmp_total nat_cmp-IsAntisymmetric (numbers G g.name) e.0 (subst (λ ks. In e.0 ks) keys_given (in_map (λ e. e.0) e (given_numbers g) i))

  -- and one that is there is given
  there_given : (n : ℕ) → IsNumber (numbers G g.name) n → IsTrue (list_any (λ e. e.0 == n) (given_numbers g))
  there_given n i =
      let f = from_map (λ (e : ℕ × Option Id). e.0) n (given_numbers g) (subst (λ ks. In n ks) (sym keys_given) (key_of nat_cmp_total nat_cmp-IsAntisymmetric (numbers G g.name) n i)) in
      any_in (λ (e : ℕ × Option Id). e.0 == n) f.0 (given_numbers g) f.1 (eq-eqb f.0.0 n f.2)

  -- all of them are left
  all_left : NumbersLeft limit facts G b.spool g.name (unshown_of G left) (given_numbers g) (record { limit = b.limit; spool = bare; failed = false }) next
  all_left = record {
    begun = search part_with_group;
    to_invent = l.to_invent;
    is_group = group_here b.spool g.name empty;
    ascending = given_ascends facts g l.shown.0;
    of_group = all_from (λ (e : ℕ × Option Id). IsNumber (numbers G g.name) e.0 × (e.1 ≡ id_shown facts g.name e.0)) (given_numbers g)
        (λ e i. (given_there e i, all_at (λ (e : ℕ × Option Id). e.1 ≡ id_shown facts g.name e.0) e (given_numbers g) (given_ids facts g l.shown.0) i));
    not_made = all_from (λ (e : ℕ × Option Id). get (numbers bare g.name) e.0 ≡ None) (given_numbers g) (λ e i. ap (λ N. get N e.0) (numbers_here b.spool g.name empty) ∙ get-empty nat_cmp e.0);
    others = λ n i. inl (there_given n i);
    other_groups = λ other apart. group_other b.spool g.name empty other apart;
  }

  -- ---- the group with all of them

  module _ (c : Building) (after : ℕ) (done : NumbersLeft limit facts G b.spool g.name (unshown_of G left) [] c after) where
    -- a number that isn't made isn't in the spool
    absent_too : (n : ℕ) → get (numbers c.spool g.name) n ≡ None → get (numbers G g.name) n ≡ None
    absent_too n absent = grind (arith, none_of, true≢false)

    -- each number has the id that it has in the spool
    same_ids : (n : ℕ) → get (numbers c.spool g.name) n ≡ get (numbers G g.name) n
    same_ids n = by (get (numbers c.spool g.name) n) refl
      where
        by : (o : Option Id) → get (numbers c.spool g.name) n ≡ o → get (numbers c.spool g.name) n ≡ get (numbers G g.name) n
        by None e = e ∙ sym (absent_too n e)
        by (Some id) e = e ∙ sym (done.begun.part.numbers g.name n id e)

    -- so the group is the spool's
    same_group : get c.spool.groups g.name ≡ get G.groups g.name
    same_group =
        some_value (get c.spool.groups g.name) done.is_group ∙ ap Some (same_map nat_cmp_total nat_cmp-IsAntisymmetric (numbers c.spool g.name) (numbers G g.name) same_ids)
        ∙ sym (some_value (get G.groups g.name) l.of_spool.0)

    -- the groups behind it aren't there yet
    still_absent : (hs : List ShownGroup) → AllByRecursion (λ name. slice_cmp nat_cmp g.name name ≡ Less) (map (λ h. h.name) hs) → AllByRecursion (λ h. get b.spool.groups h.name ≡ None) hs
        → AllByRecursion (λ h. get c.spool.groups h.name ≡ None) hs
    still_absent [] above absent = tt
    still_absent (h ∷ hs) above absent = (done.other_groups h.name (not_after g.name h.name above.0) ∙ absent.0, still_absent hs above.1 absent.1)

    -- the others are the spool's, or left
    other_left : (name : Name) → name ≢ g.name → IsTrue (list_any (λ h. is_same h.name name) (g ∷ left)) ⊎ (get b.spool.groups name ≡ get G.groups name)
        → IsTrue (list_any (λ h. is_same h.name name) left) ⊎ (get c.spool.groups name ≡ get G.groups name)
    other_left name apart (inl t) = elim (or_cases (is_same g.name name) (list_any (λ h. is_same h.name name) left) t) [
      | inl same ↦ absurd (apart (sym (same_text g.name name (sym same))))
      | inr more ↦ inl more
    ]
    other_left name apart (inr same) = inr (done.other_groups name apart ∙ same)

    -- one group less is left
    group_made : GroupsLeft limit facts G left c after
    unfolding IsStrictlySortedBy
    group_made = record {
      begun = done.begun;
      to_invent = done.to_invent;
      shown = l.shown.1;
      ascending = l.ascending.1;
      of_spool = l.of_spool.1;
      not_made = still_absent left l.ascending.0 l.not_made.1;
      others = λ name. elim (dec_texts name g.name) [
        | inl same ↦ inr (subst (λ q. get c.spool.groups q ≡ get G.groups q) (sym same) same_group)
        | inr apart ↦ other_left name apart (l.others name)
      ];
    }

  -- ---- the calls, with the name as the code has it

  -- a refusal of the group is want of memory
  pub group_refused : (name : Name) (x : SpoolFault) (new : Building) → name ≡ g.name → Builds (group_fault b.spool name) (with_group b.spool name empty) (Err x) b new → x ≡ Memory
  group_refused name x new is h = grind (arith, call_refused, group_added)

  -- where it is added, its numbers are left
  pub numbers_next : (name : Name) (low high : Option ℕ) (ns : List (ℕ × Option Id)) (x : Unit {0}) (new : Building) → name ≡ g.name → low ≡ g.unseen → ns ≡ g.numbers → high ≡ g.unseen_high
      → Builds (group_fault b.spool name) (with_group b.spool name empty) (Ok x) b new
      → NumbersLeft limit facts G b.spool name (unshown_of G left)
      (unseen_number low ++ (ns ++ (unseen_number high ++ []))) new next
  numbers_next name low high ns x new is low_is numbers_are high_is h = grind (arith, call_done, group_added, append-nil, all_left)

  -- and once they are made, one group less is left
  pub group_makes : (other : Name) (r : Result (Unit {0}) SpoolFault) (c : Building) (after : ℕ) → other ≡ g.name
      → Makes r (λ _. NumbersLeft limit facts G b.spool other (unshown_of G left) [] c after)
      → Makes r (λ _. GroupsLeft limit facts G left c after)
  group_makes other r c after is refused = grind (arith, group_made)
