-- What a list of groups has to join, and what is told of groups, once more of them are listed.
use Rattle.nntp_kept.proofs.Base.{◌≡◌, ℕ, Bool, true, false, ◌||◌, cond, not, List, [], ◌∷◌, ◌++◌, Option, refl, sym, ap, ◌∙◌, append-nil, arith, None}
use Rattle.nntp_kept.proofs.Base.{append_assoc, true≢false, and_parts, and_from, or_left, false_from_ne_true, not-true, true_from_ne_false, or-false, ◌↔◌}
use Rattle.nntp_kept.proofs.Base.{AllByRecursion, list_all, option_map_or, same_text, ActiveValue, matches_name, Name, is_same, group_names, names_differ}
use Rattle.nntp_kept.proofs.Base.{Bounds, Fact, GroupsAre, asks_of, is_shown_group, first_given, id_in, IsWellFormed, AsksStand, Together, Join, denies_group}
use Rattle.nntp_kept.proofs.Base.{number_in, In, all_at, all_from, any_in, found_in, same_itself, list_any-append, flat_map-append, given_silent, or_none}
use Rattle.nntp_kept.proofs.Base.{asks_append, is_listed, LineJoins, NoneIsMissing, told, with_part, Changes, said_of, subst, any_more}
use Rattle.nntp_kept.{proofs.Keeping.FactsOfOneGroup.{ids_join, same_told}, specs.Inner.ListedGroups.{bounds_of}}
use Rattle.nntp_kept_articles.proofs.SaidOfArticles.{nothing_joins}

-- where the group isn't listed, no bounds are reported for it
pub no_bounds : (name : Name) (lines : List ActiveValue) → is_listed lines name ≡ false → bounds_of name lines ≡ []
no_bounds name [] e = refl
no_bounds name (line ∷ lines) e = grind (arith, true≢false, no_bounds name lines)

-- a name that differs from all of the lines' isn't listed among them
differs : (name other : Name) (lines : List ActiveValue) → is_same name other ≡ true → list_all (λ word. not (is_same name word)) (group_names lines) ≡ true → is_listed lines other ≡ false
differs name other [] s e = refl
differs name other (line ∷ lines) s e =
    let p = and_parts (not (is_same name line.name)) (list_all (λ word. not (is_same name word)) (group_names lines)) e in
    let apart : is_same line.name other ≡ false = grind (arith, false_from_ne_true, same_text, same_itself, true≢false, not-true) in
    (λ i. apart i || differs name other lines s p.1 i)

-- where no group is listed twice, the bounds of a listed one are those of its line
pub bounds_at : (line : ActiveValue) (lines : List ActiveValue) → names_differ lines ≡ true → In line lines → bounds_of line.name lines ≡ Bounds line.low line.high ∷ []
bounds_at line [] d i = absurd i
bounds_at line (x ∷ xs) d s = grind (arith, and_parts, same_itself, no_bounds, differs, any_in, false_from_ne_true, true≢false, bounds_at line xs)

module _ (facts : List Fact) (p : Option (List ℕ)) (lines : List ActiveValue) where
  pub listing_asks : (name : Name) → asks_of name (GroupsAre p lines ∷ []) ≡ bounds_of name lines
  listing_asks name = append-nil (bounds_of name lines)

  numbers_from : Together facts → names_differ lines ≡ true → (name : Name) (b : Bool) → is_listed lines name ≡ b
      → AllByRecursion (LineJoins facts) lines → AsksStand (asks_of name facts ++ asks_of name (GroupsAre p lines ∷ []))
  numbers_from t differ name true e all =
      let f = found_in (λ line. is_same line.name name) lines e in
      subst (λ name. AsksStand (asks_of name facts ++ asks_of name (GroupsAre p lines ∷ []))) (same_text f.0.name name (sym f.2))
      (subst (λ asks. AsksStand (asks_of f.0.name facts ++ asks)) (sym (listing_asks f.0.name ∙ bounds_at f.0 lines differ f.1)) (all_at (LineJoins facts) f.0 lines all f.1).bounds)
  numbers_from t differ name false e all = grind (arith, listing_asks name, no_bounds name lines e, append-nil (asks_of name facts), t.numbers name)

  pub listing_joins : Together facts → AllByRecursion IsWellFormed (GroupsAre p lines ∷ []) → names_differ lines ≡ true
      → Join facts (GroupsAre p lines ∷ []) ↔ (AllByRecursion (LineJoins facts) lines × NoneIsMissing facts p lines)
  listing_joins t wf differ = (
    λ j. (
      all_from (LineJoins facts) lines (λ line i.
          let there = any_in (λ other. is_same other.name line.name) line lines i (same_itself line.name) in
          grind (arith, or_left (is_listed lines line.name) false there, listing_asks line.name, bounds_at line lines differ i)),
      λ name shown matches. true_from_ne_false (is_listed lines name) (λ e.
          let denied : denies_group name (GroupsAre p lines) ≡ true = and_from (option_map_or (λ w. matches_name w name) p true) (not (is_listed lines name)) matches (ap not e) in
          true≢false (sym shown ∙ j.names.no_groups name (or_left (denies_group name (GroupsAre p lines)) false denied))),
    ),
    λ h. record {
      well_formed = wf;
      lists = (tt, tt);
      names = record {
        groups = λ name s. let f = found_in (λ line. is_same line.name name) lines (sym (or-false (is_listed lines name)) ∙ s) in
            grind (arith, f.2, same_text f.0.name name, all_at (LineJoins facts) f.0 lines h.0 f.1);
        no_groups = grind (arith, false_from_ne_true, and_parts, or-false, true≢false, not-true);
      };
      numbers = λ name. numbers_from t differ name (is_listed lines name) refl h.0;
      ids = ids_join facts (GroupsAre p lines ∷ []) (record { ids = λ name n. refl; places = λ name id. refl });
      articles = λ id. nothing_joins (said_of facts id);
    },
  )

-- ---- what is told then

module _ (facts : List Fact) (p : Option (List ℕ)) where
  -- the facts, and that these groups are listed
  abbrev pub listing : List ActiveValue → List Fact
  listing lines = facts ++ GroupsAre p lines ∷ []

  -- what lists of groups don't give is the same beside all of them
  same_given : {A : Type 0} (f : Fact → Option A) → ((lines : List ActiveValue) → f (GroupsAre p lines) ≡ None) → (lines others : List ActiveValue)
      → first_given f (listing lines) ≡ first_given f (listing others)
  same_given f none lines others = grind (arith, given_silent, none)

  module _ (lines : List ActiveValue) (line : ActiveValue) where
    asks_more : (name : Name) (b : Bool) → is_same line.name name ≡ b → asks_of name (listing (lines ++ line ∷ [])) ≡ asks_of name (listing lines) ++ cond b (Bounds line.low line.high ∷ []) []
    asks_more name b e = grind (arith, asks_append, append-nil, flat_map-append, append_assoc)

    shown_more : (name : Name) (b : Bool) → is_same line.name name ≡ b → is_shown_group (listing (lines ++ line ∷ [])) name ≡ (b || is_shown_group (listing lines) name)
    shown_more name b e = grind (arith, any_more, list_any-append)

    -- of the group of one line more its bounds are told
    pub one_more_bound : Changes (told (listing lines)) (told (listing (lines ++ line ∷ []))) line.name (with_part (told (listing lines) line.name) (Bounds line.low line.high ∷ []) None)
    one_more_bound = record {
      here = same_told _ _ (shown_more line.name true (same_itself line.name)) (asks_more line.name true (same_itself line.name))
          (λ n. same_given (id_in line.name n) (λ _. refl) (lines ++ line ∷ []) lines ∙ sym (or_none _))
          (λ id. same_given (number_in line.name id) (λ _. refl) (lines ++ line ∷ []) lines ∙ sym (or_none _));
      elsewhere = λ name e. same_told _ _ (shown_more name false e) (asks_more name false e ∙ append-nil (asks_of name (listing lines)))
          (λ n. same_given (id_in name n) (λ _. refl) (lines ++ line ∷ []) lines) (λ id. same_given (number_in name id) (λ _. refl) (lines ++ line ∷ []) lines);
    }
