-- The spool that is given is a spool.
use Rattle.nntp_said.specs.Facts.{Fact, TextIs, FieldsAre, OverviewsAre}
use Rattle.nntp_theory.proofs.{Members.{if_some, at_some, In, all_at, all_both, any_in, found_in, first_found, none_there}, Together.FewEnough.{within_one}}
use Rattle.nntp_theory.proofs.{Together.ListedOverviews.{told_by}, Given.{ShownNames.{shown_named}, GivenHolds.{Setting, one_given, group_of_number, id_cases}}}
use Rattle.nntp_theory.proofs.{Given.GivenHolds.{shown_at, unshown_once}, Session.{FittingFacts.{IsFitting}, NumbersWithinLimit.{free_in_limit}}}
use Rattle.nntp_theory.{proofs.Session.NumbersWithinLimit.{shown_in_limit, end_in_limit}, specs.Given.{gives_article, first_given, head_in, fields_in}}
use Rattle.nntp_theory.specs.{Inner.Together.{IsProperOverview, IsWellFormed}, Together.{number_in}}
use Rattle.std.specs.{Prelude.{unwrap_or, nat_le, nat_lt}, List.{AllByRecursion, list_all}, Option.{option_map_or}, FinMap.{get, len, get-empty, empty_of_len}}
use Rattle.std.{specs.Cmp.Lexicographic.{same_text}, proofs.Common.{◌≡◌, ℕ, ◌≤◌, true, IsTrue, List, ◌∷◌, ◌++◌, Option, None, Some, is_some, IsSome, inl, inr}}
use Rattle.std.proofs.{Common.{refl, sym, ap, subst, arith, ◌&&◌, [], length, append-nil}, lemmas.Bool.{true≢false, and_parts, or_cases, cases_eq, and_from}}
use Rattle.std.proofs.lemmas.List.Elements.{All-from_recursion}
use Rattle.nntp_article.specs.{Article.{Fields.{made_head}, Parts.{is_head, said_id, head_part, body_part, Id, Line, skip_last_blanks}}, Session.Spool.{Spool}}
use Rattle.nntp_article.specs.{Session.{Spool.{Text, IsNumber, numbers, IsSpool, Name, is_line}, Machine.{is_same, says_own_id}}, Inner.Fields.{AreWords}}
use Rattle.nntp_article.{specs.declared.session.profile.Profile.{Profile}, proofs.ArticleLemmas.FieldLemmas.{made_is_head, made_says, field_lines_are_lines}}
use Rattle.nntp_wire.{specs.{Listing.{Fields}, Name.{IsMessageId}, Decided.{is_id_octet, begins_id}, Octets.{is_clean}}, proofs.DecidedLemmas.{message_id-iff}}

-- ---- a head that says an id, and what is told of four headers

-- octets of an id make a line
all_clean : (cs : List ℕ) → list_all is_id_octet cs ≡ true → (is_clean cs ≡ true) × (list_all (λ c. nat_lt c 256) cs ≡ true)
all_clean [] h = (refl, refl)
all_clean (c ∷ cs) h = grind (arith, all_clean cs (and_parts (is_id_octet c) _ h).1)

-- an id has no blanks at its end
no_last_blanks : (cs : List ℕ) → list_all is_id_octet cs ≡ true → skip_last_blanks cs ≡ cs
no_last_blanks [] h = refl
no_last_blanks (c ∷ cs) h = grind (arith, and_parts, no_last_blanks cs)

-- a message id has octets of ids alone
octets : (id : Id) → IsMessageId id → list_all is_id_octet id ≡ true
octets id h = (and_parts (nat_le 3 (length id) && nat_le (length id) 250) _ (and_parts _ (begins_id id) ((message_id-iff id).1 h)).0).1

-- ---- the given spool

-- a head for an id, without lines that hold NUL, CR or LF, and it says no other id
record IsHeadOf (id : Id) (head : List Line) : Type 0 where
  is_a_head : IsTrue (is_head head)
  is_clean : AllByRecursion (λ line. IsTrue (is_line line)) head
  own : (said : Id) → said_id head ≡ Some said → said ≡ id

-- what holds of lines holds of those of the head
head_lines : (P : Line → Type 0) (lines : List Line) → AllByRecursion P lines → AllByRecursion P (head_part lines)
head_lines P ((c ∷ cs) ∷ lines) h = (h.0, head_lines P lines h.1)
head_lines P lines h = tt

-- and of the body
body_lines : (P : Line → Type 0) (lines : List Line) → AllByRecursion P lines → AllByRecursion P (body_part lines)
body_lines P ((c ∷ cs) ∷ lines) h = body_lines P lines h.1
body_lines P lines h = grind arith

-- a head that says its own id, or none, says no other
own_id : (id : Id) (head : List Line) → says_own_id id head ≡ true → (said : Id) → said_id head ≡ Some said → said ≡ id
own_id id head t said e = same_text said id (sym (subst (λ o. option_map_or (λ said. is_same said id) o true ≡ true) e t))

module _ (profile : Profile) (B : ℕ) (G : Spool) (facts : List Fact) (s : Setting profile B G facts) where
  -- a fact is well formed
  formed : (fact : Fact) → In fact facts → IsWellFormed fact
  formed fact i = all_at IsWellFormed fact facts s.together.well_formed i

  -- the numbers are within the limit
  in_limit : (name : Name) (n : ℕ) → IsNumber (numbers G name) n → (1 ≤ n) × (n ≤ profile.limit)
  in_limit name n i =
      let g = group_of_number G name n i in
      let given = s.given.numbers_given name (ap is_some g.1) in
      let stand = s.together.numbers name in
      let few = within_one (numbers G name) in
      let ends = end_in_limit profile facts s.how s.fitting s.placed name n (len (numbers G name)) in
      let shown = shown_in_limit profile facts s.how s.fitting s.placed name n in
      let free = free_in_limit profile facts s.how s.fitting s.placed name ((s.given.groups name).0 (ap is_some g.1)) n in
      grind (arith, given n, or_cases, and_parts, shown, ends, few, stand.few (numbers G name) given, all_at, cases_eq (len (numbers G name)) 0, empty_of_len, get-empty, stand.not_denied n, free)

  -- within a group an id has one number
  one_number : (name : Name) (n m : ℕ) (id : Id) → get (numbers G name) n ≡ Some id → get (numbers G name) m ≡ Some id → n ≡ m
  one_number name n m id e f =
      let cases = id_cases profile B G facts s name in
      let shown = shown_at profile B G facts s name in
      let apart = unshown_once profile B G facts s name n m id e f in
      grind (arith, one_given (number_in name id) facts (s.together.ids_once name id), cases n id e, cases m id f, shown n id, shown m id, any_in, apart, true≢false)

  -- ids of articles are message ids
  is_id : (id : Id) → IsSome (get G.articles id) → IsMessageId id
  is_id id i =
      elim ((s.given.articles id).0 i) [
        | inl used ↦ elim (id_cases profile B G facts s used.0 used.1 id used.2) [
          | inl shown ↦ (let at = shown_at profile B G facts s used.0 used.1 id shown in at.formed (formed at.fact at.there))
          | inr new ↦ subst (λ id. IsMessageId id) (sym new.1.2) (s.ids new.1.0 new.1.1)
        ]
        | inr sent ↦ (let f = found_in (gives_article id) facts sent in by f.0 (formed f.0 f.1) f.2)
      ]
    where
      by : (fact : Fact) → IsWellFormed fact → gives_article id fact ≡ true → IsMessageId id
      by (TextIs what other lines) h t = subst IsMessageId (same_text other id (sym t)) h.0
      by (FieldsAre os) h t = let f = found_in (λ o. is_same o.id id) os t in subst IsMessageId (same_text f.0.id id (sym f.2)) (all_at IsProperOverview f.0 os h f.1).0
      by fact h t = cc

  -- a head that was sent is one
  sent_head : (id : Id) (lines : List Line) (fact : Fact) → IsFitting profile fact → IsWellFormed fact → head_in id fact ≡ Some lines → IsHeadOf id lines
  sent_head id lines fact f h e = grind (arith, head_lines, own_id, same_text)

  -- what is told of an id, if no head is sent, are words
  told_words : (id : Id) (fact : Fact) (fields : Fields) → IsWellFormed fact → head_in id fact ≡ None → fields_in id fact ≡ Some fields → AreWords fields
  told_words id (FieldsAre os) fields h none e = grind (arith, told_by os id fields e, all_at IsProperOverview, at_some AreWords)
  told_words id (OverviewsAre name r os) fields h none e = grind (arith, told_by os id fields e, all_at IsProperOverview, at_some AreWords)
  told_words id fact fields h none e = grind arith

  -- a head that is made is one
  made_is : (id : Id) → IsMessageId id → first_given (head_in id) facts ≡ None → IsHeadOf id (made_head id (first_given (fields_in id) facts))
  made_is id is none =
      let words = if_some (first_given (fields_in id) facts) AreWords (λ fields e.
      let f = first_found (fields_in id) facts fields e in
      told_words id f.0 fields (formed f.0 f.1) (none_there (head_in id) facts f.0 f.1 none) f.2) in
      (grind (arith, octets id is, all_clean id (octets id is), octets, all_clean, made_is_head, field_lines_are_lines, and_from, made_says, append-nil, no_last_blanks))

  -- the head of an id is one
  head_is : (id : Id) (t : Text) → get G.articles id ≡ Some t → IsHeadOf id t.head
  head_is id t e = subst (IsHeadOf id) (sym (s.given.heads id t e)) (by (first_given (head_in id) facts) refl)
    where
      by : (o : Option (List Line)) → first_given (head_in id) facts ≡ o → IsHeadOf id (unwrap_or o (made_head id (first_given (fields_in id) facts)))
      by None none = made_is id (is_id id (ap is_some e)) none
      by (Some lines) is = let f = first_found (head_in id) facts lines is in sent_head id lines f.0 (all_at (IsFitting profile) f.0 facts s.fitting f.1) (formed f.0 f.1) f.2

  -- the given spool is a spool
  pub given_is_spool : IsSpool profile.limit G
  given_is_spool = record {
    names = λ name i. shown_named facts name s.together.well_formed ((s.given.groups name).0 i);
    numbers_in_limit = in_limit;
    one_to_one = one_number;
    ids_have_articles = λ name n id e. (s.given.articles id).1 (inl (name, n, e));
    ids = is_id;
    heads = λ id t e. (let h = head_is id t e in (h.is_a_head, All-from_recursion _ (t.head ++ t.body) (all_both _ t.head t.body h.is_clean (grind (arith, first_found, body_lines, formed)))));
    own_ids = λ id said t e says. (head_is id t e).own said says;
  }
