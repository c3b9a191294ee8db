-- What is kept of articles, and what once something is said of an id, or it is noted.
use Rattle.nntp_kept_articles.proofs.Base.{◌≡◌, Bool, true, false, cond, ◌||◌, not, IsTrue, List, [], ◌∷◌, Option, None, Some, is_some, refl, ap, ◌∙◌, arith}
use Rattle.nntp_kept_articles.proofs.Base.{true≢false, ⊤, unwrap_or, list_any, filter, option_or, option_map_or, slice_cmp, same_text, nat_list_cmp_total}
use Rattle.nntp_kept_articles.proofs.Base.{nat_cmp, FinMap, get, entries, insert, get-insert, slice_cmp-IsAntisymmetric, octet_keys, nat_cmp-IsAntisymmetric}
use Rattle.nntp_kept_articles.proofs.Base.{Id, Line, is_same, Fact, shows_article, denies_article, said_of, join_said, AreSame, JoinArticle, in_get, In}
use Rattle.nntp_kept_articles.proofs.Base.{same_itself, What, insert-same, KeptArticle, said_kept, AreKeptArticles, IsAddedIf, with_new, articles_in, head_sent}
use Rattle.nntp_kept_articles.proofs.Base.{body_sent, unsent, said_alone, IsSaidKept, kept_by, IsSaidAdded, IsArticleAdded, Sends, or_none, telling, Fields}
use Rattle.nntp_kept_articles.proofs.Base.{sym, subst, said_nothing, MayBeSent, MayBeTold, with_sent, SaidJoins, ◌↔◌, MatchOption, eq_by_cmp_equiv}
use Rattle.nntp_kept_articles.proofs.{Base.{is_mentioned, get_in}, SaidOfArticles.{nothing_more, nothing_joins}, TextKeys.{flip_text}}
use Rattle.nntp_kept_articles.specs.Inner.Articles.{is_there, with_told}

abbrev pub Articles : Type 0
Articles = FinMap (slice_cmp nat_cmp) KeptArticle

-- ---- the map

-- what is found elsewhere, after an id is put in
pub get_elsewhere : (articles : Articles) (id q : Id) (a : KeptArticle) → is_same id q ≡ false → get (insert articles id a) q ≡ get articles q
get_elsewhere articles id q a e = grind (arith, get-insert nat_list_cmp_total articles id a q, flip_text q id)

-- and at its place
pub get_there : (articles : Articles) (id : Id) (a : KeptArticle) → get (insert articles id a) id ≡ Some a
get_there articles id a = get-insert nat_list_cmp_total articles id a id ∙ ap (λ b. cond b (Some a) (get articles id)) ((eq_by_cmp_equiv nat_list_cmp_total).refl id)

-- the same, where it is put in if it wasn't there
pub new_elsewhere : (articles : Articles) (id q : Id) (a : KeptArticle) → is_same id q ≡ false → get (with_new articles id a) q ≡ get articles q
new_elsewhere articles id q a e = grind (arith, get_elsewhere)

pub new_there : (articles : Articles) (id : Id) (a : KeptArticle) → get (with_new articles id a) id ≡ Some (unwrap_or (get articles id) a)
new_there articles id a = grind (arith, get_there)

-- ---- more is kept of an id

-- more may be kept: it has an article as before, or none, and its head, its body and what is told of headers are the same
abbrev pub MayKeep : Option KeptArticle → KeptArticle → Type 0
MayKeep o more = MatchOption o ⊤ (λ a. (a.is_denied ≡ more.is_denied) × AreSame more.head a.head × AreSame more.fields a.fields × AreSame more.body a.body)

-- what is kept then
abbrev pub kept_with : Option KeptArticle → KeptArticle → KeptArticle
kept_with None more = more
kept_with (Some a) more = record {
  is_denied = a.is_denied;
  is_sent = a.is_sent || more.is_sent;
  head = option_or a.head more.head;
  fields = option_or a.fields more.fields;
  body = option_or a.body more.body;
}

pub same_as_none : {A : Type 0} (more : Option A) → AreSame more None
same_as_none more = grind arith

-- it may exactly if it joins what is said
kept_joins : (o : Option KeptArticle) (more : KeptArticle) → JoinArticle (said_kept o) (said_kept (Some more)) ↔ MayKeep o more
kept_joins o more = grind arith

-- then what is said in all is kept
kept_said : (o : Option KeptArticle) (more : KeptArticle) → MayKeep o more → join_said (said_kept o) (said_kept (Some more)) ≡ said_kept (Some (kept_with o more))
kept_said o more h = grind arith

module _ (facts : List Fact) (old : Articles) (id : Id) (more : KeptArticle) (kept : AreKeptArticles facts old) where
  -- what is said of the id alone joins exactly if it may be kept
  pub article_joins : SaidJoins facts (said_alone id more) ↔ MayKeep (get old id) more
  article_joins = (
    λ j. let here = j id in grind (arith, here, kept id, same_itself id, kept_joins (get old id) more),
    λ h q. by q (is_same id q) refl (subst (λ s. JoinArticle s (said_kept (Some more))) (sym (kept id)) ((kept_joins (get old id) more).1 h)),
  )
    where
      by : (q : Id) (b : Bool) → is_same id q ≡ b → JoinArticle (said_of facts id) (said_kept (Some more))
          → JoinArticle (said_of facts q) (cond b (said_kept (Some more)) said_nothing)
      by q true e h = subst (λ q. JoinArticle (said_of facts q) (said_kept (Some more))) (same_text id q (sym e)) h
      by q false e h = nothing_joins (said_of facts q)

  -- and is kept with the others
  pub article_kept : (new : Articles) → MayKeep (get old id) more → get new id ≡ Some (kept_with (get old id) more)
      → ((q : Id) → is_same id q ≡ false → get new q ≡ get old q) → IsSaidKept facts (said_alone id more) new
  article_kept new may here others q =
      grind (arith, kept q, here, others q, same_text id q, kept_said (get old id) more may, nothing_more (said_kept (get old q)))

-- ---- what is said of an id, read off what is kept

module _ (facts : List Fact) (articles : Articles) (id : Id) (kept : AreKeptArticles facts articles) where
  pub mentioned_kept : is_mentioned facts id ≡ is_some (get articles id)
  mentioned_kept = grind arith

  pub shown_kept : list_any (shows_article id) facts ≡ is_there (get articles id)
  shown_kept = grind arith

  pub denied_kept : list_any (denies_article id) facts ≡ option_map_or (λ a. a.is_denied) (get articles id) false
  denied_kept = grind arith

-- ---- the ids that have articles

-- what passes a test, of a list
in_filter : {A : Type 0} (p : A → Bool) (x : A) (xs : List A) → In x (filter p xs) ↔ (In x xs × IsTrue (p x))
in_filter p x [] = (λ i. absurd i, λ h. absurd h.0)
in_filter p x (y ∷ ys) = grind (arith, in_filter p x ys, true≢false)

-- the ids that are listed are those that have articles, each with what is kept of it
pub listed : (facts : List Fact) (articles : Articles) (id : Id) (a : KeptArticle) → AreKeptArticles facts articles
    → In (id, a) (articles_in (entries articles)) ↔ ((get articles id ≡ Some a) × IsTrue (list_any (shows_article id) facts))
listed facts articles id a kept =
    let passes = in_filter (λ e. not e.1.is_denied) (id, a) (entries articles) in
    grind (arith, passes, in_get nat_list_cmp_total octet_keys articles id a, get_in nat_list_cmp_total octet_keys articles id a, shown_kept facts articles id kept)

-- ---- an id is noted

-- what is kept of an id of which nothing was sent
abbrev bare : Bool → KeptArticle
bare is_denied = record { is_denied = is_denied; is_sent = false; head = None; fields = None; body = None }

module _ (facts : List Fact) (old : Articles) (id : Id) (more : KeptArticle) (kept : AreKeptArticles facts old) where
  -- what may be kept of an id is kept, if nothing was
  pub new_kept : (b : Bool) → more ≡ bare b → (new : Articles) → new ≡ with_new old id (bare b) → MayKeep (get old id) more → IsSaidAdded facts (said_alone id more) old new true
  new_kept b plain new is may = (
    (article_joins facts old id more kept).1 may,
    article_kept facts old id more kept new may (grind (arith, is, plain, new_there old id (bare b))) (λ q e. ap (λ m. get m q) is ∙ new_elsewhere old id q (bare b) e),
  )

  -- what may not changes nothing
  pub refused : (MayKeep (get old id) more → ⊥) → IsSaidAdded facts (said_alone id more) old old false
  refused never = (λ j. never ((article_joins facts old id more kept).0 j), refl)

  -- so an article of an id that is denied
  pub of_denied : more.is_denied ≡ false → option_map_or (λ a. a.is_denied) (get old id) false ≡ true → IsSaidAdded facts (said_alone id more) old old false
  of_denied has is_denied = grind (arith, refused, true≢false)

  -- what is said of an article is added to what is known of it, if anything is
  added_to : (May : Type 0) (with a b : KeptArticle) (new : Articles) → a ≡ unwrap_or (get old id) unsent → new ≡ insert old id b → May ↔ MayKeep (get old id) more
      → with ≡ kept_with (get old id) more → (does : Bool) → IsAddedIf May (λ k. k ≡ with) a b does → IsSaidAdded facts (said_alone id more) old new does
  added_to May with a b new was is may then does = by does
    where
      by : (does : Bool) → IsAddedIf May (λ k. k ≡ with) a b does → IsSaidAdded facts (said_alone id more) old new does
      by true added = (
        (article_joins facts old id more kept).1 (may.0 added.0),
        article_kept facts old id more kept new (may.0 added.0) (grind (arith, is, get_there old id b, added.1, then)) (λ q e. ap (λ m. get m q) is ∙ get_elsewhere old id q b e),
      )
      by false added = (
        λ j. added.0 (may.1 ((article_joins facts old id more kept).0 j)),
        grind (arith, was, is, added.1, added.0, may.1, insert-same, nat_list_cmp_total, slice_cmp-IsAntisymmetric, nat_cmp-IsAntisymmetric),
      )

-- what is sent of an article is added to what is known of it, if anything is
pub sent_noted : (facts : List Fact) (old new : Articles) (what : What) (id : Id) (lines : Option (List Line)) (head body : Option (List Line)) (a b : KeptArticle) (does : Bool)
    → AreKeptArticles facts old → a ≡ unwrap_or (get old id) unsent → new ≡ insert old id b → head ≡ head_sent what lines → body ≡ body_sent what lines
    → IsAddedIf (MayBeSent a head body) (λ k. k ≡ with_sent a head body) a b does → IsArticleAdded facts (Some (id, Sends what lines)) old new does
sent_noted facts old new what id lines head body a b does kept was is heads bodies =
    added_to facts old id (kept_by (Sends what lines)) kept (MayBeSent a head body) (with_sent a head body) a b new was is
    (grind (arith, was, heads, bodies)) (grind (arith, was, heads, bodies)) does

-- what an overview tells is too
pub told_noted : (facts : List Fact) (old new : Articles) (id : Id) (is_sent : Bool) (told : Option Fields) (a b : KeptArticle) (does : Bool)
    → AreKeptArticles facts old → a ≡ unwrap_or (get old id) unsent → new ≡ insert old id b
    → IsAddedIf (MayBeTold a told) (λ k. k ≡ with_told a is_sent told) a b does → IsSaidAdded facts (said_alone id (telling is_sent told)) old new does
told_noted facts old new id is_sent told a b does kept was is =
    added_to facts old id (telling is_sent told) kept (MayBeTold a told) (with_told a is_sent told) a b new was is
    (grind (arith, was)) (grind (arith, was, or_none)) does
