-- What is kept of ids: of those that have articles, once one is found or made, and of those that are denied.
use Rattle.nntp_kept_articles.proofs.Base.{◌≡◌, ℕ, Bool, false, cond, ◌&&◌, not, List, [], ◌∷◌, map, Option, None, Some, is_some, refl, sym, ap, subst, ◌∙◌}
use Rattle.nntp_kept_articles.proofs.Base.{arith, true≢false, false_from_ne_true, list_any, filter, option_or, option_map_or, Ordering, nat_cmp, is_eq}
use Rattle.nntp_kept_articles.proofs.Base.{slice_cmp, nat_list_cmp_total, same_text, get, insert, entries, get-insert, octet_keys, rc_str_bytes, get-shown}
use Rattle.nntp_kept_articles.proofs.Base.{replaced, insert-shown, insert-same, Id, is_same, SaidOfArticle, said_nothing, or_none, unwrap_or, Equal}
use Rattle.nntp_kept_articles.proofs.Base.{insert_entry, KeptArticle, said_kept, with_new, articles_in, unsent, known_article, option_map}
use Rattle.nntp_kept_articles.{proofs.{KeptArticles.{Articles, new_elsewhere, new_there}, TextKeys.{any_put, any-map, is_key}}, specs.Inner.Articles.{denied}}
use Rattle.nntp_kept_articles.specs.{Inner.{Articles.{is_there, with_denied}, ArticleView.{articles_known}}, declared.known.KnownArticle.{KnownArticle}}
use Rattle.std.{proofs.{Common.{Vec}, lemmas.{Map.Text.{is_eq-slice_cmp}, Slice.Eq.{bytes_eq-Decides}, Str.{IsUtf8-string_bytes}}}, specs.BTreeSet.{insert_key}}
use Rattle.std.specs.{Map.{lookup, set_value}, declared.rc.RcStr.{RcStr}, FinMap.{find, put, get-entries, entries-insert, same_map}, Str.{IsUtf8}}

-- ---- denied ids beside articles

-- what is kept of an id of which no article is known
abbrev pub if_denied : Bool → Option KeptArticle
if_denied b = cond b (Some denied) None

get-with_new : (articles : Articles) (id q : Id) (a : KeptArticle) → get (with_new articles id a) q ≡ option_or (get articles q) (cond (is_same id q) (Some a) None)
get-with_new articles id q a = grind (arith, same_text, new_there, new_elsewhere, or_none)

-- an id is denied where it is one of these, and has no article
get-with_denied : (articles : Articles) (ids : List Id) (q : Id) → get (with_denied articles ids) q ≡ option_or (get articles q) (if_denied (list_any (λ id. is_same id q) ids))
get-with_denied articles [] q = sym (or_none (get articles q))
get-with_denied articles (id ∷ ids) q = grind (arith, get-with_new (with_denied articles ids) id q denied, get-with_denied articles ids q)

same_articles : (a b : Articles) → ((q : Id) → get a q ≡ get b q) → a ≡ b
same_articles = same_map nat_list_cmp_total octet_keys

-- an article is put in beside denied ids
pub with_denied-insert : (articles : Articles) (ids : List Id) (id : Id) (a : KeptArticle) → with_denied (insert articles id a) ids ≡ insert (with_denied articles ids) id a
with_denied-insert articles ids id a = grind (arith, same_articles, get-with_denied, get-insert, nat_list_cmp_total)

-- one more id is denied
pub one_more_denied : {A : Type 0} (articles : Articles) (ks : List (Vec ℕ A)) (k : Vec ℕ A)
    → with_denied articles (map (λ k. k.items) (insert_key (λ a b. slice_cmp nat_cmp a.items b.items) ks k)) ≡ with_new (with_denied articles (map (λ k. k.items) ks)) k.items denied
one_more_denied articles ks k = same_articles _ _ (λ q.
    grind (arith, get-with_denied, get-with_new (with_denied articles (map (λ k. k.items) ks)) k.items q denied, any_put (λ k. k.items) (λ id. is_same id q) ks k))

-- what is put where nothing was, and doesn't pass, leaves those that pass
filter-put : {K X : Type 0} (R : K → K → Ordering) (p : X → Bool) (k : K) (v : X) (es : List (K × X)) → p v ≡ false → find R k es ≡ None → filter (λ e. p e.1) (put R k v es) ≡ filter (λ e. p e.1) es
filter-put R p k v [] fails none = rw fails refl
filter-put R p k v (e ∷ es) fails none = grind (arith, filter-put R p k v es fails)

-- the ids that have articles are those that have them without the denied ones
pub articles-with_denied : (articles : Articles) (ids : List Id) → articles_in (entries (with_denied articles ids)) ≡ articles_in (entries articles)
articles-with_denied articles [] = refl
articles-with_denied articles (id ∷ ids) =
    let all = with_denied articles ids in
    let put = filter-put (slice_cmp nat_cmp) (λ a. not a.is_denied) id denied (entries all) refl in
    grind (arith, articles-with_denied articles ids, entries-insert nat_list_cmp_total all id denied, put, get-entries all id)

-- ---- what is found

-- octets that aren't text are no key
pub no_key : {A X : Type 0} (q : List ℕ) → (IsUtf8 q → ⊥) → (es : List (RcStr A × X)) → lookup (λ k. is_eq (slice_cmp nat_cmp q (rc_str_bytes k))) es ≡ None
no_key q not_text [] = refl
no_key q not_text (e ∷ es) =
    let other : is_eq (slice_cmp nat_cmp q (rc_str_bytes e.0)) ≡ false = false_from_ne_true _ (λ h. not_text
    (subst IsUtf8 (sym ((bytes_eq-Decides q (rc_str_bytes e.0)).0 (sym (is_eq-slice_cmp q (rc_str_bytes e.0)) ∙ h))) (IsUtf8-string_bytes e.0.text.value))) in
    rw other (no_key q not_text es)

-- the ids as the code keeps them
module _ {A : Type 0} (es : List (RcStr A × KnownArticle A)) (ks : List (Vec ℕ A)) (articles : Articles) (view : with_denied (articles_known es) (map (λ k. k.items) ks) ≡ articles)
    (id : Id) where
  abbrev known : Option (KnownArticle A)
  known = lookup (λ k. is_eq (slice_cmp nat_cmp id (rc_str_bytes k))) es

  abbrev is_denied : Bool
  is_denied = list_any (λ k. is_eq (slice_cmp nat_cmp id k.items)) ks

  found : get articles id ≡ option_or (option_map known_article known) (if_denied is_denied)
  found =
      ap (λ m. get m id) (sym view) ∙ get-with_denied (articles_known es) (map (λ k. k.items) ks) id
      ∙ (λ i. option_or (get-shown (slice_cmp nat_cmp) rc_str_bytes known_article nat_list_cmp_total es id i)
      (if_denied ((any-map (λ k. is_same k id) (λ k. k.items) ks ∙ sym (is_key (λ k. k.items) id ks)) i)))

  -- the id has an article exactly if one is known
  pub there : is_some known ≡ is_there (get articles id)
  there = grind (arith, found)

  pub kept_if_denied : is_there (get articles id) ≡ false → is_denied ≡ is_some (get articles id)
  kept_if_denied e = grind (arith, found)

  -- the id is denied exactly if it is one of those that are, and no article of it is known
  pub denied_there : (is_denied && not (is_there (get articles id))) ≡ option_map_or (λ a. a.is_denied) (get articles id) false
  denied_there = grind (arith, found)

  -- where it isn't, an article of it is known or nothing is kept
  pub kept_known : option_map_or (λ a. a.is_denied) (get articles id) false ≡ false → get articles id ≡ option_map known_article known
  kept_known free = grind (arith, found, true≢false)

  -- what is kept of an article that is known
  pub part_known : (a : KnownArticle A) → Some a ≡ known → get articles id ≡ Some (known_article a)
  part_known a e = found ∙ ap (λ o. option_or (option_map known_article o) (if_denied is_denied)) (sym e)

  -- nothing was sent of an id of which none is
  pub no_part_known : {X : Type 0} (part : SaidOfArticle → Option X) → part said_nothing ≡ None → part (said_kept (Some denied)) ≡ None → None ≡ known → part (said_kept (get articles id)) ≡ None
  no_part_known part nothing none e = grind (arith, found)

  -- an article that is known is another from now on
  pub replaced_known : (fs : List (RcStr A × KnownArticle A)) (old new : KnownArticle A) → Some old ≡ known → fs ≡ set_value (λ k. is_eq (slice_cmp nat_cmp id (rc_str_bytes k))) es new
      → (with_denied (articles_known fs) (map (λ k. k.items) ks) ≡ insert articles id (known_article new)) × (get articles id ≡ Some (known_article old))
  replaced_known fs old new had is =
      let r = replaced (slice_cmp nat_cmp) rc_str_bytes known_article nat_list_cmp_total octet_keys es fs (articles_known es) id old new refl had is in grind (arith, with_denied-insert, found)

-- ---- an entry among the articles, found or made

-- the order of the texts
abbrev pub text_cmp : {A : Type 0} → RcStr A → RcStr A → Ordering
text_cmp a b = slice_cmp nat_cmp (rc_str_bytes a) (rc_str_bytes b)

module _ {A : Type 0} (es : List (RcStr A × KnownArticle A)) (ks : List (Vec ℕ A)) (articles : Articles) (view : with_denied (articles_known es) (map (λ k. k.items) ks) ≡ articles)
    (key : RcStr A) (id : Id) (same : rc_str_bytes key ≡ id) where
  -- an article is put at the id
  pub put_in : (fs : List (RcStr A × KnownArticle A)) (a : KnownArticle A) → fs ≡ insert_entry text_cmp es key a
      → with_denied (articles_known fs) (map (λ k. k.items) ks) ≡ insert articles id (known_article a)
  put_in fs a is =
      ap (λ m. with_denied m (map (λ k. k.items) ks)) (insert-shown (slice_cmp nat_cmp) rc_str_bytes known_article nat_list_cmp_total octet_keys es fs key a is)
      ∙ with_denied-insert (articles_known es) (map (λ k. k.items) ks) (rc_str_bytes key) (known_article a)
      ∙ (λ i. insert (view i) (same i) (known_article a))

  -- the article that is known of an id that isn't denied, or the first
  module _ (free : option_map_or (λ a. a.is_denied) (get articles id) false ≡ false) (first a : KnownArticle A) (unknown : known_article first ≡ unsent)
      (found : a ≡ unwrap_or (lookup (λ k. is_eq (text_cmp key k)) es) first) where
    pub had : known_article a ≡ unwrap_or (get articles id) unsent
    had =
        let known = kept_known es ks articles view (rc_str_bytes key) (ap (λ id. option_map_or (λ a. a.is_denied) (get articles id) false) same ∙ free) in
        grind (arith, found, known, same, unknown)

    -- it is kept from now on, if nothing was
    pub kept_new : (fs : List (RcStr A × KnownArticle A)) → fs ≡ insert_entry text_cmp es key a
        → with_denied (articles_known fs) (map (λ k. k.items) ks) ≡ with_new articles id unsent
    kept_new fs is = grind (arith, had, insert-same, nat_list_cmp_total, octet_keys, put_in fs a is)

-- the text of the entry is that of the id
pub same_key : {A : Type 0} (key held text : RcStr A) (id : Id) → text_cmp key held ≡ Equal → rc_str_bytes key ≡ id → rc_str_bytes text ≡ rc_str_bytes held → rc_str_bytes text ≡ id
same_key key held text id equal is cloned = cloned ∙ sym (octet_keys (rc_str_bytes key) (rc_str_bytes held) equal) ∙ is

-- an article that is known has one
pub not_denied : {A : Type 0} (a : KnownArticle A) → (known_article a).is_denied ≡ false
not_denied a = grind arith
