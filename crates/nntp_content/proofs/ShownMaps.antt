-- The entries of the maps that a spool in code shows.
use Rattle.std.proofs.Common.{arith, ◌≡◌, ◌⊎◌, ⊎_elim, inl, inr, None, Result, List, map, sym, ap, subst, ◌∙◌, false, ℕ, [], ◌∷◌, refl, Bool, true, cond, Some}
use Rattle.std.proofs.lemmas.{Bool.{false_from_ne_true}, Map.Text.{is_eq-slice_cmp}, Slice.Eq.{bytes_eq-Decides}, Str.{IsUtf8-string_bytes}}
use Rattle.std.specs.{Cmp.Lexicographic.{slice_cmp, nat_list_cmp_total}, FinMap.{FinMap, empty, get, insert, entries}, List.Sorted.{IsStrictlySortedBy}}
use Rattle.std.specs.{Map.{keys_of, lookup}, Ordering.{nat_cmp, is_eq}, Prelude.{String, OnOk, OnErr, unwrap_or}, Rc.{rc_str_bytes}, Str.{IsUtf8}}
use Rattle.std.specs.{String.{string_bytes}, declared.rc.RcStr.{RcStr}}
use Rattle.nntp_article.{proofs.ShownMaps.{entries-shown, get-shown, option_map_id, insert-same}, specs.{Article.Parts.{Id}, Inner.ShownMap.{shown}}}
use Rattle.nntp_article.specs.{Inner.ShownMap.{shown_entry}, Session.Spool.{Name, Spool, Numbers, Text}}
use Rattle.nntp_content.specs.{Content.{no_spool, with_article, with_group}, Inner.{ArticleLines.{HasLineCount, HasLineCounts}, Content.{with_number_in}}}
use Rattle.nntp_content.{specs.{Inner.Numbers.{with_number}, Numbers.{has_id}}, proofs.MapEntries.{empty_has, got_more}}
pub use Rattle.nntp_article.proofs.ShownMaps.{octet_keys}

pub spool_is : (a b : Spool) → a.groups ≡ b.groups → a.articles ≡ b.articles → a ≡ b
spool_is a b e f i = record { groups = e i; articles = f i }

-- a group with the numbers that it had, or with one more, by whether the id is new
pub number_in_group : (S T : Spool) (name : Name) (N : Numbers) (n : ℕ) (id : Id) → get S.groups name ≡ Some N
    → T.groups ≡ insert S.groups name (with_number N n id) → T.articles ≡ S.articles → T ≡ with_number_in S name n id
number_in_group S T name N n id here groups articles =
    by (has_id N id) groups ∙ ap (λ M. cond (has_id M id) S (with_group S name (insert M n id))) (sym (ap (λ o. unwrap_or o empty) here))
  where
    by : (b : Bool) → T.groups ≡ insert S.groups name (cond b N (insert N n id)) → T ≡ cond b S (with_group S name (insert N n id))
    by true e = spool_is T S (e ∙ insert-same nat_list_cmp_total octet_keys S.groups name N here) articles
    by false e = spool_is T (with_group S name (insert N n id)) e articles

module _ {A : Type 0} where
  pub group_entries : (es : List (String A × Numbers)) (m : FinMap (slice_cmp nat_cmp) Numbers) → shown (slice_cmp nat_cmp) string_bytes (λ N. N) es ≡ m
      → IsStrictlySortedBy (λ a b. slice_cmp nat_cmp (string_bytes a) (string_bytes b)) (keys_of es) → map (shown_entry string_bytes (λ N. N)) es ≡ entries m
  group_entries es m is ordered = sym (entries-shown (slice_cmp nat_cmp) string_bytes (λ N. N) nat_list_cmp_total octet_keys es ordered) ∙ ap entries is

  -- what is looked up by a name
  pub group_got : (es : List (String A × Numbers)) (m : FinMap (slice_cmp nat_cmp) Numbers) (name : Name) → shown (slice_cmp nat_cmp) string_bytes (λ N. N) es ≡ m
      → lookup (λ k. is_eq (slice_cmp nat_cmp name (string_bytes k))) es ≡ get m name
  group_got es m name is = sym (option_map_id _) ∙ sym (get-shown (slice_cmp nat_cmp) string_bytes (λ N. N) nat_list_cmp_total es name) ∙ ap (λ m. get m name) is

-- no article has no lines
pub none_counted : HasLineCounts no_spool
none_counted id t g = absurd (empty_has (slice_cmp nat_cmp) id t g)

-- one article more whose lines are counted
pub one_counted : (S : Spool) (id : Id) (t : Text) → HasLineCounts S → HasLineCount t → HasLineCounts (with_article S id t)
one_counted S id t counted few q u g = ⊎_elim (λ e. rw e.1 few) (counted q u) (got_more nat_list_cmp_total octet_keys S.articles id t q u g)

-- what holds of a value, or what holds of an error
pub one_of : {T E P Q : Type 0} (r : Result T E) → OnOk r P → OnErr r Q → P ⊎ Q
one_of r p q = grind arith

-- one article more, as many as before, or none
pub still_counted : (S : Spool) (m : FinMap (slice_cmp nat_cmp) Text) (id : Id) (t : Text) → HasLineCounts S → HasLineCount t
    → (m ≡ insert S.articles id t) ⊎ ((m ≡ S.articles) ⊎ (m ≡ empty)) → HasLineCounts (record S { articles = m })
still_counted S m id t counted few (inl made) = subst (λ m. HasLineCounts (record S { articles = m })) (sym made) (one_counted S id t counted few)
still_counted S m id t counted few (inr (inl same)) = subst (λ m. HasLineCounts (record S { articles = m })) (sym same) counted
still_counted S m id t counted few (inr (inr none)) = subst (λ m. HasLineCounts (record S { articles = m })) (sym none) none_counted

-- ---- octets that are no text are no key

key_is_text : {A : Type 0} (k : RcStr A) → IsUtf8 (rc_str_bytes k)
key_is_text k = IsUtf8-string_bytes k.text.value

module _ {L : Type 0} (key : L → List ℕ) (text : (k : L) → IsUtf8 (key k)) (q : List ℕ) (not_text : IsUtf8 q → ⊥) where
  other : (k : L) → is_eq (slice_cmp nat_cmp q (key k)) ≡ false
  other k = false_from_ne_true _ (λ t. not_text (subst IsUtf8 (sym ((bytes_eq-Decides q (key k)).0 (sym (is_eq-slice_cmp q (key k)) ∙ t))) (text k)))

  none_tied : {X : Type 0} (es : List (L × X)) → lookup (λ k. is_eq (slice_cmp nat_cmp q (key k))) es ≡ None
  none_tied [] = refl
  none_tied (e ∷ es) = rw (other e.0) (none_tied es)

module _ {A X : Type 0} (q : List ℕ) (not_text : IsUtf8 q → ⊥) where
  pub no_key : (es : List (RcStr A × X)) → lookup (λ k. is_eq (slice_cmp nat_cmp q (rc_str_bytes k))) es ≡ None
  no_key es = none_tied rc_str_bytes key_is_text q not_text es

  pub no_name : (es : List (String A × X)) → lookup (λ k. is_eq (slice_cmp nat_cmp q (string_bytes k))) es ≡ None
  no_name es = none_tied string_bytes IsUtf8-string_bytes q not_text es
