-- Names that are kept: more of them, and whether a name is denied; and the names that are listed.
use Rattle.nntp_kept.proofs.Base.{◌≡◌, ℕ, Bool, true, false, ◌||◌, ◌&&◌, IsTrue, List, [], ◌∷◌, ◌++◌, map, Option, None, Some, refl, sym, ap, subst, ◌∙◌, arith}
use Rattle.nntp_kept.proofs.Base.{not, MatchOption, is_some, true≢false, or_left, true_from_ne_false, and_from, list_any-append, IfSome, nat_cmp, is_eq}
use Rattle.nntp_kept.proofs.Base.{slice_cmp, same_text, nat_list_cmp_total, AllByRecursion, list_any, option_map_or, insert_entry, matches_name, ActiveValue}
use Rattle.nntp_kept.proofs.Base.{Name, is_same, Fact, GroupsAre, is_shown_group, denies_group, all_at, all_from, contains_in, in_back, any_silent, get}
use Rattle.nntp_kept.proofs.Base.{IsGroupName, get-shown, Together, shown_named, AreKeptNames, KeptGroup, told, AreKeptGroups, MayList, WereListed, is_listed}
use Rattle.nntp_kept.proofs.Base.{NoneIsMissing, KeptNames, WasAnswered, length, is_wildmat, shown, shown_entry, is_some-option_map}
use Rattle.nntp_kept.proofs.Keeping.{CountedGroups.{listed_still}, KeptGroups.{Groups, shown_kept}}
use Rattle.nntp_kept_articles.proofs.TextKeys.{flip_text, any-map, texts, order, tied, any_put}
use Rattle.std.specs.{BTreeSet.{insert_key}, Map.{lookup, keys_of}, Borrow.{Bor}}

-- ---- entries of a map whose keys are seen as their octets

module _ {V : Type 0} (text : V → List ℕ) where
  -- the octets of the keys, each with its count
  abbrev pub counts : List (V × ℕ) → List (List ℕ × ℕ)
  counts es = map (shown_entry text (λ (n : ℕ). n)) es

  keys_put : (es : List (V × ℕ)) (k : V) (n : ℕ) → keys_of (insert_entry (order text) es k n) ≡ insert_key (order text) (keys_of es) k
  keys_put [] k n = refl
  keys_put (x ∷ es) k n = grind (arith, keys_put es k n)

  any_key : (p : List ℕ → Bool) (es : List (V × ℕ)) → list_any (λ e. p e.0) (counts es) ≡ list_any p (texts text (keys_of es))
  any_key p [] = refl
  any_key p (x ∷ es) = ap (λ b. p (text x.0) || b) (any_key p es)

  -- a test of the octets, once more of them were put in
  pub any_counted : (p : List ℕ → Bool) (es : List (V × ℕ)) (k : V) (n : ℕ) → list_any (λ e. p e.0) (counts (insert_entry (order text) es k n)) ≡ (p (text k) || list_any (λ e. p e.0) (counts es))
  any_counted p es k n = grind (arith, any_key, keys_put, any_put)

  -- what holds of each
  all_counted : (P : List ℕ × ℕ → Type 0) (es : List (V × ℕ)) (k : V) (n : ℕ) → P (text k, n) → AllByRecursion P (counts es) → AllByRecursion P (counts (insert_entry (order text) es k n))
  all_counted P [] k n h all = (h, tt)
  all_counted P (x ∷ es) k n h all = grind (arith, tied text k x.0, all_counted P es k n h all.1)

-- ---- names

-- a name that isn't shown wasn't before
pub not_before : (facts more : List Fact) (name : Name) → is_shown_group (facts ++ more) name ≡ false → is_shown_group facts name ≡ false
not_before facts more name e = grind (arith, true≢false, or_left, list_any-append)

-- what was listed was so behind more facts
pub counted_still : (facts more : List Fact) (k : KeptNames) → AreKeptNames facts k → AllByRecursion (WasAnswered (facts ++ more)) k.wildmats
counted_still facts more k kept = grind (arith, all_from, all_at, listed_still)

pub all_still : (facts more : List Fact) (k : KeptNames) → AreKeptNames facts k → IfSome k.all_listed (WereListed (facts ++ more) None)
all_still facts more k kept = grind (arith, listed_still)

-- more facts that deny no name leave what is kept of names
pub names_kept : (facts more : List Fact) (k : KeptNames) → ((name : Name) → list_any (denies_group name) more ≡ false) → AreKeptNames facts k → AreKeptNames (facts ++ more) k
names_kept facts more k none kept = record {
  wildmats = counted_still facts more k kept;
  all_listed = all_still facts more k kept;
  denied = λ name not_shown. any_silent (denies_group name) facts more (none name) ∙ kept.denied name (not_before facts more name not_shown);
}

-- one more name is denied
pub name_denied : {V : Type 0} (text : V → List ℕ) (facts more : List Fact) (old : KeptNames) (ks : List V) (name : V) → old.denied ≡ texts text ks → AreKeptNames facts old
    → ((other : Name) → list_any (denies_group other) more ≡ is_same (text name) other)
    → AreKeptNames (facts ++ more) (record old { denied = texts text (insert_key (order text) ks name) })
name_denied text facts more old ks name is kept denied = grind (arith, counted_still, all_still, not_before, list_any-append, any_put)

-- one more wildmat was answered
pub wildmat_listed : {V : Type 0} (text : V → List ℕ) (facts : List Fact) (lines : List ActiveValue) (old : KeptNames) (es : List (V × ℕ)) (wildmat : V) (count : ℕ)
    → IsTrue (is_wildmat (text wildmat)) → MayList (Some (text wildmat)) lines → length lines ≡ count → old.wildmats ≡ counts text es → AreKeptNames facts old
    → AreKeptNames (facts ++ GroupsAre (Some (text wildmat)) lines ∷ []) (record old { wildmats = counts text (insert_entry (order text) es wildmat count) })
wildmat_listed text facts lines old es wildmat count good may counted is kept = record {
  wildmats =
      let all = facts ++ GroupsAre (Some (text wildmat)) lines ∷ [] in
      all_counted text (WasAnswered all) es wildmat count (good, grind (arith, contains_in, in_back))
      (subst (AllByRecursion (WasAnswered all)) is (counted_still facts (GroupsAre (Some (text wildmat)) lines ∷ []) old kept));
  all_listed = all_still facts (GroupsAre (Some (text wildmat)) lines ∷ []) old kept;
  denied = λ name e.
      let before = kept.denied name (not_before facts (GroupsAre (Some (text wildmat)) lines ∷ []) name e) in
      let now : list_any (denies_group name) (GroupsAre (Some (text wildmat)) lines ∷ []) ≡ matches_name (text wildmat) name = grind (arith, e, true≢false, list_any-append) in
      grind (arith, before, now, list_any-append (denies_group name) facts, any_counted text (λ w. matches_name w name) es wildmat count, is);
}

-- all groups were listed
pub all_listed : (facts : List Fact) (lines : List ActiveValue) (old : KeptNames) (count : ℕ) → MayList None lines → length lines ≡ count → AreKeptNames facts old
    → AreKeptNames (facts ++ GroupsAre None lines ∷ []) (record old { all_listed = Some count })
all_listed facts lines old count may counted kept = grind (arith, counted_still, contains_in, in_back, list_any-append, true≢false)

-- ---- tests

-- wildmats that are such
pub some_matches : {V : Type 0} (text : V → List ℕ) (facts : List Fact) (name : Name) (es : List (V × ℕ)) → AllByRecursion (WasAnswered facts) (counts text es)
    → list_any (λ k. is_wildmat (text k) && matches_name (text k) name) (keys_of es) ≡ list_any (λ e. matches_name e.0 name) (counts text es)
some_matches text facts name [] all = refl
some_matches text facts name (x ∷ es) all = (λ i. (all.0.0 i && matches_name (text x.0) name) || some_matches text facts name es all.1 i)

-- how many groups were listed for a wildmat that is found
pub answered_found : {V : Type 0} (text : V → List ℕ) (facts : List Fact) (es : List (V × ℕ)) (w : List ℕ) → AllByRecursion (WasAnswered facts) (counts text es)
    → IfSome (lookup (λ k. is_eq (slice_cmp nat_cmp w (text k))) es) (WereListed facts (Some w))
answered_found text facts [] w all = tt
answered_found text facts (x ∷ es) w all = grind (arith, flip_text w (text x.0), same_text (text x.0) w, all.0, answered_found text facts es w all.1)

pub key_text : {V : Type 0} (text : V → List ℕ) (name : Name) (ks : List V) → list_any (λ k. is_same (text k) name) ks ≡ list_any (λ g. is_same g name) (texts text ks)
key_text text name ks = sym (any-map (λ g. is_same g name) text ks)

-- ---- the names that are listed

-- the octets that a name refers to
abbrev pub octets : Bor Name → Name
octets k = k.now

-- one of the names is this
abbrev pub has_name : List (Bor Name) → Name → Bool
has_name ks name = list_any (λ k. is_same k.now name) ks

-- a line's name moves from the lines to the set
pub name_moved : (line : ActiveValue) (rest lines : List ActiveValue) (ks new : List (Bor Name)) (k : Bor Name) (name : Name) (all : Bool) → k.now ≡ line.name → lines ≡ line ∷ rest
    → new ≡ insert_key (order octets) ks k → (has_name ks name || is_listed lines name) ≡ all → (has_name new name || is_listed rest name) ≡ all
name_moved line rest lines ks new k name all is steps put before =
    grind (arith, key_text octets name ks, key_text octets name (insert_key (order octets) ks k), any_put octets (λ g. is_same g name) ks k)

-- ---- the groups that are kept

module _ {L : Type 0} (text : L → List ℕ) (es : List (L × KeptGroup)) where
  -- the name is among the keys
  abbrev pub is_key_of : Name → Bool
  is_key_of name = list_any (λ k. is_same (text k) name) (keys_of es)

key_found : {L : Type 0} (text : L → List ℕ) (es : List (L × KeptGroup)) (name : Name) → is_some (lookup (λ k. is_eq (slice_cmp nat_cmp name (text k))) es) ≡ is_key_of text es name
key_found text [] name = refl
key_found text (e ∷ es) name = grind (arith, true≢false, flip_text name (text e.0), key_found text es name)

-- the keys are the names of the groups that are shown
key_shown : {L : Type 0} (text : L → List ℕ) (es : List (L × KeptGroup)) (groups : Groups) (facts : List Fact) → shown (slice_cmp nat_cmp) text (λ v. v) es ≡ groups → AreKeptGroups facts groups
    → (name : Name) → is_key_of text es name ≡ is_shown_group facts name
key_shown text es groups facts view kept name =
    sym (key_found text es name) ∙ sym (is_some-option_map (λ v. v) (lookup (λ k. is_eq (slice_cmp nat_cmp name (text k))) es))
    ∙ ap is_some (sym (get-shown (slice_cmp nat_cmp) text (λ v. v) nat_list_cmp_total es name)) ∙ ap (λ m. is_some (get m name)) view ∙ shown_kept (told facts) groups name kept

-- a group that is shown and matches, and isn't listed, if there is one
pub one_unlisted : {L : Type 0} (text : L → List ℕ) (es : List (L × KeptGroup)) (groups : Groups) (facts : List Fact) (p : Option (List ℕ)) (lines : List ActiveValue) (names : List (Bor Name))
    (found : Option Name) → shown (slice_cmp nat_cmp) text (λ v. v) es ≡ groups → ((name : Name) → has_name names name ≡ is_listed lines name) → AreKeptGroups facts groups → Together facts
    → MatchOption found ((name : Name) → is_key_of text es name ≡ true → IsGroupName name → (option_map_or (λ w. matches_name w name) p true && not (has_name names name)) ≡ false)
    (λ name. IsTrue (is_key_of text es name) × IsTrue (option_map_or (λ w. matches_name w name) p true && not (has_name names name)))
    → MatchOption found (NoneIsMissing facts p lines) (λ name. IsTrue (is_shown_group facts name) × IsTrue (denies_group name (GroupsAre p lines)))
one_unlisted text es groups facts p lines names (Some name) view listed kept t (there, unlisted) = grind (arith, key_shown text es groups facts view kept name)
one_unlisted text es groups facts p lines names None view listed kept t none = λ name there matching. true_from_ne_false (is_listed lines name) (λ e.
    true≢false (sym (and_from (option_map_or (λ w. matches_name w name) p true) (not (has_name names name)) matching (ap not (listed name ∙ e)))
    ∙ none name (key_shown text es groups facts view kept name ∙ there) (shown_named facts name t.well_formed there)))
