-- The groups of lines, one after the other.
use Rattle.std.proofs.Common.{◌≡◌, ℕ, zero, suc, ◌≤◌, Bool, true, IsTrue, length, List, [], ◌∷◌, Option, map, refl, sym, arith, ◌⊎◌, inl, inr, ⊎_elim}
use Rattle.std.proofs.lemmas.{Bool.{true≢false, and_parts, or_right}, List.Elements.{recursion_from_All, All-from_recursion, All-weaker, All-map, All-contains}}
use Rattle.std.specs.{Prelude.{◌↔◌, ◌||◌, Contains, IfSome}, List.{list_any, count_by, AllByRecursion}, Option.{option_map_or}}
use Rattle.std.specs.{Cmp.Lexicographic.{bytes_decides}, FinMap.{entries}}
use Rattle.nntp_wire.specs.{Decided.{is_group_name, matches_name}, Inner.Decided.{is_asked}, Name.{IsGroupName}, Wildmat.{MatchesName}, Listing.{ActiveValue}}
use Rattle.nntp_wire.proofs.DecidedLemmas.{group_name-iff}
use Rattle.nntp_article.specs.Session.{Spool.{Spool, Name, IsGroup, IsNumber, numbers}, Machine.{is_same, names_differ, ActivesAgree}}
use Rattle.nntp_article.proofs.SessionLemmas.MatchingGroups.{as_many, each_listed}
use Rattle.nntp_spool.{specs.Inner.ListedGroups.{LineAgrees}, proofs.ListedNumbers.{cons_contains}}

-- ---- names that are listed

any_contains : (name : List ℕ) (lines : List ActiveValue) → list_any (λ line. is_same name line.name) lines ≡ true → Contains (map (λ line. line.name) lines) name
any_contains name [] e = absurd (true≢false (sym e))
any_contains name (l ∷ lines) e = cons_contains l.name name (map (λ line. line.name) lines)
    (⊎_elim (λ p. inl ((bytes_decides name l.name).0 p)) (λ p. inr (any_contains name lines p)) (either (is_same name l.name) _ e))
  where
    either : (a b : Bool) → (a || b) ≡ true → (a ≡ true) ⊎ (b ≡ true)
    either a b e = grind arith

contains_any : (name : List ℕ) (lines : List ActiveValue) → Contains (map (λ line. line.name) lines) name → list_any (λ line. is_same name line.name) lines ≡ true
contains_any name [] (k, lt, e) = absurd (omega arith)
contains_any name (l ∷ lines) (zero, lt, e) = let here : is_same name l.name ≡ true = (bytes_decides name l.name).1 (sym e) in rw here refl
contains_any name (l ∷ lines) (suc k, lt, e) = or_right (is_same name l.name) _ (contains_any name lines (k, omega arith, e))

-- what holds of each line holds of each name
of_name : (P : Name → Type 0) (lines : List ActiveValue) → AllByRecursion (λ line. P line.name) lines → (name : Name) → Contains (map (λ line. line.name) lines) name → P name
of_name P lines all name c = All-contains P _ name (All-map P (λ line. line.name) lines (All-from_recursion (λ line. P line.name) lines all)) c

-- and the other way round
of_lines : (P : Name → Type 0) (lines : List ActiveValue) → ((name : Name) → Contains (map (λ line. line.name) lines) name → P name) → AllByRecursion (λ line. P line.name) lines
of_lines P [] h = tt
of_lines P (l ∷ lines) h = (h l.name (0, omega arith, refl), of_lines P lines (λ name (k, lt, e). h name (suc k, omega arith, e)))

both_all : {X : Type 0} (P Q R : X → Type 0) → ((x : X) → P x → Q x → R x) → (xs : List X) → AllByRecursion P xs → AllByRecursion Q xs → AllByRecursion R xs
both_all P Q R f [] p q = tt
both_all P Q R f (x ∷ xs) p q = (f x p.0 q.0, both_all P Q R f xs p.1 q.1)

weaker : {X : Type 0} (P Q : X → Type 0) → ((x : X) → P x → Q x) → (xs : List X) → AllByRecursion P xs → AllByRecursion Q xs
weaker P Q f xs p = recursion_from_All Q xs (All-weaker P Q f xs (All-from_recursion P xs p))

-- where the next line agrees, all lines agree if those do that are left
pub one_agrees : {X : Type 0} (P : X → Type 0) (line : X) (rest lines all : List X) → lines ≡ line ∷ rest → P line → AllByRecursion P lines ↔ AllByRecursion P all
    → AllByRecursion P rest ↔ AllByRecursion P all
one_agrees P line rest lines all steps here known = grind arith

abbrev IsAsked : Spool → Option (List ℕ) → Name → Type 0
IsAsked S p name = IsGroup S name × IfSome p (λ w. MatchesName w name)

abbrev IsMarked : Spool → ActiveValue → Type 0
IsMarked S line = (n : ℕ) → IsNumber (numbers S line.name) n → (line.low ≤ n) × (n ≤ line.high)

module _ (S : Spool) (names : (name : Name) → IsGroup S name → IsGroupName name) (p : Option (List ℕ))
    (decided : (name : Name) → IsTrue (option_map_or (λ w. matches_name w name) p true) ↔ IfSome p (λ w. MatchesName w name))
    (lines : List ActiveValue) where
  is_asked_if : (name : Name) → IsGroup S name → IfSome p (λ w. MatchesName w name) → is_asked p name ≡ true
  is_asked_if name g m = rw ((group_name-iff name).1 (names name g)) ((decided name).1 m)

  asks : (name : Name) → is_asked p name ≡ true → IfSome p (λ w. MatchesName w name)
  asks name e = (decided name).0 (and_parts (is_group_name name) (option_map_or (λ w. matches_name w name) p true) e).1

  -- each group that matches is listed
  abbrev ListsAll : Type 0
  ListsAll = (name : Name) → IsGroup S name → is_asked p name ≡ true → list_any (λ line. is_same name line.name) lines ≡ true

  actives-agree : AllByRecursion (LineAgrees S p) lines → ListsAll → ActivesAgree S p lines
  actives-agree agree listed = (
    λ name. (
      of_name (IsAsked S p) lines (weaker (LineAgrees S p) (λ line. IsAsked S p line.name) (λ line a. (a.0, a.1)) lines agree) name,
      λ (g, m). any_contains name lines (listed name g (is_asked_if name g m)),
    ),
    All-from_recursion (IsMarked S) lines (weaker (LineAgrees S p) (IsMarked S) (λ line a. a.2) lines agree),
  )

  pub agree-lines : ActivesAgree S p lines → AllByRecursion (LineAgrees S p) lines
  agree-lines a = both_all (λ line. IsAsked S p line.name) (IsMarked S) (LineAgrees S p) (λ line q m. (q.0, q.1, m)) lines
      (of_lines (IsAsked S p) lines (λ name c. (a.0 name).0 c)) (recursion_from_All (IsMarked S) lines a.1)

  agree-listed : ActivesAgree S p lines → ListsAll
  agree-listed a name g e = contains_any name lines ((a.0 name).1 (g, asks name e))

  are_asked : AllByRecursion (LineAgrees S p) lines → (name : Name) → list_any (λ line. is_same name line.name) lines ≡ true → (IsGroup S name) × (is_asked p name ≡ true)
  are_asked agree name e =
      let a = of_name (IsAsked S p) lines (weaker (LineAgrees S p) (λ line. IsAsked S p line.name) (λ line a. (a.0, a.1)) lines agree) name (any_contains name lines e) in
      (a.0, is_asked_if name a.0 a.1)

  -- as many groups are listed as match, exactly if the lists agree
  pub agree-count : names_differ lines ≡ true → AllByRecursion (LineAgrees S p) lines → (count_by (λ e. is_asked p e.0) (entries S.groups) ≡ length lines) ↔ ActivesAgree S p lines
  agree-count differ agree = (
    λ e. actives-agree agree (each_listed S.groups (is_asked p) lines differ (are_asked agree) e),
    λ a. as_many S.groups (is_asked p) lines differ (are_asked agree) (agree-listed a),
  )

pub decided_by : ((wildmat name : List ℕ) → IsTrue (matches_name wildmat name) ↔ MatchesName wildmat name)
    → (p : Option (List ℕ)) (name : Name) → IsTrue (option_map_or (λ w. matches_name w name) p true)
    ↔ IfSome p (λ w. MatchesName w name)
decided_by law p name = grind arith
