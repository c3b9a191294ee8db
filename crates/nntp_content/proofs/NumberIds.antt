-- The ids of a group's numbers, and one more.
use Rattle.std.proofs.Common.{arith, add-one, ◌≡◌, ◌+◌, ◌<◌, ℕ, Bool, true, false, List, [], ◌∷◌, map, length, get_or, drop, drop-cons, None, not, refl, sym}
use Rattle.std.proofs.{Common.{ap, ◌∙◌}, lemmas.{Bool.{false≢true, and_parts, and_from, cases_Bool, Decides.{same_from_decides}}, List.{drop_all}}}
use Rattle.std.{proofs.lemmas.{Map.Text.{is_eq-slice_cmp}, Slice.Eq.{bytes_eq-Decides}}, specs.{BTreeSet.{insert_key}, Bool.{Decides}, Cmp.{both_ways}}}
use Rattle.std.specs.{Cmp.{nat_cmp_total, Lexicographic.{slice_cmp}}, FinMap.{get, insert, empty, entries, find, put, entries-insert, get-entries}}
use Rattle.std.specs.{List.{list_all, list_any}, Ordering.{nat_cmp, is_eq}, Prelude.{◌||◌, bytes_eq}, Rc.{rc_str_bytes}, declared.cmp.Ordering.{Ordering}}
use Rattle.std.specs.declared.rc.RcStr.{RcStr}
use Rattle.nntp_article.{specs.{Article.Parts.{Id}, Inner.ShownMap.{shown_entry}, Session.Spool.{Numbers}}, proofs.SessionLemmas.SetKeys.{or_swap}}
use Rattle.nntp_article.proofs.{SessionLemmas.SetKeys.{any-insert_key}, ShownMaps.{list_all-map}}
use Rattle.nntp_content.specs.{Inner.Numbers.{AreIdsOf, AreKnown, AreAscending, numbers_shown, with_number}, Numbers.{has_id}}
use Rattle.nntp_content.proofs.{MapEntries.{entries-empty, some_none}, ShownMaps.{octet_keys}, ShownNumbers.{each_entry}}

-- a test over entries, once one was put at a key that was not there
any-put : {K X : Type 0} (R : K → K → Ordering) (t : K × X → Bool) (k : K) (v : X) (es : List (K × X)) → find R k es ≡ None → list_any t (put R k v es) ≡ (t (k, v) || list_any t es)
any-put R t k v [] absent = refl
any-put R t k v (e ∷ es) absent = grind (arith, any-put R t k v es, some_none, or_swap)

pub has_id-insert : (N : Numbers) (n : ℕ) (new id : List ℕ) → get N n ≡ None → has_id (insert N n new) id ≡ (bytes_eq new id || has_id N id)
has_id-insert N n new id absent =
    ap (list_any (λ e. bytes_eq e.1 id)) (entries-insert nat_cmp_total N n new)
    ∙ any-put nat_cmp (λ e. bytes_eq e.1 id) n new (entries N) (sym (get-entries N n) ∙ absent)

-- no numbers have no id
pub none_has : (N : Numbers) (id : Id) → N ≡ empty → has_id N id ≡ false
none_has N id d = ap (list_any (λ e. bytes_eq e.1 id)) (entries-empty N d)

either_way : (a b : List ℕ) → bytes_eq a b ≡ bytes_eq b a
either_way a b = let back = bytes_eq-Decides b a in same_from_decides (bytes_eq a b) (bytes_eq b a) (bytes_eq-Decides a b) (λ t. sym (back.0 t), λ e. back.1 (sym e))

-- a test of ids, over values that each have one
module _ (t : Id → Bool) {X : Type 0} (id : X → Id) (at : Id → X → Bool) (decides : (q : Id) (x : X) → Decides (at q x) (id x ≡ q)) where
  -- it passes at an id that is there, where it passes at all
  passes-there : (xs : List X) (q : Id) → list_all (λ x. t (id x)) xs ≡ true → list_any (at q) xs ≡ true → t q ≡ true
  passes-there [] q all there = absurd (false≢true there)
  passes-there (x ∷ xs) q all there = grind (arith, and_parts, passes-there xs, cases_Bool)

  -- it passes at all, where it passes at each id that is there
  passes-all : (xs : List X) → ((q : Id) → list_any (at q) xs ≡ true → t q ≡ true) → list_all (λ x. t (id x)) xs ≡ true
  passes-all [] each = refl
  passes-all (x ∷ xs) each = grind (arith, and_from, passes-all xs)

-- a test passes at all ids of the numbers exactly if it does at all that are known
pub all_ids : {A : Type 0} (t : Id → Bool) (ids : List (RcStr A)) (N : Numbers) → AreIdsOf ids N
    → list_all (λ known. t (rc_str_bytes known)) ids ≡ list_all (λ e. t e.1) (entries N)
all_ids {A = A} t ids N are =
    let known : Id → RcStr A → Bool = λ q k. bytes_eq q (rc_str_bytes k) in
    let decides : (q : Id) (k : RcStr A) → Decides (known q k) (rc_str_bytes k ≡ q) =
    λ q k. let d = bytes_eq-Decides q (rc_str_bytes k) in (λ is. sym (d.0 is), λ is. d.1 (sym is)) in
    let id : ℕ × Id → Id = λ e. e.1 in
    let at : Id → ℕ × Id → Bool = λ q e. bytes_eq e.1 q in
    let decides_at : (q : Id) (e : ℕ × Id) → Decides (at q e) (id e ≡ q) = λ q e. bytes_eq-Decides e.1 q in
    both_ways (list_all (λ k. t (rc_str_bytes k)) ids) (list_all (λ e. t e.1) (entries N))
    (λ all. passes-all t id at decides_at (entries N) (λ q there. passes-there t rc_str_bytes known decides ids q all (are q ∙ there)))
    (λ all. passes-all t rc_str_bytes known decides ids (λ q there. passes-there t id at decides_at (entries N) q all (sym (are q) ∙ there)))

module _ {A : Type 0} where
  -- the ids that are known, where there are some
  pub known_are : (known : List (RcStr A)) (N : Numbers) → AreKnown known N → (known ≡ [] → ⊥) → AreIdsOf known N
  known_are known N h some = grind arith

  -- the ids of a list of numbers
  pub listed_id : (ids : List (ℕ × RcStr A)) (id : Id) → AreAscending ids → list_any (λ e. bytes_eq (rc_str_bytes e.1) id) ids ≡ has_id (numbers_shown ids) id
  listed_id ids id h = sym (ap (list_any (λ (e : ℕ × Id). bytes_eq e.1 id)) (each_entry ids h) ∙ any_octets ids)
    where
      any_octets : (ids : List (ℕ × RcStr A)) → list_any (λ (e : ℕ × Id). bytes_eq e.1 id) (map (shown_entry (λ n. n) rc_str_bytes) ids) ≡ list_any (λ e. bytes_eq (rc_str_bytes e.1) id) ids
      any_octets [] = refl
      any_octets (e ∷ ids) = ap (λ b. bytes_eq (rc_str_bytes e.1) id || b) (any_octets ids)

  -- a test of each id of a list of numbers
  pub all_listed : (t : Id → Bool) (ids : List (ℕ × RcStr A)) → AreAscending ids → list_all (λ e. t (rc_str_bytes e.1)) ids ≡ list_all (λ e. t e.1) (entries (numbers_shown ids))
  all_listed t ids h = sym (ap (list_all (λ (e : ℕ × Id). t e.1)) (each_entry ids h) ∙ list_all-map (λ (e : ℕ × Id). t e.1) (shown_entry (λ n. n) rc_str_bytes) ids)

  abbrev octets_cmp : RcStr A → RcStr A → Ordering
  octets_cmp a b = slice_cmp nat_cmp (rc_str_bytes a) (rc_str_bytes b)

  abbrev is_of : List ℕ → RcStr A → Bool
  is_of id known = is_eq (slice_cmp nat_cmp id (rc_str_bytes known))

  -- what a set answers of an id
  pub any_known : (id : List ℕ) (ids : List (RcStr A)) → list_any (is_of id) ids ≡ list_any (λ known. bytes_eq id (rc_str_bytes known)) ids
  any_known id [] = refl
  any_known id (k ∷ ids) = rw (is_eq-slice_cmp id (rc_str_bytes k)) (ap (λ b. bytes_eq id (rc_str_bytes k) || b) (any_known id ids))

  -- what a set of the ids answers where one more is put into it
  pub is_added : (ids : List (RcStr A)) (N : Numbers) (k : RcStr A) (added : Bool) → AreIdsOf ids N
      → added ≡ not (list_any (is_of (rc_str_bytes k)) ids) → added ≡ not (has_id N (rc_str_bytes k))
  is_added ids N k added are e = e ∙ ap not (any_known (rc_str_bytes k) ids ∙ are (rc_str_bytes k))

  -- an id more, at a number that was not there
  one_id_more : (ids new : List (RcStr A)) (N : Numbers) (n : ℕ) (id : List ℕ) (k : RcStr A) → AreIdsOf ids N
      → get N n ≡ None → rc_str_bytes k ≡ id → new ≡ insert_key octets_cmp ids k → AreIdsOf new (insert N n id)
  one_id_more ids new N n id k are absent is e q = grind (arith, any-insert_key, octet_keys, either_way, has_id-insert)

  -- an id more, if it was not there
  pub known_with : (ids new : List (RcStr A)) (N : Numbers) (n : ℕ) (k : RcStr A) (added : Bool) → AreIdsOf ids N → get N n ≡ None → added ≡ not (has_id N (rc_str_bytes k))
      → new ≡ insert_key octets_cmp ids k → (added ≡ false → new ≡ ids) → AreIdsOf new (with_number N n (rc_str_bytes k))
  known_with ids new N n k added are absent e put same = grind (arith, one_id_more)

  -- one more of the numbers was passed, and its id put among those that are known
  pub one_passed : (ids : List (ℕ × RcStr A)) (i : ℕ) (e : ℕ × RcStr A) (known new : List (RcStr A)) (k : RcStr A) (id : Id) → i < length ids → e ≡ get_or ids i e
      → rc_str_bytes k ≡ rc_str_bytes e.1 → new ≡ insert_key octets_cmp known k
      → (list_any (λ known. bytes_eq id (rc_str_bytes known)) new || list_any (λ e. bytes_eq (rc_str_bytes e.1) id) (drop (i + 1) ids))
      ≡ (list_any (λ known. bytes_eq id (rc_str_bytes known)) known || list_any (λ e. bytes_eq (rc_str_bytes e.1) id) (drop i ids))
  one_passed ids i e known new k id lt is same put = grind (arith, add-one, drop-cons, any-insert_key, octet_keys, either_way, or_swap)

  -- none is left
  pub all_passed : (ids : List (ℕ × RcStr A)) (i : ℕ) (known : List (RcStr A)) (id : Id) → i ≡ length ids
      → list_any (λ known. bytes_eq id (rc_str_bytes known)) known ≡ (list_any (λ known. bytes_eq id (rc_str_bytes known)) known || list_any (λ e. bytes_eq (rc_str_bytes e.1) id) (drop i ids))
  all_passed ids i known id end = grind (arith, drop_all)
