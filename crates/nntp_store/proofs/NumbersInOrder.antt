-- The numbers of a group, one after the other, and how many there are.
use Rattle.std.proofs.Common.{◌≡◌, ◌⊎◌, ⊎_elim, ℕ, ◌+◌, ◌<◌, ◌≤◌, ◌^◌, Bool, true, false, List, [], ◌∷◌, ◌++◌, None, Some, length, refl, sym, ap, ◌∙◌, arith}
use Rattle.std.proofs.lemmas.{Bool.{true≢false, false_from_ne_true, and_parts, or_parts, Decides.{nat_tests}}, List.Elements.{All-from_recursion}}
use Rattle.std.{proofs.lemmas.{List.Folds.{list_any_none}, Slice.Eq.{bytes_eq-Decides}}, specs.{Cmp.{nat_cmp_total}, FinMap.{get, insert, empty, entries, len}}}
use Rattle.std.specs.{FinMap.{is_sorted, entries_sorted, len-entries, nat_cmp-IsAntisymmetric, Entries.{below_all}}, List.{list_any, AllByRecursion}}
use Rattle.std.specs.{Ordering.{nat_cmp, is_lt}, Prelude.{bytes_eq, map}}
use Rattle.nntp_wire.specs.Decided.{is_message_id}
use Rattle.nntp_article.specs.Session.{Machine.{is_article_number}, Spool.{Numbers}}
use Rattle.nntp_content.{specs.{Ascending.{is_last}, Inner.Content.{AreNumbers}, Numbers.{has_id}}, proofs.MapEntries.{is_passed, empty_has, absent_above}}
use Rattle.nntp_content.proofs.MapEntries.{next_entry, got_front, got_all, all_got, got_more}
use Rattle.nntp_store.specs.Text.{number_line}

-- a number that may stand behind others
pub record Follows (limit : ℕ) (N : Numbers) (n : ℕ) (id : List ℕ) : Type 0 where
  pub num : is_article_number limit n ≡ true
  pub is_id : is_message_id id ≡ true
  pub last : is_last N n ≡ true
  pub fresh : has_id N id ≡ false

abbrev pub number_lines : List (ℕ × List ℕ) → List (List ℕ)
number_lines es = map (λ e. number_line e.0 e.1) es

pub num_between : (limit n : ℕ) → is_article_number limit n ≡ true → (1 ≤ n) × (n ≤ limit)
num_between limit n h = (grind (arith, nat_tests, and_parts), grind (arith, nat_tests, and_parts))

none_any : {X : Type 0} (p : X → Bool) (xs : List X) → list_any p xs ≡ false → AllByRecursion (λ x. p x ≡ false) xs
none_any p [] h = tt
none_any p (x ∷ xs) h = let both = or_parts (p x) (list_any p xs) h in (both.0, none_any p xs both.1)

pub no_numbers : (limit : ℕ) → AreNumbers limit empty
no_numbers limit = record { each = λ n id g. absurd (empty_has nat_cmp n id g); one_to_one = λ n m id g h. absurd (empty_has nat_cmp n id g) }

-- no number has an id that isn't there
fresh_id : (N : Numbers) (id : List ℕ) → has_id N id ≡ false → (q : ℕ) → get N q ≡ Some id → ⊥
fresh_id N id fresh q g =
    let other : bytes_eq id id ≡ false = all_got nat_cmp_total nat_cmp-IsAntisymmetric (λ k v. bytes_eq v id ≡ false) N (none_any (λ e. bytes_eq e.1 id) (entries N) fresh) q id g in
    true≢false (sym ((bytes_eq-Decides id id).1 refl) ∙ other)

pub one_more : (limit : ℕ) (N : Numbers) (n : ℕ) (id : List ℕ) → AreNumbers limit N → is_article_number limit n ≡ true
    → is_message_id id ≡ true → has_id N id ≡ false → AreNumbers limit (insert N n id)
one_more limit N n id a num is_id fresh =
    let before = got_more nat_cmp_total nat_cmp-IsAntisymmetric N n id in
    record {
      each = λ q x g. ⊎_elim (λ e. rw (e.0, e.1) (num, is_id)) (a.each q x) (before q x g);
      one_to_one = λ q m x g h. one_is q m x (before q x g) (before m x h);
    }
  where
    one_is : (q m : ℕ) (x : List ℕ) → ((q ≡ n) × (x ≡ id)) ⊎ (get N q ≡ Some x) → ((m ≡ n) × (x ≡ id)) ⊎ (get N m ≡ Some x) → q ≡ m
    one_is q m x h h2 = search (arith, fresh_id)

-- the next number of a whole group may stand behind those before it
pub follows : (limit : ℕ) (N M : Numbers) (x : ℕ × List ℕ) (es : List (ℕ × List ℕ)) → AreNumbers limit M → entries M ≡ entries N ++ x ∷ es → Follows limit N x.0 x.1
follows limit N M x es a is =
    let next = next_entry nat_cmp_total N M x es is in
    let absent = absent_above nat_cmp_total N x.0 next.0 in
    let other = got_all nat_cmp_total (λ k v. bytes_eq v x.1 ≡ false) N (λ k v g. false_from_ne_true (bytes_eq v x.1) (λ t.
    let there : get M k ≡ Some x.1 = got_front nat_cmp_total N M (x ∷ es) is k v g ∙ ap Some ((bytes_eq-Decides v x.1).0 t) in
    let no : None ≡ Some v = sym absent ∙ ap (get N) (sym (a.one_to_one k x.0 x.1 there next.1)) ∙ g in cc)) in
    record {
      num = (a.each x.0 x.1 next.1).0;
      is_id = (a.each x.0 x.1 next.1).1;
      last = next.0;
      fresh = list_any_none (λ f. bytes_eq f.1 x.1) (entries N) (All-from_recursion (λ f. bytes_eq f.1 x.1 ≡ false) (entries N) other);
    }

-- ---- how many numbers there are

lower : (n m : ℕ) → is_lt (nat_cmp n m) ≡ true → n < m
lower n m less = grind arith

-- the numbers behind one of them are above it
above : (n limit : ℕ) (es : List (ℕ × List ℕ)) → below_all nat_cmp n es ≡ true → is_sorted nat_cmp es ≡ true → AllByRecursion (λ e. (1 ≤ e.0) × (e.0 ≤ limit)) es → n ≤ limit
    → length es + n ≤ limit
above n limit [] below sorted all le = omega arith
above n limit (e ∷ es) below sorted all le = grind (arith, and_parts, lower, above e.0 limit es)

within_limit : (limit : ℕ) (es : List (ℕ × List ℕ)) → is_sorted nat_cmp es ≡ true → AllByRecursion (λ e. (1 ≤ e.0) × (e.0 ≤ limit)) es → length es ≤ limit
within_limit limit [] sorted all = omega arith
within_limit limit (e ∷ es) sorted all = grind (arith, and_parts, above e.0 limit es)

-- a group has no more numbers than the limit allows
pub few_numbers : (limit : ℕ) (N : Numbers) → limit < 2 ^ 64 → AreNumbers limit N → len N < 2 ^ 64
few_numbers limit N le are =
    let all = got_all nat_cmp_total (λ n id. (1 ≤ n) × (n ≤ limit)) N (λ n id here. num_between limit n (are.each n id here).0) in
    let few = within_limit limit (entries N) (is_passed _ (entries_sorted N)) all in
    omega (arith, len-entries N)
