-- What a list of ascending numbers shows.
use Rattle.std.proofs.Common.{◌≡◌, ◌⊎◌, inl, inr, ⊎_elim, ℕ, ◌-◌, ◌<◌, ◌≤◌, suc, Bool, true, false, Option, None, Some, is_some, List, [], ◌∷◌, ◌++◌, map}
use Rattle.std.proofs.{Common.{length, take, drop, append_assoc, refl, sym, ap, subst, ◌∙◌, arith}, Math.ListN.{get_or-map}, lemmas.Bool.{and_parts}}
use Rattle.std.proofs.lemmas.{Bool.Decides.{nat_tests}, List.{append-nil, map-append, take-append-drop, length-take-le, length-drop, get_or-take, get_or-drop}}
use Rattle.std.proofs.lemmas.{List.Elements.{recursion_from_All}, Map.{Entries.{length-keys_of}, Keys.{non_decreasing_from_sorted}}}
use Rattle.std.specs.{Cmp.{nat_cmp_total}, FinMap.{get, len, insert, put, is_sorted, entries, entries-insert, same_entries_map, entries_sorted}}
use Rattle.std.specs.{FinMap.{nat_cmp-IsAntisymmetric, Entries.{below_all}}, List.{slice_get, insert as list_insert, AllByRecursion}}
use Rattle.std.specs.{List.Sorted.{IsNonDecreasingBy, IsPartitionPoint}, Map.{keys_of}, Ordering.{nat_cmp}, Rc.{rc_str_bytes}, declared.rc.RcStr.{RcStr}}
use Rattle.nntp_article.specs.{Inner.{Spool.{IsFirst}, ShownMap.{shown_entry}}, Session.Spool.{Numbers, IsNumber, IsNextAbove, IsNextBelow, NoneAbove}}
use Rattle.nntp_article.{specs.Session.Spool.{NoneBelow}, proofs.ShownMaps.{entries-ascending, len-ascending}}
use Rattle.nntp_content.{specs.Inner.Numbers.{numbers_shown, AreAscending, AreParts}, proofs.GatheredEntries.{first_is, last_is, nothing, none_listed}}
use Rattle.nntp_content.proofs.{MapEntries.{value_of_some, all_got, placed, is_passed}, SearchedEntries.{strict}}

none_of : {X : Type 0} (o : Option X) → (is_some o ≡ true → ⊥) → o ≡ None
none_of o h = grind arith

-- what holds of all elements of a list holds of the one at a place
at_place : {X : Type 0} (P : X → Type 0) (xs : List X) (k : ℕ) (e : X) → AllByRecursion P xs → Some e ≡ slice_get xs k → P e
at_place P (x ∷ xs) (suc k) e all is = at_place P xs k e all.1 is
at_place P xs k e all is = grind arith

module _ {A : Type 0} where
  abbrev Each : (ℕ → Type 0) → List (ℕ × RcStr A) → Type 0
  Each P ids = AllByRecursion (λ e. P e.0) ids

  abbrev octets : ℕ × RcStr A → ℕ × List ℕ
  octets = shown_entry (λ n. n) rc_str_bytes

  abbrev Has : Numbers → ℕ × RcStr A → Type 0
  Has N e = get N e.0 ≡ Some (rc_str_bytes e.1)

  shown_each : (P : ℕ → Type 0) (ids : List (ℕ × RcStr A)) → Each P ids → AllByRecursion (λ e. P e.0) (map octets ids)
  shown_each P [] all = tt
  shown_each P (e ∷ ids) all = (all.0, shown_each P ids all.1)

  pub each_entry : (ids : List (ℕ × RcStr A)) → AreAscending ids → entries (numbers_shown ids) ≡ map octets ids
  each_entry ids h = entries-ascending nat_cmp (λ n. n) rc_str_bytes nat_cmp_total nat_cmp-IsAntisymmetric ids h

  pub how_many : (ids : List (ℕ × RcStr A)) → AreAscending ids → length ids ≡ len (numbers_shown ids)
  how_many ids h = sym (len-ascending nat_cmp (λ n. n) rc_str_bytes nat_cmp_total nat_cmp-IsAntisymmetric ids h)

  -- ---- a list is parted

  -- the numbers don't fall, as a binary search asks for
  pub rise : (ids : List (ℕ × RcStr A)) → AreAscending ids → IsNonDecreasingBy (λ e. e.0) ids
  rise ids h = λ i j d le lt.
      let sorted = strict nat_cmp (λ n. n) rc_str_bytes nat_cmp_total nat_cmp-IsAntisymmetric ids h in
      let up = non_decreasing_from_sorted (keys_of ids) sorted i j d.0 le (rw (length-keys_of ids) lt) in
      rw (get_or-map (λ (e : ℕ × RcStr A). e.0) ids i d, get_or-map (λ (e : ℕ × RcStr A). e.0) ids j d) at up

  -- by a test
  pub parts_are : (p : ℕ → Bool) (P Q : ℕ → Type 0) → ((m : ℕ) → p m ≡ true → P m) → ((m : ℕ) → p m ≡ false → Q m) → (ids : List (ℕ × RcStr A)) (i : ℕ) → i ≤ length ids
      → IsPartitionPoint (λ e. p e.0 ≡ true) (λ e. p e.0 ≡ false) ids i → AreParts ids P Q (take i ids) (drop i ids)
  parts_are p P Q holds fails ids i le point = grind (arith, take-append-drop, recursion_from_All, length-take-le, get_or-take, get_or-drop, length-drop)

  -- the numbers behind one in a list
  behind_first : (n : ℕ) (ids : List (ℕ × RcStr A)) → below_all nat_cmp n (map octets ids) ≡ true → Each (λ m. n ≤ m) ids
  behind_first n [] h = tt
  behind_first n (e ∷ ids) h = grind (arith, and_parts, nat_tests, behind_first n ids)

  -- the numbers up to one, and those from it on
  around : (xs : List (ℕ × RcStr A)) (e : ℕ × RcStr A) (ys : List (ℕ × RcStr A)) → AreAscending (xs ++ e ∷ ys) → Each (λ m. m ≤ e.0) (xs ++ e ∷ []) × Each (λ m. e.0 ≤ m) (e ∷ ys)
  around [] e ys h = ((omega arith, tt), (omega arith, behind_first e.0 ys (and_parts (below_all nat_cmp e.0 (map octets ys)) (is_sorted nat_cmp (map octets ys)) h).0))
  around (x ∷ xs) e ys h =
      let both = and_parts (below_all nat_cmp x.0 (map octets (xs ++ e ∷ ys))) (is_sorted nat_cmp (map octets (xs ++ e ∷ ys))) h in
      let rest = around xs e ys both.1 in
      ((at_middle xs (behind_first x.0 (xs ++ e ∷ ys) both.0), rest.0), rest.1)
    where
      at_middle : (xs : List (ℕ × RcStr A)) → Each (λ m. x.0 ≤ m) (xs ++ e ∷ ys) → x.0 ≤ e.0
      at_middle [] all = all.0
      at_middle (z ∷ xs) all = at_middle xs all.1

  -- a number is put before greater ones
  put_between : (n : ℕ) (id : RcStr A) (xs ys : List (ℕ × RcStr A)) → Each (λ m. m < n) xs → ((e : ℕ × RcStr A) → Some e ≡ slice_get ys 0 → n < e.0)
      → put nat_cmp n (rc_str_bytes id) (map octets (xs ++ ys)) ≡ map octets (xs ++ (n, id) ∷ ys)
  put_between n id [] [] below above = refl
  put_between n id [] (y ∷ ys) below above = let less = above y refl in grind (arith, nat_tests)
  put_between n id (x ∷ xs) ys below above = grind (arith, nat_tests, put_between n id xs ys below.1 above)

  -- ---- the numbers that a list shows

  module _ (ids held : List (ℕ × RcStr A)) (N : Numbers) (ascend : AreAscending ids) (shows : numbers_shown ids ≡ N) (same : held ≡ ids) where
    listed : entries N ≡ map octets held
    listed = ap entries (sym shows) ∙ each_entry ids ascend ∙ ap (map octets) (sym same)

    -- what holds of each entry's number holds of each number
    each_shown : (P : ℕ → Type 0) → Each P held → (q : ℕ) → IsNumber N q → P q
    each_shown P all q h =
        let found = value_of_some (get N q) h in
        all_got nat_cmp_total nat_cmp-IsAntisymmetric (λ k v. P k) N (subst (AllByRecursion (λ e. P e.0)) (sym listed) (shown_each P held all)) q found.0 found.1

    pub none_is : held ≡ [] → (q : ℕ) → get N q ≡ None
    none_is e q = none_of _ (each_shown (λ m. ⊥) (subst (Each (λ m. ⊥)) (sym e) tt) q)

    -- an entry has its id, and stands between lesser and greater numbers
    entry_is : (xs : List (ℕ × RcStr A)) (e : ℕ × RcStr A) (ys : List (ℕ × RcStr A)) → held ≡ xs ++ e ∷ ys → Has N e × Each (λ m. m ≤ e.0) (xs ++ e ∷ []) × Each (λ m. e.0 ≤ m) (e ∷ ys)
    entry_is xs e ys whole =
        let order = around xs e ys (subst AreAscending (sym same ∙ whole) ascend) in
        ((placed nat_cmp_total N (map octets xs) (octets e) (map octets ys) (listed ∙ ap (map octets) whole ∙ map-append octets xs (e ∷ ys))).1, order.0, order.1)

    -- the first of the rest, and the last of the front
    first : (xs ys : List (ℕ × RcStr A)) (e : ℕ × RcStr A) → held ≡ xs ++ ys → Some e ≡ slice_get ys 0 → Has N e × Each (λ m. e.0 ≤ m) ys
    first xs ys e whole is = grind (arith, first_is, entry_is)

    last : (xs ys : List (ℕ × RcStr A)) (e : ℕ × RcStr A) → held ≡ xs ++ ys → Some e ≡ slice_get xs (length xs - 1) → Has N e × Each (λ m. m ≤ e.0) xs
    last xs ys e whole is = grind (arith, last_is, entry_is, append_assoc)

    pub least_is : (e : ℕ × RcStr A) → Some e ≡ slice_get held 0 → IsFirst N (Some e.0)
    least_is e is = let f = first [] held e refl is in (ap is_some f.0, each_shown (λ m. e.0 ≤ m) f.1)

    pub greatest_is : (e : ℕ × RcStr A) → Some e ≡ slice_get held (length held - 1) → IsNumber N e.0 × ((m : ℕ) → IsNumber N m → m ≤ e.0)
    greatest_is e is = let l = last held [] e (sym (append-nil held)) is in (ap is_some l.0, each_shown (λ m. m ≤ e.0) l.1)

    module _ (xs ys : List (ℕ × RcStr A)) (n : ℕ) where
      -- each number is one of a part
      among : (P Q : ℕ → Type 0) → AreParts held P Q xs ys → (q : ℕ) → IsNumber N q → P q ⊎ Q q
      among P Q parted = each_shown (λ m. P m ⊎ Q m) (subst (Each (λ m. P m ⊎ Q m)) (sym parted.0) (both xs ys parted.1 parted.2))
        where
          both : (xs ys : List (ℕ × RcStr A)) → Each P xs → Each Q ys → Each (λ m. P m ⊎ Q m) (xs ++ ys)
          both [] [] p q = tt
          both [] (y ∷ ys) p q = (inr q.0, both [] ys p q.1)
          both (x ∷ xs) ys p q = (inl p.0, both xs ys p.1 q)

      none_among : (P Q : ℕ → Type 0) → AreParts held P Q xs ys → (q : ℕ) → (P q → ⊥) → (Q q → ⊥) → get N q ≡ None
      none_among P Q parted q p r = none_of _ (λ h. ⊎_elim p r (among P Q parted q h))

      -- the id at a number
      pub id_is : AreParts held (λ m. m < n) (λ m. n ≤ m) xs ys → (e : ℕ × RcStr A) → Some e ≡ slice_get ys 0 → e.0 ≡ n → get N n ≡ Some (rc_str_bytes e.1)
      id_is parted e is here = ap (get N) (sym here) ∙ (first xs ys e parted.0 is).0

      pub next_above_is : AreParts held (λ m. m ≤ n) (λ m. n < m) xs ys → (e : ℕ × RcStr A) → Some e ≡ slice_get ys 0 → IsNextAbove N n e.0 × Has N e
      next_above_is parted e is =
          let f = first xs ys e parted.0 is in
          let least = λ (m : ℕ) (lt : n < m) (some : IsNumber N m).
          ⊎_elim (λ le. absurd (omega (arith, le, lt))) (λ le. le) (among (λ m. m ≤ n) (λ m. e.0 ≤ m) (parted.0, parted.1, f.1) m some) in
          ((at_place (λ g. n < g.0) ys 0 e parted.2 is, ap is_some f.0, least), f.0)

      pub none_above : AreParts held (λ m. m ≤ n) (λ m. n < m) xs ys → None ≡ slice_get ys 0 → NoneAbove N n
      none_above parted none m lt = none_among (λ k. k ≤ n) (λ k. ⊥) (parted.0, parted.1, subst (Each (λ k. ⊥)) (sym (nothing ys none)) tt) m (λ le. omega (arith, le, lt)) (λ no. no)

      pub next_below_is : AreParts held (λ m. m < n) (λ m. n ≤ m) xs ys → (e : ℕ × RcStr A) → Some e ≡ slice_get xs (length xs - 1) → IsNextBelow N n e.0 × Has N e
      next_below_is parted e is =
          let l = last xs ys e parted.0 is in
          let most = λ (m : ℕ) (lt : m < n) (some : IsNumber N m).
          ⊎_elim (λ le. le) (λ le. absurd (omega (arith, le, lt))) (among (λ m. m ≤ e.0) (λ m. n ≤ m) (parted.0, l.1, parted.2) m some) in
          ((at_place (λ f. f.0 < n) xs _ e parted.1 is, ap is_some l.0, most), l.0)

      pub none_below : AreParts held (λ m. m < n) (λ m. n ≤ m) xs ys → None ≡ slice_get xs (length xs - 1) → NoneBelow N n
      none_below parted none m lt = none_among (λ k. ⊥) (λ k. n ≤ k) (parted.0, subst (Each (λ k. ⊥)) (sym (none_listed xs none)) tt, parted.2) m (λ no. no) (λ le. omega (arith, le, lt))

      -- one number more, between both parts
      pub one_put : (new : List (ℕ × RcStr A)) (id : RcStr A) → AreParts held (λ m. m < n) (λ m. n ≤ m) xs ys → get N n ≡ None → new ≡ list_insert ids (length xs) (n, id)
          → AreAscending new × (numbers_shown new ≡ insert N n (rc_str_bytes id))
      one_put new id parted absent e =
          let m = insert N n (rc_str_bytes id) in
          let whole : new ≡ xs ++ (n, id) ∷ ys = e ∙ ap (λ ids. list_insert ids (length xs) (n, id)) (sym same ∙ parted.0) ∙ put_at xs in
          let shown : entries m ≡ map octets new =
          entries-insert nat_cmp_total N n (rc_str_bytes id) ∙ ap (put nat_cmp n (rc_str_bytes id)) (listed ∙ ap (map octets) parted.0)
          ∙ put_between n id xs ys parted.1 above ∙ ap (map octets) (sym whole) in
          let up : AreAscending new = ap (is_sorted nat_cmp) (sym shown) ∙ is_passed _ (entries_sorted m) in
          (up, same_entries_map (numbers_shown new) m (each_entry new up ∙ sym shown))
        where
          above : (f : ℕ × RcStr A) → Some f ≡ slice_get ys 0 → n < f.0
          above f is =
              let other : f.0 ≡ n → ⊥ = λ here. let no : None ≡ Some (rc_str_bytes f.1) = sym absent ∙ id_is parted f is here in cc in
              omega (arith, at_place (λ g. n ≤ g.0) ys 0 f parted.2 is, other)

          put_at : (xs : List (ℕ × RcStr A)) → list_insert (xs ++ ys) (length xs) (n, id) ≡ xs ++ (n, id) ∷ ys
          put_at [] = refl
          put_at (x ∷ xs) = grind (arith, put_at xs)

    -- a number that is none
    pub no_id : (xs ys : List (ℕ × RcStr A)) (n : ℕ) → AreParts held (λ m. m < n) (λ m. n ≤ m) xs ys → ((e : ℕ × RcStr A) → Some e ≡ slice_get ys 0 → e.0 ≡ n → ⊥) → get N n ≡ None
    no_id xs [] n parted other = none_among xs [] n (λ m. m < n) (λ m. ⊥) (parted.0, parted.1, tt) n (λ lt. omega (arith, lt)) (λ no. no)
    no_id xs (y ∷ ys) n parted other =
        let apart = other y refl in
        let rest = (first xs (y ∷ ys) y parted.0 refl).1 in
        none_among xs (y ∷ ys) n (λ m. m < n) (λ m. y.0 ≤ m) (parted.0, parted.1, rest) n (λ lt. omega (arith, lt)) (λ le. omega (arith, le, apart, parted.2.0))
