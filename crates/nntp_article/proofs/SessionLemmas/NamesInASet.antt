-- Names that are put into a set, one after the other.
use Rattle.std.proofs.{Common.{◌≡◌, ℕ, Bool, true, false, not, List, [], ◌∷◌, Some, map, refl, sym, ap, ◌∙◌, arith}, lemmas.Map.Text.{is_eq-slice_cmp}}
use Rattle.std.specs.{Prelude.{◌||◌, if◌then◌else◌}, Borrow.{Bor}, declared.cmp.Ordering.{Ordering}, Ordering.{nat_cmp, is_eq}, Cmp.Lexicographic.{slice_cmp}}
use Rattle.std.specs.{List.{list_any}, BTreeSet.{insert_key}}
use Rattle.nntp_article.{specs.Session.{Spool.{Name}, Machine.{is_same}, Misfit.{listed_twice, twice_misfit}}, proofs.SessionLemmas.SetKeys.{any-insert_key}}
use Rattle.nntp_article.proofs.SessionLemmas.Misfits.{twice_by_words}
use Rattle.std.specs.FinMap as finite

-- a name that wasn't added was there
pub taken : (added b : Bool) → added ≡ not b → added ≡ false → b ≡ true
taken added b e f = grind arith

-- a name that was added wasn't there
pub free : (added b : Bool) → added ≡ not b → added ≡ true → b ≡ false
free added b e f = grind arith

abbrev ref_cmp : Bor Name → Bor Name → Ordering
ref_cmp a b = slice_cmp nat_cmp a.now b.now

abbrev has_name : List (Bor Name) → Name → Bool
has_name ks name = list_any (λ k. is_same name k.now) ks

has_name-set : (name : Name) (ks : List (Bor Name)) → list_any (λ k. is_eq (slice_cmp nat_cmp name k.now)) ks ≡ has_name ks name
has_name-set name [] = refl
has_name-set name (k ∷ ks) = rw (is_eq-slice_cmp name k.now) (ap (λ b. is_same name k.now || b) (has_name-set name ks))

-- the names of the set
abbrev pub names_in : List (Bor Name) → List Name
names_in ks = map (λ k. k.now) ks

any_in : (name : Name) (ks : List (Bor Name)) → list_any (is_same name) (names_in ks) ≡ has_name ks name
any_in name [] = refl
any_in name (k ∷ ks) = ap (λ b. is_same name k.now || b) (any_in name ks)

has_more : (name : Name) (old new : List (Bor Name)) (k : Bor Name) → new ≡ insert_key ref_cmp old k
    → has_name new name ≡ (is_same name k.now || has_name old name)
has_more name old new k e =
    ap (λ ks. has_name ks name) e
    ∙ any-insert_key ref_cmp (λ x. is_same name x.now) k old
    (λ x tied. ap (is_same name) (sym (finite.slice_cmp-IsAntisymmetric finite.nat_cmp-IsAntisymmetric k.now x.now tied)))

module _ (word : List ℕ) (words : List (List ℕ)) (old : List (Bor Name)) (k : Bor Name) (is : k.now ≡ word) where
  found : list_any (λ x. is_eq (slice_cmp nat_cmp k.now x.now)) old ≡ list_any (is_same word) (names_in old)
  found = has_name-set k.now old ∙ ap (has_name old) is ∙ sym (any_in word old)

  pub twice_here : list_any (λ x. is_eq (slice_cmp nat_cmp k.now x.now)) old ≡ true → twice_misfit (names_in old) (word ∷ words) ≡ Some (listed_twice k.now)
  twice_here e = ap (λ b. if b then Some (listed_twice word) else twice_misfit (word ∷ names_in old) words) (sym found ∙ e) ∙ ap (λ word. Some (listed_twice word)) (sym is)

  pub twice_later : (new : List (Bor Name)) → list_any (λ x. is_eq (slice_cmp nat_cmp k.now x.now)) old ≡ false → new ≡ insert_key ref_cmp old k
      → twice_misfit (names_in new) words ≡ twice_misfit (names_in old) (word ∷ words)
  twice_later new e put = grind (arith, found, twice_by_words, any_in, has_more)
