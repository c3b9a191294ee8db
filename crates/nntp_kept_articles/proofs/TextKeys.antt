-- Keys that are seen as their octets, and tests of these.
use Rattle.nntp_kept_articles.proofs.Base.{◌≡◌, ℕ, Bool, ◌||◌, List, [], ◌∷◌, map, refl, sym, ap, ◌∙◌, Ordering, Equal, nat_cmp, is_eq, slice_cmp, same_text}
use Rattle.nntp_kept_articles.proofs.Base.{list_any, is_same, any-insert_key, eq_by_cmp, nat_list_eq_equiv, texts_ties}
use Rattle.std.specs.BTreeSet.{insert_key}

-- the same octets, either way
pub flip_text : (i id : List ℕ) → eq_by_cmp (slice_cmp nat_cmp) i id ≡ is_same id i
flip_text i id = sym (texts_ties i id) ∙ nat_list_eq_equiv.symm i id

pub any-map : {X Y : Type 0} (p : Y → Bool) (f : X → Y) (xs : List X) → list_any p (map f xs) ≡ list_any (λ x. p (f x)) xs
any-map p f [] = refl
any-map p f (x ∷ xs) = ap (λ b. p (f x) || b) (any-map p f xs)

-- keys that are seen as their octets
module _ {V : Type 0} (text : V → List ℕ) where
  -- the octets of the keys
  abbrev pub texts : List V → List (List ℕ)
  texts ks = map text ks

  abbrev pub order : V → V → Ordering
  order a b = slice_cmp nat_cmp (text a) (text b)

  -- keys that are tied have the same octets
  pub tied : (k x : V) → order k x ≡ Equal → text x ≡ text k
  tied k x e = same_text (text x) (text k) (sym (sym (flip_text (text k) (text x)) ∙ ap is_eq e))

  -- a test of the octets, once more of them were put among the keys
  pub any_put : (p : List ℕ → Bool) (ks : List V) (k : V) → list_any p (texts (insert_key order ks k)) ≡ (p (text k) || list_any p (texts ks))
  any_put p ks k =
      any-map p text (insert_key order ks k)
      ∙ any-insert_key order (λ k. p (text k)) k ks (λ x e. ap p (tied k x e))
      ∙ ap (λ b. p (text k) || b) (sym (any-map p text ks))

-- the octets are those of a key
pub is_key : {V : Type 0} (text : V → List ℕ) (octets : List ℕ) (ks : List V) → list_any (λ k. is_eq (slice_cmp nat_cmp octets (text k))) ks ≡ list_any (λ k. is_same (text k) octets) ks
is_key text octets ks = λ i. list_any (λ k. flip_text octets (text k) i) ks
