-- What is left of a list that is gone through, and what is in front of that.
use Rattle.std.proofs.Common.{◌≡◌, ℕ, ◌+◌, ◌<◌, ◌≤◌, List, [], ◌∷◌, ◌++◌, length, map, take, drop, get_or, drop-cons, add-one, ap, sym, ◌∙◌, arith}
use Rattle.std.proofs.lemmas.List.{drop_all, take_more, take-append-drop, map-append}

module _ {X Y : Type 0} (value : X → Y) (xs : List X) (i : ℕ) where
  -- the next value is the first that is left
  pub next_left : (x : X) → i < length xs → x ≡ get_or xs i x → map value (drop i xs) ≡ value x ∷ map value (drop (i + 1) xs)
  next_left x within is = grind (arith, add-one, drop-cons)

  -- at the end none is
  pub none_left : length xs ≤ i → map value (drop i xs) ≡ []
  none_left end = ap (map value) (drop_all i xs end)

  -- and then it is the last of those in front
  pub one_more : (x : X) → i < length xs → x ≡ get_or xs i x → map value (take (i + 1) xs) ≡ map value (take i xs) ++ value x ∷ []
  one_more x within is = ap (map value) (take_more xs i x within ∙ ap (λ y. take i xs ++ y ∷ []) (sym is)) ∙ map-append value (take i xs) (x ∷ [])

  -- it stands between those in front and the others
  pub between : (x : X) → i < length xs → x ≡ get_or xs i x → map value (take i xs) ++ value x ∷ map value (drop (i + 1) xs) ≡ map value xs
  between x within is =
      ap (λ left. map value (take i xs) ++ left) (sym (next_left x within is)) ∙ sym (map-append value (take i xs) (drop i xs)) ∙ ap (map value) (take-append-drop i xs)
