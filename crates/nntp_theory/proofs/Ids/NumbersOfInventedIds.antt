-- The numbers of invented ids: they are small, rise, and aren't those of ids that are mentioned.
use Rattle.std.proofs.Common.{◌≡◌, ℕ, ◌+◌, ◌<◌, ◌≤◌, true, cond, eqb, List, [], ◌∷◌, ◌++◌, length, map, None, is_some, sym, ap, ◌∙◌, arith, length-append}
use Rattle.std.proofs.lemmas.{Bool.{cases_lt, or_cases, or_left, or_right, eq-eqb}, Map.Steps.{le-length_from_below}, List.Folds.{list_any-append}}
use Rattle.std.specs.{Prelude.{IsFalse, ⊤}, List.{list_any, flat_map}, Cmp.Lexicographic.{same_text}}
use Rattle.nntp_article.specs.{Session.{Machine.{is_same}, Spool.{Name}}, Article.Parts.{Id}}
use Rattle.nntp_said.specs.Facts.{Fact, IdAt, TextIs, NoArticle, FieldsAre, OverviewsAre}
use Rattle.nntp_theory.{specs.Given.{is_mentioned, invented, AreInvented, id_shown, unshown_in}, proofs.{Ids.InventedIds.{invented_number}, Members.{In}}}
use Rattle.nntp_theory.proofs.Members.{in_back, in_map, any_in, any_back, found_in}

-- the numbers of the ids that a fact mentions, as if they were invented ones
abbrev pub mentioned_number : Fact → List ℕ
mentioned_number (IdAt name n id) = invented_number id ∷ []
mentioned_number (TextIs what id lines) = invented_number id ∷ []
mentioned_number (NoArticle id) = invented_number id ∷ []
mentioned_number (FieldsAre os) = map (λ o. invented_number o.id) os
mentioned_number (OverviewsAre name r os) = map (λ o. invented_number o.id) os
mentioned_number fact = []

-- the numbers of the ids that are mentioned
abbrev pub mentioned : List Fact → List ℕ
mentioned facts = flat_map mentioned_number facts

module _ (B : ℕ) (small : (i : ℕ) → i < B → invented_number (invented i) ≡ i) (facts : List Fact) where
  -- the ids are invented with rising numbers below B
  abbrev pub Numbered : ℕ → List Id → Type 0
  Numbered k [] = ⊤
  Numbered k (id ∷ ids) = (j : ℕ) × (k ≤ j) × (j < B) × (id ≡ invented j) × IsFalse (is_mentioned facts id) × Numbered (j + 1) ids

  -- an id that is an invented one has its number
  same_number : (i : ℕ) (id : Id) → i < B → is_same id (invented i) ≡ true → eqb i (invented_number id) ≡ true
  same_number i id l e = eq-eqb i (invented_number id) (sym (small i l) ∙ ap invented_number (sym (same_text id (invented i) (sym e))))

  -- and so has one that one of the facts mentions
  pub counted : (i : ℕ) (facts : List Fact) → i < B → is_mentioned facts (invented i) ≡ true → list_any (eqb i) (mentioned facts) ≡ true
  counted i [] l e = cc
  counted i (fact ∷ facts) l e = grind (arith, or_cases, list_any-append, or_left, same_number, any_back, counted i facts l, found_in, any_in, in_map)

  -- the numbers from k on, behind those that were invented before
  numbered_from : (ids : List Id) (k : ℕ) (done : List ℕ) → ((i : ℕ) → i < k → list_any (eqb i) (done ++ mentioned facts) ≡ true)
      → length (mentioned facts) + length done + length ids < B → AreInvented facts k ids → Numbered k ids
  numbered_from [] k done below few h = tt
  numbered_from (id ∷ ids) k done below few (j, (from, free, passed), is, rest) =
      let used : (i : ℕ) → i < j → i < B → list_any (eqb i) (done ++ mentioned facts) ≡ true = λ i l s.
      grind (arith, below i, any_back (eqb i) done (mentioned facts), counted i facts s, passed i) in
      let le : B ≤ j → B ≤ length (done ++ mentioned facts) = λ g. le-length_from_below (done ++ mentioned facts) B (λ i l. used i (omega arith) l) in
      let lt : j < B = grind (arith, cases_lt j B, le, length-append done (mentioned facts)) in
      (j, from, lt, is, ap (is_mentioned facts) is ∙ free, numbered_from ids (j + 1) (j ∷ done) (λ i l. grind (arith, or_left, or_right, used i, eq-eqb i j)) (omega arith) rest)

  -- the numbers are small if few ids are mentioned and invented
  pub numbered : (ids : List Id) → length (mentioned facts) + length ids < B → AreInvented facts 0 ids → Numbered 0 ids
  numbered ids few h = numbered_from ids 0 [] (λ i l. absurd (omega arith)) (omega arith) h

  -- one of the ids has a number, and isn't mentioned
  pub of_numbered : (k : ℕ) (ids : List Id) (id : Id) → Numbered k ids → In id ids → (j : ℕ) × (k ≤ j) × (j < B) × (id ≡ invented j) × IsFalse (is_mentioned facts id)
  of_numbered k [] id h i = absurd i
  of_numbered k (x ∷ ids) id (j, from, lt, is, free, rest) i = grind (arith, of_numbered (j + 1) ids id rest)

  -- ids at the front are numbered
  front_numbered : (k : ℕ) (xs ys : List Id) → Numbered k (xs ++ ys) → Numbered k xs
  front_numbered k [] ys h = tt
  front_numbered k (x ∷ xs) ys (j, from, lt, is, free, rest) = (j, from, lt, is, free, front_numbered (j + 1) xs ys rest)

  -- and those at the back, from some number on
  back_numbered : (k : ℕ) (xs ys : List Id) → Numbered k (xs ++ ys) → (j : ℕ) × Numbered j ys
  back_numbered k [] ys h = (k, h)
  back_numbered k (x ∷ xs) ys (j, from, lt, is, free, rest) = back_numbered (j + 1) xs ys rest

  -- and those of each part
  pub part_numbered : {A : Type 0} (f : A → List Id) (k : ℕ) (x : A) (xs : List A) → Numbered k (flat_map f xs) → In x xs → (j : ℕ) × Numbered j (f x)
  part_numbered f k x [] h i = absurd i
  part_numbered f k x (y ∷ ys) h i = let r = back_numbered k (f y) (flat_map f ys) h in grind (arith, front_numbered k (f y) (flat_map f ys) h, part_numbered f r.0 x ys r.1)

  -- the id at a number for which none is shown is among the invented ones
  pub unshown_there : (name : Name) (n : ℕ) (id : Id) (es : List (ℕ × Id)) → In (n, id) es → id_shown facts name n ≡ None → In id (unshown_in facts name es)
  unshown_there name n id [] i none = absurd i
  unshown_there name n id (e ∷ es) i none = grind (arith, in_back, unshown_there name n id es)

  -- an id that is invented for a number isn't invented again behind it
  once : (name : Name) (k n m : ℕ) (id : Id) (e : ℕ × Id) (es : List (ℕ × Id)) → Numbered k (unshown_in facts name (e ∷ es))
      → (e ≡ (n, id)) → In (m, id) es → id_shown facts name n ≡ None → id_shown facts name m ≡ None → ⊥
  once name k n m id e es h same i none none' = grind (arith, of_numbered, unshown_there, invented_number)

  -- no id is invented for two numbers of a group
  pub unshown_apart : (name : Name) (k n m : ℕ) (id : Id) (es : List (ℕ × Id)) → Numbered k (unshown_in facts name es)
      → In (n, id) es → In (m, id) es → id_shown facts name n ≡ None → id_shown facts name m ≡ None → n ≡ m
  unshown_apart name k n m id [] h i j none none' = absurd i
  unshown_apart name k n m id (e ∷ es) h i j none none' =
      let r = back_numbered k (cond (is_some (id_shown facts name e.0)) [] (e.1 ∷ [])) (unshown_in facts name es) h in
      grind (arith, once name k n m id e es h, once name k m n id e es h, unshown_apart name r.0 n m id es r.1)
