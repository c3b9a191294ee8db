-- The tests that compute are the relations of nntp_wire.
use Rattle.std.proofs.Common.{◌≡◌, ◌↔◌, ℕ, ◌<◌, Bool, true, false, ◌&&◌, ◌==◌, not, IsTrue, List, [], ◌∷◌, ◌++◌, length, map, length-append, inl, inr, refl}
use Rattle.std.proofs.{Common.{sym, ap, subst, ◌∙◌, arith}, lemmas.Bool.{and_parts, and_from, or_cases, or_left, or_right, cases_Bool, leb-true, le-leb}}
use Rattle.std.proofs.lemmas.{Bool.{lt-ltb, ltb-true, eqb-true, true≢false, not-true, Decides.{nat_tests}}, Str.{IsUtf8-from_is_utf8, is_utf8-from_IsUtf8}}
use Rattle.std.{proofs.lemmas.{Str.{chars-encodes, chars-nil}, List.Elements.{recursion_from_All, All-from_recursion}}, specs.Prelude.{nat_le, nat_lt}}
use Rattle.std.specs.{List.{list_all, list_any, AllByRecursion}, Str.{chars, is_utf8, encode_utf8_all}}
use Rattle.nntp_wire.specs.{Name.{IsIdOctet, IsMessageId, IsGroupName, is_name_char}, Wildmat.{Item, star, question, character, Matches, MatchesPattern}}
use Rattle.nntp_wire.specs.{Wildmat.{IsChosen, MatchesName, item_of, is_negated, without_negation}, Decided.{is_id_octet, ends_id, is_message_id}}
use Rattle.nntp_wire.specs.Decided.{is_group_name, suffixes, matches, matches_pattern, is_chosen, matches_name}

-- ---- message ids

-- the octets before the last, and the last
ends_inside : (cs : List ℕ) → ends_id cs ≡ true → list_all is_id_octet cs ≡ true → (inside : List ℕ) × (cs ≡ inside ++ 62 ∷ []) × AllByRecursion IsIdOctet inside
ends_inside [] e h = cc
ends_inside (c ∷ []) e h = ([], ap (λ c. c ∷ []) (eqb-true c 62 e), tt)
ends_inside (c ∷ d ∷ cs) e h =
    let p = and_parts (not (c == 62)) (ends_id (d ∷ cs)) e in
    let q = and_parts (is_id_octet c) (list_all is_id_octet (d ∷ cs)) h in
    let r = and_parts (nat_le 33 c) (nat_le c 126) q.0 in
    let rest = ends_inside (d ∷ cs) p.1 q.1 in
    (c ∷ rest.0, ap (λ t. c ∷ t) rest.1, (((leb-true 33 c r.0, leb-true c 126 r.1), λ s. other c p.0 s), rest.2))
  where
    other : (c : ℕ) → not (c == 62) ≡ true → c ≡ 62 → ⊥
    other c n s = grind (arith, nat_tests)

octet_test : (c : ℕ) → IsIdOctet c → (not (c == 62) ≡ true) × (is_id_octet c ≡ true)
octet_test c h = grind arith

inside_ends : (inside : List ℕ) → AllByRecursion IsIdOctet inside → (ends_id (inside ++ 62 ∷ []) ≡ true) × (list_all is_id_octet (inside ++ 62 ∷ []) ≡ true)
inside_ends [] h = (refl, refl)
inside_ends (c ∷ inside) h = grind (arith, octet_test, inside_ends inside h.1, and_from)

pub message_id-iff : (id : List ℕ) → IsTrue (is_message_id id) ↔ IsMessageId id
message_id-iff id = grind (arith, and_parts, ends_inside, eqb-true, leb-true, length-append, All-from_recursion, inside_ends, recursion_from_All, and_from, le-leb)

-- ---- group names

pub group_name-iff : (name : List ℕ) → IsTrue (is_group_name name) ↔ IsGroupName name
group_name-iff name = (sound name, complete name)
  where
    not_empty : (cs bytes : List ℕ) → encode_utf8_all cs ≡ bytes → 0 < length bytes → 0 < length cs
    not_empty [] bytes e some = absurd (let l : length bytes ≡ 0 = ap length (sym e) in omega arith)
    not_empty (c ∷ cs) bytes e some = omega arith

    sound : (name : List ℕ) → IsTrue (is_group_name name) → IsGroupName name
    sound name h = grind (arith, and_parts, IsUtf8-from_is_utf8, chars-encodes, not_empty, ltb-true)

    complete : (name : List ℕ) → IsGroupName name → IsTrue (is_group_name name)
    complete name (cs, utf8, some, each) =
        let same : cs ≡ chars name = sym (chars-encodes cs utf8.0) ∙ ap chars utf8.1 in
        let is : is_utf8 name ≡ true = is_utf8-from_IsUtf8 name (cs, utf8) in
        and_from (nat_lt 0 (length name) && is_utf8 name) (list_all is_name_char (chars name))
        (and_from (nat_lt 0 (length name)) (is_utf8 name) (lt-ltb 0 (length name) (long name same)) is)
        (subst (λ cs. list_all is_name_char cs ≡ true) same each)
      where
        long : (name : List ℕ) → cs ≡ chars name → 0 < length name
        long [] same = absurd (let l : length cs ≡ 0 = ap length (same ∙ chars-nil) in omega arith)
        long (c ∷ cs') same = omega arith

-- ---- matching

-- a suffix that passes
any_suffix : (p : List ℕ → Bool) (text : List ℕ) → list_any p (suffixes text) ≡ true → (front : List ℕ) × (rest : List ℕ) × (text ≡ front ++ rest) × (p rest ≡ true)
any_suffix p [] h = elim (or_cases (p []) false h) [ inl e ↦ ([], [], refl, e) | inr f ↦ cc ]
any_suffix p (c ∷ cs) h = elim (or_cases (p (c ∷ cs)) (list_any p (suffixes cs)) h) [
  | inl e ↦ ([], c ∷ cs, refl, e)
  | inr more ↦ (let s = any_suffix p cs more in (c ∷ s.0, s.1, ap (λ t. c ∷ t) s.2, s.3))
]

suffix_any : (p : List ℕ → Bool) (front rest : List ℕ) → p rest ≡ true → list_any p (suffixes (front ++ rest)) ≡ true
suffix_any p [] [] h = or_left (p []) false h
suffix_any p [] (c ∷ cs) h = or_left (p (c ∷ cs)) (list_any p (suffixes cs)) h
suffix_any p (c ∷ front) rest h = or_right (p (c ∷ (front ++ rest))) (list_any p (suffixes (front ++ rest))) (suffix_any p front rest h)

items_match : (items : List Item) (text : List ℕ) → matches items text ≡ true → Matches items text
items_match (star ∷ items) text h = let s = any_suffix (matches items) text h in (s.0, s.1, s.2, items_match items s.1 s.3)
items_match (question ∷ items) (c ∷ cs) h = (c, cs, refl, items_match items cs h)
items_match (character d ∷ items) (c ∷ cs) h = let p = and_parts (c == d) (matches items cs) h in (cs, ap (λ c. c ∷ cs) (eqb-true c d p.0), items_match items cs p.1)
items_match items text h = grind arith

same_octet : (c : ℕ) → (c == c) ≡ true
same_octet c = grind (arith, nat_tests)

match_items : (items : List Item) (text : List ℕ) → Matches items text → matches items text ≡ true
match_items [] text e = ap (matches []) e
match_items (star ∷ items) text (front, rest, e, m) = ap (λ t. list_any (matches items) (suffixes t)) e ∙ suffix_any (matches items) front rest (match_items items rest m)
match_items (question ∷ items) text (c, rest, e, m) = ap (matches (question ∷ items)) e ∙ match_items items rest m
match_items (character d ∷ items) text (rest, e, m) = ap (matches (character d ∷ items)) e ∙ and_from (d == d) (matches items rest) (same_octet d) (match_items items rest m)

-- none of the patterns matches
none_match : (patterns : List (List ℕ)) (text : List ℕ) → not (list_any (λ other. matches_pattern other text) patterns) ≡ true → AllByRecursion (λ pattern. ¬ (MatchesPattern pattern text)) patterns
none_match [] text h = tt
none_match (p ∷ ps) text h = grind (arith, or_left, true≢false, match_items, none_match ps text)

match_none : (patterns : List (List ℕ)) (text : List ℕ) → AllByRecursion (λ pattern. ¬ (MatchesPattern pattern text)) patterns → not (list_any (λ other. matches_pattern other text) patterns) ≡ true
match_none [] text h = refl
match_none (p ∷ ps) text h = grind (arith, cases_Bool, items_match, match_none ps text h.1)

chosen : (patterns : List (List ℕ)) (text : List ℕ) → is_chosen patterns text ≡ true → IsChosen patterns text
chosen [] text h = cc
chosen (p ∷ ps) text h = elim (or_cases (is_chosen ps text) (matches_pattern p text && not (is_negated p) && not (list_any (λ other. matches_pattern other text) ps)) h) [
  | inl more ↦
      let c = chosen ps text more in
      record { before = p ∷ c.before; last = c.last; after = c.after; whole = ap (λ t. p ∷ t) c.whole; matches = c.matches; plain = c.plain; others = c.others }
  | inr here ↦
      let a = and_parts (matches_pattern p text && not (is_negated p)) (not (list_any (λ other. matches_pattern other text) ps)) here in
      let b = and_parts (matches_pattern p text) (not (is_negated p)) a.0 in
      let m = items_match (map item_of (chars (without_negation p))) text b.0 in
      record { before = []; last = p; after = ps; whole = refl; matches = m; plain = not-true (is_negated p) b.1; others = none_match ps text a.1 }
]

choose : (before : List (List ℕ)) (last : List ℕ) (after : List (List ℕ)) (text : List ℕ) → MatchesPattern last text
    → is_negated last ≡ false → AllByRecursion (λ pattern. ¬ (MatchesPattern pattern text)) after
    → is_chosen (before ++ last ∷ after) text ≡ true
choose [] last after text m plain others = grind (arith, or_right, and_from, match_items, match_none)
choose (p ∷ before) last after text m plain others = grind (arith, or_left, choose before last after text m plain others)

pub matches_name-iff : (wildmat name : List ℕ) → IsTrue (matches_name wildmat name) ↔ MatchesName wildmat name
matches_name-iff wildmat name = grind (arith, chosen, choose)
