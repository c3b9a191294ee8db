-- The piece at the front of octets is determined, and whether there is one can be decided.
use Rattle.std.proofs.Common.{◌≡◌, ◌≢◌, ◌⊎◌, ◌∙◌, ℕ, ◌-◌, ◌<◌, true, false, List, [], ◌∷◌, ◌++◌, Option, Some, None, length, take, drop, inl, inr, refl, sym}
use Rattle.std.proofs.{Common.{ap, subst, append_assoc, arith, length-append, length-take}, lemmas.Bool.{cases_Bool, cases_eq, cases_lt, and_from, true≢false}}
use Rattle.std.{proofs.{lemmas.List.{append-nil, append_cancel_left, take-append-drop}, Math.Seq.{take-append_seam}}, specs.List.{list_all}}
use Rattle.std.specs.Char.{is_ascii_digit}
use Rattle.nntp_check.specs.{Capture.{Part, word_of, spelled, IsPiece, BeginsNoPiece, count_of}, declared.source.Source.{Source, TheVariants.{Client, Server}}}
use Rattle.nntp_check.{specs.declared.source.Source.TheVariants.{Spool, Session}, proofs.CaptureLemmas.{one_word, one_line, spelled-append, counted}}
use Rattle.nntp_check.proofs.{BegunLemmas.{Completes, complete-octets, complete-digits, complete-word}, ReadingLemmas.{counted-few, digits-then, no-fewer}}
use Rattle.nntp_check.proofs.ReadingLemmas.{no-line-feed, not-nil}

-- ---- one piece

-- equally many octets, and what follows them
one_front : (front other after more : List ℕ) → length front ≡ length other → front ++ after ≡ other ++ more → (front ≡ other) × (after ≡ more)
one_front front other after more many e =
    let same : front ≡ other = sym (take-append_seam front after) ∙ ap (take (length front)) e ∙ ap (λ n. take n (other ++ more)) many ∙ take-append_seam other more in
    (same, append_cancel_left front after more (e ∙ ap (λ t. t ++ more) (sym same)))

-- octets begin with one piece
pub one-piece : (piece other : Part) (rest more : List ℕ) → IsPiece piece → IsPiece other → spelled piece ++ rest ≡ spelled other ++ more → (piece ≡ other) × (rest ≡ more)
one-piece p q rest more is also e = grind (arith, one_word, spelled-append, one_line, counted, one_front)

-- ---- what is at the front

-- no piece is there, whatever follows
abbrev pub NeverBegins : List ℕ → Type 0
NeverBegins octets = (more : List ℕ) → BeginsNoPiece (octets ++ more)

-- a piece is at the front; or none, and the octets are completed to one, or never begin one
abbrev pub Front : List ℕ → Type 0
Front octets = ((p : Part) × (more : List ℕ) × IsPiece p × (octets ≡ spelled p ++ more)) ⊎ (BeginsNoPiece octets × (Completes octets ⊎ NeverBegins octets))

-- what never begins one begins none now
never : (octets : List ℕ) → NeverBegins octets → Front octets
never octets none = inr (subst BeginsNoPiece (append-nil octets) (none []), inr none)

-- a front of the word; the word, and octets behind it; or neither, whatever follows
fork : (word octets : List ℕ) → ((more : List ℕ) × (octets ++ more ≡ word)) ⊎ (((line : List ℕ) × (octets ≡ word ++ line)) ⊎ ((more other : List ℕ) → octets ++ more ≢ word ++ other))
fork word [] = inl (word, refl)
fork [] (b ∷ octets) = inr (inl (b ∷ octets, refl))
fork (c ∷ word) (b ∷ octets) = elim (cases_eq b c) [
  | inl is ↦ elim (fork word octets) [
    | inl (more, e) ↦ inl (more, λ k. is k ∷ e k)
    | inr (inl (line, e)) ↦ inr (inl (line, λ k. is k ∷ e k))
    | inr (inr none) ↦ inr (inr (λ more other e. none more other (cc)))
  ]
  | inr other ↦ inr (inr (λ more next e. other (cc)))
]

-- all are digits, or an octet that is none stands behind digits
first-other : (line : List ℕ) → (list_all is_ascii_digit line ≡ true)
    ⊎ ((ds : List ℕ) × (c : ℕ) × (more : List ℕ) × (list_all is_ascii_digit ds ≡ true) × (is_ascii_digit c ≡ false)
    × (line ≡ ds ++ c ∷ more))
first-other [] = inl refl
first-other (b ∷ line) = elim (cases_Bool (is_ascii_digit b)) [
  | inr other ↦ inr ([], b, line, refl, other, refl)
  | inl digit ↦ elim (first-other line) [
    | inl each ↦ inl (and_from (is_ascii_digit b) (list_all is_ascii_digit line) digit each)
    | inr (ds, c, more, each, other, e) ↦ inr (b ∷ ds, c, more, and_from (is_ascii_digit b) (list_all is_ascii_digit ds) digit each, other, ap (λ t. b ∷ t) e)
  ]
]

-- the line behind the word, of a piece that these octets begin
line-of : (s : Source) (octets line more : List ℕ) (p : Part) (after : List ℕ) → octets ≡ word_of s ++ line → octets ++ more ≡ spelled p ++ after → line ++ more ≡ p.digits ++ 10 ∷ (p.octets ++ after)
line-of s octets line more p after is e = grind (arith, one_word, append_assoc, spelled-append)

-- a front of a word begins no piece
cut-word : (s : Source) (octets more : List ℕ) → octets ++ more ≡ word_of s → BeginsNoPiece octets
cut-word s octets more word p after piece e =
    let all = append-nil (word_of s) ∙ sym word ∙ ap (λ t. t ++ more) e ∙ append_assoc (spelled p) after more ∙ spelled-append p (after ++ more) in
    not-nil p.digits 10 (p.octets ++ (after ++ more)) (sym (one_word s p.source [] (p.digits ++ 10 ∷ (p.octets ++ (after ++ more))) all).1)

-- nor do digits alone
digits-alone : (s : Source) (octets line : List ℕ) → octets ≡ word_of s ++ line → list_all is_ascii_digit line ≡ true → BeginsNoPiece octets
digits-alone s octets line is each p more piece e =
    no-line-feed p.digits line (p.octets ++ more) each (sym (line-of s octets line [] p more is (append-nil octets ∙ e)) ∙ append-nil line)

-- more than 10 digits begin no first line
many-digits : (s : Source) (octets line : List ℕ) → octets ≡ word_of s ++ line → list_all is_ascii_digit line ≡ true → 10 < length line → NeverBegins octets
many-digits s octets line is each many more p after piece e =
    grind (arith, counted-few, no-fewer line p.digits more (p.octets ++ after) each (line-of s octets line more p after is e))

-- nor do digits with another octet than LF behind them
other-octet : (s : Source) (octets ds : List ℕ) (c : ℕ) (rest : List ℕ) → octets ≡ word_of s ++ (ds ++ c ∷ rest)
    → list_all is_ascii_digit ds ≡ true → is_ascii_digit c ≡ false → (c ≡ 10 → count_of ds ≡ None) → NeverBegins octets
other-octet s octets ds c rest is each other none more p after piece e =
    let line = sym (append_assoc ds (c ∷ rest) more) ∙ line-of s octets (ds ++ c ∷ rest) more p after is e in
    elim (digits-then ds p.digits c (rest ++ more) (p.octets ++ after) each (counted p.digits (length p.octets) piece) line) [
      | inl (end, same) ↦ let some : None ≡ Some (length p.octets) = sym (none end) ∙ ap count_of (sym same) ∙ piece in cc
      | inr (digit, longer) ↦ true≢false (sym digit ∙ other)
    ]

-- behind a first line there are too few octets
few-octets : (s : Source) (octets ds rest : List ℕ) (n : ℕ) → octets ≡ word_of s ++ (ds ++ 10 ∷ rest) → count_of ds ≡ Some n → length rest < n → BeginsNoPiece octets
few-octets s octets ds rest n is count few p more piece e =
    let line = sym (append-nil (ds ++ 10 ∷ rest)) ∙ line-of s octets (ds ++ 10 ∷ rest) [] p more is (append-nil octets ∙ e) in
    let same = one_line ds p.digits rest (p.octets ++ more) (counted ds n count) (counted p.digits (length p.octets) piece) line in
    let many : Some n ≡ Some (length p.octets) = sym count ∙ ap count_of same.0 ∙ piece in
    let all : n ≡ length p.octets = cc in
    omega (arith, ap length same.1, length-append p.octets more)

-- a first line, and octets behind it
in-piece : (s : Source) (octets ds rest : List ℕ) (n : ℕ) → octets ≡ word_of s ++ (ds ++ 10 ∷ rest) → count_of ds ≡ Some n → Front octets
in-piece s octets ds rest n is count = elim (cases_lt (length rest) n) [
  | inl short ↦
      let whole = append-nil octets ∙ is ∙ sym (append_assoc (word_of s) ds (10 ∷ rest)) in
      inr (
        few-octets s octets ds rest n is count short,
        inl (complete-octets octets [] (record { source = s; digits = ds; octets = rest }) (n - length rest) whole (count ∙ ap Some (omega arith))),
      )
  | inr fits ↦
      let p : Part = record { source = s; digits = ds; octets = take n rest } in
      let many : n ≡ length (take n rest) = omega (arith, length-take n rest) in
      inl (p, drop n rest, count ∙ ap Some many, is ∙ ap (λ t. word_of s ++ (ds ++ 10 ∷ t)) (sym (take-append-drop n rest)) ∙ sym (spelled-append p (drop n rest)))
]

-- behind a word
behind-word : (s : Source) (octets line : List ℕ) → octets ≡ word_of s ++ line → Front octets
behind-word s octets line is = elim (first-other line) [
  | inl each ↦ elim (cases_lt 10 (length line)) [
    | inl many ↦ never octets (many-digits s octets line is each many)
    | inr few ↦ inr (digits-alone s octets line is each, inl (complete-digits octets s line is each few))
  ]
  | inr (ds, c, rest, each, other, e) ↦ elim (cases_eq c 10) [
    | inl end ↦ at-end ds rest each (is ∙ ap (λ t. word_of s ++ t) (e ∙ ap (λ x. ds ++ x ∷ rest) end)) (count_of ds) refl
    | inr no-end ↦ never octets (other-octet s octets ds c rest (is ∙ ap (λ t. word_of s ++ t) e) each other (λ end. absurd (no-end end)))
  ]
]
  where
    at-end : (ds rest : List ℕ) → list_all is_ascii_digit ds ≡ true → octets ≡ word_of s ++ (ds ++ 10 ∷ rest) → (count : Option ℕ) → count_of ds ≡ count → Front octets
    at-end ds rest each line None counts = never octets (other-octet s octets ds 10 rest line each refl (λ _. counts))
    at-end ds rest each line (Some n) counts = in-piece s octets ds rest n line counts

-- it is so by one of the words, or there is none of them
pub front-of : (octets : List ℕ) → Front octets
front-of octets = by (at Client) (at Server) (at Spool) (at Session)
  where
    NoWord : Source → Type 0
    NoWord s = (more other : List ℕ) → octets ++ more ≢ word_of s ++ other

    at : (s : Source) → Front octets ⊎ NoWord s
    at s = elim (fork (word_of s) octets) [
      | inl (more, e) ↦ inl (inr (cut-word s octets more e, inl (complete-word octets more s e)))
      | inr (inl (line, e)) ↦ inl (behind-word s octets line e)
      | inr (inr none) ↦ inr none
    ]

    by : Front octets ⊎ NoWord Client → Front octets ⊎ NoWord Server → Front octets ⊎ NoWord Spool → Front octets ⊎ NoWord Session → Front octets
    by (inl front) server spool session = front
    by client (inl front) spool session = front
    by client server (inl front) session = front
    by client server spool (inl front) = front
    by (inr client) (inr server) (inr spool) (inr session) =
        never octets (λ more p after piece e. none more p.source (p.digits ++ 10 ∷ (p.octets ++ after)) (e ∙ spelled-append p after))
      where
        none : (more : List ℕ) (s : Source) (line : List ℕ) → octets ++ more ≢ word_of s ++ line
        none more s line = grind arith
