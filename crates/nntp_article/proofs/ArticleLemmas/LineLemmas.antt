-- The colon of a line, and blanks at its ends.
use Rattle.std.proofs.Common.{◌≡◌, ℕ, ◌+◌, Bool, true, false, List, [], ◌∷◌, ◌++◌, Option, None, Some, length, drop, refl, sym, ◌∙◌, ap, arith}
use Rattle.std.proofs.lemmas.{List.{take_all, drop_all, drop-drop, Sums.{position_or_len_is}, Folds.{list_all-append}}, Bool.{false_from_ne_true}}
use Rattle.std.{proofs.lemmas.Bool.Decides.{nat_tests}, specs.{Prelude.{◌&&◌, ◌==◌, not}, Option.{option_eq}, List.{list_any, list_all, find, prefix_len}}}
use Rattle.std.specs.List.{position_or_len, before_first, after_first}
use Rattle.memchr.specs.Find.{IsFirstByte, is_byte}
use Rattle.nntp_wire.specs.Octets.{is_blank}
use Rattle.nntp_article.{specs.Article.Parts.{Line, is_colon, is_name_octet, begins_header, skip_last_blanks}, proofs.ArticleLemmas.HeadLemmas.{one-more}}

-- where a search for the colon found it
pub colon-found : (line : Line) (n : ℕ) → IsFirstByte (is_byte 58) line (Some n) → position_or_len is_colon line ≡ n
colon-found line n found = position_or_len_is is_colon line n 0 (let h = found.0.high in omega arith) (λ k h. false_from_ne_true _ (found.0.before k (omega arith) h)) (λ h. found.1)

-- where it found none
pub colon-none : (line : Line) → IsFirstByte (is_byte 58) line None → position_or_len is_colon line ≡ length line
colon-none line none = position_or_len_is is_colon line (length line) 0 (omega arith) (λ k h. false_from_ne_true _ (none k (omega arith) h)) (λ h. absurd (omega arith))

pub value-found : (line : Line) (n : ℕ) → IsFirstByte (is_byte 58) line (Some n) → drop 1 (drop n line) ≡ after_first is_colon line
value-found line n found = drop-drop 1 n line ∙ ap (λ k. drop (k + 1) line) (sym (colon-found line n found))

pub value-none : (line : Line) → IsFirstByte (is_byte 58) line None → [] ≡ after_first is_colon line
value-none line none = sym (drop_all (position_or_len is_colon line + 1) line (let e = colon-none line none in omega arith))

pub name-none : (line : Line) → IsFirstByte (is_byte 58) line None → line ≡ before_first is_colon line
name-none line none = sym (take_all (position_or_len is_colon line) line (let e = colon-none line none in omega arith))

-- the first octet that may not stand in a name
abbrev pub behind_name : List ℕ → Option ℕ
behind_name octets = find (λ octet. not (is_name_octet octet)) octets

abbrev pub is_some_colon : Option ℕ → Bool
is_some_colon octet = option_eq (λ a b. a == b) octet (Some 58)

pub name-plain : (c : ℕ) (cs : List ℕ) → is_colon c ≡ false → before_first is_colon (c ∷ cs) ≡ c ∷ before_first is_colon cs
name-plain c cs h = rw (h, one-more (prefix_len (λ c. not (is_colon c)) cs)) refl

not_name : (c : ℕ) → is_colon c ≡ true → is_name_octet c ≡ false
not_name c h = rw h (grind (arith, nat_tests))

-- octets of a name and a colon behind them: the first other octet is the colon
names-then_colon : (octets : List ℕ) → (list_any is_colon octets && list_all is_name_octet (before_first is_colon octets)) ≡ is_some_colon (behind_name octets)
names-then_colon [] = refl
names-then_colon (c ∷ cs) = grind (arith, nat_tests, not_name, name-plain, names-then_colon cs)

-- a line whose first octet may stand in a name
pub begins_by_name : (c : ℕ) (cs : List ℕ) → is_name_octet c ≡ true → begins_header (c ∷ cs) ≡ is_some_colon (behind_name cs)
begins_by_name c cs e = grind (arith, name-plain, names-then_colon, nat_tests)

-- a blank at the end is passed over
pub skip_last-blank : (octets : List ℕ) (c : ℕ) → is_blank c ≡ true → skip_last_blanks (octets ++ c ∷ []) ≡ skip_last_blanks octets
skip_last-blank [] c h = rw h refl
skip_last-blank (x ∷ xs) c h = grind (arith, list_all-append, nat_tests, skip_last-blank xs c h)

-- every other octet stays
pub skip_last-plain : (octets : List ℕ) (c : ℕ) → is_blank c ≡ false → skip_last_blanks (octets ++ c ∷ []) ≡ octets ++ c ∷ []
skip_last-plain [] c h = rw h refl
skip_last-plain (x ∷ xs) c h = grind (arith, list_all-append, nat_tests, skip_last-plain xs c h)
