-- Words with one SP between them.
use Rattle.std.{proofs.Common.{arith, ◌≡◌, ℕ, Bool, true, false, List, [], ◌∷◌, ◌++◌, refl}, specs.{Prelude.{◌==◌}, List.{list_all, filter, flat_map}}}
use Rattle.std.specs.List.{slice_split}
use Rattle.nntp_wire.specs.{Inner.Words.{are_joined}, Octets.{is_blank, space}, Words.{is_some_octets, words_of}}

-- each word behind a space
abbrev pub spaced : List (List ℕ) → List ℕ
spaced words = flat_map (λ w. space ∷ w) words

-- the parts between blanks, where all but the first hold an octet, and the first too behind a blank
record AreParts (before : Bool) (text : List ℕ) : Type 0 where
  first : List ℕ
  more : List (List ℕ)
  parts : slice_split is_blank text ≡ first ∷ more
  whole : text ≡ first ++ spaced more
  some : list_all is_some_octets more ≡ true
  begins : before ≡ true → is_some_octets first ≡ true

-- one more octet in front
one_more : (before : Bool) (c : ℕ) (cs : List ℕ) → ((prior : Bool) → are_joined prior cs ≡ true → AreParts prior cs)
    → (tab blank : Bool) → (c == 9) ≡ tab → (c == 32) ≡ blank → are_joined before (c ∷ cs) ≡ true → AreParts before (c ∷ cs)
one_more before c cs rest true _ e f g = absurd (grind arith)
one_more true c cs rest false true e f g = absurd (grind arith)
one_more false c cs rest false true e f g =
    let p = rest true (grind arith) in
    record { first = []; more = p.first ∷ p.more; parts = grind (arith, p.parts); whole = grind (arith, p.whole); some = grind (arith, p.some, p.begins refl); begins = λ b. absurd (cc b) }
one_more before c cs rest false false e f g =
    let p = rest false (grind arith) in
    record { first = c ∷ p.first; more = p.more; parts = grind (arith, p.parts); whole = grind (arith, p.whole); some = p.some; begins = λ _. grind arith }

parts_of : (before : Bool) (text : List ℕ) → are_joined before text ≡ true → AreParts before text
parts_of false [] h = record { first = []; more = []; parts = refl; whole = refl; some = refl; begins = λ b. absurd (cc b) }
parts_of true [] h = absurd (cc h)
parts_of before (c ∷ cs) h = one_more before c cs (λ prior e. parts_of prior cs e) (c == 9) (c == 32) refl refl h

all_kept : (parts : List (List ℕ)) → list_all is_some_octets parts ≡ true → filter is_some_octets parts ≡ parts
all_kept [] h = refl
all_kept (p ∷ ps) h = grind (arith, all_kept ps)

-- words with one SP between them are the text
pub joined_words : (text : List ℕ) → are_joined true text ≡ true → spaced (words_of text) ≡ space ∷ text
joined_words text h =
    let p = parts_of true text h in
    grind (arith, all_kept, p.parts, p.whole, p.some, p.begins refl)
