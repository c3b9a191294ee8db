-- Items against characters, from one `*` to the next.
use Rattle.std.proofs.Common.{◌≡◌, ◌≢◌, ◌↔◌, ℕ, List, [], ◌∷◌, ◌++◌, length, Bor, refl, sym, ◌∙◌, ap, arith, true, Bool, ◌⊎◌, inl, inr, ⊎_elim, map}
use Rattle.std.{proofs.{Common.{length-append}, lemmas.Bool.{and_parts, Decides.{nat_tests}}}, specs.{Prelude.{◌==◌}, Char.{IsScalar, encode_utf8}}}
use Rattle.std.specs.Str.{encode_utf8_all}
use Rattle.nntp_wire.specs.{Name.{IsUtf8Of}, Inner.Pattern.{Fits, Takes}, declared.pattern.Step.TheVariants.{Star, One, Fails}, Wildmat.{Item, star, Matches}}
use Rattle.nntp_wire.{specs.Wildmat.{item_of}, proofs.NameLemmas.{encode_utf8-some, one_first_char}}

-- octets that begin with a character are those of a list that does
pub utf8-cons : (ps bytes rest : List ℕ) (c : ℕ) → IsScalar c → bytes ≡ encode_utf8 c ++ rest → IsUtf8Of ps bytes → (ds : List ℕ) × (ps ≡ c ∷ ds) × IsUtf8Of ds rest
utf8-cons [] bytes rest c is e utf8 = absurd (omega (arith, encode_utf8-some c, ap length (utf8.1 ∙ e), length-append (encode_utf8 c) rest))
utf8-cons (p ∷ ps) bytes rest c is e utf8 = grind (arith, and_parts, one_first_char)

-- octets that begin with none are those of no characters
pub utf8-nil : (ps bytes : List ℕ) → ((c : ℕ) (rest : List ℕ) → IsScalar c → bytes ≢ encode_utf8 c ++ rest) → IsUtf8Of ps bytes → ps ≡ []
utf8-nil [] bytes none utf8 = refl
utf8-nil (p ∷ ps) bytes none utf8 = absurd (none p (encode_utf8_all ps) (and_parts _ _ utf8.0).0 (sym utf8.1))

-- a text is empty exactly if it has no characters
pub empty-iff : (ts bytes : List ℕ) (b : Bool) → IsUtf8Of ts bytes → b ≡ (length bytes == 0) → (b ≡ true) ↔ (ts ≡ [])
empty-iff [] bytes b utf8 e = (λ h. refl, λ n. rw e (rw (sym utf8.1) refl))
empty-iff (t ∷ ts) bytes b utf8 e = grind (arith, encode_utf8-some, length-append, nat_tests)

-- an item that is no `*` takes exactly one character
pub one-nil : (item : ℕ) (is : List Item) → item ≢ 42 → Matches (item_of item ∷ is) [] → ⊥
one-nil item is plain m = grind arith

pub one-other : (item c : ℕ) (is : List Item) (ts : List ℕ) → item ≢ 42 → item ≢ 63 → item ≢ c → Matches (item_of item ∷ is) (c ∷ ts) → ⊥
one-other item c is ts plain named other m = grind arith

pub one-rest : (item c : ℕ) (is : List Item) (ts : List ℕ) → item ≢ 42 → Matches (item_of item ∷ is) (c ∷ ts) → Matches is ts
one-rest item c is ts plain m = grind arith

-- `*` takes no character, or one and then more
pub star-here : (is : List Item) (ts : List ℕ) → Matches is ts → Matches (star ∷ is) ts
star-here is ts m = ([], ts, refl, m)

-- where `*` and items match a text they match every longer one that ends in it
pub star-more : (is : List Item) (c : ℕ) (ts : List ℕ) → Matches (star ∷ is) ts → Matches (star ∷ is) (c ∷ ts)
star-more is c ts (front, rest, e, m) = (c ∷ front, rest, ap (λ t. c ∷ t) e, m)

pub star-all : (is : List Item) (front rest : List ℕ) → Matches (star ∷ is) rest → Matches (star ∷ is) (front ++ rest)
star-all is [] rest m = m
star-all is (c ∷ front) rest m = star-more is c (front ++ rest) (star-all is front rest m)

-- two `*` say no more than one
pub star-star : (is : List Item) (ts : List ℕ) → Matches (star ∷ star ∷ is) ts → Matches (star ∷ is) ts
star-star is ts (front, rest, e, m) = rw e (star-all is front rest m)

-- behind `*` one item gives up a character
pub star-one : (item c : ℕ) (is : List Item) (ts : List ℕ) → item ≢ 42 → Matches (star ∷ item_of item ∷ is) (c ∷ ts) → Matches (star ∷ is) ts
star-one item c is ts plain ([], rest, e, m) = star-here is ts (one-rest item c is ts plain (rw e m))
star-one item c is ts plain (a ∷ front, [], e, m) = absurd (one-nil item is plain m)
star-one item c is ts plain (a ∷ front, b ∷ rest, e, m) =
    let tail : ts ≡ front ++ b ∷ rest = cc in
    rw tail (star-all is front (b ∷ rest) (star-more is b rest (star-here is rest (one-rest item b is rest plain m))))

-- `*` and the items match the text when `*` takes one character at least
abbrev pub MatchesLater : List Item → List ℕ → Type 0
MatchesLater is [] = ⊥
MatchesLater is (c ∷ ts) = Matches (star ∷ is) ts

star-splits : (is : List Item) (ts : List ℕ) → Matches (star ∷ is) ts ↔ (Matches is ts ⊎ MatchesLater is ts)
star-splits is [] = (λ m. inl (nil m), λ h. ⊎_elim (λ m. star-here is [] m) (λ later. absurd later) h) where
  nil : Matches (star ∷ is) [] → Matches is []
  nil ([], rest, e, m) = rw e m
  nil (a ∷ front, rest, e, m) = absurd (cc)
star-splits is (c ∷ ts) = (λ m. cases m, λ h. ⊎_elim (λ m. star-here is (c ∷ ts) m) (λ later. star-more is c ts later) h) where
  cases : Matches (star ∷ is) (c ∷ ts) → Matches is (c ∷ ts) ⊎ Matches (star ∷ is) ts
  cases ([], rest, e, m) = inl (rw e m)
  cases (a ∷ front, rest, e, m) = inr (front, rest, (let tail : ts ≡ front ++ rest = cc in tail), m)

-- what is left of a search: the items at the text, or those behind the last `*` further on
pub record IsLeft (whole : Type 0) (is : List Item) (ts : List ℕ) (after : List Item) (from : List ℕ) : Type 0 where
  pub same : whole ↔ (Matches is ts ⊎ MatchesLater after from)
  pub later : MatchesLater after from → Matches (star ∷ is) ts

-- an earlier `*` need not take more: the later one can
pub left-star : (whole : Type 0) (is after : List Item) (ts from : List ℕ) → IsLeft whole (star ∷ is) ts after from → IsLeft whole is ts is ts
left-star whole is after ts from left = record {
  same = (
    λ w. (star-splits is ts).0 (⊎_elim (λ m. m) (λ h. star-star is ts (left.later h)) (left.same.0 w)),
    λ h. left.same.1 (inl ((star-splits is ts).1 h)),
  );
  later = λ h. (star-splits is ts).1 (inr h);
}

one : (whole : Type 0) (item c : ℕ) (is after : List Item) (ts from : List ℕ) → Fits item c → IsLeft whole (item_of item ∷ is) (c ∷ ts) after from → IsLeft whole is ts after from
one whole item c is after ts from fits left = record {
  same = grind arith;
  later = λ h. star-one item c is ts fits.0 (left.later h);
}

pub left-one : (whole : Type 0) (is more : List ℕ) (item c : ℕ) (after : List Item) (ts us from : List ℕ) → is ≡ item ∷ more → ts ≡ c ∷ us → Fits item c
    → IsLeft whole (map item_of is) ts after from → IsLeft whole (map item_of more) us after from
left-one whole is more item c after ts us from e u fits left = one whole item c (map item_of more) after us from fits (rw (e, u) at left)

pub left-fails : (whole : Type 0) (is after : List Item) (ts from : List ℕ) (c : ℕ) → ¬ (Matches is ts) → IsLeft whole is ts after (c ∷ from) → IsLeft whole after from after from
left-fails whole is after ts from c none left = record {
  same = (
    λ w. ⊎_elim (λ m. absurd (none m)) (λ h. (star-splits after from).0 h) (left.same.0 w),
    λ h. left.same.1 (inr ((star-splits after from).1 h)),
  );
  later = λ h. (star-splits after from).1 (inr h);
}

-- the same of octets
pub record Search (whole : Type 0) (items left after from : List ℕ) : Type 0 where
  pub is : List ℕ
  pub ts : List ℕ
  pub behind : List ℕ
  pub fs : List ℕ
  pub items_are : IsUtf8Of is items
  pub left_are : IsUtf8Of ts left
  pub after_are : IsUtf8Of behind after
  pub from_are : IsUtf8Of fs from
  pub left_is : IsLeft whole (map item_of is) ts (map item_of behind) fs

pub search-star : (whole : Type 0) (items left after from : List ℕ) (rest : Bor (List ℕ))
    → ((ps ts : List ℕ) → IsUtf8Of ps items → IsUtf8Of ts left → Takes (Star rest) ps ts) → Search whole items left after from → Search whole rest.now left rest.now left
search-star whole items left after from rest takes s =
    let t = takes s.is s.ts s.items_are s.left_are in record {
      is = t.0;
      ts = s.ts;
      behind = t.0;
      fs = s.ts;
      items_are = t.1;
      left_are = s.left_are;
      after_are = t.1;
      from_are = s.left_are;
      left_is = left-star whole (map item_of t.0) (map item_of s.behind) s.ts s.fs (rw t.2 at s.left_is);
    }

pub search-one : (whole : Type 0) (items left after from : List ℕ) (rest others : Bor (List ℕ))
    → ((ps ts : List ℕ) → IsUtf8Of ps items → IsUtf8Of ts left → Takes (One rest others) ps ts) → Search whole items left after from → Search whole rest.now others.now after from
search-one whole items left after from rest others takes s =
    let t = takes s.is s.ts s.items_are s.left_are in search (arith, left-one)

pub search-fails : (whole : Type 0) (items left after from others : List ℕ) (c : ℕ) → IsScalar c → from ≡ encode_utf8 c ++ others
    → ((ps ts : List ℕ) → IsUtf8Of ps items → IsUtf8Of ts left → Takes Fails ps ts) → Search whole items left after from → Search whole after others after others
search-fails whole items left after from others c is e takes s =
    let none = takes s.is s.ts s.items_are s.left_are in
    let d = utf8-cons s.fs from others c is e s.from_are in record {
      is = s.behind;
      ts = d.0;
      behind = s.behind;
      fs = d.0;
      items_are = s.after_are;
      left_are = d.2;
      after_are = s.after_are;
      from_are = d.2;
      left_is = left-fails whole (map item_of s.is) (map item_of s.behind) s.ts d.0 c none (rw d.1 at s.left_is);
    }
