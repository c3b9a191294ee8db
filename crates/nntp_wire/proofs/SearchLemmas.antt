-- How far a search has come stays true when more octets follow, and how it goes on.
use Rattle.std.proofs.Common.{◌≡◌, ℕ, ◌+◌, ◌-◌, ◌<◌, ◌≤◌, List, [], ◌++◌, length, drop, ◌∙◌, subst, arith, append_assoc, length-append, length-drop, get_or, ap}
use Rattle.std.{proofs.{Common.{◌⊎◌, inl, inr}, lemmas.{List.{get_or_append_left, get_or-drop}, Bool.{cases_lt}}}, specs.Prelude.{◌==◌}}
use Rattle.memchr.specs.Find.{OccursAt, NoneBefore, Nowhere, Passes, is_byte}
use Rattle.nntp_wire.specs.{Octets.{crlf}, Inner.{Block.{end_of_block}, Search.{IsPassed, IsSearched, IsLineSearched, IsFrameSearched}}}
use Rattle.nntp_wire.specs.declared.{search.Search.{Search, TheVariants.{Passed, Found}}, stream.LineSearch.{LineSearch}, framing.FrameSearch.{FrameSearch}}

-- a needle stands in a stream also when more follows
pub occurs-more : (s more p : List ℕ) (k : ℕ) → OccursAt s p k → OccursAt (s ++ more) p k
occurs-more s more p k at = grind (arith, length-append, get_or_append_left)

-- a needle that stands in a stream's front stands there without what follows
pub occurs-front : (s more p : List ℕ) (k : ℕ) → k + length p ≤ length s → OccursAt (s ++ more) p k → OccursAt s p k
occurs-front s more p k fits at = grind (arith, get_or_append_left)

-- a needle behind the first n octets
occurs-ahead : (s p : List ℕ) (n k : ℕ) → n ≤ k → OccursAt s p k → OccursAt (drop n s) p (k - n)
occurs-ahead s p n k low at = grind (arith, length-drop, get_or-drop)

occurs-back : (s p : List ℕ) (n k : ℕ) → n ≤ length s → OccursAt (drop n s) p k → OccursAt s p (n + k)
occurs-back s p n k low at = grind (arith, length-drop, get_or-drop)

-- where more octets follow, as many are passed
passed-more : (p s more : List ℕ) (n : ℕ) → IsPassed p s n → IsPassed p (s ++ more) n
passed-more p s more n passed = record {
  within = let within = passed.within in omega (arith, length-append s more);
  nowhere = λ later k low at. passed.nowhere (more ++ later) k low (subst (λ t. OccursAt t p k) (append_assoc s more later) at);
}

pub searched-more : (p s more : List ℕ) (search : Search) → IsSearched p s search → IsSearched p (s ++ more) search
searched-more p s more (Passed n) passed = passed-more p s more n passed
searched-more p s more (Found n) (passed, at) = (passed-more p s more n passed, occurs-more s more p n at)

pub line_searched-more : (s more : List ℕ) (search : LineSearch) → IsLineSearched s search → IsLineSearched (s ++ more) search
line_searched-more s more search searched = searched-more crlf s more search.end searched

pub frame_searched-more : (s more : List ℕ) (search : FrameSearch) → IsFrameSearched s search → IsFrameSearched (s ++ more) search
frame_searched-more s more search searched = record { line = line_searched-more s more search.line searched.line; block = searched-more end_of_block s more search.block_end searched.block }

-- in the stream itself a needle begins at none of the octets that are passed
pub passed-here : (p s : List ℕ) (n k : ℕ) → IsPassed p s n → k < n → ¬ (OccursAt s p k)
passed-here p s n k passed low at = passed.nowhere [] k low (occurs-more s [] p k at)

-- it begins at none of the first m octets, if it fits behind each of these and begins at none of them
passed-fits : (p s : List ℕ) (m : ℕ) → m ≤ length s → ((k : ℕ) → k < m → k + length p ≤ length s) → ((k : ℕ) → k < m → ¬ (OccursAt s p k)) → IsPassed p s m
passed-fits p s m within fits none = record { within = within; nowhere = λ more k low at. none k low (occurs-front s more p k (fits k low) at) }

-- the needle is found behind what is passed
pub found-ahead : (p s : List ℕ) (n e : ℕ) → IsPassed p s n → NoneBefore (OccursAt (drop n s) p) 0 (length (drop n s) + 1) e × OccursAt (drop n s) p e
    → IsPassed p s (n + e) × OccursAt s p (n + e)
found-ahead p s n e passed (none, at) =
    let within = passed.within in
    let here : OccursAt s p (n + e) = occurs-back s p n e within at in
    let fits = here.fits in (
      passed-fits p s (n + e) (omega arith) (λ k low. omega arith) (λ k low. before k low (cases_lt k n)),
      here,
    ) where
      before : (k : ℕ) → k < n + e → (k < n) ⊎ (n ≤ k) → ¬ (OccursAt s p k)
      before k low (inl less) at = passed-here p s n k passed less at
      before k low (inr more) at = none.before (k - n) (omega arith) (omega arith) (occurs-ahead s p n k more at)

-- it is found nowhere
pub nowhere-ahead : (p s : List ℕ) (n k : ℕ) → IsPassed p s n → Nowhere (OccursAt (drop n s) p) 0 (length (drop n s) + 1) → ¬ (OccursAt s p k)
nowhere-ahead p s n k passed none at = by (cases_lt k n) where
  by : (k < n) ⊎ (n ≤ k) → ⊥
  by (inl less) = passed-here p s n k passed less at
  by (inr more) = none (k - n) (omega arith) (let fits = at.fits in omega (arith, length-drop n s)) (occurs-ahead s p n k more at)

-- so all octets are passed but the last ones, among which it may begin
pub all-passed : (p s : List ℕ) (m : ℕ) → 0 < length p → m ≡ (length s + 1) - length p → ((k : ℕ) → ¬ (OccursAt s p k)) → IsPassed p s m
all-passed p s m some is none = passed-fits p s m (omega arith) (λ k low. omega arith) (λ k low. none k)

-- ---- dots one by one

-- CRLF, a dot and CRLF begin at none of so many octets and the two before them
abbrev pub NoEndBefore : List ℕ → ℕ → Type 0
NoEndBefore s seen = (k : ℕ) → k + 2 < seen → ¬ (OccursAt s end_of_block k)

-- a dot stands inside
pub dot-inside : (s : List ℕ) (k : ℕ) → OccursAt s end_of_block k → (k + 2 < length s) × (get_or s (k + 2) 0 ≡ 46)
dot-inside s k at = (let fits = at.fits in omega arith, at.reads 2 (omega arith))

-- where no dot comes up to the next, the end of a block doesn't either
pub no-end-before : (s : List ℕ) (seen e : ℕ) → NoEndBefore s seen → Nowhere (Passes (is_byte 46) (drop seen s)) 0 e → NoEndBefore s (seen + e)
no-end-before s seen e none dots k low at = by (cases_lt (k + 2) seen) where
  by : (k + 2 < seen) ⊎ (seen ≤ k + 2) → ⊥
  by (inl less) = none k less at
  by (inr more) = dots ((k + 2) - seen) (omega arith) (omega arith)
      (ap (λ b. b == 46) (get_or-drop seen s ((k + 2) - seen) 0 ∙ ap (λ i. get_or s i 0) (let same : seen + ((k + 2) - seen) ≡ k + 2 = omega arith in same) ∙ (dot-inside s k at).1))

-- behind a dot that ends no block
pub no-end-at : (s : List ℕ) (dot : ℕ) → NoEndBefore s dot → ((k : ℕ) → k + 2 ≡ dot → ¬ (OccursAt s end_of_block k)) → NoEndBefore s (dot + 1)
no-end-at s dot none apart k low at = by (cases_lt (k + 2) dot) where
  by : (k + 2 < dot) ⊎ (dot ≤ k + 2) → ⊥
  by (inl less) = none k less at
  by (inr more) = apart k (omega arith) at

-- no dot is left
pub no-end-left : (s : List ℕ) (seen : ℕ) → seen ≤ length s → NoEndBefore s seen → Nowhere (Passes (is_byte 46) (drop seen s)) 0 (length (drop seen s))
    → Nowhere (OccursAt s end_of_block) 0 (length s + 1)
no-end-left s seen within none dots k low high at =
    no-end-before s seen (length (drop seen s)) none dots k (let inside = (dot-inside s k at).0 in omega (arith, length-drop seen s)) at

-- a dot that ends the block is the first that does
pub first-end : (s : List ℕ) (dot : ℕ) → NoEndBefore s dot → 2 ≤ dot → OccursAt s end_of_block (dot - 2)
    → NoneBefore (OccursAt s end_of_block) 0 (length s + 1) (dot - 2) × OccursAt s end_of_block (dot - 2)
first-end s dot none long at = (
  record { low = omega arith; high = let fits = at.fits in omega arith; before = λ k low high. none k (omega arith) },
  at,
)
