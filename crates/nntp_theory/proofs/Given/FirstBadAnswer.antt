-- Some spool permits a session, or exactly one answer is the first that none does.
use Rattle.nntp_wire.specs.{declared.marks.Marks.{Marks}, Answer.{Asked, Response}}
use Rattle.std.proofs.{Common.{◌≡◌, ℕ, zero, suc, ◌+◌, ◌<◌, ◌≤◌, ◌^◌, ◌⊎◌, List, [], ◌∷◌, ◌++◌, length, take, inl, sym, subst, arith}, Math.Seq.{take-length}}
use Rattle.std.{proofs.lemmas.Bool.{true≢false}, specs.FinMap.{empty, get-empty}}
use Rattle.nntp_article.specs.{Session.{Spool.{Spool}, Machine.{State, Visible, Run, start, visible_after}}, declared.session.profile.Profile.{Profile}}
use Rattle.nntp_said.specs.{Asks.{position_after}, declared.position.Position.{Position, TheVariants.{Nowhere}}, Facts.{Fact, facts_from}}
use Rattle.nntp_theory.specs.{Given.{facts_of_session}, Inner.{Given.{size}, Permits.{SomePermits, IsFirstUnpermitted}}}
use Rattle.nntp_theory.proofs.Given.SessionsByFacts.{some_or_none}

-- ---- fewer answers

-- a run with fewer answers
pub run_fewer : (profile : Profile) (S : Spool) (s : State) (ps : List Asked) (answers : List Response) (n m : ℕ) → n ≤ m → Run profile S s ps (take m answers) → Run profile S s ps (take n answers)
run_fewer profile S s ps answers (suc n) zero le r = absurd (omega arith)
run_fewer profile S s (p ∷ ps) (a ∷ more) (suc n) (suc m) le r = (r.0, r.1, run_fewer profile S r.0 ps more n m (omega arith) r.2)
run_fewer profile S s ps answers n m le r = grind arith

-- a spool that permits a session permits its front
pub fewer_permitted : (profile : Profile) (ps : List Asked) (answers : List Response) (n m : ℕ) → n ≤ m → SomePermits profile ps (take m answers) → SomePermits profile ps (take n answers)
fewer_permitted profile ps answers n m le h = (h.0, h.1, run_fewer profile h.0 start ps answers n m le h.2)

-- the size of two lists
pub size-append : (xs ys : List Fact) → size (xs ++ ys) ≡ size xs + size ys
size-append [] ys = omega arith
size-append (x ∷ xs) ys = omega (arith, size-append xs ys)

-- fewer answers say less
size_fewer : (how : Marks) (v : Visible) (at : Position) (ps : List Asked) (answers : List Response) (n : ℕ) → size (facts_from how v at ps (take n answers)) ≤ size (facts_from how v at ps answers)
size_fewer how v at (p ∷ ps) answers zero = omega arith
size_fewer how v at (p ∷ ps) (a ∷ more) (suc n) = grind (arith, size-append, size_fewer how (visible_after v p a) (position_after at p a) ps more n)
size_fewer how v at ps answers n = grind arith

-- ---- no answers

-- no groups and no articles
abbrev no_spool : Spool
no_spool = record { groups = empty; articles = empty }

-- some spool permits no answers
pub none_permitted : (profile : Profile) (ps : List Asked) (answers : List Response) → SomePermits profile ps (take 0 answers)
none_permitted profile ps answers = (no_spool, grind (arith, true≢false, get-empty), tt)

-- ---- the first bad answer

-- Q holds of k, which is below m, and not of the next
abbrev pub EndsAt : (ℕ → Type 0) → ℕ → ℕ → Type 0
EndsAt Q m k = (k < m) × Q k × (Q (k + 1) → ⊥)

-- what holds of 0 holds of m, or ends below
pub holds_or_ends : (Q : ℕ → Type 0) (m : ℕ) → Q 0 → ((n : ℕ) → n ≤ m → Q n ⊎ (Q n → ⊥)) → Q m ⊎ ((k : ℕ) × EndsAt Q m k)
holds_or_ends Q zero base decided = inl base
holds_or_ends Q (suc m) base decided = grind (arith, holds_or_ends Q m base (λ n le. decided n (omega arith)), decided (suc m) (omega arith))

-- some spool permits the session, or an answer is bad
pub permitted_or_bad : (profile : Profile) (ps : List Asked) (answers : List Response) → size (facts_of_session profile.marks ps answers) < 2 ^ 210 → SomePermits profile ps answers
    ⊎ ((k : ℕ) × IsFirstUnpermitted profile ps answers k)
permitted_or_bad profile ps answers small = subst
    (λ all. SomePermits profile ps all ⊎ ((k : ℕ) × IsFirstUnpermitted profile ps answers k)) (take-length answers)
    (holds_or_ends (λ n. SomePermits profile ps (take n answers)) (length answers) (none_permitted profile ps answers) (λ n le.
    some_or_none profile ps (take n answers) (omega (arith, size_fewer profile.marks start.visible Nowhere ps answers n))))

-- and never both
pub never_both : (profile : Profile) (ps : List Asked) (answers : List Response) (k : ℕ) → SomePermits profile ps answers → IsFirstUnpermitted profile ps answers k → ⊥
never_both profile ps answers k h bad = bad.2 (fewer_permitted profile ps answers (k + 1) (length answers) (omega arith) (subst (λ all. SomePermits profile ps all) (sym (take-length answers)) h))

-- one answer is bad at most
pub one_bad : (profile : Profile) (ps : List Asked) (answers : List Response) (k j : ℕ) → IsFirstUnpermitted profile ps answers k → IsFirstUnpermitted profile ps answers j → k ≡ j
one_bad profile ps answers k j bad other = grind (arith, fewer_permitted profile ps answers (k + 1) j, fewer_permitted profile ps answers (j + 1) k)
