-- Which answer gave a group its low mark.
use Rattle.std.proofs.Common.{◌≡◌, ◌⊎◌, inl, arith, ℕ, suc, ◌<◌, ◌==◌, Bool, true, List, [], ◌∷◌, Option, None, Some, MatchOption, length}
use Rattle.std.{proofs.lemmas.Bool.Decides.{nat_tests}, specs.{Prelude.{◌&&◌, if◌then◌else◌}, Option.{option_map}, FinMap.{FinMap, get, insert, get-insert}}}
use Rattle.std.specs.{FinMap.{get-empty}, Ordering.{nat_cmp}, Cmp.Lexicographic.{slice_cmp, nat_list_cmp_total}}
use Rattle.nntp_wire.specs.{Answer.{Asked, Response}, declared.water_marks.WaterMarks.{WaterMarks}}
use Rattle.nntp_article.specs.{Session.{Spool.{Name}, Machine.{Visible, visible_after, is_same, start}}, Inner.Misfit.{IsAbove}}
use Rattle.nntp_pair.specs.Pairing.{Paired, asked_at, asked_of, responses_of}
use Rattle.nntp_theory.specs.Classes.{visible_from}
use Rattle.nntp_facts.specs.{declared.standing.Standing.{Standing}, Standing.{nowhere, standing_after}}
use Rattle.nntp_kept_articles.proofs.TextKeys.{flip_text}
use Rattle.nntp_explain.specs.{Reasons.{gives_low, low_giver}, Standing.{cited, cited_from}}

-- a place is found among so many
abbrev pub IsFoundAmong : ℕ → Option ℕ → Type 0
IsFoundAmong n place = MatchOption place ⊥ (λ k. k < n)

-- it is found at the first, or behind it
found_next : (b : Bool) (place : Option ℕ) (n : ℕ) → (b ≡ true) ⊎ IsFoundAmong n place → IsFoundAmong (suc n) (if b then Some 0 else option_map suc place)
found_next b place n found = grind arith

-- a low mark that is kept was kept before, or is the one that is put there
kept_low : (lows : FinMap (slice_cmp nat_cmp) ℕ) (g name : Name) (here low : ℕ) → get (insert lows g here) name ≡ Some low
    → (get lows name ≡ Some low) ⊎ ((is_same g name && here == low) ≡ true)
kept_low lows g name here low e = grind (arith, get-insert nat_list_cmp_total lows g here name, flip_text name g, nat_tests)

-- an answer leaves the low marks that were there, but for the one that it gives
given_by : (v : Visible) (asked : Asked) (response : Response) (name : Name) (low : ℕ) → get (visible_after v asked response).lows name ≡ Some low
    → (get v.lows name ≡ Some low) ⊎ (gives_low name low response ≡ true)
given_by v asked response name low e = grind (arith, kept_low)

-- so a low mark was there before the answers, or one of them gives it
giver_from : (session : ℕ) (s : Standing) (v : Visible) (pairs : List Paired) (name : Name) (low : ℕ)
    → get (visible_from v (asked_of pairs) (responses_of pairs)).lows name ≡ Some low
    → (get v.lows name ≡ Some low) ⊎ IsFoundAmong (length (cited_from session s pairs)) (low_giver name low (cited_from session s pairs))
giver_from session s v [] name low e = inl e
giver_from session s v (pair ∷ pairs) name low e =
    let next = visible_after v (asked_at pair.place) pair.response in
    grind (arith, given_by v (asked_at pair.place) pair.response name low, found_next, giver_from session (standing_after s pair) next pairs name low e)

-- at the start there is none; so the marks of an answer that are below an earlier low mark have a giver
pub giver_of_marks : (session : ℕ) (past : List Paired) (low : ℕ) (marked : Option (Name × WaterMarks))
    → MatchOption marked ⊥ (IsAbove (visible_from start.visible (asked_of past) (responses_of past)) low)
    → MatchOption marked ⊥ (λ m. IsFoundAmong (length (cited session past)) (low_giver m.0 low (cited session past)))
giver_of_marks session past low (Some marked) above = grind (arith, giver_from session nowhere start.visible past marked.0 low above.0, get-empty {X = ℕ} (slice_cmp nat_cmp) marked.0)
giver_of_marks session past low None above = above
