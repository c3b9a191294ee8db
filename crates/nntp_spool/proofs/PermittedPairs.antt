-- What a spool permits of a pairing is what it explains of the streams.
use Rattle.std.proofs.{Common.{◌≡◌, ◌↔◌, ℕ, ◌+◌, List, [], ◌∷◌, ◌++◌, length, map, refl, sym, ap, subst, ◌∙◌, arith, length-append}, lemmas.List.{length-map}}
use Rattle.std.specs.Prelude.{count_by}
use Rattle.nntp_wire.specs.Session.{prompts_of, ClientStream}
use Rattle.nntp_pair.specs.{declared.class.PairClass.{PairClass}, Pairing.{Paired, Unpaired, IsNext, AreNext, Ends, end, bad, responses_of, asked_at, has_line}}
use Rattle.nntp_pair.{specs.Pairing.{streams}, proofs.{NextLemmas.{one-next, next-no-end}, PairingLemmas.{AreNext-push, first-pairs}}}
use Rattle.nntp_pair.proofs.SpelledLemmas.{places-prompts, pairs-spelled, spelled-pairs}
use Rattle.nntp_article.specs.Session.{Spool.{Spool, IsSpool}, Machine.{State, start, MayAnswer, Run, after}, Explains.{Explains, ExplainsUpTo}}
use Rattle.nntp_article.{specs.declared.session.profile.Profile.{Profile}, proofs.SessionLemmas.ClosingAnswers.{run-stays-open}}
use Rattle.nntp_spool.specs.{Inner.Sessions.{state_after, MayAnswerAll}, Sessions.{RefusesAt}}

-- as many pairs are the same
same-pairs : (pairs others : List Paired) (a b c : Unpaired) → AreNext a pairs b → AreNext a others c → length pairs ≡ length others → pairs ≡ others
same-pairs [] [] a b c n m e = refl
same-pairs [] (y ∷ others) a b c n m e = absurd (omega arith)
same-pairs (x ∷ pairs) [] a b c n m e = absurd (omega arith)
same-pairs (x ∷ pairs) (y ∷ others) a b c (d, n, more) (f, m, rest) e = grind (arith, one-next a d f x y n m, same-pairs pairs others d b c more)

-- ---- runs

pairs-run : (profile : Profile) (S : Spool) (s : State) (pairs : List Paired) (a b : Unpaired) → AreNext a pairs b
    → MayAnswerAll profile S s pairs → Run profile S s (map asked_at a.places) (responses_of pairs)
pairs-run profile S s [] a b n may = tt
pairs-run profile S s (x ∷ pairs) a b (d, n, more) may =
    let rest = pairs-run profile S (after S s (asked_at x.place) x.response) pairs d b more may.1 in
    subst (λ places. Run profile S s (map asked_at places) (x.response ∷ responses_of pairs)) (sym n.place) (after S s (asked_at x.place) x.response, record { may = may.0; leads = refl }, rest)

run-pairs : (profile : Profile) (S : Spool) (s : State) (pairs : List Paired) (a b : Unpaired) → AreNext a pairs b
    → Run profile S s (map asked_at a.places) (responses_of pairs) → MayAnswerAll profile S s pairs
run-pairs profile S s [] a b n run = tt
run-pairs profile S s (x ∷ pairs) a b (d, n, more) run = grind (arith, run-pairs profile S (after S s (asked_at x.place) x.response) pairs d b more)

-- pairs are permitted one behind the other
pub may-append : (profile : Profile) (S : Spool) (s : State) (pairs more : List Paired)
    → MayAnswerAll profile S s (pairs ++ more) ↔ (MayAnswerAll profile S s pairs × MayAnswerAll profile S (state_after S s pairs) more)
may-append profile S s [] more = (λ may. (tt, may), λ both. both.1)
may-append profile S s (y ∷ pairs) more =
    let rest = may-append profile S (after S s (asked_at y.place) y.response) pairs more in
    (λ may. let both = rest.0 may.1 in ((may.0, both.0), both.1), λ both. (both.0.0, rest.1 (both.0.1, both.1)))

-- one more pair
pub state-more : (S : Spool) (s : State) (pairs : List Paired) (x : Paired) → state_after S s (pairs ++ x ∷ []) ≡ after S (state_after S s pairs) (asked_at x.place) x.response
state-more S s [] x = refl
state-more S s (y ∷ pairs) x = state-more S (after S s (asked_at y.place) y.response) pairs x

-- ---- both

module _ (profile : Profile) (S : Spool) (is : IsSpool profile.limit S) (client : ClientStream) (server : List ℕ) where
  -- pairs that are permitted are explained
  pub permitted-explained : (pairs : List Paired) (left : Unpaired) → AreNext (streams client server) pairs left
      → MayAnswerAll profile S start pairs → ExplainsUpTo profile S client server (length pairs) left.server
  permitted-explained pairs left n may = grind (arith, pairs-spelled, length-map, places-prompts, pairs-run)

  -- and what is explained is permitted of as many pairs
  explained-pairs : (k : ℕ) (rest : List ℕ) → ExplainsUpTo profile S client server k rest
      → (pairs : List Paired) × (left : Unpaired) × AreNext (streams client server) pairs left × MayAnswerAll profile S start pairs × (length pairs ≡ k) × (left.server ≡ rest)
  explained-pairs k rest e =
      let found = spelled-pairs client server e.answers rest (e.octets, e.spelled, e.whole) (run-stays-open profile S start (prompts_of client) e.answers e.run) in
      grind (arith, places-prompts, run-pairs, length-map)

  -- a response that isn't permitted is refused
  pub unpermitted-refused : (pairs : List Paired) (left behind : Unpaired) (x : Paired) → AreNext (streams client server) pairs left → MayAnswerAll profile S start pairs → IsNext left x behind
      → (MayAnswer profile S (state_after S start pairs) (asked_at x.place) x.response → ⊥) → RefusesAt profile S client server (length pairs)
  unpermitted-refused pairs left behind x n may is_next never = (
    (left.server, permitted-explained pairs left n may, λ none. next-no-end (end (count_by has_line left.places)) left behind x is_next (none, refl)),
    λ (rest, e).
        let other = explained-pairs (length pairs + 1) rest e in
        let one_more = AreNext-push pairs (streams client server) left behind x n is_next in
        let same = same-pairs (pairs ++ x ∷ []) other.0 (streams client server) behind other.1 one_more other.2 (length-append pairs (x ∷ []) ∙ sym other.4) in
        never ((may-append profile S start pairs (x ∷ [])).0 (subst (MayAnswerAll profile S start) (sym same) other.3)).1.0,
  )

  -- and so are octets that answer nothing
  pub bad-refused : (pairs : List Paired) (left : Unpaired) (class : PairClass) → AreNext (streams client server) pairs left
      → MayAnswerAll profile S start pairs → Ends left (bad class) → RefusesAt profile S client server (length pairs)
  bad-refused pairs left class n may ends = (
    (left.server, permitted-explained pairs left n may, ends.0),
    λ (rest, e).
        let other = explained-pairs (length pairs + 1) rest e in
        let front = first-pairs pairs other.0 (streams client server) left other.1 (bad class) n ends other.2 in
        omega (arith, other.4, ap length front.1, length-append other.0 front.0),
  )

  -- what is explained isn't refused
  pub explained-unrefused : (n k : ℕ) → Explains profile S client server n → RefusesAt profile S client server k → ⊥
  explained-unrefused n k e ((rest, before, some), never) =
      let all = explained-pairs n [] e in
      let front = explained-pairs k rest before in
      let first = first-pairs all.0 front.0 (streams client server) all.1 front.1 (end (count_by has_line all.1.places)) all.2 (all.5, refl) front.2 in
      none_left first.0 front.0 front.1 all.1 front.2 first.2 (subst (MayAnswerAll profile S start) first.1 all.3) front.4 front.5 all.5
    where
      none_left : (more pairs : List Paired) (b c : Unpaired) → AreNext (streams client server) pairs b → AreNext b more c → MayAnswerAll profile S start (pairs ++ more)
          → length pairs ≡ k → b.server ≡ rest → c.server ≡ [] → ⊥
      none_left [] pairs b c first same may count left none = some (sym left ∙ ap (λ (u : Unpaired). u.server) same ∙ none)
      none_left (y ∷ more) pairs b c first (d, is_next, on) may count left none =
          let both = (may-append profile S start pairs (y ∷ more)).0 may in
          let next = AreNext-push pairs (streams client server) b d y first is_next in
          let explained = permitted-explained (pairs ++ y ∷ []) d next ((may-append profile S start pairs (y ∷ [])).1 (both.0, (both.1.0, tt))) in
          grind (arith, length-append)
