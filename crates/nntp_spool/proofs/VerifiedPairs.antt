-- A session, exchange by exchange.
use Rattle.std.proofs.Common.{arith, ◌≡◌, ℕ, ◌+◌, List, [], ◌∷◌, ◌++◌, length, refl, sym, ap, subst, ◌∙◌, length-append, Result, IfOk}
use Rattle.nntp_pair.specs.{Pairing.{Paired, Unpaired, IsNext, AreNext, Ends, bad, asked_at, streams}, declared.class.PairClass.{PairClass}}
use Rattle.nntp_pair.proofs.PairingLemmas.{AreNext-push, index-counts}
use Rattle.nntp_article.specs.Session.{Spool.{Spool, IsSpool}, Explains.{Explains}, Machine.{State, Visible, start, MayAnswer, after, visible_after}}
use Rattle.nntp_article.specs.declared.session.profile.Profile.{Profile}
use Rattle.nntp_said.specs.{Asks.{position_after}, Inner.Asks.{state_at}, declared.position.Position.{Position, TheVariants.{Nowhere}}}
use Rattle.nntp_said.proofs.CurrentArticle.{after-state_at}
use Rattle.nntp_spool.specs.{declared.verification.verified.Verified.{Verified}, Verifying.{IsVerified}, Inner.Sessions.{state_after, MayAnswerAll}}
use Rattle.nntp_spool.{specs.Sessions.{RefusesAt}, proofs.PermittedPairs.{state-more, may-append, permitted-explained, unpermitted-refused, bad-refused}}
use Rattle.nntp_wire.specs.Session.{ClientStream}

-- a spool and a profile that are the same leave what is verified as it is
pub verified_by_same : {E : Type 0} (profile other : Profile) (S T : Spool) (client : ClientStream) (server : List ℕ) (r : Result Verified E) → profile ≡ other
    → S ≡ T → IfOk r (λ verified. IsVerified profile S client server verified) → IfOk r (λ verified. IsVerified other T client server verified)
verified_by_same profile other S T client server r same equal is = grind arith

-- so far the exchanges are permitted
pub record Permitted (profile : Profile) (S : Spool) (client : ClientStream) (server : List ℕ) (left : Unpaired) (s : State) (count : ℕ) : Type 0 where
  pub pairs : List Paired
  pub next : AreNext (streams client server) pairs left
  pub may : MayAnswerAll profile S start pairs
  pub state : s ≡ state_after S start pairs
  pub counted : count ≡ length pairs

-- no exchange yet
pub none_permitted : (profile : Profile) (S : Spool) (client : ClientStream) (server : List ℕ) (v : Visible) → v ≡ start.visible
    → Permitted profile S client server (streams client server) (state_at S v Nowhere) 0
none_permitted profile S client server v e = record { pairs = []; next = refl; may = tt; state = ap (λ w. state_at S w Nowhere) e; counted = refl }

-- one more, where the current article is read off the session
pub one_more_answer : (profile : Profile) (S : Spool) (client : ClientStream) (server : List ℕ) (left behind : Unpaired) (v w : Visible) (at moved : Position) (count : ℕ)
    (x : Paired) → Permitted profile S client server left (state_at S v at) count → IsNext left x behind
    → MayAnswer profile S (state_at S v at) (asked_at x.place) x.response → w ≡ visible_after v (asked_at x.place) x.response
    → moved ≡ position_after at (asked_at x.place) x.response → Permitted profile S client server behind (state_at S w moved) (x.index + 1)
one_more_answer profile S client server left behind v w at moved count x p is may shown stands = record {
  pairs = p.pairs ++ x ∷ [];
  next = AreNext-push p.pairs (streams client server) left behind x p.next is;
  may = (may-append profile S start p.pairs (x ∷ [])).1 (p.may, (subst (λ (t : State). MayAnswer profile S t (asked_at x.place) x.response) p.state may, tt));
  state = (λ i. state_at S (shown i) (stands i)) ∙ sym (after-state_at profile.marks S v at (asked_at x.place) x.response may.agrees)
      ∙ ap (λ (t : State). after S t (asked_at x.place) x.response) p.state ∙ sym (state-more S start p.pairs x);
  counted = ap (λ n. n + 1) (is.index ∙ index-counts client server p.pairs left p.next) ∙ sym (length-append p.pairs (x ∷ []));
}

module _ (profile : Profile) (S : Spool) (is : IsSpool profile.limit S) (client : ClientStream) (server : List ℕ) (left : Unpaired) (s : State) (count : ℕ)
    (p : Permitted profile S client server left s count) where
  pub not_permitted : (behind : Unpaired) (x : Paired) → IsNext left x behind → (MayAnswer profile S s (asked_at x.place) x.response → ⊥) → RefusesAt profile S client server count
  not_permitted behind x is_next never =
      rw p.counted (unpermitted-refused profile S is client server p.pairs left behind x p.next p.may is_next (λ may. never (rw p.state may)))

  pub answers_nothing : (class : PairClass) → Ends left (bad class) → RefusesAt profile S client server count
  answers_nothing class ends = rw p.counted (bad-refused profile S is client server p.pairs left class p.next p.may ends)

  pub all_permitted : left.server ≡ [] → Explains profile S client server count
  all_permitted none = grind (arith, permitted-explained)
