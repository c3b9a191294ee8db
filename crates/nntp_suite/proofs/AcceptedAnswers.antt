-- The accepted answers of a session, each where it stands, up to one that contradicts them.
use Rattle.std.{proofs.{Common.{◌≡◌, ◌∙◌, sym, subst, refl, ap, ℕ, List, [], ◌∷◌, ◌++◌, length, map}, lemmas.List.{map-append}}, specs.List.{AllByRecursion}}
use Rattle.nntp_wire.specs.Session.{ClientStream}
use Rattle.nntp_article.specs.declared.session.profile.Profile.{Profile}
use Rattle.nntp_pair.{specs.Pairing.{Paired, Unpaired, IsNext, AreNext, streams}, proofs.PairingLemmas.{AreNext-push}}
use Rattle.nntp_theory.specs.{Conflict.{Placed, placed_of, placed_behind, SomeHas, told_with, below}, Inner.Conflict.{FitsThere}, declared.noted.Noted.{Noted}}
use Rattle.nntp_theory.specs.declared.noted.Noted.TheVariants.{Consistent, Contradiction}
use Rattle.nntp_facts.specs.{Inner.Noted.{FactsKept, HasNotedBehind, IsDue, IsNotedBehind}, declared.standing.Standing.{Standing}}
use Rattle.nntp_facts.specs.{declared.placed.Placed.{Placed as Stands}, Standing.{nowhere, standing, standing_after, stands_of}}
use Rattle.nntp_facts.proofs.Reading.{NotedContradictions.{placed_next}, Standings.{standing_push, stands_behind}}
use Rattle.nntp_several.proofs.ConflictsOfSessions.{accepted_fit_behind, noted_conflicts_behind}
use Rattle.nntp_verdict.proofs.JudgeLemmas.{is-due}

-- exchanges have passed that were accepted and placed, behind which the session stands there; and then this is left
pub record AreAccepted (profile : Profile) (client : ClientStream) (server : List ℕ) (facts : FactsKept) (answers : List Stands) (stands : Standing) (left : Unpaired) : Type 0 where
  pub pairs : List Paired
  pub next : AreNext (streams client server) pairs left
  pub noted : HasNotedBehind profile facts [] pairs
  pub answers_are : map stands_of answers ≡ placed_of pairs
  pub stands_there : stands ≡ standing pairs

-- an exchange of the session, which stands there before it
abbrev pub stands_at : Standing → Paired → Stands
stands_at stands pair = record { session = 1; standing = stands; exchange = pair }

-- at the start
pub none_accepted : (profile : Profile) (client : ClientStream) (server : List ℕ) (facts : FactsKept) → HasNotedBehind profile facts [] []
    → AreAccepted profile client server facts [] nowhere (streams client server)
none_accepted profile client server facts noted = record { pairs = []; next = refl; noted = noted; answers_are = refl; stands_there = refl }

module _ (profile : Profile) (client : ClientStream) (server : List ℕ) (old : FactsKept) (answers : List Stands) (stands : Standing) (left behind : Unpaired) (pair : Paired)
    (a : AreAccepted profile client server old answers stands left) (next : IsNext left pair behind) where
  -- the next exchange is due
  pub next_due : IsDue old pair
  next_due =
      is-due profile [] (record { client = client; server = server }) old [] left behind pair
      (record { passed = record { earlier = []; ended = tt; pairs = a.pairs; next = a.next; stands = a.noted }; answers_are = refl }) next

  -- it stands behind those
  there : (before : Standing) → before ≡ stands → stands_of (stands_at before pair) ≡ placed_behind a.pairs pair
  there before is = stands_behind (stands_at before pair) a.pairs (is ∙ a.stands_there)

  -- it is accepted
  pub one_more : (new : FactsKept) (noted : Noted) (items : List Stands) (placed : Stands) (before after : Standing) → noted ≡ Consistent
      → ((earlier : List (List Paired)) (past : List Paired) → HasNotedBehind profile old earlier past → IsNotedBehind profile earlier past pair old new noted)
      → items ≡ answers ++ placed ∷ [] → placed ≡ stands_at before pair → before ≡ stands → after ≡ standing_after stands pair
      → AreAccepted profile client server new items after behind
  one_more new noted items placed before after is notes items-are placed-is before-is after-is =
      let good = subst (IsNotedBehind profile [] a.pairs pair old new) is (notes [] a.pairs a.noted) in
      let one = ap stands_of placed-is ∙ there before before-is in
      record {
        pairs = a.pairs ++ pair ∷ [];
        next = AreNext-push a.pairs (streams client server) left behind pair a.next next;
        noted = good.1;
        answers_are = ap (map stands_of) items-are ∙ map-append stands_of answers (placed ∷ [])
            ∙ ap (λ (q : List Placed × Placed). q.0 ++ q.1 ∷ []) (λ i. (a.answers_are i, one i)) ∙ sym (placed_next a.pairs pair);
        stands_there = after-is ∙ ap (λ s. standing_after s pair) a.stands_there ∙ sym (standing_push nowhere a.pairs pair);
      }

  -- it contradicts them
  pub one_bad : (new : FactsKept) (noted : Noted) (bad : Stands) → noted ≡ Contradiction
      → ((earlier : List (List Paired)) (past : List Paired) → HasNotedBehind profile old earlier past → IsNotedBehind profile earlier past pair old new noted)
      → bad ≡ stands_at stands pair
      → AllByRecursion (FitsThere profile) (stands_of bad ∷ map stands_of answers)
      × (SomeHas profile (told_with profile (stands_of bad) (map stands_of answers) (below (length (map stands_of answers)))) → ⊥)
  one_bad new noted bad is notes bad-is =
      let none = subst (IsNotedBehind profile [] a.pairs pair old new) is (notes [] a.pairs a.noted) in
      let found = noted_conflicts_behind profile old [] a.pairs pair a.noted next_due (none.0, none.1, refl) in
      subst (λ (q : Placed × List Placed). AllByRecursion (FitsThere profile) (q.0 ∷ q.1) × (SomeHas profile (told_with profile q.0 q.1 (below (length q.1))) → ⊥))
      (λ i. (sym (ap stands_of bad-is ∙ there stands refl) i, sym a.answers_are i))
      ((found.0, accepted_fit_behind profile old [] a.pairs a.noted), found.1)
