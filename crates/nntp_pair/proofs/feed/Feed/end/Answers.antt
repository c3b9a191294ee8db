use Rattle.std.{proofs.Common.{arith, ◌≢◌, ◌∙◌, [], MatchOption, refl, sym, ap, subst}, specs.Prelude.{⊤}}
use Rattle.nntp_wire.specs.{Inner.Search.{IsFrameThrough}, Session.{taken}}
use Rattle.nntp_pair.specs.{Pairing.{Awaits, IsBad, HasNext, Place}, Inner.{Feeding.{IsEnding, EndsForGood, left_of}, Searching.{left_from, IsForNext}}}
use Rattle.nntp_pair.{specs.declared.class.PairClass.{PairClass}, proofs.{FeedLemmas.{is-empty, not-empty, cut-left, surplus-left}, PairLemmas.{lines-count}}}
use Rattle.nntp_pair.proofs.feed.Feed.end.Goals.{in-Some, in-None}
use Rattle.nntp_pair.specs.declared.ending.Ending.TheVariants as ending
use Rattle.nntp_pair.proofs.feed.Feed.end.Goals as goal

pub returns-then-is_empty : goal.returns-then-is_empty
returns-then-is_empty g c = grind (arith, is-empty, lines-count)

pub returns : goal.returns
returns g c =
    let left = left_from c.self.inside.index c.self.inside.is_closed (taken c.self.inside.overviews c.self.inside.client) c.self.inside.server in
    let sound = ap (λ fed. fed.has_failed) c.self.view_is ∙ c.requires.0 in
    let no_next = subst (λ fed. ¬ (HasNext (left_of fed))) (sym c.self.view_is) c.requires.1 in
    let no_good = subst (λ fed. (class : PairClass) → ¬ (EndsForGood class (left_of fed))) (sym c.self.view_is) c.requires.2 in
    let some = subst (λ t. t ≢ []) c.as_slice.ensures (not-empty c.as_slice.result.now (sym c.is_empty.ensures ∙ c.if-is_empty.false)) in
    elim c.match-self.branch [
      | in-Some w ↦ (
          let is = subst (λ f. MatchOption f ⊤ (IsForNext left)) w.in-Some.is c.self.invariant.searched.frame in
          let bad = subst (λ class. IsBad class left) (sym w.class-is) (is.place, is.awaits, cut-left left is.place is.awaits no_next no_good) in
          subst (λ fed. IsEnding fed (ending.Bad c.self.inside.index c.match-self.class)) c.self.view_is (sound, refl, (some, bad)))
      | in-None w ↦ (
          let none = subst (λ f. MatchOption f ((place : Place) → ¬ (Awaits left place)) (IsFrameThrough left.server)) w.in-None.is c.self.invariant.through.frame in
          let bad = subst (λ class. IsBad class left) (sym w.class-is) (surplus-left left none) in
          subst (λ fed. IsEnding fed (ending.Bad c.self.inside.index c.match-self.class)) c.self.view_is (sound, refl, (some, bad)))
    ]
