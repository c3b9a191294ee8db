-- Answers that are judged one after the other, whatever decides which exchanges stand: what they take, leave and add to those that were accepted.
use Rattle.std.proofs.Common.{◌≡◌, ◌+◌, ◌<◌, ◌≤◌, false, ℕ, List, [], ◌∷◌, ◌++◌, length, map, refl, sym, ap, subst, ◌∙◌, arith, append_assoc, append-nil}
use Rattle.std.proofs.{Common.{length-append, rules}, lemmas.{List.{map-append}, Grind.{common_steps}}}
use Rattle.nntp_wire.specs.{Answer.{Response}, Frame.{frame_octets}, Session.{ClientStream}}
use Rattle.nntp_article.{specs.Session.Machine.{Visible, start}, proofs.SessionLemmas.ClosingAnswers.{after-closes}}
use Rattle.nntp_pair.specs.{declared.class.PairClass.TheVariants.{Malformed as PairMalformed}, Pairing.{Paired, Unpaired, IsNext, AreNext, Ending, bad}}
use Rattle.nntp_pair.{specs.Pairing.{IsPairing, asked_at, asked_of, responses_of, streams}, proofs.{PairLemmas.{lines-few}, NextLemmas.{one-next, next-no-end}}}
use Rattle.nntp_pair.proofs.{NextLemmas.{next-shorter}, PassedLemmas.{one-passed, passed-ends, passed-shorter}}
use Rattle.nntp_theory.specs.{Classes.{visible_from}, Inner.Given.{weight}, Reading.{Judged, Accepted, Refused, Unspelled, accepted_of, accepted_with}}
use Rattle.nntp_theory.{specs.Reading.{IsJudged, AreJudged, IsReadingBy}, proofs.Session.PairsGoOn.{visible_next, as_many, ends}}

-- ---- those that are accepted

-- those that were accepted before, and those of the answers
abbrev pub all_accepted : List Paired → List Judged → List Paired
all_accepted past [] = past
all_accepted past (answer ∷ answers) = all_accepted (accepted_with past answer) answers

pub accepted_behind : (past : List Paired) (answers : List Judged) → all_accepted past answers ≡ past ++ accepted_of answers
accepted_behind past [] = sym (append-nil past)
accepted_behind past (answer ∷ answers) = grind (arith, append_assoc, accepted_behind (accepted_with past answer) answers)

-- with one more answer these are accepted
pub accepted_push : (past : List Paired) (answers : List Judged) (answer : Judged) → all_accepted past (answers ++ answer ∷ []) ≡ accepted_with (all_accepted past answers) answer
accepted_push past [] answer = refl
accepted_push past (x ∷ answers) answer = accepted_push (accepted_with past x) answers answer

-- no more are accepted than there are answers
pub accepted_few : (past : List Paired) (answers : List Judged) → length (all_accepted past answers) ≤ length past + length answers
accepted_few past [] = omega arith
accepted_few past (answer ∷ answers) = grind (arith, length-append, accepted_few (accepted_with past answer) answers)

-- the visible state that those that were accepted leave
abbrev pub visible_behind : List Paired → Visible
visible_behind past = visible_from start.visible (asked_of past) (responses_of past)

weight_append : (xs ys : List Response) → weight (xs ++ ys) ≡ weight xs + weight ys
weight_append [] ys = omega arith
weight_append (x ∷ xs) ys = let rest = weight_append xs ys in omega (arith, rest)

-- a pair weighs no more than the octets that it takes
pub weight_next : (past : List Paired) (a b : Unpaired) (pair : Paired) → IsNext a pair b → weight (responses_of (past ++ pair ∷ [])) + length b.server ≤ weight (responses_of past) + length a.server
weight_next past a b pair next =
    grind (arith, lines-few (asked_at pair.place) pair.response (frame_octets pair.initial next.answered.block) next.answered.spells, length-append, map-append, weight_append)

module _ (Stand : List Paired → Type 0) where
  -- ---- one answer

  -- it takes octets
  pub judged_shorter : (past : List Paired) (a b : Unpaired) (answer : Judged) → IsJudged Stand past a answer b → length b.server < length a.server
  judged_shorter past a b answer h = grind (arith, common_steps, next-shorter, passed-shorter)

  -- behind the same ones it is determined
  pub one_judged : (past : List Paired) (a b c : Unpaired) (x y : Judged) → IsJudged Stand past a x b → IsJudged Stand past a y c → (x ≡ y) × (b ≡ c)
  one_judged past a b c (Accepted x) (Accepted y) (n, h) (m, k) = let one = one-next a b c x y n m in (ap Accepted one.0, one.1)
  one_judged past a b c (Refused x) (Refused y) (n, h) (m, k) = let one = one-next a b c x y n m in (ap Refused one.0, one.1)
  one_judged past a b c (Accepted x) (Refused y) (n, h) (m, none) = absurd (none (subst (λ pair. Stand (past ++ pair ∷ [])) (one-next a b c x y n m).0 h))
  one_judged past a b c (Refused x) (Accepted y) (n, none) (m, h) = absurd (none (subst (λ pair. Stand (past ++ pair ∷ [])) (sym (one-next a b c x y n m).0) h))
  one_judged past a b c (Unspelled i place initial block) (Unspelled j also other next) (at, passed) (to, second) = grind (arith, one-passed a b c place also initial other block next passed second)
  one_judged past a b c x (Unspelled i place initial block) h (at, passed) = absurd (next-no-end (bad PairMalformed) a b _ h.0 (passed-ends a c place initial block passed))
  one_judged past a b c (Unspelled i place initial block) y (at, passed) k = absurd (next-no-end (bad PairMalformed) a c _ k.0 (passed-ends a b place initial block passed))

  -- ---- several answers

  -- with one more answer
  pub judged_push : (past : List Paired) (a b c : Unpaired) (answers : List Judged) (answer : Judged)
      → AreJudged Stand past a answers b → IsJudged Stand (all_accepted past answers) b answer c → AreJudged Stand past a (answers ++ answer ∷ []) c
  judged_push past a b c [] answer same is = grind arith
  judged_push past a b c (x ∷ answers) answer (m, first, more) is = (m, first, judged_push (accepted_with past x) m b c answers answer more is)

  -- the index counts the answers
  pub judged_count : (past : List Paired) (a b : Unpaired) (answers : List Judged) → AreJudged Stand past a answers b → b.index ≡ a.index + length answers
  judged_count past a b [] same = let e = ap (λ (u : Unpaired). u.index) same in omega (arith, e)
  judged_count past a b (answer ∷ answers) (m, first, more) = grind (arith, judged_count (accepted_with past answer) m b answers more)

  -- those that are accepted stand
  pub accepted_stand : (past : List Paired) (a b : Unpaired) (answers : List Judged) → Stand past → AreJudged Stand past a answers b → Stand (all_accepted past answers)
  accepted_stand past a b [] stand same = stand
  accepted_stand past a b (answer ∷ answers) stand (m, first, more) = accepted_stand (accepted_with past answer) m b answers (grind arith) more

  -- and weigh no more than the octets that they take
  pub accepted_weight : (past : List Paired) (a b : Unpaired) (answers : List Judged)
      → AreJudged Stand past a answers b → weight (responses_of (all_accepted past answers)) + length b.server ≤ weight (responses_of past) + length a.server
  accepted_weight past a b [] same = let e = ap (λ (u : Unpaired). length u.server) same in omega (arith, e)
  accepted_weight past a b (Accepted pair ∷ answers) (m, (next, h), more) = omega (arith, accepted_weight (past ++ pair ∷ []) m b answers more, weight_next past a m pair next)
  accepted_weight past a b (answer ∷ answers) (m, first, more) = omega (arith, accepted_weight past m b answers more, judged_shorter past a m answer first)

  -- so those of both streams weigh no more than the server's octets
  pub accepted_light : (client : ClientStream) (server : List ℕ) (answers : List Judged) (left : Unpaired) → AreJudged Stand [] (streams client server) answers left
      → weight (responses_of (accepted_of answers)) ≤ length server
  accepted_light client server answers left judged = search (rules, accepted_weight, accepted_behind)

  -- where the connection is open, none of those that were accepted closed it
  pub accepted_open : (past : List Paired) (a b : Unpaired) (answers : List Judged)
      → (a.is_closed ≡ false → (visible_behind past).closed ≡ false) → AreJudged Stand past a answers b → b.is_closed ≡ false → (visible_behind (all_accepted past answers)).closed ≡ false
  accepted_open past a b [] before same still = before (ap (λ (u : Unpaired). u.is_closed) same ∙ still)
  accepted_open past a b (answer ∷ answers) before (m, first, more) still =
      accepted_open (accepted_with past answer) m b answers (λ e. search (rules, ends, visible_next, as_many, after-closes)) more still

  -- ---- answers that are all accepted

  -- they are pairs, one after the other, which stand; then this is left
  pub record AcceptedFirst (past : List Paired) (a : Unpaired) (pairs : List Paired) (more : List Judged) (c : Unpaired) : Type 0 where
    pub between : Unpaired
    pub paired : AreNext a pairs between
    pub stand : Stand (past ++ pairs)
    pub rest : AreJudged Stand (past ++ pairs) between more c

  pub accepted_first : (past : List Paired) (a c : Unpaired) (pairs : List Paired) (more : List Judged) → Stand past
      → AreJudged Stand past a (map Accepted pairs ++ more) c → AcceptedFirst past a pairs more c
  accepted_first past a c [] more stand judged = search rules
  accepted_first past a c (pair ∷ pairs) more stand (m, (next, h), judged) = search (rules, append_assoc, accepted_first (past ++ pair ∷ []) m c pairs more h judged)

  -- the pairing ends as the reading does
  pub all_paired : (client : ClientStream) (server : List ℕ) (pairs : List Paired) (ending : Ending) → Stand [] → IsReadingBy Stand client server (map Accepted pairs) ending
      → IsPairing client server pairs ending × Stand pairs
  all_paired client server pairs ending none reading = grind (arith, append-nil (map Accepted pairs), accepted_first, ends)
