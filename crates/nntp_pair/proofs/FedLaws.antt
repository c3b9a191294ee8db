-- What a feed tells is determined, stays, and is the pairing of what came.
use Rattle.std.proofs.{Common.{arith, ◌≡◌, ◌≢◌, ℕ, List, [], length, true, false, refl, sym, ◌∙◌, ap, subst}, lemmas.{List.{append-nil}, Bool.{false≢true}}}
use Rattle.std.specs.Prelude.{nat_lt}
use Rattle.nntp_pair.specs.{declared.{class.PairClass.{PairClass}, peek.Peek.{Peek}}, Pairing.{Paired, IsNext, AreNext, IsPairing, end, bad, streams}}
use Rattle.nntp_pair.specs.Inner.{Pairing.{with_more}, Feeding.{Fed, IsFed, IsPeek, IsEnding, left_of, with_octets}, Searching.{left_from}}
use Rattle.nntp_pair.proofs.{NextLemmas.{one-next, next-no-end}, PairingLemmas.{index-counts, next-more, bad-stays, some-stay}, FeedLemmas.{places-more}}
use Rattle.nntp_wire.specs.Session.{ClientStream, taken}
use Rattle.nntp_pair.specs.declared.peek.Peek.TheVariants as peek
use Rattle.nntp_pair.specs.declared.ending.Ending.TheVariants as ending

-- a feed that has failed tells nothing else
failed : (fed : Fed) → fed.has_failed ≡ false → fed.has_failed ≡ true → ⊥
failed fed sound has = false≢true (sym sound ∙ has)

pub one-peek : (fed : Fed) (p q : Peek) → IsPeek fed p → IsPeek fed q → p ≡ q
one-peek fed (peek.Whole x) (peek.Whole y) (a, b, next) (d, e, also) = ap peek.Whole (one-next (left_of fed) b e x y next also).0
one-peek fed (peek.Whole x) peek.Nothing (a, b, next) (d, none, e) = absurd (none (x, b, next))
one-peek fed (peek.Whole x) (peek.Bad n c) (a, b, next) (d, e, ends) = absurd (next-no-end (bad c) (left_of fed) b x next ends.0)
one-peek fed (peek.Whole x) peek.Failed (a, b, next) has = absurd (failed fed a has)
one-peek fed peek.Nothing q p q2 = search arith
one-peek fed (peek.Bad n c) (peek.Whole y) (d, e, ends) (a, b, next) = absurd (next-no-end (bad c) (left_of fed) b y next ends.0)
one-peek fed p q has has2 = grind arith

-- what is left with more octets of both streams
pub left-more : (fed : Fed) (client_more server_more : List ℕ) → left_of (with_octets client_more server_more fed) ≡ with_more
    (places-more (nat_lt 0 fed.index) fed.client client_more).0 server_more (left_of fed)
left-more fed client_more server_more = grind arith

pub peek-stays : (fed : Fed) (client_more server_more : List ℕ) (p : Peek) → IsPeek fed p → p ≢ peek.Nothing → IsPeek (with_octets client_more server_more fed) p
peek-stays fed client_more server_more (peek.Whole x) (sound, behind, next) some =
    let later = (places-more (nat_lt 0 fed.index) fed.client client_more).0 in
    let after = next-more later server_more (left_of fed) behind x next in
    (sound, with_more later server_more behind, subst (λ left. IsNext left x (with_more later server_more behind)) (sym (left-more fed client_more server_more)) after)
peek-stays fed client_more server_more peek.Nothing told some = absurd (some refl)
peek-stays fed client_more server_more (peek.Bad n c) (sound, same, ends) some =
    let later = (places-more (nat_lt 0 fed.index) fed.client client_more).0 in
    let bad_still = bad-stays c later server_more (left_of fed) ends.1 ends.0.1 in grind (arith, some-stay, left-more)
peek-stays fed client_more server_more peek.Failed told some = told

pub fed-paired : (fed : Fed) (client : ClientStream) (server : List ℕ) (pairs : List Paired) → IsFed fed client server pairs
    → AreNext (streams client server) pairs (left_of fed) × (fed.index ≡ length pairs)
fed-paired fed client server pairs is = (run, index-counts client server pairs (left_of fed) run) where
  run : AreNext (streams client server) pairs (left_of fed)
  run =
      subst (λ (x : (List ℕ × List ℕ) × (List ℕ × List ℕ)). AreNext (streams (taken client.overviews x.0.0) x.0.1) pairs
      (left_from fed.index fed.is_closed (taken fed.client.overviews x.1.0) x.1.1))
      (λ i. ((append-nil client.octets i, append-nil server i), (append-nil fed.client.octets i, append-nil fed.server i))) (is.paired [] [])

pub end-pairing : (fed : Fed) (client : ClientStream) (server : List ℕ) (pairs : List Paired) (unanswered : ℕ) → IsFed fed client server pairs
    → IsEnding fed (ending.End unanswered) → IsPairing client server pairs (end unanswered)
end-pairing fed client server pairs unanswered is (sound, ends) = record { left = left_of fed; paired = (fed-paired fed client server pairs is).0; ends = ends }

pub bad-pairing : (fed : Fed) (client : ClientStream) (server : List ℕ) (pairs : List Paired) (index : ℕ) (class : PairClass) → IsFed fed client server pairs → IsEnding fed (ending.Bad index class)
    → IsPairing client server pairs (bad class) × (index ≡ length pairs)
bad-pairing fed client server pairs index class is (sound, same, ends) =
    let paired = fed-paired fed client server pairs is in
    (record { left = left_of fed; paired = paired.0; ends = ends }, same ∙ paired.1)
