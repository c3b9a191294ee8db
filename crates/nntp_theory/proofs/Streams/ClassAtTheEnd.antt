-- Where the pairing of two streams ends at octets, they have the class of that end.
use Rattle.std.proofs.{Common.{◌≡◌, ◌↔◌, ℕ, List, [], ◌∷◌, length, map, Option, None, Some, refl, sym, ◌∙◌, arith}, lemmas.List.{length-map}}
use Rattle.nntp_wire.specs.{Answer.{Asked}, Session.{prompts_of, ClientStream}}
use Rattle.nntp_pair.specs.{Pairing.{Paired, Unpaired, AreNext, IsBad, responses_of, asked_at, streams, Place}, Inner.Pairing.{IsLasting}}
use Rattle.nntp_pair.{specs.{declared.class.{PairClass.{PairClass}, Class.{Class}}, Classes.{class_of}}, proofs.SpelledLemmas.{places-prompts, pairs-spelled}}
use Rattle.nntp_article.specs.Session.{Spool.{Spool, IsSpool}, Machine.{Visible, start, visible_after, Run}, Explains.{ExplainsUpTo}}
use Rattle.nntp_article.{specs.declared.session.profile.Profile.{Profile}, proofs.SessionLemmas.ClosingAnswers.{after-closes}}
use Rattle.nntp_theory.{specs.Classes.{visible_from, asked_next, AnswersFirst, IsClass, HasClass, IsSettled}, proofs.Streams.OneClass.{closed_before}}

-- what is asked at the first of the places
abbrev pub first_asked : List Place → Option Asked
first_asked [] = None
first_asked (place ∷ places) = Some (asked_at place)

-- ---- pairs

-- what pairs leave
pub record PairedUp (v : Visible) (before left : Unpaired) (pairs : List Paired) : Type 0 where
  pub closed : left.is_closed ≡ (visible_from v (map asked_at before.places) (responses_of pairs)).closed
  pub next : asked_next (map asked_at before.places) (responses_of pairs) ≡ first_asked left.places

pub paired_up : (v : Visible) (before left : Unpaired) (pairs : List Paired) → before.is_closed ≡ v.closed → AreNext before pairs left → PairedUp v before left pairs
paired_up v before left [] same e = grind arith
paired_up v before left (pair ∷ pairs) same (between, first, more) =
    grind (arith, after-closes v (asked_at pair.place) pair.response (sym same ∙ first.is_open), paired_up (visible_after v (asked_at pair.place) pair.response) between left pairs)

-- ---- the end

-- there is a response for each
pub count : (pairs : List Paired) → length (responses_of pairs) ≡ length pairs
count pairs = length-map pairs (λ pair. pair.response)

-- pairs are the first answers of both streams
pub pairs_before : (client : ClientStream) (server : List ℕ) (pairs : List Paired) (left : Unpaired) → AreNext (streams client server) pairs left → AnswersFirst client server (length pairs)
pairs_before client server pairs left paired = grind (arith, pairs-spelled, count)

-- and leave the connection open or closed, as these do
pub pairs_close : (client : ClientStream) (server : List ℕ) (pairs : List Paired) (left : Unpaired) → AreNext (streams client server) pairs left
    → left.is_closed ≡ (visible_from start.visible (prompts_of client) (responses_of pairs)).closed
pairs_close client server pairs left paired = grind (arith, paired_up start.visible (streams client server) left pairs, places-prompts client)

-- so the octets that they leave are settled where the end of a pairing there stays
pub settled_lasts : (client : ClientStream) (server : List ℕ) (pairs : List Paired) (left : Unpaired) (class : PairClass) → AreNext (streams client server) pairs left
    → IsSettled client server (length pairs) (class_of class) ↔ IsLasting class left
unfolding pairs_before
settled_lasts client server pairs left class paired =
    let before = pairs_before client server pairs left paired in
    grind (arith, before, pairs_close client server pairs left paired, closed_before client server (length pairs) before)

-- the octets that pairs leave have the class that they have where they stand
pub has_class : (profile : Profile) (client : ClientStream) (server : List ℕ) (pairs : List Paired) (left : Unpaired) (class : Class) → AreNext (streams client server) pairs left
    → IsClass left.is_closed profile (visible_from start.visible (prompts_of client) (responses_of pairs)) (first_asked left.places) left.server class
    → HasClass profile client server (length pairs) class
unfolding pairs_before
has_class profile client server pairs left class paired h =
    let ps = places-prompts client in
    record { before = pairs_before client server pairs left paired; is_class = grind (arith, pairs_close, paired_up start.visible (streams client server) left pairs refl paired) }

pub end_has_class : (profile : Profile) (client : ClientStream) (server : List ℕ) (pairs : List Paired) (left : Unpaired) (class : PairClass) → AreNext (streams client server) pairs left
    → IsBad class left → HasClass profile client server (length pairs) (class_of class)
end_has_class profile client server pairs left class paired h = has_class profile client server pairs left (class_of class) paired (grind arith)

-- who permits the responses of the pairs explains them
pub explained_pairs : (profile : Profile) (S : Spool) (client : ClientStream) (server : List ℕ) (pairs : List Paired) (left : Unpaired) → AreNext (streams client server) pairs left
    → IsSpool profile.limit S → Run profile S start (prompts_of client) (responses_of pairs) → ExplainsUpTo profile S client server (length pairs) left.server
unfolding pairs_before
explained_pairs profile S client server pairs left paired spool run = grind (arith, pairs_before, count, pairs-spelled, length-map)
