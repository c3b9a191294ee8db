-- What the pairing of two streams, and whether some spool permits its responses, say of the streams.
use Rattle.std.proofs.{Common.{◌≡◌, ℕ, Bool, false, List, [], ◌∷◌, ◌++◌, length, Some, refl, sym, ◌∙◌, arith}, lemmas.Bool.{true≢false}}
use Rattle.nntp_wire.{specs.{Frame.{frame_octets}, Session.{prompts_of, ClientStream}}, proofs.SpellsDecided.{one-spelling}}
use Rattle.nntp_pair.specs.Pairing.{Paired, Unpaired, IsNext, AreNext, end, bad, IsPairing, responses_of, asked_at, streams}
use Rattle.nntp_pair.{specs.{declared.class.PairClass.{PairClass}, Classes.{class_of}}, proofs.SpelledLemmas.{places-prompts, pairs-spelled}}
use Rattle.nntp_article.specs.Session.{Spool.{Spool, IsSpool}, Machine.{Run, start, fits}, Explains.{Explains, ExplainsFirst, BadAmong}}
use Rattle.nntp_article.specs.declared.session.profile.Profile.{Profile}
use Rattle.nntp_theory.proofs.Streams.{ClassAtTheEnd.{first_asked, paired_up, count, has_class, end_has_class, explained_pairs}, OneClass.{one_more, run_fits}}
use Rattle.nntp_theory.{proofs.Streams.OneClass.{contradicted}, specs.{Classes.{visible_from, asked_next, HasClass, class_by}, Inner.Permits.{SomePermits}}}

-- where the pairing comes to its end, who permits its responses explains both streams
pub explained_end : (profile : Profile) (S : Spool) (client : ClientStream) (server : List ℕ) (pairs : List Paired) (unanswered : ℕ) → IsPairing client server pairs (end unanswered)
    → IsSpool profile.limit S → Run profile S start (prompts_of client) (responses_of pairs) → Explains profile S client server (length pairs)
explained_end profile S client server pairs unanswered pairing spool run = grind (arith, explained_pairs)

-- no spool explains an answer where the pairing ends at octets
no_more : (profile : Profile) (client : ClientStream) (server : List ℕ) (k : ℕ) (class : PairClass) → HasClass profile client server k (class_of class) → (T : Spool)
    → ExplainsFirst profile T client server k → ⊥
no_more profile client server k class h T (more, y) = grind (arith, contradicted profile client server k (class_of class) h T more y)

-- where the pairing ends at octets, and one of the spools with P permits its responses, the answer there is bad among these
pub bad_end : (P : Spool → Type 0) (profile : Profile) (client : ClientStream) (server : List ℕ) (pairs : List Paired) (class : PairClass) → IsPairing client server pairs (bad class)
    → (S : Spool) → IsSpool profile.limit S → P S → Run profile S start (prompts_of client) (responses_of pairs)
    → BadAmong P profile client server (length pairs) × HasClass profile client server (length pairs) (class_of class)
bad_end P profile client server pairs class pairing S spool p run = search (arith, end_has_class profile client server pairs pairing.left class pairing.paired pairing.ends.1, explained_pairs, no_more)

-- ---- an answer that is paired, and that no spool permits together with those before

-- below, a pair comes next
module _ (profile : Profile) (client : ClientStream) (server : List ℕ) (pairs : List Paired) (pair : Paired) (before after : Unpaired)
    (paired : AreNext (streams client server) pairs before) (next : IsNext before pair after) where
  -- the class is by whether its response fits
  pub answer_has_class : (b : Bool) → fits profile (visible_from start.visible (prompts_of client) (responses_of pairs))
      (asked_at pair.place) pair.response ≡ b → HasClass profile client server (length pairs) (class_by b)
  answer_has_class b e = has_class profile client server pairs before (class_by b) paired (grind arith)

  -- what is asked there
  asked_is : asked_next (prompts_of client) (responses_of pairs) ≡ Some (asked_at pair.place)
  asked_is = grind (arith, paired_up start.visible (streams client server) before pairs refl paired, places-prompts, first_asked)

  -- an answer that doesn't fit is permitted by no spool
  pub unfitting : fits profile (visible_from start.visible (prompts_of client) (responses_of pairs)) (asked_at pair.place) pair.response ≡ false
      → SomePermits profile (prompts_of client) (responses_of pairs ++ pair.response ∷ []) → ⊥
  unfitting e (S, spool, run) = true≢false (sym (run_fits profile S start (prompts_of client) (responses_of pairs) (asked_at pair.place) pair.response asked_is run) ∙ e)

  -- who explains one answer more permits this one
  permitted : (T : Spool) → ExplainsFirst profile T client server (length pairs) → Run profile T start (prompts_of client) (responses_of pairs ++ pair.response ∷ [])
  permitted T (more, y) = let spelled = (pairs-spelled client server pairs before paired).0 in
      let a = count pairs in
      let m = one_more (prompts_of client) (responses_of pairs) y.answers spelled.0 y.octets before.server more spelled.1 y.spelled (sym spelled.2 ∙ y.whole) (omega arith) in
      grind (arith, asked_is, one-spelling (asked_at pair.place) m.response pair.response m.front (frame_octets pair.initial next.answered.block) more after.server)

  -- the answer is bad among the spools with P, if none of them permits it behind those that one of them permits
  pub bad_answer : (P : Spool → Type 0) (S : Spool) → IsSpool profile.limit S → P S → Run profile S start (prompts_of client) (responses_of pairs)
      → ((T : Spool) → IsSpool profile.limit T → P T → Run profile T start (prompts_of client) (responses_of pairs ++ pair.response ∷ []) → ⊥) → BadAmong P profile client server (length pairs)
  bad_answer P S spool p run none =
      let x = explained_pairs profile S client server pairs before paired spool run in
      ((S, before.server, p, x, λ e. grind arith), λ T q x. none T x.1.is_spool q (permitted T x))
