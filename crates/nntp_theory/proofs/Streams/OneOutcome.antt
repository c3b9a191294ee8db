-- Two streams have one outcome; the ways in which a pairing leads to it.
use Rattle.std.{specs.Prelude.{⊤}, proofs.Common.{◌≡◌, ℕ, ◌<◌, ◌^◌, ◌↔◌, false, IsTrue, List, [], ◌∷◌, ◌++◌, length, inl, inr, refl, sym, ap, subst, ◌∙◌}}
use Rattle.std.proofs.{Common.{arith, length-append}, lemmas.{Bool.{true≢false}, List.{map-append}}}
use Rattle.nntp_wire.specs.Session.{prompts_of, ClientStream}
use Rattle.nntp_pair.specs.{declared.class.{Class.TheVariants.{OutOfPlace}, PairClass.{PairClass}}, Classes.{class_of}, Pairing.{Paired, Unpaired, IsNext}}
use Rattle.nntp_pair.{specs.Pairing.{AreNext, end, bad, IsPairing, responses_of, asked_of, asked_at, streams}, proofs.PairingLemmas.{one-run, AreNext-push}}
use Rattle.nntp_article.specs.{declared.session.profile.Profile.{Profile}, Session.{Spool.{Spool, IsSpool}, Machine.{Run, start, fits, Visible}}}
use Rattle.nntp_article.specs.Session.Explains.{Explains, BadAmong}
use Rattle.nntp_theory.proofs.Given.{GivenPermits.{stands, given_permits, given_is_least}, SessionsByFacts.{given_exists}, OneGivenSpool.{given_once}}
use Rattle.nntp_theory.proofs.Streams.{OneClass.{before_bad, class_there, one_class}, ExplainedOrBad.{explained_or_bad, explained_not_bad, bad_once}}
use Rattle.nntp_theory.proofs.Streams.{PairedStreams.{explained_end, bad_end, bad_answer, answer_has_class, unfitting}, ExplainedPairs.{by_pairs, by_all_pairs}}
use Rattle.nntp_theory.proofs.Session.OneMoreAnswer.{size_by_octets, facts_by_pairs, pairs_run, pairs_permitted, prompts_of_pairs, as_few}
use Rattle.nntp_theory.{proofs.Session.LaterPrompts.{visible_longer}, specs.{Inner.{Permits.{SomePermits}, Outcome.{is_yes}, Given.{size}}, Outcome.{Outcome}}}
use Rattle.nntp_theory.specs.{Outcome.{Yes, No, IsOutcome, IsLeastExplanation}, Given.{IsGiven, facts_of_session}, Classes.{HasClass, class_by, visible_from}}

-- ---- one outcome

-- explanations of two streams have the same answers
pub same_answers : (profile : Profile) (S T : Spool) (client : ClientStream) (server : List ℕ) (n m : ℕ) (x : Explains profile S client server n) (y : Explains profile T client server m)
    → x.answers ≡ y.answers
same_answers profile S T client server n m x y = let p = by_pairs profile S client server n [] x in
    let q = by_pairs profile T client server m [] y in
    grind (arith, one-run p.0 q.0 (streams client server) p.1 q.1 (end _) (end _) p.2 (p.4, refl) q.2 (q.4, refl))

-- what they say is bounded by the octets
few_facts : (profile : Profile) (S : Spool) (client : ClientStream) (server : List ℕ) (n : ℕ) (x : Explains profile S client server n)
    → length server < 2 ^ 210 → size (facts_of_session profile.marks (prompts_of client) x.answers) < 2 ^ 210
few_facts profile S client server n x small = grind (arith, size_by_octets profile.marks (prompts_of client) x.answers x.octets x.spelled, length-append)

-- where some spool explains two streams, the given one is their least explanation
pub given_explains : (profile : Profile) (S G : Spool) (client : ClientStream) (server : List ℕ) (n : ℕ) (x : Explains profile S client server n)
    → size (facts_of_session profile.marks (prompts_of client) x.answers) < 2 ^ 210
    → IsGiven (facts_of_session profile.marks (prompts_of client) x.answers) G → IsLeastExplanation profile client server G n
given_explains profile S G client server n x small given =
    let s = stands profile S (prompts_of client) x.answers x.is_spool x.run in
    let g = given_permits profile G (prompts_of client) x.answers s.0 s.1 small given in
    record {
      explains = record { is_spool = g.0; answers = x.answers; octets = x.octets; count = x.count; run = g.1; spelled = x.spelled; whole = x.whole };
      given = given;
      least = λ T m y. grind (arith, same_answers profile T S client server m n y x, given_is_least profile T G (prompts_of client) x.answers y.is_spool);
    }

module _ (profile : Profile) (client : ClientStream) (server : List ℕ) where
  -- two streams have one outcome at most
  pub one_outcome : (h k : Outcome) → IsOutcome profile client server h → IsOutcome profile client server k → h ≡ k
  one_outcome (Yes S n) (Yes T m) x y = grind (arith, same_answers profile S T client server n m x.explains y.explains, given_once)
  one_outcome (No k c) (No j d) x y = grind (arith, bad_once (λ S. ⊤) profile client server k j x.0 y.0, one_class profile client server j c d)
  one_outcome h k x y = search (arith, explained_not_bad)

  -- and they have one
  pub some_outcome : length server < 2 ^ 210 → (h : Outcome) × IsOutcome profile client server h
  some_outcome small = elim (explained_or_bad profile client server small) [
    | inl (S, n, x) ↦
        let few = few_facts profile S client server n x small in
        let given = given_exists profile (prompts_of client) x.answers (stands profile S (prompts_of client) x.answers x.is_spool x.run).0 few in
        (Yes _ n, given_explains profile S _ client server n x few given)
    | inr (k, is_bad) ↦ let c = class_there profile client server k (before_bad (λ S. ⊤) profile client server k is_bad) in (No k c.0, (is_bad, c.1))
  ]

  -- it is a yes exactly if some spool explains the streams
  pub yes_explained : (h : Outcome) → IsOutcome profile client server h → IsTrue (is_yes h) ↔ ((S : Spool) × (n : ℕ) × Explains profile S client server n)
  yes_explained (Yes S n) x = (λ t. (S, n, x.explains), λ e. refl)
  yes_explained (No k class) x = (λ t. absurd (true≢false (sym t)), λ e. absurd (explained_not_bad profile e.0 client server e.1 k e.2 x.0))

  -- ---- the ways to it

  -- at the end of the server's octets
  pub outcome_at_end : (pairs : List Paired) (unanswered : ℕ) (G : Spool) → size (facts_of_session profile.marks (asked_of pairs) (responses_of pairs)) < 2 ^ 210
      → IsPairing client server pairs (end unanswered) → SomePermits profile (asked_of pairs) (responses_of pairs) → IsGiven (facts_of_session profile.marks (asked_of pairs) (responses_of pairs)) G
      → IsOutcome profile client server (Yes G (length pairs))
  outcome_at_end pairs unanswered G small pairing permitted given =
      let p = (pairs_permitted profile client server pairs pairing.left pairing.paired).1 permitted in
      let x = explained_end profile p.0 client server pairs unanswered pairing p.1 p.2 in
      let answers : responses_of pairs ≡ x.answers = (by_all_pairs profile p.0 client server (length pairs) pairs (end unanswered) pairing x).0 in
      let facts = sym (facts_by_pairs profile.marks client server pairs pairing.left pairing.paired) ∙ ap (facts_of_session profile.marks (prompts_of client)) answers in
      given_explains profile p.0 G client server (length pairs) x (subst (λ facts. size facts < 2 ^ 210) facts small) (subst (λ facts. IsGiven facts G) facts given)

  -- at octets that answer nothing
  pub outcome_at_octets : (pairs : List Paired) (class : PairClass) → IsPairing client server pairs (bad class)
      → SomePermits profile (asked_of pairs) (responses_of pairs) → IsOutcome profile client server (No (length pairs) (class_of class))
  outcome_at_octets pairs class pairing (S, spool, run) =
      bad_end (λ S. ⊤) profile client server pairs class pairing S spool tt ((pairs_run profile S client server pairs pairing.left pairing.paired).1 run)

-- below, a pair comes next
module _ (profile : Profile) (client : ClientStream) (server : List ℕ) (pairs : List Paired) (pair : Paired) (before after : Unpaired)
    (paired : AreNext (streams client server) pairs before) (next : IsNext before pair after) where
  -- the visible state before it
  abbrev v : Visible
  v = visible_from start.visible (asked_of pairs) (responses_of pairs)

  -- is the same behind all prompts
  same_visible : visible_from start.visible (prompts_of client) (responses_of pairs) ≡ v
  same_visible = grind (arith, prompts_of_pairs, visible_longer, as_few)

  -- a response that none of the spools with P permits behind those that one of them permits is bad among these
  pub bad_response : (P : Spool → Type 0) (S : Spool) → IsSpool profile.limit S → P S → Run profile S start (asked_of pairs) (responses_of pairs)
      → ((T : Spool) → IsSpool profile.limit T → P T → Run profile T start (asked_of (pairs ++ pair ∷ [])) (responses_of (pairs ++ pair ∷ [])) → ⊥)
      → BadAmong P profile client server (length pairs) × HasClass profile client server (length pairs) (class_by (fits profile v (asked_at pair.place) pair.response))
  bad_response P S spool p run none =
      let longer = AreNext-push pairs (streams client server) before after pair paired next in
      let bad = bad_answer profile client server pairs pair before after paired next P S spool p in
      grind (arith, bad, pairs_run, answer_has_class profile client server pairs pair before after paired next _ refl, same_visible, map-append)

  -- so at one that no spool permits behind them the outcome is a no
  pub outcome_at_response : SomePermits profile (asked_of pairs) (responses_of pairs) → (SomePermits profile (asked_of (pairs ++ pair ∷ [])) (responses_of (pairs ++ pair ∷ [])) → ⊥)
      → IsOutcome profile client server (No (length pairs) (class_by (fits profile v (asked_at pair.place) pair.response)))
  outcome_at_response (S, spool, run) none = bad_response (λ S. ⊤) S spool tt run (λ T spool u run. none (T, spool, run))

  -- one that doesn't fit is such
  pub outcome_at_unfitting : SomePermits profile (asked_of pairs) (responses_of pairs) → fits profile v (asked_at pair.place) pair.response ≡ false
      → IsOutcome profile client server (No (length pairs) OutOfPlace)
  outcome_at_unfitting (S, spool, run) e =
      let unfit = ap (λ v. fits profile v (asked_at pair.place) pair.response) same_visible ∙ e in
      let bad = bad_answer profile client server pairs pair before after paired next (λ S. ⊤) S spool tt ((pairs_run profile S client server pairs before paired).1 run) in
      let none = unfitting profile client server pairs pair before after paired next unfit in
      (bad (λ T spool u run. none (T, spool, run)), answer_has_class profile client server pairs pair before after paired next false unfit)
